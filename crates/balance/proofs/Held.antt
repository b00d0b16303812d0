-- What an account holds of the plants, the contracts and the quarters that were accepted. Assumes nothing.
use Rattle.std.proofs.Common.{◌≡◌, ℕ, ◌+◌, ◌-◌, ◌<◌, Bool, true, false, cond, eqb, ◌≢◌, List, [], ◌∷◌, ◌++◌, length, get_or, set, sym, refl, ap, ◌∙◌, ⊎_elim, arith, length-append, get_or-set_other, get_or-set_same}
use Rattle.std.proofs.lemmas.List.{length-set, get_or_past, get_or_append_left, get_or_push}
use Rattle.std.proofs.lemmas.List.Sums.{sum_by-set, sum_by-append}
use Rattle.std.proofs.lemmas.Bool.{cases_eq, cases_lt, cond-true, cond-false, eq-eqb, ne_eqb, eqb-true, eqb-false}
use Rattle.options.specs.declared.amounts.Amounts.{Amounts}
use Rattle.site.specs.declared.plant.Plant.{Plant}
use Rattle.site.specs.declared.plant.PlantEntry.{PlantEntry}
use Rattle.site.specs.declared.register.Register.{Register}
use Rattle.site.specs.Plants.{no_plant, spelled}
use Rattle.site.specs.Registers.{Added}
use Rattle.account.specs.declared.contract.Contract.{Contract}
use Rattle.account.specs.declared.ledger.Ledger.{Ledger}
use Rattle.account.specs.SupplyContracts.{no_contract, draw_of}
use Rattle.account.specs.Ledgers.{Begun, Booked, drawing}
use Rattle.balance.specs.Brought.{Reading, drawn, drawn_under, at}
use Rattle.balance.specs.Balances.{no_entry}

-- a row after a write, at each place
wrote : {X : Type 0} (xs : List X) (i : ℕ) (x d : X) → i < length xs → (k : ℕ) → get_or (set xs i x) k d ≡ cond (eqb k i) x (get_or xs k d)
wrote xs i x d there k = ⊎_elim
    (λ e. ap (λ j. get_or (set xs i x) j d) e ∙ get_or-set_same xs i x d there ∙ sym (cond-true (eqb k i) x (get_or xs k d) (eq-eqb k i e)))
    (λ ne. get_or-set_other xs i k x d ne ∙ sym (cond-false (eqb k i) x (get_or xs k d) (ne_eqb k i ne)))
    (cases_eq k i)

-- a row after one more, at each place
pushed : {X : Type 0} (xs : List X) (x d : X) (k : ℕ) → get_or (xs ++ x ∷ []) k d ≡ cond (eqb k (length xs)) x (get_or xs k d)
pushed xs x d k = ⊎_elim
    (λ e. ap (λ j. get_or (xs ++ x ∷ []) j d) e ∙ get_or_push xs x d (length xs) refl ∙ sym (cond-true (eqb k (length xs)) x (get_or xs k d) (eq-eqb k (length xs) e)))
    (λ ne. elsewhere ne ∙ sym (cond-false (eqb k (length xs)) x (get_or xs k d) (ne_eqb k (length xs) ne)))
    (cases_eq k (length xs))
  where
    elsewhere : k ≢ length xs → get_or (xs ++ x ∷ []) k d ≡ get_or xs k d
    elsewhere ne = ⊎_elim
        (λ before. get_or_append_left xs (x ∷ []) d k before)
        (λ past. get_or_past (xs ++ x ∷ []) k d (omega (arith, length-append xs (x ∷ []), past, ne)) ∙ sym (get_or_past xs k d past))
        (cases_lt k (length xs))

-- the register has these plants, each at its place
pub record Registered (ps : List PlantEntry) (g : Register) : Type 0 where
  pub count : length g.plants.items ≡ length ps
  pub each : (k : ℕ) → k < length g.plants.items → get_or g.plants.items k no_plant ≡ spelled (at no_entry ps k)

-- plants chosen alike, spelled out before or after
chosen : (b : Bool) (x y : Plant) (p q : PlantEntry) → x ≡ spelled p → (b ≡ false → y ≡ spelled q) → cond b x y ≡ spelled (cond b p q)
chosen true x y p q e f = e
chosen false x y p q e f = f refl

pub registered_more : (ps : List PlantEntry) (g h : Register) (p : PlantEntry) → Added g p h → Registered ps g → Registered (p ∷ ps) h
registered_more ps g h p added r =
    let old = g.plants.items in
    let more : length h.plants.items ≡ length old + 1 = ap length added.plants ∙ length-append old (spelled p ∷ []) in
    record {
      count = omega (arith, more, r.count);
      each = λ k inside.
          ap (λ xs. get_or xs k no_plant) added.plants
          ∙ pushed old (spelled p) no_plant k
          ∙ ap (λ n. cond (eqb k n) (spelled p) (get_or old k no_plant)) r.count
          ∙ chosen (eqb k (length ps)) (spelled p) (get_or old k no_plant) p (at no_entry ps k) refl (λ e. r.each k (omega (arith, more, r.count, eqb-false k (length ps) e)));
    }

-- the ledger has these contracts, each with its number and what was drawn under it
pub record Kept (cs : List ℕ) (rs : List Reading) (l : Ledger) : Type 0 where
  pub begun : length l.contracts.items ≡ length cs
  pub numbers : (k : ℕ) → k < length l.contracts.items → (get_or l.contracts.items k no_contract).number ≡ at 0 cs k
  pub draws : (k : ℕ) → (get_or l.contracts.items k no_contract).draw ≡ drawn_under k rs
  pub all : draw_of l.contracts.items ≡ drawn rs

-- a field of a choice
number_chosen : (b : Bool) (x y : Contract) (m n : ℕ) → x.number ≡ m → (b ≡ false → y.number ≡ n) → (cond b x y).number ≡ cond b m n
number_chosen true x y m n e f = e
number_chosen false x y m n e f = f refl

-- a choice between two contracts of one number
number_same : (b : Bool) (x y : Contract) → (b ≡ true → x.number ≡ y.number) → (cond b x y).number ≡ y.number
number_same true x y e = e refl
number_same false x y e = refl

draw_chosen : (b : Bool) (x y : Contract) (n : ℕ) → (b ≡ true → x.draw ≡ n) → (b ≡ false → y.draw ≡ n) → (cond b x y).draw ≡ n
draw_chosen true x y n e f = e refl
draw_chosen false x y n e f = f refl

module _ (cs : List ℕ) (rs : List Reading) (l m : Ledger) (kept : Kept cs rs l) where
  pub kept_begun : (number : ℕ) → Begun l number m → Kept (number ∷ cs) rs m
  kept_begun number begun =
      let old = l.contracts.items in
      let new : Contract = record { number = number; draw = 0 } in
      let more : length m.contracts.items ≡ length old + 1 = ap length begun.contracts ∙ length-append old (new ∷ []) in
      let row : (k : ℕ) → get_or m.contracts.items k no_contract ≡ cond (eqb k (length old)) new (get_or old k no_contract) =
      λ k. ap (λ xs. get_or xs k no_contract) begun.contracts ∙ pushed old new no_contract k in
      record {
        begun = omega (arith, more, kept.begun);
        numbers = λ k inside.
            ap (λ (c : Contract). c.number) (row k)
            ∙ ap (λ n. (cond (eqb k n) new (get_or old k no_contract)).number) kept.begun
            ∙ number_chosen (eqb k (length cs)) new (get_or old k no_contract) number (at 0 cs k) refl
            (λ e. kept.numbers k (omega (arith, more, kept.begun, eqb-false k (length cs) e)));
        draws = λ k.
            ap (λ (c : Contract). c.draw) (row k)
            ∙ draw_chosen (eqb k (length old)) new (get_or old k no_contract) (drawn_under k rs)
            (λ e. sym (ap (λ (c : Contract). c.draw) (get_or_past old k no_contract (omega (arith, eqb-true k (length old) e)))) ∙ kept.draws k)
            (λ e. kept.draws k);
        all = ap draw_of begun.contracts ∙ sum_by-append (λ (c : Contract). c.draw) old (new ∷ []) ∙ omega (arith, kept.all);
      }

  pub kept_booked : (quarter : ℕ) (amounts : Amounts) → 0 < length l.contracts.items → Booked l amounts.draw m → Kept cs (record { quarter = quarter; amounts = amounts; contract = length cs } ∷ rs) m
  kept_booked quarter amounts some booked =
      let last = length l.contracts.items - 1 in
      let old = get_or l.contracts.items last no_contract in
      let new = drawing old amounts.draw in
      let there : last < length l.contracts.items = omega arith in
      let row : (k : ℕ) → get_or m.contracts.items k no_contract ≡ cond (eqb k last) new (get_or l.contracts.items k no_contract) =
      λ k. ap (λ xs. get_or xs k no_contract) booked.contracts ∙ wrote l.contracts.items last new no_contract there k in
      record {
        begun = ap length booked.contracts ∙ length-set l.contracts.items last new ∙ kept.begun;
        numbers = λ k inside.
            ap (λ (c : Contract). c.number) (row k)
            ∙ number_same (eqb k last) new (get_or l.contracts.items k no_contract) (λ e. ap (λ n. (get_or l.contracts.items n no_contract).number) (sym (eqb-true k last e)))
            ∙ kept.numbers k (omega (arith, ap length booked.contracts ∙ length-set l.contracts.items last new));
        draws = λ k.
            ap (λ (c : Contract). c.draw) (row k)
            ∙ draw_chosen (eqb k last) new (get_or l.contracts.items k no_contract) (drawn_under k rs + cond (eqb (length cs) (k + 1)) amounts.draw 0)
            (λ e.
            let here : k ≡ last = eqb-true k last e in
            ap (λ n. (get_or l.contracts.items n no_contract).draw + amounts.draw) (sym here)
            ∙ ap (λ n. n + amounts.draw) (kept.draws k)
            ∙ ap (λ n. drawn_under k rs + n) (sym (cond-true (eqb (length cs) (k + 1)) amounts.draw 0 (eq-eqb (length cs) (k + 1) (omega (arith, here, kept.begun))))))
            (λ e.
            let elsewhere : length cs ≢ k + 1 = λ same. eqb-false k last e (omega (arith, same, kept.begun)) in
            kept.draws k ∙ omega (arith, cond-false (eqb (length cs) (k + 1)) amounts.draw 0 (ne_eqb (length cs) (k + 1) elsewhere)));
        all = ap draw_of booked.contracts ∙ omega (arith, sum_by-set (λ (c : Contract). c.draw) l.contracts.items last new no_contract there, kept.all);
      }
