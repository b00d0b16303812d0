-- A record that the order and the account take occupies no more than its kind may. Assumes nothing.
use Rattle.std.proofs.Common.{◌≡◌, ℕ, ◌+◌, ◌-◌, ◌*◌, ◌≤◌, Bool, true, false, not, List, [], ◌∷◌, length, get_or, Some, None, Ok, Err, Option, sym, refl, ap, ◌∙◌, subst, arith, length-append, MatchResult}
use Rattle.std.proofs.lemmas.List.{length-set}
use Rattle.std.proofs.lemmas.Bool.{eqb-true, leb-true}
use Rattle.fault.specs.declared.cause.Cause.TheVariants.{OutOfOrder}
use Rattle.fault.specs.Questions.{Answer, asked}
use Rattle.calendar.specs.declared.value_calendar.ValueCalendar.{Ghosts as Calendar}
use Rattle.options.specs.declared.settlement_option.SettlementOption.{Ghosts as Meaning}
use Rattle.delimitation.specs.contracts.settles.DelimitationOptionSettlementOption.TheImpl.{ghosts as delimitation}
use Rattle.flat.specs.contracts.settles.FlatOptionSettlementOption.TheImpl.{ghosts as flat}
use Rattle.tagged_file.specs.declared.order.Order.{Order}
use Rattle.tagged_file.specs.declared.record.Tag.{Tag}
use Rattle.tagged_file.specs.declared.record.Tag.TheVariants as tags
use Rattle.tagged_file.specs.Follows.{has_year, Follows}
use Rattle.tagged_file.specs.Format.{right}
use Rattle.file_account.specs.declared.account_of_file.AccountOfFile.{AccountOfFile}
use Rattle.file_account.specs.declared.account_of_file.AccountOfFile.TheVariants as states
use Rattle.file_account.specs.declared.chosen.Chosen.{Chosen}
use Rattle.file_account.specs.declared.chosen.Chosen.TheVariants as chosen
use Rattle.file_account.specs.Choosing.{BeforeYear, BeginsNamed, PutsOn, ChosenPuts}
use Rattle.account.specs.declared.contract.Contract.{Contract}
use Rattle.account.specs.Ledgers.{drawing, drawing_last}
use Rattle.account.specs.SupplyContracts.{no_contract}
use Rattle.site.specs.declared.draft.Draft.{Draft}
use Rattle.site.specs.Plants.{spelled}
use Rattle.settlement.specs.Longest.{account_bytes, chosen_bytes, longest_open, Bounded}
use Rattle.file_account.specs.Putting.{AddsIn, OpensIn, BeginsOpened, BeginsIn, EntersIn, Puts}

-- the records of an account are as many as a year can have
account_most : {O : Type 0} (s : AccountOfFile O) → account_bytes s ≤ 10 * 8 + 7 * 4 + 21 * 35136
account_most (states.Draft d) = omega (arith, d.register.held)
account_most (states.Opened a) = omega (arith, a.draft.register.held, a.ledger.few, a.ledger.year)

chosen_most : (s : Option Chosen) → chosen_bytes s ≤ 6 + 10 * 8 + 7 * 4 + 21 * 35136
chosen_most None = omega arith
chosen_most (Some (chosen.Flat s)) = omega (arith, account_most s)
chosen_most (Some (chosen.Delimitation s)) = omega (arith, account_most s)

pub bounded_most : (o : Order) (s : Option Chosen) (p : ℕ) → Bounded o s p → p ≤ longest_open
bounded_most o s p b = omega (arith, b.bytes, chosen_most s, o.few)

-- what is drawn begins no contract
drawn_as_many : (cs : List Contract) (draw : ℕ) → length (drawing_last cs draw) ≡ length cs
drawn_as_many cs draw = length-set cs (length cs - 1) (drawing (get_or cs (length cs - 1) no_contract) draw)

module _ {O : Type 0} (meaning : Meaning O) where
  -- one plant more
  added_bytes : (s t : AccountOfFile O) (e : _) → AddsIn meaning s e (Ok tt) t → account_bytes t ≡ account_bytes s + 10
  added_bytes (states.Draft d) (states.Draft x) e adds = omega (arith, ap length adds.1.register.plants, length-append d.register.plants.items (spelled e ∷ []))
  added_bytes (states.Draft d) (states.Opened b) e adds = absurd adds
  added_bytes (states.Opened a) t e adds = cc

  -- opening adds no record
  opened_bytes : (s t : AccountOfFile O) → OpensIn meaning s (Ok tt) t → account_bytes t ≡ account_bytes s
  opened_bytes (states.Draft d) (states.Draft e) opens = absurd (opens.1 refl)
  opened_bytes (states.Draft d) (states.Opened a) opens =
      omega (arith, ap (λ (x : Draft). length x.register.plants.items) opens.2.draft, ap length opens.2.ledger.contracts, opens.2.ledger.entered)
  opened_bytes (states.Opened a) t opens = sym (ap account_bytes opens.1)

  begun_bytes : (s t : AccountOfFile O) (n : ℕ) → BeginsOpened meaning s n (Ok tt) t → account_bytes t ≡ account_bytes s + 7
  begun_bytes (states.Opened a) (states.Opened b) n begins =
      omega (arith, ap (λ (x : Draft). length x.register.plants.items) begins.1.draft, ap length begins.1.ledger.contracts, length-append a.ledger.contracts.items (record { number = n; draw = 0 } ∷ []), begins.1.ledger.entered)
  begun_bytes (states.Opened a) (states.Draft e) n begins = absurd begins
  begun_bytes (states.Draft d) t n begins = cc

  -- one contract more
  contract_bytes : (s t : AccountOfFile O) (n : ℕ) (b : BeginsIn meaning s n (Ok tt) t) → account_bytes t ≡ account_bytes s + 7
  contract_bytes s t n b = by b.fit b.opens b.begins
    where
      by : (fit : Answer) → OpensIn meaning s fit b.between → MatchResult fit (λ _. BeginsOpened meaning b.between n (Ok tt) t) (λ f. (◌≡◌ {A = Answer} (Ok tt) (Err f)) × (b.between ≡ t)) → account_bytes t ≡ account_bytes s + 7
      by (Ok _) opens begins = begun_bytes b.between t n begins ∙ ap (λ x. x + 7) (opened_bytes s b.between opens)
      by (Err f) opens begins = cc

  -- one quarter more
  entered_bytes : {C : Type 0} (calendar : Calendar C) (c : C) (s t : AccountOfFile O) (q : ℕ) (a : _) → EntersIn meaning calendar c s q a (Ok tt) t → account_bytes t ≡ account_bytes s + 21
  entered_bytes calendar c (states.Opened a) (states.Opened b) q x enters =
      omega (arith, ap (λ (y : Draft). length y.register.plants.items) enters.1.draft, ap length enters.1.ledger.contracts, drawn_as_many a.ledger.contracts.items x.draw, enters.1.ledger.entered)
  entered_bytes calendar c (states.Opened a) (states.Draft e) q x enters = absurd enters
  entered_bytes calendar c (states.Draft d) t q x enters = cc

-- a year that is allowed is the first
year_first : (read : Bool) (q : ℕ) → ◌≡◌ {A = Answer} (Ok tt) (asked q ((not read, OutOfOrder) ∷ []) (Ok tt)) → read ≡ false
year_first true q e = cc
year_first false q e = refl

-- an account begins with the six bytes of its year
year_bytes : (b : List ℕ) (s t : Option Chosen) → BeginsNamed s b (Ok tt) t → 6 ≤ chosen_bytes t
year_bytes b s None begins = absurd begins
year_bytes b s (Some (chosen.Flat t)) begins = omega arith
year_bytes b s (Some (chosen.Delimitation t)) begins = omega arith

module _ {C : Type 0} (calendar : Calendar C) (c : C) (b : List ℕ) where
  -- a record that adds k bytes to every account adds them to the one of the named option
  more_bytes : (k : ℕ) (tag : Tag) → ((O : Type 0) (m : Meaning O) (s t : AccountOfFile O) → Puts m calendar c s tag b (Ok tt) t → account_bytes t ≡ account_bytes s + k)
      → (BeforeYear tag (Ok tt) → k ≡ 0) → (s t : Option Chosen) → PutsOn calendar c s tag b (Ok tt) t → chosen_bytes t ≡ chosen_bytes s + k
  more_bytes k tag adds first None t puts = omega (arith, first puts.0, ap chosen_bytes puts.1)
  more_bytes k tag adds first (Some s) None puts = absurd puts
  more_bytes k tag adds first (Some (chosen.Flat s)) (Some (chosen.Flat t)) puts = omega (arith, adds _ flat s t puts)
  more_bytes k tag adds first (Some (chosen.Flat s)) (Some (chosen.Delimitation t)) puts = absurd puts
  more_bytes k tag adds first (Some (chosen.Delimitation s)) (Some (chosen.Flat t)) puts = absurd puts
  more_bytes k tag adds first (Some (chosen.Delimitation s)) (Some (chosen.Delimitation t)) puts = omega (arith, adds _ delimitation s t puts)

  -- before the year an account that takes a record is still none
  unbegun_on : (tag : Tag) (s t : Option Chosen) → PutsOn calendar c s tag b (Ok tt) t → s ≡ None → t ≡ None
  unbegun_on tag s t puts is = let none : PutsOn calendar c None tag b (Ok tt) t = subst (λ x. PutsOn calendar c x tag b (Ok tt) t) is puts in sym none.1

  -- a record that is taken leaves the file bounded after its bytes
  pub taken_bounded : (o o' : Order) (s t : Option Chosen) (tag : Tag) (p q n : ℕ) → Follows o tag q (Ok tt) o' → right tag (length b) ≡ true → n ≡ 3 + length b → (tag ≡ tags.End → ⊥)
      → ChosenPuts calendar c s tag b (Ok tt) t → Bounded o s p → Bounded o' t (p + n)
  taken_bounded o o' s t tags.Year p q n follows fits size no_end puts bounded =
      let none = bounded.unbegun (year_first (has_year o.stage) q follows.0) in
      record {
        unbegun = λ early. cc (ap has_year follows.1.0);
        bytes = omega (arith, bounded.bytes, follows.1.1, eqb-true _ _ fits, ap chosen_bytes none, year_bytes b s t puts);
      }
  taken_bounded o o' s t tags.Plant p q n follows fits size no_end puts bounded = record {
    unbegun = λ early. unbegun_on tags.Plant s t puts (bounded.unbegun (ap has_year (sym follows.1.0) ∙ early));
    bytes = omega (arith, bounded.bytes, follows.1.1, eqb-true _ _ fits, more_bytes 10 tags.Plant (λ O m x y adds. added_bytes m x y _ adds) (λ e. cc) s t puts);
  }
  taken_bounded o o' s t tags.Contract p q n follows fits size no_end puts bounded = record {
    unbegun = λ early. cc (ap has_year follows.1.0);
    bytes = omega (arith, bounded.bytes, follows.1.1, eqb-true _ _ fits, more_bytes 7 tags.Contract (λ O m x y begins. contract_bytes m x y _ begins) (λ e. cc) s t puts);
  }
  taken_bounded o o' s t tags.Quarter p q n follows fits size no_end puts bounded = record {
    unbegun = λ early. unbegun_on tags.Quarter s t puts (bounded.unbegun (ap has_year (sym follows.1.0) ∙ early));
    bytes = omega (arith, bounded.bytes, follows.1.1, eqb-true _ _ fits, more_bytes 21 tags.Quarter (λ O m x y enters. entered_bytes m calendar c x y _ _ enters) (λ e. cc) s t puts);
  }
  taken_bounded o o' s t tags.Remark p q n follows fits size no_end puts bounded = record {
    unbegun = λ early. unbegun_on tags.Remark s t puts (bounded.unbegun (ap has_year (sym follows.1.0) ∙ early));
    bytes = omega (arith, bounded.bytes, follows.1.1, leb-true _ _ fits, more_bytes 0 tags.Remark (λ O m x y same. omega (arith, ap account_bytes same.1)) (λ e. refl) s t puts);
  }
  taken_bounded o o' s t tags.End p q n follows fits size no_end puts bounded = absurd (no_end refl)
