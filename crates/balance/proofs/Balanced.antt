-- A statement made by the rule balances against every run that leads to its account. Assumes nothing.
use Rattle.std.proofs.Common.{◌≡◌, ℕ, zero, suc, ◌+◌, ◌*◌, ◌/◌, ◌<◌, ◌≤◌, min, Bool, true, false, cond, ltb, List, [], ◌∷◌, map, length, get_or, is_some, take, sum, sym, refl, ap, ◌∙◌, subst, ⊎_elim, mul-zero, zero-mul, mul-div_cancel, arith}
use native.Mathlib.Nat.{zero-div}
use Rattle.std.specs.List.{range_with_len}
use Rattle.std.proofs.lemmas.List.{length-map, get_or_past}
use Rattle.std.proofs.lemmas.List.FromFn.{get_or-map-range_with_len}
use Rattle.std.proofs.lemmas.List.Sums.{sum-map}
use Rattle.std.proofs.lemmas.Bool.{cases_lt, cond-true, lt-ltb}
use Rattle.calendar.specs.declared.value_calendar.ValueCalendar.{Ghosts as Calendar}
use Rattle.division.specs.Shares.{weights, share}
use Rattle.division.proofs.Laws.{within}
use Rattle.options.specs.declared.amounts.Amounts.{Amounts}
use Rattle.options.specs.declared.settlement_option.SettlementOption.{Ghosts as Meaning}
use Rattle.options.specs.Quarters.{Added}
use Rattle.site.specs.declared.plant.Plant.{Plant}
use Rattle.site.specs.declared.register.Register.{Register}
use Rattle.site.specs.Plants.{no_plant, spelled, supported}
use Rattle.figures.specs.declared.lines.ContractLine.{ContractLine}
use Rattle.figures.specs.declared.lines.PlantLine.{PlantLine}
use Rattle.figures.specs.declared.lines.Standing.{Standing}
use Rattle.figures.specs.Blank.{no_plant_line, no_contract_line}
use Rattle.account.specs.declared.contract.Contract.{Contract}
use Rattle.account.specs.declared.ledger.Ledger.{Ledger}
use Rattle.account.specs.declared.year.Opened.{Opened}
use Rattle.account.specs.SupplyContracts.{no_contract}
use Rattle.valuing.specs.Valued.{valued, netted, plant_row}
use Rattle.account.specs.Statements.{contract_row, settled}
use Rattle.balance.specs.Runs.{Call}
use Rattle.balance.specs.Brought.{plants, contracts, readings, drawn_under, marked_for, at}
use Rattle.balance.specs.Balances.{no_entry, PlantBalances, ContractBalances, Balances}
use Rattle.balance.specs.Balances as say
use Rattle.balance.proofs.Dividing.{all_lines}
use Rattle.balance.proofs.Reached.{Held}

-- the laws of an option that the balances rest on
pub record Laws {O : Type 0} (meaning : Meaning O) : Type 0 where
  pub adds : (o p : O) (a : Amounts) (ms : List Bool) → meaning.takes o a ms p → Added (meaning.sums o) a ms (meaning.sums p)
  pub whole : (o : O) → meaning.base o + meaning.nettable o + meaning.unassigned o ≡ (meaning.sums o).feed_in
  pub unmarked : (o : O) (p : ℕ) → p < 8 → (meaning.sums o).marked p ≡ 0 → meaning.upper o p ≡ 0
  pub fully_marked : (o : O) (p : ℕ) → p < 8 → (meaning.sums o).marked p ≡ (meaning.sums o).feed_in → meaning.upper o p ≡ meaning.lower o p
  pub grounded : (o : O) (p : ℕ) → p < 8 → meaning.lower o p ≡ 0 → meaning.base o ≡ 0

-- a weight is its row's
weight_at : {X : Type 0} (f : X → ℕ) (xs : List X) (d : X) (k : ℕ) → get_or (map f xs) k (f d) ≡ f (get_or xs k d)
weight_at f [] d k = refl
weight_at f (x ∷ xs) d zero = refl
weight_at f (x ∷ xs) d (suc k) = weight_at f xs d k

-- a line of the first rows is its row's
line_at : {X : Type 0} (row : ℕ → X) (blank : X) (n count k : ℕ) → count ≤ n → k < count → get_or (map (λ j. cond (ltb j count) (row j) blank) (range_with_len 0 n)) k blank ≡ row k
line_at row blank n count k few inside =
    get_or-map-range_with_len (λ j. cond (ltb j count) (row j) blank) 0 n k k blank (omega arith) (omega arith) ∙ cond-true (ltb k count) (row k) blank (lt-ltb k count inside)

-- nothing over anything is nothing
nothing_over : (lower : ℕ) (n : ℕ) → n ≡ 0 → n / lower ≡ 0
nothing_over lower n e = ap (λ m. m / lower) e ∙ zero-div lower

cond_nothing : (b : Bool) (n : ℕ) → n ≡ 0 → cond b n 0 ≡ 0
cond_nothing true n e = e
cond_nothing false n e = refl

-- where upper and lower are the same, all is valued; where both are 0, there is nothing to value
all_valued : (portion upper lower : ℕ) → upper ≡ lower → (lower ≡ 0 → portion ≡ 0) → valued portion upper lower ≡ portion
all_valued portion upper lower same grounded = ap (λ n. portion * n / lower) same ∙ ⊎_elim
    (λ some. mul-div_cancel portion some)
    (λ none. let zero_portion : portion ≡ 0 = grounded (omega (arith, none)) in nothing_over lower (portion * lower) (ap (λ n. n * lower) zero_portion ∙ zero-mul lower) ∙ sym zero_portion)
    (cases_lt 0 lower)

module _ {O C : Type 0} (meaning : Meaning O) (laws : Laws meaning) (calendar : Calendar C) (c : C) (calls : List Call) (a : Opened O)
    (held : Held meaning calendar c laws.adds (plants calls) (contracts calls) (readings calls) a) (fit : is_some a.year ≡ true) where
  abbrev register : Register
  register = a.draft.register

  abbrev ledger : Ledger
  ledger = a.ledger

  abbrev powers : List ℕ
  powers = weights (λ (p : Plant). p.power) register.plants.items

  abbrev draws : List ℕ
  draws = weights (λ (x : Contract). x.draw) ledger.contracts.items

  some_power : 0 < sum powers
  some_power = omega (arith, sum-map (λ (p : Plant). p.power) register.plants.items, held.powered fit)

  all_draws : sum draws ≡ (meaning.sums a.option).draw
  all_draws = sum-map (λ (x : Contract). x.draw) ledger.contracts.items ∙ held.kept.all ∙ sym held.summed.draw

  all_portions : (standing : Standing) → say.portions (settled meaning a standing) ≡ meaning.base a.option
  all_portions standing = all_lines (λ (l : PlantLine). l.portion) (plant_row meaning a.option register) no_plant_line (meaning.base a.option) powers (length register.plants.items) (λ k inside. refl) 8 register.held
      (λ none. absurd (omega (arith, some_power)))
      (λ i past. get_or_past powers i 0 (omega (arith, length-map register.plants.items (λ (p : Plant). p.power))))

  all_netted : (standing : Standing) → say.netted (settled meaning a standing) ≡ netted meaning a.option
  all_netted standing = all_lines (λ (l : ContractLine). l.draw.netted) (contract_row (netted meaning a.option) ledger) no_contract_line (netted meaning a.option) draws (length ledger.contracts.items) (λ k inside. refl) 4 ledger.few
      (λ none. omega (arith, all_draws))
      (λ i past. get_or_past draws i 0 (omega (arith, length-map ledger.contracts.items (λ (x : Contract). x.draw))))

  module _ (k : ℕ) (inside : k < (length register.plants.items)) where
    abbrev row : PlantLine
    row = plant_row meaning a.option register k

    abbrev eight : k < 8
    eight = omega (arith, register.held)

    plant_is : get_or register.plants.items k no_plant ≡ spelled (at no_entry (plants calls) k)
    plant_is = held.registered.each k inside

    -- where the base is 0, so is every portion of it
    no_portion : meaning.base a.option ≡ 0 → row.portion ≡ 0
    no_portion none = omega (arith, ap (λ n. share n powers k) none, nothing_over (sum powers) (0 * sum (take (k + 1) powers)) (zero-mul (sum (take (k + 1) powers))))

    plant_balances : PlantBalances (calendar.above c) calls (at no_entry (plants calls) k) row
    plant_balances = record {
      marked = held.summed.marked k inside ∙ ap (λ (p : Plant). marked_for (calendar.above c) p.regime (readings calls)) plant_is;
      all_valued = λ all is_supported.
          let same = laws.fully_marked a.option k eight (all ∙ sym held.summed.feed_in) in
          cond-true (supported (get_or register.plants.items k no_plant)) _ 0 (ap supported plant_is ∙ is_supported)
          ∙ all_valued row.portion (meaning.upper a.option k) (meaning.lower a.option k) same (λ none. no_portion (laws.grounded a.option k eight none));
      none_valued = λ none.
          let no_upper = laws.unmarked a.option k eight none in
          cond_nothing (supported (get_or register.plants.items k no_plant)) _ (nothing_over (meaning.lower a.option k) (row.portion * meaning.upper a.option k) (ap (λ n. row.portion * n) no_upper ∙ mul-zero row.portion));
    }

  module _ (k : ℕ) (inside : k < (length ledger.contracts.items)) where
    contract_balances : ContractBalances calls k (contract_row (netted meaning a.option) ledger k)
    contract_balances =
        let draw : (get_or ledger.contracts.items k no_contract).draw ≡ drawn_under k (readings calls) = held.kept.draws k in
        let part : share (netted meaning a.option) draws k ≤ (get_or ledger.contracts.items k no_contract).draw =
        omega (arith, within (netted meaning a.option) draws k (omega (arith, all_draws)), weight_at (λ (x : Contract). x.draw) ledger.contracts.items no_contract k) in
        record {
          number = held.kept.numbers k inside;
          draw = draw;
          parts = omega (arith, part, draw);
        }

  pub balanced : (standing : Standing) → Balances (calendar.above c) calls (settled meaning a standing)
  balanced standing = record {
    feed_in = omega (arith, all_portions standing, laws.whole a.option, held.summed.feed_in);
    netting = all_netted standing ∙ ap (λ n. min n (meaning.nettable a.option)) held.summed.draw;
    as_many_plants = held.registered.count;
    each_plant = λ k inside.
        let here : k < (length register.plants.items) = omega (arith, held.registered.count) in
        subst (PlantBalances (calendar.above c) calls (at no_entry (plants calls) k)) (sym (line_at (plant_row meaning a.option register) no_plant_line 8 (length register.plants.items) k register.held here)) (plant_balances k here);
    as_many_contracts = held.kept.begun;
    each_contract = λ k inside.
        let here : k < (length ledger.contracts.items) = omega (arith, held.kept.begun) in
        subst (ContractBalances calls k) (sym (line_at (contract_row (netted meaning a.option) ledger) no_contract_line 4 (length ledger.contracts.items) k ledger.few here)) (contract_balances k here);
  }
