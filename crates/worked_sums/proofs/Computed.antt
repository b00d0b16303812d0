-- The worked sums hold. Assumes nothing.
use Rattle.std.proofs.Common.{◌≡◌, ℕ, ◌-◌, ◌*◌, ◌/◌, min, true, false, ◌&&◌, ◌||◌, List, [], ◌∷◌, ℤ, pos, negsuc, ◌≤ℤ◌, refl, ap, ◌∙◌, arith}
use Rattle.std.specs.List.{AllByRecursion}
use Rattle.std.proofs.lemmas.Bool.{le-ltb}
use Rattle.price_rule.specs.Prices.{zero_valued}
use Rattle.delimitation.specs.declared.DelimitationOption.{DelimitationOption}
use Rattle.flat.specs.declared.FlatOption.{FlatOption}
use Rattle.delimitation.specs.contracts.settles.DelimitationOptionSettlementOption.TheImpl.{ghosts as delimitation}
use Rattle.flat.specs.contracts.settles.FlatOptionSettlementOption.TheImpl.{ghosts as flat}
use Rattle.options.specs.Histories.{Led}
use Rattle.options.proofs.Led.{added_up}
use Rattle.delimitation.proofs.Led.{delimited}
use Rattle.valuing.specs.Valued.{drawn, valued, netted}
use Rattle.worked_sums.specs.Sums.{FlatYear, WorkedSums, uncharged, two_and_one_negative}

module _ (o : FlatOption) where
  base_at : (feed_in draw : ℕ) → FlatYear feed_in draw o → flat.base o ≡ min feed_in 5000000
  base_at feed_in draw y = omega (arith, y.fed, y.power)

  nettable_at : (feed_in draw : ℕ) → FlatYear feed_in draw o → flat.nettable o ≡ feed_in - 5000000
  nettable_at feed_in draw y = omega (arith, y.fed, y.power)

  netted_at : FlatYear 8000000 4000000 o → netted flat o ≡ 3000000
  netted_at y = omega (arith, y.drawn_off, nettable_at 8000000 4000000 y)

  valued_at : (marked : ℕ) → FlatYear 8000000 0 o → (flat.sums o).marked 0 ≡ marked → valued (flat.base o) (flat.upper o 0) (flat.lower o 0) ≡ 5000000 * marked / 8000000
  valued_at marked y is =
      ap (λ b. b * flat.upper o 0 / flat.lower o 0) (base_at 8000000 0 y)
      ∙ ap (λ u. 5000000 * u / flat.lower o 0) is
      ∙ ap (λ l. 5000000 * marked / l) y.fed

never_charged_at : (power : ℕ) (o : DelimitationOption) → Led delimitation power (uncharged ∷ []) o → (delimitation.base o ≡ 20) × (delimitation.nettable o ≡ 0) × (delimitation.unassigned o ≡ 10)
never_charged_at power o l =
    let d = delimited l in
    let fed : o.taken.feed_in ≡ 30 = (added_up delimitation (λ _ _ _ _ t. t.sums) l).feed_in in
    let store : o.store_feed_in ≡ 10 = d.discharged in
    let stored : o.store_in ≡ 0 = d.stored in
    let charged : o.grid_charging ≡ 0 = d.charged in
    (rw (fed, store, stored, charged), rw (stored), rw (stored, store))

-- the price after the last of the four is not negative
past_one_negative : (later : List ℤ) → AllByRecursion (λ price. pos 0 ≤ℤ price) later → zero_valued (two_and_one_negative later) 2 3 ≡ false
past_one_negative [] positive = refl
past_one_negative (pos n ∷ later) positive = ap (λ b. (b && true) || false) (le-ltb n 0 (omega arith))
past_one_negative (negsuc n ∷ later) positive = absurd positive.0.le

pub computed : WorkedSums
computed = record {
  at_the_cap = λ o y. (base_at o 5000000 0 y, nettable_at o 5000000 0 y);
  above_the_cap = λ o y. nettable_at o 5000001 0 y;
  netting = λ o y. ap (λ d. drawn d (netted flat o)) y.drawn_off ∙ ap (drawn 4000000) (netted_at o y);
  valuing = λ o y is. (valued_at o 6000000 y is, omega (arith, is, base_at o 8000000 0 y));
  unmarked = λ o y is. (valued_at o 0 y is, nettable_at o 8000000 0 y);
  plug_ins_fit = refl;
  plug_ins_in_the_cap = λ o e. ap (λ p. 500 * p) e;
  too_much_for_flat = refl;
  fit_when_delimited = refl;
  thirds = (refl, refl, refl);
  past_a_row_of_nothing = (refl, refl, refl);
  half_rounded_down = refl;
  never_charged = never_charged_at;
  negative_prices = λ later positive. (refl, refl, refl, past_one_negative later positive);
  spelled_prices = (refl, refl, refl, refl);
  spelled_run_lengths = refl;
}
