-- A quarter is zero-valued exactly if it lies in a run of negative prices that is long enough. Assumes nothing.
use Rattle.std.proofs.Common.{◌≡◌, ℕ, suc, ◌+◌, ◌-◌, ◌<◌, ◌≤◌, Bool, true, false, T, eqb, ltb, List, length, get_or, ℤ, pos, ◌<ℤ◌, Decides, sym, refl, ap, ◌∙◌, subst, ⊎_elim, arith}
use lib.Signed.{lt_z}
use Rattle.std.proofs.lemmas.List.{get_or_past}
use Rattle.std.proofs.lemmas.Int.{ints}
use Rattle.std.proofs.lemmas.Bool.{cases_lt, both_ways, eq-eqb, eqb-true, false≢true}
use Rattle.std.proofs.lemmas.Bool.Decides.{Decides-below_and, Decides-below_or, Decides-and, Decides-ltb, Decides-like, same_from_decides}
use Rattle.price_rule.specs.Prices.{negative, negative_run, in_run_from_below, zero_valued, RunAround}
use Rattle.price_rule.proofs.Counts.{NegativeBefore, NegativeFrom}

module _ (prices : List ℤ) where
  below_zero : (k : ℕ) → negative prices k ≡ true → get_or prices k (pos 0) <ℤ pos 0
  below_zero k e = record { lt = subst T (sym e) tt }

  is_negative : (k : ℕ) → get_or prices k (pos 0) <ℤ pos 0 → negative prices k ≡ true
  is_negative k h = grind (arith, ints)

  -- there are no negative prices past the last price
  within : (k : ℕ) → negative prices k ≡ true → k < length prices
  within k e = ⊎_elim (λ l. l) (λ past. absurd (both_ways (negative prices k) (ap (λ price. lt_z price (pos 0)) (get_or_past prices k (pos 0) past)) e)) (cases_lt k (length prices))

  abbrev Together : ℕ → ℕ → Type 0
  Together start count = (k : ℕ) → k < count → negative prices (start + k) ≡ true

  together : (start count : ℕ) → Decides (negative_run prices start count) (Together start count)
  together start count = Decides-below_and (λ k. negative prices (start + k)) (λ k. negative prices (start + k) ≡ true) (negative_run prices start) (λ k. (λ e. e, λ e. e)) refl (λ _. refl) count

  module _ (run quarter : ℕ) where
    abbrev From : ℕ → Type 0
    From start = (quarter < start + run) × Together start run

    from_below : (bound : ℕ) → Decides (in_run_from_below prices run quarter bound) ((start : ℕ) × (start < bound) × From start)
    from_below bound = Decides-below_or (λ start. _) From (in_run_from_below prices run quarter) (λ start. Decides-and (ltb quarter (start + run)) (negative_run prices start run) (Decides-ltb quarter (start + run)) (together start run)) refl (λ _. refl) bound

    -- a run that is long enough has a part of just the run length that contains the quarter
    cut : RunAround prices run quarter → (start : ℕ) × (start < suc quarter) × From start
    cut around = ⊎_elim
        (λ near. (around.start, omega (arith, around.begun), (near, λ k l. is_negative (around.start + k) (around.unbroken (around.start + k) (omega arith) (omega (arith, around.long))))))
        (λ far. (quarter + 1 - run, omega (arith, around.some), (omega (arith, around.some), λ k l. is_negative (quarter + 1 - run + k) (around.unbroken (quarter + 1 - run + k) (omega arith) (omega (arith, around.unended))))))
        (cases_lt quarter (around.start + run))

    -- a part of just the run length is a run
    around : (start : ℕ) → start < suc quarter → From start → RunAround prices run quarter
    around start l from = record {
      start = start;
      end = start + run;
      begun = omega arith;
      unended = from.0;
      inside = let last = within (start + (run - 1)) (from.1 (run - 1) (omega (arith, from.0))) in omega (arith, last, from.0);
      some = omega (arith, from.0);
      long = omega arith;
      unbroken = λ k h e. below_zero k (ap (negative prices) {x = k} {y = start + (k - start)} (omega arith) ∙ from.1 (k - start) (omega arith));
    }

    pub told : Decides (zero_valued prices run quarter) (RunAround prices run quarter)
    told = Decides-like (zero_valued prices run quarter) (λ w. around w.0 w.1 w.2) cut (from_below (suc quarter))

    pub answer : (r : Bool) → Decides r (RunAround prices run quarter) → r ≡ zero_valued prices run quarter
    answer r decides = same_from_decides r (zero_valued prices run quarter) decides told

    pub never : (RunAround prices run quarter → ⊥) → Decides false (RunAround prices run quarter)
    never none = (λ e. absurd (false≢true e), λ around. absurd (none around))

    module _ (before : ℕ) (back : NegativeBefore prices (quarter + 1) run before) where
      -- where the limit was not reached, a run around the quarter begins no earlier than what was counted back
      pub no_earlier : (a : RunAround prices run quarter) → before < run → quarter + 1 ≤ a.start + before
      no_earlier a short = ⊎_elim
          (λ early. let k = quarter - before in absurd (both_ways (negative prices k) (back.stopped short k (omega arith)) (is_negative k (a.unbroken k (omega arith) (omega (arith, a.unended))))))
          (λ e. e)
          (cases_lt (a.start + before) (quarter + 1))

      module _ (after : ℕ) (on : NegativeFrom prices (quarter + 1) (run - before) after) where
        -- nor does it end later than what was counted on
        no_later : (a : RunAround prices run quarter) → after < run - before → a.end ≤ quarter + 1 + after
        no_later a short = ⊎_elim
            (λ late. let k = quarter + 1 + after in absurd (both_ways (negative prices k) (on.stopped short) (is_negative k (a.unbroken k (omega (arith, a.begun)) late))))
            (λ e. e)
            (cases_lt (quarter + 1 + after) a.end)

        reached : 0 < before → before + after ≡ run → RunAround prices run quarter
        reached some e = record {
          start = quarter + 1 - before;
          end = quarter + 1 + after;
          begun = omega arith;
          unended = omega arith;
          inside = ⊎_elim
              (λ l. omega (arith, within (quarter + after) (on.together (quarter + after) (omega arith) (omega arith))))
              (λ none. omega (arith, within quarter (back.together quarter (omega arith) (omega arith))))
              (cases_lt 0 after);
          some = omega arith;
          long = omega (arith, back.inside);
          unbroken = λ k h l. below_zero k (⊎_elim (λ m. back.together k (omega (arith, back.inside)) m) (λ m. on.together k m l) (cases_lt k (quarter + 1)));
        }

        -- counted back and then on, the negative prices reach the run length exactly in such a run
        pub counted : 0 < before → Decides (eqb (before + after) run) (RunAround prices run quarter)
        counted some = (
          λ e. reached some (eqb-true (before + after) run e),
          λ a. ⊎_elim
              (λ short. absurd (omega (arith, no_earlier a (omega arith), no_later a (omega arith), a.long)))
              (λ enough. eq-eqb (before + after) run (omega (arith, back.limited, on.limited)))
              (cases_lt (before + after) run),
        )
