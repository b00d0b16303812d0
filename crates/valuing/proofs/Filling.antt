-- A loop that fills the first places of a row of n, blank before. Assumes nothing.
use Rattle.std.proofs.Common.{◌≡◌, ℕ, ◌+◌, ◌<◌, ◌≤◌, cond, ltb, ◌≢◌, List, map, length, get_or, set, sym, ap, ◌∙◌, ⊎_elim, arith, length-set, get_or-set_other, get_or-set_same}
use Rattle.std.specs.List.{range_with_len}
use Rattle.std.proofs.lemmas.List.FromFn.{fill_by_all}
use Rattle.std.proofs.lemmas.Bool.{cases_eq, cases_lt, cond-true, cond-false, lt-ltb, le-ltb}

module _ {X : Type 0} (f : ℕ → X) (blank : X) (n : ℕ) where
  -- the first i places are filled
  pub record Filled (i : ℕ) (xs : List X) : Type 0 where
    pub long : length xs ≡ n
    pub front : (k : ℕ) → k < i → get_or xs k blank ≡ f k
    pub rest : (k : ℕ) → i ≤ k → get_or xs k blank ≡ blank

  pub filled_more : (i : ℕ) (xs : List X) (v : X) → i < n → v ≡ f i → Filled i xs → Filled (i + 1) (set xs i v)
  filled_more i xs v room is h =
      let there : i < length xs = omega (arith, h.long) in
      record {
        long = simp length-set h.long;
        front = λ k l. ⊎_elim
            (λ e. ap (λ j. get_or (set xs i v) j blank) e ∙ get_or-set_same xs i v blank there ∙ is ∙ ap f (sym e))
            (λ ne. get_or-set_other xs i k v blank ne ∙ h.front k (omega (arith, ne)))
            (cases_eq k i);
        rest = λ k l. let ne : k ≢ i = λ e. omega (arith, e) in get_or-set_other xs i k v blank ne ∙ h.rest k (omega arith);
      }

  pub filled_all : (count : ℕ) (xs : List X) → Filled count xs → xs ≡ map (λ k. cond (ltb k count) (f k) blank) (range_with_len 0 n)
  filled_all count xs h = fill_by_all (λ k. cond (ltb k count) (f k) blank) xs n blank h.long (λ k l. ⊎_elim
      (λ below. h.front k below ∙ sym (cond-true (ltb k count) (f k) blank (lt-ltb k count below)))
      (λ past. h.rest k past ∙ sym (cond-false (ltb k count) (f k) blank (le-ltb k count past)))
      (cases_lt k count))
