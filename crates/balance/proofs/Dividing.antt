-- Lines that show the shares of a division show all of the amount. Assumes nothing.
use Rattle.std.proofs.Common.{◌≡◌, ℕ, zero, suc, ◌+◌, ◌*◌, ◌/◌, ◌<◌, ◌≤◌, min, cond, ltb, List, [], ◌∷◌, map, get_or, take, sum_by, sum, sym, refl, ap, ◌∙◌, subst, ⊎_elim, zero-mul, mul-div_cancel, add-one, arith}
use native.Mathlib.Nat.{zero-div}
use Rattle.std.specs.List.{range_with_len}
use Rattle.std.proofs.lemmas.List.FromFn.{take-map-range_with_len, sum_by-map-range_with_len_more}
use Rattle.std.proofs.lemmas.List.Sums.{sum_by-cons}
use Rattle.std.proofs.lemmas.Bool.{cases_lt, cond-true, lt-ltb}
use Rattle.division.specs.Shares.{together, share}
use Rattle.division.proofs.Laws.{together_none, together_more}

-- weights of 0 after the first k add nothing
zeros_past : (ws : List ℕ) (k : ℕ) → ((i : ℕ) → k ≤ i → get_or ws i 0 ≡ 0) → sum (take k ws) ≡ sum ws
zeros_past [] zero z = refl
zeros_past [] (suc k) z = refl
zeros_past (w ∷ ws) zero z = omega (arith, sum_by-cons (λ x. x) w ws, z 0 (omega arith), zeros_past ws zero (λ i le. z (suc i) (omega arith)))
zeros_past (w ∷ ws) (suc k) z = omega (arith, sum_by-cons (λ x. x) w ws, sum_by-cons (λ x. x) w (take k ws), zeros_past ws k (λ i le. z (suc i) (omega arith)))

-- all of the amount goes to all weights, and nothing is left to go where there are none
pub all_together : (amount : ℕ) (ws : List ℕ) (k : ℕ) → (sum ws ≡ 0 → amount ≡ 0) → ((i : ℕ) → k ≤ i → get_or ws i 0 ≡ 0) → together amount ws k ≡ amount
all_together amount ws k nothing z = ap (λ n. amount * n / sum ws) (zeros_past ws k z) ∙ ⊎_elim
    (λ some. mul-div_cancel amount some)
    (λ none. let zero_amount : amount ≡ 0 = nothing (omega (arith, none)) in ap (λ n. n * sum ws / sum ws) zero_amount ∙ ap (λ n. n / sum ws) (zero-mul (sum ws)) ∙ zero-div (sum ws) ∙ sym zero_amount)
    (cases_lt 0 (sum ws))

module _ {X : Type 0} (value : X → ℕ) (row : ℕ → X) (blank : X) (amount : ℕ) (ws : List ℕ) (count : ℕ) (each : (k : ℕ) → k < count → value (row k) ≡ share amount ws k) where
  abbrev filled : ℕ → X
  filled k = cond (ltb k count) (row k) blank

  first_lines : (k : ℕ) → k ≤ count → sum_by value (map filled (range_with_len 0 k)) ≡ together amount ws k
  first_lines zero le = sym (together_none amount ws)
  first_lines (suc k) le =
      let here : value (filled k) ≡ share amount ws k = ap value (cond-true (ltb k count) (row k) blank (lt-ltb k count (omega arith))) ∙ each k (omega arith) in
      let next : sum_by value (map filled (range_with_len 0 (k + 1))) ≡ together amount ws (k + 1) =
      omega (arith, sum_by-map-range_with_len_more value filled 0 k k (omega arith), first_lines k (omega arith), here, together_more amount ws k) in
      subst (λ n. sum_by value (map filled (range_with_len 0 n)) ≡ together amount ws n) (add-one k) next

  -- the lines of the first rows, of n places, show all of the amount where the other rows have no weight
  pub all_lines : (n : ℕ) → count ≤ n → (sum ws ≡ 0 → amount ≡ 0) → ((i : ℕ) → count ≤ i → get_or ws i 0 ≡ 0) → sum_by value (take (min count n) (map filled (range_with_len 0 n))) ≡ amount
  all_lines n le nothing z =
      let few : min count n ≡ count = omega arith in
      ap (λ m. sum_by value (take m (map filled (range_with_len 0 n)))) few
      ∙ ap (sum_by value) (take-map-range_with_len filled 0 n count le)
      ∙ first_lines count (omega arith)
      ∙ all_together amount ws count nothing z
