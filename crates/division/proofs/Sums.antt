-- The weights of the first rows together. Assumes nothing.
use Rattle.std.proofs.Common.{◌≡◌, ℕ, ◌+◌, ◌<◌, ◌≤◌, List, length, get_or, take, sum, ap, arith}
use native.Mathlib.Decide.{dec_lt}
use Rattle.std.proofs.lemmas.List.{take_all, get_or_past, get_or-map}
use Rattle.std.proofs.lemmas.List.Sums.{sum_by_more, sum_by-take-le}
use Rattle.division.specs.Shares.{weights}

-- the number at place k adds itself, and past the last number nothing is added
pub sum_more : (ws : List ℕ) (k : ℕ) → sum (take (k + 1) ws) ≡ sum (take k ws) + get_or ws k 0
sum_more ws k = elim (dec_lt k (length ws)) [
  | yes inside ↦ sum_by_more (λ x. x) ws k 0 inside
  | no past ↦ let end : length ws ≤ k = omega (arith, past) in
      omega (arith, ap sum (take_all k ws end), ap sum (take_all (k + 1) ws (omega arith)), get_or_past ws k 0 end)
]

-- the row at place i adds its weight, and the rows up to and with it have no more than all weights
pub weights_more : {R : Type 0} (weight : R → ℕ) (rows : List R) (i : ℕ) (d : R) (before w : ℕ) → i < length rows
    → before ≡ sum (take i (weights weight rows)) → w ≡ weight (get_or rows i d)
    → (before + w ≡ sum (take (i + 1) (weights weight rows))) × (before + w ≤ sum (weights weight rows))
weights_more weight rows i d before w h e f =
    let ws = weights weight rows in
    let more : before + w ≡ sum (take (i + 1) ws) = omega (arith, sum_more ws i, get_or-map weight rows i d 0 h) in
    (more, omega (arith, sum_by-take-le (λ x. x) ws (i + 1)))
