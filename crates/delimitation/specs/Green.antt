-- The green part of an amount. Assumes nothing.
use Rattle.std.specs.Prelude.{◌≡◌, ℕ, ◌-◌, ◌*◌, ◌/◌, ◌≤◌}
use Rattle.std.proofs.Common.{ap, ◌∙◌, mul-le-mul_right}
use Rattle.std.proofs.Math.Nat.{div-zero, sub-le}
use Rattle.division.proofs.Laws.{div_mono, part_le_amount}
use Rattle.delimitation.specs.declared.DelimitationOption.{DelimitationOption}
use Rattle.delimitation.specs.Delimitation.{green}

module _ (o : DelimitationOption) where
  -- it is no more than the amount
  pub green_within : (n : ℕ) → green o n ≤ n
  green_within n = part_le_amount n (o.store_in - o.grid_charging) o.store_in (sub-le o.store_in o.grid_charging)

  -- a larger amount has no smaller one
  pub green_ordered : (m n : ℕ) → m ≤ n → green o m ≤ green o n
  green_ordered m n h = div_mono _ _ o.store_in (mul-le-mul_right (o.store_in - o.grid_charging) h)

  -- where nothing was charged it is 0
  pub green_empty : (n : ℕ) → o.store_in ≡ 0 → green o n ≡ 0
  green_empty n e = ap (λ all. n * (o.store_in - o.grid_charging) / all) e ∙ div-zero (n * (o.store_in - o.grid_charging))
