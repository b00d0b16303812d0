use Rattle.std.proofs.Common.{◌≡◌, ◌*◌, ◌≤◌, take, sum}
use Rattle.division.specs.Shares.{weights}
use Rattle.division.proofs.all_weights.Given as goal

abbrev pub invariant-loop-row : goal.invariant-loop-row
invariant-loop-row g l =
    (l.all ≡ sum (take l.row-index (weights g.R.Weighted.weight l.rows)))
    × (l.all ≤ 4294967295 * l.row-index)
