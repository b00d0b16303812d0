use Rattle.std.proofs.Common.{◌≡◌, ℕ, ◌<◌, length, get_or, take, sum}
use Rattle.division.specs.Shares.{weights, together, share}
use Rattle.division.proofs.share_out.Given as goal

abbrev pub invariant-loop-place : goal.invariant-loop-place
invariant-loop-place g l =
    let ws = weights g.R.Weighted.weight l.rows in
    (l.weights_so_far ≡ sum (take l.place ws))
    × (l.given ≡ together l.amount ws l.place)
    × (length l.shares ≡ length ws)
    × ((k : ℕ) → k < l.place → get_or l.shares k 0 ≡ share l.amount ws k)
