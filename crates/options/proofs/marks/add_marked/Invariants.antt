use Rattle.std.proofs.Common.{◌≡◌, ℕ, ◌+◌, ◌<◌, ◌≤◌, min, false, cond, length, get_or}
use Rattle.options.specs.Quarters.{most_sum}
use Rattle.options.proofs.marks.add_marked.Given as goal

abbrev pub invariant-loop-place : goal.invariant-loop-place
invariant-loop-place l =
    (length l.next ≡ 8)
    × ((k : ℕ) → k < l.place → get_or l.next k 0 ≡ cond (get_or l.fn.marks k false) (min (get_or l.initial.next k 0 + l.amount) most_sum) (get_or l.initial.next k 0))
    × ((k : ℕ) → l.place ≤ k → get_or l.next k 0 ≡ get_or l.initial.next k 0)
