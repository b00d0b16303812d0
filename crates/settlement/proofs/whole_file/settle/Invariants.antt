use Rattle.std.proofs.Common.{◌≡◌, ℕ, true, List, length}
use Rattle.settlement.specs.Longest.{BoundedHere}
use Rattle.settlement.specs.Progress.{open_still}
use Rattle.settlement.proofs.Reading.{to_come, Reading}
use Rattle.settlement.proofs.whole_file.settle.Given as goal

abbrev pub invariant-loop-piece : goal.invariant-loop-piece
invariant-loop-piece g l =
    (length l.piece ≡ 32768)
    × (open_still l.settlement.outcome ≡ true → BoundedHere l.settlement)
    × ((file : List ℕ) → g.I.Input.brings l.initial.input file → Reading g.I.Input.brings l.table file l.input l.settlement)

abbrev pub decreases-loop-piece : goal.decreases-loop-piece
decreases-loop-piece g l = to_come l.settlement
