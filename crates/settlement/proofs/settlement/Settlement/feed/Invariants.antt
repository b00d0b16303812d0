use Rattle.std.proofs.Common.{◌≡◌, ℕ, ◌+◌, true, cond, List, ◌++◌, length}
use Rattle.calendar.specs.declared.published_table.PublishedTable.{PublishedTable}
use Rattle.settlement.specs.Longest.{BoundedHere, came_in}
use Rattle.settlement.specs.Progress.{open_still}
use Rattle.settlement.specs.Settling.{Known, StandsIn}
use Rattle.settlement.proofs.settlement.Settlement.feed.Given as goal

abbrev pub invariant-loop-rest : goal.invariant-loop-rest
invariant-loop-rest l =
    (BoundedHere l.initial.self → open_still l.self.outcome ≡ true → BoundedHere l.self × (came_in l.self + length l.rest ≡ came_in l.initial.self + length l.piece))
    × ((known : Known) (table : PublishedTable) (file more : List ℕ) → StandsIn known table file (l.piece ++ more) l.initial.self → StandsIn known table file (l.rest ++ more) l.self)

abbrev pub decreases-loop-rest : goal.decreases-loop-rest
decreases-loop-rest l = length l.rest + cond (open_still l.self.outcome) 1 0
