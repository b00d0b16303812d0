use Rattle.settlement.specs.Progress.{ahead}
use Rattle.settlement.specs.Settling.{Keeps}
use Rattle.settlement.proofs.settlement.Settlement.advance.Given as goal

abbrev pub invariant-loop-self : goal.invariant-loop-self
invariant-loop-self l = Keeps l.initial.self l.self

abbrev pub decreases-loop-self : goal.decreases-loop-self
decreases-loop-self l = ahead l.self
