use Rattle.std.proofs.Common.{◌<◌, false}
use Rattle.account.specs.Calls.{mark}
use Rattle.valuing.proofs.Filling.{Filled}
use Rattle.account.proofs.entering.marks_of.Given as goal

abbrev pub invariant-loop-place : goal.invariant-loop-place
invariant-loop-place g l =
    let m = g.C.ValueCalendar in
    Filled (mark m l.calendar l.register l.quarter) false 8 l.place l.marks × (0 < l.place → l.quarter < m.span l.calendar)
