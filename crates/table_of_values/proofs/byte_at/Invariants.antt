use Rattle.std.proofs.Common.{◌≡◌, ℕ, ◌+◌, ◌/◌, ◌%◌, ◌^◌, ◌<◌, eqb}
use Rattle.table_of_values.specs.Writing.{marked}
use Rattle.table_of_values.proofs.byte_at.Given as goal

abbrev pub invariant-loop-bit : goal.invariant-loop-bit
invariant-loop-bit g l =
    (l.byte < 2 ^ l.bit)
    × ((k : ℕ) → k < l.bit → eqb (l.byte / 2 ^ k % 2) 1 ≡ marked g.C.ValueCalendar l.calendar l.regime (l.first + k))
