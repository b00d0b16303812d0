use Rattle.std.proofs.Common.{ℕ, ◌*◌, ◌/◌, ◌%◌, ◌<◌, get_or}
use Rattle.calendar.specs.Tables.{row_bytes}
use Rattle.table_of_values.specs.Writing.{Marks}
use Rattle.table_of_values.proofs.table_of.Given as goal

abbrev pub invariant-loop-place : goal.invariant-loop-place
invariant-loop-place g l = (k : ℕ) → k < l.place → Marks g.C.ValueCalendar l.calendar (k / row_bytes) (k % row_bytes * 8) (get_or l.byte-items k 0)
