use Rattle.std.proofs.Common.{◌≡◌, ◌-◌, take}
use Rattle.price_line.specs.RunLengths.{fields_of, run_lengths_of}
use Rattle.price_line.proofs.Fields.{before}
use Rattle.price_line.proofs.run_lengths.run_lengths.Given as goal

abbrev pub invariant-loop-length : goal.invariant-loop-length
invariant-loop-length l = before (take l.length-index l.length-items) (fields_of (8 - l.length-index) l.rest) ≡ run_lengths_of l.line
