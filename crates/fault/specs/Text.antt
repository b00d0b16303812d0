-- How a refusal is printed. Assumes nothing.
use Rattle.std.specs.Prelude.{ℕ, List, ◌++◌, codes, decimal}
use Rattle.fault.specs.declared.Fault.{Fault}
use Rattle.fault.specs.Causes.{code, layer, number}

abbrev pub fault_text : Fault → List ℕ
fault_text f = codes "fault layer " ++ (decimal (code (layer f.cause)) ++ (codes " number " ++ (decimal (number f.cause) ++ (codes " place " ++ decimal f.place))))
