-- The message of a problem with a text. Assumes nothing.
use Rattle.std.specs.Prelude.{ℕ, List, ◌++◌, codes, decimal}
use Rattle.price_line.specs.Messages.{flaw_text}
use Rattle.price_text.specs.declared.problem.Problem.{Problem}
use Rattle.price_text.specs.declared.problem.Problem.TheVariants.{Line, NoYear, NoMemory}

abbrev pub problem_text : Problem → List ℕ
problem_text (Line p) = codes "line " ++ (decimal p.number ++ (codes ": " ++ flaw_text p.flaw))
problem_text (NoYear last) = codes "line " ++ (decimal last ++ codes ": the prices end, and a year has 35040 or 35136")
problem_text NoMemory = codes "out of memory"
