-- Where the bytes of a file come from, and what is read of them. Assumes nothing.
use Rattle.std.specs.Prelude.{◌≡◌, ℕ, ◌<◌, ◌≤◌, ◌⊎◌, List, [], ◌++◌, length, take, Ok, Result}
use Rattle.fault.specs.declared.Fault.{Fault}
use Rattle.calendar.specs.declared.published_table.PublishedTable.{PublishedTable}
use Rattle.statement.specs.declared.Statement.{Statement}
use Rattle.settlement.specs.Spelled.{FileSettlesTo}
use Rattle.settlement.specs.Longest.{longest_file}

-- `brings input file`: what is still to come from the input is this file
module _ {I : Type 0} (brings : I → List ℕ → Type 0) where
  -- n bytes came in at the front of a piece: what was still to come goes on after them, and none came only at its end
  pub record Came (before : I) (piece : List ℕ) (n : ℕ) (after : I) : Type 0 where
    pub within : n ≤ length piece
    pub goes_on : (file : List ℕ) → brings before file → (rest : List ℕ) × (file ≡ take n piece ++ rest) × brings after rest
    pub ends : n ≡ 0 → 0 < length piece → (file : List ℕ) → brings before file → file ≡ []

  -- a file was read as far as its outcome asks: to its end, or until nothing that could follow changes the outcome; and one that comes to a statement is not longer than the longest
  pub record ReadFor (table : PublishedTable) (file : List ℕ) (out : Result Statement Fault) (after : I) : Type 0 where
    pub read : List ℕ
    pub rest : List ℕ
    pub parts : file ≡ read ++ rest
    pub left : brings after rest
    pub comes : FileSettlesTo table file out
    pub long : (statement : Statement) → out ≡ Ok statement → length file ≤ longest_file
    pub stops : (rest ≡ []) ⊎ ((other : List ℕ) → FileSettlesTo table (read ++ other) out)

  -- the outcome is what every file comes to that the input can bring
  abbrev pub SettlesInput : PublishedTable → I → Result Statement Fault → I → Type 0
  SettlesInput table before out after = (file : List ℕ) → brings before file → ReadFor table file out after
