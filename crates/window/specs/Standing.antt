-- However a file comes in, a window stands in it from call to call and answers for the whole of it. Assumes nothing.
use Rattle.std.specs.Prelude.{◌≡◌, ℕ, ◌≤◌, true, List, [], ◌++◌, length, drop}
use Rattle.window.specs.declared.Window.{Window}
use Rattle.tagged_file.specs.Decoded.{Decoded, decoded}
use Rattle.window.specs.Held.{pending, ready}
use Rattle.window.specs.Limits.{most_offset}

-- what a window holds, and then what is still to come, are the bytes of the file from the window's offset on; nothing is still to come once the input has no more; and the file is no longer than an offset can tell
pub record Stands (file : List ℕ) (w : Window) (rest : List ℕ) : Type 0 where
  pub on : drop w.offset file ≡ pending w ++ rest
  pub over : w.finished ≡ true → rest ≡ []
  pub told : length file ≤ most_offset

-- a new window stands in every file, and all of it is still to come
abbrev pub StandsAtStart : Window → Type 0
StandsAtStart w = (file : List ℕ) → length file ≤ most_offset → Stands file w file

-- where w stands in a file, so does v, once these bytes came in
abbrev pub StandsOn : Window → List ℕ → Window → Type 0
StandsOn w came v = (file rest : List ℕ) → Stands file w (came ++ rest) → Stands file v rest

-- where w stands in a file and nothing is still to come, so does v
abbrev pub StandsAtEnd : Window → Window → Type 0
StandsAtEnd w v = (file : List ℕ) → Stands file w [] → Stands file v []

-- where w stands in a file and is ready, this is what the bytes of the file say from w's offset on
abbrev pub AnswersForFile : Window → Decoded → Type 0
AnswersForFile w answer = (file rest : List ℕ) → Stands file w rest → ready w ≡ true → answer ≡ decoded w.offset (drop w.offset file)
