-- However a file comes in, and however long it is, a window lies in it from call to call and answers for the whole of it. Assumes nothing.
use Rattle.std.specs.Prelude.{◌≡◌, ℕ, ◌+◌, ◌≤◌, true, List, [], ◌++◌, length, drop}
use Rattle.window.specs.declared.Window.{Window}
use Rattle.tagged_file.specs.Decoded.{Decoded, decoded}
use Rattle.window.specs.Held.{pending, ready}
use Rattle.window.specs.Limits.{most_offset}

-- what a window holds, and then what is still to come, are the bytes of the file from the window's offset on; and nothing is still to come once the input has no more
pub record LiesIn (file : List ℕ) (w : Window) (rest : List ℕ) : Type 0 where
  pub on : drop w.offset file ≡ pending w ++ rest
  pub over : w.finished ≡ true → rest ≡ []

-- a new window lies in every file, and all of it is still to come
abbrev pub LiesAtStart : Window → Type 0
LiesAtStart w = (file : List ℕ) → LiesIn file w file

-- where w lies in a file, so does v, once these bytes came in
abbrev pub LiesOn : Window → List ℕ → Window → Type 0
LiesOn w came v = (file rest : List ℕ) → LiesIn file w (came ++ rest) → LiesIn file v rest

-- where w lies in a file, so does v, which passed some of what w holds, as long as an offset can tell where that ends
abbrev pub LiesPast : Window → Window → Type 0
LiesPast w v = (file rest : List ℕ) → w.offset + length (pending w) ≤ most_offset → LiesIn file w rest → LiesIn file v rest

-- where w lies in a file and nothing is still to come, so does v
abbrev pub LiesAtEnd : Window → Window → Type 0
LiesAtEnd w v = (file : List ℕ) → LiesIn file w [] → LiesIn file v []

-- where w lies in a file and is ready, this is what the bytes of the file say from w's offset on
abbrev pub AnswersForAnyFile : Window → Decoded → Type 0
AnswersForAnyFile w answer = (file rest : List ℕ) → LiesIn file w rest → ready w ≡ true → answer ≡ decoded w.offset (drop w.offset file)
