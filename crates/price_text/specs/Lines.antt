-- The lines of a text. Assumes nothing.
use Rattle.std.specs.Prelude.{ℕ, ◌-◌, Bool, cond, not, List, [], ◌∷◌, length, take, map, ◌==◌, slice_index}

-- line feed and carriage return
abbrev pub lf : ℕ
lf = 10

abbrev pub cr : ℕ
cr = 13

-- a character in front of the first line
abbrev pub in_first_line : ℕ → List (List ℕ) → List (List ℕ)
in_first_line c [] = (c ∷ []) ∷ []
in_first_line c (line ∷ lines) = (c ∷ line) ∷ lines

-- each line feed ends a line; the last line may lack it
abbrev pub lines_of : List ℕ → List (List ℕ)
lines_of [] = []
lines_of (c ∷ text) = cond (c == lf) ([] ∷ lines_of text) (in_first_line c (lines_of text))

-- whether the line goes on
abbrev pub unended : ℕ → Bool
unended c = not (c == lf)

-- a line without a carriage return at its end
abbrev pub without_cr : List ℕ → List ℕ
without_cr line = take (length line - cond (slice_index line (length line - 1) == cr) 1 0) line

-- the lines of a text as they are read, each without what ends it
abbrev pub lines_read : List ℕ → List (List ℕ)
lines_read text = map without_cr (lines_of text)
