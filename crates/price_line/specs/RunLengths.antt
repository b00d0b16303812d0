-- The run lengths, spelled in one line: the word runs, and for each regime a space and a number. Assumes nothing.
use Rattle.std.specs.Prelude.{ℕ, zero, suc, Bool, cond, ◌&&◌, List, [], ◌∷◌, drop, Ok, Err, Result, ◌==◌, nat_le, nat_lt, slice_index}
use Rattle.price_line.specs.declared.flaw.Flaw.{Flaw}
use Rattle.price_line.specs.declared.flaw.Flaw.TheVariants.{NoRunLengths, RunLengthTooLarge}
use Rattle.price_line.specs.Digits.{digits_in, number_in}

abbrev pub longest : ℕ
longest = 65535

abbrev pub space : ℕ
space = 32

-- the line starts with the characters r, u, n and s
abbrev pub says_runs : List ℕ → Bool
says_runs line = slice_index line 0 == 114 && (slice_index line 1 == 117 && (slice_index line 2 == 110 && slice_index line 3 == 115))

-- a space and a number: the run length, and the text after them
pub record Field : Type 0 where
  pub length : ℕ
  pub rest : List ℕ

abbrev pub field : ℕ → List ℕ → Field
field length rest = record { length = length; rest = rest }

-- a space and then at least one digit
abbrev pub field_of : List ℕ → Result Field Flaw
field_of [] = Err NoRunLengths
field_of (c ∷ text) =
    cond (c == space && nat_lt 0 (digits_in text))
    (cond (nat_le (number_in text) longest) (Ok (field (number_in text) (drop (digits_in text) text))) (Err RunLengthTooLarge))
    (Err NoRunLengths)

-- the first run length in front of the others
abbrev pub in_front : ℕ → Result (List ℕ) Flaw → Result (List ℕ) Flaw
in_front length (Ok lengths) = Ok (length ∷ lengths)
in_front length (Err flaw) = Err flaw

abbrev pub followed : Result Field Flaw → (Field → Result (List ℕ) Flaw) → Result (List ℕ) Flaw
followed (Ok field) others = in_front field.length (others field)
followed (Err flaw) others = Err flaw

-- so many fields, and nothing after them
abbrev pub fields_of : ℕ → List ℕ → Result (List ℕ) Flaw
fields_of zero [] = Ok []
fields_of zero (c ∷ text) = Err NoRunLengths
fields_of (suc count) text = followed (field_of text) (λ field. fields_of count field.rest)

abbrev pub run_lengths_of : List ℕ → Result (List ℕ) Flaw
run_lengths_of line = cond (says_runs line) (fields_of 8 (drop 4 line)) (Err NoRunLengths)
