-- The fields of the line with the run lengths, one after the other. Assumes nothing.
use Rattle.std.proofs.Common.{◌≡◌, ℕ, zero, suc, ◌<◌, ◌≤◌, List, [], ◌∷◌, ◌++◌, length, take, Ok, Err, Result, sym, refl, ap, ◌∙◌, arith}
use Rattle.std.proofs.lemmas.List.{append_assoc, append-nil, take_all}
use Rattle.price_line.specs.declared.flaw.Flaw.{Flaw}
use Rattle.price_line.specs.declared.flaw.Flaw.TheVariants.{NoRunLengths}
use Rattle.price_line.specs.RunLengths.{Field, field_of, in_front, followed, fields_of}

-- fields that were read, before those that are left
abbrev pub before : List ℕ → Result (List ℕ) Flaw → Result (List ℕ) Flaw
before read (Ok left) = Ok (read ++ left)
before read (Err flaw) = Err flaw

before_more : (read : List ℕ) (length : ℕ) (left : Result (List ℕ) Flaw) → before read (in_front length left) ≡ before (read ++ length ∷ []) left
before_more read length (Ok left) = ap {A = List ℕ} (λ l. Ok l) (sym (append_assoc read (length ∷ []) left))
before_more read length (Err flaw) = refl

module _ (read : List ℕ) (left rest : ℕ) (text : List ℕ) (more : left ≡ suc rest) where
  pub one_more : (field : Field) → field_of text ≡ Ok field → before read (fields_of left text) ≡ before (read ++ field.length ∷ []) (fields_of rest field.rest)
  one_more field is =
      ap (λ n. before read (fields_of n text)) more
      ∙ ap (λ r. before read (followed r (λ f. fields_of rest f.rest))) is
      ∙ before_more read field.length (fields_of rest field.rest)

-- text that is left over after the last field
pub left_over : (read : List ℕ) (left : ℕ) (text : List ℕ) → left ≡ 0 → 0 < length text → before read (fields_of left text) ≡ Err NoRunLengths
left_over read zero [] e l = absurd (omega arith)
left_over read zero (c ∷ text) e l = refl
left_over read (suc left) text e l = absurd (omega arith)

-- no text after the last field
pub all_read : (n : ℕ) (lengths : List ℕ) (left : ℕ) (text : List ℕ) → length lengths ≤ n → left ≡ 0 → length text ≡ 0 → before (take n lengths) (fields_of left text) ≡ Ok lengths
all_read n lengths zero [] l e none = ap {A = List ℕ} (λ xs. Ok xs) (append-nil (take n lengths) ∙ take_all n lengths l)
all_read n lengths zero (c ∷ text) l e none = absurd (omega arith)
all_read n lengths (suc left) text l e none = absurd (omega arith)
