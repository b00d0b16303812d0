-- The prices of lines, read one after the other. Assumes nothing.
use Rattle.std.proofs.Common.{◌≡◌, ℕ, ◌+◌, List, [], ◌∷◌, ◌++◌, ℤ, Ok, Err, Result, sym, refl, ap, ◌∙◌}
use Rattle.std.proofs.lemmas.List.{append_assoc}
use Rattle.price_line.specs.Prices.{price_of}
use Rattle.price_text.specs.declared.problem.LineProblem.{LineProblem}
use Rattle.price_text.specs.Texts.{price_then, prices_of}

-- prices that were read, before those of the lines that are left
abbrev pub before : List ℤ → Result (List ℤ) LineProblem → Result (List ℤ) LineProblem
before read (Ok left) = Ok (read ++ left)
before read (Err p) = Err p

before_more : (read : List ℤ) (number : ℕ) (price : ℤ) (left : Result (List ℤ) LineProblem) → before read (price_then number (Ok price) left) ≡ before (read ++ price ∷ []) left
before_more read number price (Ok left) = ap {A = List ℤ} (λ l. Ok l) (sym (append_assoc read (price ∷ []) left))
before_more read number price (Err p) = refl

module _ (read : List ℤ) (number : ℕ) {lines : List (List ℕ)} {line : List ℕ} {left : List (List ℕ)} (splits : lines ≡ line ∷ left) where
  pub one_price : (price : ℤ) → price_of line ≡ Ok price → before read (prices_of number lines) ≡ before (read ++ price ∷ []) (prices_of (number + 1) left)
  one_price price is =
      ap (λ ls. before read (prices_of number ls)) splits
      ∙ ap (λ r. before read (price_then number r (prices_of (number + 1) left))) is
      ∙ before_more read number price (prices_of (number + 1) left)
