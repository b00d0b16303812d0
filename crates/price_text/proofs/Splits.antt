-- The first line of a text, cut off at its line feed. Assumes nothing.
use Rattle.std.proofs.Common.{◌≡◌, ℕ, suc, ◌+◌, ◌<◌, ◌≤◌, true, false, cond, not, eqb, List, [], ◌∷◌, length, map, take, drop, refl, ap, ◌∙◌, arith}
use Rattle.std.specs.List.{prefix_len}
use Rattle.std.proofs.lemmas.List.{length-map}
use Rattle.std.proofs.lemmas.Bool.{cond_both}
use Rattle.price_text.specs.Lines.{lf, unended, in_first_line, lines_of, without_cr, lines_read}

-- the first line has what stands before the first line feed, and the others what stands after it
abbrev Split : List ℕ → Type 0
Split text = lines_of text ≡ take (prefix_len unended text) text ∷ lines_of (drop (prefix_len unended text + 1) text)

-- a line with one character more in front
abbrev Longer : ℕ → List ℕ → Type 0
Longer c text = in_first_line c (lines_of text) ≡ (c ∷ take (prefix_len unended text) text) ∷ lines_of (drop (prefix_len unended text + 1) text)

split_at : (c : ℕ) (text : List ℕ) → Longer c text → Split (c ∷ text)
split_at c text longer =
    let more = prefix_len unended text in
    elim (eqb c lf) as (λ b. cond b ([] ∷ lines_of text) (in_first_line c (lines_of text)) ≡ take (cond (not b) (1 + more) 0) (c ∷ text) ∷ lines_of (drop (cond (not b) (1 + more) 0 + 1) (c ∷ text))) [
      | true ↦ refl
      | false ↦ longer
          ∙ ap (λ n. take n (c ∷ text) ∷ lines_of (drop (more + 1) text)) {x = suc more} {y = 1 + more} (omega arith)
          ∙ ap (λ n. take (1 + more) (c ∷ text) ∷ lines_of (drop n (c ∷ text))) {x = suc (more + 1)} {y = 1 + more + 1} (omega arith)
    ]

longer : (c : ℕ) (text : List ℕ) → Longer c text
longer c [] = refl
longer c (d ∷ text) = ap (in_first_line c) (split_at d text (longer d text))

split : (text : List ℕ) → 0 < length text → Split text
split [] l = absurd (omega arith)
split (c ∷ text) l = split_at c text (longer c text)

pub lines_read-split : (text : List ℕ) → 0 < length text → lines_read text ≡ without_cr (take (prefix_len unended text) text) ∷ lines_read (drop (prefix_len unended text + 1) text)
lines_read-split text l = ap (map without_cr) (split text l)

in_first_line-short : (c n : ℕ) (lines : List (List ℕ)) → length lines ≤ n → length (in_first_line c lines) ≤ suc n
in_first_line-short c n [] l = omega arith
in_first_line-short c n (line ∷ lines) l = omega (arith, l)

lines_of-short : (text : List ℕ) → length (lines_of text) ≤ length text
lines_of-short [] = omega arith
lines_of-short (c ∷ text) = cond_both (eqb c lf) ([] ∷ lines_of text) (in_first_line c (lines_of text)) (λ (ls : List (List ℕ)). length ls ≤ suc (length text))
    (λ _. omega (arith, lines_of-short text))
    (λ _. in_first_line-short c (length text) (lines_of text) (lines_of-short text))

-- no line is without a character
pub lines_read-short : (text : List ℕ) → length (lines_read text) ≤ length text
lines_read-short text = omega (arith, lines_of-short text, length-map (lines_of text) without_cr)
