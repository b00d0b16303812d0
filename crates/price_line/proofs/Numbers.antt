-- Numbers read digit by digit, up to what 32 bits can say, and how many digits were read. Assumes nothing.
use Rattle.std.proofs.Common.{◌≡◌, ℕ, ◌+◌, ◌*◌, ◌%◌, ◌<◌, min, List, [], ◌∷◌, length, fold, ap, ◌∙◌, arith}
use Rattle.price_line.specs.Digits.{digit, number}

abbrev most : ℕ
most = 4294967295

-- how many numbers 64 bits can say
abbrev words : ℕ
words = 18446744073709551616

abbrev pub longer : ℕ × ℕ → ℕ → ℕ × ℕ
longer read c = ((read.0 + 1) % words, min (read.1 * 10 + digit c) most)

abbrev exact : ℕ → ℕ → ℕ
exact n c = n * 10 + digit c

fold_from : (digits : List ℕ) (count read n all : ℕ) → count + length digits ≡ all → all < words → read ≡ min n most → fold longer (count, read) digits ≡ (all, min (fold exact n digits) most)
fold_from [] count read n all long fits e = let same : count ≡ all = omega (arith, long) in ap (λ k. (k, read)) same ∙ ap (λ m. (all, m)) e
fold_from (c ∷ digits) count read n all long fits e =
    let one : (count + 1) % words ≡ count + 1 = omega arith in
    rw one (fold_from digits (count + 1) (min (read * 10 + digit c) most) (exact n c) all (omega arith) fits (omega (arith, e)))

pub counted : (digits : List ℕ) → length digits < words → fold longer (0, 0) digits ≡ (length digits, min (number digits) most)
counted digits fits = fold_from digits 0 0 0 (length digits) (omega arith) fits (omega arith)
