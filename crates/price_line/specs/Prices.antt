-- Prices in euros per MWh, spelled as price lists have them. Assumes nothing.
use Rattle.std.specs.Prelude.{ℕ, ◌+◌, ◌*◌, cond, ◌&&◌, List, [], ◌∷◌, drop, ℤ, pos, neg_ℤ, Some, None, Ok, Err, Option, Result, ◌==◌, nat_le, nat_lt}
use Rattle.price_line.specs.declared.flaw.Flaw.{Flaw}
use Rattle.price_line.specs.declared.flaw.Flaw.TheVariants.{NoPrice, PriceTooLarge}
use Rattle.price_line.specs.Digits.{is_digit, digit, digits_in, number_in}

-- the largest price, in hundredths of a euro, with either sign
abbrev pub largest : ℕ
largest = 2147483647

-- the characters of a sign and a decimal point
abbrev pub minus : ℕ
minus = 45

abbrev pub point : ℕ
point = 46

-- what stands after the whole euros, in hundredths: nothing, or a point with one or two digits
abbrev pub hundredths_of : List ℕ → Option ℕ
hundredths_of [] = Some 0
hundredths_of (c ∷ []) = None
hundredths_of (c ∷ tenths ∷ []) = cond (c == point && is_digit tenths) (Some (digit tenths * 10)) None
hundredths_of (c ∷ tenths ∷ rest ∷ []) = cond (c == point && (is_digit tenths && is_digit rest)) (Some (digit tenths * 10 + digit rest)) None
hundredths_of (c ∷ tenths ∷ rest ∷ more ∷ text) = None

-- whole euros and hundredths together, if they are not too large
abbrev pub together : ℕ → Option ℕ → Result ℕ Flaw
together euros None = Err NoPrice
together euros (Some hundredths) = cond (nat_le (euros * 100 + hundredths) largest) (Ok (euros * 100 + hundredths)) (Err PriceTooLarge)

-- an amount without sign: at least one digit, and then the hundredths
abbrev pub amount_of : List ℕ → Result ℕ Flaw
amount_of text = cond (nat_lt 0 (digits_in text)) (together (number_in text) (hundredths_of (drop (digits_in text) text))) (Err NoPrice)

abbrev pub signed : (ℤ → ℤ) → Result ℕ Flaw → Result ℤ Flaw
signed sign (Ok amount) = Ok (sign (pos amount))
signed sign (Err flaw) = Err flaw

-- a price: an amount, or a minus sign and an amount
abbrev pub price_of : List ℕ → Result ℤ Flaw
price_of [] = Err NoPrice
price_of (c ∷ text) = cond (c == minus) (signed neg_ℤ (amount_of text)) (signed (λ z. z) (amount_of (c ∷ text)))
