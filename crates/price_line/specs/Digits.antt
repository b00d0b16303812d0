-- Numbers spelled by decimal digits. Assumes nothing.
use Rattle.std.specs.Prelude.{◌≡◌, ℕ, ◌+◌, ◌-◌, ◌*◌, ◌^◌, ◌<◌, min, Bool, ◌&&◌, List, take, drop, fold, nat_le}
use Rattle.std.specs.List.{prefix_len}

-- the characters 0 to 9
abbrev pub is_digit : ℕ → Bool
is_digit c = nat_le 48 c && nat_le c 57

abbrev pub digit : ℕ → ℕ
digit c = c - 48

-- the number that digits spell, the first counting most
abbrev pub number : List ℕ → ℕ
number digits = fold (λ n c. n * 10 + digit c) 0 digits

-- how many digits stand at the front
abbrev pub digits_in : List ℕ → ℕ
digits_in text = prefix_len is_digit text

-- the number that these spell
abbrev pub number_in : List ℕ → ℕ
number_in text = number (take (digits_in text) text)

-- the number at the front of a text, as it is read up to what 32 bits can say, and the text after its digits
pub record Read (text : List ℕ) (read : ℕ) (rest : List ℕ) : Type 0 where
  pub some : 0 < digits_in text
  pub spelled : read ≡ min (number_in text) (2 ^ 32 - 1)
  pub after : rest ≡ drop (digits_in text) text
