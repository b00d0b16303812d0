-- A byte to which a higher bit is added keeps its lower bits. Assumes nothing.
use Rattle.std.proofs.Common.{◌≡◌, ℕ, ◌+◌, ◌-◌, ◌*◌, ◌/◌, ◌%◌, ◌^◌, ◌<◌, ap, ◌∙◌, arith}
use native.Mathlib.Nat.{add-mul-div_right}
use lib.Bits.{bit_or}
use Rattle.std.proofs.lemmas.Nat.{pow_pos, pow-add, or_comm, or_shifted, one_shl, div-mul-add, div_below}

module _ (x n : ℕ) (below : x < 2 ^ n) where
  pub joined : n < 8 → bit_or x (1 * 2 ^ n % 2 ^ 8) ≡ 1 * 2 ^ n + x
  joined l = ap (bit_or x) (one_shl n 8 l ∙ omega arith) ∙ or_comm x (1 * 2 ^ n) ∙ or_shifted 1 n x below

  -- the added bit is 1
  pub added : (1 * 2 ^ n + x) / 2 ^ n % 2 ≡ 1
  added = ap (λ q. q % 2) (div-mul-add 1 (2 ^ n) x below)

  -- without it, that bit is 0
  pub unadded : x / 2 ^ n % 2 ≡ 0
  unadded = let none : x / 2 ^ n < 1 = div_below x (2 ^ n) 1 (pow_pos n) (omega arith) in omega (arith, none)

  pub kept : (k : ℕ) → k < n → (1 * 2 ^ n + x) / 2 ^ k % 2 ≡ x / 2 ^ k % 2
  kept k l =
      let half = 2 ^ (n - k - 1) in
      let places : n ≡ 1 + (n - k - 1) + k = omega arith in
      let power : 2 ^ n ≡ 2 * half * 2 ^ k = ap (λ j. 2 ^ j) places ∙ pow-add 2 (1 + (n - k - 1)) k ∙ ap (λ p. p * 2 ^ k) (pow-add 2 1 (n - k - 1)) in
      let split : 1 * 2 ^ n + x ≡ x + 2 * half * 2 ^ k = omega (arith, power) in
      ap (λ y. y / 2 ^ k % 2) split ∙ ap (λ q. q % 2) (add-mul-div_right x (2 * half) (pow_pos k)) ∙ omega arith

  pub bounded : 1 * 2 ^ n + x < 2 ^ (n + 1)
  bounded = omega (arith, pow-add 2 n 1)
