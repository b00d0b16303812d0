-- A marked sum stays within the sum over all quarters. Assumes nothing.
use Rattle.std.proofs.Common.{ℕ, ◌+◌, ◌≤◌, Bool, true, false, cond, List, length, get_or, arith}
use native.Mathlib.Decide.{dec_lt}
use Rattle.std.proofs.lemmas.List.{get_or_past}
use Rattle.options.specs.Quarters.{Marks}

cond_le : (b : Bool) (n : ℕ) → cond b n 0 ≤ n
cond_le true n = omega arith
cond_le false n = omega arith

pub marked_within : (s t : List ℕ) (marks : List Bool) (amount most : ℕ) → Marks s marks amount t → ((p : ℕ) → get_or s p 0 ≤ most) → (p : ℕ) → get_or t p 0 ≤ most + amount
marked_within s t marks amount most m h p = elim (dec_lt p 8) [
  | yes l ↦ omega (arith, m.each p l, h p, cond_le (get_or marks p false) amount)
  | no n ↦ let z : length t ≤ p = omega (arith, m.places, n) in omega (arith, get_or_past t p 0 z)
]
