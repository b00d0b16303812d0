-- The laws of a division, for every amount and all weights. Assumes nothing.
use Rattle.std.proofs.Common.{◌≡◌, ℕ, zero, suc, ◌+◌, ◌-◌, ◌*◌, ◌/◌, ◌<◌, ◌≤◌, List, length, get_or, take, sum, sym, ap, ◌∙◌, mul-le-mul_right, mul_comm, mul-le-mul_left, mul-zero, le-div_iff_mul-le, mul-add, div-mul-le_self, mul-div_cancel, add-one, arith}
use native.Mathlib.Decide.{dec_lt}
use native.Mathlib.Nat.{div-le_of_le-mul, div-zero, zero-div, add-mul-div_left}
use Rattle.std.proofs.lemmas.List.{take_all, get_or_past}
use Rattle.division.specs.Shares.{together, share, Divided}
use Rattle.division.proofs.Sums.{sum_more}

-- a larger number has no smaller quotient
pub div_mono : (a b m : ℕ) → a ≤ b → a / m ≤ b / m
div_mono a b zero h = omega (arith, div-zero a, div-zero b)
div_mono a b (suc m) h =
    let w : a / suc m * suc m ≤ b = omega (arith, div-mul-le_self a (suc m)) in
    (le-div_iff_mul-le {k = suc m} {x = a / suc m} {y = b} (omega arith)).1 w

-- some of the weights get no more than the amount
pub part_le_amount : (amount some all : ℕ) → some ≤ all → amount * some / all ≤ amount
part_le_amount amount some all h = div-le_of_le-mul all (omega (arith, mul-le-mul_left amount h, mul_comm amount all))

-- where the amount does not exceed all weights, one weight more gets no more than itself
part_more : (amount some weight all more : ℕ) → amount ≤ all → more ≡ some + weight → amount * more / all - amount * some / all ≤ weight
part_more amount some weight zero more l e = omega (arith, div-zero (amount * more))
part_more amount some weight (suc n) more l e =
    let all = suc n in
    let d : amount * more ≤ amount * some + all * weight = omega (arith, ap (λ m. amount * m) e, mul-add amount some weight, mul-le-mul_right weight l) in
    omega (arith, div_mono (amount * more) (amount * some + all * weight) all d, add-mul-div_left (amount * some) weight {y = all} (omega arith))

-- no rows get nothing
pub together_none : (amount : ℕ) (ws : List ℕ) → together amount ws 0 ≡ 0
together_none amount ws = rw mul-zero (zero-div (sum ws))

-- with one row more the rows do not get less
pub together_more : (amount : ℕ) (ws : List ℕ) (k : ℕ) → together amount ws k ≤ together amount ws (k + 1)
together_more amount ws k =
    let m : sum (take k ws) ≤ sum (take (k + 1) ws) = omega (arith, sum_more ws k) in
    div_mono (amount * sum (take k ws)) (amount * sum (take (k + 1) ws)) (sum ws) (mul-le-mul_left amount m)

-- where some weight is not 0, all rows together get the amount
pub whole : (amount : ℕ) (ws : List ℕ) → 0 < sum ws → together amount ws (length ws) ≡ amount
whole amount ws h = rw (take_all (length ws) ws (omega arith)) (mul-div_cancel amount h)

-- where the amount does not exceed all weights, no share exceeds its row's weight
pub within : (amount : ℕ) (ws : List ℕ) (k : ℕ) → amount ≤ sum ws → share amount ws k ≤ get_or ws k 0
within amount ws k l = part_more amount (sum (take k ws)) (get_or ws k 0) (sum ws) (sum (take (k + 1) ws)) l (sum_more ws k)

-- a row of weight 0 gets 0
pub nothing : (amount : ℕ) (ws : List ℕ) (k : ℕ) → get_or ws k 0 ≡ 0 → share amount ws k ≡ 0
nothing amount ws k z =
    let e : sum (take (k + 1) ws) ≡ sum (take k ws) = omega (arith, sum_more ws k) in
    omega (arith, ap (λ n. amount * n / sum ws) e)

-- where all weights are 0, every row gets 0
pub none : (amount : ℕ) (ws : List ℕ) (k : ℕ) → sum ws ≡ 0 → share amount ws k ≡ 0
none amount ws k z =
    let e : together amount ws (k + 1) ≡ 0 = ap (λ n. amount * sum (take (k + 1) ws) / n) z ∙ div-zero (amount * sum (take (k + 1) ws)) in
    omega (arith, e)

-- the shares of the first rows add up to what these rows get together
pub first : (amount : ℕ) (ws shares : List ℕ) → ((k : ℕ) → get_or shares k 0 ≡ share amount ws k) → (k : ℕ) → sum (take k shares) ≡ together amount ws k
first amount ws shares each zero = sym (together_none amount ws)
first amount ws shares each (suc k) =
    rw (← add-one k) (omega (arith, sum_more shares k, first amount ws shares each k, each k, together_more amount ws k))

-- where each row gets its share, past the last row too
each_past : (amount : ℕ) (ws shares : List ℕ) → length shares ≡ length ws → ((k : ℕ) → k < length ws → get_or shares k 0 ≡ share amount ws k)
    → (k : ℕ) → get_or shares k 0 ≡ share amount ws k
each_past amount ws shares as_many each k = elim (dec_lt k (length ws)) [
  | yes inside ↦ each k inside
  | no past ↦ let end : length ws ≤ k = omega (arith, past) in
      get_or_past shares k 0 (omega arith) ∙ sym (nothing amount ws k (get_or_past ws k 0 end))
]

-- as many shares as rows, each its row's own, have all that a division promises
pub divided : (amount : ℕ) (ws shares : List ℕ) → length shares ≡ length ws → ((k : ℕ) → k < length ws → get_or shares k 0 ≡ share amount ws k)
    → Divided amount ws shares
divided amount ws shares as_many each_row =
    let each = each_past amount ws shares as_many each_row in
    record {
      as_many = as_many;
      each = each;
      first = first amount ws shares each;
      whole = λ h. ap sum (sym (take_all (length ws) shares (omega arith))) ∙ first amount ws shares each (length ws) ∙ whole amount ws h;
      within = λ l k. omega (arith, each k, within amount ws k l);
      nothing = λ k z. each k ∙ nothing amount ws k z;
      none = λ z k. each k ∙ none amount ws k z;
    }
