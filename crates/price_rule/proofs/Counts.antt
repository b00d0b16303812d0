-- Negative prices counted back and on from a quarter's end, by their places. Assumes nothing.
use Rattle.std.proofs.Common.{◌≡◌, ℕ, ◌+◌, ◌-◌, ◌<◌, ◌≤◌, min, Bool, true, false, List, length, get_or, take, drop, reverse, ℤ, pos, sym, ap, ◌∙◌, ⊎_elim, arith}
use lib.Signed.{lt_z}
use Rattle.std.specs.List.{prefix_len, suffix_len}
use Rattle.std.proofs.lemmas.List.{get_or-drop, get_or-take, get_or-reverse, get_or_past, take_rest, length-drop, length-take, length-take-le, length-reverse}
use Rattle.std.proofs.lemmas.List.Sums.{prefix_len-le-length, prefix_len_passes, prefix_len_stops}
use Rattle.std.proofs.lemmas.Bool.{cases_lt}
use Rattle.price_rule.specs.Prices.{negative}

-- so many prices right before the end are negative, and the one before these is not, unless the limit is reached
pub record NegativeBefore (prices : List ℤ) (end limit count : ℕ) : Type 0 where
  pub limited : count ≤ limit
  pub inside : count ≤ end
  pub together : (k : ℕ) → end ≤ k + count → k < end → negative prices k ≡ true
  pub stopped : count < limit → (k : ℕ) → k + count + 1 ≡ end → negative prices k ≡ false

-- so many prices from the start on are negative, and the one after these is not, unless the limit is reached
pub record NegativeFrom (prices : List ℤ) (start limit count : ℕ) : Type 0 where
  pub limited : count ≤ limit
  pub together : (k : ℕ) → start ≤ k → k < start + count → negative prices k ≡ true
  pub stopped : count < limit → negative prices (start + count) ≡ false

abbrev below_zero : ℤ → Bool
below_zero price = lt_z price (pos 0)

-- what was counted back over the last prices until the end
module _ (prices : List ℤ) (end limit count : ℕ) {until : List ℤ} {from : ℕ} (known : end ≤ length prices) (upto : until ≡ take end prices) (cut : from ≡ end - limit) (counted : count ≡ suffix_len below_zero (take (length until - from) (drop from until))) where
  abbrev near : List ℤ
  near = drop (end - limit) (take end prices)

  is_near : take (length until - from) (drop from until) ≡ near
  is_near = take_rest until from ∙ ap (drop from) upto ∙ ap (λ n. drop n (take end prices)) cut

  counted_near : count ≡ suffix_len below_zero near
  counted_near = counted ∙ ap (suffix_len below_zero) is_near

  long : length near ≡ end - (end - limit)
  long = length-drop (end - limit) (take end prices) ∙ ap (λ n. n - (end - limit)) (length-take-le end prices known)

  at : (k j : ℕ) → k + j + 1 ≡ end → j < length near → get_or (reverse near) j (pos 0) ≡ get_or prices k (pos 0)
  at k j e l =
      get_or-reverse near j (pos 0) l
      ∙ get_or-drop (end - limit) (take end prices) (length near - 1 - j) (pos 0)
      ∙ get_or-take end prices (end - limit + (length near - 1 - j)) (pos 0) (omega (arith, long))
      ∙ ap (λ i. get_or prices i (pos 0)) {x = end - limit + (length near - 1 - j)} {y = k} (omega (arith, long))

  few : count ≤ length near
  few = omega (arith, counted_near, prefix_len-le-length below_zero (reverse near), length-reverse near)

  pub counted_back : NegativeBefore prices end limit count
  counted_back = record {
    limited = omega (arith, few, long);
    inside = omega (arith, few, long);
    together = λ k h l. let j = end - 1 - k in
        ap below_zero (sym (at k j (omega arith) (omega (arith, few))))
        ∙ prefix_len_passes below_zero (reverse near) j (pos 0) (omega (arith, counted_near));
    stopped = λ short k e.
        ap below_zero (sym (at k count (omega arith) (omega (arith, long))))
        ∙ ap (λ n. below_zero (get_or (reverse near) n (pos 0))) counted_near
        ∙ prefix_len_stops below_zero (reverse near) (pos 0) (omega (arith, counted_near, long, length-reverse near));
  }

-- what was counted on over the next prices from the start
module _ (prices : List ℤ) (start limit count : ℕ) {later : List ℤ} {most : ℕ} (rest : later ≡ drop start prices) (cut : most ≡ min (length later) limit) (counted : count ≡ prefix_len below_zero (take most later)) where
  long_next : length (take most later) ≡ min (length prices - start) limit
  long_next = omega (arith, length-take most later, ap length rest, length-drop start prices, cut)

  at_next : (j : ℕ) → j < length (take most later) → get_or (take most later) j (pos 0) ≡ get_or prices (start + j) (pos 0)
  at_next j l = get_or-take most later j (pos 0) (omega (arith, l, length-take most later)) ∙ ap (λ xs. get_or xs j (pos 0)) rest ∙ get_or-drop start prices j (pos 0)

  few_next : count ≤ length (take most later)
  few_next = omega (arith, prefix_len-le-length below_zero (take most later))

  pub counted_on : NegativeFrom prices start limit count
  counted_on = record {
    limited = omega (arith, few_next, long_next);
    together = λ k h l. let j = k - start in
        ap (negative prices) {x = k} {y = start + j} (omega arith)
        ∙ ap below_zero (sym (at_next j (omega (arith, few_next))))
        ∙ prefix_len_passes below_zero (take most later) j (pos 0) (omega arith);
    stopped = λ short. ⊎_elim
        (λ more. ap below_zero (sym (at_next count more))
        ∙ ap (λ n. below_zero (get_or (take most later) n (pos 0))) counted
        ∙ prefix_len_stops below_zero (take most later) (pos 0) (omega arith))
        (λ none. ap below_zero (get_or_past prices (start + count) (pos 0) (omega (arith, none, long_next))))
        (cases_lt count (length (take most later)));
  }
