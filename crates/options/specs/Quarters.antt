-- What every option holds of the quarters it took. Assumes nothing.
use Rattle.std.specs.Prelude.{◌≡◌, ℕ, ◌+◌, ◌<◌, min, Bool, false, cond, ◌&&◌, List, [], ◌∷◌, length, Ok, Err, nat_le, nat_lt, slice_index, slice_index_or}
use Rattle.fault.specs.declared.cause.Cause.TheVariants.{TakenAmountTooLarge, OptionFull}
use Rattle.fault.specs.Questions.{Answer, asked}
use Rattle.options.specs.declared.amounts.Amounts.{Amounts}

-- no amount of a quarter hour is above 50,000 Wh
abbrev pub allowed : Amounts → Bool
allowed a = nat_le a.draw 50000 && (nat_le a.feed_in 50000 && (nat_le a.store_in 50000 && nat_le a.store_out 50000))

pub record Sums : Type 0 where
  pub site_power : ℕ
  pub quarters : ℕ
  pub draw : ℕ
  pub feed_in : ℕ
  -- by plant place, from 0 to 7: the feed-in of the quarters in which it was marked
  pub marked : ℕ → ℕ

-- a number of a place, and 0 past place 7
abbrev pub at_place : ℕ → (ℕ → ℕ) → ℕ
at_place place of = cond (nat_lt place 8) (of place) 0

-- nothing was taken yet
pub record Started (power : ℕ) (s : Sums) : Type 0 where
  pub site_power : s.site_power ≡ power
  pub quarters : s.quarters ≡ 0
  pub draw : s.draw ≡ 0
  pub feed_in : s.feed_in ≡ 0
  pub marked : (p : ℕ) → p < 8 → s.marked p ≡ 0

-- t is s after one more quarter
pub record Added (s : Sums) (a : Amounts) (marks : List Bool) (t : Sums) : Type 0 where
  pub site_power : t.site_power ≡ s.site_power
  pub quarters : t.quarters ≡ s.quarters + 1
  pub draw : t.draw ≡ s.draw + a.draw
  pub feed_in : t.feed_in ≡ s.feed_in + a.feed_in
  pub marked : (p : ℕ) → p < 8 → t.marked p ≡ s.marked p + cond (slice_index_or marks p false) a.feed_in 0

-- the marked sums t are s with an amount added at each marked place
pub record Marks (s : List ℕ) (marks : List Bool) (amount : ℕ) (t : List ℕ) : Type 0 where
  pub places : length t ≡ 8
  pub each : (p : ℕ) → p < 8 → slice_index t p ≡ slice_index s p + cond (slice_index_or marks p false) amount 0

-- the largest number of 32 bits
abbrev pub most_sum : ℕ
most_sum = 4294967295

-- the same of any sums: one that would be larger stays at the largest number of 32 bits
pub record CappedMarks (s : List ℕ) (marks : List Bool) (amount : ℕ) (t : List ℕ) : Type 0 where
  pub places : length t ≡ 8
  pub each : (p : ℕ) → p < 8 → slice_index t p ≡ cond (slice_index_or marks p false) (min (slice_index s p + amount) most_sum) (slice_index s p)

-- what an option answers that took so many quarters and is to take one more
abbrev pub taking_after : ℕ → Amounts → Answer
taking_after quarters a = asked quarters ((allowed a, TakenAmountTooLarge) ∷ (nat_lt quarters 35136, OptionFull) ∷ []) (Ok tt)

abbrev pub taking : Sums → Amounts → Answer
taking s a = taking_after s.quarters a

-- the answer r, with what holds after it: the quarter is taken, or nothing has changed
abbrev pub Took : Sums → Amounts → Answer → Type 0 → Type 0 → Type 0
Took s a r taken unchanged = (r ≡ taking s a) × elim r [ Ok _ ↦ taken | Err _ ↦ unchanged ]
