-- Histories: the quarters that an option took, the newest first, and what they add up to. Assumes nothing.
use Rattle.std.specs.Prelude.{◌≡◌, ℕ, ◌+◌, ◌<◌, Bool, false, cond, List, [], ◌∷◌, length, slice_index_or}
use Rattle.options.specs.declared.amounts.Amounts.{Amounts}
use Rattle.options.specs.declared.settlement_option.SettlementOption.{Ghosts as Meaning}
use Rattle.options.specs.Quarters.{Sums, Started}

-- a quarter as it was taken
pub record Quarter : Type 0 where
  pub amounts : Amounts
  pub marks : List Bool

-- these quarters lead from the start at this site power to this state
pub data Led {O : Type 0} (meaning : Meaning O) (power : ℕ) : List Quarter → O → Type 0 where
  started : {o : O} → Started power (meaning.sums o) → Led meaning power [] o
  taken : {h : List Quarter} {o p : O} {q : Quarter} → Led meaning power h o → meaning.takes o q.amounts q.marks p → Led meaning power (q ∷ h) p

-- what each quarter counts, added up over the quarters
abbrev pub sum_of : (Quarter → ℕ) → List Quarter → ℕ
sum_of count [] = 0
sum_of count (q ∷ h) = sum_of count h + count q

-- an amount of all quarters together
abbrev pub all : (Amounts → ℕ) → List Quarter → ℕ
all amount = sum_of (λ q. amount q.amounts)

-- an amount of the quarters in which a place was marked, together
abbrev pub marked_at : ℕ → (Amounts → ℕ) → List Quarter → ℕ
marked_at p amount = sum_of (λ q. cond (slice_index_or q.marks p false) (amount q.amounts) 0)

-- an option's sums are those of the quarters it took
pub record AddsUp (power : ℕ) (h : List Quarter) (s : Sums) : Type 0 where
  pub site_power : s.site_power ≡ power
  pub quarters : s.quarters ≡ length h
  pub draw : s.draw ≡ all (λ a. a.draw) h
  pub feed_in : s.feed_in ≡ all (λ a. a.feed_in) h
  pub marked : (p : ℕ) → p < 8 → s.marked p ≡ marked_at p (λ a. a.feed_in) h

-- whatever an option took, its sums are those of what it took
abbrev pub HistoriesAddUp : {O : Type 0} → Meaning O → Type 0
HistoriesAddUp {O} meaning = (power : ℕ) (h : List Quarter) (o : O) → Led meaning power h o → AddsUp power h (meaning.sums o)
