-- What both options count up, apart from what was marked. Assumes nothing.
use Rattle.std.specs.Prelude.{◌≡◌, ℕ, ◌+◌}
use Rattle.options.specs.declared.amounts.Amounts.{Amounts}
use Rattle.options.specs.declared.taken.Taken.{Taken}
use Rattle.options.specs.Quarters.{Sums}

-- no quarter was taken yet
pub record Nothing (power : ℕ) (t : Taken) : Type 0 where
  pub site_power : t.site_power ≡ power
  pub quarters : t.quarters ≡ 0
  pub draw : t.draw ≡ 0
  pub feed_in : t.feed_in ≡ 0

-- t is s after one more quarter
pub record OneMore (s : Taken) (a : Amounts) (t : Taken) : Type 0 where
  pub site_power : t.site_power ≡ s.site_power
  pub quarters : t.quarters ≡ s.quarters + 1
  pub draw : t.draw ≡ s.draw + a.draw
  pub feed_in : t.feed_in ≡ s.feed_in + a.feed_in

-- the sums of an option: what it counted up, and the marked sum of each place
abbrev pub sums_with : Taken → (ℕ → ℕ) → Sums
sums_with t marked = record { site_power = t.site_power; quarters = t.quarters; draw = t.draw; feed_in = t.feed_in; marked = marked }
