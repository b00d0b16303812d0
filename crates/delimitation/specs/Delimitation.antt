-- What the delimitation option makes of a quarter's amounts, and what its fields mean. Assumes nothing.
use Rattle.std.specs.Prelude.{◌≡◌, ℕ, ◌+◌, ◌-◌, ◌*◌, ◌/◌, min, Bool, cond, List, ◌==◌, slice_index}
use Rattle.options.specs.declared.amounts.Amounts.{Amounts}
use Rattle.delimitation.specs.declared.DelimitationOption.{DelimitationOption}
use Rattle.options.specs.Counted.{sums_with}
use Rattle.options.specs.Quarters.{Sums, Added, Marks}

-- what the store took from the grid in a quarter: the smaller of what it took and what the site drew
abbrev pub grid_charging_of : Amounts → ℕ
grid_charging_of a = min a.store_in a.draw

-- a quarter's feed-in out of the store: the smaller of what the store gave and what the site fed in
abbrev pub store_feed_in_of : Amounts → ℕ
store_feed_in_of a = min a.store_out a.feed_in

-- a quarter's feed-in straight from the plants: the rest
abbrev pub direct_feed_in_of : Amounts → ℕ
direct_feed_in_of a = a.feed_in - store_feed_in_of a

-- by place, what came straight from the plants and what came out of the store, in the quarters in which it was marked
abbrev pub marked_direct_of : DelimitationOption → ℕ → ℕ
marked_direct_of o p = slice_index o.marked_direct p

abbrev pub marked_store_of : DelimitationOption → ℕ → ℕ
marked_store_of o p = slice_index o.marked_store p

abbrev pub sums_of : DelimitationOption → Sums
sums_of o = sums_with o.taken (λ p. marked_direct_of o p + marked_store_of o p)

-- the green part of an amount out of the store, by the year's charging: the amount times what the site's own plants charged, divided by all that was charged, rounded down.
-- Where nothing was charged this divides by 0, which gives 0.
abbrev pub green : DelimitationOption → ℕ → ℕ
green o amount = amount * (o.store_in - o.grid_charging) / o.store_in

-- the feed-in that came straight from the plants, and the green part of that out of the store
abbrev pub base_of : DelimitationOption → ℕ
base_of o = (o.taken.feed_in - o.store_feed_in) + green o o.store_feed_in

-- the part of the feed-in out of the store that is not green, and none where nothing was charged
abbrev pub nettable_of : DelimitationOption → ℕ
nettable_of o = cond (o.store_in == 0) 0 (o.store_feed_in - green o o.store_feed_in)

-- the feed-in out of the store where nothing was charged, and otherwise none
abbrev pub unassigned_of : DelimitationOption → ℕ
unassigned_of o = cond (o.store_in == 0) o.store_feed_in 0

-- what came straight from the plants, and the green part of what came out of the store, in a place's marked quarters
abbrev pub upper_of : DelimitationOption → ℕ → ℕ
upper_of o p = marked_direct_of o p + green o (marked_store_of o p)

-- p is o after one more quarter
pub record Takes (o : DelimitationOption) (a : Amounts) (marks : List Bool) (p : DelimitationOption) : Type 0 where
  pub sums : Added (sums_of o) a marks (sums_of p)
  pub stored : p.store_in ≡ o.store_in + a.store_in
  pub charged : p.grid_charging ≡ o.grid_charging + grid_charging_of a
  pub discharged : p.store_feed_in ≡ o.store_feed_in + store_feed_in_of a
  pub direct : Marks o.marked_direct marks (direct_feed_in_of a) p.marked_direct
  pub store : Marks o.marked_store marks (store_feed_in_of a) p.marked_store
