-- What the quarters that the delimitation option took add up to. Assumes nothing.
use Rattle.std.specs.Prelude.{◌≡◌, ℕ, ◌<◌, List}
use Rattle.options.specs.Histories.{Quarter, Led, all, marked_at}
use Rattle.delimitation.specs.declared.DelimitationOption.{DelimitationOption}
use Rattle.delimitation.specs.contracts.settles.DelimitationOptionSettlementOption.TheImpl.{ghosts as delimitation}
use Rattle.delimitation.specs.Delimitation.{grid_charging_of, store_feed_in_of, direct_feed_in_of, marked_direct_of, marked_store_of}

-- the sums that only the delimitation option keeps: store in, grid charging, store feed-in, and the marked sums in their two parts
pub record Delimits (h : List Quarter) (o : DelimitationOption) : Type 0 where
  pub stored : o.store_in ≡ all (λ a. a.store_in) h
  pub charged : o.grid_charging ≡ all grid_charging_of h
  pub discharged : o.store_feed_in ≡ all store_feed_in_of h
  pub direct : (p : ℕ) → p < 8 → marked_direct_of o p ≡ marked_at p direct_feed_in_of h
  pub store : (p : ℕ) → p < 8 → marked_store_of o p ≡ marked_at p store_feed_in_of h

-- whatever the delimitation option took, these sums too are those of what it took
abbrev pub HistoriesDelimit : Type 0
HistoriesDelimit = (power : ℕ) (h : List Quarter) (o : DelimitationOption) → Led delimitation power h o → Delimits h o
