-- The worked sums: amounts in Wh, powers in W. Assumes nothing.
use Rattle.std.specs.Prelude.{◌≡◌, ℕ, min, true, false, List, [], ◌∷◌, ℤ, pos, negsuc, ◌≤ℤ◌, Some, Ok, Err, codes}
use Rattle.std.specs.List.{AllByRecursion}
use Rattle.fault.specs.declared.cause.Cause.TheVariants.{OrdinaryPowerExceeded}
use Rattle.fault.specs.Questions.{fault}
use Rattle.division.specs.Shares.{share}
use Rattle.price_rule.specs.Prices.{zero_valued}
use Rattle.price_line.specs.Prices.{price_of}
use Rattle.price_line.specs.RunLengths.{run_lengths_of}
use Rattle.price_line.specs.declared.flaw.Flaw.TheVariants.{NoPrice}
use Rattle.flat.specs.contracts.settles.FlatOptionSettlementOption.TheImpl.{ghosts as flat}
use Rattle.delimitation.specs.contracts.settles.DelimitationOptionSettlementOption.TheImpl.{ghosts as delimitation}
use Rattle.delimitation.specs.declared.DelimitationOption.{DelimitationOption}
use Rattle.flat.specs.declared.FlatOption.{FlatOption}
use Rattle.flat.specs.Flat.{cap}
use Rattle.options.specs.Histories.{Quarter, Led}
use Rattle.site.specs.declared.plant.Kind.TheVariants.{Ordinary, PlugIn}
use Rattle.site.specs.declared.plant.Marketing.TheVariants.{Other, MarketPremium}
use Rattle.site.specs.declared.plant.Plant.{Plant}
use Rattle.site.specs.Drafts.{fit_for}
use Rattle.site.specs.Plants.{site_power_of}
use Rattle.valuing.specs.Valued.{totals, valued}

-- a flat year of 10,000 W with these sums
pub record FlatYear (feed_in draw : ℕ) (o : FlatOption) : Type 0 where
  pub power : o.taken.site_power ≡ 10000
  pub fed : o.taken.feed_in ≡ feed_in
  pub drawn_off : o.taken.draw ≡ draw

-- a supported ordinary plant, and a plug-in plant beside it
abbrev pub ordinary_and_plug_in : ℕ → ℕ → List Plant
ordinary_and_plug_in ordinary plug_in =
    record { power = ordinary; kind = Ordinary; marketing = MarketPremium; regime = 0 }
    ∷ record { power = plug_in; kind = PlugIn; marketing = Other; regime = 0 }
    ∷ []

-- one quarter in which a store that was never charged gave 10 of the 30 that were fed in
abbrev pub uncharged : Quarter
uncharged = record { amounts = record { draw = 0; feed_in = 30; store_in = 0; store_out = 10 }; marks = [] }

-- prices of −1, −1, 0 and −1 hundredths, and what comes later
abbrev pub two_and_one_negative : List ℤ → List ℤ
two_and_one_negative later = negsuc 0 ∷ negsuc 0 ∷ pos 0 ∷ negsuc 0 ∷ later

pub record WorkedSums : Type 0 where
  -- feed-in at the cap is all base, and one watt-hour more may be netted
  pub at_the_cap : (o : FlatOption) → FlatYear 5000000 0 o → (flat.base o ≡ 5000000) × (flat.nettable o ≡ 0)
  pub above_the_cap : (o : FlatOption) → FlatYear 5000001 0 o → flat.nettable o ≡ 1
  pub netting : (o : FlatOption) → FlatYear 8000000 4000000 o → (totals flat o).draw ≡ record { draw = 4000000; netted = 3000000; levied = 1000000 }
  -- three quarters of the feed-in were marked, so three quarters of the base are valued, and not the smaller of marked and base
  pub valuing : (o : FlatOption) → FlatYear 8000000 0 o → (flat.sums o).marked 0 ≡ 6000000
      → (valued (flat.base o) (flat.upper o 0) (flat.lower o 0) ≡ 3750000) × (min ((flat.sums o).marked 0) (flat.base o) ≡ 5000000)
  -- zero-valued quarters do not lessen what may be netted
  pub unmarked : (o : FlatOption) → FlatYear 8000000 0 o → (flat.sums o).marked 0 ≡ 0 → (valued (flat.base o) (flat.upper o 0) (flat.lower o 0) ≡ 0) × (flat.nettable o ≡ 3000000)
  -- plug-in plants count in the cap, and not in the limit
  pub plug_ins_fit : fit_for flat.limit (Some 2026) (ordinary_and_plug_in 30000 2000) ≡ Ok tt
  pub plug_ins_in_the_cap : (o : FlatOption) → o.taken.site_power ≡ site_power_of (ordinary_and_plug_in 30000 2000) → cap o ≡ 16000000
  pub too_much_for_flat : fit_for flat.limit (Some 2026) (ordinary_and_plug_in 30001 0) ≡ Err (fault OrdinaryPowerExceeded 0)
  pub fit_when_delimited : fit_for delimitation.limit (Some 2026) (ordinary_and_plug_in 30001 0) ≡ Ok tt
  -- what rounding leaves over goes to a later row, and a row of weight 0 gets nothing
  pub thirds : (share 100 (1 ∷ 1 ∷ 1 ∷ []) 0 ≡ 33) × (share 100 (1 ∷ 1 ∷ 1 ∷ []) 1 ≡ 33) × (share 100 (1 ∷ 1 ∷ 1 ∷ []) 2 ≡ 34)
  pub past_a_row_of_nothing : (share 5 (3 ∷ 0 ∷ 4 ∷ []) 0 ≡ 2) × (share 5 (3 ∷ 0 ∷ 4 ∷ []) 1 ≡ 0) × (share 5 (3 ∷ 0 ∷ 4 ∷ []) 2 ≡ 3)
  pub half_rounded_down : valued 35 1 2 ≡ 17
  -- feed-in out of a store that was never charged is assigned to nothing
  pub never_charged : (power : ℕ) (o : DelimitationOption) → Led delimitation power (uncharged ∷ []) o → (delimitation.base o ≡ 20) × (delimitation.nettable o ≡ 0) × (delimitation.unassigned o ≡ 10)
  -- two negative prices in a row make both their quarters zero-valued; a price of 0 ends a run, and one negative price is no run of two
  pub negative_prices : (later : List ℤ) → AllByRecursion (λ price. pos 0 ≤ℤ price) later → let prices = two_and_one_negative later in
      (zero_valued prices 2 0 ≡ true) × (zero_valued prices 2 1 ≡ true) × (zero_valued prices 2 2 ≡ false) × (zero_valued prices 2 3 ≡ false)
  -- prices and run lengths as they are spelled
  pub spelled_prices : (price_of (codes "-12.34") ≡ Ok (negsuc 1233)) × (price_of (codes "0") ≡ Ok (pos 0)) × (price_of (codes "85.5") ≡ Ok (pos 8550)) × (price_of (codes "85,5") ≡ Err NoPrice)
  pub spelled_run_lengths : run_lengths_of (codes "runs 24 16 12 8 4 1 0 0") ≡ Ok (24 ∷ 16 ∷ 12 ∷ 8 ∷ 4 ∷ 1 ∷ 0 ∷ 0 ∷ [])
