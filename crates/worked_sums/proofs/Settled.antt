-- What the run's sums come to. Assumes nothing.
use Rattle.std.proofs.Common.{◌≡◌, get_or}
use Rattle.flat.specs.contracts.settles.FlatOptionSettlementOption.TheImpl.{ghosts as flat}
use Rattle.flat.specs.declared.FlatOption.{FlatOption}
use Rattle.site.specs.declared.register.Register.{Register}
use Rattle.valuing.specs.Valued.{totals, plant_row}
use Rattle.worked_sums.specs.Run.{one_plant, run_totals, run_plant}

module _ (o : FlatOption) (power : o.taken.site_power ≡ 1) (fed : o.taken.feed_in ≡ 1400) where
  pub totals_are : o.taken.draw ≡ 1450 → totals flat o ≡ run_totals
  totals_are drew = simp (power, fed, drew)

  pub plant_is : (g : Register) → g.plants.items ≡ one_plant → get_or o.marked 0 0 ≡ 600 → plant_row flat o g 0 ≡ run_plant
  plant_is g plants marked = simp (power, fed, marked, plants)
