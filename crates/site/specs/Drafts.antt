-- What the calls of a draft answer, and what they leave in it. Assumes nothing.
use Rattle.std.specs.Prelude.{◌≡◌, ℕ, List, [], ◌∷◌, is_some, Some, None, Ok, Err, Option, nat_le}
use Rattle.fault.specs.declared.cause.Cause.TheVariants.{YearOutOfRange, YearNotSet, NoSupportedPlant, OrdinaryPowerExceeded}
use Rattle.fault.specs.Questions.{Answer, asked}
use Rattle.site.specs.declared.draft.Draft.{Draft}
use Rattle.site.specs.declared.plant.Kind.TheVariants.{Ordinary}
use Rattle.site.specs.declared.plant.Plant.{Plant}
use Rattle.site.specs.declared.plant.PlantEntry.{PlantEntry}
use Rattle.site.specs.Plants.{kind_power, some_supported}
use Rattle.site.specs.Registers.{Empty, Added, adding}
use Rattle.site.specs.Years.{settleable}

pub record Blank (d : Draft) : Type 0 where
  pub year : d.year ≡ None
  pub register : Empty d.register

abbrev pub setting : ℕ → Answer
setting year = asked 0 ((settleable year, YearOutOfRange) ∷ []) (Ok tt)

pub record YearSet (d : Draft) (y : ℕ) (e : Draft) : Type 0 where
  pub year : e.year ≡ Some y
  pub register : e.register ≡ d.register

abbrev pub Sets : Draft → ℕ → Answer → Draft → Type 0
Sets d year r e = (r ≡ setting year) × elim r [ Ok _ ↦ YearSet d year e | Err _ ↦ d ≡ e ]

pub record PlantAdded (d : Draft) (p : PlantEntry) (e : Draft) : Type 0 where
  pub year : e.year ≡ d.year
  pub register : Added d.register p e.register

abbrev pub AddsPlant : Draft → PlantEntry → Answer → Draft → Type 0
AddsPlant d p r e = (r ≡ adding d.register p) × elim r [ Ok _ ↦ PlantAdded d p e | Err _ ↦ d ≡ e ]

-- whether a year with these plants can be settled under an option with this limit: a year is set, a plant is supported, and ordinary power is within the limit
abbrev pub fit_for : ℕ → Option ℕ → List Plant → Answer
fit_for limit year plants = asked 0 (
    (is_some year, YearNotSet)
    ∷ (some_supported plants, NoSupportedPlant)
    ∷ (nat_le (kind_power Ordinary plants) limit, OrdinaryPowerExceeded)
    ∷ []) (Ok tt)

abbrev pub fitness : ℕ → Draft → Answer
fitness limit d = fit_for limit d.year d.register.plants.items
