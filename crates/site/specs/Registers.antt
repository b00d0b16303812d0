-- What adding a plant answers, and what it leaves in the register. Assumes nothing.
use Rattle.std.specs.Prelude.{◌≡◌, ◌+◌, ◌&&◌, [], ◌∷◌, ◌++◌, length, Ok, Err, nat_le, nat_lt}
use Rattle.fault.specs.declared.cause.Cause.TheVariants.{RegisterFull, PowerOutOfRange, PlantCodeUnknown, PlugInPowerExceeded, SitePowerExceeded}
use Rattle.fault.specs.Questions.{Answer, asked}
use Rattle.site.specs.declared.plant.Kind.TheVariants.{PlugIn}
use Rattle.site.specs.declared.plant.PlantEntry.{PlantEntry}
use Rattle.site.specs.declared.register.Register.{Register}
use Rattle.site.specs.Plants.{power_of, site_power_of, kind_power, codes_known, spelled}

pub record Empty (g : Register) : Type 0 where
  pub plants : g.plants.items ≡ []

-- the questions of a plant that is offered to the next free place
abbrev pub adding : Register → PlantEntry → Answer
adding g e = asked (length g.plants.items) (
    (nat_lt (length g.plants.items) 8, RegisterFull)
    ∷ (nat_le 1 e.power && nat_le e.power 200000, PowerOutOfRange)
    ∷ (codes_known e, PlantCodeUnknown)
    ∷ (nat_le (kind_power PlugIn g.plants.items + power_of PlugIn (spelled e)) 2000, PlugInPowerExceeded)
    ∷ (nat_le (site_power_of g.plants.items + e.power) 200000, SitePowerExceeded)
    ∷ []) (Ok tt)

-- h is g with the plant at the next free place
pub record Added (g : Register) (e : PlantEntry) (h : Register) : Type 0 where
  pub plants : h.plants.items ≡ g.plants.items ++ spelled e ∷ []

abbrev pub Adds : Register → PlantEntry → Answer → Register → Type 0
Adds g e r h = (r ≡ adding g e) × elim r [ Ok _ ↦ Added g e h | Err _ ↦ g ≡ h ]
