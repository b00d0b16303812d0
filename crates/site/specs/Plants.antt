-- A site's plants. Assumes nothing.
use Rattle.std.specs.Prelude.{ℕ, Bool, true, false, cond, ◌&&◌, List, Some, None, sum_by, Option, ◌==◌, nat_le}
use Rattle.std.specs.List.{list_any}
use Rattle.site.specs.declared.plant.Kind.{Kind}
use Rattle.site.specs.declared.plant.Kind.TheVariants.{Ordinary, PlugIn}
use Rattle.site.specs.declared.plant.Marketing.{Marketing}
use Rattle.site.specs.declared.plant.Marketing.TheVariants.{Other, MarketPremium}
use Rattle.site.specs.declared.plant.Plant.{Plant}
use Rattle.site.specs.declared.plant.PlantEntry.{PlantEntry}

-- no plant, of no power
abbrev pub no_plant : Plant
no_plant = record { power = 0; kind = Ordinary; marketing = Other; regime = 0 }

abbrev same_kind : Kind → Kind → Bool
same_kind Ordinary Ordinary = true
same_kind Ordinary PlugIn = false
same_kind PlugIn Ordinary = false
same_kind PlugIn PlugIn = true

-- a plant's power counted for one kind
abbrev pub power_of : Kind → Plant → ℕ
power_of kind p = cond (same_kind p.kind kind) p.power 0

-- the power of all plants, in W
abbrev pub site_power_of : List Plant → ℕ
site_power_of = sum_by (λ p. p.power)

-- the power of all plants of one kind, in W
abbrev pub kind_power : Kind → List Plant → ℕ
kind_power kind = sum_by (power_of kind)

abbrev by_market_premium : Marketing → Bool
by_market_premium Other = false
by_market_premium MarketPremium = true

abbrev pub supported : Plant → Bool
supported p = by_market_premium p.marketing

abbrev pub some_supported : List Plant → Bool
some_supported = list_any supported

-- kind 0 or 1, marketing 0 or 1, regime 0 to 7
abbrev pub codes_known : PlantEntry → Bool
codes_known e = nat_le e.kind 1 && (nat_le e.marketing 1 && nat_le e.regime 7)

abbrev pub kind_of : ℕ → Kind
kind_of code = cond (code == 0) Ordinary PlugIn

abbrev pub marketing_of : ℕ → Marketing
marketing_of code = cond (code == 0) MarketPremium Other

-- the plant that known codes spell
abbrev pub spelled : PlantEntry → Plant
spelled e = record {
  power = e.power;
  kind = kind_of e.kind;
  marketing = marketing_of e.marketing;
  regime = e.regime;
}

abbrev pub entered : PlantEntry → Option Plant
entered e = cond (codes_known e) (Some (spelled e)) None
