-- The powers of both kinds together are the power of the site. Assumes nothing.
use Rattle.std.proofs.Common.{◌≡◌, ℕ, ◌+◌, ◌≤◌, List, [], ◌∷◌, refl, arith}
use Rattle.std.proofs.lemmas.List.Sums.{sum_by-cons}
use Rattle.site.specs.declared.plant.Kind.{Kind}
use Rattle.site.specs.declared.plant.Kind.TheVariants.{Ordinary, PlugIn}
use Rattle.site.specs.declared.plant.Plant.{Plant}
use Rattle.site.specs.Plants.{power_of, site_power_of, kind_power}

one_kind : (kind : Kind) (power : ℕ) (r : Plant) → r.kind ≡ kind → power_of Ordinary r + power_of PlugIn r ≡ r.power
one_kind Ordinary power r e = rw e (omega arith)
one_kind PlugIn power r e = rw e (omega arith)

pub both_kinds : (ps : List Plant) → kind_power Ordinary ps + kind_power PlugIn ps ≡ site_power_of ps
both_kinds [] = refl
both_kinds (p ∷ ps) =
    omega (arith, sum_by-cons (power_of Ordinary) p ps, sum_by-cons (power_of PlugIn) p ps, sum_by-cons (λ (r : Plant). r.power) p ps, one_kind p.kind p.power p refl, both_kinds ps)

pub kind_within : (kind : Kind) (ps : List Plant) → kind_power kind ps ≤ site_power_of ps
kind_within Ordinary ps = omega (arith, both_kinds ps)
kind_within PlugIn ps = omega (arith, both_kinds ps)
