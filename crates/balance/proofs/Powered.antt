-- A site that is fit has power, since it has a supported plant. Assumes nothing.
use Rattle.std.proofs.Common.{◌≡◌, ℕ, ◌<◌, All, Bool, true, false, cond, List, [], ◌∷◌, is_some, is_ok, None, Ok, Err, Option, sym, refl, arith}
use Rattle.std.proofs.lemmas.List.Elements.{All-get_or}
use Rattle.std.proofs.lemmas.List.Sums.{sum_by-cons}
use Rattle.std.proofs.lemmas.Bool.{true≢false}
use Rattle.fault.specs.Questions.{Answer}
use Rattle.site.specs.declared.draft.Draft.{Draft}
use Rattle.site.specs.declared.plant.Plant.{Plant}
use Rattle.site.specs.Drafts.{fitness}
use Rattle.site.specs.Plants.{site_power_of, some_supported}
use Rattle.balance.proofs.Asked.{got_yes}

-- where some plant is supported, there is a plant, and each plant has power
supported_power : (ps : List Plant) → All (λ (p : Plant). 0 < p.power) ps → some_supported ps ≡ true → 0 < site_power_of ps
supported_power [] powered e = absurd (true≢false (sym e))
supported_power (p ∷ ps) powered e =
    let first : 0 < p.power = All-get_or (λ (p : Plant). 0 < p.power) (p ∷ ps) 0 p (omega arith) powered in
    omega (arith, sum_by-cons (λ (p : Plant). p.power) p ps, first)

-- an answer that is no fault
accepted : (r : Answer) → is_ok r ≡ true → ◌≡◌ {A = Answer} (Ok tt) r
accepted (Ok _) e = refl
accepted (Err f) e = absurd (true≢false (sym e))

-- there is a year to settle only where the draft is fit
fit_where_settled : (fit : Bool) (year : Option ℕ) → is_some (cond fit year None) ≡ true → fit ≡ true
fit_where_settled true year e = refl
fit_where_settled false year e = e

pub fit_power : (limit : ℕ) (d : Draft) → is_some (cond (is_ok (fitness limit d)) d.year None) ≡ true → 0 < site_power_of d.register.plants.items
fit_power limit d settled =
    let fit = fit_where_settled (is_ok (fitness limit d)) d.year settled in
    let has_year = got_yes (is_some d.year) _ _ (accepted (fitness limit d) fit) in
    let has_supported = got_yes (some_supported d.register.plants.items) _ _ has_year.1 in
    supported_power d.register.plants.items d.register.powered has_supported.0
