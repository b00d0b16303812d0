use Rattle.std.proofs.Common.{◌≡◌, length, get_or, ap, ◌∙◌, arith}
use Rattle.division.specs.Shares.{share, weights}
use Rattle.site.specs.declared.plant.Plant.{Plant}
use Rattle.site.specs.Plants.{no_plant}
use Rattle.valuing.specs.Valued.{line, portion, plant_row}
use Rattle.figures.specs.Blank.{no_plant_line}
use Rattle.valuing.proofs.Filling.{filled_more, filled_all}
use Rattle.valuing.proofs.plant_lines.Goals as goal

pub loop-place-preserved : goal.loop-place-preserved
loop-place-preserved g c =
    let m = g.O.SettlementOption in
    let o = c.args.option.now in
    let r = c.args.register.now in
    let k = c.loop-place.place in
    let plant = ap (λ ps. get_or ps k no_plant) c.plants-plant-items.ensures in
    let part : get_or c.deref.result.now k 0 ≡ portion m o r k =
    ap (λ xs. get_or xs k 0) c.deref.ensures.0
    ∙ c.divide_held-portions.ensures.each k
    ∙ ap (λ b. share b (weights (λ (p : Plant). p.power) c.places.result.now.items) k) c.base.ensures
    ∙ ap (λ ps. share (m.base o) (weights (λ (p : Plant). p.power) ps.items) k) c.places.ensures in
    filled_more (plant_row m o r) no_plant_line 8 k c.loop-place.lines c.plant_line.result
    (omega (arith, ap length c.plants-plant-items.ensures, r.held))
    (c.plant_line.ensures ∙ ap (λ p. line m o p k (get_or c.deref.result.now k 0)) plant ∙ ap (line m o (get_or r.plants.items k no_plant) k) part)
    c.loop-place.invariant

pub returns : goal.returns
returns g c =
    let r = c.args.register.now in
    let all : c.loop-place.place ≡ length r.plants.items = omega (arith, ap length c.plants-plant-items.ensures) in
    filled_all (plant_row g.O.SettlementOption c.args.option.now r) no_plant_line 8 (length r.plants.items) c.loop-place.lines (rw all at c.loop-place.invariant)
