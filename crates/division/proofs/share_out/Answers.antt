use Rattle.std.proofs.Common.{◌≡◌, ◌+◌, ◌<◌, ◌≢◌, length, take, sum, sym, refl, ap, ◌∙◌, arith, get_or-set_other, get_or-set_same, below_none, below_more}
use Rattle.std.proofs.lemmas.List.{length-map, length-set}
use Rattle.division.specs.Shares.{weights, together}
use Rattle.division.proofs.Sums.{weights_more}
use Rattle.division.proofs.Laws.{together_none, together_more, divided}
use Rattle.division.proofs.share_out.Given as given
use Rattle.division.proofs.share_out.Goals as goal

pub overflow_add-weights_so_far : goal.overflow_add-weights_so_far
overflow_add-weights_so_far g c =
    let more = weights_more g.R.Weighted.weight c.args.rows.now c.loop-place.place c.index-rows-place.result _ _ (omega arith) c.loop-place.invariant.0 (c.weight.ensures ∙ ap g.R.Weighted.weight c.index-rows-place.is) in
    omega arith

pub part-together-requires : goal.part-together-requires
part-together-requires g c =
    let more = weights_more g.R.Weighted.weight c.args.rows.now c.loop-place.place c.index-rows-place.result _ _ (omega arith) c.loop-place.invariant.0 (c.weight.ensures ∙ ap g.R.Weighted.weight c.index-rows-place.is) in
    (omega arith, omega arith)

-- the weights up to and with this row, and what these rows get together
reaches : (g : given.Over) (c : goal.After-part-together g) → let ws = weights g.R.Weighted.weight c.args.rows.now in
    (c.loop-place.weights_so_far + c.weight.result ≡ sum (take (c.loop-place.place + 1) ws))
    × (c.part-together.result ≡ together c.args.amount ws (c.loop-place.place + 1))
reaches g c =
    let more = weights_more g.R.Weighted.weight c.args.rows.now c.loop-place.place c.index-rows-place.result _ _ (omega arith) c.loop-place.invariant.0 (c.weight.ensures ∙ ap g.R.Weighted.weight c.index-rows-place.is) in
    let is = more.0 in
    (is, cc)

pub overflow_sub-shares : goal.overflow_sub-shares
overflow_sub-shares g c =
    omega (arith, (reaches g c).1, together_more c.args.amount (weights g.R.Weighted.weight c.args.rows.now) c.loop-place.place)

pub loop-place-init : goal.loop-place-init
loop-place-init g c =
    (refl, sym (together_none c.args.amount (weights g.R.Weighted.weight c.args.rows.now)), simp length-map (sym c.requires), below_none _)

pub loop-place-preserved : goal.loop-place-preserved
loop-place-preserved g c =
    let i = c.loop-place.place in
    let inside : i < length c.loop-place.shares = rw (c.loop-place.invariant.2, length-map) (omega arith) in (
      (reaches g c).0,
      (reaches g c).1,
      simp length-set c.loop-place.invariant.2,
      below_more _ i
          (λ k h. let ne : k ≢ i = omega arith in rw get_or-set_other (c.loop-place.invariant.3 k h))
          (rw get_or-set_same (omega (arith, (reaches g c).1))),
    )

pub returns : goal.returns
returns g c =
    let ws = weights g.R.Weighted.weight c.args.rows.now in
    let n : length ws ≡ length c.args.rows.now = simp length-map (omega arith) in
    divided c.args.amount ws c.loop-place.shares c.loop-place.invariant.2 (λ k h. c.loop-place.invariant.3 k (omega arith))
