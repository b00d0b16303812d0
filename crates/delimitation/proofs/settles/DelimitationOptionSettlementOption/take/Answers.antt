use Rattle.std.proofs.Common.{◌-◌, arith, rules}
use Rattle.options.proofs.Allowed.{each}
use Rattle.options.proofs.Marked.{marked_within}
use Rattle.delimitation.proofs.settles.DelimitationOptionSettlementOption.take.Goals as goal

pub invariant_of-self : goal.invariant_of-self
invariant_of-self c =
    let o = c.args.self.now in
    let t = c.in_ok-taken.taken in
    let more = c.in_ok-taken.ensures.answer.1 in
    let small = each c.args.amounts c.in_ok-taken.ensures.admitted in
    let direct_marks = c.add_marked.ensures.uncapped (λ p. omega (arith, o.direct_part p, more.feed_in, t.fed, t.year)) in
    let store_marks = c.add_marked-2.ensures.uncapped (λ p. omega (arith, o.store_part p, more.feed_in, t.fed, t.year)) in
    let direct = marked_within _ _ _ _ (o.taken.feed_in - o.store_feed_in) direct_marks (λ p. omega (arith, o.direct_part p)) in
    let store = marked_within _ _ _ _ o.store_feed_in store_marks o.store_part in
    search rules
