-- What every history leaves in an option. Assumes nothing.
use Rattle.std.proofs.Common.{ℕ, Bool, List, ◌∙◌, arith}
use Rattle.options.specs.declared.amounts.Amounts.{Amounts}
use Rattle.options.specs.declared.settlement_option.SettlementOption.{Ghosts as Meaning}
use Rattle.options.specs.Quarters.{Added}
use Rattle.options.specs.Histories.{Quarter, Led, started, taken, AddsUp}

module _ {O : Type 0} (meaning : Meaning O) (adds : (o p : O) (a : Amounts) (marks : List Bool) → meaning.takes o a marks p → Added (meaning.sums o) a marks (meaning.sums p)) where
  pub added_up : {power : ℕ} {h : List Quarter} {o : O} → Led meaning power h o → AddsUp power h (meaning.sums o)
  added_up (started s) = record { site_power = s.site_power; quarters = s.quarters; draw = s.draw; feed_in = s.feed_in; marked = s.marked }
  added_up (taken {q = q} l t) =
      let i = added_up l in
      let e = adds _ _ q.amounts q.marks t in
      record {
        site_power = e.site_power ∙ i.site_power;
        quarters = omega arith;
        draw = omega arith;
        feed_in = omega arith;
        marked = λ p w. omega (arith, e.marked p w, i.marked p w);
      }
