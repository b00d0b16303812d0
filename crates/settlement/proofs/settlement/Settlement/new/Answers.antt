use Rattle.std.proofs.Common.{None, refl, subst, arith}
use Rattle.settlement.specs.declared.settlement.Settlement.{Settlement}
use Rattle.settlement.specs.Longest.{Bounded}
use Rattle.settlement.specs.Settling.{StartsInAny}
use Rattle.settlement.specs.Spelled.{SettlesTo}
use Rattle.settlement.proofs.Outcomes.{from_start}
use Rattle.settlement.proofs.Turning.{starts_told}
use Rattle.settlement.proofs.settlement.Settlement.new.Goals as goal

pub returns : goal.returns
returns c =
    let table = c.args.table in
    let order = c.new-2.result in
    let bounded : Bounded order None c.new.result.offset = record { unbegun = λ early. refl; bytes = omega (arith, c.new.ensures.fresh.offset) } in
    let s : Settlement = record { table = table; window = c.new.result; order = order; account = None; outcome = None } in
    let any : StartsInAny table s = record {
      bounded = bounded;
      in_file = λ known file told. record {
        by = refl;
        stands = (c.new.ensures.lies file, told, λ out settles. from_start table file order out c.new-2.ensures (subst (λ p. SettlesTo table file p order None out) c.new.ensures.fresh.offset settles));
      };
    } in
    record { any = any; told = starts_told table s any }
