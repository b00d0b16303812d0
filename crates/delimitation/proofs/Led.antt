-- What every history leaves in the delimitation option. Assumes nothing.
use Rattle.std.proofs.Common.{ℕ, List, [], arith}
use Rattle.options.specs.Quarters.{Started}
use Rattle.options.specs.Histories.{Quarter, Led, started, taken}
use Rattle.delimitation.specs.declared.DelimitationOption.{DelimitationOption}
use Rattle.delimitation.specs.contracts.settles.DelimitationOptionSettlementOption.TheImpl.{ghosts as delimitation}
use Rattle.delimitation.specs.Delimitation.{sums_of}
use Rattle.delimitation.specs.Histories.{Delimits}

-- an option that took nothing holds nothing, since nothing it holds exceeds what its quarters could bring
none_delimited : {power : ℕ} (o : DelimitationOption) → Started power (sums_of o) → Delimits [] o
none_delimited o s =
    record {
      stored = omega (arith, s.quarters);
      charged = omega (arith, s.quarters);
      discharged = omega (arith, s.feed_in);
      direct = λ p w. omega (arith, s.feed_in, o.direct_part p);
      store = λ p w. omega (arith, s.feed_in, o.store_part p);
    }

pub delimited : {power : ℕ} {h : List Quarter} {o : DelimitationOption} → Led delimitation power h o → Delimits h o
delimited {o = o} (started s) = none_delimited o s
delimited (taken l t) =
    let i = delimited l in
    record {
      stored = omega arith;
      charged = omega arith;
      discharged = omega arith;
      direct = λ p w. omega (arith, t.direct.each p w, i.direct p w);
      store = λ p w. omega (arith, t.store.each p w, i.store p w);
    }
