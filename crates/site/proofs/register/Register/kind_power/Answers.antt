use Rattle.std.proofs.Common.{◌<◌, ◌^◌, rules, arith}
use Rattle.site.specs.Plants.{kind_power}
use Rattle.site.proofs.Powers.{kind_within}
use Rattle.site.proofs.register.Register.kind_power.Goals as goal

pub sum-requires-clause-fits : goal.sum-requires-clause-fits
sum-requires-clause-fits c =
    let g = c.args.self.now in
    let within : kind_power c.args.kind g.plants.items < 2 ^ 32 = omega (arith, kind_within c.args.kind g.plants.items, g.total) in
    search rules
