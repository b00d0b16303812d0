use Rattle.std.proofs.Common.{arith}
use Rattle.site.proofs.Powers.{both_kinds}
use Rattle.site.proofs.register.Register.power.Goals as goal

pub overflow_add-result : goal.overflow_add-result
overflow_add-result c = omega (arith, both_kinds c.args.self.now.plants.items, c.args.self.now.total)

pub returns : goal.returns
returns c = omega (arith, both_kinds c.args.self.now.plants.items)
