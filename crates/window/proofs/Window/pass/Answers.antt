use Rattle.std.proofs.Common.{arith}
use Rattle.std.proofs.lemmas.Grind.{common_steps}
use Rattle.window.proofs.Standing.{lies_passed, stands_passed}
use Rattle.window.proofs.Window.pass.Goals as goal

pub returns-clause-stands : goal.returns-clause-stands
returns-clause-stands c = stands_passed c.args.size c.args.self.now _ (grind (arith, common_steps))

pub returns-clause-lies : goal.returns-clause-lies
returns-clause-lies c = lies_passed c.args.size c.args.self.now _ (grind (arith, common_steps))
