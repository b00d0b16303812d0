use Rattle.std.proofs.Common.{rules}
use Rattle.window.proofs.Standing.{lies_fed, stands_on}
use Rattle.window.proofs.Window.feed.Goals as goal

pub returns-clause-stands : goal.returns-clause-stands
returns-clause-stands c = stands_on _ _ _ (lies_fed c.args.piece.now c.min-count.result c.args.self.now _ (search rules))

pub returns-clause-lies : goal.returns-clause-lies
returns-clause-lies c = lies_fed c.args.piece.now c.min-count.result c.args.self.now _ (search rules)
