use Rattle.std.proofs.Common.{rules}
use Rattle.window.proofs.Standing.{answers_for_any_file, answers_for_file}
use Rattle.window.proofs.Window.record.Goals as goal

pub returns-clause-whole : goal.returns-clause-whole
returns-clause-whole c = answers_for_file c.args.self.now _ (answers_for_any_file c.args.self.now _ (search rules))

pub returns-clause-any : goal.returns-clause-any
returns-clause-any c = answers_for_any_file c.args.self.now _ (search rules)
