use Rattle.std.proofs.Common.{rules, arith}
use Rattle.std.proofs.lemmas.Grind.{common_steps}
use Rattle.std.proofs.lemmas.Result.{err_from_is_err_and}
use Rattle.account.proofs.Unchanged.{with_option}
use Rattle.account.proofs.year.Opened.enter_quarter.Goals as goal

pub returns-in_err-take : goal.returns-in_err-take
returns-in_err-take g c =
    let same = with_option c.args.self.now c.take.new.self in
    let p = err_from_is_err_and c.from_residual-in_err-take.result c.from_residual-in_err-take.ensures.1 in
    (grind (arith, common_steps), rw (p.1) (same _ _ (search rules)))
