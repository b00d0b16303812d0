use Rattle.std.proofs.Common.{◌≡◌, [], Some, refl, subst, rules}
use Rattle.settlement.specs.declared.settlement.Settlement.{Settlement}
use Rattle.settlement.specs.Settling.{Whereabouts, StandsIn, AnswersForAny}
use Rattle.settlement.proofs.Keeping.{done_in}
use Rattle.settlement.proofs.Turning.{answers_told}
use Rattle.settlement.proofs.settlement.Settlement.finish.Goals as goal

pub returns : goal.returns
returns c =
    let s = c.args.self in
    let t : Settlement = record { table = s.table; window = c.finish.new.self; order = s.order; account = s.account; outcome = s.outcome } in
    let is : c.advance.new.self.outcome ≡ Some c.unwrap.result = search rules in
    let any : AnswersForAny s c.unwrap.result = λ known table file here.
    let before : StandsIn known table file [] t = done_in s t refl refl refl refl c.finish.ensures.finished.offset c.finish.ensures.lies known table file here in
    subst (Whereabouts known table file [] c.advance.new.self) is (c.advance.ensures.keeps.in_file known table file [] before).stands in
    record { any = any; told = answers_told s _ any }
