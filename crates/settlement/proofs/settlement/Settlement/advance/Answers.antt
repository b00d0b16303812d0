use Rattle.std.proofs.Common.{sym, refl}
use Rattle.settlement.proofs.Keeping.{is_open, keeps_step, keeps_refusal}
use Rattle.settlement.proofs.settlement.Settlement.advance.Goals as goal

pub loop-self-preserved-in-Err : goal.loop-self-preserved-in-Err
loop-self-preserved-in-Err c =
    keeps_refusal c.args.self.now c.loop-self.self c.step.new.self _ c.in-Err.fault c.loop-self.invariant (is_open _ (sym c.loop-self-test.ensures)) (sym c.if-is_ready.ensures) c.in-Err.ensures.onward refl refl refl

pub loop-self-preserved : goal.loop-self-preserved
loop-self-preserved c =
    keeps_step c.args.self.now c.loop-self.self c.step.new.self c.loop-self.invariant (is_open _ (sym c.loop-self-test.ensures)) (sym c.if-is_ready.ensures) c.in_default.ensures.onward
