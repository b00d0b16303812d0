use Rattle.settlement.proofs.Turning.{comes_to}
use Rattle.settlement.proofs.pieces.settle_bytes.Goals as goal

pub returns : goal.returns
returns c =
    let file = c.args.bytes.now in
    let settles = (c.in-Ok.ensures file c.new.ensures.brings).comes in
    record { spelled = settles; in_turn = comes_to c.args.table file _ settles }
