use Rattle.std.proofs.Common.{◌-◌, ◌<◌, [], length, take, sym, refl, ◌∙◌, subst, arith}
use native.Mathlib.Nat.{sub-zero}
use Rattle.std.proofs.lemmas.List.{length-take-le}
use Rattle.settlement.specs.Inputs.{ReadFor}
use Rattle.settlement.specs.Settling.{by_records, TakesAnyPiece}
use Rattle.settlement.proofs.Reading.{less_to_come, reads_on, read_whole, read_enough}
use Rattle.settlement.proofs.whole_file.settle.Goals as goal

pub loop-piece-init : goal.loop-piece-init
loop-piece-init g c =
    let starts = c.new-settlement.ensures.any in (
      refl,
      λ still. starts.bounded,
      λ file brought. record { read = []; rest = file; parts = refl; left = brought; stands = λ other. starts.in_file by_records other starts.bounded },
    )

pub loop-piece-smaller : goal.loop-piece-smaller
loop-piece-smaller g c =
    let n = c.in_ok-count.count in
    let piece = c.read_on.new.piece in
    let came = c.in_ok-count.ensures in
    let some : 0 < length (take (n - 0) piece) = omega (arith, length-take-le (n - 0) piece (omega (arith, came.within)), c.if-count-eq0.false) in
    let still = sym c.loop-piece-test.ensures in
    less_to_come c.loop-piece.settlement c.feed.new.self (length (take (n - 0) piece)) still (c.loop-piece.invariant.1 still) some c.feed.ensures.any.grows

pub loop-piece-preserved : goal.loop-piece-preserved
loop-piece-preserved g c =
    let n = c.in_ok-count.count in
    let piece = c.read_on.new.piece in
    let s = c.loop-piece.settlement in
    let t = c.feed.new.self in
    let takes : TakesAnyPiece s (take n piece) t = subst (λ k. TakesAnyPiece s (take k piece) t) (sub-zero n) c.feed.ensures.any in (
      c.read_on.auto.piece ∙ c.loop-piece.invariant.0,
      λ after. (c.feed.ensures.any.grows (c.loop-piece.invariant.1 (sym c.loop-piece-test.ensures)) after).0,
      λ file brought. reads_on g.I.Input.brings c.args.table file c.loop-piece.input c.read_on.new.self piece n s t c.in_ok-count.ensures takes (c.loop-piece.invariant.2 file brought),
    )

pub returns : goal.returns
returns g c = λ file brought.
    let brings = g.I.Input.brings in
    let table = c.args.table in
    let s = c.loop-piece.settlement in
    let out = c.finish.result in
    let reading = c.loop-piece.invariant.2 file brought in
    elim c.loop-piece-test.branch [
      | goal.else-loop-piece-test w ↦
          subst (ReadFor brings table file out) (sym w.input-is) (read_enough brings table file c.loop-piece.input s out (sym w.loop-piece-test.ensures) c.finish.ensures.any reading)
      | goal.then-loop-piece-test+in_ok-count+then-count-eq0 w ↦
          let piece = w.read_on.new.piece in
          let after = w.read_on.new.self in
          subst (ReadFor brings table file out) (sym w.input-is)
          (read_whole brings table file c.loop-piece.input after piece w.in_ok-count.count s out w.in_ok-count.ensures w.if-count-eq0.true (omega (arith, w.read_on.auto.piece, c.loop-piece.invariant.0)) c.finish.ensures.any reading)
    ]
