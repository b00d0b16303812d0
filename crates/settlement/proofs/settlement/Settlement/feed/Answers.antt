use Rattle.std.proofs.Common.{◌≡◌, ◌≤◌, ◌++◌, length, take, drop, sym, refl, ap, ◌∙◌, subst, append_assoc, arith, length-append, length-drop, take-append-drop}
use Rattle.std.proofs.lemmas.List.{length-take-le, nil_from_length}
use Rattle.std.proofs.lemmas.Bool.{eqb-true}
use Rattle.window.specs.Held.{pending}
use Rattle.settlement.specs.declared.settlement.Settlement.{Settlement}
use Rattle.settlement.specs.Settling.{StandsIn, TakesAnyPiece}
use Rattle.settlement.proofs.Keeping.{decided, bounded_still, came_in_file, rest_of}
use Rattle.settlement.proofs.Turning.{takes_told}
use Rattle.settlement.proofs.settlement.Settlement.feed.Goals as goal

pub loop-rest-preserved : goal.loop-rest-preserved
loop-rest-preserved c =
    let rest = c.loop-rest.rest.now in
    let s = c.advance.new.self in
    let n = c.feed-taken.result in
    let fed = c.feed-taken.ensures.fed in
    let t : Settlement = record { table = s.table; window = c.feed-taken.new.self; order = s.order; account = s.account; outcome = s.outcome } in
    let within : n ≤ length rest = omega (arith, fed.count) in (
      λ bounded unsettled.
          let before = c.loop-rest.invariant.0 bounded (sym c.loop-rest-test.ensures) in
          let after = c.advance.ensures.keeps.grows before.0 unsettled in (
            bounded_still s t refl refl fed.offset after.0,
            omega (arith, before.1, after.1, fed.offset, ap length fed.held, length-append (pending s.window) (take n rest), length-take-le n rest within, ap length (rest_of rest n within), length-drop n rest),
          ),
      λ known table file more here.
          let before : StandsIn known table file (rest ++ more) s = c.advance.ensures.keeps.in_file known table file (rest ++ more) (c.loop-rest.invariant.1 known table file more here) in
          let parts : rest ++ more ≡ take n rest ++ (drop n rest ++ more) = ap (λ l. l ++ more) (sym (take-append-drop n rest)) ∙ append_assoc (take n rest) (drop n rest) more in
          subst (λ l. StandsIn known table file (l ++ more) t) (sym (rest_of rest n within))
          (came_in_file s t (take n rest) refl refl refl refl fed.offset c.feed-taken.ensures.lies known table file (drop n rest ++ more) (subst (λ l. StandsIn known table file l s) parts before)),
    )

pub returns-else-not-is_empty : goal.returns-else-not-is_empty
returns-else-not-is_empty c =
    let rest = c.loop-rest.rest.now in
    let t = c.loop-rest.self in
    let none : length rest ≡ 0 = eqb-true (length rest) 0 (sym c.if-not-is_empty.ensures) in
    let any : TakesAnyPiece c.args.self.now c.args.piece.now t = record {
      grows = λ bounded unsettled. let here = c.loop-rest.invariant.0 bounded unsettled in (here.0, omega (arith, here.1, none));
      in_file = λ known table file more here. subst (λ l. StandsIn known table file (l ++ more) t) (nil_from_length rest none) (c.loop-rest.invariant.1 known table file more here);
    } in
    record { any = any; told = takes_told _ _ _ any }

pub returns-after-loop-rest : goal.returns-after-loop-rest
returns-after-loop-rest c =
    let t = c.loop-rest.self in
    let any : TakesAnyPiece c.args.self.now c.args.piece.now t = record {
      grows = λ bounded unsettled. cc;
      in_file = λ known table file more here. decided known table file _ more t (sym c.loop-rest-test.ensures) (c.loop-rest.invariant.1 known table file more here);
    } in
    record { any = any; told = takes_told _ _ _ any }
