use Rattle.std.proofs.Common.{◌≡◌, Bool, true, false, ltb, List, length, Ok, Result, sym, ap, ◌∙◌, ⊎_elim, arith}
use Rattle.std.proofs.lemmas.Bool.{cases_lt, cond-true, cond-false, lt-ltb, le-ltb}
use Rattle.fault.specs.declared.Fault.{Fault}
use Rattle.account.specs.Calls.{answers, mark, marks}
use Rattle.valuing.proofs.Filling.{filled_all}
use Rattle.account.proofs.entering.marks_of.Goals as goal

pub returns : goal.returns
returns g c =
    let m = g.C.ValueCalendar in
    let cal = c.args.calendar.now in
    let r = c.args.register.now in
    let items = c.plants-plant-items.result.now in
    let all : c.loop-place.place ≡ length r.plants.items = omega (arith, ap length c.plants-plant-items.ensures) in
    let quarter = c.args.quarter in
    let answered : answers m cal r quarter ≡ true = ⊎_elim
    (λ some. cond-true (ltb 0 (length r.plants.items)) (ltb quarter (m.span cal)) true (lt-ltb 0 (length r.plants.items) some) ∙ lt-ltb quarter (m.span cal) (c.loop-place.invariant.1 (omega (arith, all))))
    (λ none. cond-false (ltb 0 (length r.plants.items)) (ltb quarter (m.span cal)) true (le-ltb 0 (length r.plants.items) none))
    (cases_lt 0 (length r.plants.items)) in
    let ok : List Bool → Result (List Bool) Fault = λ xs. Ok xs in
    ap ok (filled_all (mark m cal r quarter) false 8 (length r.plants.items) c.loop-place.marks (rw all at c.loop-place.invariant.0)) ∙ sym (cond-true (answers m cal r quarter) (ok (marks m cal r quarter)) _ answered)
