use Rattle.std.proofs.Common.{◌≡◌, ◌+◌, length, Some, Ok, Err, sym, refl, ap, ◌∙◌, subst, arith, length-drop, rules}
use Rattle.fault.specs.Questions.{fault}
use Rattle.calendar.specs.contracts.published_table.PublishedTableValueCalendar.TheImpl.{ghosts as table_calendar}
use Rattle.tagged_file.specs.Format.{tag_in, content_in}
use Rattle.window.specs.Lying.{AnswersForAnyFile}
use Rattle.window.specs.Held.{pending}
use Rattle.tagged_file.specs.declared.record.Record.TheVariants as records
use Rattle.tagged_file.specs.declared.record.Tag.TheVariants as tags
use Rattle.file_account.specs.Choosing.{ChosenPuts}
use Rattle.settlement.specs.declared.settlement.Settlement.{Settlement}
use Rattle.settlement.specs.Settling.{ComesHere, Ends}
use Rattle.settlement.proofs.Outcomes.{unreadable, misplaced}
use Rattle.settlement.proofs.Stepping.{no_end_tag, follows_at, placed_ok, placed_err, refused_step, refused_here, goes_on_here, end_step}
use Rattle.settlement.proofs.settlement.Settlement.step.Goals as goal

pub returns-in_err-record-clause-onward : goal.returns-in_err-record-clause-onward
returns-in_err-record-clause-onward c =
    let s = c.args.self.now in
    let f = c.in_err-record.field-0.0 in
    refused_step s _ c.from_residual.result f (search rules) refl refl
    (λ file rest stands there. unreadable s.table file s.window.offset s.order s.account f (sym (c.in_err-record.ensures.any file rest stands there)))

pub returns-in_err-allow-clause-onward : goal.returns-in_err-allow-clause-onward
returns-in_err-allow-clause-onward c =
    let s = c.args.self.now in
    let x = c.in_ok-record.record in
    let f = c.in_err-allow.field-0.0 in
    let o = c.allow.new.self in
    let follows = follows_at s.order o c.tag.result (tag_in x) c.offset-offset.result s.window.offset (Err f) c.tag.ensures c.offset-offset.ensures c.in_err-allow.ensures in
    refused_step s _ c.from_residual-in_err-allow.result f (search rules) refl refl
    (λ file rest stands there. misplaced s.table file s.window.offset c.in_ok-record.size s.order o s.account f (tag_in x) (content_in x) (sym (c.in_ok-record.ensures.any file rest stands there)) follows)

pub returns-in_err-placed-clause-onward : goal.returns-in_err-placed-clause-onward
returns-in_err-placed-clause-onward c =
    let s = c.args.self.now in
    let x = c.in_ok-record.record in
    let g = c.in_err-placed.field-0.0 in
    let o = c.allow.new.self in
    let was = placed_err c.offset-offset.result c.put.result g c.in_err-placed.ensures in
    let follows = follows_at s.order o c.tag.result (tag_in x) c.offset-offset.result s.window.offset (Ok tt) c.tag.ensures c.offset-offset.ensures c.in_ok-allow.ensures in
    let puts : ChosenPuts table_calendar s.table s.account (tag_in x) (content_in x) (Err was.0) c.put.new.account = subst (λ r. ChosenPuts table_calendar s.table s.account (tag_in x) (content_in x) r c.put.new.account) was.1 c.put.ensures in
    refused_step s _ c.from_residual-in_err-placed.result g (search rules) refl refl
    (λ file rest stands there.
    subst (λ q. ComesHere file s (Err q)) (sym (was.2 ∙ ap (λ p. fault was.0.cause p) c.offset-offset.ensures))
    (refused_here s (tag_in x) (content_in x) c.in_ok-record.size o c.in_ok-record.ensures.any was.0 follows (no_end_tag x c.in_default.not-End) (c.put.new.account, puts) file rest stands there))

pub returns-clause-less : goal.returns-clause-less
returns-clause-less c = λ still.
    let size = c.in_ok-record.size in
    let fits = c.in_ok-record.ensures.fits in
    omega (arith, ap length c.pass.ensures.passed.held, length-drop size (pending c.args.self.now.window), fits.size, fits.within)

pub returns-clause-onward : goal.returns-clause-onward
returns-clause-onward c =
    let s = c.args.self.now in
    let x = c.in_ok-record.record in
    let o = c.allow.new.self in
    let fits = c.in_ok-record.ensures.fits in
    let follows = follows_at s.order o c.tag.result (tag_in x) c.offset-offset.result s.window.offset (Ok tt) c.tag.ensures c.offset-offset.ensures c.in_ok-allow.ensures in
    let puts : ChosenPuts table_calendar s.table s.account (tag_in x) (content_in x) (Ok tt) c.put.new.account =
    subst (λ r. ChosenPuts table_calendar s.table s.account (tag_in x) (content_in x) r c.put.new.account) (placed_ok c.offset-offset.result c.put.result c.in_ok-placed.ensures) c.put.ensures in
    goes_on_here s (tag_in x) (content_in x) c.in_ok-record.size o c.in_ok-record.ensures.any _ c.put.new.account follows (no_end_tag x c.in_default.not-End) puts
    fits.long fits.size fits.within c.pass.ensures.passed c.pass.ensures.lies refl refl refl refl

pub returns-in-End-clause-onward : goal.returns-in-End-clause-onward
returns-in-End-clause-onward c =
    let s = c.args.self.now in
    let x = c.in_ok-record.record in
    let n = c.in_ok-record.size in
    let o = c.allow.new.self in
    let u : Settlement = record { table = s.table; window = s.window; order = o; account = s.account; outcome = s.outcome } in
    let end : x ≡ records.End = c.in-End.is in
    let fits = c.in_ok-record.ensures.fits in
    let three : n ≡ 3 = fits.size ∙ ap (λ y. 3 + length (content_in y)) end in
    let whole : AnswersForAnyFile s.window (Ok (Some tags.End, content_in x, n)) = subst (λ t. AnswersForAnyFile s.window (Ok (Some t, content_in x, n))) (ap tag_in end) c.in_ok-record.ensures.any in
    let follows = follows_at s.order o c.tag.result tags.End c.offset-offset.result s.window.offset (Ok tt) (c.tag.ensures ∙ ap tag_in end) c.offset-offset.ensures c.in_ok-allow.ensures in
    let ends : Ends u s.window.offset n c.end.result c.end.new.self = subst (λ q. Ends u q n c.end.result c.end.new.self) c.offset-offset.ensures c.end.ensures.ends in
    end_step s u c.end.new.self (content_in x) n c.end.result refl refl refl ends three fits.within follows whole
