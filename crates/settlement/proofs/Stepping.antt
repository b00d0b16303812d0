-- One step in whatever file the window stands. Assumes nothing.
use Rattle.std.proofs.Common.{◌≡◌, ℕ, ◌+◌, ◌<◌, ◌≤◌, min, true, ◌||◌, ltb, List, ◌++◌, length, drop, Some, None, Ok, Err, Option, sym, refl, ap, ◌∙◌, subst, ⊎_elim, append-nil, arith, length-append, length-drop}
use Rattle.std.proofs.lemmas.Bool.{MatchBool-at_true, MatchBool-at_false, cases_Bool, ltb-true, ltb-false, lt-leb}
use Rattle.fault.specs.declared.Fault.{Fault}
use Rattle.fault.specs.declared.cause.Cause.TheVariants.{BytesAfterEnd}
use Rattle.fault.specs.Questions.{Answer, fault}
use Rattle.calendar.specs.contracts.published_table.PublishedTableValueCalendar.TheImpl.{ghosts as table_calendar}
use Rattle.tagged_file.specs.declared.order.Order.{Order}
use Rattle.tagged_file.specs.declared.record.Record.{Record}
use Rattle.tagged_file.specs.declared.record.Record.TheVariants as records
use Rattle.tagged_file.specs.declared.record.Tag.{Tag}
use Rattle.tagged_file.specs.declared.record.Tag.TheVariants as tags
use Rattle.window.specs.declared.Window.{Window}
use Rattle.tagged_file.specs.Follows.{Follows}
use Rattle.tagged_file.specs.Format.{right, tag_in}
use Rattle.window.specs.Held.{pending, ready, Passed}
use Rattle.window.specs.Limits.{most_offset}
use Rattle.tagged_file.specs.Spelling.{StandsHere}
use Rattle.window.specs.Lying.{LiesIn, LiesPast, AnswersForAnyFile}
use Rattle.window.proofs.Standing.{pending_most}
use Rattle.file_account.specs.declared.chosen.Chosen.{Chosen}
use Rattle.settlement.specs.declared.settlement.Settlement.{Settlement}
use Rattle.file_account.specs.Choosing.{ChosenPuts, ChosenRefuses}
use Rattle.settlement.specs.Longest.{Bounded, BoundedHere, came_in}
use Rattle.settlement.specs.Progress.{Outcome, open_still}
use Rattle.settlement.specs.Settling.{placed, Known, by_length, by_records, Told, ComesHere, Onward, StepIn, StepsOn, Ends, EndsIn}
use Rattle.settlement.proofs.Allowing.{bounded_most, taken_bounded}
use Rattle.settlement.proofs.Outcomes.{refused, goes_on, too_long, unsettled, settled_at_end}

-- a record that is no end has another tag
pub no_end_tag : (x : Record) → (x ≡ records.End → ⊥) → tag_in x ≡ tags.End → ⊥
no_end_tag (records.Year y) unlike e = cc
no_end_tag (records.Plant y) unlike e = cc
no_end_tag (records.Contract y) unlike e = cc
no_end_tag (records.Quarter y) unlike e = cc
no_end_tag (records.Remark y) unlike e = cc
no_end_tag records.End unlike e = unlike refl

-- what may follow, said of the record's own tag and of the window's offset
pub follows_at : (o o' : Order) (tag tag' : Tag) (p p' : ℕ) (r : Answer) → tag ≡ tag' → p ≡ p' → Follows o tag p r o' → Follows o tag' p' r o'
follows_at o o' tag tag' p p' r same here follows = subst (λ q. Follows o tag' q r o') here (subst (λ t. Follows o t p r o') same follows)

-- what an answer was, before a fault got its place
pub placed_ok : (p : ℕ) (r : Answer) → ◌≡◌ {A = Answer} (Ok tt) (placed p r) → r ≡ Ok tt
placed_ok p (Ok _) e = refl
placed_ok p (Err f) e = cc

pub placed_err : (p : ℕ) (r : Answer) (g : Fault) → ◌≡◌ {A = Answer} (Err g) (placed p r) → (f : Fault) × (r ≡ Err f) × (g ≡ fault f.cause p)
placed_err p (Ok _) g e = cc
placed_err p (Err f) g e = (f, refl, cc)

-- a step that refuses decides what the file comes to
pub refused_step : (s t : Settlement) (r : Answer) (f : Fault) → r ≡ Err f → t.table ≡ s.table → t.window.finished ≡ s.window.finished
    → ((file rest : List ℕ) → LiesIn file s.window rest → ready s.window ≡ true → ComesHere file s (Err f)) → StepsOn s r t
refused_step s t r f err table finished comes = record {
  table = table;
  finished = finished;
  grows = λ ok. cc;
  steps = λ known file rest stands told there still. subst (λ q. StepIn file rest s q t) (sym err) (comes file rest stands there);
}

-- no offset in a bounded file comes near the largest that can be told
bounded_told : (s : Settlement) → BoundedHere s → came_in s ≤ most_offset
bounded_told s bounded =
    omega (arith, bounded_most s.order s.account s.window.offset bounded, pending_most s.window)

-- where something is held, an offset can tell where it ends
told : (known : Known) (file rest : List ℕ) (s : Settlement) → LiesIn file s.window rest → Told known file s → 0 < length (pending s.window) → came_in s ≤ most_offset
told by_length file rest s stands fits some = omega (arith, ap length stands.on, length-append (pending s.window) rest, length-drop s.window.offset file)
told by_records file rest s stands bounded some = bounded_told s bounded

module _ (s : Settlement) (tag : Tag) (content : List ℕ) (n : ℕ) (o' : Order) (whole : AnswersForAnyFile s.window (Ok (Some tag, content, n))) where
  here : Follows s.order tag s.window.offset (Ok tt) o' → (file rest : List ℕ) → LiesIn file s.window rest → ready s.window ≡ true
      → StandsHere file s.window.offset s.order tag content n o'
  here follows file rest stands there = record { is = sym (whole file rest stands there); allowed = follows }

  pub refused_here : (f : Fault) → Follows s.order tag s.window.offset (Ok tt) o' → (tag ≡ tags.End → ⊥) → ChosenRefuses table_calendar s.table s.account tag content f
      → (file rest : List ℕ) → LiesIn file s.window rest → ready s.window ≡ true → ComesHere file s (Err (fault f.cause s.window.offset))
  refused_here f follows no_end puts file rest stands there = refused s.table file s.window.offset n s.order o' s.account tag content f (here follows file rest stands there) no_end puts

  pub goes_on_here : (t : Settlement) (ch : Option Chosen) → Follows s.order tag s.window.offset (Ok tt) o' → (tag ≡ tags.End → ⊥) → ChosenPuts table_calendar s.table s.account tag content (Ok tt) ch
      → right tag (length content) ≡ true → n ≡ 3 + length content → n ≤ length (pending s.window) → Passed s.window n t.window → LiesPast s.window t.window
      → t.table ≡ s.table → t.order ≡ o' → t.account ≡ ch → t.outcome ≡ s.outcome → StepsOn s (Ok tt) t
  goes_on_here t ch follows no_end puts fits size held passed stood table order account outcome = record {
    table = table;
    finished = passed.finished;
    grows = λ ok bounded still.
        let bound : Bounded o' ch (s.window.offset + n) = taken_bounded table_calendar s.table content s.order o' s.account ch tag s.window.offset s.window.offset n follows fits size no_end puts bounded in
        (rw (on (bounded_told s bounded), order, account) bound, omega (arith, on (bounded_told s bounded), ap length passed.held, length-drop n (pending s.window), held));
    steps = λ known file rest stands fits_file there still.
        let near = told known file rest s stands fits_file (omega (arith, size, held)) in
        subst (λ q. Onward file rest s t q) (sym (outcome ∙ still)) (
          stood file rest near stands,
          λ out comes. goes_on s.table file s.window.offset n s.order o' s.account ch tag content out (here follows file rest stands there) no_end puts (rw (table, on near, order, account) at comes),
        );
  }
    where
      on : came_in s ≤ most_offset → t.window.offset ≡ s.window.offset + n
      on near = omega (arith, passed.offset, near, held)

-- a window that is ready and holds less than the longest record has all that is left
finished_when : (w : Window) → ready w ≡ true → length (pending w) < 1027 → w.finished ≡ true
finished_when w there short = subst (λ b. (b || w.finished) ≡ true) (lt-leb 1027 (length (pending w)) short) there

all_held : (file rest : List ℕ) (w : Window) → LiesIn file w rest → w.finished ≡ true → drop w.offset file ≡ pending w
all_held file rest w stands done = stands.on ∙ ap (λ l. pending w ++ l) (stands.over done) ∙ append-nil (pending w)

-- nothing follows the end record: the account answers
in_end : (s t : Settlement) (file rest content : List ℕ) (n : ℕ) (o' : Order) → StandsHere file s.window.offset s.order tags.End content n o' → length (drop s.window.offset file) ≤ n
    → (r : Answer) (outcome : Outcome) → t.outcome ≡ outcome → EndsIn s.account s.window.offset r outcome → StepIn file rest s r t
in_end s t file rest content n o' here alone (Ok _) None is e = absurd e
in_end s t file rest content n o' here alone (Ok _) (Some (Ok statement)) is e = subst (λ q. Onward file rest s t q) (sym is) (settled_at_end s.table file s.window.offset n s.order o' s.account content statement here alone e)
in_end s t file rest content n o' here alone (Ok _) (Some (Err f)) is e = absurd e
in_end s t file rest content n o' here alone (Err g) outcome is e = subst (λ q. ComesHere file s (Err q)) (sym e.3) (unsettled s.table file s.window.offset n s.order o' s.account content e.0 e.1 here alone e.2)

-- what has ended is open no more
ended : (ch : Option Chosen) (p : ℕ) (outcome : Outcome) → EndsIn ch p (Ok tt) outcome → open_still outcome ≡ true → ⊥
ended ch p None e still = e
ended ch p (Some out) e still = cc

-- the step of an end record, after which u is what the order left
pub end_step : (s u t : Settlement) (content : List ℕ) (n : ℕ) (r : Answer) → u.table ≡ s.table → u.window ≡ s.window → u.account ≡ s.account → Ends u s.window.offset n r t → n ≡ 3 → n ≤ length (pending s.window)
    → Follows s.order tags.End s.window.offset (Ok tt) u.order → AnswersForAnyFile s.window (Ok (Some tags.End, content, n)) → StepsOn s r t
end_step s u t content n r table window account ends three held follows whole = record {
  table = ends.table ∙ table;
  finished = ap (λ (w : Window). w.finished) (ends.window ∙ window);
  grows = λ ok bounded still.
      ⊎_elim
      (λ more. cc (MatchBool-at_true _ _ more ends.answer))
      (λ none. absurd (ended u.account s.window.offset t.outcome (subst (λ q. EndsIn u.account s.window.offset q t.outcome) ok (MatchBool-at_false _ _ none ends.answer)) still))
      (cases_Bool (ltb n (length (pending u.window))));
  steps = λ known file rest stands fits there still.
      let p = s.window.offset in
      let near = told known file rest s stands fits (omega (arith, three, held)) in
      let here : StandsHere file p s.order tags.End content n u.order = record { is = sym (whole file rest stands there); allowed = follows } in
      let same : length (pending u.window) ≡ length (pending s.window) = ap (λ w. length (pending w)) window in
      ⊎_elim
      (λ more.
      let longer : n < length (drop p file) = omega (arith, ltb-true n (length (pending u.window)) more, same, ap length stands.on, length-append (pending s.window) rest) in
      let place : min (p + n) most_offset ≡ p + n = omega (arith, near, held) in
      let refusal : ℕ → Answer = λ q. Err (fault BytesAfterEnd q) in
      subst (λ q. StepIn file rest s q t) (sym (MatchBool-at_true _ _ more ends.answer ∙ ap refusal place)) (too_long s.table file p n s.order u.order s.account content here longer))
      (λ none.
      let few : length (pending s.window) ≤ n = omega (arith, ltb-false n (length (pending u.window)) none, same) in
      let done : s.window.finished ≡ true = finished_when s.window there (omega (arith, few, three)) in
      let alone : length (drop p file) ≤ n = omega (arith, ap length (all_held file rest s.window stands done), few) in
      in_end s t file rest content n u.order here alone r t.outcome refl (subst (λ h. EndsIn h p r t.outcome) account (MatchBool-at_false _ _ none ends.answer)))
      (cases_Bool (ltb n (length (pending u.window))));
}
