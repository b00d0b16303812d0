-- A settlement stands in its file from call to call. Assumes nothing.
use Rattle.std.proofs.Common.{◌≡◌, ℕ, ◌-◌, ◌≤◌, true, false, List, [], ◌++◌, length, take, drop, Some, None, Ok, Err, Result, sym, refl, ap, ◌∙◌, subst, arith, length-drop, take_all}
use Rattle.fault.specs.declared.Fault.{Fault}
use Rattle.calendar.specs.declared.published_table.PublishedTable.{PublishedTable}
use Rattle.statement.specs.declared.Statement.{Statement}
use Rattle.window.specs.Held.{ready}
use Rattle.window.specs.Lying.{LiesOn, LiesAtEnd}
use Rattle.settlement.specs.declared.settlement.Settlement.{Settlement}
use Rattle.settlement.specs.Spelled.{SettlesTo, FileSettlesTo}
use Rattle.settlement.specs.Longest.{BoundedHere, Grows}
use Rattle.settlement.specs.Progress.{Outcome, open_still}
use Rattle.settlement.specs.Settling.{Known, by_length, by_records, Told, ComesHere, Onward, StepsOn, Whereabouts, StandsIn, Keeps}

pub is_open : (outcome : Outcome) → open_still outcome ≡ true → outcome ≡ None
is_open None e = refl
is_open (Some out) e = cc

-- what is told of a file stays so while it is open
still_told : (known : Known) (file : List ℕ) (s t : Settlement) → Grows s 0 t → open_still t.outcome ≡ true → Told known file s → Told known file t
still_told by_length file s t grows still fits = fits
still_told by_records file s t grows still bounded = (grows bounded still).0

module _ (known : Known) (table : PublishedTable) (file rest : List ℕ) (s t : Settlement) (by : s.table ≡ table) (at : Whereabouts known table file rest s None) where
  whole : (out : Result Statement Fault) → ComesHere file s out → FileSettlesTo table file out
  whole out comes = at.2 out (subst (λ x. SettlesTo x file s.window.offset s.order s.account out) by comes)

  after_step : t.table ≡ s.table → Grows s 0 t → (outcome : Outcome) → t.outcome ≡ outcome → Onward file rest s t outcome → Whereabouts known table file rest t outcome
  after_step same grows None is on = (on.0, still_told known file s t grows (ap open_still is) at.1, λ out comes. whole out (on.1 out (subst (λ x. SettlesTo x file t.window.offset t.order t.account out) (sym (same ∙ by)) comes)))
  after_step same grows (Some (Ok statement)) is on = whole (Ok statement) on
  after_step same grows (Some (Err f)) is on = absurd on

-- an accepted step
pub keeps_step : (a s t : Settlement) → Keeps a s → s.outcome ≡ None → ready s.window ≡ true → StepsOn s (Ok tt) t → Keeps a t
keeps_step a s t keeps still there step = record {
  finished = step.finished ∙ keeps.finished;
  grows = λ bounded unsettled.
      let before = keeps.grows bounded (ap open_still still) in
      let after = step.grows refl before.0 unsettled in
      (after.0, omega (arith, before.1, after.1));
  in_file = λ known table file rest here.
      let in_s = keeps.in_file known table file rest here in
      let at : Whereabouts known table file rest s None = subst (Whereabouts known table file rest s) still in_s.stands in
      record { by = step.table ∙ in_s.by; stands = after_step known table file rest s t in_s.by at step.table (step.grows refl) t.outcome refl (step.steps known file rest at.0 at.1 there still) };
}

-- a refused one, whose fault becomes the outcome
pub keeps_refusal : (a s t u : Settlement) (f : Fault) → Keeps a s → s.outcome ≡ None → ready s.window ≡ true → StepsOn s (Err f) t → u.table ≡ t.table → u.window ≡ t.window → u.outcome ≡ Some (Err f) → Keeps a u
keeps_refusal a s t u f keeps still there step table window outcome = record {
  finished = ap (λ w. w.finished) window ∙ step.finished ∙ keeps.finished;
  grows = λ bounded unsettled. cc (ap open_still outcome);
  in_file = λ known by file rest here.
      let in_s = keeps.in_file known by file rest here in
      let at : Whereabouts known by file rest s None = subst (Whereabouts known by file rest s) still in_s.stands in
      record { by = table ∙ step.table ∙ in_s.by; stands = subst (Whereabouts known by file rest u) (sym outcome) (whole known by file rest s u in_s.by at (Err f) (step.steps known file rest at.0 at.1 there still)) };
}

-- a decided settlement does not mind what is still to come
decided_at : (known : Known) (table : PublishedTable) (file rest rest' : List ℕ) (s t : Settlement) (outcome : Outcome) → open_still outcome ≡ false → Whereabouts known table file rest s outcome → Whereabouts known table file rest' t outcome
decided_at known table file rest rest' s t None e at = cc
decided_at known table file rest rest' s t (Some out) e at = at

pub decided : (known : Known) (table : PublishedTable) (file rest rest' : List ℕ) (s : Settlement) → open_still s.outcome ≡ false → StandsIn known table file rest s → StandsIn known table file rest' s
decided known table file rest rest' s e here = record { by = here.by; stands = decided_at known table file rest rest' s s s.outcome e here.stands }

-- what is bounded stays so where order, account and offset stay
pub bounded_still : (s t : Settlement) → t.order ≡ s.order → t.account ≡ s.account → t.window.offset ≡ s.window.offset → BoundedHere s → BoundedHere t
bounded_still s t order account offset bounded = rw (order, account, offset) bounded

told_still : (known : Known) (file : List ℕ) (s t : Settlement) → t.order ≡ s.order → t.account ≡ s.account → t.window.offset ≡ s.window.offset → Told known file s → Told known file t
told_still by_length file s t order account offset fits = fits
told_still by_records file s t order account offset bounded = bounded_still s t order account offset bounded

-- bytes that come in at the end of the window
module _ (s t : Settlement) (came : List ℕ) (table : t.table ≡ s.table) (order : t.order ≡ s.order) (account : t.account ≡ s.account) (outcome : t.outcome ≡ s.outcome)
    (offset : t.window.offset ≡ s.window.offset) (stood : LiesOn s.window came t.window) where
  came_at : (known : Known) (by : PublishedTable) (file rest : List ℕ) (x : Outcome) → Whereabouts known by file (came ++ rest) s x → Whereabouts known by file rest t x
  came_at known by file rest None at = (
    stood file rest at.0,
    told_still known file s t order account offset at.1,
    λ out comes. at.2 out (rw (offset, order, account) at comes),
  )
  came_at known by file rest (Some out) at = at

  pub came_in_file : (known : Known) (by : PublishedTable) (file rest : List ℕ) → StandsIn known by file (came ++ rest) s → StandsIn known by file rest t
  came_in_file known by file rest here = record { by = table ∙ here.by; stands = subst (Whereabouts known by file rest t) (sym outcome) (came_at known by file rest s.outcome here.stands) }

-- a settlement of which nothing is still to come
pub done_in : (s t : Settlement) → t.table ≡ s.table → t.order ≡ s.order → t.account ≡ s.account → t.outcome ≡ s.outcome → t.window.offset ≡ s.window.offset → LiesAtEnd s.window t.window
    → (known : Known) (by : PublishedTable) (file : List ℕ) → StandsIn known by file [] s → StandsIn known by file [] t
done_in s t table order account outcome offset stood known by file here = record { by = table ∙ here.by; stands = subst (Whereabouts known by file [] t) (sym outcome) (at s.outcome here.stands) }
  where
    at : (x : Outcome) → Whereabouts known by file [] s x → Whereabouts known by file [] t x
    at None a = (
      stood file a.0,
      told_still known file s t order account offset a.1,
      λ out comes. a.2 out (rw (offset, order, account) at comes),
    )
    at (Some out) a = a

-- a piece is what was taken of it, and then its rest
pub rest_of : (piece : List ℕ) (n : ℕ) → n ≤ length piece → take (length piece - n) (drop n piece) ≡ drop n piece
rest_of piece n within = take_all (length piece - n) (drop n piece) (omega (arith, length-drop n piece))
