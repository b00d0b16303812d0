-- What a file comes to, said record by record, is what it comes to by what it spells. Assumes nothing.
use Rattle.std.proofs.Common.{ℕ, List, ◌++◌, Some, None, Ok, Err, Option, Result, sym, subst, ⊎_elim}
use Rattle.fault.specs.declared.Fault.{Fault}
use Rattle.calendar.specs.declared.published_table.PublishedTable.{PublishedTable}
use Rattle.statement.specs.declared.Statement.{Statement}
use Rattle.tagged_file.specs.declared.order.Order.{Order}
use Rattle.tagged_file.specs.Spelling.{Placed, Ending, Spells, no_record, out_of_order, one_more, past_end, at_end}
use Rattle.file_account.specs.declared.chosen.Chosen.{Chosen}
use Rattle.settlement.specs.Progress.{Outcome}
use Rattle.settlement.specs.declared.settlement.Settlement.{Settlement}
use Rattle.settlement.specs.Files.{Comes, ComesTo, unreadable, misplaced, refused, goes_on, too_long, unsettled, settled_at_end}
use Rattle.settlement.specs.Spelled.{PutInTurn, SettlesTo, FileSettlesTo}
use Rattle.settlement.specs.Settling.{by_length, Whereabouts, StandsIn, StartsInAny, TakesAnyPiece, AnswersForAny, At, InFile, StartsIn, TakesPiece, AnswersFor}
use Rattle.settlement.proofs.Outcomes as spelled

module _ (table : PublishedTable) (file : List ℕ) where
  in_turn : {p : ℕ} {o : Order} {s : Option Chosen} {records : List Placed} {ending : Ending} (out : Result Statement Fault) → Spells file p o records ending → PutInTurn table records ending s out → Comes table file p o s out
  in_turn {p = p} {o = o} {s = s} out (no_record e) is = subst (Comes table file p o s) (sym is) (unreadable e)
  in_turn {p = p} {o = o} {s = s} out (out_of_order o' e follows) is = subst (Comes table file p o s) (sym is) (misplaced o' e follows)
  in_turn {p = p} {o = o} {s = s} out (one_more here no_end more) puts =
      ⊎_elim
      (λ took. goes_on here no_end took.1 (in_turn out more took.2))
      (λ not_so. subst (Comes table file p o s) (sym not_so.2) (refused not_so.0 here no_end not_so.1))
      puts
  in_turn {p = p} {o = o} {s = s} out (past_end here longer) is = subst (Comes table file p o s) (sym is) (too_long here longer)
  in_turn (Ok statement) (at_end here none) settles = settled_at_end here none settles
  in_turn {p = p} {o = o} {s = s} (Err g) (at_end here none) unsaid = subst (λ q. Comes table file p o s (Err q)) (sym unsaid.3) (unsettled unsaid.0 unsaid.1 here none unsaid.2)

  by_spelling : {p : ℕ} {o : Order} {s : Option Chosen} {out : Result Statement Fault} → Comes table file p o s out → SettlesTo table file p o s out
  by_spelling (unreadable e) = spelled.unreadable table file _ _ _ _ e
  by_spelling (misplaced o' e follows) = spelled.misplaced table file _ _ _ o' _ _ _ _ e follows
  by_spelling (refused f here no_end puts) = spelled.refused table file _ _ _ _ _ _ _ f here no_end puts
  by_spelling (goes_on here no_end puts more) = spelled.goes_on table file _ _ _ _ _ _ _ _ _ here no_end puts (by_spelling more)
  by_spelling (too_long here longer) = spelled.too_long table file _ _ _ _ _ _ here longer
  by_spelling (unsettled f after here none settles) = spelled.unsettled table file _ _ _ _ _ _ f after here none settles
  by_spelling (settled_at_end here none settles) = spelled.settled_at_end table file _ _ _ _ _ _ _ here none settles

  pub comes_to : (out : Result Statement Fault) → FileSettlesTo table file out → ComesTo table file out
  comes_to out file_settles = (file_settles.order, file_settles.start, in_turn out file_settles.comes.spells file_settles.comes.outcome)

  settles_to : (out : Result Statement Fault) → ComesTo table file out → FileSettlesTo table file out
  settles_to out comes = spelled.from_start table file comes.0 out comes.1 (by_spelling comes.2)

  at_told : (rest : List ℕ) (s : Settlement) (outcome : Outcome) → Whereabouts by_length table file rest s outcome → At table file rest s outcome
  at_told rest s None w = (record { on = w.0.on; over = w.0.over; told = w.1 }, λ out comes. comes_to out (w.2 out (by_spelling comes)))
  at_told rest s (Some out) w = comes_to out w

  of_told : (rest : List ℕ) (s : Settlement) (outcome : Outcome) → At table file rest s outcome → Whereabouts by_length table file rest s outcome
  of_told rest s None a = (record { on = a.0.on; over = a.0.over }, a.0.told, λ out settles. settles_to out (a.1 out (in_turn out settles.spells settles.outcome)))
  of_told rest s (Some out) a = settles_to out a

  in_file : (rest : List ℕ) (s : Settlement) → StandsIn by_length table file rest s → InFile table file rest s
  in_file rest s here = record { by = here.by; stands = at_told rest s s.outcome here.stands }

  of_file : (rest : List ℕ) (s : Settlement) → InFile table file rest s → StandsIn by_length table file rest s
  of_file rest s here = record { by = here.by; stands = of_told rest s s.outcome here.stands }

pub starts_told : (table : PublishedTable) (s : Settlement) → StartsInAny table s → StartsIn table s
starts_told table s starts file fits = in_file table file file s (starts.in_file by_length file fits)

pub takes_told : (s : Settlement) (piece : List ℕ) (t : Settlement) → TakesAnyPiece s piece t → TakesPiece s piece t
takes_told s piece t takes table file rest here = in_file table file rest t (takes.in_file by_length table file rest (of_file table file (piece ++ rest) s here))

pub answers_told : (s : Settlement) (out : Result Statement Fault) → AnswersForAny s out → AnswersFor s out
answers_told s out answers table file here = comes_to table file out (answers by_length table file (of_file table file _ s here))
