-- A file that comes to a statement is no longer than its records can be. Assumes nothing.
use Rattle.std.proofs.Common.{ℕ, ◌≤◌, List, length, drop, None, Ok, Option, sym, refl, inl, inr, arith, length-drop}
use Rattle.std.proofs.lemmas.Bool.{eqb-true}
use Rattle.calendar.specs.contracts.published_table.PublishedTableValueCalendar.TheImpl.{ghosts as table_calendar}
use Rattle.calendar.specs.declared.published_table.PublishedTable.{PublishedTable}
use Rattle.statement.specs.declared.Statement.{Statement}
use Rattle.tagged_file.proofs.Asked.{decoded_fits}
use Rattle.tagged_file.specs.declared.order.Order.{Order}
use Rattle.tagged_file.specs.declared.record.Tag.TheVariants as tags
use Rattle.tagged_file.specs.Spelling.{Placed, Ending, Spells, no_record, out_of_order, one_more, past_end, at_end}
use Rattle.file_account.specs.declared.chosen.Chosen.{Chosen}
use Rattle.settlement.specs.Spelled.{PutInTurn, FileSettlesTo}
use Rattle.settlement.specs.Longest.{Bounded, longest_file}
use Rattle.settlement.proofs.Allowing.{bounded_most, taken_bounded}

module _ (table : PublishedTable) (file : List ℕ) (statement : Statement) where
  from_here : {p : ℕ} {o : Order} {records : List Placed} {ending : Ending} → Spells file p o records ending → (s : Option Chosen) → PutInTurn table records ending s (Ok statement) → Bounded o s p → length file ≤ longest_file
  from_here (no_record e) s outcome bounded = cc
  from_here (out_of_order o e f) s outcome bounded = cc
  from_here (one_more {p} {n} {o} {o'} {tag} {content} here no_end more) s (inl on) bounded =
      let fits = decoded_fits p (drop p file) tag content n (sym here.is) in
      from_here more on.0 on.2 (taken_bounded table_calendar table content o o' s on.0 tag p p n here.allowed fits.long fits.size no_end on.1 bounded)
  from_here (one_more here no_end more) s (inr off) bounded = cc
  from_here (past_end here more) s outcome bounded = cc
  from_here (at_end {p} {n} {o} {o'} {content} here alone) s settles bounded =
      let fits = decoded_fits p (drop p file) tags.End content n (sym here.is) in
      omega (arith, bounded_most o s p bounded, alone, length-drop p file, fits.size, eqb-true _ _ fits.long)

  pub longest : FileSettlesTo table file (Ok statement) → length file ≤ longest_file
  longest to = from_here to.comes.spells None to.comes.outcome (record { unbegun = λ early. refl; bytes = omega arith })
