-- What a file comes to, from the step that is made at its front. Assumes nothing.
use Rattle.std.proofs.Common.{◌≡◌, ℕ, ◌+◌, ◌<◌, ◌≤◌, List, [], ◌∷◌, length, drop, Some, None, Ok, Err, Option, Result, sym, refl, ◌∙◌, inl, inr}
use Rattle.fault.specs.declared.Fault.{Fault}
use Rattle.fault.specs.declared.cause.Cause.TheVariants.{BytesAfterEnd}
use Rattle.fault.specs.Questions.{fault}
use Rattle.calendar.specs.contracts.published_table.PublishedTableValueCalendar.TheImpl.{ghosts as table_calendar}
use Rattle.calendar.specs.declared.published_table.PublishedTable.{PublishedTable}
use Rattle.statement.specs.declared.Statement.{Statement}
use Rattle.statement.specs.Lines.{blank}
use Rattle.tagged_file.specs.declared.order.Order.{Order}
use Rattle.tagged_file.specs.declared.record.Tag.{Tag}
use Rattle.tagged_file.specs.declared.record.Tag.TheVariants as tags
use Rattle.tagged_file.specs.Decoded.{decoded}
use Rattle.tagged_file.specs.Follows.{AtStart, Follows}
use Rattle.tagged_file.specs.Spelling.{Placed, ended, broken_off, StandsHere, no_record, out_of_order, one_more, past_end, at_end}
use Rattle.tagged_file.proofs.Spelled.{spelled}
use Rattle.tagged_file.proofs.SpelledOnce.{once}
use Rattle.file_account.specs.declared.chosen.Chosen.{Chosen}
use Rattle.file_account.specs.Choosing.{ChosenPuts, ChosenRefuses, ChosenSettles}
use Rattle.settlement.specs.Spelled.{SettlesTo, FileSettlesTo}

module _ (table : PublishedTable) (file : List ℕ) where
  -- from the first byte on
  pub from_start : (o : Order) (out : Result Statement Fault) → AtStart o → SettlesTo table file 0 o None out → FileSettlesTo table file out
  from_start o out start comes = record {
    order = o;
    start = start;
    comes = comes;
    only = λ o' start' records ending spells. once file {o = o'} {o' = o} (start'.0 ∙ sym start.0, start'.1 ∙ sym start.1) spells comes.spells;
  }

  -- the bytes there are no record
  pub unreadable : (p : ℕ) (o : Order) (s : Option Chosen) (f : Fault) → decoded p (drop p file) ≡ Err f → SettlesTo table file p o s (Err f)
  unreadable p o s f e = record { records = []; ending = broken_off f; spells = no_record e; outcome = refl }

  -- the record there may not stand there
  pub misplaced : (p n : ℕ) (o o' : Order) (s : Option Chosen) (f : Fault) (tag : Tag) (content : List ℕ) → decoded p (drop p file) ≡ Ok (Some tag, content, n) → Follows o tag p (Err f) o' → SettlesTo table file p o s (Err f)
  misplaced p n o o' s f tag content e follows = record { records = []; ending = broken_off f; spells = out_of_order o' e follows; outcome = refl }

  module _ (p n : ℕ) (o o' : Order) (s : Option Chosen) where
    -- the account refuses the record, whatever the file spells after it
    pub refused : (tag : Tag) (content : List ℕ) (f : Fault) → StandsHere file p o tag content n o' → (tag ≡ tags.End → ⊥) → ChosenRefuses table_calendar table s tag content f → SettlesTo table file p o s (Err (fault f.cause p))
    refused tag content f here no_end puts =
        let rest = spelled file (p + n) o' in
        let r : Placed = record { offset = p; tag = tag; content = content; size = n } in
        record { records = r ∷ rest.0; ending = rest.1; spells = one_more here no_end rest.2; outcome = inr (f, puts, refl) }

    -- the account takes the record, and the file goes on after it
    pub goes_on : (t : Option Chosen) (tag : Tag) (content : List ℕ) (out : Result Statement Fault) → StandsHere file p o tag content n o' → (tag ≡ tags.End → ⊥) → ChosenPuts table_calendar table s tag content (Ok tt) t
        → SettlesTo table file (p + n) o' t out → SettlesTo table file p o s out
    goes_on t tag content out here no_end puts comes =
        let r : Placed = record { offset = p; tag = tag; content = content; size = n } in
        record { records = r ∷ comes.records; ending = comes.ending; spells = one_more here no_end comes.spells; outcome = inl (t, puts, comes.outcome) }

    -- something follows the end
    pub too_long : (content : List ℕ) → StandsHere file p o tags.End content n o' → n < length (drop p file) → SettlesTo table file p o s (Err (fault BytesAfterEnd (p + n)))
    too_long content here more = record { records = []; ending = broken_off (fault BytesAfterEnd (p + n)); spells = past_end here more; outcome = refl }

    -- the account gives no statement at the end
    pub unsettled : (content : List ℕ) (f : Fault) (after : Statement) → StandsHere file p o tags.End content n o' → length (drop p file) ≤ n → ChosenSettles s (Err f) blank after → SettlesTo table file p o s (Err (fault f.cause p))
    unsettled content f after here none settles = record { records = []; ending = ended p; spells = at_end here none; outcome = (f, after, settles, refl) }

    pub settled_at_end : (content : List ℕ) (statement : Statement) → StandsHere file p o tags.End content n o' → length (drop p file) ≤ n → ChosenSettles s (Ok tt) blank statement → SettlesTo table file p o s (Ok statement)
    settled_at_end content statement here none settles = record { records = []; ending = ended p; spells = at_end here none; outcome = settles }
