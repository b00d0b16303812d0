-- What a file comes to: its records, one after the other, put to the account. Assumes nothing.
use Rattle.std.specs.Prelude.{◌≡◌, ℕ, ◌+◌, ◌<◌, ◌≤◌, List, length, drop, Some, None, Ok, Err, Option, Result, ◌≢◌}
use Rattle.fault.specs.declared.Fault.{Fault}
use Rattle.fault.specs.declared.cause.Cause.TheVariants.{BytesAfterEnd}
use Rattle.fault.specs.Questions.{fault}
use Rattle.calendar.specs.contracts.published_table.PublishedTableValueCalendar.TheImpl.{ghosts as table_calendar}
use Rattle.calendar.specs.declared.published_table.PublishedTable.{PublishedTable}
use Rattle.statement.specs.declared.Statement.{Statement}
use Rattle.statement.specs.Lines.{blank}
use Rattle.tagged_file.specs.declared.order.Order.{Order}
use Rattle.tagged_file.specs.declared.record.Tag.{Tag}
use Rattle.tagged_file.specs.declared.record.Tag.TheVariants as tags
use Rattle.tagged_file.specs.Decoded.{decoded}
use Rattle.tagged_file.specs.Follows.{AtStart, Follows}
use Rattle.tagged_file.specs.Spelling.{StandsHere}
use Rattle.file_account.specs.declared.chosen.Chosen.{Chosen}
use Rattle.file_account.specs.Choosing.{ChosenPuts, ChosenRefuses, ChosenSettles}

module _ (table : PublishedTable) (file : List ℕ) where
  -- from an offset on, with this order and this account, the file comes to this statement or this refusal
  pub data Comes : ℕ → Order → Option Chosen → Result Statement Fault → Type 0 where
    -- the bytes there are no record
    unreadable : {p : ℕ} {o : Order} {s : Option Chosen} {f : Fault} → decoded p (drop p file) ≡ Err f → Comes p o s (Err f)
    -- the record there may not stand there
    misplaced : {p n : ℕ} {o : Order} {s : Option Chosen} {f : Fault} {tag : Tag} {content : List ℕ} (o' : Order) → decoded p (drop p file) ≡ Ok (Some tag, content, n) → Follows o tag p (Err f) o' → Comes p o s (Err f)
    -- the account refuses the record: its fault gets the record's offset as its place
    refused : {p n : ℕ} {o o' : Order} {s : Option Chosen} {tag : Tag} {content : List ℕ} (f : Fault) → StandsHere file p o tag content n o' → (tag ≢ tags.End)
        → ChosenRefuses table_calendar table s tag content f → Comes p o s (Err (fault f.cause p))
    -- the account takes the record, and the file goes on after it
    goes_on : {p n : ℕ} {o o' : Order} {s t : Option Chosen} {tag : Tag} {content : List ℕ} {out : Result Statement Fault} → StandsHere file p o tag content n o' → (tag ≢ tags.End)
        → ChosenPuts table_calendar table s tag content (Ok tt) t → Comes (p + n) o' t out → Comes p o s out
    -- something follows the end
    too_long : {p n : ℕ} {o o' : Order} {s : Option Chosen} {content : List ℕ} → StandsHere file p o tags.End content n o' → n < length (drop p file) → Comes p o s (Err (fault BytesAfterEnd (p + n)))
    -- the account gives no statement at the end
    unsettled : {p n : ℕ} {o o' : Order} {s : Option Chosen} {content : List ℕ} (f : Fault) (after : Statement) → StandsHere file p o tags.End content n o' → length (drop p file) ≤ n
        → ChosenSettles s (Err f) blank after → Comes p o s (Err (fault f.cause p))
    settled_at_end : {p n : ℕ} {o o' : Order} {s : Option Chosen} {statement : Statement} {content : List ℕ} → StandsHere file p o tags.End content n o' → length (drop p file) ≤ n
        → ChosenSettles s (Ok tt) blank statement → Comes p o s (Ok statement)

  -- what the whole file comes to, from its first byte and no account on
  abbrev pub ComesTo : Result Statement Fault → Type 0
  ComesTo out = (o : Order) × AtStart o × Comes 0 o None out
