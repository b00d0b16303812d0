-- What a file comes to, said by what its bytes spell: those records, put to the account in turn. Assumes nothing.
use Rattle.std.specs.Prelude.{◌≡◌, ℕ, ◌⊎◌, List, [], ◌∷◌, None, Ok, Err, Option, Result}
use Rattle.fault.specs.declared.Fault.{Fault}
use Rattle.fault.specs.Questions.{fault}
use Rattle.calendar.specs.contracts.published_table.PublishedTableValueCalendar.TheImpl.{ghosts as table_calendar}
use Rattle.calendar.specs.declared.published_table.PublishedTable.{PublishedTable}
use Rattle.statement.specs.declared.Statement.{Statement}
use Rattle.statement.specs.Lines.{blank}
use Rattle.tagged_file.specs.declared.order.Order.{Order}
use Rattle.tagged_file.specs.Follows.{AtStart}
use Rattle.tagged_file.specs.Spelling.{Placed, Ending, ended, broken_off, Spells}
use Rattle.file_account.specs.declared.chosen.Chosen.{Chosen}
use Rattle.file_account.specs.Choosing.{ChosenPuts, ChosenRefuses, ChosenSettles}

-- the outcome at the end of the records: the file's refusal, or the account's statement, or its refusal of one, at the end record's offset
abbrev pub EndsWith : Ending → Option Chosen → Result Statement Fault → Type 0
EndsWith (broken_off f) s out = out ≡ Err f
EndsWith (ended p) s (Ok statement) = ChosenSettles s (Ok tt) blank statement
EndsWith (ended p) s (Err g) = (f : Fault) × (after : Statement) × ChosenSettles s (Err f) blank after × (g ≡ fault f.cause p)

module _ (table : PublishedTable) where
  -- the records put to the account one after the other: the first that it refuses decides, at its own offset; if it takes them all, the ending does
  abbrev pub PutInTurn : List Placed → Ending → Option Chosen → Result Statement Fault → Type 0
  PutInTurn [] ending s out = EndsWith ending s out
  PutInTurn (r ∷ more) ending s out =
      ((t : Option Chosen) × ChosenPuts table_calendar table s r.tag r.content (Ok tt) t × PutInTurn more ending t out)
      ⊎ ((f : Fault) × ChosenRefuses table_calendar table s r.tag r.content f × (out ≡ Err (fault f.cause r.offset)))

  -- what a file comes to from an offset on, with this order and this account
  pub record SettlesTo (file : List ℕ) (p : ℕ) (o : Order) (s : Option Chosen) (out : Result Statement Fault) : Type 0 where
    pub records : List Placed
    pub ending : Ending
    pub spells : Spells file p o records ending
    pub outcome : PutInTurn records ending s out

  -- what the whole file comes to, from its first byte and no account on; it spells these records and no others
  pub record FileSettlesTo (file : List ℕ) (out : Result Statement Fault) : Type 0 where
    pub order : Order
    pub start : AtStart order
    pub comes : SettlesTo file 0 order None out
    pub only : (o : Order) → AtStart o → (records : List Placed) (ending : Ending) → Spells file 0 o records ending → (records ≡ comes.records) × (ending ≡ comes.ending)
