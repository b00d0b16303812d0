-- A file that is being settled, wherever it stands. Assumes nothing.
use Rattle.std.specs.Prelude.{◌≡◌, ℕ, ◌+◌, ◌≤◌, min, true, false, List, [], ◌++◌, length, Some, None, Ok, Err, MatchBool, Option, Result, nat_lt}
use Rattle.fault.specs.declared.Fault.{Fault}
use Rattle.fault.specs.declared.cause.Cause.TheVariants.{BytesAfterEnd}
use Rattle.fault.specs.Questions.{Answer, fault}
use Rattle.calendar.specs.declared.published_table.PublishedTable.{PublishedTable}
use Rattle.statement.specs.declared.Statement.{Statement}
use Rattle.window.specs.Held.{pending, ready}
use Rattle.window.specs.Limits.{most_offset}
use Rattle.tagged_file.specs.Spelling.{ended}
use Rattle.window.specs.Lying.{LiesIn}
use Rattle.window.specs.Standing.{Stands}
use Rattle.settlement.specs.declared.settlement.Settlement.{Settlement}
use Rattle.file_account.specs.declared.chosen.Chosen.{Chosen}
use Rattle.settlement.specs.Files.{Comes, ComesTo}
use Rattle.settlement.specs.Spelled.{EndsWith, SettlesTo, FileSettlesTo}
use Rattle.settlement.specs.Longest.{BoundedHere, Grows}
use Rattle.settlement.specs.Progress.{Outcome, open_still}

-- an answer of the account, where a fault gets this place
abbrev pub placed : ℕ → Answer → Answer
placed p (Ok _) = Ok tt
placed p (Err f) = Err (fault f.cause p)

-- what the file comes to from here on
abbrev pub ComesHere : List ℕ → Settlement → Result Statement Fault → Type 0
ComesHere file s out = SettlesTo s.table file s.window.offset s.order s.account out

-- after one step: what the file comes to from there on it came to before, or it has come to its outcome
abbrev pub Onward : List ℕ → List ℕ → Settlement → Settlement → Outcome → Type 0
Onward file rest s t None = LiesIn file t.window rest × ((out : Result Statement Fault) → ComesHere file t out → ComesHere file s out)
Onward file rest s t (Some (Ok statement)) = ComesHere file s (Ok statement)
Onward file rest s t (Some (Err f)) = ⊥

abbrev pub StepIn : List ℕ → List ℕ → Settlement → Answer → Settlement → Type 0
StepIn file rest s (Ok _) t = Onward file rest s t t.outcome
StepIn file rest s (Err f) t = ComesHere file s (Err f)

-- at the end: the statement, or the account's refusal at the end record's offset
abbrev pub EndsIn : Option Chosen → ℕ → Answer → Outcome → Type 0
EndsIn s p (Ok _) None = ⊥
EndsIn s p (Ok _) (Some (Ok statement)) = EndsWith (ended p) s (Ok statement)
EndsIn s p (Ok _) (Some (Err f)) = ⊥
EndsIn s p (Err g) outcome = EndsWith (ended p) s (Err g)

-- the end record, of this size at this offset: what more is held refuses it
pub record Ends (s : Settlement) (p size : ℕ) (r : Answer) (t : Settlement) : Type 0 where
  pub table : t.table ≡ s.table
  pub window : t.window ≡ s.window
  pub answer : MatchBool (nat_lt size (length (pending s.window))) (r ≡ Err (fault BytesAfterEnd (min (p + size) most_offset))) (EndsIn s.account p r t.outcome)

-- by what it is known that an offset can tell where the bytes that are held end: by the file's length, or by what the records so far can occupy
pub data Known : Type 0 where
  by_length : Known
  by_records : Known

abbrev pub Told : Known → List ℕ → Settlement → Type 0
Told by_length file s = length file ≤ most_offset
Told by_records file s = BoundedHere s

-- one step of an open file, whose window is ready, in whatever file it stands
pub record StepsOn (s : Settlement) (r : Answer) (t : Settlement) : Type 0 where
  pub table : t.table ≡ s.table
  pub finished : t.window.finished ≡ s.window.finished
  pub grows : r ≡ Ok tt → Grows s 0 t
  pub steps : (known : Known) (file rest : List ℕ) → LiesIn file s.window rest → Told known file s → ready s.window ≡ true → s.outcome ≡ None → StepIn file rest s r t

-- where a settlement stands in a file of which this rest is still to come: as far as it is open, what the file comes to from here on is what it comes to as a whole; and an outcome is the file's, whatever is still to come
abbrev pub Whereabouts : Known → PublishedTable → List ℕ → List ℕ → Settlement → Outcome → Type 0
Whereabouts known table file rest s None = LiesIn file s.window rest × Told known file s × ((out : Result Statement Fault) → SettlesTo table file s.window.offset s.order s.account out → FileSettlesTo table file out)
Whereabouts known table file rest s (Some out) = FileSettlesTo table file out

pub record StandsIn (known : Known) (table : PublishedTable) (file rest : List ℕ) (s : Settlement) : Type 0 where
  pub by : s.table ≡ table
  pub stands : Whereabouts known table file rest s s.outcome

-- t stands in every file as s does
pub record Keeps (s t : Settlement) : Type 0 where
  pub finished : t.window.finished ≡ s.window.finished
  pub grows : Grows s 0 t
  pub in_file : (known : Known) (table : PublishedTable) (file rest : List ℕ) → StandsIn known table file rest s → StandsIn known table file rest t

-- a file that is still open wants more bytes
abbrev pub WantsMore : Settlement → Type 0
WantsMore s = open_still s.outcome ≡ true → ready s.window ≡ false

-- a new settlement stands in every file, all of which is still to come
pub record StartsInAny (table : PublishedTable) (s : Settlement) : Type 0 where
  pub bounded : BoundedHere s
  pub in_file : (known : Known) (file : List ℕ) → Told known file s → StandsIn known table file file s

-- after a piece of any size came in, the settlement stands in every file that goes on with this piece
pub record TakesAnyPiece (s : Settlement) (piece : List ℕ) (t : Settlement) : Type 0 where
  pub grows : Grows s (length piece) t
  pub in_file : (known : Known) (table : PublishedTable) (file rest : List ℕ) → StandsIn known table file (piece ++ rest) s → StandsIn known table file rest t

-- at the end of the input the answer is what the whole file comes to
abbrev pub AnswersForAny : Settlement → Result Statement Fault → Type 0
AnswersForAny s r = (known : Known) (table : PublishedTable) (file : List ℕ) → StandsIn known table file [] s → FileSettlesTo table file r

-- the same of files whose length an offset can tell, record by record
abbrev pub At : PublishedTable → List ℕ → List ℕ → Settlement → Outcome → Type 0
At table file rest s None = Stands file s.window rest × ((out : Result Statement Fault) → Comes table file s.window.offset s.order s.account out → ComesTo table file out)
At table file rest s (Some out) = ComesTo table file out

pub record InFile (table : PublishedTable) (file rest : List ℕ) (s : Settlement) : Type 0 where
  pub by : s.table ≡ table
  pub stands : At table file rest s s.outcome

-- a new settlement stands in every such file, all of which is still to come
abbrev pub StartsIn : PublishedTable → Settlement → Type 0
StartsIn table s = (file : List ℕ) → length file ≤ most_offset → InFile table file file s

-- after a piece of any size came in, the settlement stands in every such file that goes on with this piece
abbrev pub TakesPiece : Settlement → List ℕ → Settlement → Type 0
TakesPiece s piece t = (table : PublishedTable) (file rest : List ℕ) → InFile table file (piece ++ rest) s → InFile table file rest t

-- at the end of the input the answer is what the whole file comes to
abbrev pub AnswersFor : Settlement → Result Statement Fault → Type 0
AnswersFor s r = (table : PublishedTable) (file : List ℕ) → InFile table file [] s → ComesTo table file r
