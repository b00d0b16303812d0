-- The account under the option that a file's year record names. Assumes nothing.
use Rattle.std.specs.Prelude.{◌≡◌, ℕ, List, Some, None, Ok, Err, MatchBool, Option, Result, ◌==◌}
use Rattle.fault.specs.declared.Fault.{Fault}
use Rattle.fault.specs.declared.cause.Cause.TheVariants.{OutOfOrder, OptionUnknown}
use Rattle.fault.specs.Questions.{Answer, fault}
use Rattle.calendar.specs.declared.value_calendar.ValueCalendar.{Ghosts as Calendar}
use Rattle.delimitation.specs.contracts.settles.DelimitationOptionSettlementOption.TheImpl.{ghosts as delimitation}
use Rattle.flat.specs.contracts.settles.FlatOptionSettlementOption.TheImpl.{ghosts as flat}
use Rattle.statement.specs.declared.Statement.{Statement}
use Rattle.tagged_file.specs.declared.record.Tag.{Tag}
use Rattle.tagged_file.specs.declared.record.Tag.TheVariants as tags
use Rattle.tagged_file.specs.Numbers.{byte_at, two_at}
use Rattle.file_account.specs.declared.chosen.Chosen.{Chosen}
use Rattle.file_account.specs.declared.chosen.Chosen.TheVariants as chosen
use Rattle.file_account.specs.Putting.{BeginsYear, Puts, SettlesIn}

abbrev pub FlatYear : ℕ → Result Chosen Fault → Type 0
FlatYear year (Ok (chosen.Flat s)) = BeginsYear flat year (Ok s)
FlatYear year (Ok (chosen.Delimitation s)) = ⊥
FlatYear year (Err f) = BeginsYear flat year (Err f)

abbrev pub DelimitationYear : ℕ → Result Chosen Fault → Type 0
DelimitationYear year (Ok (chosen.Flat s)) = ⊥
DelimitationYear year (Ok (chosen.Delimitation s)) = BeginsYear delimitation year (Ok s)
DelimitationYear year (Err f) = BeginsYear delimitation year (Err f)

-- a year record: its third byte names the option, 0 flat or 1 delimitation, before its year is asked
abbrev pub NamesOption : List ℕ → Result Chosen Fault → Type 0
NamesOption b r =
    MatchBool (byte_at b 2 == 0) (FlatYear (two_at b 0) r)
    (MatchBool (byte_at b 2 == 1) (DelimitationYear (two_at b 0) r)
    (r ≡ Err (fault OptionUnknown 0)))

-- before the year only remarks may stand
abbrev pub BeforeYear : Tag → Answer → Type 0
BeforeYear tags.Year r = r ≡ Err (fault OutOfOrder 0)
BeforeYear tags.Plant r = r ≡ Err (fault OutOfOrder 0)
BeforeYear tags.Contract r = r ≡ Err (fault OutOfOrder 0)
BeforeYear tags.Quarter r = r ≡ Err (fault OutOfOrder 0)
BeforeYear tags.Remark r = r ≡ Ok tt
BeforeYear tags.End r = r ≡ Err (fault OutOfOrder 0)

-- a year record begins the account of the option that it names; a refused one leaves what was there
abbrev pub BeginsNamed : Option Chosen → List ℕ → Answer → Option Chosen → Type 0
BeginsNamed s b (Ok _) None = ⊥
BeginsNamed s b (Ok _) (Some t) = NamesOption b (Ok t)
BeginsNamed s b (Err f) t = NamesOption b (Err f) × (s ≡ t)

module _ {C : Type 0} (calendar : Calendar C) (c : C) where
  -- a record after the year goes to the account of the named option
  abbrev pub PutsUnder : Chosen → Tag → List ℕ → Answer → Chosen → Type 0
  PutsUnder (chosen.Flat s) tag b r (chosen.Flat t) = Puts flat calendar c s tag b r t
  PutsUnder (chosen.Flat s) tag b r (chosen.Delimitation t) = ⊥
  PutsUnder (chosen.Delimitation s) tag b r (chosen.Flat t) = ⊥
  PutsUnder (chosen.Delimitation s) tag b r (chosen.Delimitation t) = Puts delimitation calendar c s tag b r t

  -- a record other than the year; there is no account before the year
  abbrev pub PutsOn : Option Chosen → Tag → List ℕ → Answer → Option Chosen → Type 0
  PutsOn None tag b r t = BeforeYear tag r × (None ≡ t)
  PutsOn (Some s) tag b r None = ⊥
  PutsOn (Some s) tag b r (Some t) = PutsUnder s tag b r t

  -- a record other than the end
  abbrev pub ChosenPuts : Option Chosen → Tag → List ℕ → Answer → Option Chosen → Type 0
  ChosenPuts s tags.Year b r t = BeginsNamed s b r t
  ChosenPuts s tags.Plant b r t = PutsOn s tags.Plant b r t
  ChosenPuts s tags.Contract b r t = PutsOn s tags.Contract b r t
  ChosenPuts s tags.Quarter b r t = PutsOn s tags.Quarter b r t
  ChosenPuts s tags.Remark b r t = PutsOn s tags.Remark b r t
  ChosenPuts s tags.End b r t = PutsOn s tags.End b r t

  -- the account refuses the record, whatever it is left as
  abbrev pub ChosenRefuses : Option Chosen → Tag → List ℕ → Fault → Type 0
  ChosenRefuses s tag b f = (t : Option Chosen) × ChosenPuts s tag b (Err f) t

-- the end record: the statement of the account
abbrev pub ChosenSettles : Option Chosen → Answer → Statement → Statement → Type 0
ChosenSettles None r before after = (r ≡ Err (fault OutOfOrder 0)) × (before ≡ after)
ChosenSettles (Some (chosen.Flat s)) r before after = SettlesIn flat s r before after
ChosenSettles (Some (chosen.Delimitation s)) r before after = SettlesIn delimitation s r before after
