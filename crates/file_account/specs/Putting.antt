-- The account of a file, record by record: which call each record puts to it. Assumes nothing.
use Rattle.std.specs.Prelude.{◌≡◌, ℕ, List, Some, Ok, Err, MatchBool, Result, MatchResult, ◌≢◌}
use Rattle.fault.specs.declared.Fault.{Fault}
use Rattle.fault.specs.declared.cause.Cause.TheVariants.{OutOfOrder}
use Rattle.fault.specs.Questions.{Answer, fault}
use Rattle.calendar.specs.declared.value_calendar.ValueCalendar.{Ghosts as Calendar}
use Rattle.options.specs.declared.amounts.Amounts.{Amounts}
use Rattle.options.specs.declared.settlement_option.SettlementOption.{Ghosts as Meaning}
use Rattle.site.specs.declared.plant.PlantEntry.{PlantEntry}
use Rattle.site.specs.Drafts.{AddsPlant, setting, fitness}
use Rattle.site.specs.Registers.{Empty}
use Rattle.account.specs.Calls.{Opens, Begins, Enters, complete}
use Rattle.account.specs.Statements.{settled, interim, finally, Fills}
use Rattle.figures.specs.declared.lines.Standing.TheVariants.{Interim, Final}
use Rattle.statement.specs.declared.Statement.{Statement}
use Rattle.tagged_file.specs.declared.record.Tag.{Tag}
use Rattle.tagged_file.specs.declared.record.Tag.TheVariants as tags
use Rattle.tagged_file.specs.Numbers.{two_at, four_at}
use Rattle.file_account.specs.Offers.{plant_offered, amounts_offered}
use Rattle.file_account.specs.declared.account_of_file.AccountOfFile.{AccountOfFile}
use Rattle.file_account.specs.declared.account_of_file.AccountOfFile.TheVariants as states

-- the account has no call for a record, and is as it was
abbrev pub NoCall : {O : Type 0} → AccountOfFile O → Answer → AccountOfFile O → Type 0
NoCall s r t = (r ≡ Err (fault OutOfOrder 0)) × (s ≡ t)

module _ {O : Type 0} (meaning : Meaning O) where
  -- a plant goes into a draft
  abbrev pub AddsIn : AccountOfFile O → PlantEntry → Answer → AccountOfFile O → Type 0
  AddsIn (states.Draft d) p r (states.Draft e) = AddsPlant d p r e
  AddsIn (states.Draft d) p r (states.Opened b) = ⊥
  AddsIn (states.Opened a) p r t = NoCall (states.Opened a) r t

  -- a draft whose fitness is refused stays, and another is opened; an opened year stays
  abbrev pub OpensIn : AccountOfFile O → Answer → AccountOfFile O → Type 0
  OpensIn (states.Draft d) r (states.Draft e) = (r ≡ fitness meaning.limit d) × (r ≢ Ok tt) × (d ≡ e)
  OpensIn (states.Draft d) r (states.Opened a) = (r ≡ fitness meaning.limit d) × (r ≡ Ok tt) × Opens meaning d a
  OpensIn (states.Opened a) r t = (r ≡ Ok tt) × (states.Opened a ≡ t)

  abbrev pub BeginsOpened : AccountOfFile O → ℕ → Answer → AccountOfFile O → Type 0
  BeginsOpened (states.Opened a) n r (states.Opened b) = Begins a n r b
  BeginsOpened (states.Opened a) n r (states.Draft e) = ⊥
  BeginsOpened (states.Draft d) n r t = NoCall (states.Draft d) r t

  -- at a contract the draft is checked and opened, if it is still one; then the contract begins
  pub record BeginsIn (s : AccountOfFile O) (n : ℕ) (r : Answer) (t : AccountOfFile O) : Type 0 where
    pub between : AccountOfFile O
    pub fit : Answer
    pub opens : OpensIn s fit between
    pub begins : MatchResult fit (λ _. BeginsOpened between n r t) (λ f. (r ≡ Err f) × (between ≡ t))

  module _ {C : Type 0} (calendar : Calendar C) (c : C) where
    -- a quarter goes into an opened year
    abbrev pub EntersIn : AccountOfFile O → ℕ → Amounts → Answer → AccountOfFile O → Type 0
    EntersIn (states.Opened a) q amounts r (states.Opened b) = Enters meaning calendar c a q amounts r b
    EntersIn (states.Opened a) q amounts r (states.Draft e) = ⊥
    EntersIn (states.Draft d) q amounts r t = NoCall (states.Draft d) r t

    -- a record is put to the call that its tag names, a remark to none; year and end are not for the account
    abbrev pub Puts : AccountOfFile O → Tag → List ℕ → Answer → AccountOfFile O → Type 0
    Puts s tags.Year b r t = NoCall s r t
    Puts s tags.Plant b r t = AddsIn s (plant_offered b) r t
    Puts s tags.Contract b r t = BeginsIn s (four_at b 0) r t
    Puts s tags.Quarter b r t = EntersIn s (two_at b 0) (amounts_offered b) r t
    Puts s tags.Remark b r t = (r ≡ Ok tt) × (s ≡ t)
    Puts s tags.End b r t = NoCall s r t

  -- an account begins as an empty draft with its year
  abbrev pub BeginsYear : ℕ → Result (AccountOfFile O) Fault → Type 0
  BeginsYear year (Ok (states.Draft d)) = (setting year ≡ Ok tt) × (d.year ≡ Some year) × Empty d.register
  BeginsYear year (Ok (states.Opened a)) = ⊥
  BeginsYear year (Err f) = setting year ≡ Err f

  -- the final statement of a complete year, otherwise the interim one; a draft has none
  abbrev pub SettlesIn : AccountOfFile O → Answer → Statement → Statement → Type 0
  SettlesIn (states.Opened a) r before after =
      MatchBool (complete a) (Fills r (finally meaning a) (settled meaning a Final) before after) (Fills r (interim meaning a) (settled meaning a Interim) before after)
  SettlesIn (states.Draft d) r before after = (r ≡ Err (fault OutOfOrder 0)) × (before ≡ after)
