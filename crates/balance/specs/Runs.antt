-- Runs of an account: any of its calls in any order, each accepted or refused, from the empty draft on. Assumes nothing.
use Rattle.std.specs.Prelude.{◌≡◌, ℕ, List, [], ◌∷◌}
use Rattle.fault.specs.Questions.{Answer}
use Rattle.calendar.specs.declared.value_calendar.ValueCalendar.{Ghosts as Calendar}
use Rattle.options.specs.declared.amounts.Amounts.{Amounts}
use Rattle.options.specs.declared.settlement_option.SettlementOption.{Ghosts as Meaning}
use Rattle.site.specs.declared.draft.Draft.{Draft}
use Rattle.site.specs.declared.plant.PlantEntry.{PlantEntry}
use Rattle.site.specs.Drafts.{Blank, Sets, AddsPlant, fitness}
use Rattle.figures.specs.declared.lines.Standing.TheVariants.{Interim, Final}
use Rattle.statement.specs.declared.Statement.{Statement}
use Rattle.account.specs.declared.year.Opened.{Opened}
use Rattle.account.specs.declared.year.Closed.{Closed}
use Rattle.account.specs.Calls.{Opens, Begins, Enters, Closes}
use Rattle.account.specs.Statements.{settled, interim, finally, Fills}

-- a call, with what it was given and what it answered; giving a statement also with the caller's statement after it
pub data Call : Type 0 where
  setting_year : ℕ → Answer → Call
  adding_plant : PlantEntry → Answer → Call
  checking_fitness : Answer → Call
  opening : Call
  beginning_contract : ℕ → Answer → Call
  entering_quarter : ℕ → Amounts → Answer → Call
  closing : Call
  giving_statement : Answer → Statement → Call

-- an account in one of its three states
pub data Account (O : Type 0) : Type 0 where
  drafted : Draft → Account O
  opened : Opened O → Account O
  closed : Closed O → Account O

module _ {O C : Type 0} (meaning : Meaning O) (calendar : Calendar C) (c : C) where
  -- these calls, the latest first, lead from the empty draft to this account, with one calendar: each call is what its contract says of it
  pub data Leads : List Call → Account O → Type 0 where
    begins_blank : {d : Draft} → Blank d → Leads [] (drafted d)
    sets : {calls : List Call} {d e : Draft} {year : ℕ} {r : Answer} → Leads calls (drafted d) → Sets d year r e → Leads (setting_year year r ∷ calls) (drafted e)
    adds : {calls : List Call} {d e : Draft} {plant : PlantEntry} {r : Answer} → Leads calls (drafted d) → AddsPlant d plant r e → Leads (adding_plant plant r ∷ calls) (drafted e)
    checks : {calls : List Call} {d : Draft} {r : Answer} (limit : ℕ) → Leads calls (drafted d) → r ≡ fitness limit d → Leads (checking_fitness r ∷ calls) (drafted d)
    opens : {calls : List Call} {d : Draft} {a : Opened O} → Leads calls (drafted d) → Opens meaning d a → Leads (opening ∷ calls) (opened a)
    begins : {calls : List Call} {a b : Opened O} {number : ℕ} {r : Answer} → Leads calls (opened a) → Begins a number r b → Leads (beginning_contract number r ∷ calls) (opened b)
    enters : {calls : List Call} {a b : Opened O} {quarter : ℕ} {amounts : Amounts} {r : Answer} → Leads calls (opened a) → Enters meaning calendar c a quarter amounts r b
        → Leads (entering_quarter quarter amounts r ∷ calls) (opened b)
    closes : {calls : List Call} {a : Opened O} {z : Closed O} → Leads calls (opened a) → Closes a z → Leads (closing ∷ calls) (closed z)
    states_interim : {calls : List Call} {a : Opened O} {r : Answer} {after : Statement} (before : Statement) → Leads calls (opened a) → Fills r (interim meaning a) (settled meaning a Interim) before after
        → Leads (giving_statement r after ∷ calls) (opened a)
    states_finally : {calls : List Call} {z : Closed O} {r : Answer} {after : Statement} (before : Statement) → Leads calls (closed z) → Fills r (finally meaning z.last) (settled meaning z.last Final) before after
        → Leads (giving_statement r after ∷ calls) (closed z)
