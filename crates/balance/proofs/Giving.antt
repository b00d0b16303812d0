-- Every statement that is given in a run balances. Assumes nothing.
use Rattle.std.proofs.Common.{List, is_some, Ok, Err, sym, subst}
use Rattle.fault.specs.Questions.{Answer}
use Rattle.calendar.specs.declared.value_calendar.ValueCalendar.{Ghosts as Calendar}
use Rattle.options.specs.declared.settlement_option.SettlementOption.{Ghosts as Meaning}
use Rattle.figures.specs.declared.lines.Standing.TheVariants.{Interim, Final}
use Rattle.statement.specs.declared.Statement.{Statement}
use Rattle.account.specs.declared.year.Opened.{Opened}
use Rattle.account.specs.declared.year.Closed.{Closed}
use Rattle.account.specs.Statements.{settled, interim, finally, Fills}
use Rattle.balance.specs.Runs.{Call, Account, opened, closed, Leads, begins_blank, sets, adds, checks, opens, begins, enters, closes, states_interim, states_finally}
use Rattle.balance.specs.Balances.{Balances, Given, EveryStatement}
use Rattle.balance.proofs.Asked.{got_yes}
use Rattle.balance.proofs.Balanced.{Laws, balanced}
use Rattle.balance.proofs.Reached.{reached}

module _ {O C : Type 0} (meaning : Meaning O) (laws : Laws meaning) (calendar : Calendar C) (c : C) where
  pub given_interim : (calls : List Call) (a : Opened O) (r : Answer) (before after : Statement) → Fills r (interim meaning a) (settled meaning a Interim) before after
      → Leads meaning calendar c calls (opened a) → Given (calendar.above c) calls r after
  given_interim calls a (Ok _) before after (is, filled) l =
      let fit = got_yes (is_some a.year) _ _ is in
      subst (Balances (calendar.above c) calls) (sym filled) (balanced meaning laws calendar c calls a (reached meaning calendar c laws.adds l) fit.0 Interim)
  given_interim calls a (Err _) before after filled l = tt

  pub given_finally : (calls : List Call) (z : Closed O) (r : Answer) (before after : Statement) → Fills r (finally meaning z.last) (settled meaning z.last Final) before after
      → Leads meaning calendar c calls (closed z) → Given (calendar.above c) calls r after
  given_finally calls z (Ok _) before after (is, filled) l =
      let fit = got_yes (is_some z.last.year) _ _ is in
      subst (Balances (calendar.above c) calls) (sym filled) (balanced meaning laws calendar c calls z.last (reached meaning calendar c laws.adds l) fit.0 Final)
  given_finally calls z (Err _) before after filled l = tt

  pub every : {calls : List Call} {account : Account O} → Leads meaning calendar c calls account → EveryStatement (calendar.above c) calls
  every (begins_blank blank) = tt
  every (sets l s) = (tt, every l)
  every (adds l s) = (tt, every l)
  every (checks limit l e) = (tt, every l)
  every (opens l o) = (tt, every l)
  every (begins l b) = (tt, every l)
  every (enters l e) = (tt, every l)
  every (closes l same) = (tt, every l)
  every (states_interim {calls} {a} {r} {after} before l s) = (given_interim calls a r before after s l, every l)
  every (states_finally {calls} {z} {r} {after} before l s) = (given_finally calls z r before after s l, every l)
