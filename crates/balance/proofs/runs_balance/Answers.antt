use Rattle.balance.proofs.Giving.{every}
use Rattle.balance.proofs.runs_balance.Goals as goal

pub returns : goal.returns
returns g c =
    let met = g.met.O.SettlementOption in
    λ calendar calls account l. every g.O.SettlementOption (record { adds = met.adds; whole = met.whole; unmarked = met.unmarked; fully_marked = met.fully_marked; grounded = met.grounded }) g.C.ValueCalendar calendar l
