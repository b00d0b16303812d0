use Rattle.std.proofs.Common.{◌≡◌, ◌+◌, true, false, cond, ltb, length, get_or, ap, ◌∙◌, arith}
use Rattle.flat.specs.contracts.settles.FlatOptionSettlementOption.TheImpl.{ghosts as flat}
use Rattle.worked_sums.specs.contracts.calendar_of_run.AboveZeroUntilValueCalendar.TheImpl.{ghosts as calendar}
use Rattle.flat.specs.declared.FlatOption.{FlatOption}
use Rattle.site.specs.Plants.{site_power_of}
use Rattle.account.specs.Calls.{marks}
use Rattle.valuing.specs.Valued.{plant_row}
use Rattle.site.specs.declared.register.Register.{Register}
use Rattle.statement.specs.declared.Statement.{Statement}
use Rattle.figures.specs.Blank.{no_plant_line}
use Rattle.std.proofs.lemmas.Bool.{cond-true, lt-ltb}
use Rattle.balance.specs.Runs.{opens, begins, enters}
use Rattle.worked_sums.specs.Run.{until_one, run_calls}
use Rattle.worked_sums.proofs.Settled.{totals_are, plant_is}
use Rattle.worked_sums.proofs.run.settled_run.Goals as goal

pub returns : goal.returns
returns c =
    let draft = c.in_ok-draft.draft in
    let drafted = c.in_ok-draft.ensures in
    let opened = c.open-year.ensures in
    let begun = c.in_ok-begin_contract.ensures.1 in
    let first = c.in_ok-enter_quarter.ensures.1 in
    let second = c.in_ok-enter_quarter-2.ensures.1 in
    let year = c.enter_quarter-2.new.self in
    let register : year.draft.register ≡ draft.register = ap (λ d. d.register) (second.draft ∙ first.draft ∙ begun.draft ∙ opened.draft) in
    let early : c.begin_contract.new.self.draft.register ≡ draft.register = ap (λ d. d.register) (begun.draft ∙ opened.draft) in
    let o = year.option in
    let power : o.taken.site_power ≡ 1 = second.option.site_power ∙ first.option.site_power ∙ ap (λ (x : FlatOption). x.taken.site_power) begun.option ∙ opened.option.site_power ∙ ap site_power_of drafted.1 in
    let fed : o.taken.feed_in ≡ 1400 = omega (arith, second.option.feed_in, first.option.feed_in, ap (λ (x : FlatOption). x.taken.feed_in) begun.option, opened.option.feed_in) in
    let drew : o.taken.draw ≡ 1450 = omega (arith, second.option.draw, first.option.draw, ap (λ (x : FlatOption). x.taken.draw) begun.option, opened.option.draw) in
    let count : length c.begin_contract.new.self.draft.register.plants.items ≡ 1 = ap (λ (g : Register). length g.plants.items) early ∙ ap length drafted.1 in
    let count_2 : length c.enter_quarter.new.self.draft.register.plants.items ≡ 1 = ap (λ (g : Register). length g.plants.items) (ap (λ d. d.register) first.draft ∙ early) ∙ ap length drafted.1 in
    let mark : get_or (marks calendar until_one c.begin_contract.new.self.draft.register 0) 0 false ≡ true = rw count in
    let mark_2 : get_or (marks calendar until_one c.enter_quarter.new.self.draft.register 1) 0 false ≡ false = rw count_2 in
    let marked : get_or o.marked 0 0 ≡ 600 =
    second.option.marked 0 (omega arith)
    ∙ ap (λ b. get_or c.enter_quarter.new.self.option.marked 0 0 + cond b 800 0) mark_2
    ∙ omega (arith, first.option.marked 0 (omega arith) ∙ ap (λ b. get_or c.begin_contract.new.self.option.marked 0 0 + cond b 600 0) mark, ap (λ (x : FlatOption). get_or x.marked 0 0) begun.option, opened.option.marked 0 (omega arith)) in
    let filled = c.in_ok-interim_statement.ensures.fills.1 in
    let led = enters (enters (begins (opens drafted.2 opened) c.in_ok-begin_contract.ensures) c.in_ok-enter_quarter.ensures) c.in_ok-enter_quarter-2.ensures in
    let line = plant_row flat o year.draft.register 0 in (
      ap (λ (s : Statement). s.totals) filled ∙ totals_are o power fed drew,
      ap (λ (s : Statement). get_or s.plants 0 no_plant_line) filled
          ∙ cond-true (ltb 0 (length year.draft.register.plants.items)) line no_plant_line (lt-ltb 0 _ (omega (arith, ap (λ (g : Register). length g.plants.items) register, ap length drafted.1)))
          ∙ plant_is o power fed year.draft.register (ap (λ (g : Register). g.plants.items) register ∙ drafted.1) marked,
      c.in_ok-interim_statement.ensures.balances until_one run_calls led,
    )
