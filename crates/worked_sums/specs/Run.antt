-- The run that is never refused: its site, its calls, and what they come to. Assumes nothing.
use Rattle.std.specs.Prelude.{List, [], ◌∷◌, Ok}
use Rattle.flat.specs.declared.FlatOption.{FlatOption}
use Rattle.flat.specs.contracts.settles.FlatOptionSettlementOption.TheImpl.{ghosts as flat}
use Rattle.site.specs.declared.plant.Kind.TheVariants.{Ordinary}
use Rattle.site.specs.declared.plant.Marketing.TheVariants.{MarketPremium}
use Rattle.site.specs.declared.plant.Plant.{Plant}
use Rattle.site.specs.declared.plant.PlantEntry.{PlantEntry}
use Rattle.figures.specs.declared.lines.PlantLine.{PlantLine}
use Rattle.figures.specs.declared.lines.Totals.{Totals}
use Rattle.balance.specs.Runs.{Call, Account, Leads, setting_year, adding_plant, checking_fitness, opening, beginning_contract, entering_quarter}
use Rattle.worked_sums.specs.declared.calendar_of_run.AboveZeroUntil.{AboveZeroUntil}
use Rattle.worked_sums.specs.contracts.calendar_of_run.AboveZeroUntilValueCalendar.TheImpl.{ghosts as until}

abbrev pub one_plant : List Plant
one_plant = record { power = 1; kind = Ordinary; marketing = MarketPremium; regime = 0 } ∷ []

-- 1,400 Wh fed in by a plant of 1 W: 500 are base, 900 may be netted against a draw of 1,450
abbrev pub run_totals : Totals
run_totals = record {
  draw = record { draw = 1450; netted = 900; levied = 550 };
  feed_in = record { feed_in = 1400; base = 500; nettable = 900; unassigned = 0; unused = 0 };
}

-- 600 of the 1,400 Wh came while the value was above zero, so 500 × 600 / 1,400 Wh are valued
abbrev pub run_plant : PlantLine
run_plant = record { place = 0; portion = 500; marked = 600; valued = 214; unvalued = 286 }

-- only quarter 0 has a value above zero
abbrev pub until_one : AboveZeroUntil
until_one = record { quarter = 1 }

abbrev pub one_entry : PlantEntry
one_entry = record { power = 1; kind = 0; marketing = 0; regime = 0 }

-- the calls of the draft, the latest first, all of them accepted
abbrev pub draft_calls : List Call
draft_calls = checking_fitness (Ok tt) ∷ adding_plant one_entry (Ok tt) ∷ setting_year 2026 (Ok tt) ∷ []

-- all calls before the statement
abbrev pub run_calls : List Call
run_calls =
    entering_quarter 1 (record { draw = 1350; feed_in = 800; store_in = 0; store_out = 0 }) (Ok tt)
    ∷ entering_quarter 0 (record { draw = 100; feed_in = 600; store_in = 0; store_out = 0 }) (Ok tt)
    ∷ beginning_contract 7 (Ok tt)
    ∷ opening
    ∷ draft_calls

abbrev pub LedBy : List Call → Account FlatOption → Type 0
LedBy = Leads flat until until_one
