-- What every statement balances against the calls before it, in whole Wh. Assumes nothing.
use Rattle.std.specs.Prelude.{◌≡◌, ℕ, ◌+◌, ◌<◌, min, Bool, true, List, [], ◌∷◌, length, Ok, Err, sum_by, slice_index_or}
use Rattle.fault.specs.Questions.{Answer}
use Rattle.calendar.specs.declared.value_calendar.ValueCalendar.{Ghosts as Calendar}
use Rattle.options.specs.declared.settlement_option.SettlementOption.{Ghosts as Meaning}
use Rattle.site.specs.declared.plant.PlantEntry.{PlantEntry}
use Rattle.site.specs.Plants.{spelled, supported}
use Rattle.figures.specs.declared.lines.ContractLine.{ContractLine}
use Rattle.figures.specs.declared.lines.PlantLine.{PlantLine}
use Rattle.statement.specs.declared.Statement.{Statement}
use Rattle.figures.specs.Blank.{no_plant_line, no_contract_line}
use Rattle.statement.specs.Lines.{plant_lines, contract_lines}
use Rattle.balance.specs.Runs.{Call, setting_year, adding_plant, checking_fitness, opening, beginning_contract, entering_quarter, closing, giving_statement, Account, Leads}
use Rattle.balance.specs.Brought.{plants, contracts, readings, fed_in, drawn, drawn_under, marked_for, at}

abbrev pub no_entry : PlantEntry
no_entry = record { power = 0; kind = 0; marketing = 0; regime = 0 }

-- the portions of all plants together
abbrev pub portions : Statement → ℕ
portions s = sum_by (λ line. line.portion) (plant_lines s)

-- what all contracts have netted together
abbrev pub netted : Statement → ℕ
netted s = sum_by (λ line. line.draw.netted) (contract_lines s)

-- a plant's marked feed-in is that of the accepted quarters that the calendar marks for its regime; if it is all accepted feed-in, a supported plant's whole portion is valued, and if it is zero, none
pub record PlantBalances (above : ℕ → ℕ → Bool) (calls : List Call) (plant : PlantEntry) (line : PlantLine) : Type 0 where
  pub marked : line.marked ≡ marked_for above plant.regime (readings calls)
  pub all_valued : line.marked ≡ fed_in (readings calls) → supported (spelled plant) ≡ true → line.valued ≡ line.portion
  pub none_valued : line.marked ≡ 0 → line.valued ≡ 0

-- a contract's draw that was accepted while it ran is its netted and its levied part
pub record ContractBalances (calls : List Call) (place : ℕ) (line : ContractLine) : Type 0 where
  pub number : line.number ≡ at 0 (contracts calls) place
  pub draw : line.draw.draw ≡ drawn_under place (readings calls)
  pub parts : line.draw.netted + line.draw.levied ≡ drawn_under place (readings calls)

pub record Balances (above : ℕ → ℕ → Bool) (calls : List Call) (s : Statement) : Type 0 where
  -- accepted feed-in is what the portions, the nettable and the unassigned part make up
  pub feed_in : portions s + s.totals.feed_in.nettable + s.totals.feed_in.unassigned ≡ fed_in (readings calls)
  -- all netted together is the smaller of accepted draw and nettable feed-in
  pub netting : netted s ≡ min (drawn (readings calls)) s.totals.feed_in.nettable
  -- a line for each plant that was added
  pub as_many_plants : s.plant_count ≡ length (plants calls)
  pub each_plant : (place : ℕ) → place < length (plants calls) → PlantBalances above calls (at no_entry (plants calls) place) (slice_index_or s.plants place no_plant_line)
  -- a line for each contract that was begun
  pub as_many_contracts : s.contract_count ≡ length (contracts calls)
  pub each_contract : (place : ℕ) → place < length (contracts calls) → ContractBalances calls place (slice_index_or s.contracts place no_contract_line)

-- a statement that was given balances against the calls before it
abbrev pub Given : (ℕ → ℕ → Bool) → List Call → Answer → Statement → Type 0
Given above calls (Ok _) s = Balances above calls s
Given above calls (Err _) s = Unit {0}

abbrev BalancedCall : (ℕ → ℕ → Bool) → List Call → Call → Type 0
BalancedCall above calls (setting_year year r) = Unit {0}
BalancedCall above calls (adding_plant plant r) = Unit {0}
BalancedCall above calls (checking_fitness r) = Unit {0}
BalancedCall above calls opening = Unit {0}
BalancedCall above calls (beginning_contract number r) = Unit {0}
BalancedCall above calls (entering_quarter quarter amounts r) = Unit {0}
BalancedCall above calls closing = Unit {0}
BalancedCall above calls (giving_statement r s) = Given above calls r s

-- every statement that was given in these calls
abbrev pub EveryStatement : (ℕ → ℕ → Bool) → List Call → Type 0
EveryStatement above [] = Unit {0}
EveryStatement above (call ∷ calls) = BalancedCall above calls call × EveryStatement above calls

module _ {O C : Type 0} (meaning : Meaning O) (calendar : Calendar C) where
  -- a statement that an account gave balances against whatever calls lead to it, with whatever calendar
  abbrev pub Balanced : Account O → Answer → Statement → Type 0
  Balanced account r s = (c : C) (calls : List Call) → Leads meaning calendar c calls account → Given (calendar.above c) calls r s

  -- whatever calls lead to an account, with whatever calendar, every statement given on the way balances
  abbrev pub RunsBalance : Type 0
  RunsBalance = (c : C) (calls : List Call) (account : Account O) → Leads meaning calendar c calls account → EveryStatement (calendar.above c) calls
