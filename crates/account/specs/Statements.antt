-- What a statement says, made from the option's answers, the plants and the contracts. Assumes nothing.
use Rattle.std.specs.Prelude.{◌≡◌, ℕ, cond, List, [], ◌∷◌, length, map, is_some, Ok, Err, nat_lt, slice_index_or}
use Rattle.std.specs.List.{range_with_len}
use Rattle.fault.specs.declared.cause.Cause.TheVariants.{DraftUnfit, YearIncomplete}
use Rattle.fault.specs.Questions.{Answer, asked}
use Rattle.division.specs.Shares.{weights, share}
use Rattle.options.specs.declared.settlement_option.SettlementOption.{Ghosts as Meaning}
use Rattle.figures.specs.declared.lines.ContractLine.{ContractLine}
use Rattle.figures.specs.declared.lines.Standing.{Standing}
use Rattle.figures.specs.Blank.{no_contract_line}
use Rattle.statement.specs.declared.Statement.{Statement}
use Rattle.valuing.specs.Valued.{drawn, plant_lines, netted, totals}
use Rattle.account.specs.declared.contract.Contract.{Contract}
use Rattle.account.specs.declared.ledger.Ledger.{Ledger}
use Rattle.account.specs.declared.year.Opened.{Opened}
use Rattle.account.specs.Calls.{year_of, complete}
use Rattle.account.specs.SupplyContracts.{no_contract}

-- netted feed-in divided over the contracts by draw
abbrev pub contract_share : ℕ → Ledger → ℕ → ℕ
contract_share netted l place = share netted (weights (λ (c : Contract). c.draw) l.contracts.items) place

abbrev pub contract_row : ℕ → Ledger → ℕ → ContractLine
contract_row netted l place = record {
  number = (slice_index_or l.contracts.items place no_contract).number;
  draw = drawn (slice_index_or l.contracts.items place no_contract).draw (contract_share netted l place);
}

-- the line of each contract, blank where there is none
abbrev pub contract_lines : ℕ → Ledger → List ContractLine
contract_lines netted l = map (λ place. cond (nat_lt place (length l.contracts.items)) (contract_row netted l place) no_contract_line) (range_with_len 0 4)

-- the one rule of interim and final statements
module _ {O : Type 0} (meaning : Meaning O) (a : Opened O) where
  abbrev pub settled : Standing → Statement
  settled standing = record {
    year = year_of a.draft;
    option = meaning.number;
    quarters = (meaning.sums a.option).quarters;
    standing = standing;
    totals = totals meaning a.option;
    plants = plant_lines meaning a.option a.draft.register;
    plant_count = length a.draft.register.plants.items;
    contracts = contract_lines (netted meaning a.option) a.ledger;
    contract_count = length a.ledger.contracts.items;
  }

  -- an interim statement, or the refusal at the next quarter
  abbrev pub interim : Answer
  interim = asked a.ledger.entered ((is_some a.year, DraftUnfit) ∷ []) (Ok tt)

  abbrev pub finally : Answer
  finally = asked a.ledger.entered ((is_some a.year, DraftUnfit) ∷ (complete a, YearIncomplete) ∷ []) (Ok tt)

-- the caller's statement after a call for one: filled, or as it was
abbrev pub Fills : Answer → Answer → Statement → Statement → Statement → Type 0
Fills r answer filled before after = (r ≡ answer) × elim r [ Ok _ ↦ after ≡ filled | Err _ ↦ before ≡ after ]
