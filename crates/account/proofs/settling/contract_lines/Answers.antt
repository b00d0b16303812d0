use Rattle.std.proofs.Common.{◌≡◌, ℕ, length, get_or, ap, ◌∙◌, arith}
use Rattle.division.specs.Shares.{share, weights}
use Rattle.account.specs.declared.contract.Contract.{Contract}
use Rattle.figures.specs.declared.lines.ContractLine.{ContractLine}
use Rattle.account.specs.Statements.{contract_share, contract_row}
use Rattle.valuing.specs.Valued.{drawn}
use Rattle.figures.specs.Blank.{no_contract_line}
use Rattle.account.specs.SupplyContracts.{no_contract}
use Rattle.valuing.proofs.Filling.{filled_more, filled_all}
use Rattle.account.proofs.settling.contract_lines.Goals as goal

pub loop-place-preserved : goal.loop-place-preserved
loop-place-preserved c =
    let l = c.args.ledger.now in
    let netted = c.args.netted in
    let k = c.loop-place.place in
    let held : c.deref-contract-items.result.now ≡ l.contracts.items = c.deref-contract-items.ensures.0 ∙ ap (λ cs. cs.items) c.contracts-contracts.ensures in
    let line : Contract → ℕ → ContractLine = λ x n. record { number = x.number; draw = drawn x.draw n } in
    let contract : get_or c.deref-contract-items.result.now k no_contract ≡ get_or l.contracts.items k no_contract = ap (λ cs. get_or cs k no_contract) held in
    let part : get_or c.deref.result.now k 0 ≡ contract_share netted l k =
    ap (λ xs. get_or xs k 0) c.deref.ensures.0
    ∙ c.divide_held-shares.ensures.each k
    ∙ ap (λ cs. share netted (weights (λ (x : Contract). x.draw) cs.items) k) c.contracts-contracts.ensures in
    filled_more (contract_row netted l) no_contract_line 4 k c.loop-place.lines _
    (omega (arith, ap length held, l.few))
    (ap (λ d. record { number = (get_or c.deref-contract-items.result.now k no_contract).number; draw = d }) c.draw_figures.ensures
    ∙ ap (λ x. line x (get_or c.deref.result.now k 0)) contract
    ∙ ap (line (get_or l.contracts.items k no_contract)) part)
    c.loop-place.invariant

pub returns : goal.returns
returns c =
    let l = c.args.ledger.now in
    let held : c.deref-contract-items.result.now ≡ l.contracts.items = c.deref-contract-items.ensures.0 ∙ ap (λ cs. cs.items) c.contracts-contracts.ensures in
    let all : c.loop-place.place ≡ length l.contracts.items = omega (arith, ap length held) in
    filled_all (contract_row c.args.netted l) no_contract_line 4 (length l.contracts.items) c.loop-place.lines (rw all at c.loop-place.invariant)
