-- A year's contracts. Assumes nothing.
use Rattle.std.specs.Prelude.{ℕ, Bool, List, sum_by, nat_eq}
use Rattle.std.specs.List.{list_any}
use Rattle.account.specs.declared.contract.Contract.{Contract}

-- no contract: it has no number and no draw
abbrev pub no_contract : Contract
no_contract = record { number = 0; draw = 0 }

-- the draw of all contracts together, in Wh
abbrev pub draw_of : List Contract → ℕ
draw_of = sum_by (λ c. c.draw)

-- whether some contract has this number
abbrev pub used : ℕ → List Contract → Bool
used number = list_any (λ c. nat_eq c.number number)
