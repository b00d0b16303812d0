-- What the calls of a ledger leave in it. Assumes nothing.
use Rattle.std.specs.Prelude.{◌≡◌, ℕ, ◌+◌, ◌-◌, List, [], ◌∷◌, ◌++◌, length, slice_index_or, slice_set}
use Rattle.account.specs.declared.contract.Contract.{Contract}
use Rattle.account.specs.declared.ledger.Ledger.{Ledger}
use Rattle.account.specs.SupplyContracts.{no_contract}

pub record Fresh (l : Ledger) : Type 0 where
  pub entered : l.entered ≡ 0
  pub contracts : l.contracts.items ≡ []

-- m is l with one more contract, which has no draw yet
pub record Begun (l : Ledger) (number : ℕ) (m : Ledger) : Type 0 where
  pub entered : m.entered ≡ l.entered
  pub contracts : m.contracts.items ≡ l.contracts.items ++ record { number = number; draw = 0 } ∷ []

-- a contract after more was drawn under it
abbrev pub drawing : Contract → ℕ → Contract
drawing c draw = record { number = c.number; draw = c.draw + draw }

-- these contracts with more drawn under the one begun last
abbrev pub drawing_last : List Contract → ℕ → List Contract
drawing_last cs draw = let last = length cs - 1 in slice_set cs last (drawing (slice_index_or cs last no_contract) draw)

-- m is l with one more quarter, its draw on the contract begun last
pub record Booked (l : Ledger) (draw : ℕ) (m : Ledger) : Type 0 where
  pub entered : m.entered ≡ l.entered + 1
  pub contracts : m.contracts.items ≡ drawing_last l.contracts.items draw
