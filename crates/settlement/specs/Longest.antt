-- How far a file can come: what the records that the order and the account take occupy at most. Assumes nothing.
use Rattle.std.specs.Prelude.{◌≡◌, ℕ, ◌+◌, ◌*◌, ◌≤◌, true, false, length, Some, None, Option}
use Rattle.tagged_file.specs.declared.order.Order.{Order}
use Rattle.tagged_file.specs.Follows.{has_year}
use Rattle.tagged_file.specs.Format.{longest_bytes}
use Rattle.window.specs.Held.{pending}
use Rattle.tagged_file.specs.Limits.{most_remarks}
use Rattle.file_account.specs.declared.account_of_file.AccountOfFile.{AccountOfFile}
use Rattle.file_account.specs.declared.account_of_file.AccountOfFile.TheVariants as states
use Rattle.file_account.specs.declared.chosen.Chosen.{Chosen}
use Rattle.file_account.specs.declared.chosen.Chosen.TheVariants as chosen
use Rattle.settlement.specs.declared.settlement.Settlement.{Settlement}
use Rattle.settlement.specs.Progress.{open_still}

-- a plant record has 10 bytes, a contract record 7, a quarter record 21
abbrev pub account_bytes : {O : Type 0} → AccountOfFile O → ℕ
account_bytes (states.Draft d) = 10 * length d.register.plants.items
account_bytes (states.Opened a) = 10 * length a.draft.register.plants.items + 7 * length a.ledger.contracts.items + 21 * a.ledger.entered

-- a year record has 6
abbrev pub chosen_bytes : Option Chosen → ℕ
chosen_bytes None = 0
chosen_bytes (Some (chosen.Flat s)) = 6 + account_bytes s
chosen_bytes (Some (chosen.Delimitation s)) = 6 + account_bytes s

-- the most bytes of the records so far: a remark may be as long as the longest record
abbrev pub most_bytes : Order → Option Chosen → ℕ
most_bytes o s = longest_bytes * o.remarks + chosen_bytes s

-- before the year there is no account, and no more bytes stand before an offset than the records so far occupy at most
pub record Bounded (o : Order) (s : Option Chosen) (p : ℕ) : Type 0 where
  pub unbegun : has_year o.stage ≡ false → s ≡ None
  pub bytes : p ≤ most_bytes o s

abbrev pub BoundedHere : Settlement → Type 0
BoundedHere s = Bounded s.order s.account s.window.offset

-- the most bytes before the end record: the year, eight plants, four contracts, the quarters of a leap year, and all remarks
abbrev pub longest_open : ℕ
longest_open = 6 + 10 * 8 + 7 * 4 + 21 * 35136 + longest_bytes * most_remarks

-- the most bytes of a file that comes to a statement: the end record has 3
abbrev pub longest_file : ℕ
longest_file = longest_open + 3

-- the bytes of the file that came in so far
abbrev pub came_in : Settlement → ℕ
came_in s = s.window.offset + length (pending s.window)

-- while t is open, it is s after so many bytes more came in, and is bounded as s is
abbrev pub Grows : Settlement → ℕ → Settlement → Type 0
Grows s n t = BoundedHere s → open_still t.outcome ≡ true → BoundedHere t × (came_in t ≡ came_in s + n)
