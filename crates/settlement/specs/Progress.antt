-- That a file comes to its end: each step passes a record or decides the outcome. Assumes nothing.
use Rattle.std.specs.Prelude.{◌≡◌, ℕ, ◌+◌, ◌<◌, ◌≤◌, Bool, true, false, cond, length, Some, None, Option, Result, MatchResult}
use Rattle.fault.specs.declared.Fault.{Fault}
use Rattle.fault.specs.Questions.{Answer}
use Rattle.statement.specs.declared.Statement.{Statement}
use Rattle.window.specs.Held.{pending}
use Rattle.settlement.specs.declared.settlement.Settlement.{Settlement}

-- what a file has come to, once that is decided: its statement or its refusal
abbrev pub Outcome : Type 0
Outcome = Option (Result Statement Fault)

abbrev pub open_still : Outcome → Bool
open_still None = true
open_still (Some out) = false

-- the bytes that are held, and one more while the outcome is open
abbrev pub ahead : Settlement → ℕ
ahead s = length (pending s.window) + cond (open_still s.outcome) 1 0

-- an accepted step of an open file leaves less ahead; a refused one takes in nothing
abbrev pub Steps : Settlement → Answer → Settlement → Type 0
Steps s r t = MatchResult r (λ _. open_still s.outcome ≡ true → ahead t < ahead s) (λ _. length (pending t.window) ≤ length (pending s.window))
