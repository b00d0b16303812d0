-- Questions asked in order: the first that gets a no refuses. Assumes nothing.
use Rattle.std.specs.Prelude.{ℕ, Bool, cond, List, [], ◌∷◌, Err, Result}
use Rattle.fault.specs.declared.Fault.{Fault}
use Rattle.fault.specs.declared.cause.Cause.{Cause}

abbrev pub fault : Cause → ℕ → Fault
fault c p = record { cause = c; place = p }

-- the answer to a call that has no value to give
abbrev pub Answer : Type 0
Answer = Result (Unit {0}) Fault

-- the value where every question gets a yes, and otherwise the refusal by the first that gets a no, at this place
abbrev pub asked : {T : Type 0} → ℕ → List (Bool × Cause) → Result T Fault → Result T Fault
asked place [] answer = answer
asked place (q ∷ qs) answer = cond q.0 (asked place qs answer) (Err (fault q.1 place))
