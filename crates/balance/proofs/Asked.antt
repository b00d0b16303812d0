-- A call is accepted only where each of its questions got a yes. Assumes nothing.
use Rattle.std.proofs.Common.{◌≡◌, ℕ, Bool, true, false, cond, Ok, Err, refl, arith}
use Rattle.fault.specs.declared.Fault.{Fault}
use Rattle.fault.specs.Questions.{Answer}

-- the first question got a yes, and so did those after it
pub got_yes : (b : Bool) (after : Answer) (f : Fault) → ◌≡◌ {A = Answer} (Ok tt) (cond b after (Err f)) → (b ≡ true) × ◌≡◌ {A = Answer} (Ok tt) after
got_yes true after f e = (refl, e)
got_yes false after f e = absurd (let z : ◌≡◌ {A = ℕ} 0 1 = cc in omega arith)
