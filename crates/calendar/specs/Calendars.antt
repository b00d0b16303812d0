-- What a value calendar answers, given its span and the pairs of regime and quarter that it has above zero. Assumes nothing.
use Rattle.std.specs.Prelude.{ℕ, Bool, [], ◌∷◌, Ok, Result, nat_le, nat_lt}
use Rattle.fault.specs.Questions.{Answer, asked}
use Rattle.fault.specs.declared.Fault.{Fault}
use Rattle.fault.specs.declared.cause.Cause.TheVariants.{QuarterPastSpan, RegimeUnknown}

-- regimes are numbered from 0 to this
abbrev pub last_regime : ℕ
last_regime = 7

-- what every calendar asks first: a quarter from the span on is refused, and then an unknown regime, each at the quarter
abbrev pub admitted : ℕ → ℕ → ℕ → Answer
admitted span regime quarter = asked quarter ((nat_lt quarter span, QuarterPastSpan) ∷ (nat_le regime last_regime, RegimeUnknown) ∷ []) (Ok tt)

-- whether the pair is above zero; a quarter from the span on is refused first, and then an unknown regime, each at the quarter
abbrev pub answered : ℕ → (ℕ → ℕ → Bool) → ℕ → ℕ → Result Bool Fault
answered span above regime quarter =
    asked quarter ((nat_lt quarter span, QuarterPastSpan) ∷ (nat_le regime last_regime, RegimeUnknown) ∷ []) (Ok (above regime quarter))
