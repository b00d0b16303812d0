-- The words for what is wrong with a line. Assumes nothing.
use Rattle.std.specs.Prelude.{ℕ, List, codes}
use Rattle.price_line.specs.declared.flaw.Flaw.{Flaw}
use Rattle.price_line.specs.declared.flaw.Flaw.TheVariants.{NoPrice, PriceTooLarge, NoRunLengths, RunLengthTooLarge}

abbrev pub flaw_text : Flaw → List ℕ
flaw_text NoPrice = codes "no price"
flaw_text PriceTooLarge = codes "price beyond 21474836.47"
flaw_text NoRunLengths = codes "not the word runs and eight numbers"
flaw_text RunLengthTooLarge = codes "run length above 65535"
