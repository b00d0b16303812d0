-- The text of a statement's lines: each field is named before its value. Assumes nothing.
use Rattle.std.specs.Prelude.{ℕ, List, [], ◌∷◌, ◌++◌, codes, decimal}
use Rattle.figures.specs.declared.lines.ContractLine.{ContractLine}
use Rattle.figures.specs.declared.lines.DrawFigures.{DrawFigures}
use Rattle.figures.specs.declared.lines.FeedInFigures.{FeedInFigures}
use Rattle.figures.specs.declared.lines.PlantLine.{PlantLine}
use Rattle.figures.specs.declared.lines.Standing.{Standing}
use Rattle.figures.specs.declared.lines.Standing.TheVariants.{Interim, Final}

abbrev pub draw_text : DrawFigures → List ℕ
draw_text d = codes "draw " ++ (decimal d.draw ++ (codes " netted " ++ (decimal d.netted ++ (codes " levied " ++ decimal d.levied))))

abbrev pub feed_in_text : FeedInFigures → List ℕ
feed_in_text x =
    codes "feed " ++ (decimal x.feed_in ++ (codes " base " ++ (decimal x.base ++ (codes " nettable " ++ (decimal x.nettable
    ++ (codes " unassigned " ++ (decimal x.unassigned ++ (codes " unused " ++ decimal x.unused))))))))

abbrev pub plant_text : PlantLine → List ℕ
plant_text p =
    codes "plant " ++ (decimal p.place ++ (codes " portion " ++ (decimal p.portion ++ (codes " marked " ++ (decimal p.marked
    ++ (codes " valued " ++ (decimal p.valued ++ (codes " unvalued " ++ decimal p.unvalued))))))))

abbrev pub contract_text : ContractLine → List ℕ
contract_text c = codes "contract " ++ (decimal c.number ++ (codes " " ++ draw_text c.draw))

abbrev pub standing_text : Standing → List ℕ
standing_text Interim = codes "interim"
standing_text Final = codes "final"

-- a text as a line, which ends in a line feed
abbrev pub as_line : List ℕ → List ℕ
as_line text = text ++ (10 ∷ [])
