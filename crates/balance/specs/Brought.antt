-- What the calls of a run brought: only accepted ones bring anything. Lists have the latest first, as runs do. Assumes nothing.
use Rattle.std.specs.Prelude.{ℕ, ◌+◌, Bool, cond, List, [], ◌∷◌, ◌++◌, length, Ok, Err, ◌==◌}
use Rattle.fault.specs.Questions.{Answer}
use Rattle.options.specs.declared.amounts.Amounts.{Amounts}
use Rattle.site.specs.declared.plant.PlantEntry.{PlantEntry}
use Rattle.balance.specs.Runs.{Call, setting_year, adding_plant, checking_fitness, opening, beginning_contract, entering_quarter, closing, giving_statement}

-- what an accepted call brought, and nothing of a refused one
abbrev pub if_accepted : {X : Type 0} → Answer → X → List X
if_accepted (Ok _) x = x ∷ []
if_accepted (Err _) x = []

abbrev plant_in : Call → List PlantEntry
plant_in (setting_year year r) = []
plant_in (adding_plant plant r) = if_accepted r plant
plant_in (checking_fitness r) = []
plant_in opening = []
plant_in (beginning_contract number r) = []
plant_in (entering_quarter quarter amounts r) = []
plant_in closing = []
plant_in (giving_statement r s) = []

-- the plants that were added
abbrev pub plants : List Call → List PlantEntry
plants [] = []
plants (call ∷ calls) = plant_in call ++ plants calls

abbrev contract_in : Call → List ℕ
contract_in (setting_year year r) = []
contract_in (adding_plant plant r) = []
contract_in (checking_fitness r) = []
contract_in opening = []
contract_in (beginning_contract number r) = if_accepted r number
contract_in (entering_quarter quarter amounts r) = []
contract_in closing = []
contract_in (giving_statement r s) = []

-- the numbers of the contracts that were begun
abbrev pub contracts : List Call → List ℕ
contracts [] = []
contracts (call ∷ calls) = contract_in call ++ contracts calls

-- a quarter that was accepted; it came while the contract ran that was begun as the so-manieth
pub record Reading : Type 0 where
  pub quarter : ℕ
  pub amounts : Amounts
  pub contract : ℕ

abbrev reading_in : Call → ℕ → List Reading
reading_in (setting_year year r) running = []
reading_in (adding_plant plant r) running = []
reading_in (checking_fitness r) running = []
reading_in opening running = []
reading_in (beginning_contract number r) running = []
reading_in (entering_quarter quarter amounts r) running = if_accepted r (record { quarter = quarter; amounts = amounts; contract = running })
reading_in closing running = []
reading_in (giving_statement r s) running = []

-- the quarters that were accepted; a contract runs from its beginning to that of the next
abbrev pub readings : List Call → List Reading
readings [] = []
readings (call ∷ calls) = reading_in call (length (contracts calls)) ++ readings calls

-- what each reading counts, added up
abbrev pub sum_over : (Reading → ℕ) → List Reading → ℕ
sum_over count [] = 0
sum_over count (r ∷ rs) = sum_over count rs + count r

-- accepted feed-in, in Wh
abbrev pub fed_in : List Reading → ℕ
fed_in = sum_over (λ r. r.amounts.feed_in)

-- accepted draw, in Wh
abbrev pub drawn : List Reading → ℕ
drawn = sum_over (λ r. r.amounts.draw)

-- the draw that was accepted while the contract at a place ran; the first contract has place 0
abbrev pub drawn_under : ℕ → List Reading → ℕ
drawn_under place = sum_over (λ r. cond (r.contract == place + 1) r.amounts.draw 0)

-- the feed-in of the accepted quarters that a calendar marks for a regime
abbrev pub marked_for : (ℕ → ℕ → Bool) → ℕ → List Reading → ℕ
marked_for above regime = sum_over (λ r. cond (above regime r.quarter) r.amounts.feed_in 0)

-- what has a place, the first to come at place 0
abbrev pub at : {X : Type 0} → X → List X → ℕ → X
at none [] place = none
at none (x ∷ xs) place = cond (place == length xs) x (at none xs place)
