-- What becomes of a year's draw and feed-in: the totals, and each plant's portion with the part of it that is valued. Assumes nothing.
use Rattle.std.specs.Prelude.{ℕ, ◌-◌, ◌*◌, ◌/◌, min, cond, List, map, length, nat_lt, slice_index_or}
use Rattle.std.specs.List.{range_with_len}
use Rattle.division.specs.Shares.{weights, share}
use Rattle.options.specs.declared.settlement_option.SettlementOption.{Ghosts as Meaning}
use Rattle.site.specs.declared.plant.Plant.{Plant}
use Rattle.site.specs.declared.register.Register.{Register}
use Rattle.site.specs.Plants.{no_plant, supported}
use Rattle.figures.specs.declared.lines.DrawFigures.{DrawFigures}
use Rattle.figures.specs.declared.lines.PlantLine.{PlantLine}
use Rattle.figures.specs.declared.lines.Totals.{Totals}
use Rattle.figures.specs.Blank.{no_plant_line}

-- levied is the draw that is not netted
abbrev pub drawn : ℕ → ℕ → DrawFigures
drawn draw netted = record { draw = draw; netted = netted; levied = draw - netted }

-- a portion times upper over lower, rounded down; 0 where the lower is 0, since a quotient by 0 is 0
abbrev pub valued : ℕ → ℕ → ℕ → ℕ
valued portion upper lower = portion * upper / lower

module _ {O : Type 0} (meaning : Meaning O) (o : O) where
  -- only a supported plant's portion is valued
  abbrev pub premium : Plant → ℕ → ℕ → ℕ
  premium plant place portion = cond (supported plant) (valued portion (meaning.upper o place) (meaning.lower o place)) 0

  abbrev pub line : Plant → ℕ → ℕ → PlantLine
  line plant place portion = record {
    place = place;
    portion = portion;
    marked = (meaning.sums o).marked place;
    valued = premium plant place portion;
    unvalued = portion - premium plant place portion;
  }

  -- base divided over the plants by power
  abbrev pub portion : Register → ℕ → ℕ
  portion g place = share (meaning.base o) (weights (λ (p : Plant). p.power) g.plants.items) place

  abbrev pub plant_row : Register → ℕ → PlantLine
  plant_row g place = line (slice_index_or g.plants.items place no_plant) place (portion g place)

  -- the line of each plant, blank where there is none
  abbrev pub plant_lines : Register → List PlantLine
  plant_lines g = map (λ place. cond (nat_lt place (length g.plants.items)) (plant_row g place) no_plant_line) (range_with_len 0 8)

  -- the smaller of draw and nettable feed-in is netted
  abbrev pub netted : ℕ
  netted = min (meaning.sums o).draw (meaning.nettable o)

  abbrev pub totals : Totals
  totals = record {
    draw = drawn (meaning.sums o).draw netted;
    feed_in = record {
      feed_in = (meaning.sums o).feed_in;
      base = meaning.base o;
      nettable = meaning.nettable o;
      unassigned = meaning.unassigned o;
      unused = meaning.nettable o - netted;
    };
  }
