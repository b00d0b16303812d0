-- What the content of a record offers to the account. Assumes nothing.
use Rattle.std.specs.Prelude.{ℕ, List}
use Rattle.options.specs.declared.amounts.Amounts.{Amounts}
use Rattle.site.specs.declared.plant.PlantEntry.{PlantEntry}
use Rattle.tagged_file.specs.Numbers.{byte_at, four_at}

-- power in four bytes; kind, marketing and regime in one each
abbrev pub plant_offered : List ℕ → PlantEntry
plant_offered bs = record { power = four_at bs 0; kind = byte_at bs 4; marketing = byte_at bs 5; regime = byte_at bs 6 }

-- after the quarter's number in two bytes: draw, feed-in, store in and store out in four each
abbrev pub amounts_offered : List ℕ → Amounts
amounts_offered bs = record { draw = four_at bs 2; feed_in = four_at bs 6; store_in = four_at bs 10; store_out = four_at bs 14 }
