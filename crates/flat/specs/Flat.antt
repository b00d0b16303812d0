-- What the flat option's fields mean. Assumes nothing.
use Rattle.std.specs.Prelude.{ℕ, ◌*◌, get_or}
use Rattle.options.specs.Counted.{sums_with}
use Rattle.options.specs.Quarters.{Sums}
use Rattle.flat.specs.declared.FlatOption.{FlatOption}

abbrev pub sums_of : FlatOption → Sums
sums_of o = sums_with o.taken (λ p. get_or o.marked p 0)

-- the feed-in, in Wh, that is divided over the plants before any may be netted: 500 Wh for each watt, plug-in plants counted
abbrev pub cap : FlatOption → ℕ
cap o = 500 * o.taken.site_power
