-- Which record may follow what has been read of a file. Assumes nothing.
use Rattle.std.specs.Prelude.{◌≡◌, ℕ, ◌+◌, Bool, true, false, cond, not, ◌&&◌, [], ◌∷◌, Some, None, Ok, Err, Option, nat_lt}
use Rattle.fault.specs.Questions.{Answer, asked}
use Rattle.fault.specs.declared.cause.Cause.TheVariants as causes
use Rattle.tagged_file.specs.declared.record.Tag.{Tag}
use Rattle.tagged_file.specs.declared.record.Tag.TheVariants as tags
use Rattle.tagged_file.specs.declared.order.Stage.{Stage}
use Rattle.tagged_file.specs.declared.order.Stage.TheVariants as stages
use Rattle.tagged_file.specs.declared.order.Order.{Order}
use Rattle.tagged_file.specs.Limits.{most_remarks}

-- the year was read
abbrev pub has_year : Stage → Bool
has_year stages.Start = false
has_year stages.Plants = true
has_year stages.Contracts = true
has_year stages.Over = true

-- a contract was read
abbrev pub has_contract : Stage → Bool
has_contract stages.Start = false
has_contract stages.Plants = false
has_contract stages.Contracts = true
has_contract stages.Over = true

-- the end was read
abbrev pub has_end : Stage → Bool
has_end stages.Start = false
has_end stages.Plants = false
has_end stages.Contracts = false
has_end stages.Over = true

-- whether a record may stand here, after so many remarks; nothing may stand after the end
abbrev pub allowed : Stage → ℕ → Tag → Bool
-- the year once, and first but for remarks
allowed s n tags.Year = not (has_year s)
-- plants after the year and before the first contract
allowed s n tags.Plant = has_year s && not (has_contract s)
-- contracts after the year
allowed s n tags.Contract = has_year s && not (has_end s)
-- quarters after the first contract
allowed s n tags.Quarter = has_contract s && not (has_end s)
-- remarks anywhere before the end, as long as there are not too many
allowed s n tags.Remark = not (has_end s) && nat_lt n most_remarks
-- the end after the first contract, and once
allowed s n tags.End = has_contract s && not (has_end s)

-- the stage after a record that was allowed
abbrev pub next : Stage → Tag → Stage
next s tags.Year = stages.Plants
next s tags.Plant = s
next s tags.Contract = stages.Contracts
next s tags.Quarter = s
next s tags.Remark = s
next s tags.End = stages.Over

-- the remarks after a record
abbrev pub counted : ℕ → Tag → ℕ
counted n tags.Year = n
counted n tags.Plant = n
counted n tags.Contract = n
counted n tags.Quarter = n
counted n tags.Remark = n + 1
counted n tags.End = n

-- nothing was read
abbrev pub AtStart : Order → Type 0
AtStart o = (o.stage ≡ stages.Start) × (o.remarks ≡ 0)

-- the stage after a record, where it may stand
abbrev pub following : Order → Tag → Option Stage
following o tag = cond (allowed o.stage o.remarks tag) (Some (next o.stage tag)) None

-- from o to o' past a record at an offset: one question, and a no changes nothing
abbrev pub Follows : Order → Tag → ℕ → Answer → Order → Type 0
Follows o tag offset r o' =
    (r ≡ asked offset ((allowed o.stage o.remarks tag, causes.OutOfOrder) ∷ []) (Ok tt))
    × elim r [ Ok _ ↦ (o'.stage ≡ next o.stage tag) × (o'.remarks ≡ counted o.remarks tag) | Err _ ↦ o' ≡ o ]
