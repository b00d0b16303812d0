-- The tags of a tagged file, and how much content each of them takes. Assumes nothing.
use Rattle.std.specs.Prelude.{ℕ, ◌+◌, Bool, cond, List, [], Some, None, Option, Result, ◌==◌, nat_le}
use Rattle.std.specs.Option.{ok_or}
use Rattle.tagged_file.specs.declared.record.Tag.{Tag}
use Rattle.tagged_file.specs.declared.record.Tag.TheVariants as tags
use Rattle.tagged_file.specs.declared.record.UnknownTag.{UnknownTag}
use Rattle.tagged_file.specs.declared.record.Record.{Record}
use Rattle.tagged_file.specs.declared.record.Record.TheVariants as records

-- the bytes of a record before its content: its tag, and the two of its length
abbrev pub header_bytes : ℕ
header_bytes = 3

-- the most content that a remark has, in bytes
abbrev pub most_remark : ℕ
most_remark = 1024

-- the bytes of the longest record
abbrev pub longest_bytes : ℕ
longest_bytes = header_bytes + most_remark

-- the byte that stands for a tag
abbrev pub tag_byte : Tag → ℕ
tag_byte tags.Year = 1
tag_byte tags.Plant = 2
tag_byte tags.Contract = 3
tag_byte tags.Quarter = 4
tag_byte tags.Remark = 5
tag_byte tags.End = 6

-- this tag, if the byte stands for it, and otherwise another
abbrev pub tag_or : ℕ → Tag → Option Tag → Option Tag
tag_or b t another = cond (b == tag_byte t) (Some t) another

-- the tag that a byte stands for, if it stands for one
abbrev pub tag_of : ℕ → Option Tag
tag_of b = tag_or b tags.Year (tag_or b tags.Plant (tag_or b tags.Contract (tag_or b tags.Quarter (tag_or b tags.Remark (tag_or b tags.End None)))))

-- the tag that a byte stands for, and otherwise the byte itself
abbrev pub tag_or_byte : ℕ → Result Tag UnknownTag
tag_or_byte b = ok_or (tag_of b) (record { 0 = b })

-- whether so many bytes of content are right for a tag
abbrev pub right : Tag → ℕ → Bool
right tags.Year n = n == 3
right tags.Plant n = n == 7
right tags.Contract n = n == 4
right tags.Quarter n = n == 18
right tags.Remark n = nat_le n most_remark
right tags.End n = n == 0

-- a record's tag
abbrev pub tag_in : Record → Tag
tag_in (records.Year c) = tags.Year
tag_in (records.Plant c) = tags.Plant
tag_in (records.Contract c) = tags.Contract
tag_in (records.Quarter c) = tags.Quarter
tag_in (records.Remark c) = tags.Remark
tag_in records.End = tags.End

-- a record's content, as the input has it; an end record has none
abbrev pub content_in : Record → List ℕ
content_in (records.Year c) = c.now
content_in (records.Plant c) = c.now
content_in (records.Contract c) = c.now
content_in (records.Quarter c) = c.now
content_in (records.Remark c) = c.now
content_in records.End = []

-- what a record of a tag keeps of the content that it is given: an end record keeps none
abbrev pub kept : Tag → List ℕ → List ℕ
kept tags.Year c = c
kept tags.Plant c = c
kept tags.Contract c = c
kept tags.Quarter c = c
kept tags.Remark c = c
kept tags.End c = []
