-- The record at the front of some bytes, or the first of four questions that gets a no. Assumes nothing.
use Rattle.std.specs.Prelude.{◌≡◌, ℕ, ◌+◌, ◌≤◌, Bool, true, false, List, [], ◌∷◌, length, take, drop, is_some, Some, None, Ok, Err, Option, Result, nat_le}
use Rattle.fault.specs.Questions.{asked}
use Rattle.fault.specs.declared.Fault.{Fault}
use Rattle.fault.specs.declared.cause.Cause.{Cause}
use Rattle.fault.specs.declared.cause.Cause.TheVariants as causes
use Rattle.tagged_file.specs.declared.record.Tag.{Tag}
use Rattle.tagged_file.specs.declared.record.Record.{Record}
use Rattle.tagged_file.specs.Format.{header_bytes, longest_bytes, tag_of, right, tag_in, content_in}
use Rattle.tagged_file.specs.Numbers.{byte_at, two_at}

-- the tag that the first byte stands for
abbrev pub tag_here : List ℕ → Option Tag
tag_here bs = tag_of (byte_at bs 0)

-- the length that the second and the third byte give
abbrev pub length_here : List ℕ → ℕ
length_here bs = two_at bs 1

-- how many bytes the record occupies
abbrev pub size_here : List ℕ → ℕ
size_here bs = header_bytes + length_here bs

-- the content, after the header
abbrev pub content_here : List ℕ → List ℕ
content_here bs = take (length_here bs) (drop header_bytes bs)

-- whether a length is right for a tag; none is right where the tag is not known
abbrev pub right_for : Option Tag → ℕ → Bool
right_for (Some t) n = right t n
right_for None n = false

-- in this order: are three bytes left, is the tag known, is the length right for the tag, is the content all there
abbrev pub questions : List ℕ → List (Bool × Cause)
questions bs =
    (nat_le header_bytes (length bs), causes.HeaderCutOff)
    ∷ (is_some (tag_here bs), causes.TagUnknown)
    ∷ (right_for (tag_here bs) (length_here bs), causes.LengthWrong)
    ∷ (nat_le (size_here bs) (length bs), causes.ContentCutOff)
    ∷ []

-- a record's tag, its content and how many bytes it occupies, or a refusal
abbrev pub Decoded : Type 0
Decoded = Result (Option Tag × List ℕ × ℕ) Fault

-- what these bytes say, where the first of them stands at an offset of the file
abbrev pub decoded : ℕ → List ℕ → Decoded
decoded offset bs = asked offset (questions bs) (Ok (tag_here bs, content_here bs, size_here bs))

-- an answer of the reader, said in the same way
abbrev pub seen : Result (Record × ℕ) Fault → Decoded
seen (Ok a) = Ok (Some (tag_in a.0), content_in a.0, a.1)
seen (Err f) = Err f

-- a record of n bytes at the front of others: its content is as long as its tag asks, nothing but the header stands before it, it lies within the bytes, and no record is longer
pub record FitsAs (bs : List ℕ) (tag : Tag) (content : List ℕ) (n : ℕ) : Type 0 where
  pub long : right tag (length content) ≡ true
  pub size : n ≡ header_bytes + length content
  pub within : n ≤ length bs
  pub longest : n ≤ longest_bytes

abbrev pub Fits : List ℕ → Record → ℕ → Type 0
Fits bs r n = FitsAs bs (tag_in r) (content_in r) n

-- where an answer is a record, it fits
abbrev pub AnyFits : List ℕ → Result (Record × ℕ) Fault → Type 0
AnyFits bs (Ok a) = Fits bs a.0 a.1
AnyFits bs (Err f) = Unit {0}
