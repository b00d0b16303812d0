-- What the bytes of a file spell: its records one after the other, and what ends them. Assumes nothing.
use Rattle.std.specs.Prelude.{◌≡◌, ℕ, ◌+◌, ◌<◌, ◌≤◌, List, [], ◌∷◌, length, drop, Some, Ok, Err, ◌≢◌}
use Rattle.fault.specs.declared.Fault.{Fault}
use Rattle.fault.specs.declared.cause.Cause.TheVariants.{BytesAfterEnd}
use Rattle.fault.specs.Questions.{fault}
use Rattle.tagged_file.specs.declared.order.Order.{Order}
use Rattle.tagged_file.specs.declared.record.Tag.{Tag}
use Rattle.tagged_file.specs.declared.record.Tag.TheVariants as tags
use Rattle.tagged_file.specs.Decoded.{decoded}
use Rattle.tagged_file.specs.Follows.{Follows}

-- a record that stands in a file: where it begins, what it is and has, and how many bytes it occupies
pub record Placed : Type 0 where
  pub offset : ℕ
  pub tag : Tag
  pub content : List ℕ
  pub size : ℕ

-- what ends the records of a file: the end record, which begins at this offset, or a refusal
pub data Ending : Type 0 where
  ended : ℕ → Ending
  broken_off : Fault → Ending

module _ (file : List ℕ) where
  -- at an offset of the file stands a record of this tag and content, n bytes long, which may stand there: the order goes on to o'
  pub record StandsHere (p : ℕ) (o : Order) (tag : Tag) (content : List ℕ) (n : ℕ) (o' : Order) : Type 0 where
    pub is : decoded p (drop p file) ≡ Ok (Some tag, content, n)
    pub allowed : Follows o tag p (Ok tt) o'

  -- from an offset on, with this order, the file spells these records, and then this ends them
  pub data Spells : ℕ → Order → List Placed → Ending → Type 0 where
    -- the bytes there are no record
    no_record : {p : ℕ} {o : Order} {f : Fault} → decoded p (drop p file) ≡ Err f → Spells p o [] (broken_off f)
    -- the record there may not stand there
    out_of_order : {p n : ℕ} {o : Order} {f : Fault} {tag : Tag} {content : List ℕ} (o' : Order) → decoded p (drop p file) ≡ Ok (Some tag, content, n) → Follows o tag p (Err f) o' → Spells p o [] (broken_off f)
    -- a record other than the end, and then the file from after it on
    one_more : {p n : ℕ} {o o' : Order} {tag : Tag} {content : List ℕ} {more : List Placed} {ending : Ending} → StandsHere p o tag content n o' → (tag ≢ tags.End)
        → Spells (p + n) o' more ending → Spells p o (record { offset = p; tag = tag; content = content; size = n } ∷ more) ending
    -- something follows the end
    past_end : {p n : ℕ} {o o' : Order} {content : List ℕ} → StandsHere p o tags.End content n o' → n < length (drop p file) → Spells p o [] (broken_off (fault BytesAfterEnd (p + n)))
    -- the end, and nothing follows it
    at_end : {p n : ℕ} {o o' : Order} {content : List ℕ} → StandsHere p o tags.End content n o' → length (drop p file) ≤ n → Spells p o [] (ended p)
