-- What follows from the answer to the four questions, and what it does not hang on. Assumes nothing.
use Rattle.std.proofs.Common.{◌≡◌, ℕ, ◌+◌, ◌<◌, ◌≤◌, Bool, true, false, leb, List, [], ◌∷◌, ◌++◌, length, take, drop, is_some, Some, None, Ok, Option, Result, sym, refl, ap, ◌∙◌, ⊎_elim, arith, length-append, length-drop}
use Rattle.std.proofs.lemmas.List.{drop-append-le, get_or_append_left, length-take-le, take-append-le}
use Rattle.std.proofs.lemmas.Bool.{cases_Bool, cond-false, eqb-true, le-leb, leb-true}
use Rattle.fault.specs.Questions.{asked}
use Rattle.fault.specs.declared.Fault.{Fault}
use Rattle.fault.specs.declared.cause.Cause.{Cause}
use Rattle.fault.specs.declared.cause.Cause.TheVariants as causes
use Rattle.tagged_file.specs.declared.record.Tag.{Tag}
use Rattle.tagged_file.specs.declared.record.Tag.TheVariants as tags
use Rattle.tagged_file.specs.Format.{header_bytes, most_remark, longest_bytes, tag_of, right}
use Rattle.tagged_file.specs.Numbers.{byte_at}
use Rattle.tagged_file.specs.Decoded.{tag_here, length_here, size_here, content_here, right_for, questions, Decoded, decoded, FitsAs}

-- no content is longer than that of a remark
right_le : (t : Tag) (n : ℕ) → right t n ≡ true → n ≤ most_remark
right_le tags.Year n e = omega (arith, eqb-true n _ e)
right_le tags.Plant n e = omega (arith, eqb-true n _ e)
right_le tags.Contract n e = omega (arith, eqb-true n _ e)
right_le tags.Quarter n e = omega (arith, eqb-true n _ e)
right_le tags.Remark n e = leb-true n most_remark e
right_le tags.End n e = omega (arith, eqb-true n _ e)

right_for_le : (o : Option Tag) (n : ℕ) → right_for o n ≡ true → n ≤ most_remark
right_for_le (Some t) n e = right_le t n e
right_for_le None n e = cc

-- every question gets a yes
abbrev Yes : List (Bool × Cause) → Type 0
Yes [] = Unit {0}
Yes (q ∷ qs) = (q.0 ≡ true) × Yes qs

-- a value is given only where every question gets a yes
asked_ok : {T : Type 0} (p : ℕ) (qs : List (Bool × Cause)) (x y : T) → ◌≡◌ {A = Result T Fault} (Ok y) (asked p qs (Ok x)) → Yes qs × (x ≡ y)
asked_ok p [] x y e = (tt, cc)
asked_ok p ((true, c) ∷ qs) x y e = let on = asked_ok p qs x y e in ((refl, on.0), on.1)
asked_ok p ((false, c) ∷ qs) x y e = cc

-- a record that stands in some bytes fits
pub decoded_fits : (p : ℕ) (bs : List ℕ) (tag : Tag) (content : List ℕ) (n : ℕ) → Ok (Some tag, content, n) ≡ decoded p bs → FitsAs bs tag content n
decoded_fits p bs tag content n e =
    let on = asked_ok p (questions bs) (tag_here bs, content_here bs, size_here bs) (Some tag, content, n) e in
    let takes : right tag (length_here bs) ≡ true = ap (λ x. right_for x.0 (length_here bs)) (sym on.1) ∙ on.0.1.1.0 in
    let there : size_here bs ≤ length bs = leb-true _ _ on.0.1.1.1.0 in
    let long : length content ≡ length_here bs = ap (λ x. length x.1) (sym on.1) ∙ length-take-le (length_here bs) (drop header_bytes bs) (omega (arith, length-drop header_bytes bs)) in
    let size : size_here bs ≡ n = ap (λ x. x.2) on.1 in
    record { long = ap (right tag) long ∙ takes; size = omega arith; within = omega arith; longest = omega (arith, right_le tag (length_here bs) takes) }

-- its tag is known
pub decoded_known : (p : ℕ) (bs content : List ℕ) (n : ℕ) → Ok (None, content, n) ≡ decoded p bs → ⊥
decoded_known p bs content n e =
    let on = asked_ok p (questions bs) (tag_here bs, content_here bs, size_here bs) (None, content, n) e in
    let none : is_some (tag_here bs) ≡ false = ap (λ x. is_some x.0) on.1 in
    let some : is_some (tag_here bs) ≡ true = on.0.1.0 in
    cc

-- the four questions, by what they ask about
abbrev asked_of : ℕ → Bool → Option Tag → ℕ → Bool → List ℕ → Decoded
asked_of p header tag n there content =
    asked p ((header, causes.HeaderCutOff) ∷ (is_some tag, causes.TagUnknown) ∷ (right_for tag n, causes.LengthWrong) ∷ (there, causes.ContentCutOff) ∷ []) (Ok (tag, content, header_bytes + n))

-- the content matters only where its length is right
same_asked : (p : ℕ) (b : Bool) (o : Option Tag) (n : ℕ) (x y : Bool) (c d : List ℕ) → (right_for o n ≡ true → (x ≡ y) × (c ≡ d)) → asked_of p b o n x c ≡ asked_of p b o n y d
same_asked p false o n x y c d h = refl
same_asked p true None n x y c d h = refl
same_asked p true (Some t) n x y c d h =
    ⊎_elim
    (λ e. ap (λ z. asked_of p true (Some t) n z c) (h e).0 ∙ ap (λ z. asked_of p true (Some t) n y z) (h e).1)
    (λ e. cond-false (right t n) _ _ e ∙ sym (cond-false (right t n) _ _ e))
    (cases_Bool (right t n))

-- content that is there is the same whatever follows
same_content : (bs rest : List ℕ) (n : ℕ) → header_bytes + n ≤ length bs → take n (drop header_bytes (bs ++ rest)) ≡ take n (drop header_bytes bs)
same_content bs rest n h = ap (take n) (drop-append-le header_bytes bs rest (omega arith)) ∙ take-append-le n (drop header_bytes bs) rest (omega (arith, length-drop header_bytes bs))

-- bytes among which the longest record would be whole say the same whatever follows
pub decoded_long : (p : ℕ) (bs rest : List ℕ) → longest_bytes ≤ length bs → decoded p (bs ++ rest) ≡ decoded p bs
decoded_long p bs rest l =
    let all = bs ++ rest in
    let longer : length bs ≤ length all = omega (arith, length-append bs rest) in
    let front : (k : ℕ) → k < header_bytes → byte_at all k ≡ byte_at bs k = λ k h. get_or_append_left bs rest 0 k (omega arith) in
    let there : (n : ℕ) → n ≤ length bs → leb n (length all) ≡ leb n (length bs) = λ n h. le-leb n _ (omega arith) ∙ sym (le-leb n _ h) in
    let size : length_here all ≡ length_here bs = omega (arith, front 1 (omega arith), front 2 (omega arith)) in
    let of : Bool → Option Tag → ℕ → Decoded = λ header tag n. asked_of p header tag n (leb (header_bytes + n) (length all)) (take n (drop header_bytes all)) in
    ap (λ header. of header (tag_here all) (length_here all)) (there header_bytes (omega arith))
    ∙ ap (λ b. of (leb header_bytes (length bs)) (tag_of b) (length_here all)) (front 0 (omega arith))
    ∙ ap (of (leb header_bytes (length bs)) (tag_here bs)) size
    ∙ same_asked p _ (tag_here bs) (length_here bs) _ _ _ _
    (λ e. let h : size_here bs ≤ length bs = omega (arith, right_for_le (tag_here bs) (length_here bs) e) in (there (size_here bs) h, same_content bs rest (length_here bs) h))
