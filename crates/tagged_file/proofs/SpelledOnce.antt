-- A file spells one list of records and one ending. Assumes nothing.
use Rattle.std.proofs.Common.{◌≡◌, ℕ, ◌+◌, List, [], ◌∷◌, drop, Some, Ok, Err, Option, sym, refl, ap, ◌∙◌, subst, arith}
use Rattle.fault.specs.declared.Fault.{Fault}
use Rattle.fault.specs.declared.cause.Cause.TheVariants.{OutOfOrder, BytesAfterEnd}
use Rattle.fault.specs.Questions.{Answer, asked, fault}
use Rattle.tagged_file.specs.declared.order.Order.{Order}
use Rattle.tagged_file.specs.declared.order.Stage.{Stage}
use Rattle.tagged_file.specs.declared.record.Tag.{Tag}
use Rattle.tagged_file.specs.Decoded.{Decoded, decoded}
use Rattle.tagged_file.specs.Follows.{allowed, next, counted, Follows}
use Rattle.tagged_file.specs.Spelling.{Placed, Ending, StandsHere, Spells, broken_off, no_record, out_of_order, one_more, past_end, at_end}

-- two orders that tell the same
abbrev pub Alike : Order → Order → Type 0
Alike o o' = (o.stage ≡ o'.stage) × (o.remarks ≡ o'.remarks)

same_answer : (o o' : Order) (tag tag' : Tag) (p : ℕ) (r r' : Answer) (u u' : Order) → Alike o o' → tag ≡ tag' → Follows o tag p r u → Follows o' tag' p r' u' → r ≡ r'
same_answer o o' tag tag' p r r' u u' like same follows follows' =
    let may : Stage → ℕ → Tag → Answer = λ s n t. asked p ((allowed s n t, OutOfOrder) ∷ []) (Ok tt) in
    follows.0 ∙ ap (λ s. may s o.remarks tag) like.0 ∙ ap (λ n. may o'.stage n tag) like.1 ∙ ap (may o'.stage o'.remarks) same ∙ sym follows'.0

like_after : (o o' : Order) (tag tag' : Tag) (p : ℕ) (u u' : Order) → Alike o o' → tag ≡ tag' → Follows o tag p (Ok tt) u → Follows o' tag' p (Ok tt) u' → Alike u u'
like_after o o' tag tag' p u u' like same follows follows' = (
  follows.1.0 ∙ ap (λ s. next s tag) like.0 ∙ ap (next o'.stage) same ∙ sym follows'.1.0,
  follows.1.1 ∙ ap (λ n. counted n tag) like.1 ∙ ap (counted o'.remarks) same ∙ sym follows'.1.1,
)

-- the parts of a record that two readings of the same bytes give
parts : (d : Decoded) {tag tag' : Tag} {content content' : List ℕ} {n n' : ℕ} → d ≡ Ok (Some tag, content, n) → d ≡ Ok (Some tag', content', n') → (tag ≡ tag') × (content ≡ content') × (n ≡ n')
parts d {tag} {tag'} {content} {content'} {n} {n'} e e' =
    let both : ◌≡◌ {A = Option Tag × List ℕ × ℕ} (Some tag, content, n) (Some tag', content', n') = cc in
    let some : ◌≡◌ {A = Option Tag} (Some tag) (Some tag') = ap (λ (x : Option Tag × List ℕ × ℕ). x.0) both in
    (cc, ap (λ (x : Option Tag × List ℕ × ℕ). x.1) both, ap (λ (x : Option Tag × List ℕ × ℕ). x.2) both)

placed_same : (p : ℕ) (tag tag' : Tag) (content content' : List ℕ) (n n' : ℕ) → tag ≡ tag' → content ≡ content' → n ≡ n'
    → ◌≡◌ {A = Placed} (record { offset = p; tag = tag; content = content; size = n }) (record { offset = p; tag = tag'; content = content'; size = n' })
placed_same p tag tag' content content' n n' a b c =
    let at : Tag → List ℕ → ℕ → Placed = λ t x m. record { offset = p; tag = t; content = x; size = m } in
    ap (λ t. at t content n) a ∙ ap (λ x. at tag' x n) b ∙ ap (at tag' content') c

module _ (file : List ℕ) where
  -- the same record cannot both be out of order and stand there
  clash : (p : ℕ) (o o' u u' : Order) {tag tag' : Tag} {content content' : List ℕ} {n n' : ℕ} {f : Fault} → Alike o o' → decoded p (drop p file) ≡ Ok (Some tag, content, n) → Follows o tag p (Err f) u
      → StandsHere file p o' tag' content' n' u' → ⊥
  clash p o o' u u' {tag} {tag'} {content} {content'} {n} {n'} {f} like d refused h =
      let same : ◌≡◌ {A = Answer} (Err f) (Ok tt) = same_answer o o' tag tag' p (Err f) (Ok tt) u u' like (parts (decoded p (drop p file)) d h.is).0 refused h.allowed in
      cc

  back : (o o' : Order) → Alike o o' → Alike o' o
  back o o' like = (sym like.0, sym like.1)

  pub once : {p : ℕ} {o o' : Order} {r r' : List Placed} {e e' : Ending} → Alike o o' → Spells file p o r e → Spells file p o' r' e' → (r ≡ r') × (e ≡ e')
  once like (no_record d) (no_record d') = (refl, cc)
  once like (no_record d) (out_of_order u d' f) = cc
  once like (no_record d) (one_more h no_end more) = cc
  once like (no_record d) (past_end h long) = cc
  once like (no_record d) (at_end h none) = cc
  once like (out_of_order u d f) (no_record d') = cc
  once {p} {o} {o'} like (out_of_order {f = g} u d f) (out_of_order {f = g'} u' d' f') =
      (refl, let same : ◌≡◌ {A = Answer} (Err g) (Err g') = same_answer o o' _ _ p (Err g) (Err g') u u' like (parts (decoded p (drop p file)) d d').0 f f' in cc)
  once {p} {o} {o'} like (out_of_order u d f) (one_more {o' = u'} h no_end more) = absurd (clash p o o' u u' like d f h)
  once {p} {o} {o'} like (out_of_order u d f) (past_end {o' = u'} h long) = absurd (clash p o o' u u' like d f h)
  once {p} {o} {o'} like (out_of_order u d f) (at_end {o' = u'} h none) = absurd (clash p o o' u u' like d f h)
  once like (one_more h no_end more) (no_record d') = cc
  once {p} {o} {o'} like (one_more {o' = u} h no_end more) (out_of_order u' d' f') = absurd (clash p o' o u' u (back o o' like) d' f' h)
  once {p} {o} {o'} {e = e} {e' = e'} like (one_more {n = n} {o' = u} {tag = tag} {content = content} {more = r} h no_end more) (one_more {n = n'} {o' = u'} {tag = tag'} {content = content'} {more = r'} h' no_end' more') =
      let same = parts (decoded p (drop p file)) h.is h'.is in
      let there : Spells file (p + n) u' r' e' = subst (λ m. Spells file (p + m) u' r' e') (sym same.2) more' in
      let on = once {o = u} {o' = u'} (like_after o o' tag tag' p u u' like same.0 h.allowed h'.allowed) more there in
      let first : Placed = record { offset = p; tag = tag; content = content; size = n } in
      (ap (λ l. first ∷ l) on.0 ∙ ap (λ x. x ∷ r') (placed_same p tag tag' content content' n n' same.0 same.1 same.2), on.1)
  once {p} like (one_more h no_end more) (past_end h' long) = absurd (no_end (parts (decoded p (drop p file)) h.is h'.is).0)
  once {p} like (one_more h no_end more) (at_end h' none) = absurd (no_end (parts (decoded p (drop p file)) h.is h'.is).0)
  once like (past_end h long) (no_record d') = cc
  once {p} {o} {o'} like (past_end {o' = u} h long) (out_of_order u' d' f') = absurd (clash p o' o u' u (back o o' like) d' f' h)
  once {p} like (past_end h long) (one_more h' no_end more) = absurd (no_end (parts (decoded p (drop p file)) h'.is h.is).0)
  once {p} like (past_end h long) (past_end h' long') = (refl, ap (λ m. broken_off (fault BytesAfterEnd (p + m))) (parts (decoded p (drop p file)) h.is h'.is).2)
  once {p} like (past_end h long) (at_end h' none) = absurd (omega (arith, long, none, (parts (decoded p (drop p file)) h.is h'.is).2))
  once like (at_end h none) (no_record d') = cc
  once {p} {o} {o'} like (at_end {o' = u} h none) (out_of_order u' d' f') = absurd (clash p o' o u' u (back o o' like) d' f' h)
  once {p} like (at_end h none) (one_more h' no_end more) = absurd (no_end (parts (decoded p (drop p file)) h'.is h.is).0)
  once {p} like (at_end h none) (past_end h' long) = absurd (omega (arith, long, none, (parts (decoded p (drop p file)) h.is h'.is).2))
  once like (at_end h none) (at_end h' none') = (refl, refl)
