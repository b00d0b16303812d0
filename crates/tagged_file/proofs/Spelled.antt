-- From every offset on, a file spells something. Assumes nothing.
use Rattle.std.proofs.Common.{◌≡◌, ℕ, zero, suc, ◌+◌, ◌<◌, ◌≤◌, true, ◌⊎◌, List, [], length, drop, Some, None, Ok, Err, sym, refl, ap, ◌∙◌, subst, inl, inr, ⊎_elim, arith, length-drop}
use Rattle.std.proofs.lemmas.Bool.{cases_Bool, cases_lt, ltb-true, cond-true, cond-false, and_parts}
use Rattle.fault.specs.declared.Fault.{Fault}
use Rattle.fault.specs.declared.cause.Cause.TheVariants.{OutOfOrder}
use Rattle.fault.specs.Questions.{fault}
use Rattle.tagged_file.specs.declared.order.Order.{Order}
use Rattle.tagged_file.specs.declared.record.Tag.{Tag}
use Rattle.tagged_file.specs.declared.record.Tag.TheVariants as tags
use Rattle.tagged_file.specs.Decoded.{Decoded, decoded}
use Rattle.tagged_file.specs.Follows.{allowed, next, counted, Follows}
use Rattle.tagged_file.specs.Limits.{most_remarks}
use Rattle.tagged_file.specs.Spelling.{Placed, Ending, StandsHere, Spells, broken_off, no_record, out_of_order, one_more, past_end, at_end}
use Rattle.tagged_file.proofs.Asked.{decoded_fits, decoded_known}

-- a remark that is allowed leaves no more than all remarks
counted_few : (o : Order) (tag : Tag) → allowed o.stage o.remarks tag ≡ true → counted o.remarks tag ≤ most_remarks
counted_few o tags.Year e = o.few
counted_few o tags.Plant e = o.few
counted_few o tags.Contract e = o.few
counted_few o tags.Quarter e = o.few
counted_few o tags.Remark e = omega (arith, ltb-true o.remarks most_remarks (and_parts _ _ e).1)
counted_few o tags.End e = o.few

-- a record may stand here, and the order goes on, or it is refused
followed : (o : Order) (tag : Tag) (p : ℕ) → ((o' : Order) × Follows o tag p (Ok tt) o') ⊎ ((f : Fault) × Follows o tag p (Err f) o)
followed o tag p =
    ⊎_elim
    (λ may.
    let o' : Order = record { stage = next o.stage tag; remarks = counted o.remarks tag; few = counted_few o tag may } in
    inl (o', (sym (cond-true (allowed o.stage o.remarks tag) _ _ may), (refl, refl))))
    (λ may_not. inr (fault OutOfOrder p, (sym (cond-false (allowed o.stage o.remarks tag) _ _ may_not), refl)))
    (cases_Bool (allowed o.stage o.remarks tag))

end_or_not : (tag : Tag) → (tag ≡ tags.End) ⊎ (tag ≡ tags.End → ⊥)
end_or_not tags.Year = inr (λ e. cc)
end_or_not tags.Plant = inr (λ e. cc)
end_or_not tags.Contract = inr (λ e. cc)
end_or_not tags.Quarter = inr (λ e. cc)
end_or_not tags.Remark = inr (λ e. cc)
end_or_not tags.End = inl refl

module _ (file : List ℕ) where
  abbrev Spelled : ℕ → Order → Type 0
  Spelled p o = (records : List Placed) × (ending : Ending) × Spells file p o records ending

  -- one record, and the rest by what a shorter rest spells
  spell_one : (p : ℕ) (o : Order) → ((q : ℕ) (o' : Order) → length (drop q file) < length (drop p file) → Spelled q o') → Spelled p o
  spell_one p o shorter = by (decoded p (drop p file)) refl
    where
      by : (d : Decoded) → decoded p (drop p file) ≡ d → Spelled p o
      by (Err f) e = ([], broken_off f, no_record e)
      by (Ok (None, content, n)) e = absurd (decoded_known p (drop p file) content n (sym e))
      by (Ok (Some tag, content, n)) e =
          let fits = decoded_fits p (drop p file) tag content n (sym e) in
          ⊎_elim
          (λ on. ⊎_elim
          (λ end.
          let here : StandsHere file p o tags.End content n on.0 = record { is = e ∙ ap (λ t. Ok (Some t, content, n)) end; allowed = subst (λ t. Follows o t p (Ok tt) on.0) end on.1 } in
          ⊎_elim (λ more. ([], _, past_end here more)) (λ none. ([], _, at_end here none)) (cases_lt n (length (drop p file))))
          (λ no_end.
          let here : StandsHere file p o tag content n on.0 = record { is = e; allowed = on.1 } in
          let rest = shorter (p + n) on.0 (omega (arith, fits.size, fits.within, length-drop p file, length-drop (p + n) file)) in
          (_, rest.1, one_more here no_end rest.2))
          (end_or_not tag))
          (λ off. ([], _, out_of_order o e off.1))
          (followed o tag p)

  spelled_within : (m p : ℕ) (o : Order) → length (drop p file) ≤ m → Spelled p o
  spelled_within zero p o short = spell_one p o (λ q o' less. absurd (omega arith))
  spelled_within (suc m) p o short = spell_one p o (λ q o' less. spelled_within m q o' (omega arith))

  pub spelled : (p : ℕ) (o : Order) → (records : List Placed) × (ending : Ending) × Spells file p o records ending
  spelled p o = spelled_within (length (drop p file)) p o (omega arith)
