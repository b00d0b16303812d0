use Rattle.std.proofs.Common.{◌≡◌, ◌+◌, ◌*◌, ◌/◌, ◌%◌, ◌^◌, eqb, sym, ap, ◌∙◌, arith, below_more}
use Rattle.std.proofs.lemmas.Nat.{pow_below}
use Rattle.table_of_values.proofs.Bits.{joined, added, unadded, kept, bounded}
use Rattle.table_of_values.proofs.byte_at.Goals as goal
use Rattle.table_of_values.proofs.byte_at.Goals.{then-is_marked, else-is_marked}

pub loop-bit-preserved : goal.loop-bit-preserved
loop-bit-preserved g c =
    let n = c.loop-bit.bit in
    let x = c.loop-bit.byte in
    let below = c.loop-bit.invariant.0 in
    elim c.if-is_marked.branch [
      | then-is_marked w ↦
          let is : c.if-is_marked.byte ≡ 1 * 2 ^ n + x = w.byte-is ∙ joined x n below (omega arith) in (
            omega (arith, is, bounded x n below),
            below_more _ n
                (λ k l. ap (λ y. eqb (y / 2 ^ k % 2) 1) is ∙ ap (λ b. eqb b 1) (kept x n below k l) ∙ c.loop-bit.invariant.1 k l)
                (ap (λ y. eqb (y / 2 ^ n % 2) 1) is ∙ ap (λ b. eqb b 1) (added x n below) ∙ sym w.if-is_marked.true ∙ c.is_marked.ensures),
          )
      | else-is_marked w ↦ (
        omega (arith, w.byte-is, pow_below n (n + 1) (omega arith)),
        below_more _ n
            (λ k l. ap (λ y. eqb (y / 2 ^ k % 2) 1) w.byte-is ∙ c.loop-bit.invariant.1 k l)
            (ap (λ y. eqb (y / 2 ^ n % 2) 1) w.byte-is ∙ ap (λ b. eqb b 1) (unadded x n below) ∙ sym w.if-is_marked.false ∙ c.is_marked.ensures),
      )
    ]
