use Rattle.std.proofs.Common.{◌≡◌, ◌+◌, eqb, length, vec_items, sym, ap, ◌∙◌, rules}
use Rattle.std.proofs.lemmas.Bool.{or_from, ne_eqb}
use Rattle.price_rule.specs.Prices.{is_year}
use Rattle.price_text.proofs.text.read_text.Goals as goal

pub returns-then-count-ne-LEAP_YEAR : goal.returns-then-count-ne-LEAP_YEAR
returns-then-count-ne-LEAP_YEAR c =
    let prices = c.in_ok-prices.prices in
    let count = c.len-count.result in
    let counted : count ≡ length (vec_items prices) = c.len-count.ensures ∙ prices.ok.0 in
    let lengths = c.in_ok-run_lengths.run_lengths in (
      record { lengths = lengths; prices = vec_items prices },
      search rules,
      ap (λ n. n + 1) counted,
      ap is_year (sym counted) ∙ or_from (eqb count 35040) (eqb count 35136) (ne_eqb count 35040 c.if-count-ne-COMMON_YEAR.true) (ne_eqb count 35136 c.if-count-ne-LEAP_YEAR.true),
    )
