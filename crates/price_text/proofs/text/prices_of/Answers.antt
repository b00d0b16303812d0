use Rattle.std.proofs.Common.{◌≡◌, ℕ, ◌+◌, [], ◌∷◌, ◌++◌, List, length, ℤ, Ok, vec_items, sym, ap, ◌∙◌, arith, rules}
use Rattle.std.specs.Iterator.Adapters.{enumerate_source, enumerate_count}
use Rattle.price_line.specs.Prices.{price_of}
use Rattle.price_text.specs.Lines.{lines_read}
use Rattle.price_text.specs.Texts.{prices_of}
use Rattle.price_text.proofs.Splits.{lines_read-short}
use Rattle.price_text.proofs.Reading.{before, one_price}
use Rattle.price_text.proofs.text.prices_of.Goals as goal

pub overflow_add-number : goal.overflow_add-number
overflow_add-number c =
    omega (arith, c.in-Some.ensures.steps.1, ap {A = List (List ℕ)} length c.in-Some.ensures.steps.0, c.loop-index.invariant.counted, lines_read-short c.args.lines.rest.now, c.ranges.lines)

pub loop-index-preserved : goal.loop-index-preserved
loop-index-preserved c =
    let step = c.in-Some.ensures.steps in
    let read = vec_items c.loop-index.prices in
    let now = c.next.new.self in
    let number = enumerate_count c.loop-index.index-iterator + 2 in
    let left = lines_read (enumerate_source now).rest.now in
    let price : ℤ = c.in_ok-price.price in
    let pushed : vec_items c.push.new.self ≡ read ++ price ∷ [] = search rules in
    let spelled : price_of c.in-Some.line.now ≡ Ok price = search rules in
    record {
      counted = omega (arith, step.2, ap {A = List (List ℕ)} length step.0, c.loop-index.invariant.counted);
      read = ap (λ ps. before ps (prices_of (enumerate_count now + 2) left)) pushed
          ∙ ap (λ n. before (read ++ price ∷ []) (prices_of n left)) {x = enumerate_count now + 2} {y = number + 1} (omega (arith, step.2))
          ∙ sym (one_price read number step.0 price spelled)
          ∙ c.loop-index.invariant.read;
    }
