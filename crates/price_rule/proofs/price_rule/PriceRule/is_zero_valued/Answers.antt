use Rattle.std.proofs.Common.{ℕ, ◌+◌, ◌-◌, false, eqb, get_or, Decides, subst, arith}
use Rattle.price_rule.specs.Prices.{RunAround}
use Rattle.price_rule.proofs.Counts.{counted_back, counted_on}
use Rattle.price_rule.proofs.Zeroes.{answer, never, no_earlier, counted}
use Rattle.price_rule.proofs.price_rule.PriceRule.is_zero_valued.Goals as goal
use Rattle.price_rule.proofs.price_rule.PriceRule.is_zero_valued.Goals.{then-run-eq0-via-then-run-eq0, then-run-eq0-via-else-run-eq0+then-after-self}

pub returns-then-run-eq0 : goal.returns-then-run-eq0
returns-then-run-eq0 c =
    let prices = c.args.self.now.prices.now in
    let run = get_or c.args.self.now.run_lengths c.args.regime 0 in
    let told = never prices run c.args.quarter (λ a. elim c.then-run-eq0.branch [
      | then-run-eq0-via-then-run-eq0 w ↦ omega (arith, a.some, w.if-run-eq0.true, c.run_length-run.ensures)
      | then-run-eq0-via-else-run-eq0+then-after-self w ↦ omega (arith, a.unended, a.inside, w.if-after-self.true)
    ]) in
    record { value = answer prices run c.args.quarter false told; told = told }

pub returns-then-before-eq0 : goal.returns-then-before-eq0
returns-then-before-eq0 c =
    let prices = c.args.self.now.prices.now in
    let quarter = c.args.quarter in
    let run = c.run_length-run.result in
    let before = c.negative_at_end-before.result in
    let back = counted_back prices (quarter + 1) run before (omega arith) c.split_at.ensures.front c.saturating_sub.ensures c.negative_at_end-before.ensures in
    let told = subst (λ (n : ℕ). Decides false (RunAround prices n quarter)) c.run_length-run.ensures
    (never prices run quarter (λ a. omega (arith, a.begun, no_earlier prices run quarter before back a (omega (arith, a.some))))) in
    record { value = answer prices _ quarter false told; told = told }

pub overflow_sub-run : goal.overflow_sub-run
overflow_sub-run c = (counted_back c.args.self.now.prices.now (c.args.quarter + 1) c.run_length-run.result c.negative_at_end-before.result (omega arith) c.split_at.ensures.front c.saturating_sub.ensures c.negative_at_end-before.ensures).limited

pub overflow_add-result : goal.overflow_add-result
overflow_add-result c =
    let prices = c.args.self.now.prices.now in
    let run = c.run_length-run.result in
    let before = c.negative_at_end-before.result in
    let back = counted_back prices (c.args.quarter + 1) run before (omega arith) c.split_at.ensures.front c.saturating_sub.ensures c.negative_at_end-before.ensures in
    let on = counted_on prices (c.args.quarter + 1) (run - before) c.negative_at_start.result c.split_at.ensures.back c.min.ensures c.negative_at_start.ensures in
    omega (arith, back.limited, on.limited)

pub returns : goal.returns
returns c =
    let prices = c.args.self.now.prices.now in
    let quarter = c.args.quarter in
    let run = c.run_length-run.result in
    let before = c.negative_at_end-before.result in
    let after = c.negative_at_start.result in
    let back = counted_back prices (quarter + 1) run before (omega arith) c.split_at.ensures.front c.saturating_sub.ensures c.negative_at_end-before.ensures in
    let on = counted_on prices (quarter + 1) (run - before) after c.split_at.ensures.back c.min.ensures c.negative_at_start.ensures in
    let told = subst (λ (n : ℕ). Decides (eqb (before + after) run) (RunAround prices n quarter)) c.run_length-run.ensures
    (counted prices run quarter before back after on (omega arith)) in
    record { value = answer prices _ quarter (eqb (before + after) run) told; told = told }
