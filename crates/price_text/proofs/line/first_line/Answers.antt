use Rattle.std.proofs.Common.{◌≡◌, ◌+◌, ◌∷◌, List, ℕ, take, drop, sym, ap, ◌∙◌, arith, rules}
use Rattle.std.specs.List.{prefix_len}
use Rattle.std.proofs.lemmas.List.{drop-drop}
use Rattle.std.proofs.lemmas.Grind.{common_steps}
use Rattle.price_text.specs.Lines.{unended, without_cr, lines_read}
use Rattle.price_text.proofs.Splits.{lines_read-split}
use Rattle.price_text.proofs.line.first_line.Goals as goal

pub returns-clause-lines : goal.returns-clause-lines
returns-clause-lines c =
    let text = c.args.text.now in
    let n = prefix_len unended text in
    let line : c.without_cr.result.now ≡ without_cr (take n text) = search rules in
    let skipped : c.unwrap_or.result.now ≡ drop 1 c.split_at.result.1.now = grind (arith, common_steps) in
    let rest : c.unwrap_or.result.now ≡ drop (n + 1) text = skipped ∙ ap (drop 1) (c.split_at.ensures.back ∙ ap (λ (k : ℕ). drop k text) c.count_before_feed.ensures.counted) ∙ drop-drop 1 n text in
    lines_read-split text (omega arith) ∙ ap (λ (l : List ℕ). l ∷ lines_read (drop (n + 1) text)) (sym line) ∙ ap (λ (r : List ℕ). c.without_cr.result.now ∷ lines_read r) (sym rest)
