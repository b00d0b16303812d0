use Rattle.std.proofs.Common.{◌+◌, ◌-◌, [], ◌∷◌, ◌++◌, take, sym, ap, ◌∙◌, arith, rules}
use Rattle.std.proofs.lemmas.List.{take_more_set}
use Rattle.price_line.specs.RunLengths.{fields_of}
use Rattle.price_line.proofs.Fields.{before, one_more, left_over, all_read}
use Rattle.price_line.proofs.run_lengths.run_lengths.Goals as goal

pub loop-length-preserved : goal.loop-length-preserved
loop-length-preserved c =
    let i = c.loop-length.length-index in
    let lengths = c.loop-length.length-items in
    let read = c.in_ok-length.field-0-0 in
    let after = c.in_ok-length.field-0-1.now in
    ap (λ xs. before xs (fields_of (8 - (i + 1)) after)) (take_more_set lengths i read (omega arith))
    ∙ ap (λ n. before (take i lengths ++ read ∷ []) (fields_of n after)) {x = 8 - (i + 1)} {y = 7 - i} (omega arith)
    ∙ sym (one_more (take i lengths) (8 - i) (7 - i) c.loop-length.rest.now (omega arith) (record { length = read; rest = after }) (search rules))
    ∙ c.loop-length.invariant

pub returns-then-not-is_empty : goal.returns-then-not-is_empty
returns-then-not-is_empty c =
    let i = c.loop-length.length-index in
    let rest = c.loop-length.rest.now in
    sym (left_over (take i c.loop-length.length-items) (8 - i) rest (omega arith) (search rules)) ∙ c.loop-length.invariant

pub returns : goal.returns
returns c =
    let i = c.loop-length.length-index in
    let rest = c.loop-length.rest.now in
    sym (all_read i c.loop-length.length-items (8 - i) rest (omega arith) (omega arith) (search rules)) ∙ c.loop-length.invariant
