use Rattle.std.proofs.Common.{◌≡◌, length, take, fold, min, ap, ◌∙◌, rules, tests, arith}
use Rattle.std.proofs.lemmas.Iterator.{YieldsList-from_slice}
use Rattle.std.proofs.lemmas.Iterator.Consumers.{fold_from_yields_List}
use Rattle.std.proofs.lemmas.Iterator.Search.{YieldsList-from_take_while}
use Rattle.std.proofs.lemmas.List.{length-take}
use Rattle.std.proofs.lemmas.List.Folds.{length-prefix_len}
use Rattle.price_line.specs.Digits.{is_digit, digits_in, number_in}
use Rattle.price_line.proofs.Numbers.{longer, counted}
use Rattle.price_line.proofs.digits.count_and_number.Goals as goal

pub returns : goal.returns
returns c =
    let text = c.args.text.now in
    let digits = take (digits_in text) text in
    let read : c.fold.result ≡ fold longer (0, 0) digits =
    fold_from_yields_List _ longer (0, 0) c.fold.result c.fold.ensures.ran
    (YieldsList-from_take_while _ is_digit (YieldsList-from_slice text (cc)) c.take_while.ensures.closure c.take_while.ensures.done (λ x b q k. search (rules, tests)))
    (λ a x b q k. search (rules, tests)) in
    let many : length digits ≡ digits_in text = length-prefix_len is_digit text in
    read ∙ counted digits (omega (arith, length-take (digits_in text) text, c.iter.ensures.bound)) ∙ ap (λ n. (n, min (number_in text) 4294967295)) many
