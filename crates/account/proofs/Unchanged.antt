-- A year whose option is as it was is as it was: what the type promises of the year has one proof. Assumes nothing.
use Rattle.std.proofs.Common.{◌≡◌, ℕ, Some, None}
use Rattle.std.proofs.Props.{props}
use Rattle.account.specs.declared.year.Opened.{Opened}

pub with_option : {O : Type 0} (a : Opened O) (o : O) (of_draft : (y : ℕ) → a.year ≡ Some y → a.draft.year ≡ Some y) (unfit : a.year ≡ None → a.ledger.entered ≡ 0)
    → a.option ≡ o → a ≡ record { draft = a.draft; year = a.year; ledger = a.ledger; option = o; of_draft = of_draft; unfit = unfit }
with_option a o of_draft unfit same =
    let one_of_draft : IsProp ((y : ℕ) → a.year ≡ Some y → a.draft.year ≡ Some y) = hlevel props in
    let one_unfit : IsProp (a.year ≡ None → a.ledger.entered ≡ 0) = hlevel props in
    λ i. record { draft = a.draft; year = a.year; ledger = a.ledger; option = same i; of_draft = one_of_draft a.of_draft of_draft i; unfit = one_unfit a.unfit unfit i }
