-- What the test of a quarter's amounts says of each of them. Assumes nothing.
use Rattle.std.proofs.Common.{◌≡◌, ◌≤◌, true}
use Rattle.std.proofs.lemmas.Bool.{and_parts, leb-true}
use Rattle.options.specs.declared.amounts.Amounts.{Amounts}
use Rattle.options.specs.Quarters.{allowed}

pub record Each (a : Amounts) : Type 0 where
  pub draw : a.draw ≤ 50000
  pub feed_in : a.feed_in ≤ 50000
  pub store_in : a.store_in ≤ 50000
  pub store_out : a.store_out ≤ 50000

pub each : (a : Amounts) → allowed a ≡ true → Each a
each a e =
    let p = and_parts _ _ e in
    let q = and_parts _ _ p.1 in
    let r = and_parts _ _ q.1 in
    record { draw = leb-true _ _ p.0; feed_in = leb-true _ _ q.0; store_in = leb-true _ _ r.0; store_out = leb-true _ _ r.1 }
