use Rattle.std.proofs.Common.{Err, refl, rules}
use Rattle.file_account.proofs.account_of_file.AccountOfFile.begin_contract.Goals as goal

pub returns-in_err-open : goal.returns-in_err-open
returns-in_err-open g c = record { between = c.open.new.self; fit = Err c.in_err-open.field-0.0; opens = c.in_err-open.ensures; begins = (search rules, refl) }
