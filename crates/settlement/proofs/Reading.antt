-- A settlement whose file is being read from an input, piece by piece. Assumes nothing.
use Rattle.std.proofs.Common.{◌≡◌, ℕ, ◌+◌, ◌-◌, ◌<◌, ◌≤◌, Bool, true, false, cond, List, [], ◌++◌, length, take, Result, sym, refl, ap, ◌∙◌, subst, inl, inr, append_assoc, arith}
use Rattle.fault.specs.declared.Fault.{Fault}
use Rattle.calendar.specs.declared.published_table.PublishedTable.{PublishedTable}
use Rattle.statement.specs.declared.Statement.{Statement}
use Rattle.window.proofs.Standing.{pending_most}
use Rattle.window.specs.Limits.{window_bytes}
use Rattle.settlement.specs.declared.settlement.Settlement.{Settlement}
use Rattle.settlement.specs.Spelled.{FileSettlesTo}
use Rattle.settlement.specs.Inputs.{Came, ReadFor}
use Rattle.settlement.specs.Longest.{BoundedHere, longest_open, came_in, Grows}
use Rattle.settlement.specs.Progress.{open_still}
use Rattle.settlement.specs.Settling.{by_records, StandsIn, TakesAnyPiece, AnswersForAny}
use Rattle.settlement.proofs.Allowing.{bounded_most}
use Rattle.settlement.proofs.Keeping.{decided}
use Rattle.settlement.proofs.Lengths.{longest}

-- how many bytes can still come in while a settlement is open, and one more
abbrev pub to_come : Settlement → ℕ
to_come s = cond (open_still s.outcome) (1 + (longest_open + window_bytes - came_in s)) 0

held_most : (s : Settlement) → BoundedHere s → came_in s ≤ longest_open + window_bytes
held_most s bounded =
    omega (arith, bounded_most s.order s.account s.window.offset bounded, pending_most s.window)

-- each piece that brings a byte leaves less to come
pub less_to_come : (s t : Settlement) (n : ℕ) → open_still s.outcome ≡ true → BoundedHere s → 0 < n → Grows s n t → to_come t < to_come s
less_to_come s t n still bounded some grows = by (open_still t.outcome) refl
  where
    here : to_come s ≡ 1 + (longest_open + window_bytes - came_in s)
    here = ap (λ b. cond b (1 + (longest_open + window_bytes - came_in s)) 0) still

    by : (b : Bool) → open_still t.outcome ≡ b → cond b (1 + (longest_open + window_bytes - came_in t)) 0 < to_come s
    by true e = let after = grows bounded e in omega (arith, here, after.1, held_most t after.0)
    by false e = omega (arith, here)

module _ {I : Type 0} (brings : I → List ℕ → Type 0) (table : PublishedTable) where
  -- of a file something was read, the input brings the rest, and the settlement stands there in every file that begins so
  pub record Reading (file : List ℕ) (input : I) (s : Settlement) : Type 0 where
    pub read : List ℕ
    pub rest : List ℕ
    pub parts : file ≡ read ++ rest
    pub left : brings input rest
    pub stands : (other : List ℕ) → StandsIn by_records table (read ++ other) other s

  pub reads_on : (file : List ℕ) (before after : I) (piece : List ℕ) (n : ℕ) (s t : Settlement) → Came brings before piece n after → TakesAnyPiece s (take n piece) t → Reading file before s → Reading file after t
  reads_on file before after piece n s t came takes reading =
      let on = came.goes_on reading.rest reading.left in
      let front = take n piece in
      let read = reading.read in
      record {
        read = read ++ front;
        rest = on.0;
        parts = reading.parts ∙ ap (λ l. read ++ l) on.1 ∙ sym (append_assoc read front on.0);
        left = on.2;
        stands = λ other. subst (λ l. StandsIn by_records table l other t) (sym (append_assoc read front other)) (takes.in_file by_records table (read ++ (front ++ other)) other (reading.stands (front ++ other)));
      }

  -- the input has ended
  pub read_whole : (file : List ℕ) (before after : I) (piece : List ℕ) (n : ℕ) (s : Settlement) (out : Result Statement Fault) → Came brings before piece n after → n ≡ 0 → 0 < length piece → AnswersForAny s out → Reading file before s → ReadFor brings table file out after
  read_whole file before after piece n s out came zero some answers reading =
      let none : reading.rest ≡ [] = came.ends zero some reading.rest reading.left in
      let on = came.goes_on reading.rest reading.left in
      let whole : reading.read ++ [] ≡ file = ap (λ l. reading.read ++ l) (sym none) ∙ sym reading.parts in
      let comes : FileSettlesTo table file out = subst (λ l. FileSettlesTo table l out) whole (answers by_records table (reading.read ++ []) (reading.stands [])) in
      record {
        read = reading.read;
        rest = reading.rest;
        parts = reading.parts;
        left = subst (brings after) (sym (on.1 ∙ ap (λ k. take k piece ++ on.0) zero)) on.2;
        comes = comes;
        long = λ statement is. longest table file statement (subst (FileSettlesTo table file) is comes);
        stops = inl none;
      }

  -- what is still to come can change nothing
  pub read_enough : (file : List ℕ) (after : I) (s : Settlement) (out : Result Statement Fault) → open_still s.outcome ≡ false → AnswersForAny s out → Reading file after s → ReadFor brings table file out after
  read_enough file after s out over answers reading =
      let always : (other : List ℕ) → FileSettlesTo table (reading.read ++ other) out = λ other. answers by_records table (reading.read ++ other) (decided by_records table (reading.read ++ other) other [] s over (reading.stands other)) in
      let comes : FileSettlesTo table file out = subst (λ l. FileSettlesTo table l out) (sym reading.parts) (always reading.rest) in
      record {
        read = reading.read;
        rest = reading.rest;
        parts = reading.parts;
        left = reading.left;
        comes = comes;
        long = λ statement is. longest table file statement (subst (FileSettlesTo table file) is comes);
        stops = inr always;
      }
