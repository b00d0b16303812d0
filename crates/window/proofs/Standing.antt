-- How much a window holds at most; that it lies and stands in a file from call to call, and answers for the whole of it. Assumes nothing.
use Rattle.std.proofs.Common.{◌≡◌, ℕ, ◌+◌, min, true, leb, List, [], ◌++◌, length, take, drop, sym, ap, ◌∙◌, ⊎_elim, append_assoc, append-nil, arith, length-append, length-drop, ◌≤◌}
use Rattle.std.proofs.lemmas.List.{drop_all, drop-append-le, drop-drop, nil_from_length}
use Rattle.std.proofs.lemmas.Bool.{leb-true, or_cases}
use Rattle.window.specs.declared.Window.{Window}
use Rattle.tagged_file.specs.Decoded.{Decoded, decoded}
use Rattle.tagged_file.specs.Format.{longest_bytes}
use Rattle.window.specs.Held.{pending, ready, Fed, Passed}
use Rattle.window.specs.Limits.{window_bytes, most_offset}
use Rattle.window.specs.Lying.{LiesIn, LiesOn, LiesPast, AnswersForAnyFile}
use Rattle.window.specs.Standing.{Stands, StandsOn, AnswersForFile}
use Rattle.tagged_file.proofs.Asked.{decoded_long}

pub pending_most : (w : Window) → length (pending w) ≤ window_bytes
pending_most w = omega (arith, length-drop w.start w.bytes.items, w.within)

-- more than there is cannot be dropped
drop_min : (n m : ℕ) (xs : List ℕ) → length xs ≤ m → drop (min n m) xs ≡ drop n xs
drop_min n m xs h = grind (arith, drop_all)

-- once a piece came in
pub lies_fed : (piece : List ℕ) (n : ℕ) (w v : Window) → Fed w piece n v → LiesOn w (take n piece) v
lies_fed piece n w v f file rest s = record {
  on = ap (λ k. drop k file) f.offset ∙ s.on ∙ sym (append_assoc (pending w) (take n piece) rest) ∙ ap (λ l. l ++ rest) (sym f.held);
  over = λ e. nil_from_length rest (omega (arith, ap length (s.over (sym f.finished ∙ e)), length-append (take n piece) rest));
}

-- once bytes were passed, and the new offset leaves the same of the file as these bytes do
lies_after : (size : ℕ) (w v : Window) → Passed w size v → (file rest : List ℕ) → drop v.offset file ≡ drop (w.offset + min size (length (pending w))) file → LiesIn file w rest → LiesIn file v rest
lies_after size w v p file rest same s =
    let n = min size (length (pending w)) in
    record {
      on = same
          ∙ sym (drop-drop n w.offset file)
          ∙ ap (drop n) s.on
          ∙ drop-append-le n (pending w) rest (omega arith)
          ∙ ap (λ l. l ++ rest) (drop_min size (length (pending w)) (pending w) (omega arith) ∙ sym p.held);
      over = λ e. s.over (sym p.finished ∙ e);
    }

pub lies_passed : (size : ℕ) (w v : Window) → Passed w size v → LiesPast w v
lies_passed size w v p file rest told =
    let here : v.offset ≡ w.offset + min size (length (pending w)) = omega (arith, p.offset) in
    lies_after size w v p file rest (ap (λ k. drop k file) here)

-- what a ready window holds says the same with what is still to come
held_whole : (w : Window) (p : ℕ) (rest : List ℕ) → (w.finished ≡ true → rest ≡ []) → ready w ≡ true → decoded p (pending w ++ rest) ≡ decoded p (pending w)
held_whole w p rest over r =
    ⊎_elim
    (λ long. decoded_long p (pending w) rest (leb-true _ _ long))
    (λ e. ap (λ l. decoded p (pending w ++ l)) (over e) ∙ ap (decoded p) (append-nil (pending w)))
    (or_cases (leb longest_bytes (length (pending w))) w.finished r)

-- a window that is ready answers for the whole file, however long
pub answers_for_any_file : (w : Window) (answer : Decoded) → answer ≡ decoded w.offset (pending w) → AnswersForAnyFile w answer
answers_for_any_file w answer e file rest s r = e ∙ sym (held_whole w w.offset rest s.over r) ∙ ap (decoded w.offset) (sym s.on)

-- a window that stands in a file lies in it
lies : (file : List ℕ) (w : Window) (rest : List ℕ) → Stands file w rest → LiesIn file w rest
lies file w rest s = record { on = s.on; over = s.over }

-- the length is the file's and not the window's, so what holds of every file holds of those whose length an offset can tell
pub stands_on : (w : Window) (came : List ℕ) (v : Window) → LiesOn w came v → StandsOn w came v
stands_on w came v lies_on file rest s = let after = lies_on file rest (lies file w (came ++ rest) s) in record { on = after.on; over = after.over; told = s.told }

pub answers_for_file : (w : Window) (answer : Decoded) → AnswersForAnyFile w answer → AnswersForFile w answer
answers_for_file w answer any file rest s r = any file rest (lies file w rest s) r

-- in such a file nothing is left past the largest offset
pub stands_passed : (size : ℕ) (w v : Window) → Passed w size v → StandsOn w [] v
stands_passed size w v p file rest s =
    let same = ap (λ k. drop k file) p.offset ∙ drop_min (w.offset + min size (length (pending w))) most_offset file s.told in
    let after = lies_after size w v p file rest same (lies file w rest s) in
    record { on = after.on; over = after.over; told = s.told }
