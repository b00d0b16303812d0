-- What a window holds of the input, and what each call changes of it. Assumes nothing.
use Rattle.std.specs.Prelude.{◌≡◌, ℕ, ◌+◌, ◌-◌, min, Bool, true, false, ◌||◌, List, [], ◌++◌, length, take, drop, nat_le}
use Rattle.window.specs.declared.Window.{Window}
use Rattle.tagged_file.specs.Format.{longest_bytes}
use Rattle.window.specs.Limits.{window_bytes, most_offset}

-- the bytes that came in and were not yet passed
abbrev pub pending : Window → List ℕ
pending w = drop w.start w.bytes.items

-- how many bytes a window can still take in
abbrev pub room_in : Window → ℕ
room_in w = window_bytes - length (pending w)

-- no record can need bytes that are still to come: the longest record would be held whole, or the input has no more
abbrev pub ready : Window → Bool
ready w = nat_le longest_bytes (length (pending w)) || w.finished

-- nothing came in yet
pub record Fresh (w : Window) : Type 0 where
  pub held : pending w ≡ []
  pub offset : w.offset ≡ 0
  pub finished : w.finished ≡ false

-- v is w after the first n bytes of a piece came in: as many as there is room for
pub record Fed (w : Window) (piece : List ℕ) (n : ℕ) (v : Window) : Type 0 where
  pub count : n ≡ min (room_in w) (length piece)
  pub held : pending v ≡ pending w ++ take n piece
  pub offset : v.offset ≡ w.offset
  pub finished : v.finished ≡ w.finished

-- v is w, and the input has no more
pub record Finished (w v : Window) : Type 0 where
  pub held : pending v ≡ pending w
  pub offset : v.offset ≡ w.offset
  pub finished : v.finished ≡ true

-- v is w after its first bytes were passed, or all of them if it holds fewer; the offset goes on by as many, and stays at the largest that can be told
pub record Passed (w : Window) (size : ℕ) (v : Window) : Type 0 where
  pub held : pending v ≡ drop size (pending w)
  pub offset : v.offset ≡ min (w.offset + min size (length (pending w))) most_offset
  pub finished : v.finished ≡ w.finished

-- v holds what w does, from its first place on
pub record Settled (w v : Window) : Type 0 where
  pub start : v.start ≡ 0
  pub held : pending v ≡ pending w
  pub offset : v.offset ≡ w.offset
  pub finished : v.finished ≡ w.finished
