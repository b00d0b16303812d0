-- An amount divided over rows by weight. Assumes nothing.
use Rattle.std.specs.Prelude.{◌≡◌, ℕ, ◌+◌, ◌-◌, ◌*◌, ◌/◌, ◌<◌, ◌≤◌, List, map, length, take, sum, slice_index}

-- the weights of the rows, in their order
abbrev pub weights : {R : Type 0} → (R → ℕ) → List R → List ℕ
weights weight rows = map weight rows

-- what the first k rows get together: the amount times their weights, divided by all weights, rounded down.
-- Where all weights are 0 this divides by 0, which gives 0.
abbrev pub together : ℕ → List ℕ → ℕ → ℕ
together amount ws k = amount * sum (take k ws) / sum ws

-- what the row at place k gets: what the rows up to and with it get together, less what the rows before it got together
abbrev pub share : ℕ → List ℕ → ℕ → ℕ
share amount ws k = together amount ws (k + 1) - together amount ws k

-- the shares of an amount by these weights; past the last row a weight and a share are 0
pub record Divided (amount : ℕ) (ws shares : List ℕ) : Type 0 where
  -- there are as many shares as rows
  pub as_many : length shares ≡ length ws
  -- each row gets its share
  pub each : (k : ℕ) → slice_index shares k ≡ share amount ws k
  -- the shares of the first rows add up to what these rows get together
  pub first : (k : ℕ) → sum (take k shares) ≡ together amount ws k
  -- where some weight is not 0, the shares add up to the amount
  pub whole : 0 < sum ws → sum shares ≡ amount
  -- where the amount does not exceed all weights, no share exceeds its row's weight
  pub within : amount ≤ sum ws → (k : ℕ) → slice_index shares k ≤ slice_index ws k
  -- a row of weight 0 gets 0
  pub nothing : (k : ℕ) → slice_index ws k ≡ 0 → slice_index shares k ≡ 0
  -- where all weights are 0, every row gets 0
  pub none : sum ws ≡ 0 → (k : ℕ) → slice_index shares k ≡ 0
