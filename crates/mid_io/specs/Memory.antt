-- Sources and sinks in memory, as contracts see them.
use Rattle.std.specs.Prelude.{◌≡◌, ℕ, ◌<◌, ◌⊎◌, if◌then◌else◌, List, [], length, min, Contains, Result, is_err}
use Rattle.mid_io.specs.Causes.{counted_on}

pub record MemSourceView : Type 0 where
  pub left : List ℕ
  -- no read gives more than this
  pub piece : ℕ
  -- the numbers of the calls that fail, counted from 1
  pub fail_at : List ℕ
  -- calls until now, failed ones too; the number of the next call is one more
  pub calls : ℕ
  pub faults : ℕ

pub record MemSinkView : Type 0 where
  pub bytes : List ℕ
  -- what is left of the room
  pub room : ℕ
  pub fail_at : List ℕ
  pub calls : ℕ
  pub faults : ℕ

-- a source as it is made
abbrev pub new_source : List ℕ → ℕ → List ℕ → MemSourceView
new_source bytes piece fail_at = record { left = bytes; piece = piece; fail_at = fail_at; calls = 0; faults = 0 }

-- a sink as it is made
abbrev pub new_sink : ℕ → List ℕ → MemSinkView
new_sink room fail_at = record { bytes = []; room = room; fail_at = fail_at; calls = 0; faults = 0 }

-- how many bytes a read that doesn't fail gives
abbrev pub given_to : MemSourceView → ℕ → ℕ
given_to s buffer = min (min s.piece buffer) (length s.left)

-- the next read fails
abbrev pub ReadFails : MemSourceView → Type 0
ReadFails s = Contains s.fail_at (counted_on s.calls)

-- the next write fails: by its number, or for want of room
abbrev pub WriteFails : MemSinkView → ℕ → Type 0
WriteFails s len = Contains s.fail_at (counted_on s.calls) ⊎ s.room < len

-- a call is counted, and so is its failure
pub record IsCounted {T E : Type 0} (calls faults calls_now faults_now : ℕ) (result : Result T E) : Type 0 where
  pub call : calls_now ≡ counted_on calls
  pub fault : faults_now ≡ (if is_err result then counted_on faults else faults)
