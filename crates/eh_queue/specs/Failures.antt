-- What contracts see of the failed commands and the count of busy ones.
use Rattle.std.specs.Prelude.{ℕ, ◌==◌, Bool, not, List, filter}
use Rattle.std.specs.List.{list_any}
use Rattle.mid_base.specs.declared.names.CmdId.{CmdId}
use Rattle.mid_base.specs.declared.names.Attempt.{Attempt}

-- a failed command, the attempt that failed, and whether that attempt was cancelled
abbrev pub Failure : Type 0
Failure = CmdId × Attempt × Bool

-- the failed commands in the order in which they failed, how many commands are busy, and how many there may be; never are
-- more of them failed than busy
pub record Failures : Type 0 where
  pub failed : List Failure
  pub busy : ℕ
  pub most : ℕ

abbrev pub is_of : CmdId → Failure → Bool
is_of c f = f.0.0 == c.0

abbrev pub is_failed : CmdId → List Failure → Bool
is_failed c failed = list_any (is_of c) failed

-- the failures of the other commands
abbrev pub without : CmdId → List Failure → List Failure
without c failed = filter (λ f. not (is_of c f)) failed
