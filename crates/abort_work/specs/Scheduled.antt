-- What contracts see of the scheduled aborts.
use Rattle.std.specs.Prelude.{ℕ, List}
use Rattle.mid_base.specs.declared.names.CmdId.{CmdId}
use Rattle.mid_base.specs.declared.names.Attempt.{Attempt}

-- the aborts that wait, the one that was scheduled first standing first, and how many of them there may be
pub record Scheduled : Type 0 where
  pub waiting : List (CmdId × Attempt)
  pub most : ℕ
