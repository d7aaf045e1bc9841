-- What a script plays, as one value.
use Rattle.std.specs.Prelude.{ℕ, Bool, List}
use Rattle.mid_base.specs.declared.steps.Why.{Why}
use Rattle.drain_rounds.specs.Making.{HostRun}
use Rattle.script_text.specs.declared.script.Script.{Script}
use Rattle.play_sched.specs.Played.{Ran}

-- the hosts with what happened to them, the step lines that were skipped, and whether the rounds were used up with a host that
-- isn't drained
pub record Outcome : Type 0 where
  pub runs : List HostRun
  pub skips : List (ℕ × Why)
  pub short : Bool

abbrev pub ComesOut : Script → Outcome → Type 0
ComesOut script o = Ran script o.runs o.skips o.short
