use Rattle.host_state.specs.Picks.{IsFirstUpTo}
use Rattle.host_state.proofs.running.Running.first_to_go.Given as goal

abbrev pub invariant-loop-device : goal.invariant-loop-device
invariant-loop-device l = IsFirstUpTo l.self l.device l.first
