-- The rungs of a ladder: each is an act that it may come to, of a level on a scope.
use Rattle.std.specs.Prelude.{◌≡◌, ℕ, List}
use Rattle.mid_base.specs.declared.names.DevAddr.{DevAddr}
use Rattle.mid_base.specs.declared.answers.Scope.{Scope}
use Rattle.mid_base.specs.declared.answers.Scope.TheVariants.{Cmd, Dev, Target, Bus, Host}
use Rattle.mid_base.specs.Levels.{Level, fetch_sense, abort, start_unit, reset_device, reset_target, reset_bus, reset_host, give_up, number}
use Rattle.disposition.specs.declared.todo.Todo.{Todo}
use Rattle.disposition.specs.Ladder.{Pair}
use Rattle.escalation.specs.declared.rungs.Rung.{Rung}
use Rattle.escalation.specs.declared.rungs.Rung.TheVariants.{FetchSense, Abort, StartUnit, ResetDevice, ResetTarget, ResetBus, ResetHost, GiveUp}

abbrev pub level_at : Rung → Level
level_at (FetchSense c) = fetch_sense
level_at (Abort c) = abort
level_at (StartUnit d) = start_unit
level_at (ResetDevice d) = reset_device
level_at (ResetTarget c t) = reset_target
level_at (ResetBus c) = reset_bus
level_at ResetHost = reset_host
level_at (GiveUp d) = give_up

abbrev pub scope_at : Rung → Scope
scope_at (FetchSense c) = Cmd c
scope_at (Abort c) = Cmd c
scope_at (StartUnit d) = Dev d
scope_at (ResetDevice d) = Dev d
scope_at (ResetTarget c t) = Target c t
scope_at (ResetBus c) = Bus c
scope_at ResetHost = Host
scope_at (GiveUp d) = Dev d

abbrev pub pair_at : Rung → Pair
pair_at r = (number (level_at r), scope_at r)

-- the rung of a level on a device, or on what has it
abbrev pub on_device : Level → DevAddr → Rung
on_device start_unit d = StartUnit d
on_device reset_device d = ResetDevice d
on_device reset_target d = ResetTarget d.channel d.target
on_device reset_bus d = ResetBus d.channel
on_device _ d = GiveUp d

abbrev pub fetches : Todo → Rung
fetches x = FetchSense x.cmd

abbrev pub aborts : Todo → Rung
aborts x = Abort x.cmd
