use Rattle.std.proofs.Common.{◌∙◌, sym, ap}
use Rattle.device_states.specs.States.{is_closed}
use Rattle.mid_core.proofs.Known.{device_within, state_of}
use Rattle.mid_core.proofs.choosing.next_handing.Goals as goal

pub device_state-requires : goal.device_state-requires
device_state-requires c =
    device_within c.requires.0 c.requires.1.0 c.args.running.now c.requires.1.1 c.in-Some.place c.command-row.result c.command-row.ensures

pub returns-then-is_closed : goal.returns-then-is_closed
returns-then-is_closed c = λ s P runs.
    let next = c.in-Some.ensures s P runs in
    record {
      next = next;
      device =
          ap is_closed (state_of s P c.args.running.now runs c.in-Some.place c.command-row.result c.command-row.ensures next.command next.stands_at c.device_state.result c.device_state.ensures)
          ∙ sym c.is_closed.ensures ∙ c.if-is_closed.true;
    }

pub returns : goal.returns
returns c = λ s P runs.
    let next = c.in-Some.ensures s P runs in
    record {
      next = next;
      device =
          ap is_closed (state_of s P c.args.running.now runs c.in-Some.place c.command-row.result c.command-row.ensures next.command next.stands_at c.device_state.result c.device_state.ensures)
          ∙ sym c.is_closed.ensures ∙ c.if-is_closed.false;
    }
