use Rattle.std.proofs.Common.{sym, subst, ◌<◌, ◌^◌, List, length}
use Rattle.mid_base.specs.declared.answers.TagState.{TagState}
use Rattle.attempt_table.specs.declared.rows.Row.{Row}
use Rattle.host_state.specs.HostAgrees.{AreUnderWay, ArePlaced, AreAborting, IsTimed}
use Rattle.host_state.proofs.running.Running.reserve.Goals as goal

pub returns-clause-same : goal.returns-clause-same
returns-clause-same c s P r =
    let old = c.args.self.now in
    let same = c.reserve.ensures.same in
    record {
      limits = r.limits;
      attempts = c.reserve.ensures.tells s P r.attempts;
      commands = r.commands;
      devices = r.devices;
      timed = subst (λ (xs : List TagState). IsTimed s P old.deadlines xs) (sym same.tags) r.timed;
      time = r.time;
      early = r.early;
      few = subst (λ (xs : List Row). length xs < 2 ^ 60) (sym same.rows) r.few;
      failures = r.failures;
      verdicts = r.verdicts;
      placed = subst (λ (xs : List Row). ArePlaced xs old.commands.rows.items) (sym same.rows) r.placed;
      aborting = subst (λ (xs : List Row). AreAborting P xs old.failures.work.waiting) (sym same.rows) r.aborting;
      tagged = r.tagged;
      under_way = subst (λ (xs : List Row). AreUnderWay P xs) (sym same.rows) r.under_way;
      held_back = r.held_back;
    }
