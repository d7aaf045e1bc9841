use Rattle.std.proofs.Common.{◌≡◌, ◌∙◌, sym, ap, subst, refl, ℕ, ◌<◌, false, List, ◌∷◌, length}
use Rattle.std.specs.Prelude.{slice_get}
use Rattle.std.proofs.lemmas.Option.{slice_get_within}
use Rattle.mid_base.specs.declared.entries.Entry.{Entry}
use Rattle.mid_base.specs.declared.entries.Entry.TheVariants.{Judged, Cleared, Sensed, Act, Probe, Offline}
use Rattle.mid_base.specs.declared.host_spec.HostSpec.{HostSpec}
use Rattle.mid_base.specs.declared.names.Attempt.{Attempt}
use Rattle.mid_base.specs.declared.names.CmdId.{CmdId}
use Rattle.mid_base.specs.declared.names.DevAddr.{DevAddr}
use Rattle.mid_base.specs.Past.{ticks}
use Rattle.trace_model.specs.Commands.{standing}
use Rattle.attempt_table.specs.AttemptsAgree as attempts
use Rattle.command_table.specs.CommandsAgree as commands
use Rattle.device_table.specs.DevicesAgree as devices
use Rattle.deadline_table.specs.DeadlinesAgree as deadlines
use Rattle.failure_table.specs.FailuresAgree as failures
use Rattle.verdict_table.specs.VerdictsAgree as verdicts
use Rattle.attempt_table.proofs.Moves.{says_sensed}
use Rattle.attempt_table.proofs.Told.{tells_apart, tells_again}
use Rattle.command_table.proofs.Entries.{follows_apart}
use Rattle.device_table.proofs.Entries.{keeps_apart, dev_row}
use Rattle.failure_table.proofs.Agree.{agrees_apart}
use Rattle.verdict_table.specs.Taken.{Takes}
use Rattle.verdict_table.proofs.Agree.{verdicts_apart}
use Rattle.host_state.specs.declared.running.Running.{Running}
use Rattle.host_state.specs.HostAgrees.{HostAgrees, AreUnderWay, AreHeld, HaveTags}
use Rattle.host_state.proofs.Kept.{aborting_still}
use Rattle.host_state.proofs.Begun.{failed_row, devices_judged}
use Rattle.host_state.proofs.Timed.{timed_apart}
use Rattle.host_state.proofs.running.Running.enter.Goals as goal

pub go_offline-requires : goal.go_offline-requires
go_offline-requires c =
    let rows = c.args.self.now.devices.rows.items in
    let there = dev_row rows c.in-Some.place c.in-Offline.dev (c.in-Some.ensures c.requires.0 c.requires.1 c.requires.2.devices).0 in
    slice_get_within rows c.in-Some.place there.0 there.1

pub returns-in-Sensed-clause-runs : goal.returns-in-Sensed-clause-runs
returns-in-Sensed-clause-runs c = λ s P takes r.
    let old = c.args.self.now in
    let k = c.in-Sensed.field-0 in
    let n = c.in-Sensed.n in
    let e = Sensed k n c.in-Sensed.sense in
    let dead = (failed_row s P old r k.0 n.0 (rw c.in-Sensed.is at takes)).0 in
    rw c.in-Sensed.is (record {
      limits = r.limits;
      attempts = (says_sensed s P old.attempts.rows.items old.attempts.tags.items old.attempts.kept.items old.attempts.claims.items old.attempts.lates.items r.attempts.0 k n c.in-Sensed.sense dead, r.attempts.1, r.attempts.2, r.attempts.3);
      commands = follows_apart s P old.commands e tt r.commands;
      devices = keeps_apart s P old.devices e tt r.devices;
      timed = timed_apart s P old.deadlines old.attempts.tags.items r.timed e tt;
      time = r.time;
      early = r.early;
      few = r.few;
      failures = agrees_apart s P old.failures e tt r.failures;
      verdicts = c.sense.ensures.tells s P k r.verdicts;
      under_way = r.under_way;
      placed = r.placed;
      aborting = aborting_still P (e ∷ P) old.attempts.rows.items (λ j. refl) old.failures.work.waiting r.aborting;
      held_back = r.held_back;
      tagged = r.tagged;
    })

pub returns-in-Judged-clause-runs : goal.returns-in-Judged-clause-runs
returns-in-Judged-clause-runs c = λ s P takes r.
    let old = c.args.self.now in
    let k = c.in-Judged.field-0 in
    let n = c.in-Judged.n in
    let e = Judged k n c.in-Judged.d in
    let taken = rw c.in-Judged.is at takes in
    let ended = (failed_row s P old r k.0 n.0 taken.0).1 in
    rw c.in-Judged.is (record {
      limits = r.limits;
      attempts = tells_again s P old.attempts n.0 e refl ended r.attempts;
      commands = follows_apart s P old.commands e tt r.commands;
      devices = devices_judged s P old.devices k n c.in-Judged.d taken.1 r.devices;
      timed = timed_apart s P old.deadlines old.attempts.tags.items r.timed e tt;
      time = r.time;
      early = r.early;
      few = r.few;
      failures = agrees_apart s P old.failures e tt r.failures;
      verdicts = c.judge.ensures.tells s P k r.verdicts;
      under_way = r.under_way;
      placed = r.placed;
      aborting = aborting_still P (e ∷ P) old.attempts.rows.items (λ j. refl) old.failures.work.waiting r.aborting;
      held_back = r.held_back;
      tagged = r.tagged;
    })

pub returns-in-Some-clause-runs : goal.returns-in-Some-clause-runs
returns-in-Some-clause-runs c = λ s P takes r.
    let old = c.args.self.now in
    let d = c.in-Offline.dev in
    let e = Offline d in
    let there = (c.in-Some.ensures s P r.devices).0 in
    rw c.in-Offline.is (record {
      limits = r.limits;
      attempts = tells_apart s P old.attempts e tt r.attempts;
      commands = follows_apart s P old.commands e tt r.commands;
      devices = c.go_offline.ensures.keeps s P d there r.devices;
      timed = timed_apart s P old.deadlines old.attempts.tags.items r.timed e tt;
      time = r.time;
      early = r.early;
      few = r.few;
      failures = agrees_apart s P old.failures e tt r.failures;
      verdicts = verdicts_apart s P old.verdicts e tt r.verdicts;
      under_way = r.under_way;
      placed = r.placed;
      aborting = aborting_still P (e ∷ P) old.attempts.rows.items (λ j. refl) old.failures.work.waiting r.aborting;
      held_back = r.held_back;
      tagged = r.tagged;
    })

-- an entry that changes nothing
same : (s : HostSpec) (P : List Entry) (r : Running) (e : Entry) → attempts.IsApart e → commands.IsApart e → devices.IsApart e → deadlines.IsApart e → failures.IsApart e → verdicts.IsApart e
    → ((j : ℕ) → standing j (e ∷ P) ≡ standing j P) → AreUnderWay (e ∷ P) r.attempts.rows.items → AreHeld s (e ∷ P) → HaveTags s.can_queue (e ∷ P) → ticks (e ∷ P) ≡ r.ticks
    → HostAgrees s P r → HostAgrees s (e ∷ P) r
same s P r e a b d f g v stands under held tagged time runs = record {
  limits = runs.limits;
  attempts = tells_apart s P r.attempts e a runs.attempts;
  commands = follows_apart s P r.commands e b runs.commands;
  devices = keeps_apart s P r.devices e d runs.devices;
  timed = timed_apart s P r.deadlines r.attempts.tags.items runs.timed e f;
  time = time;
  early = runs.early;
  few = runs.few;
  failures = agrees_apart s P r.failures e g runs.failures;
  verdicts = verdicts_apart s P r.verdicts e v runs.verdicts;
  under_way = under;
  placed = runs.placed;
  aborting = aborting_still P (e ∷ P) r.attempts.rows.items stands r.failures.work.waiting runs.aborting;
  held_back = held;
  tagged = tagged;
}

-- the other entries of an act
other : (s : HostSpec) (P : List Entry) (r : Running) (e : Entry) → Takes s P e → ((c : CmdId) (n : Attempt) (x : _) → e ≡ Judged c n x → ⊥) → ((c : CmdId) (n : Attempt) (x : _) → e ≡ Sensed c n x → ⊥)
    → ((d : DevAddr) → e ≡ Offline d → ⊥) → HostAgrees s P r → HostAgrees s (e ∷ P) r
other s P r (Act level scope ok) takes j x o runs = same s P r (Act level scope ok) tt tt tt tt tt tt (λ k. refl) runs.under_way runs.held_back runs.tagged runs.time runs
other s P r (Probe d op say) takes j x o runs = same s P r (Probe d op say) tt tt tt tt tt tt (λ k. refl) runs.under_way runs.held_back runs.tagged runs.time runs
other s P r (Cleared c level) takes j x o runs = same s P r (Cleared c level) tt tt tt tt tt tt (λ k. refl) runs.under_way runs.held_back runs.tagged runs.time runs
other s P r (Judged c n d) takes j x o runs = absurd (j c n d refl)
other s P r (Sensed c n d) takes j x o runs = absurd (x c n d refl)
other s P r (Offline d) takes j x o runs = absurd (o d refl)
other s P r e takes j x o runs = absurd takes

pub returns-in_default : goal.returns-in_default
returns-in_default c = record {
  runs = λ s P takes r. other s P c.args.self.now c.args.entry.now takes c.in_default.not-Judged c.in_default.not-Sensed c.in_default.not-Offline r;
  shown = refl;
}
