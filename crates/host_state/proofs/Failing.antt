-- What the table of failures needs of the others.
use Rattle.std.proofs.Common.{◌≡◌, ◌∙◌, sym, ap, ℕ, ◌+◌, ◌<◌, ◌==◌, true, false, List, ◌∷◌, Some, length, arith, inl, inr}
use Rattle.std.proofs.lemmas.Bool.{cases_Bool, eq-eqb, false≢true}
use Rattle.mid_base.specs.declared.answers.Answer.{Answer}
use Rattle.mid_base.specs.declared.entries.Entry.{Entry}
use Rattle.mid_base.specs.declared.entries.Entry.TheVariants as entry
use Rattle.mid_base.specs.declared.host_spec.HostSpec.{HostSpec}
use Rattle.mid_base.specs.declared.names.CmdId.{CmdId}
use Rattle.trace_model.specs.Commands.{standing, is_busy}
use Rattle.trace_model.specs.Counts.{busy_count}
use Rattle.command_table.specs.declared.commands.Commands.{Commands}
use Rattle.command_table.specs.Rows.{id_at}
use Rattle.command_table.specs.CommandsAgree.{CommandsAgree}
use Rattle.failure_table.specs.declared.failures.Failures.{Failures}
use Rattle.failure_table.specs.FailuresAgree.{FailuresAgree, CanSend, CanSchedule, CanFail, knows, is_out, is_aborting, once_if}
use Rattle.failure_table.proofs.Lists.{queued_is}
use Rattle.failure_table.proofs.Entries.{says_took, says_told_idle, out_parts}
use Rattle.failure_table.proofs.Queries.{out_leaves_room}
use Rattle.host_state.proofs.Ties.{any_at, spec_at}

pub idle_took : (s : HostSpec) (P : List Entry) (t : Failures) (c : CmdId) → is_busy (standing c.0 P) ≡ false → FailuresAgree s P t → FailuresAgree s (entry.Took c ∷ P) t
idle_took s P t c idle run = record {
  says = says_took s P t.queue.failed t.queue.busy t.work.waiting run.says c idle;
  recovery = run.recovery;
  started = run.started;
  failures_most = run.failures_most;
  aborts_most = run.aborts_most;
  few = run.few;
}

pub idle_told : (s : HostSpec) (P : List Entry) (t : Failures) (c : CmdId) (a : Answer) → is_busy (standing c.0 P) ≡ false → FailuresAgree s P t → FailuresAgree s (entry.Told c a ∷ P) t
idle_told s P t c a idle run = record {
  says = says_told_idle s P t.queue.failed t.queue.busy t.work.waiting run.says c a idle;
  recovery = run.recovery;
  started = run.started;
  failures_most = run.failures_most;
  aborts_most = run.aborts_most;
  few = run.few;
}

-- room for one busy command more
pub room_to_send : (s : HostSpec) (P : List Entry) (t : Failures) → FailuresAgree s P t → busy_count s P < s.can_queue → CanSend t
room_to_send s P t run fewer = omega (arith, fewer, run.says.busy_are, run.failures_most)

-- a command that is out may fail
pub room_to_fail : (s : HostSpec) (P : List Entry) (t : Failures) → FailuresAgree s P t → (c : CmdId) → knows s c.0 ≡ true → is_out c.0 P ≡ true → CanFail c t
room_to_fail s P t run c known out =
    let room = out_leaves_room s P t.queue.failed t.queue.busy t.work.waiting run.says c.0 known out in
    let parts = out_parts c.0 P out in
    (queued_is c t.queue.failed false (run.says.listed c.0 ∙ ap once_if parts.1), omega (arith, room))

-- where one command more is busy, not all are failed
pub one_can_end : (s : HostSpec) (P : List Entry) (t : Failures) → FailuresAgree s P t → (failed busy : ℕ) → failed ≡ length t.queue.failed → busy ≡ t.queue.busy + 1 → failed < busy
one_can_end s P t run failed busy same more = let room = run.says.room in omega (arith, room, same, more)

-- a command of the host
pub id_known : (s : HostSpec) (P : List Entry) (t : Commands) → CommandsAgree s P t → (i : ℕ) (c : CmdId) → id_at i t.rows.items ≡ Some c → knows s c.0 ≡ true
id_known s P t f i c is =
    let there = spec_at s P t f i c is in
    any_at (λ k. k.id.0 == c.0) s.cmds i there.0 there.1 (eq-eqb there.0.id.0 c.0 (ap (λ (x : CmdId). x.0) there.2))

-- a command that isn't busy isn't to be aborted
pub idle_unaborted : (s : HostSpec) (P : List Entry) (t : Failures) → FailuresAgree s P t → (c : ℕ) → is_busy (standing c P) ≡ false → is_aborting c P ≡ false
idle_unaborted s P t run c idle = elim (cases_Bool (is_aborting c P)) [
  | inl is ↦ absurd (false≢true (sym idle ∙ (run.says.waiting_are c is).0))
  | inr isnt ↦ isnt
]

-- the abort of a command that is out can be scheduled
pub room_to_schedule : (s : HostSpec) (P : List Entry) (t : Failures) → FailuresAgree s P t → (c : ℕ) → knows s c ≡ true → is_out c P ≡ true → CanSchedule t
room_to_schedule s P t run c known out =
    let room = out_leaves_room s P t.queue.failed t.queue.busy t.work.waiting run.says c known out in
    omega (arith, room, run.few, run.aborts_most)
