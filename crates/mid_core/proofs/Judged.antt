-- The disposition of an answer, and what follows it.
use Rattle.std.proofs.Common.{◌≡◌, ◌∙◌, sym, ap, refl, ℕ, zero, suc, ◌<◌, ◌≤◌, Bool, true, false, not, ◌&&◌, cond, List, [], ◌∷◌, Option, None, Some, length}
use Rattle.std.specs.List.{list_all}
use Rattle.std.specs.Prelude.{nat_lt, slice_get, nat_le}
use Rattle.std.proofs.lemmas.Bool.{ltb-true, leb-true, and_parts}
use Rattle.std.proofs.lemmas.Option.{same_Some, none-some, slice_get_within}
use Rattle.mid_base.specs.declared.answers.Answer.{Answer}
use Rattle.mid_base.specs.declared.answers.Disp.{Disp}
use Rattle.mid_base.specs.declared.answers.Disp.TheVariants.{Success, Retry, Requeue, Fail}
use Rattle.mid_base.specs.declared.entries.Entry.{Entry}
use Rattle.mid_base.specs.declared.host_spec.CmdSpec.{CmdSpec}
use Rattle.mid_base.specs.declared.host_spec.HostSpec.{HostSpec}
use Rattle.mid_base.specs.Limits.{KeepsLimits, is_command, has_block}
use Rattle.mid_base.specs.declared.names.CmdId.{CmdId}
use Rattle.mid_base.specs.declared.states.DeviceState.{DeviceState}
use Rattle.device_states.specs.States.{is_online_state}
use Rattle.disposition.specs.Disp.{disp, last_rule, by_host_byte}
use Rattle.trace_model.specs.Commands.{retries, has_abort}
use Rattle.trace_model.specs.Devices.{is_online}
use Rattle.trace_model.specs.Judging.{disp_of, has_abort_left, may_retry}
use Rattle.trace_model.specs.Names.{command, dev_of}
use Rattle.attempt_table.specs.declared.rows.Row.{Row}
use Rattle.attempt_table.specs.Rows.{row_of}
use Rattle.done_flush.specs.Verdict.{has_retry, flush, told}
use Rattle.done_flush.specs.declared.flush.Flush.{Flush}
use Rattle.done_flush.specs.declared.flush.Flush.TheVariants as flushes
use Rattle.mid_base.specs.Answers.{time_out}
use Rattle.command_table.specs.declared.rows.CommandRow.{CommandRow}
use Rattle.command_table.proofs.Entries.{reads_at, id_is}
use Rattle.device_table.specs.declared.rows.DeviceRow.{DeviceRow}
use Rattle.host_state.specs.declared.running.Running.{Running}
use Rattle.host_state.specs.HostAgrees.{HostAgrees}
use Rattle.host_state.proofs.Settled.{has_id}
use Rattle.host_state.proofs.Ties.{spec_at}
use Rattle.mid_core.proofs.Known.{spec_within, command_there, state_there}

-- a retry is made only where retries remain
pub retry_remains : (a : Answer) (made allowed : ℕ) (failfast online : Bool) → disp a made allowed failfast online ≡ Retry → made < allowed
retry_remains a made allowed failfast false is = cc
retry_remains a made allowed failfast true is = by_rule (nat_lt made allowed) (not failfast) (by_host_byte a) refl is
  where
    by_rule : (few may : Bool) (d : Disp) → nat_lt made allowed ≡ few → last_rule (few && may) d ≡ Retry → made < allowed
    by_rule true may d few e = ltb-true made allowed few
    by_rule false may Success few e = cc
    by_rule false may Retry few e = cc
    by_rule false may Requeue few e = cc
    by_rule false may Fail few e = cc

-- what holds of all elements holds of each
all_at : (p : CmdSpec → Bool) (xs : List CmdSpec) (i : ℕ) (x : CmdSpec) → list_all p xs ≡ true → slice_get xs i ≡ Some x → p x ≡ true
all_at p [] i x all at = absurd (none-some x at)
all_at p (y ∷ xs) zero x all at = ap p (sym (same_Some y x at)) ∙ (and_parts (p y) (list_all p xs) all).0
all_at p (y ∷ xs) (suc i) x all at = all_at p xs i x (and_parts (p y) (list_all p xs) all).1 at

-- a command has at most 20 retries
pub few_allowed : (s : HostSpec) → KeepsLimits s → (i : ℕ) (k : CmdSpec) → slice_get s.cmds i ≡ Some k → k.allowed ≤ 20
few_allowed s limits i k at =
    leb-true k.allowed 20 (and_parts _ (nat_le k.allowed 20) (and_parts _ (has_block k) (all_at (is_command s.luns) s.cmds i k limits.commands at)).0).1

-- a command goes again where it has a retry, and else is told that its time ran out
pub goes_again : (k : CmdSpec) (made : ℕ) (x : DeviceState) (last : Option Answer) → flush k made x last false ≡ flushes.Again → has_retry k made x ≡ true
goes_again k made x last is = by_retry (has_retry k made x) is
  where
    by_retry : (b : Bool) → cond b flushes.Again (flushes.Told (told last)) ≡ flushes.Again → b ≡ true
    by_retry true e = refl
    by_retry false e = cc

pub has_retries : (k : CmdSpec) (made : ℕ) (x : DeviceState) (last : Option Answer) → flush k made x last false ≡ flushes.Again → made < k.allowed
has_retries k made x last is = ltb-true made k.allowed (and_parts (is_online_state x && not k.failfast) (nat_lt made k.allowed) (goes_again k made x last is)).1

pub is_told : (k : CmdSpec) (made : ℕ) (x : DeviceState) (a : Answer) → flush k made x None false ≡ flushes.Told a → (has_retry k made x ≡ false) × (a ≡ time_out)
is_told k made x a is = by_retry (has_retry k made x) is
  where
    answer_of : Flush → Answer
    answer_of (flushes.Told b) = b
    answer_of f = time_out

    by_retry : (b : Bool) → cond b flushes.Again (flushes.Told time_out) ≡ flushes.Told a → (b ≡ false) × (a ≡ time_out)
    by_retry true e = cc
    by_retry false e = (refl, sym (ap answer_of e))

-- of an attempt with this row
module _ (s : HostSpec) (P : List Entry) (r : Running) (runs : HostAgrees s P r) (n : ℕ) (row : Row) (there : row_of n r.attempts.rows.items ≡ Some row) where
  its : (x : CommandRow) × (slice_get r.commands.rows.items row.place ≡ Some x)
  its = has_id r.commands.rows.items row.place row.command (runs.placed n row there)

  pub place_within : row.place < length r.commands.rows.items
  place_within = slice_get_within r.commands.rows.items row.place its.0 its.1

  pub command_within : row.place < length s.cmds
  command_within = spec_within s P r runs row.place its.0 its.1

  -- the command that the spec has there is its
  pub id_of : (k : CmdSpec) → slice_get s.cmds row.place ≡ Some k → k.id ≡ row.command
  id_of k k_at =
      let spec = spec_at s P r.commands runs.commands row.place row.command (runs.placed n row there) in
      ap (λ (x : CmdSpec). x.id) (same_Some k spec.0 (sym k_at ∙ spec.1)) ∙ spec.2

  module _ (kept : CommandRow) (kept_at : slice_get r.commands.rows.items row.place ≡ Some kept) where
    -- its command's id, by the command's row
    pub id_there : kept.id ≡ row.command
    id_there = id_is row.place r.commands.rows.items kept row.command kept_at (runs.placed n row there)

    pub named : (k : CmdSpec) → slice_get s.cmds row.place ≡ Some k → command s row.command.0 ≡ k
    named k k_at = ap (λ (c : CmdId). command s c.0) (sym id_there) ∙ command_there s P r runs row.place kept kept_at k k_at

    pub counted : retries row.command.0 P ≡ kept.retries
    counted = ap (λ (c : CmdId). retries c.0 P) (sym id_there) ∙ (reads_at s P r.commands runs.commands row.place kept kept_at).1

    pub aborted_before : has_abort row.command.0 P ≡ kept.aborted
    aborted_before = ap (λ (c : CmdId). has_abort c.0 P) (sym id_there) ∙ (reads_at s P r.commands runs.commands row.place kept kept_at).3

    pub online_there : (x : DeviceState) → ((q : DeviceRow) → slice_get r.devices.rows.items kept.device ≡ Some q → x ≡ q.state) → is_online s (dev_of s row.command.0) P ≡ is_online_state x
    online_there x says =
        ap (λ (c : CmdId). is_online s (dev_of s c.0) P) (sym id_there) ∙ ap is_online_state (state_there s P r runs row.place kept kept_at x says)

    pub disposition_is : (a : Answer) (k : CmdSpec) (x : DeviceState) → slice_get s.cmds row.place ≡ Some k
        → ((q : DeviceRow) → slice_get r.devices.rows.items kept.device ≡ Some q → x ≡ q.state)
        → disp_of s P row.command.0 a ≡ disp a kept.retries k.allowed k.failfast (is_online_state x)
    disposition_is a k x k_at says =
        ap (λ (m : ℕ). disp a m (command s row.command.0).allowed (command s row.command.0).failfast (is_online s (dev_of s row.command.0) P)) counted
        ∙ ap (λ (j : CmdSpec). disp a kept.retries j.allowed j.failfast (is_online s (dev_of s row.command.0) P)) (named k k_at)
        ∙ ap (disp a kept.retries k.allowed k.failfast) (online_there x says)

    -- whether an abort of its command may be scheduled, and whether its command may go again
    pub abort_left_is : (k : CmdSpec) → slice_get s.cmds row.place ≡ Some k → has_abort_left s P row.command.0 ≡ (not s.no_async_abort && not kept.aborted && nat_lt kept.retries k.allowed)
    abort_left_is k k_at = rw (aborted_before, counted, named k k_at) refl

    pub retry_is : (k : CmdSpec) (x : DeviceState) → slice_get s.cmds row.place ≡ Some k → ((q : DeviceRow) → slice_get r.devices.rows.items kept.device ≡ Some q → x ≡ q.state)
        → may_retry s P row.command.0 ≡ has_retry k kept.retries x
    retry_is k x k_at says = rw (online_there x says, counted, named k k_at) refl
