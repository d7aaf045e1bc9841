-- A command that is handed to the lower layer.
use Rattle.std.proofs.Common.{◌≡◌, ◌∙◌, sym, ap, subst, refl, ℕ, ◌+◌, ◌<◌, ◌==◌, List, ◌∷◌, Option, Some, length, get_or, arith}
use Rattle.std.specs.Prelude.{slice_get, is_some, option_map}
use Rattle.std.proofs.lemmas.Bool.{eq-eqb}
use Rattle.std.proofs.lemmas.Option.{same_Some, slice_get_read}
use Rattle.mid_base.specs.declared.entries.Entry.{Entry}
use Rattle.mid_base.specs.declared.entries.Entry.TheVariants.{Sent}
use Rattle.mid_base.specs.declared.host_spec.CmdSpec.{CmdSpec}
use Rattle.mid_base.specs.declared.host_spec.HostSpec.{HostSpec}
use Rattle.mid_base.specs.declared.names.Attempt.{Attempt}
use Rattle.mid_base.specs.declared.names.CmdId.{CmdId}
use Rattle.mid_base.specs.declared.names.Tag.{Tag}
use Rattle.mid_base.specs.Past.{find_command}
use Rattle.host_template.specs.declared.queued.Queued.{Queued}
use Rattle.host_template.specs.declared.queued.Queued.TheVariants.{Taken, HostBusy, DeviceBusy}
use Rattle.host_template.specs.Calls.{FitsQueue, queued}
use Rattle.trace_model.specs.Names.{command, or_no_command}
use Rattle.attempt_table.specs.declared.rows.Row.{Row}
use Rattle.attempt_table.specs.Rows.{next_attempt}
use Rattle.attempt_table.proofs.Places.{row_new}
use Rattle.command_table.specs.declared.commands.Commands.{Commands}
use Rattle.command_table.specs.Rows.{id_at}
use Rattle.command_table.specs.declared.rows.CommandRow.{CommandRow}
use Rattle.device_table.specs.declared.devices.Devices.{Devices}
use Rattle.device_table.specs.DevicesAgree.{goes_in}
use Rattle.device_table.proofs.Counts.{find_one}
use Rattle.host_state.specs.declared.running.Running.{Running}
use Rattle.host_state.specs.Picks.{IsPicked, CanSend}
use Rattle.host_state.specs.HostAgrees.{HostAgrees}
use Rattle.mid_core.specs.Choices.{MayBeSent, bounced, who_was_busy}

-- the entries for an answer of the lower layer are those that the core makes
pub queued_is : (q : Queued) (c : CmdId) (n : Attempt) (t : Tag) (P : List Entry) → queued c n t q P ≡ bounced c n (who_was_busy q) (Sent c n t ∷ P)
queued_is Taken c n t P = refl
queued_is HostBusy c n t P = refl
queued_is DeviceBusy c n t P = refl

-- the command that was read is the spec's
pub read_there : (xs ys : List CmdSpec) (i : ℕ) (k : CmdSpec) → xs ≡ ys → i < length ys → k ≡ get_or xs i k → slice_get ys i ≡ Some k
read_there xs ys i k same within is =
    subst (λ (zs : List CmdSpec). slice_get zs i ≡ Some k) same (slice_get_read xs (length xs) i k refl (omega (arith, ap length same)) is)

-- what is picked stays so where there is more room
pub still_picked : (s : HostSpec) (P : List Entry) (old new : Running) (i : ℕ) → new.commands ≡ old.commands → new.devices ≡ old.devices → IsPicked s P old i → IsPicked s P new i
still_picked s P old new i commands devices picked = record {
  command = picked.command;
  at = picked.at;
  picked = picked.picked;
  row = picked.row;
  row_at = ap (λ (t : Commands). slice_get t.rows.items i) commands ∙ picked.row_at;
  id = picked.id;
  waits = picked.waits;
  housed = subst (λ (t : Commands). picked.row.device < length t.waiting.items) (sym commands) picked.housed;
  goes = ap (λ (t : Devices). goes_in t picked.row.device) devices ∙ picked.goes;
}

pub can_send : (s : HostSpec) (P : List Entry) (old new : Running) (i : ℕ) → HostAgrees s P new → new.commands ≡ old.commands → new.devices ≡ old.devices
    → new.attempts.rows.items ≡ old.attempts.rows.items → MayBeSent s P old i → CanSend new i
unfolding still_picked
can_send s P old new i runs commands devices attempts may = record {
  spec = s;
  entries = P;
  runs = runs;
  picked = still_picked s P old new i commands devices may.turn.picked;
  online = may.turn.device;
  few = let few = may.few in omega (arith, ap length attempts);
}

-- the id of the command that is picked stands in its row
pub picked_id : (s : HostSpec) (P : List Entry) (r : Running) (i : ℕ) (picked : IsPicked s P r i) → id_at i r.commands.rows.items ≡ Some picked.command.id
picked_id s P r i picked = ap (option_map (λ (q : CommandRow). q.id)) picked.row_at ∙ ap Some picked.id

-- the search for a command of the spec finds it
pub found : (s : HostSpec) (P : List Entry) (r : Running) → HostAgrees s P r → (i : ℕ) (k : CmdSpec) → slice_get s.cmds i ≡ Some k → find_command s k.id.0 ≡ Some k
found s P r runs i k at = find_one (λ j. j.id.0 == k.id.0) s.cmds runs.devices.ids i k at (λ m j get apart. apart) (eq-eqb k.id.0 k.id.0 refl)

pub command_of : (s : HostSpec) (P : List Entry) (r : Running) → HostAgrees s P r → (i : ℕ) (k : CmdSpec) → slice_get s.cmds i ≡ Some k → command s k.id.0 ≡ k
command_of s P r runs i k at = ap or_no_command (found s P r runs i k at)

-- the row of the command that was read has its id
pub read_id : (s : HostSpec) (P : List Entry) (r : Running) (i : ℕ) → IsPicked s P r i → (k : CmdSpec) → slice_get s.cmds i ≡ Some k → id_at i r.commands.rows.items ≡ Some k.id
read_id s P r i picked k at = picked_id s P r i picked ∙ ap (λ (j : CmdSpec). Some j.id) (same_Some picked.command k (sym picked.at ∙ at))

-- the number of an attempt that is sent next
pub number_is : (count : ℕ) (rows : List Row) (sent : Attempt) → count ≡ length rows → sent ≡ next_attempt rows → sent ≡ record { 0 = count + 1 }
number_is count rows sent counted is = is ∙ ap (λ (m : ℕ). record { 0 = m + 1 }) (sym counted)

-- an attempt with the next number fits the call
pub fits : (s : HostSpec) (P : List Entry) (r : Running) → HostAgrees s P r → (i : ℕ) (k : CmdSpec) → slice_get s.cmds i ≡ Some k → (n now : ℕ) → n ≡ length r.attempts.rows.items + 1 → now ≡ r.ticks
    → FitsQueue s P k.id k n now k.dev k.cdb k.fill
fits s P r runs i k at n now number time = record {
  time = time ∙ sym runs.time;
  fresh = (runs.attempts.0.rows n).0 ∙ ap (λ (x : Option Row). is_some x) (row_new r.attempts.rows.items n number);
  command = found s P r runs i k at;
  dev_is = refl;
  cdb_is = refl;
  fill_is = refl;
}
