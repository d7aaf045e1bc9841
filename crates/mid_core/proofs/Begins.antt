-- What recovery has to do as it begins, and where the journal and the lower layer stand then.
use Rattle.std.proofs.Common.{◌≡◌, ◌∙◌, sym, ap, refl, ℕ, zero, suc, ◌+◌, ◌==◌, Bool, true, false, not, ◌&&◌, cond, map, filter, List, [], ◌∷◌, ◌++◌, reverse, append_assoc, Option, None, Some, is_some, take, length, get_or, ◌<◌}
use Rattle.std.specs.Prelude.{slice_get, option_map}
use Rattle.std.specs.List.{list_all, list_any}
use Rattle.std.proofs.lemmas.Bool.{eq-eqb, and_from, or_left, or_right}
use Rattle.std.proofs.lemmas.List.{reverse-append, take-map, map_more}
use Rattle.std.proofs.lemmas.Option.{same_Some, none-some, slice_get-map, slice_get_within, slice_get_read, get_or_from_slice_get}
use Rattle.mid_base.specs.declared.entries.Entry.{Entry}
use Rattle.mid_base.specs.declared.entries.Entry.TheVariants.{Cleared}
use Rattle.mid_base.specs.declared.host_spec.CmdSpec.{CmdSpec}
use Rattle.mid_base.specs.declared.host_spec.HostSpec.{HostSpec}
use Rattle.mid_base.specs.declared.states.DeviceState.{DeviceState}
use Rattle.mid_base.specs.declared.steps.Step.TheVariants as step
use Rattle.mid_base.specs.Levels.{not_online, number}
use Rattle.device_states.specs.States.{is_online_state}
use Rattle.disposition.specs.declared.todo.Todo.{Todo}
use Rattle.host_template.specs.Laws.{SilentLaw}
use Rattle.host_template.specs.Standing.{Before, Standing}
use Rattle.trace_model.specs.Commands.{retries}
use Rattle.trace_model.specs.Devices.{has_begun, is_online}
use Rattle.trace_model.specs.Flush.{is_empty}
use Rattle.trace_model.specs.Legal.{EachStands, onto}
use Rattle.trace_model.specs.Names.{command, dev_of}
use Rattle.trace_model.specs.Recovery.{Failure, failed, is_quiet, listed, may_begin, todo_of}
use Rattle.trace_model.specs.Rules.{is_lost}
use Rattle.trace_model.specs.Steps.{barred}
use Rattle.trace_model.proofs.Making.{onto-reverse}
use Rattle.attempt_table.specs.declared.rows.Row.{Row}
use Rattle.attempt_table.specs.Rows.{row_of as attempt_row, command_in}
use Rattle.climb_laws.specs.LadderOf.{lost_cleared}
use Rattle.command_table.specs.declared.rows.CommandRow.{CommandRow}
use Rattle.device_table.specs.declared.rows.DeviceRow.{DeviceRow}
use Rattle.host_state.specs.declared.running.Running.{Running}
use Rattle.host_state.specs.HostAgrees.{HostAgrees}
use Rattle.recovery_laws.proofs.Busy.{failed_busy}
use Rattle.verdict_table.specs.declared.verdicts.FailedRow.{FailedRow}
use Rattle.verdict_table.specs.Taken.{has_failed}
use Rattle.verdict_table.specs.VerdictsAgree.{row_of}
use Rattle.mid_core.specs.Failures.{IsFailure}
use Rattle.mid_core.specs.Recovering.{lost_of}
use Rattle.mid_core.specs.Steps.{may_enter}
use Rattle.mid_core.proofs.Growing.{added}
use Rattle.mid_core.proofs.Judged.{counted, named, online_there}

-- what is to do with a failed command, by what is known of it
abbrev todo_by : FailedRow → CmdSpec → ℕ → Bool → Todo
todo_by kept k made online = record {
  cmd = kept.command;
  n = kept.attempt;
  dev = k.dev;
  cancelled = kept.cancelled;
  answer = kept.answer;
  cx = record { retries = made; allowed = k.allowed; failfast = k.failfast; online = online };
}

module _ (s : HostSpec) (P : List Entry) (r : Running) (f : Failure) (kept : FailedRow) (is : IsFailure s P r f kept) where
  attempt_is : kept.attempt.0 ≡ f.attempt.0
  attempt_is = ap (λ (x : FailedRow). x.attempt.0) is.row

  -- its attempt has a row
  pub has_row : is_some (attempt_row kept.attempt.0 r.attempts.rows.items) ≡ true
  has_row =
      ap (λ (n : ℕ). is_some (attempt_row n r.attempts.rows.items)) attempt_is
      ∙ sym (is.runs.attempts.0.rows f.attempt.0).0
      ∙ (failed_busy s P f.cmd.0 f.attempt.0 is.legal is.on_list).sent

  -- which is of its command
  row_command : (x : Row) → attempt_row kept.attempt.0 r.attempts.rows.items ≡ Some x → x.command.0 ≡ f.cmd.0
  row_command x at =
      sym (ap command_in at)
      ∙ ap (λ (n : ℕ). command_in (attempt_row n r.attempts.rows.items)) attempt_is
      ∙ sym (is.runs.attempts.0.rows f.attempt.0).6
      ∙ (failed_busy s P f.cmd.0 f.attempt.0 is.legal is.on_list).for_it

  -- what is to do with it
  pub todo_is : (x : Row) → attempt_row kept.attempt.0 r.attempts.rows.items ≡ Some x → (c : CommandRow) → slice_get r.commands.rows.items x.place ≡ Some c
      → (k : CmdSpec) → slice_get s.cmds x.place ≡ Some k → (at : DeviceState) → ((q : DeviceRow) → slice_get r.devices.rows.items c.device ≡ Some q → at ≡ q.state)
      → (online : Bool) → online ≡ is_online_state at → todo_by kept k c.retries online ≡ todo_of s P f
  todo_is x x_at c c_at k k_at at says online online_is =
      let mine : x.command.0 ≡ f.cmd.0 = row_command x x_at in
      let named_so : k ≡ command s f.cmd.0 = sym (named s P r is.runs kept.attempt.0 x x_at c c_at k k_at) ∙ ap (command s) mine in
      let made : c.retries ≡ retries f.cmd.0 P = sym (counted s P r is.runs kept.attempt.0 x x_at c c_at) ∙ ap (λ (d : ℕ). retries d P) mine in
      let on : online ≡ is_online s (dev_of s f.cmd.0) P =
      online_is ∙ sym (online_there s P r is.runs kept.attempt.0 x x_at c c_at at says) ∙ ap (λ (d : ℕ). is_online s (dev_of s d) P) mine
      in
      ap (λ (y : FailedRow). todo_by y k c.retries online) is.row
      ∙ ap (λ (j : CmdSpec). todo_by (row_of P f) j c.retries online) named_so
      ∙ ap (λ (m : ℕ). todo_by (row_of P f) (command s f.cmd.0) m online) made
      ∙ ap (todo_by (row_of P f) (command s f.cmd.0) (retries f.cmd.0 P)) on

-- the failed command at a place of the list
on_list_at : (fs : List Failure) (i : ℕ) (f : Failure) → slice_get fs i ≡ Some f → has_failed f.cmd.0 f.attempt.0 fs ≡ true
on_list_at [] i f at = absurd (none-some f at)
on_list_at (g ∷ fs) zero f at =
    let same : g ≡ f = same_Some g f at in
    or_left ((g.cmd.0 == f.cmd.0) && (g.attempt.0 == f.attempt.0)) (has_failed f.cmd.0 f.attempt.0 fs)
    (and_from (g.cmd.0 == f.cmd.0) (g.attempt.0 == f.attempt.0) (eq-eqb g.cmd.0 f.cmd.0 (ap (λ (h : Failure). h.cmd.0) same)) (eq-eqb g.attempt.0 f.attempt.0 (ap (λ (h : Failure). h.attempt.0) same)))
on_list_at (g ∷ fs) (suc i) f at = or_right ((g.cmd.0 == f.cmd.0) && (g.attempt.0 == f.attempt.0)) (has_failed f.cmd.0 f.attempt.0 fs) (on_list_at fs i f at)

pub failure_at : (s : HostSpec) (P : List Entry) (r : Running) → HostAgrees s P r → EachStands s P → (i : ℕ) (kept : FailedRow) → slice_get r.verdicts.rows.items i ≡ Some kept
    → (f : Failure) × (slice_get (failed P) i ≡ Some f) × IsFailure s P r f kept
failure_at s P r runs legal i kept at =
    by_failure (slice_get (failed P) i) refl (sym (slice_get-map (row_of P) (failed P) i) ∙ ap (λ (xs : List FailedRow). slice_get xs i) (sym runs.verdicts.rows) ∙ at)
  where
    by_failure : (o : Option Failure) → slice_get (failed P) i ≡ o → option_map (row_of P) o ≡ Some kept → (f : Failure) × (slice_get (failed P) i ≡ Some f) × IsFailure s P r f kept
    by_failure None there e = absurd (none-some kept e)
    by_failure (Some f) there e =
        (f, there, record { runs = runs; legal = legal; on_list = on_list_at (failed P) i f there; row = sym (same_Some (row_of P f) kept e) })

-- the row that was read
pub row_there : (xs ys : List FailedRow) (i : ℕ) (x : FailedRow) → xs ≡ ys → i < length xs → x ≡ get_or xs i x → slice_get ys i ≡ Some x
row_there xs ys i x same within is = ap (λ (zs : List FailedRow). slice_get zs i) (sym same) ∙ slice_get_read xs (length xs) i x refl within is

pub listed_more : (s : HostSpec) (P : List Entry) (i : ℕ) (f : Failure) → slice_get (failed P) i ≡ Some f → take (i + 1) (listed s P) ≡ take i (listed s P) ++ todo_of s P f ∷ []
listed_more s P i f at =
    take-map (todo_of s P) (i + 1) (failed P)
    ∙ map_more (todo_of s P) (failed P) i f (slice_get_within (failed P) i f at)
    ∙ ap (λ (g : Failure). map (todo_of s P) (take i (failed P)) ++ todo_of s P g ∷ []) (get_or_from_slice_get (failed P) i f f at)
    ∙ ap (λ (xs : List Todo). xs ++ todo_of s P f ∷ []) (sym (take-map (todo_of s P) i (failed P)))

-- those whose device isn't online are those that are cleared
lost_alike : (s : HostSpec) (P : List Entry) (fs : List Failure) → filter (λ (x : Todo). not x.cx.online) (map (todo_of s P) fs) ≡ filter (is_lost s P) (map (todo_of s P) fs)
lost_alike s P [] = refl
lost_alike s P (f ∷ fs) = ap (λ (xs : List Todo). cond (not (is_online s (dev_of s f.cmd.0) P)) (todo_of s P f ∷ xs) xs) (lost_alike s P fs)

pub lost_is : (s : HostSpec) (P : List Entry) (xs : List Todo) → xs ≡ listed s P → lost_of xs ≡ lost_cleared s P
lost_is s P xs is = ap lost_of is ∙ ap (λ (ys : List Todo). map (λ (x : Todo). Cleared x.cmd (number not_online)) ys) (lost_alike s P (failed P))

-- the lower layer stands where commands are cleared
pub stands_cleared : (stands : Standing) → SilentLaw stands → (s : HostSpec) (b : Before) (P : List Entry) (xs : List Todo) → stands s b P
    → stands s b (onto (map (λ (x : Todo). Cleared x.cmd (number not_online)) xs) P)
stands_cleared stands silent s b P [] stood = stood
stands_cleared stands silent s b P (x ∷ xs) stood =
    stands_cleared stands silent s b (Cleared x.cmd (number not_online) ∷ P) xs (silent s b P (Cleared x.cmd (number not_online)) tt stood)

pub cleared_enter : (xs : List Todo) → list_all (may_enter step.EhBegin) (map (λ (x : Todo). Cleared x.cmd (number not_online)) xs) ≡ true
cleared_enter [] = refl
cleared_enter (x ∷ xs) = cleared_enter xs

-- an entry and others more
pub added_all : (J J1 J2 J3 : List Entry) (e : Entry) (es : List Entry) → J1 ≡ J → J2 ≡ J1 ++ e ∷ [] → J3 ≡ J2 ++ es → J3 ≡ J ++ e ∷ es
added_all J J1 J2 J3 e es p q r = r ∙ ap (λ (xs : List Entry). xs ++ es) (added J J1 J2 e p q) ∙ append_assoc J (e ∷ []) es

pub back_all : (J J1 J2 J3 : List Entry) (e : Entry) (es : List Entry) → J1 ≡ J → J2 ≡ J1 ++ e ∷ [] → J3 ≡ J2 ++ es → reverse J3 ≡ onto (e ∷ es) (reverse J)
back_all J J1 J2 J3 e es p q r =
    ap (λ (xs : List Entry). reverse xs) (added_all J J1 J2 J3 e es p q r) ∙ reverse-append J (e ∷ es) ∙ sym (onto-reverse (e ∷ es) (reverse J))

-- recovery may begin
any_there : (fs : List Failure) → is_empty fs ≡ false → list_any (λ (f : Failure). true) fs ≡ true
any_there [] some = cc some
any_there (f ∷ fs) some = refl

module _ (s : HostSpec) (P : List Entry) (calm : has_begun P ≡ false) (some : is_empty (failed P) ≡ false) (quiet : is_quiet s P ≡ true) where
  pub begins : may_begin s P ≡ true
  begins = rw (quiet, calm) (any_there (failed P) some)

  pub nothing_bars_beginning : (due : Bool) → barred s due P step.EhBegin ≡ None
  nothing_bars_beginning due = rw (calm, some, quiet) refl
