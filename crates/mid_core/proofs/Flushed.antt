-- Recovery is done with its failed commands, and ends.
use Rattle.std.proofs.Common.{◌≡◌, ◌≢◌, ◌∙◌, sym, ap, subst, refl, ℕ, ◌==◌, ◌<◌, Bool, true, false, not, cond, List, [], ◌∷◌, map, Option, None, Some, is_some, length, arith, ⊎_elim}
use Rattle.std.specs.Prelude.{slice_get, count_by}
use Rattle.std.specs.List.{list_all}
use Rattle.std.proofs.lemmas.Bool.{eq-eqb, eqb-true, false≢true, cases_Bool}
use Rattle.std.proofs.lemmas.Option.{same_Some, none-some}
use Rattle.std.proofs.lemmas.List.Sums.{sum_by-cons}
use Rattle.mid_base.specs.declared.answers.Answer.{Answer}
use Rattle.mid_base.specs.declared.entries.Entry.{Entry}
use Rattle.mid_base.specs.declared.entries.Entry.TheVariants as entry
use Rattle.mid_base.specs.declared.host_spec.CmdSpec.{CmdSpec}
use Rattle.mid_base.specs.declared.host_spec.HostSpec.{HostSpec}
use Rattle.mid_base.specs.declared.names.Attempt.{Attempt}
use Rattle.mid_base.specs.declared.names.CmdId.{CmdId}
use Rattle.mid_base.specs.declared.names.Tag.{Tag}
use Rattle.mid_base.specs.declared.states.DeviceState.{DeviceState}
use Rattle.mid_base.specs.declared.steps.Step.TheVariants as step
use Rattle.disposition.specs.declared.todo.Todo.{Todo}
use Rattle.done_flush.specs.Verdict.{flush, told}
use Rattle.done_flush.specs.declared.flush.Flush.{Flush}
use Rattle.done_flush.specs.declared.flush.Flush.TheVariants as flushes
use Rattle.host_template.specs.Laws.{IsSilent}
use Rattle.host_template.specs.Meaning.{Meaning}
use Rattle.trace_model.specs.declared.standing.Standing.TheVariants.{Busy}
use Rattle.trace_model.specs.Claims.{tag_for}
use Rattle.trace_model.specs.Commands.{standing, is_failed, retries}
use Rattle.trace_model.specs.Devices.{has_begun, state}
use Rattle.trace_model.specs.Flush.{is_empty, is_flushed, is_saved}
use Rattle.trace_model.specs.Legal.{Group, EachStands}
use Rattle.trace_model.specs.Names.{command, dev_of}
use Rattle.trace_model.specs.Recovery.{Failure, failed, todo}
use Rattle.trace_model.specs.Rules.{telling}
use Rattle.trace_model.specs.Sending.{is_refused, is_stranded}
use Rattle.trace_model.specs.Steps.{barred, opens, IsAdded}
use Rattle.trace_model.proofs.OnceMore.{false_of}
use Rattle.attempt_table.specs.declared.rows.Row.{Row}
use Rattle.attempt_table.specs.Rows.{row_of, command_in, tag_in}
use Rattle.command_table.specs.declared.rows.CommandRow.{CommandRow}
use Rattle.device_table.specs.declared.rows.DeviceRow.{DeviceRow}
use Rattle.verdict_table.specs.declared.verdicts.FailedRow.{FailedRow}
use Rattle.verdict_table.specs.Taken.{has_failed}
use Rattle.verdict_table.specs.VerdictsAgree.{row_of as verdict_of}
use Rattle.escalation.specs.Climbing.{Climb}
use Rattle.climb_laws.specs.LadderOf.{IsLadderOf, is_on_list}
use Rattle.climb_laws.proofs.Refused.{refused_none}
use Rattle.climb_laws.proofs.Others.{again, told as told_keeps}
use Rattle.recovery_laws.specs.Failed.{IsBusyWith, last_answer}
use Rattle.recovery_laws.proofs.Busy.{failed_busy}
use Rattle.recovery_laws.proofs.Quiet.{still}
use Rattle.recovery_laws.proofs.Verdicts.{flushed_verdict, flushed_flush_by}
use Rattle.host_state.specs.declared.running.Running.{Running}
use Rattle.host_state.specs.HostAgrees.{HostAgrees}
use Rattle.host_state.specs.Recovers.{IsFailedWith, IsFailedRow}
use Rattle.mid_core.specs.Recovering.{entry_of, flushed_entry}
use Rattle.mid_core.specs.Steps.{may_enter}
use Rattle.mid_core.specs.View.{IsStaged}
use Rattle.mid_core.proofs.Holding.{Does, idle}
use Rattle.mid_core.proofs.Judged.{has_retries, id_there, named, counted}
use Rattle.mid_core.proofs.Known.{state_there}
use Rattle.mid_core.proofs.Staged.{Keeps}

no_length : (xs : List Todo) → (length xs == 0) ≡ true → xs ≡ []
no_length [] h = refl
no_length (x ∷ xs) h = absurd (omega (arith, eqb-true (length (x ∷ xs)) 0 h))

-- where there is a ladder recovery has begun, and what is left to do is what the ladder has left
module _ (s : HostSpec) (P : List Entry) (o : Option Climb) (k : Climb) (is : o ≡ Some k) (stage : IsStaged s P o) where
  staged : (has_begun P ≡ true) × IsLadderOf s P k
  staged = subst (λ (x : Option Climb). IsStaged s P x) is stage

  pub begun : has_begun P ≡ true
  begun = staged.0

  pub ladder : IsLadderOf s P k
  ladder = staged.1

  pub nothing_left : (xs : List Todo) (b : Bool) → xs ≡ k.left → b ≡ (length xs == 0) → b ≡ true → todo s P ≡ []
  nothing_left xs b left counted none = sym (left ∙ ladder.left) ∙ no_length xs (sym counted ∙ none)

-- nothing is left to do, and no command is on the failed list
module _ (s : HostSpec) (P : List Entry) (begins : has_begun P ≡ true) (none : todo s P ≡ []) (b : Bool) (told : is_empty (failed P) ≡ not b) (all : b ≡ false) where
  over : is_empty (failed P) ≡ true
  over = told ∙ ap not all

  pub group_ended : Group s P (entry.EhEnd ∷ [])
  group_ended = (rw (begins, over) refl, tt)

  pub nothing_bars_ending : (due : Bool) → barred s due P step.EhEnd ≡ None
  nothing_bars_ending due = rw (begins, none, over) refl

-- the first of the failed commands, which this row is kept of
pub record IsHead (P : List Entry) (x : FailedRow) : Type 0 where
  pub failure : Failure
  pub rest : List Failure
  pub are : failed P ≡ failure ∷ rest
  pub is : verdict_of P failure ≡ x

head_in : (P : List Entry) (x : FailedRow) (fs : List Failure) → failed P ≡ fs → slice_get (map (verdict_of P) fs) 0 ≡ Some x → IsHead P x
head_in P x [] are first = absurd (none-some x first)
head_in P x (f ∷ fs) are first = record { failure = f; rest = fs; are = are; is = same_Some (verdict_of P f) x first }

pub head : (s : HostSpec) (P : List Entry) (r : Running) → HostAgrees s P r → (x : FailedRow) → slice_get r.verdicts.rows.items 0 ≡ Some x → IsHead P x
head s P r runs x first =
    head_in P x (failed P) refl (subst (λ (rows : List FailedRow). slice_get rows 0 ≡ Some x) runs.verdicts.rows first)

-- a command that stands first is counted
not_counted : (c : ℕ) (xs : List (CmdId × Attempt × Bool)) (f : Failure) (fs : List Failure) → f ∷ fs ≡ map (λ x. record { cmd = x.0; attempt = x.1; cancelled = x.2 }) xs → f.cmd.0 ≡ c
    → count_by (λ x. x.0.0 == c) xs ≡ 0 → ⊥
not_counted c [] f fs are of none = cc are
not_counted c (x ∷ xs) f fs are of none =
    let same : f ≡ record { cmd = x.0; attempt = x.1; cancelled = x.2 } = cc are in
    let hit : (x.0.0 == c) ≡ true = eq-eqb x.0.0 c (sym (ap (λ (g : Failure). g.cmd.0) same) ∙ of) in
    let more = sum_by-cons (λ (y : CmdId × Attempt × Bool). cond (y.0.0 == c) 1 0) x xs in
    omega (arith, none, more, ap {B = ℕ} (λ (b : Bool). cond b 1 0) hit)

not_zero : (m : ℕ) (rows : List Row) (row : Row) → row_of m rows ≡ Some row → m ≢ 0
not_zero m rows row there = λ none. none-some row (sym (ap (λ (k : ℕ). row_of k rows) none) ∙ there)

-- in a legal journal the command that failed first is busy with its attempt
module _ (s : HostSpec) (P : List Entry) (r : Running) (runs : HostAgrees s P r) (each : EachStands s P) (x : FailedRow) (first : slice_get r.verdicts.rows.items 0 ≡ Some x) where
  listed : has_failed x.command.0 x.attempt.0 (failed P) ≡ true
  listed =
      let it = head s P r runs x first in
      let there : has_failed it.failure.cmd.0 it.failure.attempt.0 (failed P) ≡ true =
      subst (λ (fs : List Failure). has_failed it.failure.cmd.0 it.failure.attempt.0 fs ≡ true) (sym it.are)
      (rw (eq-eqb it.failure.cmd.0 it.failure.cmd.0 refl, eq-eqb it.failure.attempt.0 it.failure.attempt.0 refl) refl)
      in
      subst (λ (y : FailedRow). has_failed y.command.0 y.attempt.0 (failed P) ≡ true) it.is there

  with_it : IsBusyWith s P x.command.0 x.attempt.0
  with_it = failed_busy s P x.command.0 x.attempt.0 each listed

  has_failed_now : is_failed x.command.0 P ≡ true
  has_failed_now =
      let it = head s P r runs x first in
      let says = runs.failures.says in
      let of : it.failure.cmd.0 ≡ x.command.0 = ap (λ (y : FailedRow). y.command.0) it.is in
      ⊎_elim (λ yes. yes)
      (λ no. absurd (not_counted x.command.0 r.failures.queue.failed it.failure it.rest (sym it.are ∙ says.failures) of (says.listed x.command.0 ∙ ap (λ (b : Bool). cond b 1 0) no)))
      (cases_Bool (is_failed x.command.0 P))

  -- its attempt has a row
  pub has_row : row_of x.attempt.0 r.attempts.rows.items ≡ None → ⊥
  has_row none = false≢true (ap (λ (o : Option Row). is_some o) (sym none) ∙ sym (runs.attempts.0.rows x.attempt.0).0 ∙ with_it.sent)

  module _ (row : Row) (there : row_of x.attempt.0 r.attempts.rows.items ≡ Some row) where
    number : row.command.0 ≡ x.command.0
    number = sym ((runs.attempts.0.rows x.attempt.0).6 ∙ ap command_in there) ∙ with_it.for_it

    pub command_is : row.command ≡ x.command
    command_is = ap (λ (m : ℕ). record { 0 = m }) number

    tag_number : with_it.tag.0 ≡ row.tag.0
    tag_number =
        let held = runs.held_back x.command.0 x.attempt with_it.tag with_it.busy in
        let back : (tag_for x.attempt.0 P).0 ≡ with_it.tag.0 =
        subst (λ (m : ℕ). (tag_for m P).0 ≡ with_it.tag.0) held.0
        (runs.attempts.0.backs with_it.tag.0 (λ none. not_zero x.attempt.0 r.attempts.rows.items row there (sym held.0 ∙ none)))
        in
        sym back ∙ ap (λ (t : Tag). t.0) ((runs.attempts.0.rows x.attempt.0).7 ∙ ap tag_in there)

    tag_is : with_it.tag ≡ row.tag
    tag_is = ap (λ (m : ℕ). record { 0 = m }) tag_number

    pub failed_with : IsFailedWith P x.attempt row
    failed_with = (
      ap (λ (c : ℕ). standing c P) number ∙ with_it.busy ∙ ap (λ (t : Tag). Busy x.attempt t) tag_is,
      ap (λ (c : ℕ). is_failed c P) number ∙ has_failed_now,
    )

    pub failed_row : IsFailedRow r x.attempt row
    failed_row = record { spec = s; entries = P; runs = runs; at = there; failed = failed_with }

    module _ (kept : CommandRow) (kept_at : slice_get r.commands.rows.items row.place ≡ Some kept) (k : CmdSpec) (k_at : slice_get s.cmds row.place ≡ Some k) (y : DeviceState)
        (says : (q : DeviceRow) → slice_get r.devices.rows.items kept.device ≡ Some q → y ≡ q.state) where
      state_is : state s (dev_of s row.command.0) P ≡ y
      state_is = ap (λ (c : CmdId). state s (dev_of s c.0) P) (sym (id_there s P r runs x.attempt.0 row there kept kept_at)) ∙ state_there s P r runs row.place kept kept_at y says

      -- what comes of it
      pub flushed_is : flushed_entry s P x ≡ entry_of row.command (flush k kept.retries y x.answer x.success)
      flushed_is =
          ap (λ (c : CmdId). entry_of c (flush (command s c.0) (retries c.0 P) (state s (dev_of s c.0) P) x.answer x.success)) (sym command_is)
          ∙ ap (λ (j : CmdSpec). entry_of row.command (flush j (retries row.command.0 P) (state s (dev_of s row.command.0) P) x.answer x.success))
          (named s P r runs x.attempt.0 row there kept kept_at k k_at)
          ∙ ap (λ (m : ℕ). entry_of row.command (flush k m (state s (dev_of s row.command.0) P) x.answer x.success)) (counted s P r runs x.attempt.0 row there kept kept_at)
          ∙ ap (λ (z : DeviceState). entry_of row.command (flush k kept.retries z x.answer x.success)) state_is

-- one that goes again has retries left
pub has_retries_by : (k : CmdSpec) (made : ℕ) (y : DeviceState) (last : Option Answer) (success : Bool) → flush k made y last success ≡ flushes.Again → made < k.allowed
has_retries_by k made y last true is = cc
has_retries_by k made y last false is = has_retries k made y last is

-- an entry of the flush that the rules allow, and that leaves the ladder where it stands
pub record IsFlushing (s : HostSpec) (P : List Entry) (e : Entry) : Type 0 where
  pub group : Group s P (e ∷ [])
  pub added : IsAdded s P (e ∷ [])
  pub opened : opens s P step.EhFlush e ≡ true
  pub silent : IsSilent s e
  pub does : (m : Meaning) → Does s P (e ∷ []) m m
  pub enters : list_all (may_enter step.EhFlush) (e ∷ []) ≡ true
  pub keeps : Keeps s P (e ∷ [])

-- where nothing is left to do, the command that failed first is flushed
module _ (s : HostSpec) (P : List Entry) (each : EachStands s P) (begins : has_begun P ≡ true) (none : todo s P ≡ []) (x : FailedRow) (it : IsHead P x) where
  is_first : is_flushed s P it.failure.cmd.0 ≡ true
  is_first = rw (begins, none, it.are) (eq-eqb it.failure.cmd.0 it.failure.cmd.0 refl)

  on_list : is_on_list it.failure.cmd.0 (failed P) ≡ true
  on_list = subst (λ (fs : List Failure). is_on_list it.failure.cmd.0 fs ≡ true) (sym it.are) (rw (eq-eqb it.failure.cmd.0 it.failure.cmd.0 refl) refl)

  not_refused : is_refused s P it.failure.cmd.0 ≡ false
  not_refused = false_of _ (λ yes. false≢true (sym (refused_none s it.failure.cmd.0 P each yes) ∙ on_list))

  not_stranded : is_stranded s P it.failure.cmd.0 ≡ false
  not_stranded = rw ((still s P each begins).within) refl

  told_its_answer : is_saved s P it.failure.cmd.0 ≡ false → telling s P it.failure.cmd.0 ≡ Some (told (last_answer P it.failure))
  told_its_answer saved = rw (not_refused, not_stranded, is_first, saved) (flushed_verdict s P it.failure.cmd.0 it.failure it.rest each is_first it.are)

  by_verdict : (b : Bool) → is_saved s P it.failure.cmd.0 ≡ b → IsFlushing s P (entry_of it.failure.cmd (cond b flushes.Again (flushes.Told (told (last_answer P it.failure)))))
  by_verdict true saved = record {
    group = (rw (is_first, saved) refl, tt);
    added = (rw (is_first, saved) refl, tt);
    opened = refl;
    silent = tt;
    does = idle;
    enters = refl;
    keeps = (refl, λ k begun ladder. again s P k it.failure.cmd true none ladder);
  }
  by_verdict false saved = record {
    group = (told_its_answer saved, tt);
    added = (told_its_answer saved, tt);
    opened = is_first;
    silent = tt;
    does = idle;
    enters = refl;
    keeps = (refl, λ k begun ladder. told_keeps s P k it.failure.cmd (told (last_answer P it.failure)) none ladder);
  }

  pub flushing : IsFlushing s P (flushed_entry s P x)
  flushing =
      let f = it.failure in
      subst (λ (y : FailedRow). IsFlushing s P (flushed_entry s P y)) it.is
      (subst (λ (z : Flush). IsFlushing s P (entry_of f.cmd z)) (sym (flushed_flush_by s P f.cmd.0 f it.rest each is_first it.are)) (by_verdict (is_saved s P f.cmd.0) refl))

  pub nothing_bars_flushing : (due : Bool) → barred s due P step.EhFlush ≡ None
  nothing_bars_flushing due = rw (begins, none, it.are) refl
