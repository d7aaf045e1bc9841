-- A failed command is busy with its last attempt.
use Rattle.std.proofs.Common.{eq-eqb, ◌≡◌, ℕ, ◌==◌, Bool, true, false, not, ◌&&◌, map, filter, List, [], ◌∷◌, refl, sym, ◌∙◌, subst, ap, ⊎_elim, is_some, Option}
use Rattle.std.proofs.lemmas.Bool.{cases_Bool, and_from, or_right, or_left}
use Rattle.mid_base.specs.declared.entries.Entry.{Entry}
use Rattle.mid_base.specs.declared.host_spec.CmdSpec.{CmdSpec}
use Rattle.mid_base.specs.declared.host_spec.HostSpec.{HostSpec}
use Rattle.mid_base.specs.Past.{was_sent, sent_for}
use Rattle.disposition.specs.declared.todo.Todo.{Todo}
use Rattle.trace_model.specs.declared.standing.Standing.TheVariants.{Busy}
use Rattle.trace_model.specs.Attempts.{owner, is_settled}
use Rattle.trace_model.specs.Commands.{standing, is_busy}
use Rattle.trace_model.specs.Legal.{EachStands}
use Rattle.trace_model.specs.Names.{or_no_command}
use Rattle.trace_model.specs.Recovery.{Failure, failed, todo_of, listed, todo, is_cleared}
use Rattle.trace_model.proofs.Stage.{failing, stage}
use Rattle.trace_model.proofs.OnceMore.{held_all, busy_now, false_of}
use Rattle.escalation.specs.Climbing.{IsLast, AreLast}
use Rattle.step_laws.proofs.Rests.{Runs, rests}
use Rattle.recovery_laws.specs.Failed.{IsBusyWith}
use Rattle.verdict_table.specs.Taken.{has_failed}
use Rattle.recovery_laws.proofs.Sent.{busy_tag, busy_sent}
use Rattle.recovery_laws.proofs.Known.{busy_found}

settled_then : (o x : Bool) → o ≡ true → o && not x ≡ false → x ≡ true
settled_then true true h u = refl
settled_then true false h u = cc u
settled_then false x h u = cc h

pub failed_busy : (s : HostSpec) (P : List Entry) (c n : ℕ) → EachStands s P → has_failed c n (failed P) ≡ true → IsBusyWith s P c n
failed_busy s P c n each h =
    let held = held_all s c P each in
    let at : stage c P ≡ failing n = held.1 n h in
    let runs : Runs c P (failing n) = subst (Runs c P) at (rests s c P each).2 in
    let busy : is_busy (standing c P) ≡ true = busy_now c P (λ i. cc (sym i ∙ at)) held.2 in
    let tagged = busy_tag c P busy in
    let sending = busy_sent s c P each busy in
    let mine : sent_for n P ≡ c = subst (λ (k : ℕ). sent_for k P ≡ c) runs.0 sending.1 in
    let spec = busy_found s c P each busy in
    record {
      tag = tagged.0;
      busy = subst (λ (k : ℕ). standing c P ≡ Busy (record { 0 = k }) tagged.0) runs.0 tagged.1;
      last = runs.0;
      for_it = mine;
      sent = subst (λ (k : ℕ). was_sent k P ≡ true) runs.0 sending.0;
      shut = false_of _ (λ o. cc (sym at ∙ (held.0 n mine).0 o));
      settled = settled_then (is_some (owner n P)) (is_settled n P) runs.1 (false_of _ (λ u. cc (sym at ∙ (held.0 n mine).1 u)));
      command = spec.0;
      found = spec.1;
      dev_is = ap (λ (o : Option CmdSpec). (or_no_command o).dev) (sym spec.1);
    }

pub failed_last : (s : HostSpec) (P : List Entry) (f : Failure) → EachStands s P → has_failed f.cmd.0 f.attempt.0 (failed P) ≡ true → IsLast s P (todo_of s P f)
failed_last s P f each h =
    let b = failed_busy s P f.cmd.0 f.attempt.0 each h in
    (b.command, record { sent = b.sent; sent_for = b.for_it; last = b.last; command = b.found; dev_is = b.dev_is })

-- each of a part of the failed list
all_last : (s : HostSpec) (P : List Entry) (fs : List Failure) → EachStands s P → ((c n : ℕ) → has_failed c n fs ≡ true → has_failed c n (failed P) ≡ true) → AreLast s P (map (todo_of s P) fs)
all_last s P [] each sub = tt
all_last s P (f ∷ fs) each sub = (
  failed_last s P f each (sub f.cmd.0 f.attempt.0 (or_left ((f.cmd.0 == f.cmd.0) && (f.attempt.0 == f.attempt.0)) _ (and_from (f.cmd.0 == f.cmd.0) (f.attempt.0 == f.attempt.0) (eq-eqb f.cmd.0 f.cmd.0 refl) (eq-eqb f.attempt.0 f.attempt.0 refl)))),
  all_last s P fs each (λ c n h. sub c n (or_right ((f.cmd.0 == c) && (f.attempt.0 == n)) (has_failed c n fs) h)),
)

pub listed_last : (s : HostSpec) (P : List Entry) → EachStands s P → AreLast s P (listed s P)
listed_last s P each = all_last s P (failed P) each (λ c n h. h)

some_last : (s : HostSpec) (P : List Entry) (keep : Todo → Bool) (xs : List Todo) → AreLast s P xs → AreLast s P (filter keep xs)
some_last s P keep [] h = tt
some_last s P keep (x ∷ xs) h = ⊎_elim (λ yes. rw yes (h.0, some_last s P keep xs h.1)) (λ no. rw no (some_last s P keep xs h.1)) (cases_Bool (keep x))

pub todo_last : (s : HostSpec) (P : List Entry) → EachStands s P → AreLast s P (todo s P)
todo_last s P each = some_last s P (λ x. not (is_cleared x.cmd.0 P)) (listed s P) (listed_last s P each)
