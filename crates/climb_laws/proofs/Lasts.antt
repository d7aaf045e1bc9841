-- The attempt of each failed command is its last, on the command's device.
use Rattle.std.proofs.Common.{eq-eqb, ◌≡◌, ℕ, ◌==◌, Bool, true, ◌&&◌, filter, List, [], ◌∷◌, refl, sym, ◌∙◌, subst, ap, ⊎_elim, Option}
use Rattle.std.proofs.lemmas.Bool.{cases_Bool, and_from, or_left, or_right}
use Rattle.mid_base.specs.declared.entries.Entry.{Entry}
use Rattle.mid_base.specs.declared.host_spec.CmdSpec.{CmdSpec}
use Rattle.mid_base.specs.declared.host_spec.HostSpec.{HostSpec}
use Rattle.disposition.specs.declared.todo.Todo.{Todo}
use Rattle.trace_model.specs.Names.{or_no_command}
use Rattle.trace_model.specs.Commands.{standing, is_busy}
use Rattle.trace_model.specs.Recovery.{Failure, failed, todo_of}
use Rattle.trace_model.specs.Legal.{EachStands}
use Rattle.trace_model.proofs.Stage.{stage, failing, has_failure}
use Rattle.trace_model.proofs.OnceMore.{held_all}
use Rattle.step_laws.proofs.Rests.{Runs, rests}
use Rattle.escalation.specs.Climbing.{Climb, IsLast, AreLast}
use Rattle.climb_laws.specs.LadderOf.{IsLadderOf}
use Rattle.climb_laws.proofs.Listed.{todos, stands}
use Rattle.climb_laws.proofs.Known.{busy_known, found_command, SentFor, busy_sent}

one_last : (s : HostSpec) (P : List Entry) (f : Failure) → EachStands s P → has_failure f.cmd.0 f.attempt.0 (failed P) ≡ true → IsLast s P (todo_of s P f)
one_last s P f each h =
    let c : ℕ = f.cmd.0 in
    let held = held_all s f.cmd.0 P each in
    let at : stage f.cmd.0 P ≡ failing f.attempt.0 = held.1 f.attempt.0 h in
    let busy : is_busy (standing f.cmd.0 P) ≡ true = ⊎_elim (λ idles. absurd (cc (sym idles ∙ at))) (λ b. b) held.2 in
    let runs : Runs f.cmd.0 P (failing f.attempt.0) = subst (Runs f.cmd.0 P) at (rests s f.cmd.0 P each).2 in
    let sent : SentFor f.cmd.0 P f.attempt.0 = subst (λ (n : ℕ). SentFor f.cmd.0 P n) runs.0 (busy_sent s f.cmd.0 P each busy) in
    let found = found_command f.cmd.0 s.cmds (busy_known s f.cmd.0 P each busy) in (
      found.0,
      record {
        sent = sent.sent;
        sent_for = sent.mine;
        last = runs.0;
        command = found.1;
        dev_is = sym (ap (λ (o : Option CmdSpec). (or_no_command o).dev) found.1);
      },
    )

all_last : (s : HostSpec) (P : List Entry) (keep : Todo → Bool) (fs : List Failure) → EachStands s P → ((c n : ℕ) → has_failure c n fs ≡ true → has_failure c n (failed P) ≡ true)
    → AreLast s P (filter keep (todos s P fs))
all_last s P keep [] each h = tt
all_last s P keep (f ∷ fs) each h =
    let c : ℕ = f.cmd.0 in
    let n : ℕ = f.attempt.0 in
    let here : has_failure f.cmd.0 f.attempt.0 (f ∷ fs) ≡ true =
    or_left ((f.cmd.0 == f.cmd.0) && (f.attempt.0 == f.attempt.0)) (has_failure f.cmd.0 f.attempt.0 fs)
    (and_from (f.cmd.0 == f.cmd.0) (f.attempt.0 == f.attempt.0) (eq-eqb f.cmd.0 f.cmd.0 refl) (eq-eqb f.attempt.0 f.attempt.0 refl))
    in
    let rest : AreLast s P (filter keep (todos s P fs)) =
    all_last s P keep fs each (λ d m k. h d m (or_right ((f.cmd.0 == d) && (f.attempt.0 == m)) (has_failure d m fs) k))
    in
    ⊎_elim
    (λ yes. rw yes (one_last s P f each (h f.cmd.0 f.attempt.0 here), rest))
    (λ no. rw no rest)
    (cases_Bool (keep (todo_of s P f)))

pub left_last : (s : HostSpec) (P : List Entry) (k : Climb) → EachStands s P → IsLadderOf s P k → AreLast s P k.left
left_last s P k each h = subst (λ (xs : List Todo). AreLast s P xs) (sym h.left) (all_last s P (stands P) (failed P) each (λ c n e. e))
