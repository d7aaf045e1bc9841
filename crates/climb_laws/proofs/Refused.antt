-- A command that is refused is new, so it isn't on the failed list.
use Rattle.std.proofs.Common.{eq-eqb, ◌≡◌, ℕ, ◌==◌, true, false, ◌&&◌, find, List, [], ◌∷◌, refl, sym, ◌∙◌, subst, ⊎_elim}
use Rattle.std.proofs.lemmas.Bool.{eqb-true, cases_Bool, and_parts, and_from, or_left, or_right, or_cases}
use Rattle.mid_base.specs.declared.entries.Entry.{Entry}
use Rattle.mid_base.specs.declared.host_spec.CmdSpec.{CmdSpec}
use Rattle.mid_base.specs.declared.host_spec.HostSpec.{HostSpec}
use Rattle.trace_model.specs.declared.standing.Standing.{Standing}
use Rattle.trace_model.specs.declared.standing.Standing.TheVariants.{New, Waits, Busy, Ended}
use Rattle.trace_model.specs.Names.{command}
use Rattle.trace_model.specs.Commands.{standing, is_busy, is_new}
use Rattle.trace_model.specs.Recovery.{Failure, failed}
use Rattle.trace_model.specs.Sending.{is_left, is_command, is_next_of_lane, is_refused}
use Rattle.trace_model.specs.Legal.{EachStands}
use Rattle.trace_model.proofs.Stage.{failing, stage, has_failure}
use Rattle.trace_model.proofs.OnceMore.{held_all}
use Rattle.climb_laws.specs.LadderOf.{is_on_list}

found_new : (c lane : ℕ) (P : List Entry) (ks : List CmdSpec) → is_command c (find (is_left lane P) ks) ≡ true → is_new (standing c P) ≡ true
found_new c lane P [] h = cc h
found_new c lane P (k ∷ ks) h = ⊎_elim
    (λ yes. subst (λ (d : ℕ). is_new (standing d P) ≡ true) (eqb-true k.id.0 c (rw yes at h)) (and_parts (k.lane.0 == lane) (is_new (standing k.id.0 P)) yes).1)
    (λ no. found_new c lane P ks (rw no at h))
    (cases_Bool (is_left lane P k))

with_attempt : (c : ℕ) (fs : List Failure) → is_on_list c fs ≡ true → (n : ℕ) × (has_failure c n fs ≡ true)
with_attempt c [] h = cc h
with_attempt c (f ∷ fs) h = ⊎_elim
    (λ here. (f.attempt.0, or_left ((f.cmd.0 == c) && (f.attempt.0 == f.attempt.0)) (has_failure c f.attempt.0 fs) (and_from (f.cmd.0 == c) (f.attempt.0 == f.attempt.0) here (eq-eqb f.attempt.0 f.attempt.0 refl))))
    (λ later. let rest = with_attempt c fs later in (rest.0, or_right ((f.cmd.0 == c) && (f.attempt.0 == rest.0)) (has_failure c rest.0 fs) rest.1))
    (or_cases (f.cmd.0 == c) (is_on_list c fs) h)

new_busy : (x : Standing) → is_new x ≡ true → is_busy x ≡ true → ⊥
new_busy New a b = cc b
new_busy Waits a b = cc a
new_busy (Busy n t) a b = cc a
new_busy Ended a b = cc a

pub refused_none : (s : HostSpec) (c : ℕ) (P : List Entry) → EachStands s P → is_refused s P c ≡ true → is_on_list c (failed P) ≡ false
refused_none s c P each h = ⊎_elim
    (λ yes.
    let f = with_attempt c (failed P) yes in
    let held = held_all s c P each in
    let new : is_new (standing c P) ≡ true = found_new c (command s c).lane.0 P s.cmds (and_parts (is_next_of_lane s P c) _ h).0 in
    let at : stage c P ≡ failing f.0 = held.1 f.0 f.1 in
    absurd (⊎_elim (λ i. cc (sym i ∙ at)) (λ b. new_busy (standing c P) new b) held.2))
    (λ no. no)
    (cases_Bool (is_on_list c (failed P)))
