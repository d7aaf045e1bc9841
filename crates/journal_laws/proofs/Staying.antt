-- A host that is drained stays so.
use Rattle.std.proofs.Common.{eq-eqb, ◌≡◌, ℕ, ◌==◌, ◌≤◌, Bool, true, false, not, ◌&&◌, ◌||◌, List, [], ◌∷◌, ◌++◌, reverse, refl, sym, subst, arith, ⊎_elim}
use Rattle.std.specs.List.{list_all}
use Rattle.std.proofs.lemmas.Bool.{and_parts, cases_Bool}
use Rattle.std.proofs.lemmas.Bool.Decides.{eqb_tells}
use Rattle.std.proofs.lemmas.List.{reverse-append}
use Rattle.mid_base.specs.declared.entries.Entry.{Entry}
use Rattle.mid_base.specs.declared.entries.Entry.TheVariants.{Told}
use Rattle.mid_base.specs.declared.host_spec.CmdSpec.{CmdSpec}
use Rattle.mid_base.specs.declared.host_spec.HostSpec.{HostSpec}
use Rattle.trace_model.specs.Drained.{was_taken, was_told, tellings, is_done, Drained}

grows : (c : ℕ) (Q P : List Entry) → tellings c P ≤ tellings c (Q ++ P)
grows c [] P = omega arith
grows c (Told d a ∷ Q) P = ⊎_elim (λ yes. rw yes (omega (arith, grows c Q P))) (λ no. rw no (grows c Q P)) (cases_Bool (d.0 == c))
grows c (e ∷ Q) P = grows c Q P

told_still : (n m : ℕ) → n ≤ m → not (n == 0) ≡ true → not (m == 0) ≡ true
told_still n m le h = ⊎_elim
    (λ yes. cc (rw (eq-eqb n 0 (omega (arith, le, yes.1))) at h))
    (λ no. rw no.0 refl)
    (eqb_tells m 0)

pub told_by : (taken told : Bool) → (taken || told) && (not taken || told) ≡ true → told ≡ true
told_by true true h = refl
told_by true false h = h
told_by false true h = refl
told_by false false h = h

done_by : (taken told : Bool) → told ≡ true → (taken || told) && (not taken || told) ≡ true
done_by true true h = refl
done_by true false h = h
done_by false true h = refl
done_by false false h = h

stays : (Q P : List Entry) (ks : List CmdSpec) → list_all (is_done P) ks ≡ true → list_all (is_done (Q ++ P)) ks ≡ true
stays Q P [] h = refl
stays Q P (k ∷ ks) h =
    let parts = and_parts (is_done P k) (list_all (is_done P) ks) h in
    let told : was_told k.id.0 P ≡ true = told_by (was_taken k.id.0 P) (was_told k.id.0 P) parts.0 in
    let still : was_told k.id.0 (Q ++ P) ≡ true = told_still (tellings k.id.0 P) (tellings k.id.0 (Q ++ P)) (grows k.id.0 Q P) told in
    rw (done_by (was_taken k.id.0 (Q ++ P)) (was_told k.id.0 (Q ++ P)) still) (stays Q P ks parts.1)

pub drained_on : (s : HostSpec) (front back : List Entry) → Drained s front → Drained s (front ++ back)
drained_on s front back h = subst (λ (P : List Entry). list_all (is_done P) s.cmds ≡ true) (sym (reverse-append front back)) (stays (reverse back) (reverse front) s.cmds h)
