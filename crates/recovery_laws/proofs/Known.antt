-- A busy command is one that the spec has.
use Rattle.std.proofs.Common.{◌≡◌, ℕ, ◌+◌, ◌==◌, Bool, true, not, ◌&&◌, List, [], ◌∷◌, ◌++◌, refl, subst, ⊎_elim, find, Some}
use Rattle.std.specs.List.{list_any, list_all}
use Rattle.std.proofs.lemmas.Bool.{eqb-true, cases_Bool, and_parts, and_from, or_right, or_left}
use Rattle.std.proofs.lemmas.Bool.Decides.{eqb_tells}
use Rattle.mid_base.specs.declared.names.CmdId.{CmdId}
use Rattle.mid_base.specs.declared.names.Attempt.{Attempt}
use Rattle.mid_base.specs.declared.names.Tag.{Tag}
use Rattle.mid_base.specs.declared.entries.Entry.{Entry}
use Rattle.mid_base.specs.declared.entries.Entry.TheVariants.{Took, Sent, Bounced, Again, Told}
use Rattle.mid_base.specs.declared.host_spec.CmdSpec.{CmdSpec}
use Rattle.mid_base.specs.declared.host_spec.HostSpec.{HostSpec}
use Rattle.mid_base.specs.Past.{find_command}
use Rattle.trace_model.specs.Names.{command, dev_of}
use Rattle.trace_model.specs.Attempts.{sends}
use Rattle.trace_model.specs.Commands.{standing, is_busy, taken}
use Rattle.trace_model.specs.Devices.{in_recovery, is_online}
use Rattle.trace_model.specs.Legal.{EachStands}
use Rattle.trace_model.specs.Sending.{is_left, is_command, is_pickable, is_number, pick, is_next_of_lane, is_least_free}
use Rattle.trace_model.proofs.Owes.{stands}

abbrev known : HostSpec → ℕ → Bool
known s c = list_any (λ k. k.id.0 == c) s.cmds

found_known : (c lane : ℕ) (P : List Entry) (ks : List CmdSpec) → is_command c (find (is_left lane P) ks) ≡ true → list_any (λ k. k.id.0 == c) ks ≡ true
found_known c lane P [] h = cc h
found_known c lane P (k ∷ ks) h = ⊎_elim
    (λ yes. or_left (k.id.0 == c) (list_any (λ j. j.id.0 == c) ks) (rw yes at h))
    (λ no. or_right (k.id.0 == c) (list_any (λ j. j.id.0 == c) ks) (found_known c lane P ks (rw no at h)))
    (cases_Bool (is_left lane P k))

all_snoc : (f : ℕ → Bool) (ns : List ℕ) (n : ℕ) → list_all f ns ≡ true → f n ≡ true → list_all f (ns ++ n ∷ []) ≡ true
all_snoc f [] n h e = and_from (f n) true e refl
all_snoc f (m ∷ ns) n h e = let parts = and_parts (f m) (list_all f ns) h in and_from (f m) (list_all f (ns ++ n ∷ [])) parts.0 (all_snoc f ns n parts.1 e)

taken_known : (s : HostSpec) (P : List Entry) → EachStands s P → list_all (known s) (taken P) ≡ true
taken_known s [] each = refl
taken_known s (Took c ∷ P) each = all_snoc (known s) (taken P) c.0 (taken_known s P each.1)
    (⊎_elim (λ al. found_known c.0 (command s c.0).lane.0 P s.cmds (and_parts (is_next_of_lane s P c.0) _ al).0) (λ f. absurd (⊎_elim (λ q. cc q) (λ q. cc q) f)) (stands s P (Took c) each.0))
taken_known s (e ∷ P) each = taken_known s P each.1

picked_known : (s : HostSpec) (c : ℕ) (P : List Entry) (order : List ℕ) → is_number c (find (is_pickable s P) order) ≡ true → list_all (known s) order ≡ true → known s c ≡ true
picked_known s c P [] h all = cc h
picked_known s c P (d ∷ order) h all =
    let parts = and_parts (known s d) (list_all (known s) order) all in
    ⊎_elim
    (λ yes. subst (λ (k : ℕ). known s k ≡ true) (eqb-true d c (rw yes at h)) parts.0)
    (λ no. picked_known s c P order (rw no at h) parts.1)
    (cases_Bool (is_pickable s P d))

sent_picked : (s : HostSpec) (P : List Entry) (d : CmdId) (m : Attempt) (t : Tag) → EachStands s (Sent d m t ∷ P) → is_number d.0 (pick s P) ≡ true
sent_picked s P d m t each = ⊎_elim
    (λ al.
    let four = and_parts (not (in_recovery P) && is_number d.0 (pick s P) && is_online s (dev_of s d.0) P && (m.0 == sends P + 1)) (is_least_free s P t.0) al in
    let three = and_parts (not (in_recovery P) && is_number d.0 (pick s P) && is_online s (dev_of s d.0) P) (m.0 == sends P + 1) four.0 in
    let two = and_parts (not (in_recovery P) && is_number d.0 (pick s P)) (is_online s (dev_of s d.0) P) three.0 in
    (and_parts (not (in_recovery P)) (is_number d.0 (pick s P)) two.0).1)
    (λ f. absurd (⊎_elim (λ q. cc q) (λ q. cc q) f))
    (stands s P (Sent d m t) each.0)

busy_known : (s : HostSpec) (c : ℕ) (P : List Entry) → EachStands s P → is_busy (standing c P) ≡ true → known s c ≡ true
busy_known s c [] each b = cc b
busy_known s c (Sent d m t ∷ P) each b = ⊎_elim
    (λ yes. subst (λ (k : ℕ). known s k ≡ true) yes.1 (picked_known s d.0 P (taken P) (sent_picked s P d m t each) (taken_known s P each.1)))
    (λ no. busy_known s c P each.1 (rw no.0 at b))
    (eqb_tells d.0 c)
busy_known s c (Took d ∷ P) each b = ⊎_elim (λ yes. absurd (cc (rw yes.0 at b))) (λ no. busy_known s c P each.1 (rw no.0 at b)) (eqb_tells d.0 c)
busy_known s c (Bounced d m why ∷ P) each b = ⊎_elim (λ yes. absurd (cc (rw yes.0 at b))) (λ no. busy_known s c P each.1 (rw no.0 at b)) (eqb_tells d.0 c)
busy_known s c (Again d x ∷ P) each b = ⊎_elim (λ yes. absurd (cc (rw yes.0 at b))) (λ no. busy_known s c P each.1 (rw no.0 at b)) (eqb_tells d.0 c)
busy_known s c (Told d a ∷ P) each b = ⊎_elim (λ yes. absurd (cc (rw yes.0 at b))) (λ no. busy_known s c P each.1 (rw no.0 at b)) (eqb_tells d.0 c)
busy_known s c (e ∷ P) each b = busy_known s c P each.1 b

known_found : (c : ℕ) (ks : List CmdSpec) → list_any (λ k. k.id.0 == c) ks ≡ true → (k : CmdSpec) × (find (λ j. j.id.0 == c) ks ≡ Some k)
known_found c [] h = cc h
known_found c (k ∷ ks) h = ⊎_elim (λ yes. rw yes (k, refl)) (λ no. rw no (known_found c ks (rw no at h))) (cases_Bool (k.id.0 == c))

pub busy_found : (s : HostSpec) (c : ℕ) (P : List Entry) → EachStands s P → is_busy (standing c P) ≡ true → (k : CmdSpec) × (find_command s c ≡ Some k)
busy_found s c P each b = known_found c s.cmds (busy_known s c P each b)
