-- The stage of a command is that of its last attempt.
use Rattle.std.proofs.Common.{◌≡◌, ◌⊎◌, ℕ, ◌==◌, true, not, ◌&&◌, List, [], ◌∷◌, refl, ◌∙◌, subst, inl, inr, ⊎_elim}
use Rattle.std.proofs.lemmas.Bool.{eqb-true, cases_Bool}
use Rattle.std.proofs.lemmas.Bool.Decides.{eqb_tells}
use Rattle.mid_base.specs.declared.entries.Entry.{Entry}
use Rattle.mid_base.specs.declared.entries.Entry.TheVariants.{Took, Sent, Bounced, Owned, Judged, AbortSet, Aborted, Failed, Again, Told}
use Rattle.mid_base.specs.declared.host_spec.HostSpec.{HostSpec}
use Rattle.mid_base.specs.Past.{sent_for, attempt_of}
use Rattle.trace_model.specs.Devices.{has_begun}
use Rattle.trace_model.specs.Legal.{owed, EachStands}
use Rattle.trace_model.proofs.Stage.{Stage, idle, out, owned, aborting, settled, failing, own, stage, unsettled}
use Rattle.trace_model.proofs.Once.{Held, Fits, stands_fits, owed_of, and_left, and_right}
use Rattle.trace_model.proofs.OnceMore.{From, held_all}

-- a is the attempt of the stage, where it has one
abbrev pub IsOf : ℕ → Stage → Type 0
IsOf a idle = Unit {0}
IsOf a (out n) = n ≡ a
IsOf a (owned n) = n ≡ a
IsOf a (aborting n) = n ≡ a
IsOf a (settled n) = n ≡ a
IsOf a (failing n) = n ≡ a

own_is : (a m : ℕ) (x : Stage) → IsOf a x → IsOf a (own m x)
own_is a m idle h = h
own_is a m (out n) h = ⊎_elim (λ yes. rw yes h) (λ no. rw no h) (cases_Bool (m == n))
own_is a m (owned n) h = h
own_is a m (aborting n) h = h
own_is a m (settled n) h = h
own_is a m (failing n) h = h

from_is : (a m : ℕ) (x : Stage) → From x m → IsOf a x → m ≡ a
from_is a m x (inl e) h = subst (IsOf a) e h
from_is a m x (inr e) h = subst (IsOf a) e h

judged_is : (c m d : ℕ) (P : List Entry) → d ≡ c → (has_begun P ≡ true) ⊎ ((unsettled m P ≡ true) × (sent_for m P ≡ d)) → not (has_begun P) ≡ true → Held c P → IsOf (attempt_of c P) (stage c P) → m ≡ attempt_of c P
judged_is c m d P e (inl b) n held h = absurd (cc (subst (λ v. not v ≡ true) b n))
judged_is c m d P e (inr u) n held h = subst (IsOf (attempt_of c P)) ((held.0 m (u.1 ∙ e)).1 u.0) h

numbered_step : (c : ℕ) (P : List Entry) (e : Entry) → Fits c P e → Held c P → IsOf (attempt_of c P) (stage c P) → IsOf (attempt_of c (e ∷ P)) (stage c (e ∷ P))
numbered_step c P (Took d) f held h = ⊎_elim (λ yes. rw yes tt) (λ no. rw no h) (cases_Bool (d.0 == c))
numbered_step c P (Sent d m t) f held h = ⊎_elim (λ yes. rw yes refl) (λ no. rw no h) (cases_Bool (d.0 == c))
numbered_step c P (Bounced d m why) f held h = ⊎_elim (λ yes. rw yes tt) (λ no. rw no h) (cases_Bool (d.0 == c))
numbered_step c P (Owned m by) f held h = own_is (attempt_of c P) m.0 (stage c P) h
numbered_step c P (Judged d m x) f held h = ⊎_elim
    (λ yes. rw yes (judged_is c m.0 d.0 P (eqb-true d.0 c (and_left (d.0 == c) _ yes)) f (and_right (d.0 == c) _ yes) held h))
    (λ no. rw no h)
    (cases_Bool ((d.0 == c) && not (has_begun P)))
numbered_step c P (AbortSet d m) f held h = ⊎_elim (λ yes. rw yes.0 (subst (IsOf (attempt_of c P)) ((held.0 m.0 (f.1 ∙ yes.1)).1 f.0) h)) (λ no. rw no.0 h) (eqb_tells d.0 c)
numbered_step c P (Aborted d m ok) f held h = ⊎_elim (λ yes. rw yes.0 (subst (IsOf (attempt_of c P)) ((held.0 m.0 (f.1 ∙ yes.1)).2 f.0) h)) (λ no. rw no.0 h) (eqb_tells d.0 c)
numbered_step c P (Failed d m x) f held h = ⊎_elim (λ yes. rw yes.0 (from_is (attempt_of c P) m.0 (stage c P) (f yes.1) h)) (λ no. rw no.0 h) (eqb_tells d.0 c)
numbered_step c P (Again d x) f held h = ⊎_elim (λ yes. rw yes tt) (λ no. rw no h) (cases_Bool (d.0 == c))
numbered_step c P (Told d a) f held h = ⊎_elim (λ yes. rw yes tt) (λ no. rw no h) (cases_Bool (d.0 == c))
numbered_step c P e f held h = h

pub fits_all : (s : HostSpec) (c : ℕ) (P : List Entry) (e : Entry) → EachStands s (e ∷ P) → Fits c P e
fits_all s c P e each = stands_fits s c P (owed s P) e (owed_of s c P each.1) each.0 (held_all s c P each.1)

pub numbered : (s : HostSpec) (c : ℕ) (P : List Entry) → EachStands s P → IsOf (attempt_of c P) (stage c P)
numbered s c [] each = tt
numbered s c (e ∷ P) each = numbered_step c P e (fits_all s c P e each) (held_all s c P each.1) (numbered s c P each.1)
