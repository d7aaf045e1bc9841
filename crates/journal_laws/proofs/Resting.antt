-- What a command that isn't busy was last named by.
use Rattle.std.proofs.Common.{◌≡◌, ℕ, ◌==◌, true, if◌then◌else◌, List, [], ◌∷◌, sym, ◌∙◌, subst, inl, inr, ⊎_elim, Option, None, Some}
use Rattle.std.proofs.lemmas.Bool.{eqb-true, cases_Bool}
use Rattle.mid_base.specs.declared.names.CmdId.{CmdId}
use Rattle.mid_base.specs.declared.entries.Entry.{Entry}
use Rattle.mid_base.specs.declared.entries.Entry.TheVariants.{Took, Sent, Bounced, Judged, AbortSet, Aborted, Failed, Cleared, Sensed, Again, Told}
use Rattle.mid_base.specs.declared.host_spec.HostSpec.{HostSpec}
use Rattle.trace_model.specs.declared.standing.Standing.{Standing}
use Rattle.trace_model.specs.declared.standing.Standing.TheVariants.{New, Waits, Busy, Ended}
use Rattle.trace_model.specs.Attempts.{answer}
use Rattle.trace_model.specs.Commands.{standing, is_busy}
use Rattle.trace_model.specs.Recovery.{failed}
use Rattle.trace_model.specs.Flush.{last_own}
use Rattle.trace_model.specs.Legal.{owed, EachStands}
use Rattle.trace_model.proofs.Stage.{Stage, idle, owned, aborting, settled, failing, stage, has_failure}
use Rattle.trace_model.proofs.Once.{Under, Held, Fits, judge_fits}
use Rattle.trace_model.proofs.OnceMore.{From, held_all}
use Rattle.trace_model.proofs.After.{In}
use Rattle.journal_laws.proofs.Ways.{Way, way}
use Rattle.journal_laws.proofs.Numbered.{fits_all}

abbrev pub AtRest : Option Entry → Type 0
AtRest None = Unit {0}
AtRest (Some (Took c)) = Unit {0}
AtRest (Some (Bounced c n why)) = Unit {0}
AtRest (Some (Again c counted)) = Unit {0}
AtRest (Some e) = ⊥

abbrev pub Rests : Standing → Option Entry → Type 0
Rests New o = AtRest o
Rests Waits o = AtRest o
Rests x o = Unit {0}

busy_rests : (x : Standing) (o : Option Entry) → is_busy x ≡ true → Rests x o
busy_rests New o b = cc b
busy_rests Waits o b = cc b
busy_rests (Busy n t) o b = tt
busy_rests Ended o b = cc b

under_busy : (c : ℕ) (P : List Entry) (x : Stage) → stage c P ≡ x → (x ≡ idle → ⊥) → Under c P → is_busy (standing c P) ≡ true
under_busy c P x e isnt (inl i) = absurd (isnt (sym e ∙ i))
under_busy c P x e isnt (inr b) = b

named_busy : (c : ℕ) (P : List Entry) (d : CmdId) → In (failed P) d → Held c P → d.0 ≡ c → is_busy (standing c P) ≡ true
named_busy c P d h held q = under_busy c P (failing h.0) (held.1 h.0 (subst (λ k. has_failure k h.0 (failed P) ≡ true) q h.1)) (λ z. cc z) held.2

from_busy : (c m : ℕ) (P : List Entry) → From (stage c P) m → Under c P → is_busy (standing c P) ≡ true
from_busy c m P (inl s) u = under_busy c P (owned m) s (λ z. cc z) u
from_busy c m P (inr s) u = under_busy c P (settled m) s (λ z. cc z) u

-- an entry that names a command in its course, and doesn't begin or end an attempt of it
abbrev IsMid : ℕ → Entry → Type 0
IsMid c (Judged d m x) = d.0 ≡ c
IsMid c (AbortSet d m) = d.0 ≡ c
IsMid c (Aborted d m ok) = d.0 ≡ c
IsMid c (Failed d m x) = d.0 ≡ c
IsMid c (Cleared d level) = d.0 ≡ c
IsMid c (Sensed d m x) = d.0 ≡ c
IsMid c e = ⊥

mid_busy : (s : HostSpec) (c : ℕ) (P : List Entry) (e : Entry) → Fits c P e → Way s P (owed s P) e → Held c P → IsMid c e → is_busy (standing c P) ≡ true
mid_busy s c P (AbortSet d m) f k held q = under_busy c P (owned m.0) ((held.0 m.0 (f.1 ∙ q)).1 f.0) (λ z. cc z) held.2
mid_busy s c P (Aborted d m ok) f k held q = under_busy c P (aborting m.0) ((held.0 m.0 (f.1 ∙ q)).2 f.0) (λ z. cc z) held.2
mid_busy s c P (Failed d m x) f k held q = from_busy c m.0 P (f q) held.2
mid_busy s c P (Judged d m x) f (inl w) held q = let u = judge_fits s P d.0 m.0 x (answer m.0 P) w.1 in under_busy c P (owned m.0) ((held.0 m.0 (u.1 ∙ q)).1 u.0) (λ z. cc z) held.2
mid_busy s c P (Judged d m x) f (inr w) held q = ⊎_elim (λ h. named_busy c P d (m.0, h) held q) (λ h. cc h) w.1
mid_busy s c P (Cleared d level) f (inl w) held q = absurd w.1
mid_busy s c P (Cleared d level) f (inr w) held q = ⊎_elim (λ h. named_busy c P d h held q) (λ h. cc h) w.1
mid_busy s c P (Sensed d m x) f (inl w) held q = absurd w.1
mid_busy s c P (Sensed d m x) f (inr w) held q = ⊎_elim (λ h. named_busy c P d (m.0, h) held q) (λ h. cc h) w.1
mid_busy s c P e f k held q = absurd q

mid_rests : (c d : ℕ) (P : List Entry) (e : Entry) → (d ≡ c → is_busy (standing c P) ≡ true) → Rests (standing c P) (last_own c P) → Rests (standing c P) (if d == c then Some e else last_own c P)
mid_rests c d P e busy h = ⊎_elim (λ yes. busy_rests (standing c P) _ (busy (eqb-true d c yes))) (λ no. rw no h) (cases_Bool (d == c))

rests_step : (c : ℕ) (P : List Entry) (e : Entry) → (IsMid c e → is_busy (standing c P) ≡ true) → Rests (standing c P) (last_own c P) → Rests (standing c (e ∷ P)) (last_own c (e ∷ P))
rests_step c P (Took d) b h = ⊎_elim (λ yes. rw yes tt) (λ no. rw no h) (cases_Bool (d.0 == c))
rests_step c P (Sent d m t) b h = ⊎_elim (λ yes. rw yes tt) (λ no. rw no h) (cases_Bool (d.0 == c))
rests_step c P (Bounced d m why) b h = ⊎_elim (λ yes. rw yes tt) (λ no. rw no h) (cases_Bool (d.0 == c))
rests_step c P (Again d x) b h = ⊎_elim (λ yes. rw yes tt) (λ no. rw no h) (cases_Bool (d.0 == c))
rests_step c P (Told d a) b h = ⊎_elim (λ yes. rw yes tt) (λ no. rw no h) (cases_Bool (d.0 == c))
rests_step c P (Judged d m x) b h = mid_rests c d.0 P (Judged d m x) b h
rests_step c P (AbortSet d m) b h = mid_rests c d.0 P (AbortSet d m) b h
rests_step c P (Aborted d m ok) b h = mid_rests c d.0 P (Aborted d m ok) b h
rests_step c P (Failed d m x) b h = mid_rests c d.0 P (Failed d m x) b h
rests_step c P (Cleared d level) b h = mid_rests c d.0 P (Cleared d level) b h
rests_step c P (Sensed d m x) b h = mid_rests c d.0 P (Sensed d m x) b h
rests_step c P e b h = h

pub rests : (s : HostSpec) (c : ℕ) (P : List Entry) → EachStands s P → Rests (standing c P) (last_own c P)
rests s c [] each = tt
rests s c (e ∷ P) each = rests_step c P e
    (mid_busy s c P e (fits_all s c P e each) (way s P e each) (held_all s c P each.1))
    (rests s c P each.1)
