-- A busy command is busy with its last attempt, which was sent for it.
use Rattle.std.proofs.Common.{eq-eqb, ◌≡◌, ℕ, ◌+◌, ◌≤◌, ◌==◌, true, false, List, [], ◌∷◌, refl, arith, ⊎_elim, subst, sym}
use Rattle.std.proofs.lemmas.Bool.Decides.{eqb_tells}
use Rattle.mid_base.specs.declared.names.Attempt.{Attempt}
use Rattle.mid_base.specs.declared.names.CmdId.{CmdId}
use Rattle.mid_base.specs.declared.names.Tag.{Tag}
use Rattle.mid_base.specs.declared.entries.Entry.{Entry}
use Rattle.mid_base.specs.declared.entries.Entry.TheVariants.{Took, Sent, Bounced, Again, Told}
use Rattle.mid_base.specs.declared.host_spec.HostSpec.{HostSpec}
use Rattle.mid_base.specs.Past.{was_sent, sent_for, attempt_of}
use Rattle.trace_model.specs.declared.standing.Standing.TheVariants.{Busy}
use Rattle.trace_model.specs.Attempts.{sends}
use Rattle.trace_model.specs.Commands.{standing, is_busy}
use Rattle.trace_model.specs.Legal.{EachStands}
use Rattle.trace_model.proofs.Owes.{stands}
use Rattle.trace_model.proofs.Owners.{sent_number}

pub busy_tag : (c : ℕ) (P : List Entry) → is_busy (standing c P) ≡ true → (t : Tag) × (standing c P ≡ Busy (record { 0 = attempt_of c P }) t)
busy_tag c [] b = cc b
busy_tag c (Sent d m t ∷ P) b = ⊎_elim (λ yes. rw yes.0 (t, refl)) (λ no. rw no.0 (busy_tag c P (rw no.0 at b))) (eqb_tells d.0 c)
busy_tag c (Took d ∷ P) b = ⊎_elim (λ yes. absurd (cc (rw yes.0 at b))) (λ no. rw no.0 (busy_tag c P (rw no.0 at b))) (eqb_tells d.0 c)
busy_tag c (Bounced d m why ∷ P) b = ⊎_elim (λ yes. absurd (cc (rw yes.0 at b))) (λ no. rw no.0 (busy_tag c P (rw no.0 at b))) (eqb_tells d.0 c)
busy_tag c (Again d x ∷ P) b = ⊎_elim (λ yes. absurd (cc (rw yes.0 at b))) (λ no. rw no.0 (busy_tag c P (rw no.0 at b))) (eqb_tells d.0 c)
busy_tag c (Told d a ∷ P) b = ⊎_elim (λ yes. absurd (cc (rw yes.0 at b))) (λ no. rw no.0 (busy_tag c P (rw no.0 at b))) (eqb_tells d.0 c)
busy_tag c (e ∷ P) b = busy_tag c P b

next_number : (s : HostSpec) (P : List Entry) (d : CmdId) (m : Attempt) (t : Tag) → EachStands s (Sent d m t ∷ P) → m.0 ≡ sends P + 1
next_number s P d m t each = ⊎_elim (λ al. sent_number s P d.0 m.0 t.0 al) (λ f. absurd (⊎_elim (λ q. cc q) (λ q. cc q) f)) (stands s P (Sent d m t) each.0)

last_below : (s : HostSpec) (c : ℕ) (P : List Entry) → EachStands s P → attempt_of c P ≤ sends P
last_below s c [] each = omega arith
last_below s c (Sent d m t ∷ P) each =
    let number = next_number s P d m t each in
    ⊎_elim (λ yes. rw yes.0 (omega (arith, number))) (λ no. rw no.0 (more (attempt_of c P) (sends P) (last_below s c P each.1))) (eqb_tells d.0 c)
  where
    more : (a b : ℕ) → a ≤ b → a ≤ b + 1
    more a b h = omega (arith, h)
last_below s c (e ∷ P) each = last_below s c P each.1

-- a busy command's last attempt was sent, and for it
abbrev pub WasSent : ℕ → List Entry → Type 0
WasSent c P = (was_sent (attempt_of c P) P ≡ true) × (sent_for (attempt_of c P) P ≡ c)

newer : (s : HostSpec) (c : ℕ) (P : List Entry) (d : CmdId) (m : Attempt) (t : Tag) → EachStands s (Sent d m t ∷ P) → (m.0 == attempt_of c P) ≡ false
newer s c P d m t each = ⊎_elim
    (λ yes. absurd (clash m.0 (attempt_of c P) (sends P) yes.1 (next_number s P d m t each) (last_below s c P each.1)))
    (λ no. no.0)
    (eqb_tells m.0 (attempt_of c P))
  where
    clash : (m a k : ℕ) → m ≡ a → m ≡ k + 1 → a ≤ k → ⊥
    clash m a k e f h = omega (arith, e, f, h)

still_sent : (c : ℕ) (P : List Entry) (d : CmdId) (m : Attempt) (t : Tag) → attempt_of c (Sent d m t ∷ P) ≡ attempt_of c P → (m.0 == attempt_of c P) ≡ false → WasSent c P → WasSent c (Sent d m t ∷ P)
still_sent c P d m t same new h = subst (λ (k : ℕ). (was_sent k (Sent d m t ∷ P) ≡ true) × (sent_for k (Sent d m t ∷ P) ≡ c)) (sym same) (rw new h)

pub busy_sent : (s : HostSpec) (c : ℕ) (P : List Entry) → EachStands s P → is_busy (standing c P) ≡ true → WasSent c P
busy_sent s c [] each b = cc b
busy_sent s c (Sent d m t ∷ P) each b = ⊎_elim
    (λ yes. rw (yes.0, eq-eqb m.0 m.0 refl) (refl, yes.1))
    (λ no. still_sent c P d m t (rw no.0 refl) (newer s c P d m t each) (busy_sent s c P each.1 (rw no.0 at b)))
    (eqb_tells d.0 c)
busy_sent s c (Took d ∷ P) each b = ⊎_elim (λ yes. absurd (cc (rw yes.0 at b))) (λ no. busy_sent s c P each.1 (rw no.0 at b)) (eqb_tells d.0 c)
busy_sent s c (Bounced d m why ∷ P) each b = ⊎_elim (λ yes. absurd (cc (rw yes.0 at b))) (λ no. busy_sent s c P each.1 (rw no.0 at b)) (eqb_tells d.0 c)
busy_sent s c (Again d x ∷ P) each b = ⊎_elim (λ yes. absurd (cc (rw yes.0 at b))) (λ no. busy_sent s c P each.1 (rw no.0 at b)) (eqb_tells d.0 c)
busy_sent s c (Told d a ∷ P) each b = ⊎_elim (λ yes. absurd (cc (rw yes.0 at b))) (λ no. busy_sent s c P each.1 (rw no.0 at b)) (eqb_tells d.0 c)
busy_sent s c (e ∷ P) each b = busy_sent s c P each.1 b
