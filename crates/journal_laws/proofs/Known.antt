-- What the stage of a command says of its attempt.
use Rattle.std.proofs.Common.{eq-eqb, ◌≡◌, ◌⊎◌, ℕ, ◌+◌, ◌<◌, ◌≤◌, ◌==◌, Bool, true, false, not, ◌&&◌, if◌then◌else◌, List, [], ◌∷◌, is_some, refl, sym, ◌∙◌, subst, arith, inl, inr, ⊎_elim}
use Rattle.std.proofs.lemmas.Bool.{eqb-true, cases_Bool}
use Rattle.std.proofs.lemmas.Bool.Decides.{eqb_tells, leb_tells}
use Rattle.mid_base.specs.declared.names.CmdId.{CmdId}
use Rattle.mid_base.specs.declared.names.Attempt.{Attempt}
use Rattle.mid_base.specs.declared.names.Tag.{Tag}
use Rattle.mid_base.specs.declared.answers.By.{By}
use Rattle.mid_base.specs.declared.entries.Entry.{Entry}
use Rattle.mid_base.specs.declared.entries.Entry.TheVariants.{Took, Sent, Bounced, Owned, Judged, AbortSet, Aborted, Failed, Again, Told}
use Rattle.mid_base.specs.declared.host_spec.HostSpec.{HostSpec}
use Rattle.mid_base.specs.Past.{sent_for}
use Rattle.trace_model.specs.Attempts.{sends, is_open, owner, is_settled}
use Rattle.trace_model.specs.Devices.{has_begun}
use Rattle.trace_model.specs.Legal.{EachStands}
use Rattle.trace_model.proofs.Stage.{Stage, idle, out, owned, aborting, settled, failing, own, stage, unsettled}
use Rattle.trace_model.proofs.Once.{Held, Fits, and_left, and_right}
use Rattle.trace_model.proofs.OnceMore.{From, held_all}
use Rattle.journal_laws.proofs.Numbered.{fits_all}

-- n was sent for c
pub record IsSent (c n : ℕ) (P : List Entry) : Type 0 where
  pub sent : sent_for n P ≡ c
  pub old : n ≤ sends P

-- and is settled
pub record IsDone (c n : ℕ) (P : List Entry) : Type 0 where
  pub out : IsSent c n P
  pub settled : is_settled n P ≡ true

abbrev pub Knows : ℕ → List Entry → Stage → Type 0
Knows c P idle = Unit {0}
Knows c P (out n) = IsSent c n P
Knows c P (owned n) = IsSent c n P
Knows c P (aborting n) = IsDone c n P
Knows c P (settled n) = IsDone c n P
Knows c P (failing n) = IsDone c n P

-- an entry that leaves what was sent and settled
keeps : (c : ℕ) (P Q : List Entry) (x : Stage) → ((n : ℕ) → IsSent c n P → IsSent c n Q) → ((n : ℕ) → IsSent c n P → is_settled n P ≡ true → is_settled n Q ≡ true) → Knows c P x → Knows c Q x
keeps c P Q idle f g h = tt
keeps c P Q (out n) f g h = f n h
keeps c P Q (owned n) f g h = f n h
keeps c P Q (aborting n) f g h = record { out = f n h.out; settled = g n h.out h.settled }
keeps c P Q (settled n) f g h = record { out = f n h.out; settled = g n h.out h.settled }
keeps c P Q (failing n) f g h = record { out = f n h.out; settled = g n h.out h.settled }

-- Sent
later : (c n : ℕ) (P : List Entry) (d : CmdId) (m : Attempt) (t : Tag) → m.0 ≡ sends P + 1 → IsSent c n P → IsSent c n (Sent d m t ∷ P)
later c n P d m t e h = ⊎_elim
    (λ yes. absurd (omega (arith, h.old, e, yes.1)))
    (λ no. record { sent = rw no.0 h.sent; old = omega (arith, h.old) })
    (eqb_tells m.0 n)

sent_knows : (c : ℕ) (P : List Entry) (d : CmdId) (m : Attempt) (t : Tag) → m.0 ≡ sends P + 1 → Knows c P (stage c P) → Knows c (Sent d m t ∷ P) (stage c (Sent d m t ∷ P))
sent_knows c P d m t e h = ⊎_elim
    (λ yes. rw yes.0 (record { sent = rw (eq-eqb m.0 m.0 refl) yes.1; old = omega (arith, e) }))
    (λ no. rw no.0 (keeps c P (Sent d m t ∷ P) (stage c P) (λ n. later c n P d m t e) (λ n s q. q) h))
    (eqb_tells d.0 c)

-- Owned
same_sent : (c n : ℕ) (P Q : List Entry) → sent_for n Q ≡ sent_for n P → sends Q ≡ sends P → IsSent c n P → IsSent c n Q
same_sent c n P Q e f h = record { sent = e ∙ h.sent; old = omega (arith, f, h.old) }

owned_settled : (n : ℕ) (P : List Entry) (m : Attempt) (by : By) → (m.0 ≡ n → ⊥) → is_settled n P ≡ true → is_settled n (Owned m by ∷ P) ≡ true
owned_settled n P m by other h = ⊎_elim (λ yes. absurd (other yes.1)) (λ no. rw no.0 h) (eqb_tells m.0 n)

-- the stage before is that of the attempt that becomes owned, or of another
own_knows : (c : ℕ) (P : List Entry) (m : Attempt) (by : By) (x : Stage) → (IsSent c m.0 P → x ≡ out m.0) → Knows c P x → Knows c (Owned m by ∷ P) (own m.0 x)
own_knows c P m by idle f h = tt
own_knows c P m by (out n) f h = ⊎_elim (λ yes. rw yes (same_sent c n P (Owned m by ∷ P) refl refl h)) (λ no. rw no (same_sent c n P (Owned m by ∷ P) refl refl h)) (cases_Bool (m.0 == n))
own_knows c P m by (owned n) f h = same_sent c n P (Owned m by ∷ P) refl refl h
own_knows c P m by (aborting n) f h = record {
  out = same_sent c n P (Owned m by ∷ P) refl refl h.out;
  settled = owned_settled n P m by (λ q. cc (f (subst (λ k. IsSent c k P) (sym q) h.out))) h.settled;
}
own_knows c P m by (settled n) f h = record {
  out = same_sent c n P (Owned m by ∷ P) refl refl h.out;
  settled = owned_settled n P m by (λ q. cc (f (subst (λ k. IsSent c k P) (sym q) h.out))) h.settled;
}
own_knows c P m by (failing n) f h = record {
  out = same_sent c n P (Owned m by ∷ P) refl refl h.out;
  settled = owned_settled n P m by (λ q. cc (f (subst (λ k. IsSent c k P) (sym q) h.out))) h.settled;
}

-- an entry that settles
more_settled : (b x : Bool) → x ≡ true → (if b then true else x) ≡ true
more_settled true x h = refl
more_settled false x h = h

of_stage : (c m : ℕ) (P : List Entry) (x : Stage) → From x m → Knows c P x → IsSent c m P
of_stage c m P x (inl e) h = subst (Knows c P) e h
of_stage c m P x (inr e) h = (subst (Knows c P) e h).out

now_done : (c : ℕ) (P Q : List Entry) (m : ℕ) → sent_for m Q ≡ sent_for m P → sends Q ≡ sends P → is_settled m Q ≡ true → IsSent c m P → IsDone c m Q
now_done c P Q m e f q h = record { out = same_sent c m P Q e f h; settled = q }

judged_sent : (c : ℕ) (P : List Entry) (d : CmdId) (m : Attempt) → d.0 ≡ c → (has_begun P ≡ true) ⊎ ((unsettled m.0 P ≡ true) × (sent_for m.0 P ≡ d.0)) → not (has_begun P) ≡ true → Held c P → Knows c P (stage c P) → IsSent c m.0 P
judged_sent c P d m e (inl b) n held h = absurd (cc (subst (λ v. not v ≡ true) b n))
judged_sent c P d m e (inr u) n held h = of_stage c m.0 P (stage c P) (inl ((held.0 m.0 (u.1 ∙ e)).1 u.0)) h

knows_step : (c : ℕ) (P : List Entry) (e : Entry) → Fits c P e → Held c P → Knows c P (stage c P) → Knows c (e ∷ P) (stage c (e ∷ P))
knows_step c P (Took d) f held h = ⊎_elim
    (λ yes. rw yes tt)
    (λ no. rw no (keeps c P (Took d ∷ P) (stage c P) (λ n. same_sent c n P (Took d ∷ P) refl refl) (λ n s q. q) h))
    (cases_Bool (d.0 == c))
knows_step c P (Sent d m t) f held h = sent_knows c P d m t f.1 h
knows_step c P (Bounced d m why) f held h = ⊎_elim
    (λ yes. rw yes tt)
    (λ no. rw no (keeps c P (Bounced d m why ∷ P) (stage c P) (λ n. same_sent c n P (Bounced d m why ∷ P) refl refl) (λ n s q. q) h))
    (cases_Bool (d.0 == c))
knows_step c P (Owned m by) f held h = own_knows c P m by (stage c P) (λ q. (held.0 m.0 q.sent).0 f) h
knows_step c P (Judged d m x) f held h = ⊎_elim
    (λ yes. rw yes (now_done c P (Judged d m x ∷ P) m.0 refl refl (rw (eq-eqb m.0 m.0 refl) refl)
    (judged_sent c P d m (eqb-true d.0 c (and_left (d.0 == c) _ yes)) f (and_right (d.0 == c) _ yes) held h)))
    (λ no. rw no (keeps c P (Judged d m x ∷ P) (stage c P) (λ n. same_sent c n P (Judged d m x ∷ P) refl refl) (λ n s q. more_settled (m.0 == n) (is_settled n P) q) h))
    (cases_Bool ((d.0 == c) && not (has_begun P)))
knows_step c P (AbortSet d m) f held h = ⊎_elim
    (λ yes. rw yes.0 (now_done c P (AbortSet d m ∷ P) m.0 refl refl (rw (eq-eqb m.0 m.0 refl) refl) (of_stage c m.0 P (stage c P) (inl ((held.0 m.0 (f.1 ∙ yes.1)).1 f.0)) h)))
    (λ no. rw no.0 (keeps c P (AbortSet d m ∷ P) (stage c P) (λ n. same_sent c n P (AbortSet d m ∷ P) refl refl) (λ n s q. more_settled (m.0 == n) (is_settled n P) q) h))
    (eqb_tells d.0 c)
knows_step c P (Aborted d m ok) f held h = ⊎_elim
    (λ yes. let known : IsDone c m.0 P = subst (Knows c P) ((held.0 m.0 (f.1 ∙ yes.1)).2 f.0) h in
    rw yes.0 (now_done c P (Aborted d m ok ∷ P) m.0 refl refl known.settled known.out))
    (λ no. rw no.0 (keeps c P (Aborted d m ok ∷ P) (stage c P) (λ n. same_sent c n P (Aborted d m ok ∷ P) refl refl) (λ n s q. q) h))
    (eqb_tells d.0 c)
knows_step c P (Failed d m x) f held h = ⊎_elim
    (λ yes. rw yes.0 (now_done c P (Failed d m x ∷ P) m.0 refl refl (rw (eq-eqb m.0 m.0 refl) refl) (of_stage c m.0 P (stage c P) (f yes.1) h)))
    (λ no. rw no.0 (keeps c P (Failed d m x ∷ P) (stage c P) (λ n. same_sent c n P (Failed d m x ∷ P) refl refl) (λ n s q. more_settled (m.0 == n) (is_settled n P) q) h))
    (eqb_tells d.0 c)
knows_step c P (Again d x) f held h = ⊎_elim
    (λ yes. rw yes tt)
    (λ no. rw no (keeps c P (Again d x ∷ P) (stage c P) (λ n. same_sent c n P (Again d x ∷ P) refl refl) (λ n s q. q) h))
    (cases_Bool (d.0 == c))
knows_step c P (Told d a) f held h = ⊎_elim
    (λ yes. rw yes tt)
    (λ no. rw no (keeps c P (Told d a ∷ P) (stage c P) (λ n. same_sent c n P (Told d a ∷ P) refl refl) (λ n s q. q) h))
    (cases_Bool (d.0 == c))
knows_step c P e f held h = keeps c P (e ∷ P) (stage c P) (λ n. same_sent c n P (e ∷ P) refl refl) (λ n s q. q) h

pub known : (s : HostSpec) (c : ℕ) (P : List Entry) → EachStands s P → Knows c P (stage c P)
known s c [] each = tt
known s c (e ∷ P) each = knows_step c P e (fits_all s c P e each) (held_all s c P each.1) (known s c P each.1)

-- an attempt with an owner was sent
within : (n : ℕ) (P : List Entry) → (sends P < n → is_open n P ≡ false) → is_open n P ≡ true → n ≤ sends P
within n P f o = ⊎_elim (λ le. le.1) (λ lt. absurd (cc (sym (f lt.1) ∙ o))) (leb_tells n (sends P))

pub open_old : (s : HostSpec) (n : ℕ) (P : List Entry) → EachStands s P → is_open n P ≡ true → n ≤ sends P
open_old s n P each o = within n P (λ lt. ((held_all s 0 P each).3 n lt).0) o

pub owner_old : (s : HostSpec) (n : ℕ) (P : List Entry) → EachStands s P → is_some (owner n P) ≡ true → n ≤ sends P
owner_old s n [] each h = cc h
owner_old s n (Owned m by ∷ P) each h = ⊎_elim
    (λ yes. subst (λ k. k ≤ sends P) yes.1 (open_old s m.0 P each.1 (fits_all s 0 P (Owned m by) each)))
    (λ no. owner_old s n P each.1 (rw no.0 at h))
    (eqb_tells m.0 n)
owner_old s n (Sent c m t ∷ P) each h = omega (arith, owner_old s n P each.1 h)
owner_old s n (e ∷ P) each h = owner_old s n P each.1 h
