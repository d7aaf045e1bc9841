-- How an entry changes the held attempts.
use Rattle.std.proofs.Common.{◌≡◌, ◌≢◌, ℕ, ◌==◌, ◌&&◌, ◌⊎◌, ◌↔◌, Bool, true, false, if◌then◌else◌, List, [], ◌∷◌, Option, None, Some, refl, sym, ap, ◌∙◌, subst, inl, inr, ⊎_elim, eq-eqb}
use Rattle.std.specs.Prelude.{option_map}
use Rattle.std.proofs.lemmas.Bool.Decides.{eqb_tells}
use Rattle.mid_base.specs.declared.names.Attempt.{Attempt}
use Rattle.mid_base.specs.declared.host_spec.CmdSpec.{CmdSpec}
use Rattle.mid_base.specs.declared.host_spec.HostSpec.{HostSpec}
use Rattle.mid_base.specs.declared.entries.Entry.{Entry}
use Rattle.mid_base.specs.declared.entries.Entry.TheVariants.{Sent, Bounced, Ready, DoneSaid, Aborted, Act}
use Rattle.mid_base.specs.Past.{ticks, was_sent}
use Rattle.host_template.specs.Standing.{Before}
use Rattle.adapter_tables.specs.declared.held.Held.{Held}
use Rattle.adapter_tables.specs.Held.{held, without, is_attempt, due_from, lets_go, sent_as}
use Rattle.adapter_tables.specs.Ties.{HeldIs}

kept_by : (p : Held → Bool) (o : Option Held) (h : Held) → without p o ≡ Some h → (o ≡ Some h) × (p h ≡ false)
kept_by p None h e = absurd (cc e)
kept_by p (Some g) h e = by (p g) refl e
  where
    by : (t : Bool) → p g ≡ t → (if t then None else Some g) ≡ Some h → (Some g ≡ Some h) × (p h ≡ false)
    by true q d = absurd (cc d)
    by false q d = (d, let s : g ≡ h = cc d in subst (λ (y : Held). p y ≡ false) s q)

-- those that p picks are let go
pub held_without : (p : Held → Bool) (f : ℕ → Option Held) (K L : Held → Type 0) → ((h : Held) → L h ↔ (K h × (p h ≡ false)))
    → HeldIs f K → HeldIs (λ n. without p (f n)) L
held_without p f K L same is n h = (
  (λ e. let k = kept_by p (f n) h e in let i = (is n h).0 k.0 in (i.0, (same h).1 (i.1, k.1))),
  (λ i. let k = (same h).0 i.1 in rw ((is n h).1 (i.0, k.0)) (rw k.1 refl)),
)

-- nothing is let go
pub held_same : (p : Held → Bool) (f : ℕ → Option Held) (K : Held → Type 0) → ((h : Held) → p h ≡ false) → HeldIs f K → HeldIs (λ n. without p (f n)) K
held_same p f K none is = held_without p f K K (λ h. ((λ k. (k, none h)), (λ k. k.0))) is

from_changed : (g : Held → Held) (o : Option Held) (h : Held) → option_map g o ≡ Some h → (x : Held) × (o ≡ Some x) × (g x ≡ h)
from_changed g None h e = absurd (cc e)
from_changed g (Some x) h e = (x, refl, cc e)

-- each is changed, and keeps its number
pub held_changed : (g : Held → Held) → ((h : Held) → (g h).n.0 ≡ h.n.0) → (f : ℕ → Option Held) (K L : Held → Type 0)
    → ((h : Held) → L h ↔ ((x : Held) × K x × (g x ≡ h))) → HeldIs f K → HeldIs (λ n. option_map g (f n)) L
held_changed g number f K L same is n h = (
  (λ e. let k = from_changed g (f n) h e in let i = (is n k.0).0 k.1 in
      (subst (λ (y : Held). y.n.0 ≡ n) k.2 (number k.0 ∙ i.0), (same h).1 (k.0, i.1, k.2))),
  (λ i. let k = (same h).0 i.1 in
      ap (option_map g) ((is n k.0).1 (sym (number k.0) ∙ (ap (λ (y : Held). y.n.0) k.2 ∙ i.0), k.1)) ∙ ap (λ (y : Held). Some y) k.2),
)

-- one more
pub held_sent : (m : ℕ) (x : Held) (f : ℕ → Option Held) (K L : Held → Type 0) → ((h : Held) → L h ↔ (K h ⊎ (x ≡ h))) → x.n.0 ≡ m → f m ≡ None
    → HeldIs f K → HeldIs (λ n. if m == n then Some x else f n) L
held_sent m x f K L same e none is n h = elim (eqb_tells m n) [
  | inl eq ↦ (
    (λ q. let it : x ≡ h = cc (rw eq.0 at q) in (ap (λ (y : Held). y.n.0) (sym it) ∙ (e ∙ eq.1), (same h).1 (inr it))),
    (λ i. ⊎_elim
        (λ old. absurd (cc (sym ((is n h).1 (i.0, old)) ∙ subst (λ (k : ℕ). f k ≡ None) eq.1 none)))
        (λ new. rw eq.0 (ap (λ (y : Held). Some y) new))
        ((same h).0 i.1)),
  )
  | inr ne ↦ (
    (λ q. let i = (is n h).0 (rw ne.0 at q) in (i.0, (same h).1 (inl i.1))),
    (λ i. ⊎_elim
        (λ old. rw ne.0 ((is n h).1 (i.0, old)))
        (λ new. absurd (ne.1 (sym e ∙ (ap (λ (y : Held). y.n.0) new ∙ i.0))))
        ((same h).0 i.1)),
  )
]

-- an attempt that wasn't sent isn't held
pub fresh : (s : HostSpec) (b : Before) (P : List Entry) (n : ℕ) → was_sent n P ≡ false → held s b P n ≡ None
fresh s b [] n e = refl
fresh s b (Sent c m t ∷ P) n e = elim (eqb_tells m.0 n) [
  | inl eq ↦ absurd (cc (rw eq.0 at e))
  | inr ne ↦ rw ne.0 (fresh s b P n (rw ne.0 at e))
]
fresh s b (Bounced c m why ∷ P) n e = ap (without (is_attempt m.0)) (fresh s b P n e)
fresh s b (Ready m a ∷ P) n e = ap (without (is_attempt m.0)) (fresh s b P n e)
fresh s b (DoneSaid m ∷ P) n e = ap (option_map (due_from m.0 (ticks P))) (fresh s b P n e)
fresh s b (Aborted c m ok ∷ P) n e = ap (without (λ h. ok && is_attempt m.0 h)) (fresh s b P n e)
fresh s b (Act level scope ok ∷ P) n e = ap (without (λ h. ok && lets_go level scope P h)) (fresh s b P n e)
fresh s b (_ ∷ P) n e = fresh s b P n e

sent_number : (s : HostSpec) (b : Before) (P : List Entry) (m : Attempt) (o : Option CmdSpec) → without (is_attempt m.0) (option_map (sent_as s b P m) o) ≡ None
sent_number s b P m None = refl
sent_number s b P m (Some k) = rw (eq-eqb m.0 m.0 refl) refl

pub none_without : (p : Held → Bool) (o : Option Held) → ((h : Held) → o ≡ Some h → p h ≡ false) → without p o ≡ o
none_without p None off = refl
none_without p (Some h) off = rw (off h refl) refl

other_number : (m n : ℕ) (h : Held) → m ≢ n → h.n.0 ≡ n → h.n.0 == m ≡ false
other_number m n h ne e = elim (eqb_tells h.n.0 m) [ inl eq ↦ absurd (ne (sym eq.1 ∙ e)) | inr d ↦ d.0 ]

-- an attempt that isn't held may be let go, which changes nothing
pub held_fresh : (m : ℕ) (f : ℕ → Option Held) (K L : Held → Type 0) → ((h : Held) → L h ↔ (K h × (is_attempt m h ≡ false))) → f m ≡ None → HeldIs f K → HeldIs f L
held_fresh m f K L same none is n h = (
  (λ e. let i = (is n h).0 e in (i.0, (same h).1 (i.1, off i.0 e))),
  (λ i. (is n h).1 (i.0, ((same h).0 i.1).0)),
)
  where
    off : h.n.0 ≡ n → f n ≡ Some h → h.n.0 == m ≡ false
    off q e = elim (eqb_tells h.n.0 m) [
      | inl eq ↦ absurd (cc (sym none ∙ (ap f (sym eq.1 ∙ q) ∙ e)))
      | inr d ↦ d.0
    ]

-- a bounced one isn't held
pub held_bounced : (s : HostSpec) (b : Before) (P : List Entry) (m : Attempt) (o : Option CmdSpec) (K : Held → Type 0) → was_sent m.0 P ≡ false → HeldIs (held s b P) K
    → (n : ℕ) → without (is_attempt m.0) (if m.0 == n then option_map (sent_as s b P m) o else held s b P n) ≡ held s b P n
held_bounced s b P m o K none is n = elim (eqb_tells m.0 n) [
  | inl eq ↦ rw eq.0 (sent_number s b P m o ∙ sym (fresh s b P n (subst (λ (k : ℕ). was_sent k P ≡ false) eq.1 none)))
  | inr ne ↦ rw ne.0 (none_without (is_attempt m.0) (held s b P n) (λ h e. other_number m.0 n h ne.1 ((is n h).0 e).0))
]
