-- What looking back says of attempts, as entries that stand. P has the newest entry first.
use Rattle.std.proofs.Common.{◌≡◌, ℕ, ◌+◌, ◌≤◌, ◌==◌, true, List, [], ◌∷◌, ◌++◌, Some, refl, sym, ◌∙◌, ap, subst, inl, inr, ⊎_elim, arith}
use Rattle.std.proofs.lemmas.Bool.Decides.{eqb_tells}
use Rattle.mid_base.specs.declared.answers.By.{By}
use Rattle.mid_base.specs.declared.entries.Entry.{Entry}
use Rattle.mid_base.specs.declared.entries.Entry.TheVariants.{Sent, Bounced, Owned}
use Rattle.mid_base.specs.declared.host_spec.HostSpec.{HostSpec}
use Rattle.mid_base.specs.declared.names.Attempt.{Attempt}
use Rattle.mid_base.specs.declared.names.CmdId.{CmdId}
use Rattle.mid_base.specs.declared.names.Tag.{Tag}
use Rattle.mid_base.specs.Past.{was_sent, sent_for}
use Rattle.trace_model.specs.Attempts.{sends, is_open, owner}
use Rattle.trace_model.specs.Claims.{tag_for}
use Rattle.trace_model.specs.Legal.{owed, Stands, EachStands}
use Rattle.trace_model.proofs.Owes.{stands}
use Rattle.trace_model.proofs.Owners.{sent_number, owns_open, open_unowned}
use Rattle.trace_model.proofs.Permitted.{each_before}
use Rattle.host_words.specs.Journals.{In}
use Rattle.host_words.proofs.Owning.{same_attempt}
use Rattle.owner_laws.proofs.Turned.{in_place}

-- the entries that stand here
pub sent_stands : (s : HostSpec) (P : List Entry) (c : CmdId) (n : Attempt) (t : Tag) → Stands (owed s P) s P (Sent c n t) → n.0 ≡ sends P + 1
sent_stands s P c n t st = ⊎_elim (λ al. sent_number s P c.0 n.0 t.0 al) (λ f. absurd (⊎_elim (λ q. cc q) (λ q. cc q) f)) (stands s P (Sent c n t) st)

pub owned_stands : (s : HostSpec) (P : List Entry) (n : Attempt) (by : By) → Stands (owed s P) s P (Owned n by) → is_open n.0 P ≡ true
owned_stands s P n by st = ⊎_elim (λ al. owns_open n.0 by P al) (λ f. absurd (⊎_elim (λ q. cc q) (λ q. cc q) f)) (stands s P (Owned n by) st)

-- numbers
pub sends_both : (Q P : List Entry) → sends (Q ++ P) ≡ sends Q + sends P
sends_both [] P = omega arith
sends_both (Sent c m t ∷ Q) P = omega (arith, sends_both Q P)
sends_both (e ∷ Q) P = sends_both Q P

pub number_within : (s : HostSpec) (P : List Entry) (c : CmdId) (n : Attempt) (t : Tag) → EachStands s P → In (Sent c n t) P → (1 ≤ n.0) × (n.0 ≤ sends P)
number_within s P c n t each h =
    let p = in_place (Sent c n t) P h in
    let here = each_before s p.0 (Sent c n t ∷ p.1) (subst (EachStands s) p.2 each) in
    let number : n.0 ≡ sends p.1 + 1 = sent_stands s p.1 c n t here.0 in
    let all : sends P ≡ sends p.0 + (sends p.1 + 1) = ap sends p.2 ∙ sends_both p.0 (Sent c n t ∷ p.1) in
    (omega (arith, number), omega (arith, number, all))

pub number_sent : (s : HostSpec) (P : List Entry) (n : Attempt) → EachStands s P → 1 ≤ n.0 → n.0 ≤ sends P → (c : CmdId) × (t : Tag) × In (Sent c n t) P
number_sent s [] n each low high = absurd (omega (arith, low, high))
number_sent s (Sent c m t ∷ P) n each low high = ⊎_elim
    (λ yes. (c, t, inl (ap (λ (k : Attempt). Sent c k t) (sym (same_attempt m n yes.1)))))
    (λ no. let number : m.0 ≡ sends P + 1 = sent_stands s P c m t each.0 in
    let r = number_sent s P n each.1 low (omega (arith, number, high, no.1)) in (r.0, r.1, inr r.2))
    (eqb_tells m.0 n.0)
number_sent s (e ∷ P) n each low high = let r = number_sent s P n each.1 low high in (r.0, r.1, inr r.2)

-- each number is sent once
sent_above : (s : HostSpec) (P : List Entry) (e : Entry) (c d : CmdId) (n : Attempt) (t u : Tag) → Stands (owed s P) s P e → EachStands s P → Sent c n t ≡ e → In (Sent d n u) P → ⊥
sent_above s P e c d n t u st each p j =
    let number : n.0 ≡ sends P + 1 = sent_stands s P c n t (subst (Stands (owed s P) s P) (sym p) st) in
    let within : n.0 ≤ sends P = (number_within s P d n u each j).1 in
    omega (arith, number, within)

pub sent_once : (s : HostSpec) (P : List Entry) (c d : CmdId) (n : Attempt) (t u : Tag) → EachStands s P → In (Sent c n t) P → In (Sent d n u) P → Sent c n t ≡ Sent d n u
sent_once s [] c d n t u each h k = absurd h
sent_once s (e ∷ P) c d n t u each (inl p) (inl q) = p ∙ sym q
sent_once s (e ∷ P) c d n t u each (inl p) (inr j) = absurd (sent_above s P e c d n t u each.0 each.1 p j)
sent_once s (e ∷ P) c d n t u each (inr i) (inl q) = absurd (sent_above s P e d c n u t each.0 each.1 q i)
sent_once s (e ∷ P) c d n t u each (inr i) (inr j) = sent_once s P c d n t u each.1 i j

pub same_command : (c d : CmdId) (n m : Attempt) (t u : Tag) → Sent c n t ≡ Sent d m u → c ≡ d
same_command c d n m t u e = cc

pub same_tag : (c d : CmdId) (n m : Attempt) (t u : Tag) → Sent c n t ≡ Sent d m u → t ≡ u
same_tag c d n m t u e = cc

-- sent
pub was_sent_in : (n : Attempt) (P : List Entry) → was_sent n.0 P ≡ true → (c : CmdId) × In (Sent c n (tag_for n.0 P)) P
was_sent_in n [] h = cc h
was_sent_in n (Sent c m t ∷ P) h = ⊎_elim
    (λ yes. (c, rw yes.0 (inl (ap (λ (k : Attempt). Sent c k t) (sym (same_attempt m n yes.1))))))
    (λ no. let r = was_sent_in n P (rw no.0 at h) in
    let same : tag_for n.0 (Sent c m t ∷ P) ≡ tag_for n.0 P = rw no.0 refl in
    (r.0, inr (subst (λ (u : Tag). In (Sent r.0 n u) P) (sym same) r.1)))
    (eqb_tells m.0 n.0)
was_sent_in n (e ∷ P) h = let r = was_sent_in n P h in (r.0, inr r.1)

pub in_was_sent : (c : CmdId) (n : Attempt) (t : Tag) (P : List Entry) → In (Sent c n t) P → was_sent n.0 P ≡ true
in_was_sent c n t [] h = absurd h
in_was_sent c n t (Sent d m u ∷ P) (inl e) = let same : n.0 ≡ m.0 = cc in rw same (rw (eqb_itself m.0) refl)
  where
    eqb_itself : (k : ℕ) → (k == k) ≡ true
    eqb_itself k = ⊎_elim (λ yes. yes.0) (λ no. absurd (no.1 refl)) (eqb_tells k k)
in_was_sent c n t (Sent d m u ∷ P) (inr i) = ⊎_elim (λ yes. rw yes.0 refl) (λ no. rw no.0 (in_was_sent c n t P i)) (eqb_tells m.0 n.0)
in_was_sent c n t (e ∷ P) (inl q) = cc q
in_was_sent c n t (e ∷ P) (inr i) = in_was_sent c n t P i

pub open_was_sent : (n : ℕ) (P : List Entry) → is_open n P ≡ true → was_sent n P ≡ true
open_was_sent n [] h = cc h
open_was_sent n (Sent c m t ∷ P) h = ⊎_elim (λ yes. rw yes.0 refl) (λ no. rw no.0 (open_was_sent n P (rw no.0 at h))) (eqb_tells m.0 n)
open_was_sent n (Bounced c m why ∷ P) h = ⊎_elim (λ yes. cc (rw yes.0 at h)) (λ no. open_was_sent n P (rw no.0 at h)) (eqb_tells m.0 n)
open_was_sent n (Owned m by ∷ P) h = ⊎_elim (λ yes. cc (rw yes.0 at h)) (λ no. open_was_sent n P (rw no.0 at h)) (eqb_tells m.0 n)
open_was_sent n (e ∷ P) h = open_was_sent n P h

pub tag_is : (s : HostSpec) (P : List Entry) (c : CmdId) (n : Attempt) (t : Tag) → EachStands s P → In (Sent c n t) P → tag_for n.0 P ≡ t
tag_is s P c n t each h =
    let r = was_sent_in n P (in_was_sent c n t P h) in
    same_tag r.0 c n n (tag_for n.0 P) t (sent_once s P r.0 c n (tag_for n.0 P) t each r.1 h)

sent_for_in : (n : Attempt) (P : List Entry) → was_sent n.0 P ≡ true → (c : CmdId) × (t : Tag) × In (Sent c n t) P × (sent_for n.0 P ≡ c.0)
sent_for_in n [] h = cc h
sent_for_in n (Sent c m t ∷ P) h = ⊎_elim
    (λ yes. (c, t, inl (ap (λ (k : Attempt). Sent c k t) (sym (same_attempt m n yes.1))), rw yes.0 refl))
    (λ no. let r = sent_for_in n P (rw no.0 at h) in
    let same : sent_for n.0 (Sent c m t ∷ P) ≡ sent_for n.0 P = rw no.0 refl in
    (r.0, r.1, inr r.2, same ∙ r.3))
    (eqb_tells m.0 n.0)
sent_for_in n (e ∷ P) h = let r = sent_for_in n P h in (r.0, r.1, inr r.2, r.3)

pub command_is : (s : HostSpec) (P : List Entry) (c : CmdId) (n : Attempt) (t : Tag) → EachStands s P → In (Sent c n t) P → sent_for n.0 P ≡ c.0
command_is s P c n t each h =
    let r = sent_for_in n P (in_was_sent c n t P h) in
    r.3 ∙ ap (λ (k : CmdId). k.0) (same_command r.0 c n n r.1 t (sent_once s P r.0 c n r.1 t each r.2 h))

-- owned
pub owner_in : (n : Attempt) (by : By) (P : List Entry) → owner n.0 P ≡ Some by → In (Owned n by) P
owner_in n by [] h = cc h
owner_in n by (Owned m b ∷ P) h = ⊎_elim
    (λ yes. inl (named m n b by yes.1 (rw yes.0 at h)))
    (λ no. inr (owner_in n by P (rw no.0 at h)))
    (eqb_tells m.0 n.0)
  where
    named : (m n : Attempt) (b by : By) → m.0 ≡ n.0 → Some b ≡ Some by → Owned n by ≡ Owned m b
    named m n b by e f = let same : m ≡ n = same_attempt m n e in cc
owner_in n by (e ∷ P) h = inr (owner_in n by P h)

pub in_owner : (s : HostSpec) (n : Attempt) (by : By) (P : List Entry) → EachStands s P → In (Owned n by) P → owner n.0 P ≡ Some by
in_owner s n by [] each h = absurd h
in_owner s n by (Owned m b ∷ P) each (inl e) = let same : m.0 ≡ n.0 = cc in ⊎_elim (λ yes. rw yes.0 (cc)) (λ no. absurd (no.1 same)) (eqb_tells m.0 n.0)
in_owner s n by (Owned m b ∷ P) each (inr i) = let old = in_owner s n by P each.1 i in ⊎_elim
    (λ yes. let was : is_open n.0 P ≡ true = subst (λ (k : ℕ). is_open k P ≡ true) yes.1 (owned_stands s P m b each.0) in cc (sym old ∙ open_unowned s P n.0 each.1 was))
    (λ no. rw no.0 old)
    (eqb_tells m.0 n.0)
in_owner s n by (e ∷ P) each (inl q) = cc q
in_owner s n by (e ∷ P) each (inr i) = in_owner s n by P each.1 i

-- who is owned was sent before
pub owned_was_sent : (s : HostSpec) (P : List Entry) (n : Attempt) (by : By) → EachStands s (Owned n by ∷ P) → (c : CmdId) × In (Sent c n (tag_for n.0 P)) P
owned_was_sent s P n by each = was_sent_in n P (open_was_sent n.0 P (owned_stands s P n by each.0))
