-- A claim that waits has its cause. P has the newest entry first.
use Rattle.std.proofs.Common.{◌≡◌, ℕ, Bool, true, false, ◌&&◌, cond, List, [], ◌∷◌, ◌++◌, reverse, refl, sym, ap, subst, inl, inr, ⊎_elim}
use Rattle.std.proofs.lemmas.Bool.{and_parts}
use Rattle.std.proofs.lemmas.Bool.Decides.{eqb_tells}
use Rattle.mid_base.specs.declared.answers.By.{By}
use Rattle.mid_base.specs.declared.answers.By.TheVariants.{Answer as ByAnswer, Expiry as ByExpiry}
use Rattle.mid_base.specs.declared.entries.Entry.{Entry}
use Rattle.mid_base.specs.declared.entries.Entry.TheVariants.{Sent, Bounced, Ready, Due, Owned}
use Rattle.mid_base.specs.declared.host_spec.HostSpec.{HostSpec}
use Rattle.mid_base.specs.declared.names.Attempt.{Attempt}
use Rattle.mid_base.specs.declared.names.CmdId.{CmdId}
use Rattle.mid_base.specs.declared.names.Tag.{Tag}
use Rattle.trace_model.specs.Attempts.{attempts, is_open, is_answered, is_due}
use Rattle.trace_model.specs.Claims.{tag_for, claims_of, claims_among, waiting_claims}
use Rattle.trace_model.specs.Legal.{owed, Stands, EachStands}
use Rattle.trace_model.specs.Time.{is_expired, may_ask}
use Rattle.trace_model.proofs.Once.{and_left}
use Rattle.trace_model.proofs.Owes.{stands}
use Rattle.trace_model.proofs.Permitted.{each_before}
use Rattle.host_words.specs.Journals.{In, Tells, HasCause}
use Rattle.host_words.proofs.Owning.{in_second, in_either, same_attempt}
use Rattle.owner_laws.proofs.Turned.{in_place, place_of_turned, place_behind, in_turned}
use Rattle.owner_laws.proofs.Attempts.{was_sent_in, open_was_sent, tag_is}

-- n was sent under tag t, and a cause stands among what came after that
abbrev pub Caused : List Entry → Tag → Attempt → By → Type 0
Caused P t n by = (c : CmdId) × (after before : List Entry) × (P ≡ after ++ Sent c n t ∷ before) × Tells n by after

tells_more : (n : Attempt) (by : By) (e : Entry) (es : List Entry) → Tells n by es → Tells n by (e ∷ es)
tells_more n ByAnswer e es h = (h.0, inr h.1)
tells_more n ByExpiry e es h = inr h

caused_more : (e : Entry) (P : List Entry) (t : Tag) (n : Attempt) (by : By) → Caused P t n by → Caused (e ∷ P) t n by
caused_more e P t n by h = (h.0, e ∷ h.1, h.2, ap (λ (l : List Entry). e ∷ l) h.3, tells_more n by e h.1 h.4)

-- answered
answered_caused : (n : Attempt) (P : List Entry) → is_open n.0 P ≡ true → is_answered n.0 P ≡ true → Caused P (tag_for n.0 P) n ByAnswer
answered_caused n [] o h = cc h
answered_caused n (Sent c m t ∷ P) o h = ⊎_elim
    (λ yes. cc (rw yes.0 at h))
    (λ no. rw no.0 (caused_more (Sent c m t) P (tag_for n.0 P) n ByAnswer (answered_caused n P (rw no.0 at o) (rw no.0 at h))))
    (eqb_tells m.0 n.0)
answered_caused n (Bounced c m why ∷ P) o h = ⊎_elim
    (λ yes. cc (rw yes.0 at o))
    (λ no. caused_more (Bounced c m why) P (tag_for n.0 P) n ByAnswer (answered_caused n P (rw no.0 at o) h))
    (eqb_tells m.0 n.0)
answered_caused n (Owned m by ∷ P) o h = ⊎_elim
    (λ yes. cc (rw yes.0 at o))
    (λ no. caused_more (Owned m by) P (tag_for n.0 P) n ByAnswer (answered_caused n P (rw no.0 at o) h))
    (eqb_tells m.0 n.0)
answered_caused n (Ready m a ∷ P) o h = ⊎_elim
    (λ yes. let r = was_sent_in n P (open_was_sent n.0 P o) in
    let p = in_place (Sent r.0 n (tag_for n.0 P)) P r.1 in
    (r.0, Ready m a ∷ p.0, p.1, ap (λ (l : List Entry). Ready m a ∷ l) p.2, (a, inl (ap (λ (k : Attempt). Ready k a) (sym (same_attempt m n yes.1))))))
    (λ no. caused_more (Ready m a) P (tag_for n.0 P) n ByAnswer (answered_caused n P o (rw no.0 at h)))
    (eqb_tells m.0 n.0)
answered_caused n (e ∷ P) o h = caused_more e P (tag_for n.0 P) n ByAnswer (answered_caused n P o h)

-- its time was up
due_in : (n : Attempt) (P : List Entry) → is_due n.0 P ≡ true → In (Due n) P
due_in n [] h = cc h
due_in n (Due m ∷ P) h = ⊎_elim
    (λ yes. inl (ap (λ (k : Attempt). Due k) (sym (same_attempt m n yes.1))))
    (λ no. inr (due_in n P (rw no.0 at h)))
    (eqb_tells m.0 n.0)
due_in n (e ∷ P) h = inr (due_in n P h)

asked_open : (s : HostSpec) (P : List Entry) (n : ℕ) → may_ask s P n ≡ true → is_open n P ≡ true
asked_open s P n h = first (is_open n P) _ _ _ (and_left (is_expired s P n) _ h)
  where
    first : (a b c d : Bool) → a && b && c && d ≡ true → a ≡ true
    first true b c d h = refl
    first false b c d h = cc h

due_stands : (s : HostSpec) (P : List Entry) (n : Attempt) → Stands (owed s P) s P (Due n) → is_open n.0 P ≡ true
due_stands s P n st = ⊎_elim (λ al. asked_open s P n.0 al) (λ f. absurd (⊎_elim (λ q. cc q) (λ q. cc q) f)) (stands s P (Due n) st)

due_caused : (s : HostSpec) (n : Attempt) (P : List Entry) → EachStands s P → is_due n.0 P ≡ true → Caused P (tag_for n.0 P) n ByExpiry
due_caused s n P each h =
    let p = in_place (Due n) P (due_in n P h) in
    let here = each_before s p.0 (Due n ∷ p.1) (subst (EachStands s) p.2 each) in
    let r = was_sent_in n p.1 (open_was_sent n.0 p.1 (due_stands s p.1 n here.0)) in
    let q = in_place (Sent r.0 n (tag_for n.0 p.1)) p.1 r.1 in
    let place = place_behind P p.0 q.0 q.1 p.1 (Due n) (Sent r.0 n (tag_for n.0 p.1)) p.2 q.2 in
    let same : tag_for n.0 P ≡ tag_for n.0 p.1 = tag_is s P r.0 n (tag_for n.0 p.1) each (subst (In (Sent r.0 n (tag_for n.0 p.1))) (sym p.2) (in_second _ p.0 (Due n ∷ p.1) (inr r.1))) in
    subst (λ (t : Tag). Caused P t n ByExpiry) (sym same) (r.0, p.0 ++ Due n ∷ q.0, q.1, place, in_second (Due n) p.0 (Due n ∷ q.0) (inl refl))

-- the claims that wait
abbrev Claim : Type 0
Claim = Tag × Attempt × By

where_it_holds : (b : Bool) (x y : Claim) → In x (cond b (y ∷ []) []) → (b ≡ true) × (x ≡ y)
where_it_holds true x y h = (refl, ⊎_elim (λ e. e) (λ i. absurd i) h)
where_it_holds false x y h = absurd h

claim_caused : (s : HostSpec) (P : List Entry) (k : ℕ) (x : Claim) → EachStands s P → In x (claims_of P k) → Caused P x.0 x.1 x.2
claim_caused s P k x each h = ⊎_elim
    (λ i. let c = where_it_holds (is_open k P && is_answered k P) x (tag_for k P, record { 0 = k }, ByAnswer) i in
    let both = and_parts (is_open k P) (is_answered k P) c.0 in
    subst (λ (y : Claim). Caused P y.0 y.1 y.2) (sym c.1) (answered_caused (record { 0 = k }) P both.0 both.1))
    (λ i. let c = where_it_holds (is_open k P && is_due k P) x (tag_for k P, record { 0 = k }, ByExpiry) i in
    let both = and_parts (is_open k P) (is_due k P) c.0 in
    subst (λ (y : Claim). Caused P y.0 y.1 y.2) (sym c.1) (due_caused s (record { 0 = k }) P each both.1))
    (in_either x _ _ h)

claims_caused : (s : HostSpec) (P : List Entry) (ks : List ℕ) (x : Claim) → EachStands s P → In x (claims_among P ks) → Caused P x.0 x.1 x.2
claims_caused s P [] x each h = absurd h
claims_caused s P (k ∷ ks) x each h = ⊎_elim (claims_caused s P ks x each) (claim_caused s P k x each) (in_either x (claims_among P ks) (claims_of P k) h)

tells_turned : (n : Attempt) (by : By) (es : List Entry) → Tells n by es → Tells n by (reverse es)
tells_turned n ByAnswer es h = (h.0, in_turned _ es h.1)
tells_turned n ByExpiry es h = in_turned _ es h

pub waiting_caused : (s : HostSpec) (journal : List Entry) (t : Tag) (n : Attempt) (by : By) → EachStands s (reverse journal) → In (t, n, by) (waiting_claims (reverse journal)) → HasCause journal t.0 n by
waiting_caused s journal t n by each h =
    let x = claims_caused s (reverse journal) (attempts (reverse journal)) (t, n, by) each h in
    (x.0, reverse x.2, reverse x.1, place_of_turned journal x.1 x.2 (Sent x.0 n t) x.3, tells_turned n by x.1 x.4)
