-- A command is told once at most: each entry keeps what is held of c.
use Rattle.std.proofs.Common.{eq-eqb, ◌≡◌, ◌⊎◌, ℕ, ◌+◌, ◌<◌, ◌≤◌, ◌==◌, Bool, true, false, not, ◌&&◌, cond, List, [], ◌∷◌, ◌++◌, refl, sym, ◌∙◌, subst, arith, inl, inr, ⊎_elim, ap, is_some, filter}
use Rattle.std.proofs.lemmas.Bool.Decides.{eqb_tells}
use Rattle.std.proofs.lemmas.Bool.{eqb-true, cases_Bool}
use Rattle.mid_base.specs.declared.answers.Answer.{Answer}
use Rattle.mid_base.specs.declared.answers.By.{By}
use Rattle.mid_base.specs.declared.answers.BusyOf.{BusyOf}
use Rattle.mid_base.specs.declared.answers.Disp.{Disp}
use Rattle.mid_base.specs.declared.names.CmdId.{CmdId}
use Rattle.mid_base.specs.declared.names.Attempt.{Attempt}
use Rattle.mid_base.specs.declared.names.Tag.{Tag}
use Rattle.mid_base.specs.declared.entries.Entry.{Entry}
use Rattle.mid_base.specs.declared.entries.Entry.TheVariants.{Took, Sent, Bounced, Owned, Judged, AbortSet, Aborted, Failed, Again, Told}
use Rattle.mid_base.specs.declared.host_spec.HostSpec.{HostSpec}
use Rattle.mid_base.specs.Past.{sent_for}
use Rattle.trace_model.specs.declared.standing.Standing.{Standing}
use Rattle.trace_model.specs.declared.standing.Standing.TheVariants.{New, Waits, Busy, Ended}
use Rattle.mid_base.specs.Answers.{time_out}
use Rattle.disposition.specs.Disp.{among}
use Rattle.trace_model.specs.Attempts.{sends, is_open, owner, is_settled}
use Rattle.trace_model.specs.Commands.{standing, is_busy, is_new, waits, aborts}
use Rattle.trace_model.specs.Devices.{has_begun}
use Rattle.trace_model.specs.Sending.{just_sent}
use Rattle.trace_model.specs.Recovery.{Failure, failed}
use Rattle.trace_model.specs.Legal.{owed, EachStands, ByPlaces}
use Rattle.trace_model.specs.Drained.{tellings}
use Rattle.trace_model.proofs.Stage.{Stage, idle, out, owned, aborting, settled, failing, own, stage, unsettled, has_failure, Live, Failing, Fresh, IsDone, done_live, told_live, told_failing, owned_live}
use Rattle.trace_model.proofs.Once.{Under, ToldOnce, Held, MayEnd, Fits, stands_fits, owed_of, and_left, and_right}

abbrev pub number_of : Stage → ℕ
number_of idle = 0
number_of (out n) = n
number_of (owned n) = n
number_of (aborting n) = n
number_of (settled n) = n
number_of (failing n) = n

pub not_busy : (x : Standing) → (is_new x ≡ true) ⊎ (waits x ≡ true) → is_busy x ≡ true → ⊥
not_busy New h b = cc b
not_busy Waits h b = cc b
not_busy (Busy n t) (inl h) b = cc h
not_busy (Busy n t) (inr h) b = cc h
not_busy Ended h b = cc b

pub not_ended : (x : Standing) → (is_new x ≡ true) ⊎ (waits x ≡ true) → x ≡ Ended → ⊥
not_ended x (inl h) q = cc (subst (λ y. is_new y ≡ true) q h)
not_ended x (inr h) q = cc (subst (λ y. waits y ≡ true) q h)

pub rests : (c : ℕ) (P : List Entry) → (is_new (standing c P) ≡ true) ⊎ (waits (standing c P) ≡ true) → Under c P → stage c P ≡ idle
rests c P h (inl e) = e
rests c P h (inr b) = absurd (not_busy (standing c P) h b)

pub busy_now : (c : ℕ) (P : List Entry) → (stage c P ≡ idle → ⊥) → Under c P → is_busy (standing c P) ≡ true
busy_now c P h (inl e) = absurd (h e)
busy_now c P h (inr b) = b

pub not_told : (c : ℕ) (P : List Entry) → ToldOnce c P → (standing c P ≡ Ended → ⊥) → tellings c P ≡ 0
not_told c P (inl e) h = e
not_told c P (inr e) h = absurd (h e.1)

pub idle_live : (c : ℕ) (P : List Entry) (y : Stage) → stage c P ≡ idle → Live c P (stage c P) → Live c P y
idle_live c P y e live = done_live c P (stage c P) y (subst IsDone (sym e) tt) live

pub idle_failing : (c : ℕ) (P : List Entry) (y : Stage) → stage c P ≡ idle → Failing c P (stage c P) → Failing c P y
idle_failing c P y e fail n h = absurd (cc (sym e ∙ fail n h))

-- an entry after which c's stage is idle, where it was before
pub rest_told : (c : ℕ) (P : List Entry) (b : Bool) (y : Standing) → (b ≡ true → standing c P ≡ Ended → ⊥) → ToldOnce c P → (tellings c P ≡ 0) ⊎ ((tellings c P ≡ 1) × (cond b y (standing c P) ≡ Ended))
rest_told c P true y h told = inl (not_told c P told (h refl))
rest_told c P false y h told = told

pub took_held : (c : ℕ) (P : List Entry) (d : CmdId) → (d.0 ≡ c → is_new (standing c P) ≡ true) → Held c P → Held c (Took d ∷ P)
took_held c P d new held = ⊎_elim
    (λ yes. let i = rests c P (inl (new yes.1)) held.2 in
    (rw yes.0 (idle_live c P idle i held.0), rw yes.0 (idle_failing c P idle i held.1), rw yes.0 (inl refl), held.3, rw yes.0 (inl (not_told c P held.4 (not_ended _ (inl (new yes.1)))))))
    (λ no. rw no.0 held)
    (eqb_tells d.0 c)

-- Sent
pub sent_fresh : (P : List Entry) (d : CmdId) (m : Attempt) (t : Tag) → m.0 ≡ sends P + 1 → Fresh P → Fresh (Sent d m t ∷ P)
sent_fresh P d m t e fresh n lt = ⊎_elim
    (λ yes. absurd (omega (arith, lt, e, yes.1)))
    (λ no. rw no.0 (fresh n (omega (arith, lt))))
    (eqb_tells m.0 n)

pub sent_live : (c : ℕ) (P : List Entry) (d : CmdId) (m : Attempt) (t : Tag) → (d.0 ≡ c → stage c P ≡ idle) → m.0 ≡ sends P + 1 → Fresh P → Live c P (stage c P) → Live c (Sent d m t ∷ P) (stage c (Sent d m t ∷ P))
sent_live c P d m t i e fresh live n q = ⊎_elim
    (λ yes. let dc : d.0 ≡ c = rw yes.0 at q in let f = fresh n (omega (arith, e, yes.1)) in
    (λ h. rw (eq-eqb d.0 c dc) (ap out yes.1), λ h. absurd (cc (sym f.1 ∙ h)), λ h. absurd (cc (sym f.2 ∙ h))))
    (λ no. let r : sent_for n P ≡ c = rw no.0 at q in
    ⊎_elim
    (λ same. let x = idle_live c P (stage c (Sent d m t ∷ P)) (i same.1) live n r in (λ h. x.0 (rw no.0 at h), x.1, x.2))
    (λ other. let x = live n r in (λ h. rw other.0 (x.0 (rw no.0 at h)), λ h. rw other.0 (x.1 h), λ h. rw other.0 (x.2 h)))
    (eqb_tells d.0 c))
    (eqb_tells m.0 n)

pub sent_held : (c : ℕ) (P : List Entry) (d : CmdId) (m : Attempt) (t : Tag) → (d.0 ≡ c → waits (standing c P) ≡ true) → m.0 ≡ sends P + 1 → Held c P → Held c (Sent d m t ∷ P)
sent_held c P d m t w e held =
    let live = sent_live c P d m t (λ q. rests c P (inr (w q)) held.2) e held.3 held.0 in
    let fresh = sent_fresh P d m t e held.3 in
    ⊎_elim
    (λ yes. let i = rests c P (inr (w yes.1)) held.2 in
    (live, idle_failing c P _ i held.1, inr (rw yes.0 refl), fresh, inl (not_told c P held.4 (not_ended _ (inr (w yes.1))))))
    (λ no. (live, rw no.0 held.1, rw no.0 held.2, fresh, rw no.0 held.4))
    (eqb_tells d.0 c)

-- Bounced
pub bounced_stage : (c d m : ℕ) (P : List Entry) → just_sent d m P ≡ true → d ≡ c → (stage c P ≡ out m) × (is_busy (standing c P) ≡ true)
bounced_stage c d m [] h q = cc h
bounced_stage c d m (Sent e n t ∷ P) h q =
    let same : (e.0 == c) ≡ true = subst (λ k. (e.0 == k) ≡ true) q (and_left (e.0 == d) _ h) in
    (rw same (ap out (eqb-true n.0 m (and_right (e.0 == d) _ h))), rw same refl)
bounced_stage c d m (e ∷ P) h q = cc h

pub bounced_live : (c : ℕ) (P : List Entry) (d : CmdId) (m : Attempt) (why : BusyOf) → (d.0 ≡ c → stage c P ≡ out m.0) → Live c P (stage c P) → Live c (Bounced d m why ∷ P) (stage c (Bounced d m why ∷ P))
bounced_live c P d m why o live n e = ⊎_elim
    (λ same. let x = live n e in let s = o same.1 in (
      λ h. ⊎_elim (λ yes. absurd (cc (rw yes.0 at h))) (λ no. absurd (no.1 (ap number_of (sym s ∙ x.0 (rw no.0 at h))))) (eqb_tells m.0 n),
      λ h. absurd (cc (sym s ∙ x.1 h)),
      λ h. absurd (cc (sym s ∙ x.2 h)),
    ))
    (λ other. let x = live n e in (
      λ h. ⊎_elim (λ yes. absurd (cc (rw yes.0 at h))) (λ no. rw other.0 (x.0 (rw no.0 at h))) (eqb_tells m.0 n),
      λ h. rw other.0 (x.1 h),
      λ h. rw other.0 (x.2 h),
    ))
    (eqb_tells d.0 c)

pub bounced_fresh : (P : List Entry) (d : CmdId) (m : Attempt) (why : BusyOf) → Fresh P → Fresh (Bounced d m why ∷ P)
bounced_fresh P d m why fresh n lt = let f = fresh n lt in
    (⊎_elim (λ yes. rw yes.0 refl) (λ no. rw no.0 f.0) (eqb_tells m.0 n), f.1, f.2)

pub busy_not_ended : (x : Standing) → is_busy x ≡ true → x ≡ Ended → ⊥
busy_not_ended x b q = cc (subst (λ y. is_busy y ≡ true) q b)

pub bounced_held : (c : ℕ) (P : List Entry) (d : CmdId) (m : Attempt) (why : BusyOf) → just_sent d.0 m.0 P ≡ true → Held c P → Held c (Bounced d m why ∷ P)
bounced_held c P d m why j held =
    let live = bounced_live c P d m why (λ q. (bounced_stage c d.0 m.0 P j q).0) held.0 in
    let fresh = bounced_fresh P d m why held.3 in
    ⊎_elim
    (λ yes. let x = bounced_stage c d.0 m.0 P j yes.1 in
    (live, λ n h. absurd (cc (sym x.0 ∙ held.1 n h)), rw yes.0 (inl refl), fresh, inl (not_told c P held.4 (busy_not_ended _ x.1))))
    (λ no. (live, rw no.0 held.1, rw no.0 held.2, fresh, rw no.0 held.4))
    (eqb_tells d.0 c)

-- Owned
pub owned_fresh : (P : List Entry) (m : Attempt) (by : By) → is_open m.0 P ≡ true → Fresh P → Fresh (Owned m by ∷ P)
owned_fresh P m by o fresh n lt = let f = fresh n lt in ⊎_elim
    (λ yes. absurd (cc (sym f.0 ∙ subst (λ k. is_open k P ≡ true) yes.1 o)))
    (λ no. (rw no.0 f.0, rw no.0 f.1, f.2))
    (eqb_tells m.0 n)

pub owned_held : (c : ℕ) (P : List Entry) (m : Attempt) (by : By) → is_open m.0 P ≡ true → Held c P → Held c (Owned m by ∷ P)
owned_held c P m by o held =
    (owned_live c P m by o held.0, λ n h. ap (own m.0) (held.1 n h), ⊎_elim (λ i. inl (ap (own m.0) i)) (λ b. inr b) held.2, owned_fresh P m by o held.3, held.4)

-- an entry that settles m
pub less : (o a b : Bool) → o && not (cond a true b) ≡ true → (a ≡ false) × (o && not b ≡ true)
less o true b h = absurd (cc (and_right o false h))
less o false b h = (refl, h)

-- c's stage goes from x, of attempt m, to a later one
abbrev pub From : Stage → ℕ → Type 0
From x m = (x ≡ owned m) ⊎ (x ≡ settled m)

pub from_live : (c : ℕ) (P Q : List Entry) (m : ℕ) (y : Stage) → From (stage c P) m → Live c P (stage c P)
    → ((n : ℕ) → sent_for n Q ≡ sent_for n P) → ((n : ℕ) → is_open n Q ≡ is_open n P) → ((n : ℕ) → unsettled n Q ≡ true → (m == n ≡ false) × (unsettled n P ≡ true)) → ((n : ℕ) → among n (aborts Q) ≡ true → (among n (aborts P) ≡ true) ⊎ (y ≡ aborting n)) → Live c Q y
from_live c P Q m y (inl s) live f o u a n e = let x = live n (sym (f n) ∙ e) in (
  λ h. absurd (cc (sym s ∙ x.0 (sym (o n) ∙ h))),
  λ h. let w = u n h in absurd (cc (sym w.0 ∙ eq-eqb m n (ap number_of (sym s ∙ x.1 w.1)))),
  λ h. ⊎_elim (λ w. absurd (cc (sym s ∙ x.2 w))) (λ w. w) (a n h),
)
from_live c P Q m y (inr s) live f o u a n e = let x = live n (sym (f n) ∙ e) in (
  λ h. absurd (cc (sym s ∙ x.0 (sym (o n) ∙ h))),
  λ h. let w = u n h in absurd (cc (sym s ∙ x.1 w.1)),
  λ h. ⊎_elim (λ w. absurd (cc (sym s ∙ x.2 w))) (λ w. w) (a n h),
)

-- Judged
pub judged_live : (c : ℕ) (P : List Entry) (d : CmdId) (m : Attempt) (x : Disp) → (has_begun P ≡ true) ⊎ ((unsettled m.0 P ≡ true) × (sent_for m.0 P ≡ d.0)) → Live c P (stage c P) → Live c (Judged d m x ∷ P) (stage c (Judged d m x ∷ P))
judged_live c P d m x fit live = ⊎_elim
    (λ yes. ⊎_elim
    (λ b. absurd (cc (subst (λ v. not v ≡ true) b (and_right (d.0 == c) _ yes))))
    (λ u. let s = (live m.0 (u.1 ∙ eqb-true d.0 c (and_left (d.0 == c) _ yes))).1 u.0 in
    from_live c P (Judged d m x ∷ P) m.0 _ (inl s) live (λ n. refl) (λ n. refl) (λ n h. less (is_some (owner n P)) (m.0 == n) (is_settled n P) h) (λ n h. inl h))
    fit)
    (λ no. rw no (λ n e. let w = live n e in (w.0, λ h. w.1 (less (is_some (owner n P)) (m.0 == n) (is_settled n P) h).1, w.2)))
    (cases_Bool ((d.0 == c) && not (has_begun P)))

pub settles_fresh : (P Q : List Entry) (m : ℕ) → ((n : ℕ) → is_open n Q ≡ is_open n P) → ((n : ℕ) → unsettled n Q ≡ true → unsettled n P ≡ true) → ((n : ℕ) → sends P < n → among n (aborts Q) ≡ false) → sends Q ≡ sends P → Fresh P → Fresh Q
settles_fresh P Q m o u a q fresh n lt = let f = fresh n (omega (arith, lt, q)) in
    (o n ∙ f.0, no_more (unsettled n Q) (unsettled n P) (u n) f.1, a n (omega (arith, lt, q)))
  where
    no_more : (x y : Bool) → (x ≡ true → y ≡ true) → y ≡ false → x ≡ false
    no_more true y f q = absurd (cc (sym q ∙ f refl))
    no_more false y f q = refl

pub judged_held : (c : ℕ) (P : List Entry) (d : CmdId) (m : Attempt) (x : Disp) → (has_begun P ≡ true) ⊎ ((unsettled m.0 P ≡ true) × (sent_for m.0 P ≡ d.0)) → Held c P → Held c (Judged d m x ∷ P)
judged_held c P d m x fit held =
    let live = judged_live c P d m x fit held.0 in
    let fresh = settles_fresh P (Judged d m x ∷ P) m.0 (λ n. refl) (λ n h. (less (is_some (owner n P)) (m.0 == n) (is_settled n P) h).1) (λ n lt. (held.3 n lt).2) refl held.3 in
    ⊎_elim
    (λ yes. ⊎_elim
    (λ b. absurd (cc (subst (λ v. not v ≡ true) b (and_right (d.0 == c) _ yes))))
    (λ u. let s = (held.0 m.0 (u.1 ∙ eqb-true d.0 c (and_left (d.0 == c) _ yes))).1 u.0 in
    (live, λ n h. absurd (cc (sym s ∙ held.1 n h)), inr (busy_now c P (λ i. cc (sym s ∙ i)) held.2), fresh, held.4))
    fit)
    (λ no. (live, rw no held.1, rw no held.2, fresh, held.4))
    (cases_Bool ((d.0 == c) && not (has_begun P)))

-- AbortSet
pub among_snoc : (n m : ℕ) (ms : List ℕ) → among n (ms ++ m ∷ []) ≡ true → (among n ms ≡ true) ⊎ (n ≡ m)
among_snoc n m [] h = ⊎_elim (λ yes. inr yes.1) (λ no. absurd (cc (rw no.0 at h))) (eqb_tells n m)
among_snoc n m (k ∷ ms) h = ⊎_elim (λ yes. inl (rw yes.0 refl)) (λ no. ⊎_elim (λ w. inl (rw no.0 w)) (λ q. inr q) (among_snoc n m ms (rw no.0 at h))) (eqb_tells n k)

pub false_of : (b : Bool) → (b ≡ true → ⊥) → b ≡ false
false_of true h = absurd (h refl)
false_of false h = refl

pub abortset_live : (c : ℕ) (P : List Entry) (d : CmdId) (m : Attempt) → unsettled m.0 P ≡ true → sent_for m.0 P ≡ d.0 → Live c P (stage c P) → Live c (AbortSet d m ∷ P) (stage c (AbortSet d m ∷ P))
abortset_live c P d m u e live = ⊎_elim
    (λ yes. let s = (live m.0 (e ∙ yes.1)).1 u in
    rw yes.0 (from_live c P (AbortSet d m ∷ P) m.0 (aborting m.0) (inl s) live (λ n. refl) (λ n. refl) (λ n h. less (is_some (owner n P)) (m.0 == n) (is_settled n P) h)
    (λ n h. ⊎_elim (λ w. inl w) (λ q. inr (ap aborting (sym q))) (among_snoc n m.0 (aborts P) h))))
    (λ no. rw no.0 (λ n f. let w = live n f in (
      w.0,
      λ h. w.1 (less (is_some (owner n P)) (m.0 == n) (is_settled n P) h).1,
      λ h. ⊎_elim (λ a. w.2 a) (λ q. absurd (no.1 (sym e ∙ (ap (λ k. sent_for k P) (sym q) ∙ f)))) (among_snoc n m.0 (aborts P) h),
    )))
    (eqb_tells d.0 c)

pub abortset_held : (c : ℕ) (P : List Entry) (d : CmdId) (m : Attempt) → unsettled m.0 P ≡ true → sent_for m.0 P ≡ d.0 → Held c P → Held c (AbortSet d m ∷ P)
abortset_held c P d m u e held =
    let live = abortset_live c P d m u e held.0 in
    let fresh = settles_fresh P (AbortSet d m ∷ P) m.0 (λ n. refl) (λ n h. (less (is_some (owner n P)) (m.0 == n) (is_settled n P) h).1)
    (λ n lt. false_of _ (λ h. ⊎_elim (λ w. cc (sym (held.3 n lt).2 ∙ w)) (λ q. cc (sym (held.3 n lt).1 ∙ subst (λ k. unsettled k P ≡ true) (sym q) u)) (among_snoc n m.0 (aborts P) h))) refl held.3 in
    ⊎_elim
    (λ yes. let s = (held.0 m.0 (e ∙ yes.1)).1 u in
    (live, λ n h. absurd (cc (sym s ∙ held.1 n h)), inr (busy_now c P (λ i. cc (sym s ∙ i)) held.2), fresh, held.4))
    (λ no. (live, rw no.0 held.1, rw no.0 held.2, fresh, held.4))
    (eqb_tells d.0 c)

-- Aborted
pub among_filter : (n m : ℕ) (ms : List ℕ) → among n (filter (λ k. not (k == m)) ms) ≡ true → (among n ms ≡ true) × ((n ≡ m) → ⊥)
among_filter n m [] h = cc h
among_filter n m (k ∷ ms) h = ⊎_elim
    (λ yes. let w = among_filter n m ms (rw yes.0 at h) in (⊎_elim (λ a. rw a.0 refl) (λ b. rw b.0 w.0) (eqb_tells n k), w.1))
    (λ no. ⊎_elim
    (λ a. (rw a.0 refl, λ q. no.1 (sym a.1 ∙ q)))
    (λ b. let w = among_filter n m ms (rw b.0 at (rw no.0 at h)) in (rw b.0 w.0, w.1))
    (eqb_tells n k))
    (eqb_tells k m)

pub aborted_live : (c : ℕ) (P : List Entry) (d : CmdId) (m : Attempt) (ok : Bool) → among m.0 (aborts P) ≡ true → sent_for m.0 P ≡ d.0 → Live c P (stage c P) → Live c (Aborted d m ok ∷ P) (stage c (Aborted d m ok ∷ P))
aborted_live c P d m ok a e live = ⊎_elim
    (λ yes. let s = (live m.0 (e ∙ yes.1)).2 a in
    λ n f. let w = live n f in (
      λ h. absurd (cc (sym s ∙ w.0 h)),
      λ h. absurd (cc (sym s ∙ w.1 h)),
      λ h. let k = among_filter n m.0 (aborts P) h in absurd (k.1 (ap number_of (sym (w.2 k.0) ∙ s))),
    ))
    (λ no. rw no.0 (λ n f. let w = live n f in (w.0, w.1, λ h. w.2 (among_filter n m.0 (aborts P) h).0)))
    (eqb_tells d.0 c)

pub aborted_held : (c : ℕ) (P : List Entry) (d : CmdId) (m : Attempt) (ok : Bool) → among m.0 (aborts P) ≡ true → sent_for m.0 P ≡ d.0 → Held c P → Held c (Aborted d m ok ∷ P)
aborted_held c P d m ok a e held =
    let live = aborted_live c P d m ok a e held.0 in
    let fresh = settles_fresh P (Aborted d m ok ∷ P) m.0 (λ n. refl) (λ n h. h) (λ n lt. false_of _ (λ h. cc (sym (held.3 n lt).2 ∙ (among_filter n m.0 (aborts P) h).0))) refl held.3 in
    ⊎_elim
    (λ yes. let s = (held.0 m.0 (e ∙ yes.1)).2 a in
    (live, λ n h. absurd (cc (sym s ∙ held.1 n h)), inr (busy_now c P (λ i. cc (sym s ∙ i)) held.2), fresh, held.4))
    (λ no. (live, rw no.0 held.1, rw no.0 held.2, fresh, held.4))
    (eqb_tells d.0 c)

-- Failed
pub failure_snoc : (c n : ℕ) (fs : List Failure) (f : Failure) → has_failure c n (fs ++ f ∷ []) ≡ true → (has_failure c n fs ≡ true) ⊎ ((f.cmd.0 == c) && (f.attempt.0 == n) ≡ true)
failure_snoc c n [] f h = ⊎_elim (λ yes. inr yes) (λ no. absurd (cc (rw no at h))) (cases_Bool ((f.cmd.0 == c) && (f.attempt.0 == n)))
failure_snoc c n (g ∷ fs) f h = ⊎_elim
    (λ yes. inl (rw yes refl))
    (λ no. ⊎_elim (λ w. inl (rw no w)) (λ q. inr q) (failure_snoc c n fs f (rw no at h)))
    (cases_Bool ((g.cmd.0 == c) && (g.attempt.0 == n)))

pub from_not_failing : (x : Stage) (m n : ℕ) → From x m → x ≡ failing n → ⊥
from_not_failing x m n (inl s) q = cc (sym s ∙ q)
from_not_failing x m n (inr s) q = cc (sym s ∙ q)

pub from_not_idle : (x : Stage) (m : ℕ) → From x m → x ≡ idle → ⊥
from_not_idle x m (inl s) q = cc (sym s ∙ q)
from_not_idle x m (inr s) q = cc (sym s ∙ q)

pub failed_held : (c : ℕ) (P : List Entry) (d : CmdId) (m : Attempt) (x : Bool) → (d.0 ≡ c → From (stage c P) m.0) → Held c P → Held c (Failed d m x ∷ P)
failed_held c P d m x from held =
    let fresh = settles_fresh P (Failed d m x ∷ P) m.0 (λ n. refl) (λ n h. (less (is_some (owner n P)) (m.0 == n) (is_settled n P) h).1) (λ n lt. (held.3 n lt).2) refl held.3 in
    ⊎_elim
    (λ yes. let s = from yes.1 in (
      rw yes.0 (from_live c P (Failed d m x ∷ P) m.0 (failing m.0) s held.0 (λ n. refl) (λ n. refl) (λ n h. less (is_some (owner n P)) (m.0 == n) (is_settled n P) h) (λ n h. inl h)),
      rw yes.0 (λ n h. ⊎_elim (λ w. absurd (from_not_failing (stage c P) m.0 n s (held.1 n w))) (λ w. ap failing (eqb-true m.0 n (and_right (d.0 == c) _ w))) (failure_snoc c n (failed P) (record { cmd = d; attempt = m; cancelled = x }) h)),
      inr (busy_now c P (from_not_idle (stage c P) m.0 s) held.2),
      fresh,
      held.4,
    ))
    (λ no. (
      rw no.0 (λ n e. let w = held.0 n e in (w.0, λ h. w.1 (less (is_some (owner n P)) (m.0 == n) (is_settled n P) h).1, w.2)),
      rw no.0 (λ n h. ⊎_elim (λ w. held.1 n w) (λ w. absurd (no.1 (eqb-true d.0 c (and_left (d.0 == c) _ w)))) (failure_snoc c n (failed P) (record { cmd = d; attempt = m; cancelled = x }) h)),
      rw no.0 held.2,
      fresh,
      held.4,
    ))
    (eqb_tells d.0 c)

-- Again and Told
pub again_held : (c : ℕ) (P : List Entry) (d : CmdId) (x : Bool) → (d.0 ≡ c → MayEnd c P) → Held c P → Held c (Again d x ∷ P)
again_held c P d x ends held =
    let live = told_live c P d time_out (λ q. (ends q).0) held.0 in
    let fail = told_failing c P d time_out held.1 in
    ⊎_elim
    (λ yes. (live, fail, rw yes.0 (inl refl), held.3, inl (not_told c P held.4 (ends yes.1).1)))
    (λ no. (live, fail, rw no.0 held.2, held.3, rw no.0 held.4))
    (eqb_tells d.0 c)

pub told_held : (c : ℕ) (P : List Entry) (d : CmdId) (a : Answer) → (d.0 ≡ c → MayEnd c P) → Held c P → Held c (Told d a ∷ P)
told_held c P d a ends held =
    let live = told_live c P d a (λ q. (ends q).0) held.0 in
    let fail = told_failing c P d a held.1 in
    ⊎_elim
    (λ yes. let z = not_told c P held.4 (ends yes.1).1 in
    (live, fail, rw yes.0 (inl refl), held.3, rw yes.0 (inr (omega (arith, z), refl))))
    (λ no. (live, fail, rw no.0 held.2, held.3, rw no.0 held.4))
    (eqb_tells d.0 c)

pub held_step : (c : ℕ) (P : List Entry) (e : Entry) → Fits c P e → Held c P → Held c (e ∷ P)
held_step c P (Took d) f held = took_held c P d f held
held_step c P (Sent d m t) f held = sent_held c P d m t f.0 f.1 held
held_step c P (Bounced d m why) f held = bounced_held c P d m why f held
held_step c P (Owned m by) f held = owned_held c P m by f held
held_step c P (Judged d m x) f held = judged_held c P d m x f held
held_step c P (AbortSet d m) f held = abortset_held c P d m f.0 f.1 held
held_step c P (Aborted d m ok) f held = aborted_held c P d m ok f.0 f.1 held
held_step c P (Failed d m x) f held = failed_held c P d m x f held
held_step c P (Again d x) f held = again_held c P d x f held
held_step c P (Told d a) f held = told_held c P d a f held
held_step c P e f held = held

pub held_all : (s : HostSpec) (c : ℕ) (P : List Entry) → EachStands s P → Held c P
held_all s c [] each = (λ n e. (λ h. cc h, λ h. cc h, λ h. cc h), λ n h. cc h, inl refl, λ n lt. (refl, refl, refl), inl refl)
held_all s c (e ∷ P) each =
    let held = held_all s c P each.1 in
    held_step c P e (stands_fits s c P (owed s P) e (owed_of s c P each.1) each.0 held) held

pub at_most_one : (c : ℕ) (P : List Entry) → ToldOnce c P → tellings c P ≤ 1
at_most_one c P (inl e) = omega (arith, e)
at_most_one c P (inr e) = omega (arith, e.0)

pub told_once : (s : HostSpec) (P : List Entry) (c : ℕ) → ByPlaces s P → tellings c P ≤ 1
told_once s P c legal = at_most_one c P (held_all s c P legal.each).4
