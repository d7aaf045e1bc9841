-- A command is told once at most: what each entry that stands has of c.
use Rattle.std.proofs.Common.{eq-eqb, ◌≡◌, ◌⊎◌, ℕ, ◌+◌, ◌==◌, Bool, true, false, not, ◌&&◌, ◌||◌, cond, List, [], ◌∷◌, refl, sym, ◌∙◌, subst, inl, inr, ⊎_elim, is_some, find, Option, None, Some}
use Rattle.std.proofs.lemmas.Bool.{eqb-true}
use Rattle.mid_base.specs.declared.answers.Answer.{Answer}
use Rattle.mid_base.specs.declared.answers.By.{By}
use Rattle.mid_base.specs.declared.answers.By.TheVariants.{Answer as ByAnswer, Expiry as ByExpiry}
use Rattle.mid_base.specs.declared.answers.Disp.{Disp}
use Rattle.mid_base.specs.declared.answers.Disp.TheVariants.{Success, Retry, Requeue, Fail}
use Rattle.mid_base.specs.declared.names.CmdId.{CmdId}
use Rattle.mid_base.specs.declared.names.Attempt.{Attempt}
use Rattle.mid_base.specs.declared.entries.Entry.{Entry}
use Rattle.mid_base.specs.declared.entries.Entry.TheVariants.{Took, Sent, Bounced, Owned, Judged, AbortSet, Aborted, Failed, Cleared, Sensed, Again, Told, EhBegin, Act, Probe, Offline}
use Rattle.mid_base.specs.declared.host_spec.CmdSpec.{CmdSpec}
use Rattle.mid_base.specs.declared.host_spec.HostSpec.{HostSpec}
use Rattle.mid_base.specs.Past.{sent_for}
use Rattle.trace_model.specs.declared.standing.Standing.{Standing}
use Rattle.trace_model.specs.declared.standing.Standing.TheVariants.{New, Waits, Busy, Ended}
use Rattle.mid_base.specs.Answers.{no_connect, time_out}
use Rattle.trace_model.specs.Names.{command, dev_of}
use Rattle.disposition.specs.Disp.{among}
use Rattle.trace_model.specs.Attempts.{sends, is_open, answer, owner, is_settled, is_by_answer, is_by_expiry}
use Rattle.trace_model.specs.Commands.{standing, is_busy, is_new, waits, aborts}
use Rattle.trace_model.specs.Devices.{has_begun, in_recovery, is_online}
use Rattle.trace_model.specs.Sending.{is_left, is_command, is_refused, is_pickable, pick, is_number, may_send, is_stranded, just_sent, is_least_free}
use Rattle.trace_model.specs.Judging.{may_own, to_judge, to_abort, is_first, may_retry}
use Rattle.trace_model.specs.Recovery.{Failure, failed, todo, is_quiet}
use Rattle.trace_model.specs.Flush.{is_flushed, is_first_failed, is_empty, is_saved, verdict}
use Rattle.trace_model.specs.Course.{Course, over, next, ask, fetch, Meets, after}
use Rattle.trace_model.specs.Rules.{Allowed, MayJudge, course, judged, aborted, telling}
use Rattle.trace_model.specs.Legal.{goes_on, owed, Stands, EachStands}
use Rattle.trace_model.specs.Drained.{tellings}
use Rattle.trace_model.proofs.Owes.{Owes, Calm, is_calm, meets_owes, after_owes, begin_calm, climb_calm}
use Rattle.trace_model.proofs.Stage.{Stage, idle, owned, settled, failing, stage, unsettled, has_failure, Live, Failing, Fresh, IsDone}

pub and_left : (a b : Bool) → a && b ≡ true → a ≡ true
and_left true b h = refl
and_left false b h = h

pub and_right : (a b : Bool) → a && b ≡ true → b ≡ true
and_right true b h = h
and_right false b h = cc h

abbrev pub Under : ℕ → List Entry → Type 0
Under c P = (stage c P ≡ idle) ⊎ (is_busy (standing c P) ≡ true)

abbrev pub ToldOnce : ℕ → List Entry → Type 0
ToldOnce c P = (tellings c P ≡ 0) ⊎ ((tellings c P ≡ 1) × (standing c P ≡ Ended))

abbrev pub Held : ℕ → List Entry → Type 0
Held c P = Live c P (stage c P) × Failing c P (stage c P) × Under c P × Fresh P × ToldOnce c P

-- c may end here
abbrev pub MayEnd : ℕ → List Entry → Type 0
MayEnd c P = IsDone (stage c P) × (standing c P ≡ Ended → ⊥)

abbrev pub Fits : ℕ → List Entry → Entry → Type 0
Fits c P (Took d) = d.0 ≡ c → is_new (standing c P) ≡ true
Fits c P (Sent d m t) = (d.0 ≡ c → waits (standing c P) ≡ true) × (m.0 ≡ sends P + 1)
Fits c P (Bounced d m why) = just_sent d.0 m.0 P ≡ true
Fits c P (Owned m by) = is_open m.0 P ≡ true
Fits c P (Judged d m x) = (has_begun P ≡ true) ⊎ ((unsettled m.0 P ≡ true) × (sent_for m.0 P ≡ d.0))
Fits c P (AbortSet d m) = (unsettled m.0 P ≡ true) × (sent_for m.0 P ≡ d.0)
Fits c P (Aborted d m ok) = (among m.0 (aborts P) ≡ true) × (sent_for m.0 P ≡ d.0)
Fits c P (Failed d m x) = d.0 ≡ c → (stage c P ≡ owned m.0) ⊎ (stage c P ≡ settled m.0)
Fits c P (Again d x) = d.0 ≡ c → MayEnd c P
Fits c P (Told d a) = d.0 ≡ c → MayEnd c P
Fits c P e = Unit {0}

-- what is owed of c
abbrev pub EndsAt : ℕ → List Entry → Entry → Type 0
EndsAt c P (Told d a) = d.0 ≡ c → (n : ℕ) × (stage c P ≡ settled n)
EndsAt c P (Again d x) = d.0 ≡ c → (n : ℕ) × (stage c P ≡ settled n)
EndsAt c P (Failed d m x) = d.0 ≡ c → stage c P ≡ settled m.0
EndsAt c P e = ⊥

abbrev pub OwedOf : ℕ → List Entry → Course → Type 0
OwedOf c P over = Unit {0}
OwedOf c P (next x over) = ((has_begun P ≡ true) × (is_calm x ≡ true)) ⊎ EndsAt c P x
OwedOf c P k = (has_begun P ≡ true) × Owes Calm k

-- the words behind the rules
pub found_left : (c lane : ℕ) (P : List Entry) (ks : List CmdSpec) → is_command c (find (is_left lane P) ks) ≡ true → is_new (standing c P) ≡ true
found_left c lane P [] h = cc h
found_left c lane P (k ∷ ks) h = by_test (is_left lane P k) refl h (found_left c lane P ks)
  where
    by_test : (b : Bool) → is_left lane P k ≡ b → is_command c (cond b (Some k) (find (is_left lane P) ks)) ≡ true → (is_command c (find (is_left lane P) ks) ≡ true → is_new (standing c P) ≡ true) → is_new (standing c P) ≡ true
    by_test true q g rest = subst (λ d. is_new (standing d P) ≡ true) (eqb-true k.id.0 c g) (and_right (k.lane.0 == lane) _ q)
    by_test false q g rest = rest g

pub found_pick : (s : HostSpec) (c : ℕ) (P : List Entry) (order : List ℕ) → is_number c (find (is_pickable s P) order) ≡ true → waits (standing c P) ≡ true
found_pick s c P [] h = cc h
found_pick s c P (d ∷ order) h = by_test (is_pickable s P d) refl h (found_pick s c P order)
  where
    by_test : (b : Bool) → is_pickable s P d ≡ b → is_number c (cond b (Some d) (find (is_pickable s P) order)) ≡ true → (is_number c (find (is_pickable s P) order) ≡ true → waits (standing c P) ≡ true) → waits (standing c P) ≡ true
    by_test true q g rest = subst (λ e. waits (standing e P) ≡ true) (eqb-true d c g) (and_left (waits (standing d P)) _ q)
    by_test false q g rest = rest g

pub first_has : (c : ℕ) (fs : List Failure) → is_first_failed c fs ≡ true → (n : ℕ) × (has_failure c n fs ≡ true)
first_has c [] h = cc h
first_has c (f ∷ fs) h = (f.attempt.0, rw (h, eq-eqb f.attempt.0 f.attempt.0 refl) refl)

pub new_idle : (c : ℕ) (P : List Entry) → is_new (standing c P) ≡ true → Under c P → MayEnd c P
new_idle c P h (inl e) = (subst IsDone (sym e) tt, λ q. cc (subst (λ x. is_new x ≡ true) q h))
new_idle c P h (inr b) = absurd (clash (standing c P) h b)
  where
    clash : (x : Standing) → is_new x ≡ true → is_busy x ≡ true → ⊥
    clash New a b = cc b
    clash Waits a b = cc a
    clash (Busy n t) a b = cc a
    clash Ended a b = cc a

pub waits_idle : (c : ℕ) (P : List Entry) → waits (standing c P) ≡ true → Under c P → MayEnd c P
waits_idle c P h (inl e) = (subst IsDone (sym e) tt, λ q. cc (subst (λ x. waits x ≡ true) q h))
waits_idle c P h (inr b) = absurd (clash (standing c P) h b)
  where
    clash : (x : Standing) → waits x ≡ true → is_busy x ≡ true → ⊥
    clash New a b = cc a
    clash Waits a b = cc b
    clash (Busy n t) a b = cc a
    clash Ended a b = cc a

pub busy_not_ended : (x : Standing) → is_busy x ≡ true → x ≡ Ended → ⊥
busy_not_ended New b q = cc b
busy_not_ended Waits b q = cc b
busy_not_ended (Busy n t) b q = cc q
busy_not_ended Ended b q = cc b

-- a stage that isn't idle is of a busy command
pub under_way : (c : ℕ) (P : List Entry) (x : Stage) → stage c P ≡ x → (x ≡ idle → ⊥) → Under c P → standing c P ≡ Ended → ⊥
under_way c P x e isnt (inl i) q = isnt (sym e ∙ i)
under_way c P x e isnt (inr b) q = busy_not_ended (standing c P) b q

pub failing_ends : (c n : ℕ) (P : List Entry) → stage c P ≡ failing n → Under c P → MayEnd c P
failing_ends c n P e u = (subst IsDone (sym e) tt, under_way c P (failing n) e (λ q. cc q) u)

pub settled_ends : (c n : ℕ) (P : List Entry) → stage c P ≡ settled n → Under c P → MayEnd c P
settled_ends c n P e u = (subst IsDone (sym e) tt, under_way c P (settled n) e (λ q. cc q) u)

pub flushed_ends : (s : HostSpec) (c : ℕ) (P : List Entry) → is_flushed s P c ≡ true → Held c P → MayEnd c P
flushed_ends s c P h held =
    let x = first_has c (failed P) (and_right (has_begun P && is_empty (todo s P)) _ h) in
    failing_ends c x.0 P (held.1 x.0 x.1) held.2

pub told_by : (r f : Bool) (x : Answer) (v : Option Answer) (a : Answer) → cond r (Some x) (cond f v None) ≡ Some a → (r ≡ true) ⊎ (f ≡ true)
told_by true f x v a h = inl refl
told_by false true x v a h = inr refl
told_by false false x v a h = cc h

pub or_cases : (a b : Bool) → a || b ≡ true → (a ≡ true) ⊎ (b ≡ true)
or_cases true b h = inl refl
or_cases false b h = inr h

pub refused_ends : (s : HostSpec) (c : ℕ) (P : List Entry) → is_refused s P c ≡ true → Held c P → MayEnd c P
refused_ends s c P h held = new_idle c P (found_left c (command s c).lane.0 P s.cmds (and_left _ _ h)) held.2

pub stranded_waits : (s : HostSpec) (c : ℕ) (P : List Entry) → is_stranded s P c ≡ true → waits (standing c P) ≡ true
stranded_waits s c P h = found_pick s c P _ (and_right (not (in_recovery P)) _ (and_left (not (in_recovery P) && is_number c (pick s P)) _ h))

pub telling_ends : (s : HostSpec) (c : ℕ) (P : List Entry) (a : Answer) → telling s P c ≡ Some a → Held c P → MayEnd c P
telling_ends s c P a h held = ⊎_elim
    (λ r. ⊎_elim (λ q. refused_ends s c P q held) (λ q. waits_idle c P (stranded_waits s c P q) held.2) (or_cases (is_refused s P c) (is_stranded s P c) r))
    (λ f. flushed_ends s c P (and_left (is_flushed s P c) _ f) held)
    (told_by (is_refused s P c || is_stranded s P c) (is_flushed s P c && not (is_saved s P c)) no_connect (verdict c P) a h)

-- the entries that stand fit
pub is_owner : (o : Option By) → is_by_answer o ≡ true → is_some o ≡ true
is_owner None h = cc h
is_owner (Some by) h = refl

pub is_owner_late : (o : Option By) → is_by_expiry o ≡ true → is_some o ≡ true
is_owner_late None h = cc h
is_owner_late (Some by) h = refl

pub both : (a b : Bool) → a ≡ true → b ≡ true → a && b ≡ true
both true b p q = q
both false b p q = cc p

pub judge_unsettled : (P : List Entry) (c n : ℕ) → to_judge P c n ≡ true → (unsettled n P ≡ true) × (sent_for n P ≡ c)
judge_unsettled P c n h =
    let x = and_left (is_by_answer (owner n P) && not (is_settled n P)) _ h in
    (both _ _ (is_owner (owner n P) (and_left (is_by_answer (owner n P)) _ x)) (and_right (is_by_answer (owner n P)) _ x), eqb-true (sent_for n P) c (and_right (is_by_answer (owner n P) && not (is_settled n P)) _ h))

pub abort_unsettled : (P : List Entry) (c n : ℕ) → to_abort P c n ≡ true → (unsettled n P ≡ true) × (sent_for n P ≡ c)
abort_unsettled P c n h =
    let x = and_left (is_by_expiry (owner n P) && not (is_settled n P)) _ h in
    (both _ _ (is_owner_late (owner n P) (and_left (is_by_expiry (owner n P)) _ x)) (and_right (is_by_expiry (owner n P)) _ x), eqb-true (sent_for n P) c (and_right (is_by_expiry (owner n P) && not (is_settled n P)) _ h))

pub judge_fits : (s : HostSpec) (P : List Entry) (c n : ℕ) (d : Disp) (a : Option Answer) → MayJudge s P c n d a → (unsettled n P ≡ true) × (sent_for n P ≡ c)
judge_fits s P c n d None h = absurd h
judge_fits s P c n d (Some a) h = judge_unsettled P c n (and_left (to_judge P c n) _ h.0)

pub judge_early : (s : HostSpec) (P : List Entry) (c n : ℕ) (d : Disp) (a : Option Answer) → MayJudge s P c n d a → not (has_begun P) ≡ true
judge_early s P c n d None h = absurd h
judge_early s P c n d (Some a) h = and_right (to_judge P c n) _ h.0

pub is_first_among : (n : ℕ) (ms : List ℕ) → is_first n ms ≡ true → among n ms ≡ true
is_first_among n [] h = cc h
is_first_among n (m ∷ ms) h = rw (eqb-true m n h, eq-eqb n n refl) refl

pub owns_open : (n : ℕ) (by : By) (P : List Entry) → may_own n by P ≡ true → is_open n P ≡ true
owns_open n ByAnswer P h = and_left _ _ h
owns_open n ByExpiry P h = and_left _ _ h

pub sent_picked : (s : HostSpec) (P : List Entry) (c n t : ℕ) → may_send s P c n t ≡ true → (waits (standing c P) ≡ true) × (n ≡ sends P + 1)
sent_picked s P c n t h =
    let abcd = and_left (not (in_recovery P) && is_number c (pick s P) && is_online s (dev_of s c) P && (n == sends P + 1)) (is_least_free s P t) h in
    let abc = and_left (not (in_recovery P) && is_number c (pick s P) && is_online s (dev_of s c) P) (n == sends P + 1) abcd in
    let ab = and_left (not (in_recovery P) && is_number c (pick s P)) (is_online s (dev_of s c) P) abc in
    (found_pick s c P _ (and_right (not (in_recovery P)) _ ab), eqb-true n (sends P + 1) (and_right (not (in_recovery P) && is_number c (pick s P) && is_online s (dev_of s c) P) _ abcd))

pub opener_fits : (s : HostSpec) (c : ℕ) (P : List Entry) (e : Entry) → Allowed s P e → Held c P → Fits c P e
opener_fits s c P (Took d) al held = λ q. subst (λ k. is_new (standing k P) ≡ true) q (found_left d.0 (command s d.0).lane.0 P s.cmds (and_left _ _ al))
opener_fits s c P (Sent d m t) al held = let x = sent_picked s P d.0 m.0 t.0 al in (λ q. subst (λ k. waits (standing k P) ≡ true) q x.0, x.1)
opener_fits s c P (Bounced d m why) al held = al
opener_fits s c P (Owned m by) al held = owns_open m.0 by P al
opener_fits s c P (Judged d m x) al held = inr (judge_fits s P d.0 m.0 x (answer m.0 P) al)
opener_fits s c P (AbortSet d m) al held = abort_unsettled P d.0 m.0 (and_left (to_abort P d.0 m.0) _ al)
opener_fits s c P (Aborted d m ok) al held = (is_first_among m.0 (aborts P) (and_left (is_first m.0 (aborts P)) _ (and_left (is_first m.0 (aborts P) && (sent_for m.0 P == d.0)) _ al)), eqb-true (sent_for m.0 P) d.0 (and_right (is_first m.0 (aborts P)) _ (and_left (is_first m.0 (aborts P) && (sent_for m.0 P == d.0)) _ al)))
opener_fits s c P (Failed d m x) al held = λ q. let u = abort_unsettled P d.0 m.0 (and_right x (to_abort P d.0 m.0) (and_left (x && to_abort P d.0 m.0) _ al)) in inl ((held.0 m.0 (u.1 ∙ q)).1 u.0)
opener_fits s c P (Again d x) al held = λ q. subst (λ k. MayEnd k P) refl (flushed_ends s c P (subst (λ k. is_flushed s P k ≡ true) q (and_right x _ (and_left (x && is_flushed s P d.0) _ al))) held)
opener_fits s c P (Told d a) al held = λ q. telling_ends s c P a (subst (λ k. telling s P k ≡ Some a) q al) held
opener_fits s c P e al held = tt

-- what is owed fits too
pub ends_fit : (c : ℕ) (P : List Entry) (e : Entry) → EndsAt c P e → Held c P → Fits c P e
ends_fit c P (Failed d m x) h held = λ q. inr (h q)
ends_fit c P (Again d x) h held = λ q. let y = h q in settled_ends c y.0 P y.1 held.2
ends_fit c P (Told d a) h held = λ q. let y = h q in settled_ends c y.0 P y.1 held.2
ends_fit c P e h held = absurd h

pub calm_fits : (c : ℕ) (P : List Entry) (e : Entry) → has_begun P ≡ true → is_calm e ≡ true → Fits c P e
calm_fits c P (Judged d m x) b h = inl b
calm_fits c P (Cleared d level) b h = tt
calm_fits c P (Sensed d n x) b h = tt
calm_fits c P (Probe d code say) b h = tt
calm_fits c P (Offline d) b h = tt
calm_fits c P e b h = cc h

pub owed_fits : (c : ℕ) (P : List Entry) (k : Course) (e : Entry) → OwedOf c P k → Meets k e → Held c P → Fits c P e
owed_fits c P over e o m held = absurd m
owed_fits c P (next x over) e (inl o) m held = calm_fits c P e o.0 (subst (λ y. is_calm y ≡ true) (sym m) o.1)
owed_fits c P (next x over) e (inr o) m held = ends_fit c P e (subst (EndsAt c P) (sym m) o) held
owed_fits c P (next x (next y k)) e o m held = calm_fits c P e o.0 (meets_owes Calm (next x (next y k)) e o.1 m)
owed_fits c P (next x (ask d code want k)) e o m held = calm_fits c P e o.0 (meets_owes Calm (next x (ask d code want k)) e o.1 m)
owed_fits c P (next x (fetch d n k)) e o m held = calm_fits c P e o.0 (meets_owes Calm (next x (fetch d n k)) e o.1 m)
owed_fits c P (ask d code want k) e o m held = calm_fits c P e o.0 (meets_owes Calm (ask d code want k) e o.1 m)
owed_fits c P (fetch d n k) e o m held = calm_fits c P e o.0 (meets_owes Calm (fetch d n k) e o.1 m)

pub stands_fits : (s : HostSpec) (c : ℕ) (P : List Entry) (k : Course) (e : Entry) → OwedOf c P k → Stands k s P e → Held c P → Fits c P e
stands_fits s c P over e o st held = opener_fits s c P e st held
stands_fits s c P (next x k) e o st held = owed_fits c P (next x k) e o st held
stands_fits s c P (ask d code want k) e o st held = owed_fits c P (ask d code want k) e o st held
stands_fits s c P (fetch d n k) e o st held = owed_fits c P (fetch d n k) e o st held

-- and what is owed then
pub calm_owed : (c : ℕ) (P : List Entry) (k : Course) → has_begun P ≡ true → Owes Calm k → OwedOf c P k
calm_owed c P over b h = tt
calm_owed c P (next x over) b h = inl (b, h.0)
calm_owed c P (next x (next y k)) b h = (b, h)
calm_owed c P (next x (ask d code want k)) b h = (b, h)
calm_owed c P (next x (fetch d n k)) b h = (b, h)
calm_owed c P (ask d code want k) b h = (b, h)
calm_owed c P (fetch d n k) b h = (b, h)

pub judged_stage : (c : ℕ) (P : List Entry) (d : CmdId) (m : Attempt) (x : Disp) → not (has_begun P) ≡ true → d.0 ≡ c → stage c (Judged d m x ∷ P) ≡ settled m.0
judged_stage c P d m x b q = subst (λ k. stage k (Judged d m x ∷ P) ≡ settled m.0) q (rw (eq-eqb d.0 d.0 refl, b) refl)

pub aborted_stage : (c : ℕ) (P : List Entry) (d : CmdId) (m : Attempt) (ok : Bool) → d.0 ≡ c → stage c (Aborted d m ok ∷ P) ≡ settled m.0
aborted_stage c P d m ok q = subst (λ k. stage k (Aborted d m ok ∷ P) ≡ settled m.0) q (rw (eq-eqb d.0 d.0 refl) refl)

pub judged_owed : (c : ℕ) (P : List Entry) (d : CmdId) (m : Attempt) (x : Disp) (a : Option Answer) → not (has_begun P) ≡ true → OwedOf c (Judged d m x ∷ P) (judged d m x a)
judged_owed c P d m Success (Some a) b = inr (λ q. (m.0, judged_stage c P d m Success b q))
judged_owed c P d m Success None b = tt
judged_owed c P d m Retry a b = inr (λ q. (m.0, judged_stage c P d m Retry b q))
judged_owed c P d m Requeue a b = inr (λ q. (m.0, judged_stage c P d m Requeue b q))
judged_owed c P d m Fail a b = inr (λ q. judged_stage c P d m Fail b q)

pub aborted_end : (c : ℕ) (P : List Entry) (d : CmdId) (m : Attempt) (b : Bool) → EndsAt c (Aborted d m true ∷ P) (cond b (Again d true) (Told d time_out))
aborted_end c P d m true = λ q. (m.0, aborted_stage c P d m true q)
aborted_end c P d m false = λ q. (m.0, aborted_stage c P d m true q)

pub aborted_owed : (s : HostSpec) (c : ℕ) (P : List Entry) (d : CmdId) (m : Attempt) (ok : Bool) → OwedOf c (Aborted d m ok ∷ P) (aborted s P d m ok)
aborted_owed s c P d m true = inr (aborted_end c P d m (may_retry s P d.0))
aborted_owed s c P d m false = inr (λ q. aborted_stage c P d m false q)

pub course_owed : (s : HostSpec) (c : ℕ) (P : List Entry) (e : Entry) → Allowed s P e → OwedOf c (e ∷ P) (course s P e)
course_owed s c P (Judged d m x) al = judged_owed c P d m x (answer m.0 P) (judge_early s P d.0 m.0 x (answer m.0 P) al)
course_owed s c P (Aborted d m ok) al = aborted_owed s c P d m ok
course_owed s c P EhBegin al = calm_owed c (EhBegin ∷ P) (course s P EhBegin) refl (begin_calm s P)
course_owed s c P (Act level scope ok) al = calm_owed c (Act level scope ok ∷ P) (course s P (Act level scope ok)) (and_right (is_quiet s P) _ (and_left (is_quiet s P && has_begun P) _ al.0)) (climb_calm s P level scope ok)
course_owed s c P e al = tt

pub calm_begun : (P : List Entry) (e : Entry) → is_calm e ≡ true → has_begun P ≡ true → has_begun (e ∷ P) ≡ true
calm_begun P (Judged d m x) h b = b
calm_begun P (Cleared d level) h b = b
calm_begun P (Sensed d n x) h b = b
calm_begun P (Probe d code say) h b = b
calm_begun P (Offline d) h b = b
calm_begun P e h b = cc h

pub calm_after : (c : ℕ) (P : List Entry) (k : Course) (e : Entry) → Meets k e → has_begun P ≡ true → Owes Calm k → OwedOf c (e ∷ P) (after k e)
calm_after c P k e m b h = calm_owed c (e ∷ P) (after k e) (calm_begun P e (meets_owes Calm k e h m) b) (after_owes Calm k e h)

pub after_owed : (s : HostSpec) (c : ℕ) (P : List Entry) (k : Course) (e : Entry) → OwedOf c P k → Stands k s P e → OwedOf c (e ∷ P) (goes_on k s P e)
after_owed s c P over e o st = course_owed s c P e st
after_owed s c P (next x over) e o st = tt
after_owed s c P (next x (next y k)) e o st = calm_after c P (next x (next y k)) e st o.0 o.1
after_owed s c P (next x (ask d code want k)) e o st = calm_after c P (next x (ask d code want k)) e st o.0 o.1
after_owed s c P (next x (fetch d n k)) e o st = calm_after c P (next x (fetch d n k)) e st o.0 o.1
after_owed s c P (ask d code want k) e o st = calm_after c P (ask d code want k) e st o.0 o.1
after_owed s c P (fetch d n k) e o st = calm_after c P (fetch d n k) e st o.0 o.1

pub owed_of : (s : HostSpec) (c : ℕ) (P : List Entry) → EachStands s P → OwedOf c P (owed s P)
owed_of s c [] each = tt
owed_of s c (e ∷ P) each = after_owed s c P (owed s P) e (owed_of s c P each.1) each.0
