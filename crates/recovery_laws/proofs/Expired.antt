-- Where a cancelled attempt failed, its expiry owns it.
use Rattle.std.proofs.Common.{◌≡◌, ◌⊎◌, ℕ, ◌==◌, Bool, true, false, not, ◌&&◌, cond, filter, List, [], ◌∷◌, ◌++◌, Option, None, Some, refl, subst, ⊎_elim}
use Rattle.std.specs.List.{list_all}
use Rattle.std.proofs.lemmas.Bool.{eqb-true, cases_Bool, and_parts, and_from}
use Rattle.std.proofs.lemmas.Bool.Decides.{eqb_tells}
use Rattle.mid_base.specs.Answers.{time_out}
use Rattle.mid_base.specs.Past.{sent_for}
use Rattle.mid_base.specs.declared.answers.Answer.{Answer}
use Rattle.mid_base.specs.declared.answers.By.{By}
use Rattle.mid_base.specs.declared.answers.Disp.{Disp}
use Rattle.mid_base.specs.declared.answers.Disp.TheVariants.{Success, Retry, Requeue, Fail}
use Rattle.mid_base.specs.declared.entries.Entry.{Entry}
use Rattle.mid_base.specs.declared.entries.Entry.TheVariants.{Owned, Judged, AbortSet, Aborted, Failed, Cleared, Sensed, Again, Told, EhBegin, Act, Probe, Offline}
use Rattle.mid_base.specs.declared.host_spec.HostSpec.{HostSpec}
use Rattle.mid_base.specs.declared.names.CmdId.{CmdId}
use Rattle.mid_base.specs.declared.names.Attempt.{Attempt}
use Rattle.trace_model.specs.Attempts.{owner, is_by_expiry, is_settled, answer}
use Rattle.trace_model.specs.Commands.{aborts}
use Rattle.trace_model.specs.Course.{Course, over, next, ask, fetch, Meets, after}
use Rattle.trace_model.specs.Judging.{to_abort, is_first, may_retry}
use Rattle.trace_model.specs.Legal.{goes_on, owed, Stands, EachStands}
use Rattle.trace_model.specs.Recovery.{Failure, failed}
use Rattle.trace_model.specs.Rules.{Allowed, course, judged}
use Rattle.trace_model.proofs.Backed.{Owner, owner_in, follower}
use Rattle.trace_model.proofs.Owes.{Owes, Calm, End, Owing, meets_owes, after_owes, owed_owing, begin_calm, climb_calm}
use Rattle.trace_model.proofs.Owners.{owns_open, open_unowned}
use Rattle.recovery_laws.proofs.Owing.{owes_map}

-- a cancelled attempt that fails is owned by its expiry
abbrev Expires : Owner → Entry → Type 0
Expires o (Failed c n cancelled) = cancelled ≡ true → is_by_expiry (o n.0) ≡ true
Expires o e = Unit {0}

abbrev pub HasExpired : Owner → Failure → Type 0
HasExpired o f = f.cancelled ≡ true → is_by_expiry (o f.attempt.0) ≡ true

abbrev pub HaveExpired : Owner → List Failure → Type 0
HaveExpired o [] = Unit {0}
HaveExpired o (f ∷ fs) = HasExpired o f × HaveExpired o fs

more_expired : (o : Owner) (fs : List Failure) (f : Failure) → HaveExpired o fs → HasExpired o f → HaveExpired o (fs ++ f ∷ [])
more_expired o [] f h b = (b, tt)
more_expired o (g ∷ fs) f h b = (h.0, more_expired o fs f h.1 b)

fewer_expired : (o : Owner) (p : Failure → Bool) (fs : List Failure) → HaveExpired o fs → HaveExpired o (filter p fs)
fewer_expired o p [] h = tt
fewer_expired o p (f ∷ fs) h = ⊎_elim (λ kept. rw kept (h.0, fewer_expired o p fs h.1)) (λ gone. rw gone (fewer_expired o p fs h.1)) (cases_Bool (p f))

-- attempts whose abort is scheduled
abbrev pub all_late : Owner → List ℕ → Bool
all_late o ns = list_all (λ n. is_by_expiry (o n)) ns

more_late : (o : Owner) (ns : List ℕ) (n : ℕ) → all_late o ns ≡ true → is_by_expiry (o n) ≡ true → all_late o (ns ++ n ∷ []) ≡ true
more_late o [] n h b = and_from (is_by_expiry (o n)) true b refl
more_late o (m ∷ ns) n h b = let parts = and_parts (is_by_expiry (o m)) (all_late o ns) h in and_from (is_by_expiry (o m)) (all_late o (ns ++ n ∷ [])) parts.0 (more_late o ns n parts.1 b)

fewer_late : (o : Owner) (p : ℕ → Bool) (ns : List ℕ) → all_late o ns ≡ true → all_late o (filter p ns) ≡ true
fewer_late o p [] h = refl
fewer_late o p (n ∷ ns) h =
    let parts = and_parts (is_by_expiry (o n)) (all_late o ns) h in
    ⊎_elim (λ yes. rw yes (and_from (is_by_expiry (o n)) (all_late o (filter p ns)) parts.0 (fewer_late o p ns parts.1))) (λ no. rw no (fewer_late o p ns parts.1)) (cases_Bool (p n))

first_late : (o : Owner) (ns : List ℕ) (n : ℕ) → is_first n ns ≡ true → all_late o ns ≡ true → is_by_expiry (o n) ≡ true
first_late o [] n f h = cc f
first_late o (m ∷ ns) n f h = subst (λ (k : ℕ). is_by_expiry (o k) ≡ true) (eqb-true m n f) (and_parts (is_by_expiry (o m)) (all_late o ns) h).0

-- another attempt gets its owner
unowned_late : (w : Option By) → w ≡ None → is_by_expiry w ≡ true → ⊥
unowned_late None e h = cc h
unowned_late (Some w) e h = cc e

apart : (P : List Entry) (m n : ℕ) → owner m P ≡ None → is_by_expiry (owner n P) ≡ true → (m == n) ≡ false
apart P m n none h = ⊎_elim
    (λ yes. absurd (unowned_late (owner n P) (subst (λ (k : ℕ). owner k P ≡ None) yes.1 none) h))
    (λ no. no.0)
    (eqb_tells m n)

still_late : (P : List Entry) (m : Attempt) (by : By) (n : ℕ) → owner m.0 P ≡ None → is_by_expiry (owner n P) ≡ true → is_by_expiry (owner n (Owned m by ∷ P)) ≡ true
still_late P m by n none h = rw (apart P m.0 n none h) h

owned_expired : (P : List Entry) (m : Attempt) (by : By) (fs : List Failure) → owner m.0 P ≡ None → HaveExpired (owner_in P) fs → HaveExpired (owner_in (Owned m by ∷ P)) fs
owned_expired P m by [] none h = tt
owned_expired P m by (f ∷ fs) none h = (λ q. still_late P m by f.attempt.0 none (h.0 q), owned_expired P m by fs none h.1)

owned_late : (P : List Entry) (m : Attempt) (by : By) (ns : List ℕ) → owner m.0 P ≡ None → all_late (owner_in P) ns ≡ true → all_late (owner_in (Owned m by ∷ P)) ns ≡ true
owned_late P m by [] none h = refl
owned_late P m by (n ∷ ns) none h =
    let parts = and_parts (is_by_expiry (owner n P)) (all_late (owner_in P) ns) h in
    and_from (is_by_expiry (owner n (Owned m by ∷ P))) (all_late (owner_in (Owned m by ∷ P)) ns) (still_late P m by n none parts.0) (owned_late P m by ns none parts.1)

-- each entry keeps it
record Kept (P : List Entry) (k : Course) : Type 0 where
  expired : HaveExpired (owner_in P) (failed P)
  late : all_late (owner_in P) (aborts P) ≡ true
  owes : Owes (Expires (owner_in P)) k

calm_expires : (o : Owner) (e : Entry) → Calm e → Expires o e
calm_expires o (Failed c n x) h = cc h
calm_expires o e h = tt

calm_owes : (o : Owner) (k : Course) → Owes Calm k → Owes (Expires o) k
calm_owes o k h = owes_map Calm (Expires o) (calm_expires o) k h

judged_owes : (o : Owner) (c : CmdId) (n : Attempt) (d : Disp) (a : Option Answer) → Owes (Expires o) (judged c n d a)
judged_owes o c n Success (Some a) = (tt, tt)
judged_owes o c n Success None = tt
judged_owes o c n Retry a = (tt, tt)
judged_owes o c n Requeue a = (tt, tt)
judged_owes o c n Fail a = (λ q. absurd (cc q), tt)

told_or_again : (o : Owner) (b : Bool) (c : CmdId) → Expires o (cond b (Again c true) (Told c time_out))
told_or_again o true c = tt
told_or_again o false c = tt

abort_late : (P : List Entry) (c n : ℕ) → to_abort P c n ≡ true → is_by_expiry (owner n P) ≡ true
abort_late P c n h = (and_parts (is_by_expiry (owner n P)) (not (is_settled n P)) (and_parts (is_by_expiry (owner n P) && not (is_settled n P)) _ h).0).0

first_abort : (s : HostSpec) (P : List Entry) (c : CmdId) (n : Attempt) (ok : Bool) → Allowed s P (Aborted c n ok) → is_first n.0 (aborts P) ≡ true
first_abort s P c n ok al = (and_parts (is_first n.0 (aborts P)) _ (and_parts (is_first n.0 (aborts P) && (sent_for n.0 P == c.0)) _ al).0).0

opens_kept : (s : HostSpec) (P : List Entry) (e : Entry) → EachStands s P → Allowed s P e → Kept P over → Kept (e ∷ P) (course s P e)
opens_kept s P (Judged c n d) each al h = record { expired = h.expired; late = h.late; owes = judged_owes (owner_in P) c n d (answer n.0 P) }
opens_kept s P (AbortSet c n) each al h = record { expired = h.expired; late = more_late (owner_in P) (aborts P) n.0 h.late (abort_late P c.0 n.0 (and_parts (to_abort P c.0 n.0) _ al).0); owes = tt }
opens_kept s P (Aborted c n true) each al h = record { expired = h.expired; late = fewer_late (owner_in P) _ (aborts P) h.late; owes = (told_or_again (owner_in P) (may_retry s P c.0) c, tt) }
opens_kept s P (Aborted c n false) each al h = record {
  expired = h.expired;
  late = fewer_late (owner_in P) _ (aborts P) h.late;
  owes = (λ q. first_late (owner_in P) (aborts P) n.0 (first_abort s P c n false al) h.late, tt);
}
opens_kept s P (Failed c n x) each al h = record {
  expired = more_expired (owner_in P) (failed P) _ h.expired (λ q. abort_late P c.0 n.0 (and_parts x (to_abort P c.0 n.0) (and_parts (x && to_abort P c.0 n.0) _ al).0).1);
  late = h.late;
  owes = tt;
}
opens_kept s P (Again c x) each al h = record { expired = fewer_expired (owner_in P) _ (failed P) h.expired; late = h.late; owes = tt }
opens_kept s P (Told c a) each al h = record { expired = fewer_expired (owner_in P) _ (failed P) h.expired; late = h.late; owes = tt }
opens_kept s P (Owned m by) each al h =
    let none : owner m.0 P ≡ None = open_unowned s P m.0 each (owns_open m.0 by P al) in
    record { expired = owned_expired P m by (failed P) none h.expired; late = owned_late P m by (aborts P) none h.late; owes = tt }
opens_kept s P EhBegin each al h = record { expired = h.expired; late = h.late; owes = calm_owes (owner_in P) (course s P EhBegin) (begin_calm s P) }
opens_kept s P (Act level scope ok) each al h = record { expired = h.expired; late = h.late; owes = calm_owes (owner_in P) (course s P (Act level scope ok)) (climb_calm s P level scope ok) }
opens_kept s P e each al h = record { expired = h.expired; late = h.late; owes = tt }

follows_kept : (P : List Entry) (k : Course) (e : Entry) → (Calm e ⊎ End e) → Meets k e → Kept P k → Kept (e ∷ P) (after k e)
follows_kept P k (Judged c n d) f m h = record { expired = h.expired; late = h.late; owes = after_owes (Expires (owner_in P)) k _ h.owes }
follows_kept P k (Cleared c level) f m h = record { expired = h.expired; late = h.late; owes = after_owes (Expires (owner_in P)) k _ h.owes }
follows_kept P k (Sensed c n x) f m h = record { expired = h.expired; late = h.late; owes = after_owes (Expires (owner_in P)) k _ h.owes }
follows_kept P k (Probe d code say) f m h = record { expired = h.expired; late = h.late; owes = after_owes (Expires (owner_in P)) k _ h.owes }
follows_kept P k (Offline d) f m h = record { expired = h.expired; late = h.late; owes = after_owes (Expires (owner_in P)) k _ h.owes }
follows_kept P k (Failed c n x) f m h = record {
  expired = more_expired (owner_in P) (failed P) _ h.expired (meets_owes (Expires (owner_in P)) k _ h.owes m);
  late = h.late;
  owes = after_owes (Expires (owner_in P)) k _ h.owes;
}
follows_kept P k (Again c x) f m h = record { expired = fewer_expired (owner_in P) _ (failed P) h.expired; late = h.late; owes = after_owes (Expires (owner_in P)) k _ h.owes }
follows_kept P k (Told c a) f m h = record { expired = fewer_expired (owner_in P) _ (failed P) h.expired; late = h.late; owes = after_owes (Expires (owner_in P)) k _ h.owes }
follows_kept P k e f m h = absurd (⊎_elim (λ c. cc c) (λ c. cc c) f)

goes_kept : (s : HostSpec) (P : List Entry) (k : Course) (e : Entry) → EachStands s P → Owing k → Stands k s P e → Kept P k → Kept (e ∷ P) (goes_on k s P e)
goes_kept s P over e each o st h = opens_kept s P e each st h
goes_kept s P (next x k) e each o st h = follows_kept P (next x k) e (follower (next x k) e o st) st h
goes_kept s P (ask d code want k) e each o st h = follows_kept P (ask d code want k) e (follower (ask d code want k) e o st) st h
goes_kept s P (fetch c n k) e each o st h = follows_kept P (fetch c n k) e (follower (fetch c n k) e o st) st h

kept : (s : HostSpec) (P : List Entry) → EachStands s P → Kept P (owed s P)
kept s [] each = record { expired = tt; late = refl; owes = tt }
kept s (e ∷ P) each = goes_kept s P (owed s P) e each.1 (owed_owing s P) each.0 (kept s P each.1)

pub all_expired : (s : HostSpec) (P : List Entry) → EachStands s P → HaveExpired (owner_in P) (failed P)
all_expired s P each = (kept s P each).expired
