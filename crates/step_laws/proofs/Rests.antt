-- What a legal journal has of a command while recovery goes on.
use Rattle.std.proofs.Common.{◌≡◌, ℕ, ◌+◌, ◌==◌, Bool, true, false, not, ◌&&◌, ◌||◌, cond, filter, List, [], ◌∷◌, ◌++◌, refl, sym, ◌∙◌, subst, ⊎_elim, is_some, find, Option, Some}
use Rattle.std.specs.Prelude.{⊤}
use Rattle.std.specs.List.{list_any, list_all}
use Rattle.std.proofs.lemmas.Bool.{eqb-true, cases_Bool, and_parts, and_from, not-true, or_right, or_left, or_cases}
use Rattle.std.proofs.lemmas.Bool.Decides.{eqb_tells}
use Rattle.mid_base.specs.declared.names.CmdId.{CmdId}
use Rattle.mid_base.specs.declared.names.Attempt.{Attempt}
use Rattle.mid_base.specs.declared.names.Tag.{Tag}
use Rattle.mid_base.specs.declared.answers.By.{By}
use Rattle.mid_base.specs.declared.answers.Disp.{Disp}
use Rattle.mid_base.specs.declared.entries.Entry.{Entry}
use Rattle.mid_base.specs.declared.entries.Entry.TheVariants.{Took, Sent, Bounced, Owned, Judged, AbortSet, Aborted, Failed, Again, Told, EhBegin, EhEnd}
use Rattle.mid_base.specs.declared.host_spec.CmdSpec.{CmdSpec}
use Rattle.mid_base.specs.declared.host_spec.HostSpec.{HostSpec}
use Rattle.mid_base.specs.Past.{attempt_of, sent_for}
use Rattle.trace_model.specs.Names.{command, dev_of}
use Rattle.trace_model.specs.Attempts.{sends, owner}
use Rattle.trace_model.specs.Commands.{standing, is_busy, is_failed, failed_since_sent, taken}
use Rattle.trace_model.specs.Devices.{has_begun, in_recovery, is_online}
use Rattle.trace_model.specs.Sending.{is_left, is_command, is_pickable, is_number, pick, is_next_of_lane, is_least_free}
use Rattle.trace_model.specs.Recovery.{failed, is_quiet}
use Rattle.trace_model.specs.Flush.{is_empty}
use Rattle.trace_model.specs.Legal.{owed, EachStands}
use Rattle.trace_model.proofs.Owes.{stands}
use Rattle.trace_model.proofs.Stage.{Stage, idle, out, owned, aborting, settled, failing, own, stage, unsettled}
use Rattle.trace_model.proofs.Once.{Held, Fits, stands_fits, owed_of}
use Rattle.trace_model.proofs.OnceMore.{held_all}

-- a command that the spec has
abbrev known : HostSpec → ℕ → Bool
known s c = list_any (λ k. k.id.0 == c) s.cmds

found_known : (c lane : ℕ) (P : List Entry) (ks : List CmdSpec) → is_command c (find (is_left lane P) ks) ≡ true → list_any (λ k. k.id.0 == c) ks ≡ true
found_known c lane P [] h = cc h
found_known c lane P (k ∷ ks) h = ⊎_elim
    (λ yes. or_left (k.id.0 == c) (list_any (λ j. j.id.0 == c) ks) (rw yes at h))
    (λ no. or_right (k.id.0 == c) (list_any (λ j. j.id.0 == c) ks) (found_known c lane P ks (rw no at h)))
    (cases_Bool (is_left lane P k))

all_snoc : (f : ℕ → Bool) (ns : List ℕ) (n : ℕ) → list_all f ns ≡ true → f n ≡ true → list_all f (ns ++ n ∷ []) ≡ true
all_snoc f [] n h e = and_from (f n) true e refl
all_snoc f (m ∷ ns) n h e = let parts = and_parts (f m) (list_all f ns) h in and_from (f m) (list_all f (ns ++ n ∷ [])) parts.0 (all_snoc f ns n parts.1 e)

taken_known : (s : HostSpec) (P : List Entry) → EachStands s P → list_all (known s) (taken P) ≡ true
taken_known s [] each = refl
taken_known s (Took c ∷ P) each = all_snoc (known s) (taken P) c.0 (taken_known s P each.1)
    (⊎_elim (λ al. found_known c.0 (command s c.0).lane.0 P s.cmds (and_parts (is_next_of_lane s P c.0) _ al).0) (λ f. absurd (⊎_elim (λ q. cc q) (λ q. cc q) f)) (stands s P (Took c) each.0))
taken_known s (e ∷ P) each = taken_known s P each.1

picked_known : (s : HostSpec) (c : ℕ) (P : List Entry) (order : List ℕ) → is_number c (find (is_pickable s P) order) ≡ true → list_all (known s) order ≡ true → known s c ≡ true
picked_known s c P [] h all = cc h
picked_known s c P (d ∷ order) h all =
    let parts = and_parts (known s d) (list_all (known s) order) all in
    ⊎_elim
    (λ yes. subst (λ (k : ℕ). known s k ≡ true) (eqb-true d c (rw yes at h)) parts.0)
    (λ no. picked_known s c P order (rw no at h) parts.1)
    (cases_Bool (is_pickable s P d))

sent_out : (s : HostSpec) (P : List Entry) (d : CmdId) (m : Attempt) (t : Tag) → EachStands s (Sent d m t ∷ P) → (in_recovery P ≡ false) × (is_number d.0 (pick s P) ≡ true)
sent_out s P d m t each = ⊎_elim
    (λ al.
    let four = and_parts (not (in_recovery P) && is_number d.0 (pick s P) && is_online s (dev_of s d.0) P && (m.0 == sends P + 1)) (is_least_free s P t.0) al in
    let three = and_parts (not (in_recovery P) && is_number d.0 (pick s P) && is_online s (dev_of s d.0) P) (m.0 == sends P + 1) four.0 in
    let two = and_parts (not (in_recovery P) && is_number d.0 (pick s P)) (is_online s (dev_of s d.0) P) three.0 in
    let one = and_parts (not (in_recovery P)) (is_number d.0 (pick s P)) two.0 in
    (not-true _ one.0, one.1))
    (λ f. absurd (⊎_elim (λ q. cc q) (λ q. cc q) f))
    (stands s P (Sent d m t) each.0)

busy_known : (s : HostSpec) (c : ℕ) (P : List Entry) → EachStands s P → is_busy (standing c P) ≡ true → known s c ≡ true
busy_known s c [] each b = cc b
busy_known s c (Sent d m t ∷ P) each b = ⊎_elim
    (λ yes. subst (λ (k : ℕ). known s k ≡ true) yes.1 (picked_known s d.0 P (taken P) (sent_out s P d m t each).1 (taken_known s P each.1)))
    (λ no. busy_known s c P each.1 (rw no.0 at b))
    (eqb_tells d.0 c)
busy_known s c (Took d ∷ P) each b = ⊎_elim (λ yes. absurd (cc (rw yes.0 at b))) (λ no. busy_known s c P each.1 (rw no.0 at b)) (eqb_tells d.0 c)
busy_known s c (Bounced d m why ∷ P) each b = ⊎_elim (λ yes. absurd (cc (rw yes.0 at b))) (λ no. busy_known s c P each.1 (rw no.0 at b)) (eqb_tells d.0 c)
busy_known s c (Again d x ∷ P) each b = ⊎_elim (λ yes. absurd (cc (rw yes.0 at b))) (λ no. busy_known s c P each.1 (rw no.0 at b)) (eqb_tells d.0 c)
busy_known s c (Told d a ∷ P) each b = ⊎_elim (λ yes. absurd (cc (rw yes.0 at b))) (λ no. busy_known s c P each.1 (rw no.0 at b)) (eqb_tells d.0 c)
busy_known s c (e ∷ P) each b = busy_known s c P each.1 b

-- recovery that has begun is recovery

filtered_some : {A : Type 0} (p : A → Bool) (xs : List A) → is_empty (filter p xs) ≡ false → is_empty xs ≡ false
filtered_some p [] h = h
filtered_some p (x ∷ xs) h = refl

failed_in : (s : HostSpec) (P : List Entry) → EachStands s P → is_empty (failed P) ≡ false → in_recovery P ≡ true
failed_in s [] each h = cc h
failed_in s (Failed c n x ∷ P) each h = refl
failed_in s (EhEnd ∷ P) each h = ⊎_elim (λ al. absurd (cc (sym h ∙ (and_parts (has_begun P) (is_empty (failed P)) al).1))) (λ f. absurd (⊎_elim (λ q. cc q) (λ q. cc q) f)) (stands s P EhEnd each.0)
failed_in s (Again c x ∷ P) each h = failed_in s P each.1 (filtered_some _ (failed P) h)
failed_in s (Told c a ∷ P) each h = failed_in s P each.1 (filtered_some _ (failed P) h)
failed_in s (e ∷ P) each h = failed_in s P each.1 h

item_any : {A : Type 0} (xs : List A) → list_any (λ x. true) xs ≡ true → is_empty xs ≡ false
item_any [] h = cc h
item_any (x ∷ xs) h = refl

pub begun_stands : (s : HostSpec) (P : List Entry) → EachStands s (EhBegin ∷ P) → (is_quiet s P ≡ true) × (is_empty (failed P) ≡ false)
begun_stands s P each = ⊎_elim
    (λ al. let ab = and_parts (is_quiet s P && not (has_begun P)) _ al in ((and_parts (is_quiet s P) _ ab.0).0, item_any (failed P) ab.1))
    (λ f. absurd (⊎_elim (λ q. cc q) (λ q. cc q) f))
    (stands s P EhBegin each.0)

pub begun_in : (s : HostSpec) (P : List Entry) → EachStands s P → has_begun P ≡ true → in_recovery P ≡ true
begun_in s [] each h = cc h
begun_in s (EhBegin ∷ P) each h = failed_in s P each.1 (begun_stands s P each).1
begun_in s (EhEnd ∷ P) each h = cc h
begun_in s (Failed c n x ∷ P) each h = refl
begun_in s (e ∷ P) each h = begun_in s P each.1 h

-- the stage of a command

abbrev pub IsRest : Stage → Type 0
IsRest idle = ⊤
IsRest (failing n) = ⊤
IsRest x = ⊥

abbrev pub Runs : ℕ → List Entry → Stage → Type 0
Runs c P idle = ⊤
Runs c P (out n) = attempt_of c P ≡ n
Runs c P (owned n) = (attempt_of c P ≡ n) × (is_some (owner n P) ≡ true)
Runs c P (aborting n) = (attempt_of c P ≡ n) × (is_some (owner n P) ≡ true)
Runs c P (settled n) = (attempt_of c P ≡ n) × (is_some (owner n P) ≡ true)
Runs c P (failing n) = (attempt_of c P ≡ n) × (is_some (owner n P) ≡ true)

-- c is failed only where its stage says so, within recovery it rests, and its stage is of its last attempt
abbrev pub Rests : ℕ → List Entry → Type 0
Rests c P =
    (failed_since_sent c P ≡ true → IsRest (stage c P))
    × (has_begun P ≡ true → IsRest (stage c P))
    × Runs c P (stage c P)
    × ((n : ℕ) → stage c P ≡ failing n → failed_since_sent c P ≡ true)
    × (is_busy (standing c P) ≡ true → stage c P ≡ idle → ⊥)

own_rest : (m : ℕ) (x : Stage) → IsRest x → IsRest (own m x)
own_rest m idle h = tt
own_rest m (failing n) h = tt
own_rest m (out n) h = absurd h
own_rest m (owned n) h = absurd h
own_rest m (aborting n) h = absurd h
own_rest m (settled n) h = absurd h

still_some : (b : Bool) (by : By) (o : Option By) → is_some o ≡ true → is_some (cond b (Some by) o) ≡ true
still_some true by o h = refl
still_some false by o h = h

own_runs : (c : ℕ) (P : List Entry) (m : Attempt) (by : By) (x : Stage) → Runs c P x → Runs c (Owned m by ∷ P) (own m.0 x)
own_runs c P m by idle h = tt
own_runs c P m by (failing n) h = (h.0, still_some (m.0 == n) by (owner n P) h.1)
own_runs c P m by (out n) h = ⊎_elim (λ yes. rw yes.0 (h, rw yes.0 refl)) (λ no. rw no.0 h) (eqb_tells m.0 n)
own_runs c P m by (owned n) h = (h.0, still_some (m.0 == n) by (owner n P) h.1)
own_runs c P m by (aborting n) h = (h.0, still_some (m.0 == n) by (owner n P) h.1)
own_runs c P m by (settled n) h = (h.0, still_some (m.0 == n) by (owner n P) h.1)

pub own_failing : (m : ℕ) (x : Stage) (n : ℕ) → own m x ≡ failing n → x ≡ failing n
own_failing m idle n e = e
own_failing m (failing k) n e = e
own_failing m (out k) n e = ⊎_elim (λ yes. absurd (cc (rw yes.0 at e))) (λ no. rw no.0 at e) (eqb_tells m k)
own_failing m (owned k) n e = e
own_failing m (aborting k) n e = e
own_failing m (settled k) n e = e

own_idle : (m : ℕ) (x : Stage) → own m x ≡ idle → x ≡ idle
own_idle m idle e = e
own_idle m (failing k) e = e
own_idle m (out k) e = ⊎_elim (λ yes. absurd (cc (rw yes.0 at e))) (λ no. rw no.0 at e) (eqb_tells m k)
own_idle m (owned k) e = e
own_idle m (aborting k) e = e
own_idle m (settled k) e = e

judged_rests : (c : ℕ) (P : List Entry) (d : CmdId) (m : Attempt) (x : Disp) → Fits c P (Judged d m x) → Held c P → Rests c P → Rests c (Judged d m x ∷ P)
judged_rests c P d m x fit held h = ⊎_elim
    (λ yes.
    let parts = and_parts (d.0 == c) (not (has_begun P)) yes in
    let new : has_begun P ≡ false = not-true _ parts.1 in
    ⊎_elim
    (λ b. absurd (cc (sym new ∙ b)))
    (λ u. let e : stage c P ≡ owned m.0 = (held.0 m.0 (u.1 ∙ eqb-true d.0 c parts.0)).1 u.0 in rw yes (
      λ f. absurd (subst IsRest e (h.0 f)),
      λ b. absurd (cc (sym new ∙ b)),
      subst (Runs c P) e h.2,
      λ n q. cc q,
      λ b q. cc q,
    ))
    fit)
    (λ no. rw no h)
    (cases_Bool ((d.0 == c) && not (has_begun P)))

abortset_rests : (c : ℕ) (P : List Entry) (d : CmdId) (m : Attempt) → Fits c P (AbortSet d m) → Held c P → Rests c P → Rests c (AbortSet d m ∷ P)
abortset_rests c P d m fit held h = ⊎_elim
    (λ yes. let e : stage c P ≡ owned m.0 = (held.0 m.0 (fit.1 ∙ yes.1)).1 fit.0 in rw yes.0 (
      λ f. absurd (subst IsRest e (h.0 f)),
      λ b. absurd (subst IsRest e (h.1 b)),
      subst (Runs c P) e h.2,
      λ n q. cc q,
      λ b q. cc q,
    ))
    (λ no. rw no.0 h)
    (eqb_tells d.0 c)

aborted_rests : (c : ℕ) (P : List Entry) (d : CmdId) (m : Attempt) (ok : Bool) → Fits c P (Aborted d m ok) → Held c P → Rests c P → Rests c (Aborted d m ok ∷ P)
aborted_rests c P d m ok fit held h = ⊎_elim
    (λ yes. let e : stage c P ≡ aborting m.0 = (held.0 m.0 (fit.1 ∙ yes.1)).2 fit.0 in rw yes.0 (
      λ f. absurd (subst IsRest e (h.0 f)),
      λ b. absurd (subst IsRest e (h.1 b)),
      subst (Runs c P) e h.2,
      λ n q. cc q,
      λ b q. cc q,
    ))
    (λ no. rw no.0 h)
    (eqb_tells d.0 c)

failed_rests : (c : ℕ) (P : List Entry) (d : CmdId) (m : Attempt) (x : Bool) → Fits c P (Failed d m x) → Rests c P → Rests c (Failed d m x ∷ P)
failed_rests c P d m x fit h = ⊎_elim
    (λ yes. rw yes.0 (λ f. tt, λ b. tt, ⊎_elim (λ e. subst (Runs c P) e h.2) (λ e. subst (Runs c P) e h.2) (fit yes.1), λ n q. refl, λ b q. cc q))
    (λ no. rw no.0 h)
    (eqb_tells d.0 c)

quiet_failed : (c : ℕ) (P : List Entry) (ks : List CmdSpec) → list_all (λ k. not (is_busy (standing k.id.0 P)) || is_failed k.id.0 P) ks ≡ true
    → list_any (λ k. k.id.0 == c) ks ≡ true → is_busy (standing c P) ≡ true → failed_since_sent c P ≡ true
quiet_failed c P [] q k b = cc k
quiet_failed c P (j ∷ ks) q k b =
    let parts = and_parts (not (is_busy (standing j.id.0 P)) || is_failed j.id.0 P) _ q in
    ⊎_elim
    (λ yes.
    let here : not (is_busy (standing c P)) || is_failed c P ≡ true = subst (λ (i : ℕ). not (is_busy (standing i P)) || is_failed i P ≡ true) yes.1 parts.0 in
    ⊎_elim
    (λ n. absurd (cc (sym (not-true _ n) ∙ b)))
    (λ f. (and_parts (is_busy (standing c P)) (failed_since_sent c P) f).1)
    (or_cases (not (is_busy (standing c P))) (is_failed c P) here))
    (λ no. quiet_failed c P ks parts.1 (rw no.0 at k) b)
    (eqb_tells j.id.0 c)

begin_rests : (s : HostSpec) (c : ℕ) (P : List Entry) → EachStands s (EhBegin ∷ P) → Held c P → Rests c P → IsRest (stage c P)
begin_rests s c P each held h = ⊎_elim
    (λ i. subst IsRest (sym i) tt)
    (λ b. h.0 (quiet_failed c P s.cmds (begun_stands s P each).0 (busy_known s c P each.1 b) b))
    held.2

sent_runs : (c : ℕ) (P : List Entry) (d : CmdId) (m : Attempt) (t : Tag) (x : Stage) → attempt_of c (Sent d m t ∷ P) ≡ attempt_of c P → Runs c P x → Runs c (Sent d m t ∷ P) x
sent_runs c P d m t idle e h = tt
sent_runs c P d m t (out n) e h = e ∙ h
sent_runs c P d m t (owned n) e h = (e ∙ h.0, h.1)
sent_runs c P d m t (aborting n) e h = (e ∙ h.0, h.1)
sent_runs c P d m t (settled n) e h = (e ∙ h.0, h.1)
sent_runs c P d m t (failing n) e h = (e ∙ h.0, h.1)

rests_next : (s : HostSpec) (c : ℕ) (P : List Entry) (e : Entry) → EachStands s (e ∷ P) → Fits c P e → Held c P → Rests c P → Rests c (e ∷ P)
rests_next s c P (Took d) each fit held h = ⊎_elim (λ yes. rw yes.0 (λ f. tt, λ b. tt, tt, λ n q. absurd (cc q), λ b q. cc b)) (λ no. rw no.0 h) (eqb_tells d.0 c)
rests_next s c P (Sent d m t) each fit held h = ⊎_elim
    (λ yes.
    let last : attempt_of c (Sent d m t ∷ P) ≡ m.0 = rw yes.0 refl in
    rw yes.0 (λ f. absurd (cc f), λ b. absurd (cc (sym (sent_out s P d m t each).0 ∙ begun_in s P each.1 b)), last, λ n q. absurd (cc q), λ b q. cc q))
    (λ no.
    let same : attempt_of c (Sent d m t ∷ P) ≡ attempt_of c P = rw no.0 refl in
    rw no.0 (h.0, h.1, sent_runs c P d m t (stage c P) same h.2, h.3, h.4))
    (eqb_tells d.0 c)
rests_next s c P (Bounced d m why) each fit held h = ⊎_elim (λ yes. rw yes.0 (λ f. tt, λ b. tt, tt, λ n q. absurd (cc q), λ b q. cc b)) (λ no. rw no.0 h) (eqb_tells d.0 c)
rests_next s c P (Owned m by) each fit held h = (
  λ f. own_rest m.0 (stage c P) (h.0 f),
  λ b. own_rest m.0 (stage c P) (h.1 b),
  own_runs c P m by (stage c P) h.2,
  λ n q. h.3 n (own_failing m.0 (stage c P) n q),
  λ b q. h.4 b (own_idle m.0 (stage c P) q),
)
rests_next s c P (Judged d m x) each fit held h = judged_rests c P d m x fit held h
rests_next s c P (AbortSet d m) each fit held h = abortset_rests c P d m fit held h
rests_next s c P (Aborted d m ok) each fit held h = aborted_rests c P d m ok fit held h
rests_next s c P (Failed d m x) each fit held h = failed_rests c P d m x fit h
rests_next s c P (Again d x) each fit held h = ⊎_elim (λ yes. rw yes.0 (λ f. tt, λ b. tt, tt, λ n q. absurd (cc q), λ b q. cc b)) (λ no. rw no.0 h) (eqb_tells d.0 c)
rests_next s c P (Told d a) each fit held h = ⊎_elim (λ yes. rw yes.0 (λ f. tt, λ b. tt, tt, λ n q. absurd (cc q), λ b q. cc b)) (λ no. rw no.0 h) (eqb_tells d.0 c)
rests_next s c P EhBegin each fit held h = (h.0, λ b. begin_rests s c P each held h, h.2, h.3, h.4)
rests_next s c P EhEnd each fit held h = (h.0, λ b. absurd (cc b), h.2, h.3, h.4)
rests_next s c P e each fit held h = h

pub rests : (s : HostSpec) (c : ℕ) (P : List Entry) → EachStands s P → Rests c P
rests s c [] each = (λ f. tt, λ b. tt, tt, λ n q. absurd (cc q), λ b q. cc b)
rests s c (e ∷ P) each =
    let held = held_all s c P each.1 in
    rests_next s c P e each (stands_fits s c P (owed s P) e (owed_of s c P each.1) each.0 held) held (rests s c P each.1)

-- while recovery goes on nothing is owned and unsettled
pub none_unsettled : (s : HostSpec) (P : List Entry) (n : ℕ) → EachStands s P → has_begun P ≡ true → unsettled n P ≡ true → ⊥
none_unsettled s P n each b u = subst IsRest (((held_all s (sent_for n P) P each).0 n refl).1 u) ((rests s (sent_for n P) P each).1 b)

-- while recovery goes on each busy command is failed
rest_failing : (x : Stage) → IsRest x → (x ≡ idle → ⊥) → (n : ℕ) × (x ≡ failing n)
rest_failing idle r i = absurd (i refl)
rest_failing (failing n) r i = (n, refl)
rest_failing (out n) r i = absurd r
rest_failing (owned n) r i = absurd r
rest_failing (aborting n) r i = absurd r
rest_failing (settled n) r i = absurd r

one_quiet : (s : HostSpec) (c : ℕ) (P : List Entry) → EachStands s P → has_begun P ≡ true → not (is_busy (standing c P)) || is_failed c P ≡ true
one_quiet s c P each b = ⊎_elim
    (λ busy.
    let h = rests s c P each in
    let f = rest_failing (stage c P) (h.1 b) (h.4 busy) in
    or_right (not (is_busy (standing c P))) (is_failed c P) (and_from (is_busy (standing c P)) (failed_since_sent c P) busy (h.3 f.0 f.1)))
    (λ no. or_left (not (is_busy (standing c P))) (is_failed c P) (rw no refl))
    (cases_Bool (is_busy (standing c P)))

all_quiet : (s : HostSpec) (P : List Entry) (ks : List CmdSpec) → EachStands s P → has_begun P ≡ true → list_all (λ k. not (is_busy (standing k.id.0 P)) || is_failed k.id.0 P) ks ≡ true
all_quiet s P [] each b = refl
all_quiet s P (k ∷ ks) each b = and_from (not (is_busy (standing k.id.0 P)) || is_failed k.id.0 P) _ (one_quiet s k.id.0 P each b) (all_quiet s P ks each b)

pub begun_quiet : (s : HostSpec) (P : List Entry) → EachStands s P → has_begun P ≡ true → is_quiet s P ≡ true
begun_quiet s P each b = all_quiet s P s.cmds each b
