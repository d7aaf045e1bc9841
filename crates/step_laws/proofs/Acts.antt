-- EhAct: while a command is left to do, its device's pair of level 8 lies beyond the last act.
use Rattle.std.proofs.Common.{eq-eqb, ◌≡◌, ◌⊎◌, ℕ, ◌==◌, Bool, true, false, not, ◌&&◌, ◌||◌, cond, filter, map, List, [], ◌∷◌, ◌++◌, refl, sym, ◌∙◌, subst, ap, ap₂, inl, inr, ⊎_elim, is_some, Option, None, Some, find}
use Rattle.std.specs.List.{list_any}
use Rattle.std.proofs.lemmas.Bool.{eqb-true, cases_Bool, and_parts, and_from, not-true, not-false, or_right, or_left, or_cases, or_parts, not_from_true}
use Rattle.std.proofs.lemmas.Bool.Decides.{eqb_tells}
use Rattle.std.proofs.lemmas.Option.{none-some}
use Rattle.mid_base.specs.declared.names.CmdId.{CmdId}
use Rattle.mid_base.specs.declared.names.DevAddr.{DevAddr}
use Rattle.mid_base.specs.declared.answers.Answer.{Answer}
use Rattle.mid_base.specs.declared.answers.By.{By}
use Rattle.mid_base.specs.declared.answers.Scope.{Scope}
use Rattle.mid_base.specs.declared.answers.Scope.TheVariants.{Cmd, Dev, Target, Bus, Host}
use Rattle.mid_base.specs.declared.entries.Entry.{Entry}
use Rattle.mid_base.specs.declared.entries.Entry.TheVariants.{Judged, Aborted, Failed, Cleared, Sensed, Again, Told, EhBegin, EhEnd, Act, Probe, Offline}
use Rattle.mid_base.specs.declared.steps.Step.TheVariants.{EhAct}
use Rattle.mid_base.specs.declared.steps.Why.{Why}
use Rattle.mid_base.specs.declared.steps.Why.TheVariants.{EhIdle, LadderDone}
use Rattle.mid_base.specs.declared.host_spec.CmdSpec.{CmdSpec}
use Rattle.mid_base.specs.declared.host_spec.Handlers.{Handlers}
use Rattle.mid_base.specs.declared.host_spec.HostSpec.{HostSpec}
use Rattle.mid_base.specs.Address.{same_dev}
use Rattle.mid_base.specs.Answers.{no_connect}
use Rattle.disposition.specs.declared.todo.Todo.{Todo}
use Rattle.mid_base.specs.Levels.{Level, fetch_sense, abort, start_unit, reset_device, reset_target, reset_bus, reset_host, give_up, not_online, no_level, level_of, can_succeed, can_fail}
use Rattle.disposition.specs.Ladder.{is_in_scope, with_dev, devs, Pair, pairs, same_pair, is_wanted_pair, beyond_pair, beyond}
use Rattle.trace_model.specs.Names.{command, dev_of}
use Rattle.trace_model.specs.Attempts.{owner, is_by_expiry, is_settled}
use Rattle.trace_model.specs.Commands.{standing, is_busy, is_new, is_own}
use Rattle.trace_model.specs.declared.standing.Standing.{Standing}
use Rattle.trace_model.specs.declared.standing.Standing.TheVariants.{New, Waits, Busy, Ended}
use Rattle.trace_model.specs.Devices.{has_begun, in_recovery, is_online}
use Rattle.trace_model.specs.Sending.{is_left, is_command, is_next_of_lane, is_refused, is_stranded, is_number, pick}
use Rattle.trace_model.specs.Judging.{to_abort}
use Rattle.trace_model.specs.Recovery.{Failure, failed, todo, todo_of, listed, is_cleared, last_act, next_act, is_quiet}
use Rattle.trace_model.specs.Flush.{is_empty, is_flushed, is_first_failed, is_saved, verdict}
use Rattle.trace_model.specs.Course.{Course, over, next, ask, fetch, IsOver, Meets, after}
use Rattle.trace_model.specs.Climb.{climb, clear, offline_for}
use Rattle.trace_model.specs.Rules.{Allowed, course}
use Rattle.trace_model.specs.Steps.{opens}
use Rattle.trace_model.specs.Legal.{goes_on, owed, Stands, EachStands}
use Rattle.trace_model.proofs.Owes.{Calm, Owing, is_calm, is_end, Follower, meets_owes, owed_owing}
use Rattle.trace_model.proofs.Stage.{settled, failing, stage, has_failure, unsettled}
use Rattle.trace_model.proofs.Once.{OwedOf, EndsAt, owed_of}
use Rattle.trace_model.proofs.OnceMore.{held_all}
use Rattle.step_laws.specs.Enabled.{IsEnabled, IsRightlyBarred}
use Rattle.step_laws.proofs.Causes.{passed, passes}
use Rattle.step_laws.proofs.Places.{same_dev_itself}
use Rattle.step_laws.proofs.Rests.{IsRest, rests, begun_in, begun_quiet, none_unsettled}
use Rattle.step_laws.proofs.Clears.{follower}
use Rattle.step_laws.proofs.Ladders.{lost, with_there, with_stays, lost_in, same_lost, stays_beyond, some_next}

-- the pairs by the failed list alone

abbrev todos : HostSpec → List Entry → List Failure → List Todo
todos s P fs = map (todo_of s P) fs

abbrev has : ℕ → List Failure → Bool
has c fs = list_any (λ f. f.cmd.0 == c) fs

abbrev pairs_of : List Scope → List DevAddr → List Pair
pairs_of cmds ds =
    map (λ c. (1, c)) cmds ++ (map (λ c. (2, c)) cmds
    ++ (map (λ d. (3, Dev d)) ds ++ (map (λ d. (4, Dev d)) ds
    ++ (map (λ d. (5, Target d.channel d.target)) ds ++ (map (λ d. (6, Bus d.channel)) ds
    ++ ((7, Host) ∷ map (λ d. (8, Dev d)) ds))))))

same_cmds : (s : HostSpec) (P Q : List Entry) (fs : List Failure) → map (λ (x : Todo). Cmd x.cmd) (todos s Q fs) ≡ map (λ (x : Todo). Cmd x.cmd) (todos s P fs)
same_cmds s P Q [] = refl
same_cmds s P Q (f ∷ fs) = ap (λ (xs : List Scope). Cmd f.cmd ∷ xs) (same_cmds s P Q fs)

same_devs : (s : HostSpec) (P Q : List Entry) (fs : List Failure) → devs (todos s Q fs) ≡ devs (todos s P fs)
same_devs s P Q [] = refl
same_devs s P Q (f ∷ fs) = ap (with_dev (dev_of s f.cmd.0)) (same_devs s P Q fs)

same_pairs : (s : HostSpec) (P Q : List Entry) (fs : List Failure) → pairs (todos s Q fs) ≡ pairs (todos s P fs)
same_pairs s P Q fs = ap₂ pairs_of (same_cmds s P Q fs) (same_devs s P Q fs)

dev_in : (s : HostSpec) (c : ℕ) (P : List Entry) (fs : List Failure) → has c fs ≡ true → list_any (same_dev (dev_of s c)) (devs (todos s P fs)) ≡ true
dev_in s c P [] h = cc h
dev_in s c P (f ∷ fs) h = ⊎_elim
    (λ here. subst (λ (k : ℕ). list_any (same_dev (dev_of s k)) (with_dev (dev_of s f.cmd.0) (devs (todos s P fs))) ≡ true) (eqb-true f.cmd.0 c here) (with_there (dev_of s f.cmd.0) (devs (todos s P fs))))
    (λ later. with_stays (dev_of s c) (dev_of s f.cmd.0) (devs (todos s P fs)) (dev_in s c P fs later))
    (or_cases (f.cmd.0 == c) (has c fs) h)

-- what is left to do

abbrev left : List Entry → Todo → Bool
left P x = not (is_cleared x.cmd.0 P)

todo_dev : (s : HostSpec) (c : ℕ) (P : List Entry) (fs : List Failure) → has c fs ≡ true → is_cleared c P ≡ false → list_any (λ x. same_dev (dev_of s c) x.dev && true) (filter (left P) (todos s P fs)) ≡ true
todo_dev s c P [] h n = cc h
todo_dev s c P (f ∷ fs) h n = ⊎_elim
    (λ yes. rw yes (⊎_elim
    (λ here. or_left (same_dev (dev_of s c) (dev_of s f.cmd.0) && true) _ (and_from (same_dev (dev_of s c) (dev_of s f.cmd.0)) true (subst (λ (k : ℕ). same_dev (dev_of s k) (dev_of s f.cmd.0) ≡ true) (eqb-true f.cmd.0 c here) (same_dev_itself (dev_of s f.cmd.0))) refl))
    (λ later. or_right (same_dev (dev_of s c) (dev_of s f.cmd.0) && true) _ (todo_dev s c P fs later n))
    (or_cases (f.cmd.0 == c) (has c fs) h)))
    (λ no. rw no (⊎_elim
    (λ here. absurd (cc (sym n ∙ subst (λ (k : ℕ). is_cleared k P ≡ true) (eqb-true f.cmd.0 c here) (not-false _ no))))
    (λ later. todo_dev s c P fs later n)
    (or_cases (f.cmd.0 == c) (has c fs) h)))
    (cases_Bool (not (is_cleared f.cmd.0 P)))

todo_scope : (s : HostSpec) (c : ℕ) (P : List Entry) (fs : List Failure) → has c fs ≡ true → is_cleared c P ≡ false → list_any (λ x. x.cmd.0 == c) (filter (is_in_scope (Dev (dev_of s c))) (filter (left P) (todos s P fs))) ≡ true
todo_scope s c P [] h n = cc h
todo_scope s c P (f ∷ fs) h n = ⊎_elim
    (λ yes. rw yes (⊎_elim
    (λ here.
    let mine : same_dev (dev_of s c) (dev_of s f.cmd.0) ≡ true = subst (λ (k : ℕ). same_dev (dev_of s k) (dev_of s f.cmd.0) ≡ true) (eqb-true f.cmd.0 c here) (same_dev_itself (dev_of s f.cmd.0)) in
    rw mine (or_left (f.cmd.0 == c) _ here))
    (λ later. ⊎_elim
    (λ kept. rw kept (or_right (f.cmd.0 == c) _ (todo_scope s c P fs later n)))
    (λ gone. rw gone (todo_scope s c P fs later n))
    (cases_Bool (same_dev (dev_of s c) (dev_of s f.cmd.0))))
    (or_cases (f.cmd.0 == c) (has c fs) h)))
    (λ no. rw no (⊎_elim
    (λ here. absurd (cc (sym n ∙ subst (λ (k : ℕ). is_cleared k P ≡ true) (eqb-true f.cmd.0 c here) (not-false _ no))))
    (λ later. todo_scope s c P fs later n)
    (or_cases (f.cmd.0 == c) (has c fs) h)))
    (cases_Bool (not (is_cleared f.cmd.0 P)))

todo_first : (s : HostSpec) (P : List Entry) (fs : List Failure) → is_empty (filter (left P) (todos s P fs)) ≡ false → (c : ℕ) × (has c fs ≡ true) × (is_cleared c P ≡ false)
todo_first s P [] h = cc h
todo_first s P (f ∷ fs) h = ⊎_elim
    (λ yes. (f.cmd.0, or_left (f.cmd.0 == f.cmd.0) (has f.cmd.0 fs) (eq-eqb f.cmd.0 f.cmd.0 refl), not-true _ yes))
    (λ no. let rest = todo_first s P fs (rw no at h) in (rest.0, or_right (f.cmd.0 == rest.0) (has rest.0 fs) rest.1, rest.2))
    (cases_Bool (not (is_cleared f.cmd.0 P)))

none_left : (s : HostSpec) (c : ℕ) (P : List Entry) (fs : List Failure) → is_empty (filter (left P) (todos s P fs)) ≡ true → has c fs ≡ true → is_cleared c P ≡ true
none_left s c P fs e h = ⊎_elim
    (λ yes. yes)
    (λ no. absurd (clash (filter (left P) (todos s P fs)) (λ x. same_dev (dev_of s c) x.dev && true) e (todo_dev s c P fs h no)))
    (cases_Bool (is_cleared c P))
  where
    clash : (xs : List Todo) (f : Todo → Bool) → is_empty xs ≡ true → list_any f xs ≡ true → ⊥
    clash [] f e h = cc h
    clash (x ∷ xs) f e h = cc e

-- the failed list, when a command leaves it

gone_sub : (c d : ℕ) (fs : List Failure) → has c (filter (λ f. not (f.cmd.0 == d)) fs) ≡ true → has c fs ≡ true
gone_sub c d [] h = cc h
gone_sub c d (f ∷ fs) h = ⊎_elim
    (λ yes. ⊎_elim (λ here. or_left (f.cmd.0 == c) (has c fs) here) (λ later. or_right (f.cmd.0 == c) (has c fs) (gone_sub c d fs later)) (or_cases (f.cmd.0 == c) _ (rw yes at h)))
    (λ no. or_right (f.cmd.0 == c) (has c fs) (gone_sub c d fs (rw no at h)))
    (cases_Bool (not (f.cmd.0 == d)))

gone_none : (d : ℕ) (fs : List Failure) → has d fs ≡ false → filter (λ f. not (f.cmd.0 == d)) fs ≡ fs
gone_none d [] h = refl
gone_none d (f ∷ fs) h = let parts = or_parts (f.cmd.0 == d) (has d fs) h in rw parts.0 (ap (λ (gs : List Failure). f ∷ gs) (gone_none d fs parts.1))

has_is : (c : ℕ) (fs : List Failure) → has c fs ≡ true → (n : ℕ) × (has_failure c n fs ≡ true)
has_is c [] h = cc h
has_is c (f ∷ fs) h = ⊎_elim
    (λ here. (f.attempt.0, or_left ((f.cmd.0 == c) && (f.attempt.0 == f.attempt.0)) (has_failure c f.attempt.0 fs) (and_from (f.cmd.0 == c) (f.attempt.0 == f.attempt.0) here (eq-eqb f.attempt.0 f.attempt.0 refl))))
    (λ later. let rest = has_is c fs later in (rest.0, or_right ((f.cmd.0 == c) && (f.attempt.0 == rest.0)) (has_failure c rest.0 fs) rest.1))
    (or_cases (f.cmd.0 == c) (has c fs) h)

-- a command that is refused isn't on it

found_new : (c lane : ℕ) (P : List Entry) (ks : List CmdSpec) → is_command c (find (is_left lane P) ks) ≡ true → is_new (standing c P) ≡ true
found_new c lane P [] h = cc h
found_new c lane P (k ∷ ks) h = ⊎_elim
    (λ yes. subst (λ (d : ℕ). is_new (standing d P) ≡ true) (eqb-true k.id.0 c (rw yes at h)) (and_parts (k.lane.0 == lane) (is_new (standing k.id.0 P)) yes).1)
    (λ no. found_new c lane P ks (rw no at h))
    (cases_Bool (is_left lane P k))

refused_none : (s : HostSpec) (c : ℕ) (P : List Entry) → EachStands s P → is_refused s P c ≡ true → has c (failed P) ≡ false
refused_none s c P each h = ⊎_elim
    (λ yes.
    let f = has_is c (failed P) yes in
    let held = held_all s c P each in
    let new : is_new (standing c P) ≡ true = found_new c (command s c).lane.0 P s.cmds (and_parts (is_next_of_lane s P c) _ h).0 in
    let at : stage c P ≡ failing f.0 = held.1 f.0 f.1 in
    absurd (⊎_elim (λ i. cc (sym i ∙ at)) (λ b. clash (standing c P) new b) held.2))
    (λ no. no)
    (cases_Bool (has c (failed P)))
  where
    clash : (x : Standing) → is_new x ≡ true → is_busy x ≡ true → ⊥
    clash New a b = cc b
    clash Waits a b = cc a
    clash (Busy n t) a b = cc a
    clash Ended a b = cc a

-- c is to be cleared within what is owed

abbrev clears : ℕ → Entry → Bool
clears c (Cleared d level) = d.0 == c
clears c _ = false

abbrev Will : ℕ → Course → Type 0
Will c over = ⊥
Will c (next x k) = (clears c x ≡ true) ⊎ Will c k
Will c (ask d code want k) = ⊥
Will c (fetch d n k) = ⊥

will_in : (c level : ℕ) (xs : List Todo) → list_any (λ x. x.cmd.0 == c) xs ≡ true → Will c (clear level xs)
will_in c level [] h = cc h
will_in c level (x ∷ xs) h = ⊎_elim (λ here. inl here) (λ later. inr (will_in c level xs later)) (or_cases (x.cmd.0 == c) _ h)

will_offline : (c : ℕ) (xs : List Todo) → list_any (λ x. x.cmd.0 == c) xs ≡ true → Will c (offline_for xs)
will_offline c [] h = cc h
will_offline c (x ∷ xs) h = inr (will_in c 8 (x ∷ xs) h)

will_after : (c : ℕ) (k : Course) (e : Entry) → Meets k e → Will c k → (clears c e ≡ true) ⊎ Will c (after k e)
will_after c over e m w = absurd w
will_after c (next x k) e m (inl w) = inl (subst (λ (y : Entry). clears c y ≡ true) (sym m) w)
will_after c (next x k) e m (inr w) = inr w
will_after c (ask d code want k) e m w = absurd w
will_after c (fetch d n k) e m w = absurd w

-- the pair of c's device at level 8 isn't left behind
abbrev Ahead : HostSpec → ℕ → List Entry → Course → Type 0
Ahead s c P k = has_begun P ≡ true → has c (failed P) ≡ true
    → (is_cleared c P ≡ true) ⊎ (Will c k ⊎ (list_any (same_pair (lost (dev_of s c))) (beyond (last_act P) (pairs (todos s P (failed P)))) ≡ true))

moved : (s : HostSpec) (c : ℕ) (P Q : List Entry) → failed Q ≡ failed P → last_act Q ≡ last_act P
    → list_any (same_pair (lost (dev_of s c))) (beyond (last_act P) (pairs (todos s P (failed P)))) ≡ true
    → list_any (same_pair (lost (dev_of s c))) (beyond (last_act Q) (pairs (todos s Q (failed Q)))) ≡ true
moved s c P Q f l x =
    subst (λ (o : Option Pair). list_any (same_pair (lost (dev_of s c))) (beyond o (pairs (todos s Q (failed Q)))) ≡ true) (sym l)
    (subst (λ (fs : List Failure). list_any (same_pair (lost (dev_of s c))) (beyond (last_act P) (pairs (todos s Q fs))) ≡ true) (sym f)
    (subst (λ (ps : List Pair). list_any (same_pair (lost (dev_of s c))) (beyond (last_act P) ps) ≡ true) (sym (same_pairs s P Q (failed P))) x))

-- an entry that leaves all of it as it is
went : (s : HostSpec) (c : ℕ) (P Q : List Entry) (k j : Course) → has_begun Q ≡ has_begun P → failed Q ≡ failed P → last_act Q ≡ last_act P → is_cleared c Q ≡ is_cleared c P
    → (Will c k → Will c j) → Ahead s c P k → Ahead s c Q j
went s c P Q k j b f l q w h began had = ⊎_elim
    (λ x. inl (q ∙ x))
    (λ x. ⊎_elim (λ y. inr (inl (w y))) (λ y. inr (inr (moved s c P Q f l y))) x)
    (h (sym b ∙ began) (subst (λ (fs : List Failure). has c fs ≡ true) f had))

kept : (s : HostSpec) (c : ℕ) (P Q : List Entry) (k : Course) → has_begun Q ≡ has_begun P → failed Q ≡ failed P → last_act Q ≡ last_act P → is_cleared c Q ≡ is_cleared c P → Ahead s c P over → Ahead s c Q k
kept s c P Q k b f l q h = went s c P Q over k b f l q (λ w. absurd w) h

act_ahead : (s : HostSpec) (c : ℕ) (P : List Entry) (level : ℕ) (scope : Scope) (ok : Bool) → next_act s P ≡ Some (level, scope) → Ahead s c P over → Ahead s c (Act level scope ok ∷ P) (course s P (Act level scope ok))
act_ahead s c P level scope ok e h began had = ⊎_elim
    (λ yes. inl yes)
    (λ no.
    let d : DevAddr = dev_of s c in
    let f : Pair → Bool = is_wanted_pair s.no_async_abort (todo s P) in
    let wanted : f (lost d) ≡ true = todo_dev s c P (failed P) had no in
    let there : list_any (same_pair (lost d)) (beyond (last_act P) (pairs (todos s P (failed P)))) ≡ true =
    ⊎_elim (λ q. absurd (cc (sym no ∙ q))) (λ x. ⊎_elim (λ y. absurd y) (λ y. y) x) (h began had) in
    ⊎_elim
    (λ same. inr (inl (subst (λ (p : Pair). Will c (climb (todo s P) p.0 p.1 ok)) (sym (same_lost d (level, scope) same)) (will_offline c (filter (is_in_scope (Dev d)) (todo s P)) (todo_scope s c P (failed P) had no)))))
    (λ other. inr (inr (subst (λ (ps : List Pair). list_any (same_pair (lost d)) (beyond_pair (level, scope) ps) ≡ true) (sym (same_pairs s P (Act level scope ok ∷ P) (failed P)))
    (stays_beyond f d (last_act P) (listed s P) (level, scope) e wanted other there))))
    (cases_Bool (same_pair (lost d) (level, scope))))
    (cases_Bool (is_cleared c P))

abort_live : (P : List Entry) (c n : ℕ) → to_abort P c n ≡ true → unsettled n P ≡ true
abort_live P c n h =
    let parts = and_parts (is_by_expiry (owner n P)) (not (is_settled n P)) (and_parts (is_by_expiry (owner n P) && not (is_settled n P)) _ h).0 in
    and_from (is_some (owner n P)) (not (is_settled n P)) (expiry_some (owner n P) parts.0) parts.1
  where
    expiry_some : (o : Option By) → is_by_expiry o ≡ true → is_some o ≡ true
    expiry_some None q = cc q
    expiry_some (Some by) q = refl

flushed_empty : (s : HostSpec) (c : ℕ) (P : List Entry) → is_flushed s P c ≡ true → is_empty (todo s P) ≡ true
flushed_empty s c P h = (and_parts (has_begun P) (is_empty (todo s P)) (and_parts (has_begun P && is_empty (todo s P)) (is_first_failed c (failed P)) h).0).1

told_how : (r t f : Bool) (x : Answer) (v : Option Answer) (a : Answer) → cond (r || t) (Some x) (cond f v None) ≡ Some a → (r ≡ true) ⊎ ((t ≡ true) ⊎ (f ≡ true))
told_how true t f x v a h = inl refl
told_how false true f x v a h = inr (inl refl)
told_how false false true x v a h = inr (inr refl)
told_how false false false x v a h = cc h

stranded_calm : (s : HostSpec) (c : ℕ) (P : List Entry) → EachStands s P → is_stranded s P c ≡ true → has_begun P ≡ true → ⊥
stranded_calm s c P each h b =
    let two = and_parts (not (in_recovery P) && is_number c (pick s P)) (not (is_online s (dev_of s c) P)) h in
    cc (sym (not-true _ (and_parts (not (in_recovery P)) (is_number c (pick s P)) two.0).0) ∙ begun_in s P each b)

opens_ahead : (s : HostSpec) (c : ℕ) (P : List Entry) (e : Entry) → EachStands s P → Allowed s P e → Ahead s c P over → Ahead s c (e ∷ P) (course s P e)
opens_ahead s c P (Act level scope ok) each al h = act_ahead s c P level scope ok al.1 h
opens_ahead s c P EhBegin each al h = λ began had. inr (inr (lost_in (dev_of s c) (todos s (EhBegin ∷ P) (failed P)) (dev_in s c (EhBegin ∷ P) (failed P) had)))
opens_ahead s c P EhEnd each al h = λ began had. absurd (cc began)
opens_ahead s c P (Failed d m x) each al h = λ began had. absurd (none_unsettled s P m.0 each began (abort_live P d.0 m.0 (and_parts x (to_abort P d.0 m.0) (and_parts (x && to_abort P d.0 m.0) _ al).0).1))
opens_ahead s c P (Again d x) each al h = λ began had. inl (none_left s c P (failed P) (flushed_empty s d.0 P (and_parts x (is_flushed s P d.0) (and_parts (x && is_flushed s P d.0) _ al).0).1) (gone_sub c d.0 (failed P) had))
opens_ahead s c P (Told d a) each al h = ⊎_elim
    (λ r. kept s c P (Told d a ∷ P) over refl (gone_none d.0 (failed P) (refused_none s d.0 P each r)) refl refl h)
    (λ y. ⊎_elim
    (λ t began had. absurd (stranded_calm s d.0 P each t began))
    (λ f began had. inl (none_left s c P (failed P) (flushed_empty s d.0 P (and_parts (is_flushed s P d.0) (not (is_saved s P d.0)) f).0) (gone_sub c d.0 (failed P) had)))
    y)
    (told_how (is_refused s P d.0) (is_stranded s P d.0) (is_flushed s P d.0 && not (is_saved s P d.0)) no_connect (verdict d.0 P) a al)
opens_ahead s c P (Judged d n x) each al h = kept s c P (Judged d n x ∷ P) (course s P (Judged d n x)) refl refl refl refl h
opens_ahead s c P (Aborted d n ok) each al h = kept s c P (Aborted d n ok ∷ P) (course s P (Aborted d n ok)) refl refl refl refl h
opens_ahead s c P (Cleared d level) each al h = absurd al
opens_ahead s c P e each al h = kept s c P (e ∷ P) over refl refl refl refl h

-- within recovery nothing is owed that ends a command

end_calm : (e : Entry) → is_end e ≡ true → is_calm e ≡ true → ⊥
end_calm (Failed d n x) h g = cc g
end_calm (Again d x) h g = cc g
end_calm (Told d a) h g = cc g
end_calm e h g = cc h

ends_settled : (c : ℕ) (P : List Entry) (e : Entry) → EndsAt c P e → is_own c e ≡ true → (n : ℕ) × (stage c P ≡ settled n)
ends_settled c P (Told d a) h o = h (eqb-true d.0 c o)
ends_settled c P (Again d x) h o = h (eqb-true d.0 c o)
ends_settled c P (Failed d m x) h o = (m.0, h (eqb-true d.0 c o))
ends_settled c P e h o = absurd h

owed_settled : (c : ℕ) (P : List Entry) (k : Course) (e : Entry) → OwedOf c P k → Meets k e → is_end e ≡ true → is_own c e ≡ true → (n : ℕ) × (stage c P ≡ settled n)
owed_settled c P over e o m i w = absurd m
owed_settled c P (next x over) e o m i w = ⊎_elim
    (λ calm. absurd (end_calm e i (subst (λ (y : Entry). is_calm y ≡ true) (sym m) calm.1)))
    (λ ends. ends_settled c P e (subst (EndsAt c P) (sym m) ends) w)
    o
owed_settled c P (next x (next y k)) e o m i w = absurd (end_calm e i (meets_owes Calm (next x (next y k)) e o.1 m))
owed_settled c P (next x (ask d code want k)) e o m i w = absurd (end_calm e i (meets_owes Calm (next x (ask d code want k)) e o.1 m))
owed_settled c P (next x (fetch d n k)) e o m i w = absurd (end_calm e i (meets_owes Calm (next x (fetch d n k)) e o.1 m))
owed_settled c P (ask d code want k) e o m i w = absurd (end_calm e i (meets_owes Calm (ask d code want k) e o.1 m))
owed_settled c P (fetch d n k) e o m i w = absurd (end_calm e i (meets_owes Calm (fetch d n k) e o.1 m))

none_ends : (s : HostSpec) (c : ℕ) (P : List Entry) (k : Course) (e : Entry) → EachStands s P → OwedOf c P k → Meets k e → is_end e ≡ true → is_own c e ≡ true → has_begun P ≡ true → ⊥
none_ends s c P k e each o m i w b = let x = owed_settled c P k e o m i w in subst IsRest x.1 ((rests s c P each).1 b)

-- an entry that is owed

on : (c : ℕ) (k : Course) (e : Entry) → Meets k e → clears c e ≡ false → Will c k → Will c (after k e)
on c k e m n w = ⊎_elim (λ y. absurd (cc (sym n ∙ y))) (λ y. y) (will_after c k e m w)

cleared_ahead : (s : HostSpec) (c : ℕ) (P : List Entry) (k : Course) (d : CmdId) (level : ℕ) → Meets k (Cleared d level) → Ahead s c P k → Ahead s c (Cleared d level ∷ P) (after k (Cleared d level))
cleared_ahead s c P k d level m h = ⊎_elim
    (λ yes began had. inl (rw yes.0 refl))
    (λ no.
    let same : is_cleared c (Cleared d level ∷ P) ≡ is_cleared c P = rw no.0 refl in
    went s c P (Cleared d level ∷ P) k (after k (Cleared d level)) refl refl refl same (on c k (Cleared d level) m no.0) h)
    (eqb_tells d.0 c)

follows_ahead : (s : HostSpec) (c : ℕ) (P : List Entry) (k : Course) (e : Entry) → EachStands s P → ((d : ℕ) → OwedOf d P k) → Follower e → Meets k e → Ahead s c P k → Ahead s c (e ∷ P) (after k e)
follows_ahead s c P k (Cleared d level) each o f m h = cleared_ahead s c P k d level m h
follows_ahead s c P k (Judged d n x) each o f m h = went s c P (Judged d n x ∷ P) k (after k (Judged d n x)) refl refl refl refl (on c k (Judged d n x) m refl) h
follows_ahead s c P k (Sensed d n x) each o f m h = went s c P (Sensed d n x ∷ P) k (after k (Sensed d n x)) refl refl refl refl (on c k (Sensed d n x) m refl) h
follows_ahead s c P k (Probe d code say) each o f m h = went s c P (Probe d code say ∷ P) k (after k (Probe d code say)) refl refl refl refl (on c k (Probe d code say) m refl) h
follows_ahead s c P k (Offline d) each o f m h = went s c P (Offline d ∷ P) k (after k (Offline d)) refl refl refl refl (on c k (Offline d) m refl) h
follows_ahead s c P k (Failed d n x) each o f m h = λ began had. absurd (none_ends s d.0 P k (Failed d n x) each (o d.0) m refl (eq-eqb d.0 d.0 refl) began)
follows_ahead s c P k (Again d x) each o f m h = λ began had. absurd (none_ends s d.0 P k (Again d x) each (o d.0) m refl (eq-eqb d.0 d.0 refl) began)
follows_ahead s c P k (Told d a) each o f m h = λ began had. absurd (none_ends s d.0 P k (Told d a) each (o d.0) m refl (eq-eqb d.0 d.0 refl) began)
follows_ahead s c P k e each o f m h = absurd (⊎_elim (λ q. cc q) (λ q. cc q) f)

goes_ahead : (s : HostSpec) (c : ℕ) (P : List Entry) (k : Course) (e : Entry) → EachStands s P → ((d : ℕ) → OwedOf d P k) → Owing k → Stands k s P e → Ahead s c P k → Ahead s c (e ∷ P) (goes_on k s P e)
goes_ahead s c P over e each o w st h = opens_ahead s c P e each st h
goes_ahead s c P (next x k) e each o w st h = follows_ahead s c P (next x k) e each o (follower (next x k) e w st) st h
goes_ahead s c P (ask d code want k) e each o w st h = follows_ahead s c P (ask d code want k) e each o (follower (ask d code want k) e w st) st h
goes_ahead s c P (fetch d n k) e each o w st h = follows_ahead s c P (fetch d n k) e each o (follower (fetch d n k) e w st) st h

owed_ahead : (s : HostSpec) (c : ℕ) (P : List Entry) → EachStands s P → Ahead s c P (owed s P)
owed_ahead s c [] each = λ began had. absurd (cc began)
owed_ahead s c (e ∷ P) each = goes_ahead s c P (owed s P) e each.1 (λ d. owed_of s d P each.1) (owed_owing s P) each.0 (owed_ahead s c P each.1)

-- EhAct

none_will : (c : ℕ) (k : Course) → IsOver k → Will c k → ⊥
none_will c over o w = w
none_will c (next x k) o w = o
none_will c (ask d code want k) o w = o
none_will c (fetch d n k) o w = o

-- an act may fail, or it is of level 8, which succeeds
outcome : (h : Handlers) (l : Level) → (ok : Bool) × (cond ok (can_succeed h l) (can_fail l) ≡ true)
outcome h give_up = (true, refl)
outcome h fetch_sense = (false, refl)
outcome h abort = (false, refl)
outcome h start_unit = (false, refl)
outcome h reset_device = (false, refl)
outcome h reset_target = (false, refl)
outcome h reset_bus = (false, refl)
outcome h reset_host = (false, refl)
outcome h not_online = (false, refl)
outcome h no_level = (false, refl)

act_next : (s : HostSpec) (P : List Entry) → EachStands s P → IsOver (owed s P) → has_begun P ≡ true → is_empty (todo s P) ≡ false → (p : Pair) × (next_act s P ≡ Some p)
act_next s P each o b t =
    let first = todo_first s P (failed P) t in
    let c : ℕ = first.0 in
    let d : DevAddr = dev_of s c in
    let wanted : is_wanted_pair s.no_async_abort (todo s P) (lost d) ≡ true = todo_dev s c P (failed P) first.1 first.2 in
    let there : list_any (same_pair (lost d)) (beyond (last_act P) (pairs (todos s P (failed P)))) ≡ true =
    ⊎_elim (λ q. absurd (cc (sym first.2 ∙ q))) (λ x. ⊎_elim (λ y. absurd (none_will c (owed s P) o y)) (λ y. y) x) (owed_ahead s c P each b first.1) in
    some_next (is_wanted_pair s.no_async_abort (todo s P)) d (beyond (last_act P) (pairs (listed s P))) wanted there

act_yes : (s : HostSpec) (P : List Entry) → EachStands s P → IsOver (owed s P) → has_begun P ≡ true → is_empty (todo s P) ≡ false → IsEnabled s P EhAct
act_yes s P each o b t =
    let found = act_next s P each o b t in
    let p : Pair = found.0 in
    let out = outcome s.handlers (level_of p.0) in
    record {
      opener = Act p.0 p.1 out.0;
      opens_it = refl;
      may_stand = (and_from (is_quiet s P && has_begun P) _ (and_from (is_quiet s P) (has_begun P) (begun_quiet s P each b) b) out.1, found.1);
    }

none_wanted : (aborts : Bool) (xs : List Todo) (ps : List Pair) (p : Pair) → is_empty xs ≡ true → find (is_wanted_pair aborts xs) ps ≡ Some p → ⊥
none_wanted aborts (x ∷ xs) ps p e f = cc e
none_wanted aborts [] [] p e f = none-some p f
none_wanted aborts [] (q ∷ ps) p e f = none_wanted aborts [] ps p e f

act_no : (s : HostSpec) (P : List Entry) (e : Entry) → opens s P EhAct e ≡ true → Allowed s P e → (not (has_begun P) ≡ false) × (is_empty (todo s P) ≡ false)
act_no s P (Act level scope ok) o al =
    let two = and_parts (is_quiet s P && has_begun P) _ al.0 in (
      not_from_true _ (and_parts (is_quiet s P) (has_begun P) two.0).1,
      ⊎_elim (λ yes. absurd (none_wanted s.no_async_abort (todo s P) (beyond (last_act P) (pairs (listed s P))) (level, scope) yes al.1)) (λ no. no) (cases_Bool (is_empty (todo s P))),
    )
act_no s P e o al = cc o

pub acts : (s : HostSpec) (P : List Entry) → EachStands s P → IsOver (owed s P) → IsRightlyBarred s P EhAct
acts s P each over_now due =
    let last : List (Bool × Why) = (is_empty (todo s P), LadderDone) ∷ [] in (
      λ h. let x = passed (not (has_begun P)) EhIdle last refl h in
          let y = passed (is_empty (todo s P)) LadderDone [] refl x.1 in
          (refl, act_yes s P each over_now (not-false _ x.0) y.0),
      λ h. let x = act_no s P h.1.opener h.1.opens_it h.1.may_stand in
          passes (not (has_begun P)) EhIdle last x.0 (passes (is_empty (todo s P)) LadderDone [] x.1 refl),
    )
