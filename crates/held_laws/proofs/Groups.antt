-- What is held right stays so over a group.
use Rattle.std.proofs.Common.{eq-eqb, ◌≡◌, ℕ, ◌+◌, ◌==◌, Bool, true, false, not, ◌&&◌, cond, map, filter, List, [], ◌∷◌, Option, None, Some, refl, sym, subst, ap, ◌∙◌, ⊎_elim}
use Rattle.std.proofs.lemmas.Bool.{and_parts, false≢true, cases_Bool, eqb-true, not-true}
use Rattle.std.proofs.lemmas.Bool.Decides.{eqb_tells}
use Rattle.mid_base.specs.declared.answers.BusyOf.{BusyOf}
use Rattle.mid_base.specs.declared.entries.Entry.{Entry}
use Rattle.mid_base.specs.declared.entries.Entry.TheVariants.{Took, Sent, Bounced, Ready, Due, Longer, DoneSaid, Owned, Late, Judged, AbortSet, Aborted, Failed, Again, Told, EhBegin, EhEnd, Act, State, Tick}
use Rattle.mid_base.specs.declared.host_spec.HostSpec.{HostSpec}
use Rattle.mid_base.specs.declared.names.Attempt.{Attempt}
use Rattle.mid_base.specs.declared.names.CmdId.{CmdId}
use Rattle.mid_base.specs.declared.names.DevAddr.{DevAddr}
use Rattle.mid_base.specs.declared.names.Tag.{Tag}
use Rattle.mid_base.specs.declared.answers.Disp.{Disp}
use Rattle.mid_base.specs.declared.answers.Disp.TheVariants.{Success, Retry, Requeue, Fail}
use Rattle.mid_base.specs.declared.answers.Answer.{Answer}
use Rattle.mid_base.specs.Answers.{time_out}
use Rattle.mid_base.specs.Past.{was_sent, sent_for}
use Rattle.host_template.specs.declared.queued.Queued.TheVariants.{Taken}
use Rattle.host_template.specs.Meaning.{Meaning, Holds, SameNature, IfHonest, HonestQueue}
use Rattle.trace_model.specs.Attempts.{answer, sends}
use Rattle.trace_model.specs.Course.{over, next, Follows}
use Rattle.trace_model.specs.Devices.{has_begun, in_recovery, is_online}
use Rattle.trace_model.specs.Flush.{is_flushed, is_saved}
use Rattle.trace_model.specs.Judging.{may_retry}
use Rattle.trace_model.specs.Legal.{EachStands, onto}
use Rattle.trace_model.specs.Names.{command, dev_of}
use Rattle.trace_model.specs.Recovery.{Failure, failed, is_cleared, listed, todo_of}
use Rattle.trace_model.specs.Rules.{Allowed, course, judged, is_lost}
use Rattle.trace_model.specs.Sending.{is_next_of_lane, may_send, is_number, pick, is_least_free, just_sent}
use Rattle.trace_model.specs.Steps.{IsAdded}
use Rattle.trace_model.specs.declared.standing.Standing.TheVariants.{Waits, Busy}
use Rattle.trace_model.specs.Commands.{standing}
use Rattle.trace_model.proofs.Once.{found_left, sent_picked}
use Rattle.step_laws.proofs.Rests.{begun_in}
use Rattle.held_laws.specs.Held.{Held, is_over_or_with, HoldsRight, IsRight, NoneHeld}
use Rattle.held_laws.specs.Steps.{TakesBack, HonestOpener, HonestGroup}
use Rattle.held_laws.proofs.Courses.{Each, each_kept, clear_right}
use Rattle.held_laws.proofs.Entries.{AllLost, stays_right, fewer_right, new_none, waiting_none}
use Rattle.held_laws.proofs.Acts.{act_right}
use Rattle.held_laws.proofs.Idle.{IsWith, free_none, judged_none, aborted_none, flushed_none}

may_sent : (s : HostSpec) (P g : List Entry) (c : CmdId) (n : Attempt) (t : Tag) → IsAdded s P (Sent c n t ∷ g) → may_send s P c.0 n.0 t.0 ≡ true
may_sent s P [] c n t added = added.0
may_sent s P (Bounced d m why ∷ []) c n t added = added.0.0
may_sent s P (Bounced d m why ∷ e ∷ g) c n t added = added.0
may_sent s P (e ∷ g) c n t added = added.0

pub sent_none : (s : HostSpec) (P g : List Entry) (c : CmdId) (n : Attempt) (t : Tag) (held : Held) → IsAdded s P (Sent c n t ∷ g) → HoldsRight s P held → NoneHeld P c.0 held
sent_none s P g c n t held added h = waiting_none s P c.0 held h (sent_picked s P c.0 n.0 t.0 (may_sent s P g c n t added)).0

-- nothing more, or one entry more
no_more : (s : HostSpec) (Q : List Entry) (held : Held) (rest : List Entry) → Follows over rest → HoldsRight s Q held → HoldsRight s (onto rest Q) held
no_more s Q held [] f h = h
no_more s Q held (x ∷ rest) f h = absurd f.0

one_more : (s : HostSpec) (Q : List Entry) (held : Held) (e : Entry) (rest : List Entry) → Follows (next e over) rest → HoldsRight s (e ∷ Q) held → HoldsRight s (onto rest Q) held
one_more s Q held e [] f h = absurd f
one_more s Q held e (x ∷ rest) f h = no_more s (x ∷ Q) held rest f.1 (subst (λ (y : Entry). HoldsRight s (y ∷ Q) held) (sym f.0) h)

judged_right : (s : HostSpec) (Q : List Entry) (held : Held) (c : CmdId) (n : Attempt) (d : Disp) (a : Option Answer) (rest : List Entry) → NoneHeld Q c.0 held → HoldsRight s Q held
    → Follows (judged c n d a) rest → HoldsRight s (onto rest Q) held
judged_right s Q held c n Success (Some a) rest none h f = one_more s Q held (Told c a) rest f (stays_right s Q held (Told c a) tt h)
judged_right s Q held c n Success None rest none h f = no_more s Q held rest f h
judged_right s Q held c n Retry a rest none h f = one_more s Q held (Again c true) rest f (stays_right s Q held (Again c true) none h)
judged_right s Q held c n Requeue a rest none h f = one_more s Q held (Again c false) rest f (stays_right s Q held (Again c false) none h)
judged_right s Q held c n Fail a rest none h f = one_more s Q held (Failed c n false) rest f (stays_right s Q held (Failed c n false) tt h)

again_or_told : (s : HostSpec) (Q : List Entry) (held : Held) (c : CmdId) (b : Bool) → NoneHeld Q c.0 held → HoldsRight s Q held → HoldsRight s (cond b (Again c true) (Told c time_out) ∷ Q) held
again_or_told s Q held c true none h = stays_right s Q held (Again c true) none h
again_or_told s Q held c false none h = stays_right s Q held (Told c time_out) tt h

just_with : (c n : ℕ) (P : List Entry) → just_sent c n P ≡ true → IsWith P c n
just_with c n (Sent d m t ∷ P) h =
    let parts = and_parts (d.0 == c) (m.0 == n) h in
    (t, rw parts.0 (ap (λ (k : ℕ). Busy (record { 0 = k }) t) (eqb-true m.0 n parts.1)))
just_with c n [] h = absurd (false≢true h)
just_with c n (e ∷ P) h = absurd (false≢true h)

-- an attempt that is sent to a command that waits
same_device : (c n : ℕ) (b : Bool) (k : ℕ) → b ≡ true → cond b c k ≡ c
same_device c n true k e = refl
same_device c n false k e = absurd (false≢true e)

sent_right : (s : HostSpec) (P : List Entry) (c : CmdId) (n : Attempt) (t : Tag) (old new : Meaning) → has_begun P ≡ false → NoneHeld P c.0 old.holds → HonestQueue n.0 (dev_of s c.0) Taken old new
    → HoldsRight s P old.holds → HoldsRight s (Sent c n t ∷ P) new.holds
sent_right s P c n t old new calm none did h m d on sent = ⊎_elim
    (λ yes. record {
      device = rw yes.0 (did.1 d (subst (λ (k : ℕ). Holds new.holds k d) (sym yes.1) on));
      unanswered = rw yes.0 refl;
      rests = rw yes.0 (rw (eq-eqb c.0 c.0 refl) yes.0);
      lost = λ begun cleared. absurd (false≢true (sym calm ∙ begun));
    })
    (λ no.
    let was : was_sent m P ≡ true = rw no.0 at sent in
    let held : Holds old.holds m d = did.2 m d (λ e. no.1 (sym e)) on in
    let k = h m d held was in
    let other : (c.0 == sent_for m P) ≡ false = ⊎_elim (λ yes. absurd (none m d held was (sym yes.1))) (λ isnt. isnt.0) (eqb_tells c.0 (sent_for m P)) in
    let same : sent_for m P ≡ sent_for m (Sent c n t ∷ P) = rw no.0 refl in
    record {
      device = rw no.0 k.device;
      unanswered = rw no.0 k.unanswered;
      rests = subst (λ (j : ℕ). is_over_or_with m (cond (c.0 == j) (Busy n t) (standing j P)) ≡ true) same (rw other k.rests);
      lost = λ begun cleared. absurd (false≢true (sym calm ∙ begun));
    })
    (eqb_tells n.0 m)

-- a command whose device isn't online as recovery begins
at_their_devices : (s : HostSpec) (P : List Entry) (fs : List Failure) → Each (λ x. x.dev ≡ dev_of s x.cmd.0) (map (todo_of s P) fs)
at_their_devices s P [] = tt
at_their_devices s P (f ∷ fs) = (refl, at_their_devices s P fs)

begins_right : (s : HostSpec) (P : List Entry) (held : Held) (rest : List Entry) → HoldsRight s P held → Follows (course s P EhBegin) rest → HoldsRight s (onto rest (EhBegin ∷ P)) held
begins_right s P held rest h f =
    clear_right s (EhBegin ∷ P) held 0 (filter (is_lost s P) (listed s P)) rest
    (each_kept (λ x. x.dev ≡ dev_of s x.cmd.0) (λ x. AllLost s (EhBegin ∷ P) x.cmd.0 held) (is_lost s P) (listed s P)
    (λ x off at_it n d on sent is. subst (λ (e : DevAddr). is_online s e P ≡ false) at_it (not-true _ off)) (at_their_devices s P (failed P)))
    f (stays_right s P held EhBegin tt h)

first_one : (a b c : Bool) → a && b && c ≡ true → a ≡ true
first_one a b c h = (and_parts a b (and_parts (a && b) c h).0).0

opener_right : (s : HostSpec) (P : List Entry) (e : Entry) (rest : List Entry) (old new : Meaning) → EachStands s P → Allowed s P e → Follows (course s P e) rest → HonestOpener s P e old new
    → HoldsRight s P old.holds → HoldsRight s (onto rest (e ∷ P)) new.holds
opener_right s P (Took c) rest old new each al f did h =
    let k = fewer_right s P old new did h in
    let fresh = found_left c.0 (command s c.0).lane.0 P s.cmds (and_parts (is_next_of_lane s P c.0) _ al).0 in
    no_more s (Took c ∷ P) new.holds rest f (stays_right s P new.holds (Took c) (new_none s P c.0 new.holds k fresh) k)
opener_right s P (Sent c n t) rest old new each al f did h =
    let calm : in_recovery P ≡ false = not-true _ (first_one (not (in_recovery P)) (is_number c.0 (pick s P)) (is_online s (dev_of s c.0) P) (first_one (not (in_recovery P) && is_number c.0 (pick s P) && is_online s (dev_of s c.0) P) (n.0 == sends P + 1) (is_least_free s P t.0) al)) in
    let before : has_begun P ≡ false = ⊎_elim (λ yes. absurd (false≢true (sym calm ∙ begun_in s P each yes))) (λ no. no) (cases_Bool (has_begun P)) in
    no_more s (Sent c n t ∷ P) new.holds rest f (sent_right s P c n t old new before (waiting_none s P c.0 old.holds h (sent_picked s P c.0 n.0 t.0 al).0) did h)
opener_right s P (Bounced c n why) rest old new each al f did h =
    let k = fewer_right s P old new did.1 h in
    no_more s (Bounced c n why ∷ P) new.holds rest f (stays_right s P new.holds (Bounced c n why) (free_none s P c.0 n.0 new k (just_with c.0 n.0 P al) did.0) k)
opener_right s P (Ready n a) rest old new each al f did h =
    no_more s (Ready n a ∷ P) new.holds rest f (stays_right s P new.holds (Ready n a) did.1 (fewer_right s P old new did.2 h))
opener_right s P (Judged c n d) rest old new each al f did h =
    let k = fewer_right s P old new did h in
    judged_right s (Judged c n d ∷ P) new.holds c n d (answer n.0 P) rest (judged_none s P c.0 n.0 d new.holds each k al) (stays_right s P new.holds (Judged c n d) tt k) f
opener_right s P (Aborted c n true) rest old new each al f did h =
    let k = fewer_right s P old new did.1 h in
    one_more s (Aborted c n true ∷ P) new.holds _ rest f
    (again_or_told s (Aborted c n true ∷ P) new.holds c (may_retry s P c.0) (aborted_none s P c.0 n.0 true new each k al did.0) (stays_right s P new.holds (Aborted c n true) tt k))
opener_right s P (Aborted c n false) rest old new each al f did h =
    one_more s (Aborted c n false ∷ P) new.holds (Failed c n true) rest f
    (stays_right s (Aborted c n false ∷ P) new.holds (Failed c n true) tt (stays_right s P new.holds (Aborted c n false) tt (fewer_right s P old new did h)))
opener_right s P (Again c counted) rest old new each al f did h =
    let k = fewer_right s P old new did h in
    let parts = and_parts (counted && is_flushed s P c.0) (is_saved s P c.0) al in
    no_more s (Again c counted ∷ P) new.holds rest f
    (stays_right s P new.holds (Again c counted) (flushed_none s P c.0 new.holds k (and_parts counted (is_flushed s P c.0) parts.0).1 parts.1) k)
opener_right s P EhBegin rest old new each al f did h = begins_right s P new.holds rest (fewer_right s P old new did h) f
opener_right s P (Act level scope ok) rest old new each al f did h = act_right s P new level scope ok rest each al.1 did.0 f (fewer_right s P old new did.1 h)
opener_right s P (State d x) rest old new each al f did h =
    no_more s (State d x ∷ P) new.holds rest f (stays_right s P new.holds (State d x) (not-true _ (first_one (not (has_begun P)) _ _ al)) (fewer_right s P old new did h))
opener_right s P (Due n) rest old new each al f did h = no_more s (Due n ∷ P) new.holds rest f (stays_right s P new.holds (Due n) tt (fewer_right s P old new did h))
opener_right s P (Longer n) rest old new each al f did h = no_more s (Longer n ∷ P) new.holds rest f (stays_right s P new.holds (Longer n) tt (fewer_right s P old new did h))
opener_right s P (DoneSaid n) rest old new each al f did h = no_more s (DoneSaid n ∷ P) new.holds rest f (stays_right s P new.holds (DoneSaid n) tt (fewer_right s P old new did h))
opener_right s P (Owned n by) rest old new each al f did h = no_more s (Owned n by ∷ P) new.holds rest f (stays_right s P new.holds (Owned n by) tt (fewer_right s P old new did h))
opener_right s P (Late n) rest old new each al f did h = no_more s (Late n ∷ P) new.holds rest f (stays_right s P new.holds (Late n) tt (fewer_right s P old new did h))
opener_right s P (AbortSet c n) rest old new each al f did h = no_more s (AbortSet c n ∷ P) new.holds rest f (stays_right s P new.holds (AbortSet c n) tt (fewer_right s P old new did h))
opener_right s P (Failed c n x) rest old new each al f did h = no_more s (Failed c n x ∷ P) new.holds rest f (stays_right s P new.holds (Failed c n x) tt (fewer_right s P old new did h))
opener_right s P (Told c a) rest old new each al f did h = no_more s (Told c a ∷ P) new.holds rest f (stays_right s P new.holds (Told c a) tt (fewer_right s P old new did h))
opener_right s P EhEnd rest old new each al f did h = no_more s (EhEnd ∷ P) new.holds rest f (stays_right s P new.holds EhEnd tt (fewer_right s P old new did h))
opener_right s P Tick rest old new each al f did h = no_more s (Tick ∷ P) new.holds rest f (stays_right s P new.holds Tick tt (fewer_right s P old new did h))
opener_right s P e rest old new each al f did h = absurd al

-- the attempt was turned away
bounced_right : (s : HostSpec) (P : List Entry) (c d : CmdId) (n m : Attempt) (t : Tag) (why : BusyOf) (old new : Meaning) → may_send s P c.0 n.0 t.0 ≡ true → just_sent d.0 m.0 (Sent c n t ∷ P) ≡ true
    → TakesBack n.0 old new → HoldsRight s P old.holds → HoldsRight s (Bounced d m why ∷ Sent c n t ∷ P) new.holds
bounced_right s P c d n m t why old new may just did h =
    let k : HoldsRight s P new.holds = fewer_right s P old new did.1 h in
    let none : NoneHeld P c.0 new.holds = waiting_none s P c.0 new.holds k (sent_picked s P c.0 n.0 t.0 may).0 in
    let same : c.0 ≡ d.0 = eqb-true c.0 d.0 (and_parts (c.0 == d.0) (n.0 == m.0) just).0 in
    λ i e on sent.
    let other : (n.0 == i) ≡ false = ⊎_elim (λ yes. absurd (did.0 e (subst (λ (j : ℕ). Holds new.holds j e) (sym yes.1) on))) (λ no. no.0) (eqb_tells n.0 i) in
    let was : was_sent i P ≡ true = rw other at sent in
    let x = k i e on was in
    let apart : (c.0 == sent_for i P) ≡ false = ⊎_elim (λ yes. absurd (none i e on was (sym yes.1))) (λ no. no.0) (eqb_tells c.0 (sent_for i P)) in
    let here : sent_for i P ≡ sent_for i (Sent c n t ∷ P) = rw other refl in
    let apart_too : (d.0 == sent_for i P) ≡ false = subst (λ (j : ℕ). (j == sent_for i P) ≡ false) same apart in
    record {
      device = rw other x.device;
      unanswered = rw other x.unanswered;
      rests = subst (λ (j : ℕ). is_over_or_with i (cond (d.0 == j) Waits (cond (c.0 == j) (Busy n t) (standing j P))) ≡ true) here (rw (apart_too, apart) x.rests);
      lost = subst (λ (j : ℕ). has_begun P ≡ true → is_cleared j P ≡ true → is_online s (dev_of s j) P ≡ false) here x.lost;
    }

adds_right : (s : HostSpec) (P g : List Entry) (old new : Meaning) → EachStands s P → IsAdded s P g → HonestGroup s P g old new → HoldsRight s P old.holds → HoldsRight s (onto g P) new.holds
adds_right s P [] old new each added did h = absurd added
adds_right s P (Sent c n t ∷ Bounced d m why ∷ []) old new each added did h = bounced_right s P c d n m t why old new added.0.0 added.1.0 did h
adds_right s P (e ∷ g) old new each added did h = opener_right s P e g old new each added.0 added.1 did h

pub group_right : (s : HostSpec) (P g : List Entry) (old new : Meaning) → EachStands s P → IsAdded s P g → SameNature old new → IfHonest (HonestGroup s P g) old new
    → IsRight s P old → IsRight s (onto g P) new
group_right s P g old new each added same did h honest tells =
    let h1 : old.honest ≡ true = sym same.honest ∙ honest in
    let h2 : old.tells ≡ true = sym same.tells ∙ tells in
    adds_right s P g old new each added (did h1 h2) (h h1 h2)
