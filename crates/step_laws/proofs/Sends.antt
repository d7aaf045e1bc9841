-- Submit and Send.
use Rattle.std.proofs.Common.{eq-eqb, ◌≡◌, ◌⊎◌, ℕ, suc, zero, ◌+◌, ◌≤◌, ◌==◌, Bool, true, false, not, ◌&&◌, List, [], ◌∷◌, refl, sym, ◌∙◌, subst, ap, inl, inr, ⊎_elim, is_none, find, Option, None, Some, arith, nat_le}
use Rattle.std.specs.List.{list_any}
use Rattle.std.proofs.lemmas.Bool.{eqb-true, cases_Bool, and_parts, and_from, not-true, or_right}
use Rattle.std.proofs.lemmas.Bool.Decides.{eqb_tells}
use Rattle.std.proofs.lemmas.Option.{none-some, same_Some}
use Rattle.mid_base.specs.declared.names.LaneNo.{LaneNo}
use Rattle.mid_base.specs.declared.entries.Entry.{Entry}
use Rattle.mid_base.specs.declared.entries.Entry.TheVariants.{Took, Sent, Told}
use Rattle.mid_base.specs.declared.steps.Step.TheVariants.{Submit, Send}
use Rattle.mid_base.specs.declared.steps.Why.{Why}
use Rattle.mid_base.specs.declared.steps.Why.TheVariants.{LaneDone, Recovery, NoSend, Spent}
use Rattle.mid_base.specs.declared.host_spec.CmdSpec.{CmdSpec}
use Rattle.mid_base.specs.declared.host_spec.HostSpec.{HostSpec}
use Rattle.mid_base.specs.Limits.{differ_in_id}
use Rattle.mid_base.specs.Answers.{no_connect}
use Rattle.device_states.specs.States.{is_closed}
use Rattle.trace_model.specs.Names.{command, dev_of}
use Rattle.trace_model.specs.Attempts.{sends}
use Rattle.trace_model.specs.declared.standing.Standing.{Standing}
use Rattle.trace_model.specs.declared.standing.Standing.TheVariants.{New, Waits, Busy, Ended}
use Rattle.trace_model.specs.Commands.{standing, is_new, holds}
use Rattle.trace_model.specs.Devices.{state, is_online, in_recovery}
use Rattle.trace_model.specs.Sending.{is_left, next_of_lane, is_command, is_next_of_lane, is_refused, is_held, pick, is_number, all_below, is_least_free, is_stranded}
use Rattle.trace_model.specs.Steps.{opens, would_send, first_why}
use Rattle.trace_model.specs.Rules.{Allowed}
use Rattle.mid_base.specs.Limits.{last_number}
use Rattle.step_laws.specs.Enabled.{IsEnabled, IsRightlyBarred, bars}
use Rattle.step_laws.proofs.Causes.{passed, passes, not_none, is_it}

any_found : {A : Type 0} (f : A → Bool) (xs : List A) (x : A) → find f xs ≡ Some x → list_any f xs ≡ true
any_found f [] x e = absurd (none-some x e)
any_found f (y ∷ xs) x e = ⊎_elim (λ yes. rw yes refl) (λ no. rw no (any_found f xs x (rw no at e))) (cases_Bool (f y))

pub found_has : {A : Type 0} (f : A → Bool) (xs : List A) (x : A) → find f xs ≡ Some x → f x ≡ true
found_has f [] x e = absurd (none-some x e)
found_has f (y ∷ xs) x e = ⊎_elim (λ yes. subst (λ z. f z ≡ true) (same_Some y x (rw yes at e)) yes) (λ no. found_has f xs x (rw no at e)) (cases_Bool (f y))

-- where ids differ, a command that is found is found by its id
by_id : (f : CmdSpec → Bool) (ks : List CmdSpec) (k : CmdSpec) → differ_in_id ks ≡ true → find f ks ≡ Some k → find (λ j. j.id.0 == k.id.0) ks ≡ Some k
by_id f [] k d e = absurd (none-some k e)
by_id f (j ∷ ks) k d e = ⊎_elim
    (λ yes. let same : j ≡ k = same_Some j k (rw yes at e) in rw (eq-eqb j.id.0 k.id.0 (ap (λ (i : CmdSpec). i.id.0) same)) (ap Some same))
    (λ no.
    let parts = and_parts (not (list_any (λ i. i.id.0 == j.id.0) ks)) (differ_in_id ks) d in
    let rest : find (λ i. i.id.0 == k.id.0) ks ≡ Some k = by_id f ks k parts.1 (rw no at e) in
    ⊎_elim
    (λ same. absurd (clash (list_any (λ i. i.id.0 == j.id.0) ks) parts.0 (subst (λ (n : ℕ). list_any (λ (i : CmdSpec). i.id.0 == n) ks ≡ true) (sym same.1) (any_found (λ i. i.id.0 == k.id.0) ks k rest))))
    (λ other. rw other.0 rest)
    (eqb_tells j.id.0 k.id.0))
    (cases_Bool (f j))
  where
    clash : (b : Bool) → not b ≡ true → b ≡ true → ⊥
    clash true n h = cc n
    clash false n h = cc h

own_command : (s : HostSpec) (f : CmdSpec → Bool) (k : CmdSpec) → differ_in_id s.cmds ≡ true → find f s.cmds ≡ Some k → command s k.id.0 ≡ k
own_command s f k d e = rw (by_id f s.cmds k d e) refl

submit_yes : (s : HostSpec) (P : List Entry) (lane : LaneNo) → differ_in_id s.cmds ≡ true → is_none (next_of_lane s P lane.0) ≡ false → IsEnabled s P (Submit lane)
submit_yes s P lane d h =
    let found = not_none (next_of_lane s P lane.0) h in
    let k : CmdSpec = found.0 in
    let own : command s k.id.0 ≡ k = own_command s (is_left lane.0 P) k d found.1 in
    let left : is_left lane.0 P k ≡ true = found_has (is_left lane.0 P) s.cmds k found.1 in
    let lanes : ((command s k.id.0).lane.0 == lane.0) ≡ true = subst (λ (j : CmdSpec). (j.lane.0 == lane.0) ≡ true) (sym own) (and_parts (k.lane.0 == lane.0) (is_new (standing k.id.0 P)) left).0 in
    let next : next_of_lane s P (command s k.id.0).lane.0 ≡ Some k = subst (λ (l : ℕ). next_of_lane s P l ≡ Some k) (sym (eqb-true _ _ lanes)) found.1 in
    let is_next : is_next_of_lane s P k.id.0 ≡ true = subst (λ (o : Option CmdSpec). is_command k.id.0 o ≡ true) (sym next) (eq-eqb k.id.0 k.id.0 refl) in
    ⊎_elim
    (λ closed.
    let refused : is_refused s P k.id.0 ≡ true = and_from _ _ is_next closed in
    record { opener = Told k.id no_connect; opens_it = and_from _ _ lanes refused; may_stand = rw refused refl })
    (λ free. record { opener = Took k.id; opens_it = lanes; may_stand = and_from _ _ is_next (rw free refl) })
    (cases_Bool (is_closed (state s (dev_of s k.id.0) P)))

submit_no : (s : HostSpec) (P : List Entry) (lane : LaneNo) (e : Entry) → opens s P (Submit lane) e ≡ true → Allowed s P e → is_none (next_of_lane s P lane.0) ≡ false
submit_no s P lane (Took c) o al =
    subst (λ (l : ℕ). is_none (next_of_lane s P l) ≡ false) (eqb-true (command s c.0).lane.0 lane.0 o) (some_next (next_of_lane s P (command s c.0).lane.0) c.0 (and_parts (is_next_of_lane s P c.0) _ al).0)
  where
    some_next : (n : Option CmdSpec) (c : ℕ) → is_command c n ≡ true → is_none n ≡ false
    some_next None c h = cc h
    some_next (Some k) c h = refl
submit_no s P lane (Told c a) o al =
    let parts = and_parts ((command s c.0).lane.0 == lane.0) (is_refused s P c.0) o in
    subst (λ (l : ℕ). is_none (next_of_lane s P l) ≡ false) (eqb-true (command s c.0).lane.0 lane.0 parts.0) (some_next (next_of_lane s P (command s c.0).lane.0) c.0 (and_parts (is_next_of_lane s P c.0) _ parts.1).0)
  where
    some_next : (n : Option CmdSpec) (c : ℕ) → is_command c n ≡ true → is_none n ≡ false
    some_next None c h = cc h
    some_next (Some k) c h = refl
submit_no s P lane e o al = cc o

pub submit : (s : HostSpec) (P : List Entry) (lane : LaneNo) → differ_in_id s.cmds ≡ true → IsRightlyBarred s P (Submit lane)
submit s P lane d due = (
  λ h. (refl, submit_yes s P lane d (passed (is_none (next_of_lane s P lane.0)) LaneDone [] refl h).0),
  λ h. passes (is_none (next_of_lane s P lane.0)) LaneDone [] (submit_no s P lane h.1.opener h.1.opens_it h.1.may_stand) refl,
)

-- some number below n fails a test, and each below it passes; or each below n passes
least : (f : ℕ → Bool) (n : ℕ) → (all_below n f ≡ true) ⊎ ((t : ℕ) × (f t ≡ false) × (all_below t f ≡ true))
least f zero = inl refl
least f (suc n) = ⊎_elim
    (λ all. ⊎_elim (λ yes. inl (and_from (f n) _ yes all)) (λ no. inr (n, no, all)) (cases_Bool (f n)))
    (λ found. inr found)
    (least f n)

-- no tag from some number on is held
beyond_one : (x : Standing) → (m : ℕ) × ((t : ℕ) → m ≤ t → holds t x ≡ false)
beyond_one New = (0, λ t le. refl)
beyond_one Waits = (0, λ t le. refl)
beyond_one (Busy n u) = (u.0 + 1, λ t le. ⊎_elim (λ yes. absurd (omega (arith, le, yes.1))) (λ no. no.0) (eqb_tells u.0 t))
beyond_one Ended = (0, λ t le. refl)

beyond_all : (P : List Entry) (ks : List CmdSpec) → (m : ℕ) × ((t : ℕ) → m ≤ t → list_any (λ k. holds t (standing k.id.0 P)) ks ≡ false)
beyond_all P [] = (0, λ t le. refl)
beyond_all P (k ∷ ks) =
    let rest = beyond_all P ks in
    let here = beyond_one (standing k.id.0 P) in
    (rest.0 + here.0, λ t le. rw (here.1 t (omega (arith, le))) (rest.1 t (omega (arith, le))))

least_free : (s : HostSpec) (P : List Entry) → (t : ℕ) × (is_least_free s P t ≡ true)
least_free s P =
    let top = beyond_all P s.cmds in
    ⊎_elim
    (λ all. absurd (cc (sym (top.1 top.0 (omega arith)) ∙ (and_parts (is_held s P top.0) (all_below top.0 (is_held s P)) all).0)))
    (λ found. (found.0, and_from (not (is_held s P found.0)) _ (rw found.1 refl) found.2))
    (least (is_held s P) (suc top.0))

is_that : (c : ℕ) (o : Option ℕ) → o ≡ Some c → is_number c o ≡ true
is_that c o e = rw e (eq-eqb c c refl)

that_is : (c : ℕ) (o : Option ℕ) → is_number c o ≡ true → o ≡ Some c
that_is c None h = cc h
that_is c (Some d) h = ap Some (eqb-true d c h)

five : (a b c d e : Bool) → a ≡ true → b ≡ true → c ≡ true → d ≡ true → e ≡ true → a && b && c && d && e ≡ true
five a b c d e p q r s t = and_from (a && b && c && d) e (and_from (a && b && c) d (and_from (a && b) c (and_from a b p q) r) s) t

send_yes : (s : HostSpec) (P : List Entry) → in_recovery P ≡ false → is_none (pick s P) ≡ false → IsEnabled s P Send
send_yes s P calm h =
    let found = not_none (pick s P) h in
    let c : ℕ = found.0 in
    let picked : is_number c (pick s P) ≡ true = is_that c (pick s P) found.1 in
    ⊎_elim
    (λ on. let free = least_free s P in record {
      opener = Sent (record { 0 = c }) (record { 0 = sends P + 1 }) (record { 0 = free.0 });
      opens_it = refl;
      may_stand = five (not (in_recovery P)) (is_number c (pick s P)) (is_online s (dev_of s c) P) _ (is_least_free s P free.0) (rw calm refl) picked on (eq-eqb (sends P + 1) (sends P + 1) refl) free.1;
    })
    (λ off.
    let stranded : is_stranded s P c ≡ true = and_from _ _ (and_from (not (in_recovery P)) _ (rw calm refl) picked) (rw off refl) in
    record { opener = Told (record { 0 = c }) no_connect; opens_it = stranded; may_stand = rw (or_right (is_refused s P c) (is_stranded s P c) stranded) refl })
    (cases_Bool (is_online s (dev_of s c) P))

picked_no : (s : HostSpec) (P : List Entry) (c : ℕ) → not (in_recovery P) && is_number c (pick s P) ≡ true → (in_recovery P ≡ false) × (is_none (pick s P) ≡ false)
picked_no s P c h = let parts = and_parts (not (in_recovery P)) _ h in (not-true _ parts.0, is_it (pick s P) c (that_is c (pick s P) parts.1))

send_no : (s : HostSpec) (P : List Entry) (e : Entry) → opens s P Send e ≡ true → Allowed s P e → (in_recovery P ≡ false) × (is_none (pick s P) ≡ false)
send_no s P (Sent c n t) o al =
    let four = and_parts (not (in_recovery P) && is_number c.0 (pick s P) && is_online s (dev_of s c.0) P && (n.0 == sends P + 1)) (is_least_free s P t.0) al in
    let three = and_parts (not (in_recovery P) && is_number c.0 (pick s P) && is_online s (dev_of s c.0) P) (n.0 == sends P + 1) four.0 in
    picked_no s P c.0 (and_parts (not (in_recovery P) && is_number c.0 (pick s P)) (is_online s (dev_of s c.0) P) three.0).0
send_no s P (Told c a) o al = picked_no s P c.0 (and_parts (not (in_recovery P) && is_number c.0 (pick s P)) _ o).0
send_no s P e o al = cc o

spent_is_none : (b : Bool) → bars (first_why ((b, Spent) ∷ [])) ≡ false
spent_is_none true = refl
spent_is_none false = refl

pub send : (s : HostSpec) (P : List Entry) → IsRightlyBarred s P Send
send s P due =
    let last : List (Bool × Why) = (would_send s P (pick s P) && nat_le last_number (sends P + 1), Spent) ∷ [] in
    let later : List (Bool × Why) = (is_none (pick s P), NoSend) ∷ last in (
      λ h. let x = passed (in_recovery P) Recovery later refl h in
          let y = passed (is_none (pick s P)) NoSend last refl x.1 in (refl, send_yes s P x.0 y.0),
      λ h. let x = send_no s P h.1.opener h.1.opens_it h.1.may_stand in
          passes (in_recovery P) Recovery later x.0 (passes (is_none (pick s P)) NoSend last x.1 (spent_is_none _)),
    )
