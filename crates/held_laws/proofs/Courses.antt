-- What is held right stays so over the entries of a course.
use Rattle.std.proofs.Common.{◌≡◌, ℕ, Bool, true, false, filter, List, [], ◌∷◌, refl, ⊎_elim}
use Rattle.std.proofs.lemmas.Bool.{cases_Bool}
use Rattle.mid_base.specs.declared.answers.Disp.{Disp}
use Rattle.mid_base.specs.declared.answers.Disp.TheVariants.{Success, Retry, Requeue, Fail}
use Rattle.mid_base.specs.declared.entries.Entry.{Entry}
use Rattle.mid_base.specs.declared.entries.Entry.TheVariants.{Judged, Cleared, Sensed, Probe, Offline}
use Rattle.mid_base.specs.declared.host_spec.HostSpec.{HostSpec}
use Rattle.mid_base.specs.declared.names.DevAddr.{DevAddr}
use Rattle.mid_base.specs.Address.{same_dev}
use Rattle.mid_base.specs.Levels.{Level, fetch_sense, abort, start_unit, reset_device, reset_target, reset_bus, reset_host, give_up, not_online, no_level}
use Rattle.disposition.specs.declared.todo.Todo.{Todo}
use Rattle.disposition.specs.Ladder.{devs}
use Rattle.trace_model.specs.Climb.{tests, clear, test_and_clear, on_one_of, is_doubtful, kept_if, judge_again, fetch_for, start_for, act_on}
use Rattle.trace_model.specs.Course.{Course, Follows, after}
use Rattle.trace_model.specs.Devices.{state}
use Rattle.trace_model.specs.Legal.{onto}
use Rattle.trace_model.specs.Names.{dev_of}
use Rattle.trace_model.proofs.Owes.{Owes, either, meets_owes, after_owes}
use Rattle.recovery_laws.proofs.Owing.{owes_map}
use Rattle.held_laws.specs.Held.{Held, HoldsRight}
use Rattle.held_laws.proofs.Entries.{AllLost, Suits, stays_right, off_state}

-- an entry of a course, which clears none but such commands
abbrev pub Clears : (ℕ → Type 0) → Entry → Type 0
Clears Q (Cleared c level) = Q c.0
Clears Q (Judged c n d) = Unit {0}
Clears Q (Sensed c n x) = Unit {0}
Clears Q (Probe d code say) = Unit {0}
Clears Q (Offline d) = Unit {0}
Clears Q e = ⊥

abbrev pub Each : (Todo → Type 0) → List Todo → Type 0
Each Q [] = Unit {0}
Each Q (x ∷ xs) = Q x × Each Q xs

abbrev pub AreAll : (ℕ → Type 0) → List Todo → Type 0
AreAll Q xs = Each (λ x. Q x.cmd.0) xs

pub each_kept : (A B : Todo → Type 0) (keep : Todo → Bool) (xs : List Todo) → ((x : Todo) → keep x ≡ true → A x → B x) → Each A xs → Each B (filter keep xs)
each_kept A B keep [] f h = tt
each_kept A B keep (x ∷ xs) f h = ⊎_elim
    (λ yes. rw yes (f x yes h.0, each_kept A B keep xs f h.1))
    (λ no. rw no (each_kept A B keep xs f h.1))
    (cases_Bool (keep x))

clear_owes : (Q : ℕ → Type 0) (level : ℕ) (xs : List Todo) → AreAll Q xs → Owes (Clears Q) (clear level xs)
clear_owes Q level [] h = tt
clear_owes Q level (x ∷ xs) h = (h.0, clear_owes Q level xs h.1)

tests_owe : (Q : ℕ → Type 0) (ds : List DevAddr) (k : List DevAddr → Course) → ((r : List DevAddr) → Owes (Clears Q) (k r)) → Owes (Clears Q) (tests ds k)
tests_owe Q [] k h = h []
tests_owe Q (d ∷ ds) k h = (
  λ say. tt,
  λ say. either (Clears Q) (is_doubtful say) _ _
      (λ again. tt, λ again. tests_owe Q ds (λ ready. k (kept_if again d ready)) (λ r. h (kept_if again d r)))
      (tests_owe Q ds (λ ready. k (kept_if say d ready)) (λ r. h (kept_if say d r))),
)

test_owes : (Q : ℕ → Type 0) (level : ℕ) (xs : List Todo) → AreAll Q xs → Owes (Clears Q) (test_and_clear level xs)
test_owes Q level xs h = tests_owe Q (devs xs) _ (λ ready. clear_owes Q level (filter (on_one_of ready) xs)
    (each_kept (λ x. Q x.cmd.0) (λ x. Q x.cmd.0) (on_one_of ready) xs (λ x is q. q) h))

again_owes : (Q : ℕ → Type 0) (x : Todo) (d : Disp) → Q x.cmd.0 → Owes (Clears Q) (judge_again x d)
again_owes Q x Success q = (tt, (q, tt))
again_owes Q x Retry q = (tt, (q, tt))
again_owes Q x Requeue q = (tt, tt)
again_owes Q x Fail q = (tt, tt)

fetch_owes : (Q : ℕ → Type 0) (ok : Bool) (xs : List Todo) → (ok ≡ true → AreAll Q xs) → Owes (Clears Q) (fetch_for ok xs)
fetch_owes Q ok [] h = tt
fetch_owes Q false (x ∷ xs) h = (λ say. tt, λ say. tt)
fetch_owes Q true (x ∷ xs) h = (λ say. tt, λ say. (λ sense. tt, λ sense. again_owes Q x _ (h refl).0))

start_owes : (Q : ℕ → Type 0) (ok : Bool) (xs : List Todo) → (ok ≡ true → AreAll Q xs) → Owes (Clears Q) (start_for ok xs)
start_owes Q ok [] h = tt
start_owes Q false (x ∷ xs) h = (λ say. tt, λ say. tt)
start_owes Q true (x ∷ xs) h = (λ say. tt, λ say. test_owes Q 3 (x ∷ xs) (h refl))

-- an act clears none but commands of its scope, and none where it failed
pub act_owes : (Q : ℕ → Type 0) (at : Level) (level : ℕ) (ok : Bool) (xs : List Todo) → (at ≡ give_up → ⊥) → (ok ≡ true → AreAll Q xs) → Owes (Clears Q) (act_on at level ok xs)
act_owes Q fetch_sense level ok xs n h = fetch_owes Q ok xs h
act_owes Q start_unit level ok xs n h = start_owes Q ok xs h
act_owes Q give_up level ok xs n h = absurd (n refl)
act_owes Q not_online level ok xs n h = tt
act_owes Q no_level level ok xs n h = tt
act_owes Q abort level true xs n h = test_owes Q level xs (h refl)
act_owes Q reset_device level true xs n h = test_owes Q level xs (h refl)
act_owes Q reset_target level true xs n h = test_owes Q level xs (h refl)
act_owes Q reset_bus level true xs n h = test_owes Q level xs (h refl)
act_owes Q reset_host level true xs n h = test_owes Q level xs (h refl)
act_owes Q abort level false xs n h = tt
act_owes Q reset_device level false xs n h = tt
act_owes Q reset_target level false xs n h = tt
act_owes Q reset_bus level false xs n h = tt
act_owes Q reset_host level false xs n h = tt

clears_map : (Q R : ℕ → Type 0) → ((c : ℕ) → Q c → R c) → (e : Entry) → Clears Q e → Clears R e
clears_map Q R f (Cleared c level) h = f c.0 h
clears_map Q R f (Judged c n d) h = tt
clears_map Q R f (Sensed c n x) h = tt
clears_map Q R f (Probe d code say) h = tt
clears_map Q R f (Offline d) h = tt
clears_map Q R f e h = absurd h

clears_suit : (s : HostSpec) (P : List Entry) (held : Held) (e : Entry) → Clears (λ c. AllLost s P c held) e → Suits s P held e
clears_suit s P held (Cleared c level) h = h
clears_suit s P held (Judged c n d) h = tt
clears_suit s P held (Sensed c n x) h = tt
clears_suit s P held (Probe d code say) h = tt
clears_suit s P held (Offline d) h = tt
clears_suit s P held e h = absurd h

lost_still : (s : HostSpec) (P : List Entry) (held : Held) (Q : ℕ → Type 0) (e : Entry) → Clears Q e → (c : ℕ) → AllLost s P c held → AllLost s (e ∷ P) c held
lost_still s P held Q (Cleared c level) q k h = h
lost_still s P held Q (Judged c n d) q k h = h
lost_still s P held Q (Sensed c n x) q k h = h
lost_still s P held Q (Probe d code say) q k h = h
lost_still s P held Q (Offline e) q k h = λ n d on sent is. off_state (same_dev e (dev_of s k)) (state s (dev_of s k) P) (h n d on sent is)
lost_still s P held Q e q k h = absurd q

pub follows_right : (s : HostSpec) (P : List Entry) (held : Held) (k : Course) (es : List Entry) → Owes (Clears (λ c. AllLost s P c held)) k → Follows k es → HoldsRight s P held
    → HoldsRight s (onto es P) held
follows_right s P held k [] o f h = h
follows_right s P held k (e ∷ es) o f h =
    let q : Clears (λ c. AllLost s P c held) e = meets_owes (Clears (λ c. AllLost s P c held)) k e o f.0 in
    follows_right s (e ∷ P) held (after k e) es
    (owes_map (Clears (λ c. AllLost s P c held)) (Clears (λ c. AllLost s (e ∷ P) c held)) (λ x p. clears_map (λ c. AllLost s P c held) (λ c. AllLost s (e ∷ P) c held) (λ c. lost_still s P held (λ c. AllLost s P c held) e q c) x p)
    (after k e) (after_owes (Clears (λ c. AllLost s P c held)) k e o))
    f.1 (stays_right s P held e (clears_suit s P held e q) h)

-- each command of a list is cleared
pub clear_right : (s : HostSpec) (P : List Entry) (held : Held) (level : ℕ) (xs : List Todo) (es : List Entry) → AreAll (λ c. AllLost s P c held) xs → Follows (clear level xs) es → HoldsRight s P held
    → HoldsRight s (onto es P) held
clear_right s P held level xs es all f h = follows_right s P held (clear level xs) es (clear_owes (λ c. AllLost s P c held) level xs all) f h
