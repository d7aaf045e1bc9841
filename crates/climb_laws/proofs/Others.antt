-- Other entries, a flush, and the next act.
use Rattle.std.proofs.Common.{◌≡◌, ℕ, ◌==◌, Bool, true, false, not, cond, filter, find, List, [], ◌∷◌, refl, sym, subst, ap, ap₂, ◌∙◌, ⊎_elim, None}
use Rattle.std.proofs.lemmas.Bool.{cases_Bool, or_parts}
use Rattle.std.proofs.lemmas.Bool.Decides.{eqb_tells}
use Rattle.mid_base.specs.declared.names.CmdId.{CmdId}
use Rattle.mid_base.specs.declared.names.Attempt.{Attempt}
use Rattle.mid_base.specs.declared.answers.Answer.{Answer}
use Rattle.mid_base.specs.declared.entries.Entry.{Entry}
use Rattle.mid_base.specs.declared.entries.Entry.TheVariants.{Took, Ready, Late, Tick, Again, Told}
use Rattle.mid_base.specs.declared.host_spec.HostSpec.{HostSpec}
use Rattle.disposition.specs.declared.todo.Todo.{Todo}
use Rattle.disposition.specs.Ladder.{Pair, pairs, beyond, is_wanted_pair}
use Rattle.trace_model.specs.Attempts.{answer, is_open}
use Rattle.trace_model.specs.Recovery.{Failure, failed, listed, todo, is_cleared, last_act, next_act}
use Rattle.trace_model.specs.Flush.{is_empty}
use Rattle.escalation.specs.Climbing.{Climb, next_pair}
use Rattle.climb_laws.specs.LadderOf.{IsLadderOf, LeavesList, is_on_list}
use Rattle.climb_laws.proofs.Listed.{todos, stands, Same, listed_same}
use Rattle.climb_laws.proofs.Acts.{none_wanted, next_is}

-- a journal of the same list has the same ladder

same_stands : (P Q : List Entry) (xs : List Todo) → ((c : ℕ) → is_cleared c Q ≡ is_cleared c P) → filter (stands Q) xs ≡ filter (stands P) xs
same_stands P Q [] h = refl
same_stands P Q (x ∷ xs) h =
    ap (λ (b : Bool). cond (not b) (x ∷ filter (stands Q) xs) (filter (stands Q) xs)) (h x.cmd.0) ∙ ap (λ (ys : List Todo). cond (stands P x) (x ∷ ys) ys) (same_stands P Q xs h)

kept : (s : HostSpec) (P Q : List Entry) (k : Climb) → Same s P Q → ((c : ℕ) → is_cleared c Q ≡ is_cleared c P) → last_act Q ≡ last_act P → IsLadderOf s P k → IsLadderOf s Q k
kept s P Q k same cleared last h =
    let listed_is : listed s Q ≡ listed s P = listed_same s P Q same in
    let todo_is : todo s Q ≡ todo s P = same_stands P Q (listed s Q) cleared ∙ ap (filter (stands P)) listed_is in
    record {
      left = h.left ∙ sym todo_is;
      ahead = λ some. h.ahead (subst (λ (xs : List Todo). is_empty xs ≡ false) todo_is some) ∙ sym (ap₂ beyond last (ap pairs listed_is));
      handlers = h.handlers;
      aborts = h.aborts;
    }

-- an answer of an attempt that is over
late_answer : (P : List Entry) (n : Attempt) (a : Answer) (m : ℕ) → is_open n.0 P ≡ false → answer m (Ready n a ∷ P) ≡ answer m P
late_answer P n a m h = ⊎_elim
    (λ yes. let shut : is_open m P ≡ false = subst (λ (k : ℕ). is_open k P ≡ false) yes.1 h in rw (yes.0, shut) refl)
    (λ no. rw no.0 refl)
    (eqb_tells n.0 m)

gone_none : (d : ℕ) (fs : List Failure) → is_on_list d fs ≡ false → filter (λ (f : Failure). not (f.cmd.0 == d)) fs ≡ fs
gone_none d [] h = refl
gone_none d (f ∷ fs) h = let parts = or_parts (f.cmd.0 == d) (is_on_list d fs) h in rw parts.0 (ap (λ (gs : List Failure). f ∷ gs) (gone_none d fs parts.1))

pub others : (s : HostSpec) (P : List Entry) (k : Climb) (e : Entry) → LeavesList P e → IsLadderOf s P k → IsLadderOf s (e ∷ P) k
others s P k (Took c) l h = kept s P (Took c ∷ P) k (record { failed = refl; answers = λ n. refl; retries = λ d. refl; online = λ d. refl }) (λ d. refl) refl h
others s P k (Late n) l h = kept s P (Late n ∷ P) k (record { failed = refl; answers = λ m. refl; retries = λ d. refl; online = λ d. refl }) (λ d. refl) refl h
others s P k Tick l h = kept s P (Tick ∷ P) k (record { failed = refl; answers = λ n. refl; retries = λ d. refl; online = λ d. refl }) (λ d. refl) refl h
others s P k (Ready n a) l h = kept s P (Ready n a ∷ P) k (record { failed = refl; answers = λ m. late_answer P n a m l; retries = λ d. refl; online = λ d. refl }) (λ d. refl) refl h
others s P k (Told c a) l h = kept s P (Told c a ∷ P) k (record { failed = gone_none c.0 (failed P) l; answers = λ n. refl; retries = λ d. refl; online = λ d. refl }) (λ d. refl) refl h
others s P k e l h = absurd l

-- where nothing is left to do, nothing is left of fewer

none_left : (s : HostSpec) (P Q : List Entry) (keep : Failure → Bool) (fs : List Failure) → ((c : ℕ) → is_cleared c Q ≡ is_cleared c P) → filter (stands P) (todos s P fs) ≡ []
    → filter (stands Q) (todos s Q (filter keep fs)) ≡ []
none_left s P Q keep [] same h = refl
none_left s P Q keep (f ∷ fs) same h = ⊎_elim
    (λ yes.
    let rest : filter (stands Q) (todos s Q (filter keep fs)) ≡ [] = none_left s P Q keep fs same (rw yes at h) in
    let now : is_cleared f.cmd.0 Q ≡ true = same f.cmd.0 ∙ yes in
    ⊎_elim (λ stays. rw stays (rw now rest)) (λ goes. rw goes rest) (cases_Bool (keep f)))
    (λ no. absurd (cc (rw no at h)))
    (cases_Bool (is_cleared f.cmd.0 P))

ended : (s : HostSpec) (P Q : List Entry) (k : Climb) → todo s P ≡ [] → todo s Q ≡ [] → IsLadderOf s P k → IsLadderOf s Q k
ended s P Q k was now h = record {
  left = h.left ∙ (was ∙ sym now);
  ahead = λ some. absurd (cc (sym some ∙ ap (λ (xs : List Todo). is_empty xs) now));
  handlers = h.handlers;
  aborts = h.aborts;
}

pub again : (s : HostSpec) (P : List Entry) (k : Climb) (c : CmdId) (counted : Bool) → todo s P ≡ [] → IsLadderOf s P k → IsLadderOf s (Again c counted ∷ P) k
again s P k c counted e h =
    ended s P (Again c counted ∷ P) k e (none_left s P (Again c counted ∷ P) (λ (f : Failure). not (f.cmd.0 == c.0)) (failed P) (λ d. refl) e) h

pub told : (s : HostSpec) (P : List Entry) (k : Climb) (c : CmdId) (a : Answer) → todo s P ≡ [] → IsLadderOf s P k → IsLadderOf s (Told c a ∷ P) k
told s P k c a e h = ended s P (Told c a ∷ P) k e (none_left s P (Told c a ∷ P) (λ (f : Failure). not (f.cmd.0 == c.0)) (failed P) (λ d. refl) e) h

-- the next act

nothing_next : (aborts : Bool) (xs : List Todo) (ps : List Pair) → is_empty xs ≡ true → find (is_wanted_pair aborts xs) ps ≡ None
nothing_next aborts [] ps e = none_wanted aborts ps
nothing_next aborts (x ∷ xs) ps e = cc e

pub same_left : (s : HostSpec) (P : List Entry) (k : Climb) → IsLadderOf s P k → is_empty k.left ≡ is_empty (todo s P)
same_left s P k h = ap (λ (xs : List Todo). is_empty xs) h.left

pub same_next : (s : HostSpec) (P : List Entry) (k : Climb) → IsLadderOf s P k → next_pair k ≡ next_act s P
same_next s P k h = ⊎_elim
    (λ none. nothing_next k.aborts k.left k.ahead (same_left s P k h ∙ none) ∙ sym (nothing_next s.no_async_abort (todo s P) (beyond (last_act P) (pairs (listed s P))) none))
    (λ some. next_is s P k h some)
    (cases_Bool (is_empty (todo s P)))
