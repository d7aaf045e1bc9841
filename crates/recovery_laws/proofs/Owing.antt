-- What a course may owe is taken, entry by entry.
use Rattle.std.proofs.Common.{◌≡◌, ℕ, ◌==◌, Bool, true, false, cond, map, List, [], ◌∷◌, Option, None, Some, option_map, refl, sym, subst}
use Rattle.mid_base.specs.Answers.{with_sense}
use Rattle.mid_base.specs.declared.answers.Answer.{Answer}
use Rattle.mid_base.specs.declared.bytes.SenseBytes.{SenseBytes}
use Rattle.mid_base.specs.declared.entries.Entry.{Entry}
use Rattle.mid_base.specs.declared.entries.Entry.TheVariants.{Judged, Cleared, Sensed, Act, Probe, Offline}
use Rattle.mid_base.specs.declared.host_spec.HostSpec.{HostSpec}
use Rattle.disposition.specs.declared.todo.Todo.{Todo}
use Rattle.trace_model.specs.Attempts.{answer}
use Rattle.trace_model.specs.Course.{Course, over, next, ask, fetch, Follows, after}
use Rattle.trace_model.specs.Recovery.{Failure, failed}
use Rattle.trace_model.proofs.Owes.{Owes, meets_owes, after_owes}
use Rattle.verdict_table.specs.Taken.{has_failed, moves_no_depth, Takes, AreTaken}

pub owes_map : (Q R : Entry → Type 0) → ((e : Entry) → Q e → R e) → (k : Course) → Owes Q k → Owes R k
owes_map Q R f over h = tt
owes_map Q R f (next x k) h = (f x h.0, owes_map Q R f k h.1)
owes_map Q R f (ask d code want k) h = (λ say. f (Probe d code say) (h.0 say), λ say. owes_map Q R f (k say) (h.1 say))
owes_map Q R f (fetch c n k) h = (λ sense. f (Sensed c n sense) (h.0 sense), λ sense. owes_map Q R f (k sense) (h.1 sense))

-- the same commands are failed, and no answer moves a depth that moved none
abbrev Same : List Entry → List Entry → Type 0
Same P Q = (failed Q ≡ failed P) × ((n : ℕ) → moves_no_depth (answer n P) ≡ true → moves_no_depth (answer n Q) ≡ true)

sensed_moves : (x : SenseBytes) (b : Bool) (o : Option Answer) → moves_no_depth o ≡ true → moves_no_depth (cond b (option_map (with_sense x) o) o) ≡ true
sensed_moves x true None h = refl
sensed_moves x true (Some a) h = h
sensed_moves x false o h = h

taken_same : (s : HostSpec) (P : List Entry) (e : Entry) → Takes s P e → Same P (e ∷ P)
taken_same s P (Act level scope ok) h = (refl, λ n q. q)
taken_same s P (Probe d op say) h = (refl, λ n q. q)
taken_same s P (Cleared c level) h = (refl, λ n q. q)
taken_same s P (Offline d) h = (refl, λ n q. q)
taken_same s P (Judged c m d) h = (refl, λ n q. q)
taken_same s P (Sensed c m x) h = (refl, λ n q. sensed_moves x (m.0 == n) (answer n P) q)
taken_same s P e h = absurd h

takes_still : (s : HostSpec) (P Q : List Entry) → Same P Q → (e : Entry) → Takes s P e → Takes s Q e
takes_still s P Q same (Act level scope ok) h = tt
takes_still s P Q same (Probe d op say) h = tt
takes_still s P Q same (Cleared c level) h = tt
takes_still s P Q same (Offline d) h = h
takes_still s P Q same (Judged c n d) h = (subst (λ (fs : List Failure). has_failed c.0 n.0 fs ≡ true) (sym same.0) h.0, same.1 n.0 h.1)
takes_still s P Q same (Sensed c n x) h = subst (λ (fs : List Failure). has_failed c.0 n.0 fs ≡ true) (sym same.0) h
takes_still s P Q same e h = absurd h

-- what is owed behind an entry that is taken
pub owes_behind : (s : HostSpec) (P : List Entry) (e : Entry) (k : Course) → Takes s P e → Owes (Takes s P) k → Owes (Takes s (e ∷ P)) k
owes_behind s P e k t h = owes_map (Takes s P) (Takes s (e ∷ P)) (takes_still s P (e ∷ P) (taken_same s P e t)) k h

pub follows_taken : (s : HostSpec) (P : List Entry) (k : Course) (es : List Entry) → Owes (Takes s P) k → Follows k es → AreTaken s P es
follows_taken s P k [] h f = tt
follows_taken s P k (e ∷ es) h f =
    let t = meets_owes (Takes s P) k e h f.0 in
    (t, follows_taken s (e ∷ P) (after k e) es (owes_behind s P e (after k e) t (after_owes (Takes s P) k e h)) f.1)

pub cleared_taken : (s : HostSpec) (P : List Entry) (level : ℕ) (xs : List Todo) → AreTaken s P (map (λ (x : Todo). Cleared x.cmd level) xs)
cleared_taken s P level [] = tt
cleared_taken s P level (x ∷ xs) = (tt, cleared_taken s (Cleared x.cmd level ∷ P) level xs)
