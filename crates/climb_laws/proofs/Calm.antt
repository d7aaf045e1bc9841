-- What the entries of a recovery's course change of a journal.
use Rattle.std.proofs.Common.{◌≡◌, ℕ, ◌==◌, Bool, true, false, ◌||◌, cond, List, [], ◌∷◌, refl, ap, ◌∙◌}
use Rattle.std.specs.List.{list_any, list_all}
use Rattle.std.proofs.lemmas.Bool.{and_parts, and_from}
use Rattle.mid_base.specs.declared.entries.Entry.{Entry}
use Rattle.mid_base.specs.declared.entries.Entry.TheVariants.{Judged, Cleared, Sensed, Probe, Offline}
use Rattle.trace_model.specs.Attempts.{answer}
use Rattle.trace_model.specs.Commands.{retries}
use Rattle.trace_model.specs.Devices.{has_begun}
use Rattle.trace_model.specs.Recovery.{failed, is_cleared, last_act}
use Rattle.trace_model.specs.Course.{Course, after, Follows}
use Rattle.trace_model.specs.Legal.{onto}
use Rattle.trace_model.proofs.Owes.{Owes, is_calm, meets_owes, after_owes}
use Rattle.escalation.specs.Climbing.{clears, sensed, sensed_by}

-- what each entry that may be owed is, each entry of the whole course is
pub follows_all : (q : Entry → Bool) (k : Course) (es : List Entry) → Owes (λ e. q e ≡ true) k → Follows k es → list_all q es ≡ true
follows_all q k [] o f = refl
follows_all q k (e ∷ es) o f =
    and_from (q e) (list_all q es) (meets_owes (λ x. q x ≡ true) k e o f.0) (follows_all q (after k e) es (after_owes (λ x. q x ≡ true) k e o) f.1)

-- the failed list, the last act and the retries are the same
pub record Stays (P Q : List Entry) : Type 0 where
  pub failed : failed Q ≡ failed P
  pub begun : has_begun Q ≡ has_begun P
  pub act : last_act Q ≡ last_act P
  pub retries : (c : ℕ) → retries c Q ≡ retries c P

calm_stays : (P : List Entry) (e : Entry) → is_calm e ≡ true → Stays P (e ∷ P)
calm_stays P (Judged c n d) h = record { failed = refl; begun = refl; act = refl; retries = λ d. refl }
calm_stays P (Cleared c level) h = record { failed = refl; begun = refl; act = refl; retries = λ d. refl }
calm_stays P (Sensed c n x) h = record { failed = refl; begun = refl; act = refl; retries = λ d. refl }
calm_stays P (Probe d code say) h = record { failed = refl; begun = refl; act = refl; retries = λ d. refl }
calm_stays P (Offline d) h = record { failed = refl; begun = refl; act = refl; retries = λ d. refl }
calm_stays P e h = cc h

pub stays_onto : (es P : List Entry) → list_all is_calm es ≡ true → Stays P (onto es P)
stays_onto [] P h = record { failed = refl; begun = refl; act = refl; retries = λ d. refl }
stays_onto (e ∷ es) P h =
    let parts = and_parts (is_calm e) (list_all is_calm es) h in
    let one : Stays P (e ∷ P) = calm_stays P e parts.0 in
    let more : Stays (e ∷ P) (onto es (e ∷ P)) = stays_onto es (e ∷ P) parts.1 in
    record { failed = more.failed ∙ one.failed; begun = more.begun ∙ one.begun; act = more.act ∙ one.act; retries = λ c. more.retries c ∙ one.retries c }

calm_answer : (n : ℕ) (P : List Entry) (e : Entry) → is_calm e ≡ true → answer n (e ∷ P) ≡ sensed_by n e (answer n P)
calm_answer n P (Judged c m d) h = refl
calm_answer n P (Cleared c level) h = refl
calm_answer n P (Sensed c m x) h = refl
calm_answer n P (Probe d code say) h = refl
calm_answer n P (Offline d) h = refl
calm_answer n P e h = cc

pub answer_onto : (n : ℕ) (es P : List Entry) → list_all is_calm es ≡ true → answer n (onto es P) ≡ sensed n es (answer n P)
answer_onto n [] P h = refl
answer_onto n (e ∷ es) P h =
    let parts = and_parts (is_calm e) (list_all is_calm es) h in
    answer_onto n es (e ∷ P) parts.1 ∙ ap (sensed n es) (calm_answer n P e parts.0)

calm_cleared : (c : ℕ) (P : List Entry) (e : Entry) → is_calm e ≡ true → is_cleared c (e ∷ P) ≡ (clears c e || is_cleared c P)
calm_cleared c P (Judged d n x) h = refl
calm_cleared c P (Cleared d level) h = either (d.0 == c) (is_cleared c P)
  where
    either : (a b : Bool) → cond a true b ≡ (a || b)
    either true b = refl
    either false b = refl
calm_cleared c P (Sensed d n x) h = refl
calm_cleared c P (Probe d code say) h = refl
calm_cleared c P (Offline d) h = refl
calm_cleared c P e h = cc

swapped : (a b x : Bool) → (a || (b || x)) ≡ ((b || a) || x)
swapped true true x = refl
swapped true false x = refl
swapped false true x = refl
swapped false false x = refl

pub cleared_onto : (c : ℕ) (es P : List Entry) → list_all is_calm es ≡ true → is_cleared c (onto es P) ≡ (list_any (clears c) es || is_cleared c P)
cleared_onto c [] P h = refl
cleared_onto c (e ∷ es) P h =
    let parts = and_parts (is_calm e) (list_all is_calm es) h in
    cleared_onto c es (e ∷ P) parts.1
    ∙ (ap (λ (b : Bool). list_any (clears c) es || b) (calm_cleared c P e parts.0) ∙ swapped (list_any (clears c) es) (clears c e) (is_cleared c P))
