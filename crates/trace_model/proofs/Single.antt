-- Single rules.
use Rattle.std.proofs.Common.{◌≡◌, ◌⊎◌, ℕ, ◌==◌, ◌+◌, Bool, true, false, not, ◌&&◌, ◌||◌, List, [], ◌∷◌, Option, Some, refl, sym, subst, ⊎_elim, filter, cond, arith}
use Rattle.std.specs.Prelude.{is_none}
use Rattle.std.specs.List.{list_any, list_all}
use Rattle.std.proofs.lemmas.Bool.{eqb-true, eq-eqb, cases_Bool}
use Rattle.mid_base.specs.declared.names.Attempt.{Attempt}
use Rattle.mid_base.specs.declared.answers.Answer.{Answer}
use Rattle.mid_base.specs.declared.entries.Entry.{Entry}
use Rattle.mid_base.specs.declared.entries.Entry.TheVariants.{Sent, Bounced, Ready, Owned}
use Rattle.mid_base.specs.declared.host_spec.HostSpec.{HostSpec}
use Rattle.trace_model.specs.Attempts.{attempts, is_open, is_answered, is_wanted, answered, late}
use Rattle.trace_model.specs.Time.{is_claimed, is_expired, may_tick}

pub first_holds : (a b : Bool) → a && b ≡ true → a ≡ true
first_holds true b h = refl
first_holds false b h = h

-- an open attempt is among those that were sent
pub open_among : (n : ℕ) (f : ℕ → Bool) (P : List Entry) → is_open n P ≡ true → f n ≡ true → list_any f (attempts P) ≡ true
open_among n f [] h k = cc h
open_among n f (Sent c m t ∷ P) h k = ⊎_elim
    (λ yes. let here : f m.0 ≡ true = subst (λ (i : ℕ). f i ≡ true) (sym (eqb-true m.0 n yes)) k in rw here refl)
    (λ no. let there : list_any f (attempts P) ≡ true = open_among n f P (rw no at h) k in or_true (f m.0) (list_any f (attempts P)) there)
    (cases_Bool (m.0 == n))
  where
    or_true : (a b : Bool) → b ≡ true → a || b ≡ true
    or_true true b h = refl
    or_true false b h = h
open_among n f (Bounced c m why ∷ P) h k = ⊎_elim (λ yes. cc (rw yes at h)) (λ no. open_among n f P (rw no at h) k) (cases_Bool (m.0 == n))
open_among n f (Owned m by ∷ P) h k = ⊎_elim (λ yes. cc (rw yes at h)) (λ no. open_among n f P (rw no at h) k) (cases_Bool (m.0 == n))
open_among n f (e ∷ P) h k = open_among n f P h k

pub ready_waits : (s : HostSpec) (P : List Entry) (n : Attempt) (a : Answer) → may_tick s (Ready n a ∷ P) ≡ false
ready_waits s P n a = ⊎_elim
    (λ wanted.
    let going : is_open n.0 P ≡ true = first_holds (is_open n.0 P) (not (is_answered n.0 P)) wanted in
    let here : is_claimed (Ready n a ∷ P) n.0 ≡ true = rw (going, eq-eqb n.0 n.0 refl) refl in
    let any : list_any (is_claimed (Ready n a ∷ P)) (attempts P) ≡ true = open_among n.0 (is_claimed (Ready n a ∷ P)) P going here in
    rw any refl)
    (λ stray.
    let more : late n.0 (Ready n a ∷ P) ≡ late n.0 P + 1 = rw (eq-eqb n.0 n.0 refl) (stray_more (is_wanted n.0 P) (late n.0 P) stray) in
    let some : (late n.0 (Ready n a ∷ P) == 0) ≡ false = rw more (not_zero (late n.0 P)) in
    all_false (not (list_any (is_claimed (Ready n a ∷ P)) (attempts P))) (late n.0 (Ready n a ∷ P) == 0) _ _ some)
    (cases_Bool (is_wanted n.0 P))
  where
    stray_more : (w : Bool) (x : ℕ) → w ≡ false → cond (true && not w) (x + 1) x ≡ x + 1
    stray_more w x h = rw h refl

    not_zero : (k : ℕ) → (k + 1 == 0) ≡ false
    not_zero k = ⊎_elim (λ yes. absurd (never (eqb-true (k + 1) 0 yes))) (λ no. no) (cases_Bool (k + 1 == 0))
      where
        never : k + 1 ≡ 0 → ⊥
        never e = omega (arith, e)

    all_false : (a b c d : Bool) → b ≡ false → a && (b && c) && d ≡ false
    all_false true b c d h = rw h refl
    all_false false b c d h = refl

pub all_kept : {A : Type 0} (p : A → Bool) (xs : List A) → list_all p xs ≡ true → filter p xs ≡ xs
all_kept p [] h = refl
all_kept p (x ∷ xs) h =
    let here : p x ≡ true = first_holds (p x) (list_all p xs) h in
    let rest : filter p xs ≡ xs = all_kept p xs (rw here at h) in
    rw (here, rest) refl

pub last_false : (a b c : Bool) → c ≡ false → a && b && c ≡ false
last_false true true c h = h
last_false true false c h = refl
last_false false b c h = refl

pub middle_false : (a b c : Bool) → b ≡ false → a && b && c ≡ false
middle_false true b c h = rw h refl
middle_false false b c h = refl

pub none_or : {A : Type 0} (o : Option A) (x : A) (b : Bool) → o ≡ Some x → b ≡ false → is_none o || b ≡ false
none_or o x b e h = rw (e, h) refl
