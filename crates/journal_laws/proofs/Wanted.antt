-- What a list says of answers, without the vain ones.
use Rattle.std.proofs.Common.{◌≡◌, ℕ, ◌==◌, Bool, true, false, not, ◌&&◌, ◌||◌, if◌then◌else◌, List, [], ◌∷◌, None, Some, is_some, option_map, refl, sym, ◌∙◌, subst, ⊎_elim}
use Rattle.std.proofs.lemmas.Bool.{cases_Bool}
use Rattle.std.proofs.lemmas.Bool.Decides.{eqb_tells}
use Rattle.mid_base.specs.declared.answers.By.TheVariants.{Expiry as ByExpiry}
use Rattle.mid_base.specs.declared.entries.Entry.{Entry}
use Rattle.mid_base.specs.declared.entries.Entry.TheVariants.{Sent, Bounced, Ready, Owned, Sensed}
use Rattle.mid_base.specs.Answers.{with_sense}
use Rattle.trace_model.specs.Attempts.{is_open, is_answered, is_wanted, answer, late, owner, is_by_expiry}
use Rattle.journal_laws.specs.Vain.{is_vain, without_vain}
use Rattle.journal_laws.proofs.Blind.{is_open_same}

-- n is none that its expiry owns in X
abbrev pub Safe : List Entry → ℕ → Type 0
Safe X n = is_by_expiry (owner n X) ≡ false

vain_unwanted : (w x : Bool) → x ≡ false → not w || x ≡ true → w ≡ false
vain_unwanted true x e h = cc (sym e ∙ h)
vain_unwanted false x e h = refl

kept_wanted : (w x : Bool) → not w || x ≡ false → (w ≡ true) × (x ≡ false)
kept_wanted true x h = (refl, h)
kept_wanted false x h = cc h

unwanted_answered : (o a : Bool) → o ≡ true → o && not a ≡ false → a ≡ true
unwanted_answered true true e h = refl
unwanted_answered true false e h = cc h
unwanted_answered false a e h = cc e

either_true : (b x : Bool) → x ≡ true → (if b then true else x) ≡ true
either_true true x h = refl
either_true false x h = h

-- an open attempt is answered in both or in none
pub answered_same : (X : List Entry) (n : ℕ) (P : List Entry) → Safe X n → is_open n P ≡ true → is_answered n (without_vain X P) ≡ is_answered n P
answered_same X n [] safe o = refl
answered_same X n (Sent c m t ∷ P) safe o = ⊎_elim (λ yes. rw yes refl) (λ no. rw no (answered_same X n P safe (rw no at o))) (cases_Bool (m.0 == n))
answered_same X n (Bounced c m why ∷ P) safe o = ⊎_elim (λ yes. absurd (cc (rw yes at o))) (λ no. answered_same X n P safe (rw no at o)) (cases_Bool (m.0 == n))
answered_same X n (Owned m by ∷ P) safe o = ⊎_elim (λ yes. absurd (cc (rw yes at o))) (λ no. answered_same X n P safe (rw no at o)) (cases_Bool (m.0 == n))
answered_same X n (Ready m a ∷ P) safe o = ⊎_elim
    (λ vain. rw vain (⊎_elim
    (λ yes.
    let unwanted : is_wanted m.0 P ≡ false = vain_unwanted (is_wanted m.0 P) (is_by_expiry (owner m.0 X)) (subst (Safe X) (sym yes.1) safe) vain in
    let here : is_answered n P ≡ true = unwanted_answered (is_open n P) (is_answered n P) o (subst (λ (k : ℕ). is_wanted k P ≡ false) yes.1 unwanted) in
    rw yes.0 (answered_same X n P safe o ∙ here))
    (λ no. rw no.0 (answered_same X n P safe o))
    (eqb_tells m.0 n)))
    (λ stays. rw stays (λ i. if m.0 == n then true else answered_same X n P safe o i))
    (cases_Bool (is_vain X (Ready m a) P))
answered_same X n (e ∷ P) safe o = answered_same X n P safe o

closed : (o x y : Bool) → o ≡ false → o && x ≡ o && y
closed true x y e = cc e
closed false x y e = refl

pub wanted_same : (X : List Entry) (n : ℕ) (P : List Entry) → Safe X n → is_wanted n (without_vain X P) ≡ is_wanted n P
wanted_same X n P safe = ⊎_elim
    (λ yes. λ i. is_open_same X n P i && not (answered_same X n P safe yes i))
    (λ no. (λ i. is_open_same X n P i && not (is_answered n (without_vain X P))) ∙ closed (is_open n P) (not (is_answered n (without_vain X P))) (not (is_answered n P)) no)
    (cases_Bool (is_open n P))

-- the good answer is the same
pub answer_same : (X : List Entry) (n : ℕ) (P : List Entry) → Safe X n → answer n (without_vain X P) ≡ answer n P
answer_same X n [] safe = refl
answer_same X n (Ready m a ∷ P) safe = ⊎_elim
    (λ vain. rw vain (⊎_elim
    (λ yes.
    let unwanted : is_wanted m.0 P ≡ false = vain_unwanted (is_wanted m.0 P) (is_by_expiry (owner m.0 X)) (subst (Safe X) (sym yes.1) safe) vain in
    let there : is_wanted n P ≡ false = subst (λ (k : ℕ). is_wanted k P ≡ false) yes.1 unwanted in
    rw (yes.0, there) (answer_same X n P safe))
    (λ no. rw no.0 (answer_same X n P safe))
    (eqb_tells m.0 n)))
    (λ stays. rw stays (λ i. if (m.0 == n) && wanted_same X n P safe i then Some a else answer_same X n P safe i))
    (cases_Bool (is_vain X (Ready m a) P))
answer_same X n (Sensed c m s ∷ P) safe = λ i. if m.0 == n then option_map (with_sense s) (answer_same X n P safe i) else answer_same X n P safe i
answer_same X n (e ∷ P) safe = answer_same X n P safe

-- an attempt that its expiry owns has none left
pub unanswered : (X : List Entry) (n : ℕ) (P : List Entry) → is_by_expiry (owner n X) ≡ true → is_answered n (without_vain X P) ≡ false
unanswered X n [] gone = refl
unanswered X n (Sent c m t ∷ P) gone = ⊎_elim (λ yes. rw yes refl) (λ no. rw no (unanswered X n P gone)) (cases_Bool (m.0 == n))
unanswered X n (Ready m a ∷ P) gone = ⊎_elim
    (λ vain. rw vain (unanswered X n P gone))
    (λ stays. rw stays (⊎_elim
    (λ yes. absurd (cc (sym gone ∙ subst (λ (k : ℕ). is_by_expiry (owner k X) ≡ false) yes.1 (kept_wanted (is_wanted m.0 P) (is_by_expiry (owner m.0 X)) stays).1)))
    (λ no. rw no.0 (unanswered X n P gone))
    (eqb_tells m.0 n)))
    (cases_Bool (is_vain X (Ready m a) P))
unanswered X n (e ∷ P) gone = unanswered X n P gone

pub no_answer : (X : List Entry) (n : ℕ) (P : List Entry) → is_by_expiry (owner n X) ≡ true → answer n (without_vain X P) ≡ None
no_answer X n [] gone = refl
no_answer X n (Ready m a ∷ P) gone = ⊎_elim
    (λ vain. rw vain (no_answer X n P gone))
    (λ stays. rw stays (⊎_elim
    (λ yes. absurd (cc (sym gone ∙ subst (λ (k : ℕ). is_by_expiry (owner k X) ≡ false) yes.1 (kept_wanted (is_wanted m.0 P) (is_by_expiry (owner m.0 X)) stays).1)))
    (λ no. rw no.0 (no_answer X n P gone))
    (eqb_tells m.0 n)))
    (cases_Bool (is_vain X (Ready m a) P))
no_answer X n (Sensed c m s ∷ P) gone = rw (no_answer X n P gone) (⊎_elim (λ yes. rw yes refl) (λ no. rw no refl) (cases_Bool (m.0 == n)))
no_answer X n (e ∷ P) gone = no_answer X n P gone

-- who owns an attempt in P owns it in X
abbrev pub Agrees : List Entry → List Entry → Type 0
Agrees X P = (n : ℕ) → is_some (owner n P) ≡ true → owner n X ≡ owner n P

-- the parts of a list agree with it
abbrev pub AgreesOn : List Entry → List Entry → Type 0
AgreesOn X [] = Unit {0}
AgreesOn X (e ∷ P) = Agrees X (e ∷ P) × AgreesOn X P

-- nothing is left to be ignored
pub none_late : (X : List Entry) (n : ℕ) (P : List Entry) → AgreesOn X P → late n (without_vain X P) ≡ 0
none_late X n [] agree = refl
none_late X n (Ready m a ∷ P) agree = ⊎_elim
    (λ vain. rw vain (none_late X n P agree.1))
    (λ stays.
    let good = kept_wanted (is_wanted m.0 P) (is_by_expiry (owner m.0 X)) stays in
    let wanted : is_wanted m.0 (without_vain X P) ≡ true = wanted_same X m.0 P good.1 ∙ good.0 in
    rw stays (⊎_elim
    (λ yes. rw (yes.0, subst (λ (k : ℕ). is_wanted k (without_vain X P) ≡ true) yes.1 wanted) (none_late X n P agree.1))
    (λ no. rw no.0 (none_late X n P agree.1))
    (eqb_tells m.0 n)))
    (cases_Bool (is_vain X (Ready m a) P))
none_late X n (Owned m ByExpiry ∷ P) agree = ⊎_elim
    (λ yes.
    let own : owner n X ≡ Some ByExpiry = agree.0 n (rw yes.0 refl) ∙ rw yes.0 refl in
    rw (yes.0, no_answer X n P (rw own refl)) (none_late X n P agree.1))
    (λ no. rw no.0 (none_late X n P agree.1))
    (eqb_tells m.0 n)
none_late X n (e ∷ P) agree = none_late X n P agree.1
