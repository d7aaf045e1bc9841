-- What turns do to what a seat knows.
use Rattle.std.proofs.Common.{◌≡◌, ℕ, ◌+◌, max, length, [], ◌∷◌, ◌++◌, sym, refl, ap, ◌∙◌, subst, arith, ⊎_elim, inl, append_assoc}
use mathlib.Core.Logic.{dite}
use native.Mathlib.Decide.{ℕ_discrete}
use Rattle.mid_base.specs.declared.answers.Answer.{Answer}
use Rattle.mid_base.specs.declared.answers.By.{By}
use Rattle.mid_base.specs.declared.answers.By.TheVariants.{Answer as ByAnswer, Expiry as ByExpiry}
use Rattle.mid_base.specs.declared.entries.Entry.{Entry}
use Rattle.mid_base.specs.declared.entries.Entry.TheVariants.{Ready, Due}
use Rattle.mid_base.specs.declared.names.Attempt.{Attempt}
use Rattle.host_words.specs.declared.words.Claim.{Claim}
use Rattle.host_words.specs.declared.words.Claim.TheVariants.{Won, Lost}
use Rattle.host_words.specs.declared.view.View.{View}
use Rattle.host_words.specs.Journals.{Journal, IsPrefix, In, sent, HasSent, Tells, HasCause}
use Rattle.host_words.specs.declared.view.Stage.TheVariants.{Away}
use Rattle.host_words.specs.Views.{grown}
use Rattle.host_words.specs.Seats.{Answers}
use Rattle.host_words.proofs.Owning.{in_second, sent_on, cause_on, same_attempt}
use Rattle.host_words.proofs.Turning.{prefix_refl, prefix_trans}
use Rattle.host_tests.specs.Turned.{Turned, Added, GoesOn, IsTold, AllTold}

pub goes_nowhere : (v : View) → v.stage ≡ Away → GoesOn v v
goes_nowhere v away = record { origin = refl; share = refl; away = away; later = prefix_refl v.seen }

pub turned_on : (u v w : View) → GoesOn u v → Turned v w → GoesOn u w
turned_on u v w g t =
    let seen : w.seen ≡ t.1 = ap (λ (x : View). x.seen) t.2.is in record {
      origin = ap (λ (x : View). x.origin) t.2.is ∙ g.origin;
      share = ap (λ (x : View). x.share) t.2.is ∙ g.share;
      away = ap (λ (x : View). x.stage) t.2.is;
      later = prefix_trans u.seen v.seen w.seen g.later (subst (IsPrefix v.seen) (sym seen) (prefix_trans v.seen t.0 t.1 t.2.found t.2.later));
    }

-- the entry tells of n
abbrev pub TellsOf : Attempt → By → Entry → Type 0
TellsOf n ByAnswer e = (a : Answer) × (e ≡ Ready n a)
TellsOf n ByExpiry e = e ≡ Due n

tells_last : (n : Attempt) (by : By) (xs : Journal) (e : Entry) → TellsOf n by e → Tells n by (xs ++ e ∷ [])
tells_last n ByAnswer xs e t = (t.0, in_second (Ready n t.0) xs (e ∷ []) (inl (sym t.1)))
tells_last n ByExpiry xs e t = in_second (Due n) xs (e ∷ []) (inl (sym t))

-- where an entry stands
cut : (j : Journal) (x : Entry) → In x j → (before after : Journal) × (j ≡ before ++ x ∷ after)
cut [] x h = absurd h
cut (y ∷ ys) x h = ⊎_elim (λ (e : x ≡ y). ([], ys, λ i. (sym e i) ∷ ys)) (λ i. let rest = cut ys x i in (y ∷ rest.0, rest.1, λ k. y ∷ rest.2 k)) h

-- an answer, and that the time is up, of an attempt that was sent
pub caused : (v w : View) (t : ℕ) (n : Attempt) (e : Entry) (by : By) → HasSent v.seen t n → TellsOf n by e → Added v e w → HasCause w.seen t n by
caused v w t n e by s tells a =
    let sent_there : HasSent a.0 t n = sent_on v.seen a.0 t n a.1.found s in
    let split = cut a.0 (sent sent_there.0 n t) sent_there.1 in
    let seen : w.seen ≡ a.0 ++ e ∷ [] = ap (λ (x : View). x.seen) a.1.is in (
      sent_there.0,
      split.0,
      split.1 ++ e ∷ [],
      seen ∙ (ap (λ (l : Journal). l ++ e ∷ []) split.2 ∙ append_assoc split.0 (sent sent_there.0 n t ∷ split.1) (e ∷ [])),
      tells_last n by split.1 e tells,
    )

pub more_told : (k : ℕ) (u v : Journal) → IsPrefix u v → AllTold k u → AllTold k v
more_told k u v p all i h = let x = all i h in (cause_on u v i (record { 0 = i + 1 }) ByAnswer p x.0, cause_on u v i (record { 0 = i + 1 }) ByExpiry p x.1)

pub next_told : (k : ℕ) (j : Journal) → AllTold k j → HasCause j k (record { 0 = k + 1 }) ByAnswer → HasCause j k (record { 0 = k + 1 }) ByExpiry → AllTold (k + 1) j
next_told k j all a b i h = dite (ℕ_discrete i k)
    (λ same. subst (λ (x : ℕ). HasCause j x (record { 0 = x + 1 }) ByAnswer × HasCause j x (record { 0 = x + 1 }) ByExpiry) (sym same) (a, b))
    (λ other. all i (omega arith))

pub back_seen : (u v : View) → GoesOn u v → IsPrefix u.seen v.seen
back_seen u v g = g.later

pub turned_seen : (v w : View) → Turned v w → IsPrefix v.seen w.seen
turned_seen v w t = subst (IsPrefix v.seen) (sym (ap (λ (x : View). x.seen) t.2.is)) (prefix_trans v.seen t.0 t.1 t.2.found t.2.later)

pub on_and_on : (u v w : View) → GoesOn u v → GoesOn v w → GoesOn u w
on_and_on u v w g h = record { origin = h.origin ∙ g.origin; share = h.share ∙ g.share; away = h.away; later = prefix_trans u.seen v.seen w.seen g.later h.later }

-- a claim changes nothing that goes on
pub claimed_on : (u v w : View) (t : ℕ) (n : Attempt) (by : By) (a : Claim) → GoesOn u v → v.seen ≡ u.seen → Answers v t n by a w → GoesOn u w × (w.seen ≡ u.seen)
claimed_on u v w t n by Won g same e = (
  record {
    origin = ap (λ (x : View). x.origin) e ∙ g.origin;
    share = ap (λ (x : View). x.share) e ∙ g.share;
    away = ap (λ (x : View). x.stage) e ∙ g.away;
    later = subst (IsPrefix u.seen) (sym (ap (λ (x : View). x.seen) e)) g.later;
  },
  ap (λ (x : View). x.seen) e ∙ same,
)
claimed_on u v w t n by (Lost m) g same e = (
  record {
    origin = ap (λ (x : View). x.origin) e.1 ∙ g.origin;
    share = ap (λ (x : View). x.share) e.1 ∙ g.share;
    away = ap (λ (x : View). x.stage) e.1 ∙ g.away;
    later = subst (IsPrefix u.seen) (sym (ap (λ (x : View). x.seen) e.1)) g.later;
  },
  ap (λ (x : View). x.seen) e.1 ∙ same,
)

pub told_by : (j k : Journal) (t : ℕ) (n : Attempt) (by : By) → k ≡ j → IsTold j t n → HasCause k t n by
told_by j k t n ByAnswer same told = subst (λ (l : Journal). HasCause l t n ByAnswer) (sym same) told.0
told_by j k t n ByExpiry same told = subst (λ (l : Journal). HasCause l t n ByExpiry) (sym same) told.1

pub none_told : (j : Journal) → AllTold 0 j
none_told j i h = absurd (omega arith)

-- one attempt more is told, in a later journal
pub told_more : (k : ℕ) (u v : Journal) (n : Attempt) → IsPrefix u v → AllTold k u → n.0 ≡ k + 1 → IsTold v k n → AllTold (k + 1) v
told_more k u v n p all is told =
    let same : n ≡ record { 0 = k + 1 } = same_attempt n (record { 0 = k + 1 }) is in
    next_told k v (more_told k u v p all) (subst (λ (m : Attempt). HasCause v k m ByAnswer) same told.0) (subst (λ (m : Attempt). HasCause v k m ByExpiry) same told.1)

pub grown_length : (xs ys : Journal) → length (grown xs ys) ≡ max (length xs) (length ys)
grown_length [] ys = omega arith
grown_length (x ∷ xs) [] = omega arith
grown_length (x ∷ xs) (y ∷ ys) = omega (arith, grown_length xs ys)
