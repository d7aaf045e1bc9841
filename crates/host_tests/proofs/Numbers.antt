-- The numbers of attempts in a list of entries.
use Rattle.std.proofs.Common.{◌≡◌, ℕ, ◌≤◌, ◌+◌, true, List, [], ◌∷◌, ◌++◌, ⊎_elim, sym, subst, arith}
use Rattle.std.proofs.lemmas.Bool.Decides.{nat_tests}
use Rattle.mid_base.specs.declared.entries.Entry.{Entry}
use Rattle.mid_base.specs.declared.names.Attempt.{Attempt}
use Rattle.mid_base.specs.declared.answers.TagState.{TagState}
use Rattle.host_words.specs.Journals.{Journal, In, sent}
use Rattle.host_words.specs.Views.{begun}
use Rattle.host_words.specs.Leaving.{IsNew}
use Rattle.host_tests.specs.Attempts.{number, below}

pub below_snoc : (k m : ℕ) (es : List Entry) (e : Entry) → k ≤ m → number e ≤ m → below k es ≡ true → below m (es ++ e ∷ []) ≡ true
below_snoc k m [] e up few old = grind (arith, nat_tests)
below_snoc k m (x ∷ xs) e up few old =
    let rest : below k xs ≡ true = grind (arith, nat_tests) in
    let more = below_snoc k m xs e up few rest in
    grind (arith, nat_tests)

pub below_in : (k : ℕ) (es : List Entry) (e : Entry) → In e es → below k es ≡ true → number e ≤ k
below_in k [] e h old = absurd h
below_in k (x ∷ xs) e h old =
    let here : number x ≤ k = grind (arith, nat_tests) in
    let rest : below k xs ≡ true = grind (arith, nat_tests) in
    ⊎_elim (λ (same : e ≡ x). subst (λ (y : Entry). number y ≤ k) (sym same) here) (λ i. below_in k xs e i rest) h

-- the next number is new
pub next_is_new : (k : ℕ) (es : Journal) (tags : List TagState) (n : Attempt) → n.0 ≡ k + 1 → below k es ≡ true → IsNew (begun es tags) n
next_is_new k es tags n is old = record {
  above_sent = λ t m s. let few = below_in k es (sent s.0 m t) s.1 old in omega arith;
  above_owned = λ m by h. let few = below_in k es _ h old in omega arith;
  above_armed = λ t m h. absurd h;
}
