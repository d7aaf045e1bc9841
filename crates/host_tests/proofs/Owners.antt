-- Who owns an attempt by a list of entries.
use Rattle.std.proofs.Common.{◌≡◌, Bool, true, false, ◌==◌, ◌&&◌, ◌||◌, ◌⊎◌, Option, None, Some, [], ◌∷◌, sym, refl, subst, ⊎_elim, inl, inr, arith}
use Rattle.std.proofs.lemmas.Bool.Decides.{nat_tests}
use Rattle.std.specs.List.{list_any}
use Rattle.mid_base.specs.declared.answers.By.{By}
use Rattle.mid_base.specs.declared.answers.By.TheVariants.{Answer, Expiry}
use Rattle.mid_base.specs.declared.answers.TagState.{TagState}
use Rattle.mid_base.specs.declared.answers.TagState.TheVariants as tag
use Rattle.mid_base.specs.declared.entries.Entry.{Entry}
use Rattle.mid_base.specs.declared.entries.Entry.TheVariants.{Took, Sent, Bounced, Ready, Due, Longer, DoneSaid, Owned, Late, Judged, AbortSet, Aborted, Failed, Cleared, Sensed, Again, Told, EhBegin, EhEnd, Act, Probe, Offline, State, Tick}
use Rattle.mid_base.specs.declared.names.Attempt.{Attempt}
use Rattle.host_words.specs.Journals.{Journal, In}
use Rattle.host_words.proofs.Owning.{same_attempt}
use Rattle.host_tests.specs.Attempts.{same_by, is_owner, is_left_to}

same_by_refl : (b : By) → same_by b b ≡ true
same_by_refl Answer = refl
same_by_refl Expiry = refl

same_by_true : (a b : By) → same_by a b ≡ true → a ≡ b
same_by_true Answer Answer h = refl
same_by_true Answer Expiry h = cc
same_by_true Expiry Answer h = cc
same_by_true Expiry Expiry h = refl

both_same : (m n : Attempt) (b by : By) → (m.0 == n.0 && same_by b by) ≡ true → (n ≡ m) × (by ≡ b)
both_same m n b by h =
    let number : m.0 ≡ n.0 = grind (arith, nat_tests) in
    let kind : same_by b by ≡ true = grind (arith, nat_tests) in
    (same_attempt n m (sym number), sym (same_by_true b by kind))

pub owner_is : (n : Attempt) (by : By) (e : Entry) → is_owner n by e ≡ true → Owned n by ≡ e
owner_is n by (Took c) h = cc
owner_is n by (Sent c m t) h = cc
owner_is n by (Bounced c m b) h = cc
owner_is n by (Ready m a) h = cc
owner_is n by (Due m) h = cc
owner_is n by (Longer m) h = cc
owner_is n by (DoneSaid m) h = cc
owner_is n by (Owned m b) h = let same = both_same m n b by h in λ i. Owned (same.0 i) (same.1 i)
owner_is n by (Late m) h = cc
owner_is n by (Judged c m d) h = cc
owner_is n by (AbortSet c m) h = cc
owner_is n by (Aborted c m b) h = cc
owner_is n by (Failed c m b) h = cc
owner_is n by (Cleared c l) h = cc
owner_is n by (Sensed c m s) h = cc
owner_is n by (Again c b) h = cc
owner_is n by (Told c a) h = cc
owner_is n by EhBegin h = cc
owner_is n by EhEnd h = cc
owner_is n by (Act l s b) h = cc
owner_is n by (Probe d l s) h = cc
owner_is n by (Offline d) h = cc
owner_is n by (State d s) h = cc
owner_is n by Tick h = cc

owner_self : (n : Attempt) (by : By) → is_owner n by (Owned n by) ≡ true
owner_self n by = let same = same_by_refl by in grind (arith, nat_tests)

or_true : (a b : Bool) → (a || b) ≡ true → (a ≡ true) ⊎ (b ≡ true)
or_true true b h = inl refl
or_true false b h = inr h

or_false : (a b : Bool) → (a || b) ≡ false → (a ≡ false) × (b ≡ false)
or_false true b h = absurd cc
or_false false b h = (refl, h)

true_false : (a : Bool) → a ≡ true → a ≡ false → ⊥
true_false a h i = cc

pub owner_found : (n : Attempt) (by : By) (es : Journal) → list_any (is_owner n by) es ≡ true → In (Owned n by) es
owner_found n by [] h = cc
owner_found n by (e ∷ es) h = ⊎_elim (λ (x : is_owner n by e ≡ true). inl (owner_is n by e x)) (λ (x : list_any (is_owner n by) es ≡ true). inr (owner_found n by es x)) (or_true (is_owner n by e) (list_any (is_owner n by) es) h)

pub owner_missed : (n : Attempt) (by : By) (es : Journal) → list_any (is_owner n by) es ≡ false → In (Owned n by) es → ⊥
owner_missed n by [] h i = absurd i
owner_missed n by (e ∷ es) h i = ⊎_elim
    (λ (x : Owned n by ≡ e). let self = owner_self n by in let here : is_owner n by e ≡ true = subst (λ (y : Entry). is_owner n by y ≡ true) x self in let other = (or_false (is_owner n by e) (list_any (is_owner n by) es) h).0 in true_false (is_owner n by e) here other)
    (λ (x : In (Owned n by) es). owner_missed n by es (or_false (is_owner n by e) (list_any (is_owner n by) es) h).1 x) i

pub left_is : (n : Attempt) (by : By) (o : Option TagState) → is_left_to n by o ≡ true → o ≡ Some (tag.Owned n by)
left_is n by None h = cc
left_is n by (Some tag.Free) h = cc
left_is n by (Some (tag.Armed m)) h = cc
left_is n by (Some (tag.Owned m b)) h = let same = both_same m n b by h in λ i. Some (tag.Owned (sym same.0 i) (sym same.1 i))
