-- An attempt has one owner at most.
use Rattle.std.proofs.Common.{zero, suc, ◌≡◌, ℕ, ◌+◌, ◌<◌, ◌≤◌, ◌==◌, Bool, true, false, ◌&&◌, List, [], ◌∷◌, refl, sym, ◌∙◌, subst, arith, inl, inr, ⊎_elim, not, None}
use Rattle.std.proofs.lemmas.Bool.Decides.{eqb_tells}
use Rattle.std.proofs.lemmas.Bool.{eqb-true}
use Rattle.mid_base.specs.declared.answers.By.{By}
use Rattle.mid_base.specs.declared.answers.By.TheVariants.{Answer as ByAnswer, Expiry as ByExpiry}
use Rattle.mid_base.specs.declared.entries.Entry.{Entry}
use Rattle.mid_base.specs.declared.entries.Entry.TheVariants.{Sent, Bounced, Owned}
use Rattle.mid_base.specs.declared.host_spec.HostSpec.{HostSpec}
use Rattle.trace_model.specs.Attempts.{sends, is_open, owner}
use Rattle.trace_model.specs.Counts.{owners}
use Rattle.trace_model.specs.Judging.{may_own}
use Rattle.trace_model.specs.Names.{dev_of}
use Rattle.trace_model.specs.Devices.{in_recovery, is_online}
use Rattle.trace_model.specs.Sending.{may_send, pick, is_number, is_least_free}
use Rattle.trace_model.specs.Legal.{EachStands, ByPlaces}
use Rattle.trace_model.proofs.Owes.{stands}

pub record Once (n : ℕ) (P : List Entry) : Type 0 where
  one : owners n P ≤ 1
  open_known : is_open n P ≡ true → (n ≤ sends P) × (owners n P ≡ 0)
  owned_known : 0 < owners n P → n ≤ sends P

pub and_left : (a b : Bool) → a && b ≡ true → a ≡ true
and_left true b h = refl
and_left false b h = h

pub owns_open : (n : ℕ) (by : By) (P : List Entry) → may_own n by P ≡ true → is_open n P ≡ true
owns_open n ByAnswer P h = and_left _ _ h
owns_open n ByExpiry P h = and_left _ _ h

-- an entry that opens and owns nothing
pub same : (n : ℕ) (P Q : List Entry) → owners n Q ≡ owners n P → is_open n Q ≡ is_open n P → sends Q ≡ sends P → Once n P → Once n Q
same n P Q e f k h = record {
  one = omega (arith, e, h.one);
  open_known = λ o. let x = h.open_known (sym f ∙ o) in (omega (arith, k, x.0), e ∙ x.1);
  owned_known = λ o. omega (arith, k, h.owned_known (omega (arith, e, o)));
}

pub none_yet : (k n m : ℕ) → (0 < k → n ≤ m) → n ≡ m + 1 → k ≡ 0
none_yet zero n m h e = refl
none_yet (suc k) n m h e = absurd (omega (arith, h (omega arith), e))

pub sent_number : (s : HostSpec) (P : List Entry) (c n t : ℕ) → may_send s P c n t ≡ true → n ≡ sends P + 1
sent_number s P c n t h = eqb-true n (sends P + 1) (fourth (not (in_recovery P)) (is_number c (pick s P)) (is_online s (dev_of s c) P) (n == sends P + 1) (is_least_free s P t) h)
  where
    fourth : (a b c d e : Bool) → a && b && c && d && e ≡ true → d ≡ true
    fourth true true true d e h = and_left d e h
    fourth false b c d e h = cc h
    fourth true false c d e h = cc h
    fourth true true false d e h = cc h

pub once : (s : HostSpec) (P : List Entry) (n : ℕ) → EachStands s P → Once n P
once s [] n each = record { one = omega arith; open_known = λ o. absurd (cc o); owned_known = λ o. absurd (omega (arith, o)) }
once s (Sent c m t ∷ P) n each =
    let h = once s P n each.1 in
    let number : m.0 ≡ sends P + 1 = ⊎_elim (λ al. sent_number s P c.0 m.0 t.0 al) (λ f. absurd (⊎_elim (λ q. cc q) (λ q. cc q) f)) (stands s P (Sent c m t) each.0) in
    elim (eqb_tells m.0 n) [
      | inl is_it ↦ record {
        one = h.one;
        open_known = λ o. (omega (arith, is_it.1, number), none_yet (owners n P) n (sends P) h.owned_known (omega (arith, is_it.1, number)));
        owned_known = λ o. omega (arith, h.owned_known o);
      }
      | inr isnt ↦ record {
        one = h.one;
        open_known = λ o. let x = h.open_known (rw isnt.0 at o) in (omega (arith, x.0), x.1);
        owned_known = λ o. omega (arith, h.owned_known o);
      }
    ]
once s (Bounced c m why ∷ P) n each =
    let h = once s P n each.1 in
    elim (eqb_tells m.0 n) [
      | inl is_it ↦ record { one = h.one; open_known = λ o. absurd (cc (rw is_it.0 at o)); owned_known = h.owned_known }
      | inr isnt ↦ record { one = h.one; open_known = λ o. h.open_known (rw isnt.0 at o); owned_known = h.owned_known }
    ]
once s (Owned m by ∷ P) n each =
    let h = once s P n each.1 in
    let was : is_open m.0 P ≡ true = ⊎_elim (λ al. owns_open m.0 by P al) (λ f. absurd (⊎_elim (λ q. cc q) (λ q. cc q) f)) (stands s P (Owned m by) each.0) in
    elim (eqb_tells m.0 n) [
      | inl is_it ↦
          let x = h.open_known (subst (λ k. is_open k P ≡ true) is_it.1 was) in
          record {
            one = rw is_it.0 (omega (arith, x.1));
            open_known = λ o. absurd (cc (rw is_it.0 at o));
            owned_known = λ o. x.0;
          }
      | inr isnt ↦ record {
        one = rw isnt.0 h.one;
        open_known = λ o. let x = h.open_known (rw isnt.0 at o) in (x.0, rw isnt.0 x.1);
        owned_known = λ o. h.owned_known (rw isnt.0 at o);
      }
    ]
once s (e ∷ P) n each = same n P (e ∷ P) refl refl refl (once s P n each.1)

pub one_owner : (s : HostSpec) (P : List Entry) (n : ℕ) → ByPlaces s P → owners n P ≤ 1
one_owner s P n legal = (once s P n legal.each).one

-- an attempt that is open has no owner
pub unowned : (n : ℕ) (P : List Entry) → owners n P ≡ 0 → owner n P ≡ None
unowned n [] h = refl
unowned n (Owned m by ∷ P) h = ⊎_elim (λ yes. absurd (omega (arith, rw yes.0 at h))) (λ no. rw no.0 (unowned n P (rw no.0 at h))) (eqb_tells m.0 n)
unowned n (e ∷ P) h = unowned n P h

pub open_unowned : (s : HostSpec) (P : List Entry) (n : ℕ) → EachStands s P → is_open n P ≡ true → owner n P ≡ None
open_unowned s P n each o = unowned n P ((once s P n each).open_known o).1
