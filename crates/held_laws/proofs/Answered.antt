-- An attempt that its answer owns was answered since it was sent.
use Rattle.std.proofs.Common.{◌≡◌, ℕ, ◌+◌, ◌≤◌, true, ◌&&◌, List, [], ◌∷◌, refl, sym, subst, ◌∙◌, ⊎_elim, arith}
use Rattle.std.proofs.lemmas.Bool.{and_parts, false≢true}
use Rattle.std.proofs.lemmas.Bool.Decides.{eqb_tells, leb_tells}
use Rattle.mid_base.specs.declared.answers.By.TheVariants.{Answer as ByAnswer, Expiry as ByExpiry}
use Rattle.mid_base.specs.declared.entries.Entry.{Entry}
use Rattle.mid_base.specs.declared.entries.Entry.TheVariants.{Sent, Ready, Owned}
use Rattle.mid_base.specs.declared.host_spec.HostSpec.{HostSpec}
use Rattle.mid_base.specs.declared.names.Attempt.{Attempt}
use Rattle.mid_base.specs.declared.names.CmdId.{CmdId}
use Rattle.mid_base.specs.declared.names.Tag.{Tag}
use Rattle.trace_model.specs.Attempts.{sends, is_open, is_answered, owner, is_by_answer}
use Rattle.trace_model.specs.Judging.{may_own}
use Rattle.trace_model.specs.Legal.{EachStands}
use Rattle.trace_model.proofs.Once.{sent_picked, owns_open}
use Rattle.trace_model.proofs.Owes.{stands}
use Rattle.trace_model.proofs.OnceMore.{held_all}

-- an attempt that is owned was among those that were sent
open_below : (s : HostSpec) (P : List Entry) (n : ℕ) → EachStands s P → is_open n P ≡ true → n ≤ sends P
open_below s P n each o = ⊎_elim
    (λ yes. yes.1)
    (λ no. absurd (false≢true (sym ((held_all s 0 P each).3 n (omega (arith, no.1))).0 ∙ o)))
    (leb_tells n (sends P))

more : (a b : ℕ) → a ≤ b → a ≤ b + 1
more a b h = omega (arith, h)

owned_below : (s : HostSpec) (n : ℕ) (P : List Entry) → EachStands s P → is_by_answer (owner n P) ≡ true → n ≤ sends P
owned_below s n [] each b = absurd (false≢true b)
owned_below s n (Owned m by ∷ P) each b = ⊎_elim
    (λ yes.
    let may : may_own m.0 by P ≡ true = ⊎_elim (λ al. al) (λ f. absurd (⊎_elim (λ q. cc q) (λ q. cc q) f)) (stands s P (Owned m by) each.0) in
    subst (λ (k : ℕ). k ≤ sends P) yes.1 (open_below s P m.0 each.1 (owns_open m.0 by P may)))
    (λ no. owned_below s n P each.1 (rw no.0 at b))
    (eqb_tells m.0 n)
owned_below s n (Sent c m t ∷ P) each b = more n (sends P) (owned_below s n P each.1 b)
owned_below s n (e ∷ P) each b = owned_below s n P each.1 b

sent_above : (s : HostSpec) (P : List Entry) (c : CmdId) (m : Attempt) (t : Tag) → EachStands s (Sent c m t ∷ P) → m.0 ≡ sends P + 1
sent_above s P c m t each = ⊎_elim (λ al. (sent_picked s P c.0 m.0 t.0 al).1) (λ f. absurd (⊎_elim (λ q. cc q) (λ q. cc q) f)) (stands s P (Sent c m t) each.0)

clash : (m n k : ℕ) → m ≡ k + 1 → m ≡ n → n ≤ k → ⊥
clash m n k e f h = omega (arith, e, f, h)

pub owned_answered : (s : HostSpec) (n : ℕ) (P : List Entry) → EachStands s P → is_by_answer (owner n P) ≡ true → is_answered n P ≡ true
owned_answered s n [] each b = absurd (false≢true b)
owned_answered s n (Owned m ByExpiry ∷ P) each b = ⊎_elim (λ yes. absurd (false≢true (rw yes.0 at b))) (λ no. owned_answered s n P each.1 (rw no.0 at b)) (eqb_tells m.0 n)
owned_answered s n (Owned m ByAnswer ∷ P) each b = ⊎_elim
    (λ yes.
    let may : is_open m.0 P && is_answered m.0 P ≡ true = ⊎_elim (λ al. al) (λ f. absurd (⊎_elim (λ q. cc q) (λ q. cc q) f)) (stands s P (Owned m ByAnswer) each.0) in
    subst (λ (k : ℕ). is_answered k P ≡ true) yes.1 (and_parts (is_open m.0 P) (is_answered m.0 P) may).1)
    (λ no. owned_answered s n P each.1 (rw no.0 at b))
    (eqb_tells m.0 n)
owned_answered s n (Sent c m t ∷ P) each b = ⊎_elim
    (λ yes. absurd (clash m.0 n (sends P) (sent_above s P c m t each) yes.1 (owned_below s n P each.1 b)))
    (λ no. rw no.0 (owned_answered s n P each.1 b))
    (eqb_tells m.0 n)
owned_answered s n (Ready m a ∷ P) each b = ⊎_elim
    (λ yes. rw yes.0 refl)
    (λ no. rw no.0 (owned_answered s n P each.1 b))
    (eqb_tells m.0 n)
owned_answered s n (e ∷ P) each b = owned_answered s n P each.1 b
