-- Which attempt a tag shows. P has the newest entry first.
use Rattle.std.proofs.Common.{◌≡◌, ◌⊎◌, ℕ, zero, suc, ◌+◌, ◌<◌, Bool, true, false, List, [], ◌∷◌, Option, None, Some, slice_get, refl, sym, ◌∙◌, ap, subst, inl, inr, ⊎_elim, arith}
use Rattle.std.proofs.lemmas.Bool.Decides.{eqb_tells}
use Rattle.mid_base.specs.declared.answers.By.{By}
use Rattle.mid_base.specs.declared.answers.TagState.{TagState}
use Rattle.mid_base.specs.declared.entries.Entry.{Entry}
use Rattle.mid_base.specs.declared.entries.Entry.TheVariants.{Sent}
use Rattle.mid_base.specs.declared.host_spec.HostSpec.{HostSpec}
use Rattle.mid_base.specs.declared.names.Attempt.{Attempt}
use Rattle.mid_base.specs.declared.names.CmdId.{CmdId}
use Rattle.mid_base.specs.declared.names.Tag.{Tag}
use Rattle.trace_model.specs.Attempts.{is_open, owner, is_settled}
use Rattle.trace_model.specs.Claims.{tag_for}
use Rattle.trace_model.specs.Legal.{EachStands}
use Rattle.trace_model.specs.Tags.{sent_with, state_by, tag_state, tags_from, tag_states}
use Rattle.trace_model.proofs.Permitted.{each_before}
use Rattle.host_words.specs.Journals.{In}
use Rattle.host_words.proofs.Owning.{in_second, same_attempt}
use Rattle.owner_laws.specs.Shown.{IsStateOf}
use Rattle.owner_laws.proofs.Turned.{in_place}
use Rattle.owner_laws.proofs.Attempts.{number_within, sent_once, same_tag, was_sent_in, open_was_sent, owner_in, owned_was_sent}

-- the state at a place of the list is that of the tag
tag_at : (from n i t : ℕ) (P : List Entry) (f : TagState) → from + i ≡ t → slice_get (tags_from from n P) i ≡ Some f → f ≡ tag_state P t
tag_at from zero i t P f e h = cc h
tag_at from (suc n) zero t P f e h =
    let here : from ≡ t = omega (arith, e) in
    let state : tag_state P from ≡ f = cc in
    sym state ∙ ap (tag_state P) here
tag_at from (suc n) (suc i) t P f e h = tag_at (from + 1) n i t P f (omega (arith, e)) h

-- a state that isn't free is of an attempt that is open or owned
state_is : (n : Attempt) (k : ℕ) (o d : Bool) (w : Option By) → IsStateOf n (state_by k o d w) → (k ≡ n.0) × ((o ≡ true) ⊎ ((by : By) × (w ≡ Some by)))
state_is n k true d w h = (sym (ap (λ (m : Attempt). m.0) h), inl refl)
state_is n k false false (Some by) h = (sym (ap (λ (m : Attempt). m.0) h), inr (by, refl))
state_is n k false false None h = absurd h
state_is n k false true w h = absurd h

-- the attempt that a tag was last sent with, if there is one
sent_with_in : (t : ℕ) (P : List Entry) → 0 < sent_with t P → (c : CmdId) × In (Sent c (record { 0 = sent_with t P }) (record { 0 = t })) P
sent_with_in t [] h = absurd (omega (arith, h))
sent_with_in t (Sent c n u ∷ P) h = ⊎_elim
    (λ yes. (c, rw yes.0 (inl (ap (λ (k : ℕ). Sent c n (record { 0 = k })) (sym yes.1)))))
    (λ no. let same : sent_with t (Sent c n u ∷ P) ≡ sent_with t P = rw no.0 refl in
    let r = sent_with_in t P (subst (λ (k : ℕ). 0 < k) same h) in
    (r.0, inr (subst (λ (k : ℕ). In (Sent r.0 (record { 0 = k }) (record { 0 = t })) P) (sym same) r.1)))
    (eqb_tells u.0 t)
sent_with_in t (e ∷ P) h = let r = sent_with_in t P h in (r.0, inr r.1)

-- who is owned was sent
owner_sent : (s : HostSpec) (P : List Entry) (n : Attempt) (by : By) → EachStands s P → owner n.0 P ≡ Some by → (c : CmdId) × (t : Tag) × In (Sent c n t) P
owner_sent s P n by each h =
    let p = in_place _ P (owner_in n by P h) in
    let r = owned_was_sent s p.1 n by (each_before s p.0 _ (subst (EachStands s) p.2 each)) in
    (r.0, tag_for n.0 p.1, subst (In (Sent r.0 n (tag_for n.0 p.1))) (sym p.2) (in_second _ p.0 _ (inr r.1)))

shown_sent : (s : HostSpec) (P : List Entry) (n : Attempt) → EachStands s P → (is_open n.0 P ≡ true) ⊎ ((by : By) × (owner n.0 P ≡ Some by)) → (c : CmdId) × (t : Tag) × In (Sent c n t) P
shown_sent s P n each (inl o) = let r = was_sent_in n P (open_was_sent n.0 P o) in (r.0, tag_for n.0 P, r.1)
shown_sent s P n each (inr o) = owner_sent s P n o.0 each o.1

-- the tag that shows n is the one that n was sent with
pub shown_under : (s : HostSpec) (P : List Entry) (n : Attempt) (t : ℕ) (f : TagState) → EachStands s P → slice_get (tag_states s P) t ≡ Some f → IsStateOf n f → (c : CmdId) × In (Sent c n (record { 0 = t })) P
shown_under s P n t f each at is =
    let state : f ≡ tag_state P t = tag_at 0 s.can_queue t t P f (omega arith) at in
    let k = sent_with t P in
    let x = state_is n k (is_open k P) (is_settled k P) (owner k P) (subst (IsStateOf n) state is) in
    let known = shown_sent s P n each (subst (λ (m : ℕ). (is_open m P ≡ true) ⊎ ((by : By) × (owner m P ≡ Some by))) x.0 x.1) in
    let low = (number_within s P known.0 n known.1 each known.2).0 in
    let r = sent_with_in t P (subst (λ (m : ℕ). 0 < m) (sym x.0) low) in
    (r.0, subst (λ (m : Attempt). In (Sent r.0 m (record { 0 = t })) P) (same_attempt (record { 0 = k }) n x.0) r.1)

pub shown_once : (s : HostSpec) (P : List Entry) (n : Attempt) (t u : ℕ) (f g : TagState) → EachStands s P
    → slice_get (tag_states s P) t ≡ Some f → IsStateOf n f → slice_get (tag_states s P) u ≡ Some g → IsStateOf n g → t ≡ u
shown_once s P n t u f g each at is at' is' =
    let a = shown_under s P n t f each at is in
    let b = shown_under s P n u g each at' is' in
    ap (λ (x : Tag). x.0) (same_tag a.0 b.0 n n (record { 0 = t }) (record { 0 = u }) (sent_once s P a.0 b.0 n (record { 0 = t }) (record { 0 = u }) each a.1 b.1))
