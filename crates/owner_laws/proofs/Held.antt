-- A tag that an attempt is sent with is one of the host's: those below it are held, each by a busy command of its own.
use Rattle.std.proofs.Common.{◌≡◌, ℕ, zero, suc, ◌+◌, ◌<◌, ◌≤◌, ◌==◌, Bool, true, false, not, ◌&&◌, ◌||◌, cond, List, [], ◌∷◌, Some, find, nat_lt, refl, subst, ⊎_elim, arith}
use Rattle.std.specs.List.{list_any, count_by}
use Rattle.std.proofs.lemmas.Bool.{and_parts, cases_Bool, eqb-true, ltb-true}
use Rattle.std.proofs.lemmas.Bool.Decides.{eqb_tells}
use Rattle.std.proofs.lemmas.List.Sums.{sum_by-cons}
use Rattle.mid_base.specs.declared.entries.Entry.{Entry}
use Rattle.mid_base.specs.declared.entries.Entry.TheVariants.{Sent}
use Rattle.mid_base.specs.declared.host_spec.CmdSpec.{CmdSpec}
use Rattle.mid_base.specs.declared.host_spec.HostSpec.{HostSpec}
use Rattle.mid_base.specs.declared.names.Attempt.{Attempt}
use Rattle.mid_base.specs.declared.names.CmdId.{CmdId}
use Rattle.mid_base.specs.declared.names.Tag.{Tag}
use Rattle.trace_model.specs.declared.standing.Standing.{Standing}
use Rattle.trace_model.specs.declared.standing.Standing.TheVariants.{New, Waits, Busy, Ended}
use Rattle.trace_model.specs.Attempts.{sends}
use Rattle.trace_model.specs.Commands.{standing, waits, is_busy, holds, taken}
use Rattle.trace_model.specs.Counts.{busy_count, busy_on}
use Rattle.trace_model.specs.Devices.{is_online, in_recovery}
use Rattle.trace_model.specs.Names.{dev_of}
use Rattle.trace_model.specs.Sending.{is_held, depth, is_ready, is_pickable, pick, is_number, all_below, is_least_free, may_send}
use Rattle.trace_model.specs.Legal.{EachStands}
use Rattle.trace_model.proofs.Owes.{stands}
use Rattle.trace_model.proofs.Permitted.{each_before}
use Rattle.host_words.specs.Journals.{In}
use Rattle.owner_laws.proofs.Turned.{in_place}

-- how many numbers below t have p
abbrev how_many : ℕ → (ℕ → Bool) → ℕ
how_many zero p = 0
how_many (suc t) p = cond (p t) 1 0 + how_many t p

all_of_them : (t : ℕ) (p : ℕ → Bool) → all_below t p ≡ true → how_many t p ≡ t
all_of_them zero p h = refl
all_of_them (suc t) p h = let both = and_parts (p t) (all_below t p) h in rw both.0 (omega (arith, all_of_them t p both.1))

none_of_them : (t : ℕ) → how_many t (λ u. false) ≡ 0
none_of_them zero = refl
none_of_them (suc t) = omega (arith, none_of_them t)

none_below : (t v : ℕ) → t ≤ v → how_many t (λ u. v == u) ≡ 0
none_below zero v le = refl
none_below (suc t) v le = ⊎_elim (λ yes. absurd (omega (arith, le, yes.1))) (λ no. rw no.0 (omega (arith, none_below t v (omega (arith, le))))) (eqb_tells v t)

one_at_most : (t v : ℕ) → how_many t (λ u. v == u) ≤ 1
one_at_most zero v = omega arith
one_at_most (suc t) v = ⊎_elim (λ yes. rw yes.0 (omega (arith, none_below t v (omega (arith, yes.1))))) (λ no. rw no.0 (omega (arith, one_at_most t v))) (eqb_tells v t)

either_of_them : (t : ℕ) (p q : ℕ → Bool) → how_many t (λ u. p u || q u) ≤ how_many t p + how_many t q
either_of_them zero p q = omega arith
either_of_them (suc t) p q = ⊎_elim
    (λ yes. rw yes (at_first (q t) (how_many t (λ u. p u || q u)) (how_many t p) (how_many t q) (either_of_them t p q)))
    (λ no. rw no (at_second (q t) (how_many t (λ u. p u || q u)) (how_many t p) (how_many t q) (either_of_them t p q)))
    (cases_Bool (p t))
  where
    at_first : (b : Bool) (x y z : ℕ) → x ≤ y + z → 1 + x ≤ (1 + y) + (cond b 1 0 + z)
    at_first true x y z h = omega (arith, h)
    at_first false x y z h = omega (arith, h)

    at_second : (b : Bool) (x y z : ℕ) → x ≤ y + z → cond b 1 0 + x ≤ (0 + y) + (cond b 1 0 + z)
    at_second true x y z h = omega (arith, h)
    at_second false x y z h = omega (arith, h)

-- a command holds one tag where it is busy, and else none
held_by : (t : ℕ) (x : Standing) → how_many t (λ u. holds u x) ≤ cond (is_busy x) 1 0
held_by t New = omega (arith, none_of_them t)
held_by t Waits = omega (arith, none_of_them t)
held_by t (Busy n u) = one_at_most t u.0
held_by t Ended = omega (arith, none_of_them t)

held_among : (t : ℕ) (P : List Entry) (ks : List CmdSpec) → how_many t (λ u. list_any (λ k. holds u (standing k.id.0 P)) ks) ≤ count_by (λ k. is_busy (standing k.id.0 P)) ks
held_among t P [] = omega (arith, none_of_them t)
held_among t P (k ∷ ks) =
    let more : count_by (λ k. is_busy (standing k.id.0 P)) (k ∷ ks) ≡ cond (is_busy (standing k.id.0 P)) 1 0 + count_by (λ k. is_busy (standing k.id.0 P)) ks = sum_by-cons (λ (x : CmdSpec). cond (is_busy (standing x.id.0 P)) 1 0) k ks in
    omega (arith, more, either_of_them t (λ u. holds u (standing k.id.0 P)) (λ u. list_any (λ k. holds u (standing k.id.0 P)) ks), held_by t (standing k.id.0 P), held_among t P ks)

least_within : (s : HostSpec) (P : List Entry) (t : ℕ) → is_least_free s P t ≡ true → t ≤ busy_count s P
least_within s P t h =
    let below = (and_parts (not (is_held s P t)) (all_below t (is_held s P)) h).1 in
    omega (arith, all_of_them t (is_held s P) below, held_among t P s.cmds)

-- fewer commands are busy than the host has tags
picked : (s : HostSpec) (c : ℕ) (P : List Entry) (order : List ℕ) → is_number c (find (is_pickable s P) order) ≡ true → is_pickable s P c ≡ true
picked s c P [] h = cc h
picked s c P (d ∷ order) h = by_test (is_pickable s P d) refl h (picked s c P order)
  where
    by_test : (b : Bool) → is_pickable s P d ≡ b → is_number c (cond b (Some d) (find (is_pickable s P) order)) ≡ true → (is_number c (find (is_pickable s P) order) ≡ true → is_pickable s P c ≡ true) → is_pickable s P c ≡ true
    by_test true q g rest = subst (λ (e : ℕ). is_pickable s P e ≡ true) (eqb-true d c g) q
    by_test false q g rest = rest g

ready_within : (s : HostSpec) (P : List Entry) (c : ℕ) → is_pickable s P c ≡ true → is_online s (dev_of s c) P ≡ true → busy_count s P < s.can_queue
ready_within s P c h online =
    let d = dev_of s c in
    let goes : is_ready s P d ≡ true = second (is_online s d P) (is_ready s P d) online (and_parts (waits (standing c P)) _ h).1 in
    let upper = (and_parts _ (nat_lt (busy_on s P d) (depth s P d)) goes).0 in
    ltb-true (busy_count s P) s.can_queue (and_parts _ (nat_lt (busy_count s P) s.can_queue) upper).1
  where
    second : (a b : Bool) → a ≡ true → not a || b ≡ true → b ≡ true
    second true b e h = h
    second false b e h = cc e

sent_within : (s : HostSpec) (P : List Entry) (c n t : ℕ) → may_send s P c n t ≡ true → t < s.can_queue
sent_within s P c n t h =
    let a = and_parts (not (in_recovery P) && is_number c (pick s P) && is_online s (dev_of s c) P && (n == sends P + 1)) (is_least_free s P t) h in
    let b = and_parts (not (in_recovery P) && is_number c (pick s P) && is_online s (dev_of s c) P) (n == sends P + 1) a.0 in
    let d = and_parts (not (in_recovery P) && is_number c (pick s P)) (is_online s (dev_of s c) P) b.0 in
    let e = and_parts (not (in_recovery P)) (is_number c (pick s P)) d.0 in
    let least = least_within s P t a.1 in
    let room = ready_within s P c (picked s c P (taken P) e.1) d.1 in
    omega (arith, least, room)

pub tag_within : (s : HostSpec) (P : List Entry) (c : CmdId) (n : Attempt) (t : Tag) → EachStands s P → In (Sent c n t) P → t.0 < s.can_queue
tag_within s P c n t each h =
    let p = in_place (Sent c n t) P h in
    let here = each_before s p.0 (Sent c n t ∷ p.1) (subst (EachStands s) p.2 each) in
    ⊎_elim (λ al. sent_within s p.1 c.0 n.0 t.0 al) (λ f. absurd (⊎_elim (λ q. cc q) (λ q. cc q) f)) (stands s p.1 (Sent c n t) here.0)
