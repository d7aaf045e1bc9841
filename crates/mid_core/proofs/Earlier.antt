-- Where a step adds a Sent, a lower layer that is honest and tells its attempts holds no earlier attempt of the command.
use Rattle.std.proofs.Common.{◌≡◌, ◌∙◌, sym, ap, subst, refl, ℕ, ◌+◌, ◌≤◌, ◌==◌, Bool, true, false, cond, List, [], ◌∷◌, ◌++◌, length, length-append, append_assoc, reverse, Result, Ok, Err, ⊎_elim, arith}
use Rattle.std.specs.List.{list_all}
use Rattle.std.proofs.lemmas.Bool.{and_parts, eq-eqb, eqb-true, false≢true}
use Rattle.std.proofs.lemmas.Bool.Decides.{eqb_tells}
use Rattle.std.proofs.lemmas.List.{append_cancel_left, reverse-append}
use Rattle.mid_base.specs.declared.answers.BusyOf.{BusyOf}
use Rattle.mid_base.specs.declared.answers.NoMemory.{NoMemory}
use Rattle.mid_base.specs.declared.entries.Entry.{Entry}
use Rattle.mid_base.specs.declared.entries.Entry.TheVariants.{Sent, Bounced, Told}
use Rattle.mid_base.specs.declared.host_spec.HostSpec.{HostSpec}
use Rattle.mid_base.specs.declared.names.Attempt.{Attempt}
use Rattle.mid_base.specs.declared.names.CmdId.{CmdId}
use Rattle.mid_base.specs.declared.names.Tag.{Tag}
use Rattle.mid_base.specs.declared.steps.Did.{Did}
use Rattle.mid_base.specs.declared.steps.Did.TheVariants.{Done, Skipped}
use Rattle.mid_base.specs.declared.steps.Step.{Step}
use Rattle.mid_base.specs.declared.steps.Step.TheVariants.{Send}
use Rattle.mid_base.specs.Past.{was_sent, sent_for}
use Rattle.host_template.specs.Meaning.{Meaning}
use Rattle.host_template.specs.Standing.{Standing}
use Rattle.trace_model.specs.declared.standing.Standing.TheVariants.{Busy}
use Rattle.trace_model.specs.Attempts.{sends}
use Rattle.trace_model.specs.Commands.{standing, waits}
use Rattle.trace_model.specs.Legal.{EachStands, Legal, onto}
use Rattle.trace_model.specs.Sending.{may_send, just_sent}
use Rattle.trace_model.specs.Steps.{IsAdded}
use Rattle.trace_model.proofs.Making.{onto-reverse}
use Rattle.trace_model.proofs.Once.{sent_picked}
use Rattle.trace_model.proofs.Owes.{stands}
use Rattle.held_laws.specs.Held.{Held, HoldsRight, IsRight, NoneHeld}
use Rattle.held_laws.proofs.Entries.{busy_only, waiting_none}
use Rattle.held_laws.proofs.Groups.{sent_none}
use Rattle.mid_core.specs.Steps.{Answers, HoldsNoEarlier, Opens, may_enter}
use Rattle.mid_core.specs.View.{CoreView}
use Rattle.mid_core.proofs.Staged.{each_of}

-- the attempts that were sent have the numbers up to their count
more : (a b : ℕ) → a ≤ b → a ≤ b + 1
more a b h = omega (arith, h)

sent_below : (s : HostSpec) (n : ℕ) (P : List Entry) → EachStands s P → was_sent n P ≡ true → n ≤ sends P
sent_below s n [] each sent = absurd (false≢true sent)
sent_below s n (Sent c m t ∷ P) each sent =
    let number : m.0 ≡ sends P + 1 = ⊎_elim (λ al. (sent_picked s P c.0 m.0 t.0 al).1) (λ f. absurd (⊎_elim (λ q. cc q) (λ q. cc q) f)) (stands s P (Sent c m t) each.0) in
    ⊎_elim (λ yes. omega (arith, number, yes.1)) (λ no. more n (sends P) (sent_below s n P each.1 (rw no.0 at sent))) (eqb_tells m.0 n)
sent_below s n (e ∷ P) each sent = sent_below s n P each.1 sent

clash : (n k : ℕ) → n ≡ k + 1 → n ≤ k → ⊥
clash n k e h = omega (arith, e, h)

-- behind a Sent, and behind its Bounced
after_sent : (s : HostSpec) (P : List Entry) (c : CmdId) (n : Attempt) (t : Tag) (held : Held) → EachStands s P → may_send s P c.0 n.0 t.0 ≡ true
    → HoldsRight s (Sent c n t ∷ P) held → NoneHeld P c.0 held
after_sent s P c n t held each may right k d on sent is = ⊎_elim
    (λ yes. clash n.0 (sends P) (sent_picked s P c.0 n.0 t.0 may).1 (sent_below s n.0 P each (subst (λ (m : ℕ). was_sent m P ≡ true) (sym yes.1) sent)))
    (λ no.
    let busy : standing c.0 (Sent c n t ∷ P) ≡ Busy n t = rw (eq-eqb c.0 c.0 refl) refl in
    no.1 (sym (busy_only s (Sent c n t ∷ P) c.0 n t held right busy k d on (rw no.0 sent) (rw no.0 is))))
    (eqb_tells n.0 k)

after_bounced : (s : HostSpec) (P : List Entry) (c d : CmdId) (n m : Attempt) (t : Tag) (why : BusyOf) (held : Held) → just_sent d.0 m.0 (Sent c n t ∷ P) ≡ true
    → HoldsRight s (Bounced d m why ∷ Sent c n t ∷ P) held → NoneHeld P c.0 held
after_bounced s P c d n m t why held just right k e on sent is =
    let same : c.0 ≡ d.0 = eqb-true c.0 d.0 (and_parts (c.0 == d.0) (n.0 == m.0) just).0 in
    let waiting : waits (standing c.0 (Bounced d m why ∷ Sent c n t ∷ P)) ≡ true = rw (eq-eqb d.0 c.0 (sym same)) refl in
    waiting_none s (Bounced d m why ∷ Sent c n t ∷ P) c.0 held right waiting k e on (was (n.0 == k) sent) (for_it (n.0 == k) is)
  where
    was : (b : Bool) → was_sent k P ≡ true → cond b true (was_sent k P) ≡ true
    was true h = refl
    was false h = h

    for_it : (b : Bool) → sent_for k P ≡ c.0 → cond b c.0 (sent_for k P) ≡ c.0
    for_it true h = refl
    for_it false h = h

after_group : (s : HostSpec) (P g : List Entry) (c : CmdId) (n : Attempt) (t : Tag) (held : Held) → EachStands s P → IsAdded s P (Sent c n t ∷ g)
    → HoldsRight s (onto (Sent c n t ∷ g) P) held → NoneHeld P c.0 held
after_group s P [] c n t held each added right = after_sent s P c n t held each added.0 right
after_group s P (Bounced d m why ∷ []) c n t held each added right = after_bounced s P c d n m t why held added.1.0 right
after_group s P (Bounced d m why ∷ e ∷ g) c n t held each added right = absurd added.1.0
after_group s P (e ∷ g) c n t held each added right = absurd added.1.0

-- no step but Send adds a Sent, and that stands first
has_it : (f : Entry → Bool) (front rest : List Entry) (e : Entry) → list_all f (front ++ e ∷ rest) ≡ true → f e ≡ true
has_it f [] rest e all = (and_parts (f e) (list_all f rest) all).0
has_it f (x ∷ front) rest e all = has_it f front rest e (and_parts (f x) (list_all f (front ++ e ∷ rest)) all).1

is_send : (x : Step) (c : CmdId) (n : Attempt) (t : Tag) → may_enter x (Sent c n t) ≡ true → x ≡ Send
is_send Send c n t enters = refl
is_send x c n t enters = absurd (false≢true enters)

first_alone : (s : HostSpec) (P front rest : List Entry) (c : CmdId) (n : Attempt) (t : Tag) → Opens s P Send (front ++ Sent c n t ∷ rest) → IsAdded s P (front ++ Sent c n t ∷ rest) → front ≡ []
first_alone s P [] rest c n t opened added = refl
first_alone s P (Told d a ∷ []) rest c n t opened added = absurd added.1.0
first_alone s P (Told d a ∷ y ∷ front) rest c n t opened added = absurd added.1.0
first_alone s P (Sent d m u ∷ []) rest c n t opened added = absurd added.1.0
first_alone s P (Sent d m u ∷ Bounced e k why ∷ []) rest c n t opened added = absurd added.1.0
first_alone s P (Sent d m u ∷ Bounced e k why ∷ z ∷ front) rest c n t opened added = absurd added.1.0
first_alone s P (Sent d m u ∷ y ∷ front) rest c n t opened added = absurd added.1.0
first_alone s P (e ∷ front) rest c n t opened added = absurd (false≢true opened)

-- a journal that stays has nothing added
longer : (before front rest : List Entry) (e : Entry) → before ≡ before ++ front ++ e ∷ rest → ⊥
longer before front rest e same =
    omega (arith, ap (λ (xs : List Entry). length xs) same, length-append (before ++ front) (e ∷ rest), length-append before front)

pub no_earlier : {A : Type 0} (stood : A → Standing) (due : A → ℕ → Bool) (means : A → Meaning) (old new : CoreView A) (x : Step) (r : Result Did NoMemory) → Legal old.spec old.journal
    → IsRight old.spec (reverse old.journal) (means old.lower) → IsRight new.spec (reverse new.journal) (means new.lower)
    → Answers stood due means old new x r → HoldsNoEarlier means old new
no_earlier stood due means old new x (Ok (Skipped why)) legal right right' answer front rest c n t is honest tells =
    absurd (longer old.journal front rest (Sent c n t) (sym (ap (λ (v : CoreView _). v.journal) answer.0) ∙ is))
no_earlier stood due means old new x (Err e) legal right right' answer front rest c n t is honest tells =
    absurd (longer old.journal front rest (Sent c n t) (sym answer.journal ∙ is))
no_earlier stood due means old new x (Ok Done) legal right right' answer front rest c n t is honest tells =
    let P = reverse old.journal in
    let same : answer.group ≡ front ++ Sent c n t ∷ rest = append_cancel_left old.journal answer.group (front ++ Sent c n t ∷ rest) (sym answer.journal ∙ is ∙ append_assoc old.journal front (Sent c n t ∷ rest)) in
    let send : x ≡ Send = is_send x c n t (has_it (may_enter x) front rest (Sent c n t) (subst (λ (g : List Entry). list_all (may_enter x) g ≡ true) same answer.enters)) in
    let opened : Opens old.spec P Send (front ++ Sent c n t ∷ rest) =
    subst (λ (y : Step). Opens old.spec P y (front ++ Sent c n t ∷ rest)) send (subst (λ (g : List Entry). Opens old.spec P x g) same answer.adds.opened)
    in
    let whole : IsAdded old.spec P (front ++ Sent c n t ∷ rest) = subst (λ (g : List Entry). IsAdded old.spec P g) same answer.adds.added in
    let none : front ≡ [] = first_alone old.spec P front rest c n t opened whole in
    let added : IsAdded old.spec P (Sent c n t ∷ rest) = subst (λ (f : List Entry). IsAdded old.spec P (f ++ Sent c n t ∷ rest)) none whole in
    let grown : reverse new.journal ≡ onto (Sent c n t ∷ rest) P =
    ap (λ (xs : List Entry). reverse xs) (answer.journal ∙ ap (λ (g : List Entry). old.journal ++ g) (same ∙ ap (λ (f : List Entry). f ++ Sent c n t ∷ rest) none)) ∙ reverse-append old.journal (Sent c n t ∷ rest) ∙ sym (onto-reverse (Sent c n t ∷ rest) P)
    in
    let held = right honest tells in
    let held' : HoldsRight old.spec (onto (Sent c n t ∷ rest) P) (means new.lower).holds =
    subst (λ (Q : List Entry). HoldsRight old.spec Q (means new.lower).holds) grown
    (subst (λ (s : HostSpec). HoldsRight s (reverse new.journal) (means new.lower).holds) answer.spec (right' (answer.nature.honest ∙ honest) (answer.nature.tells ∙ tells)))
    in
    subst (λ (f : List Entry). NoneHeld (onto f P) c.0 (means old.lower).holds × NoneHeld (onto f P) c.0 (means new.lower).holds) (sym none)
    (sent_none old.spec P rest c n t (means old.lower).holds added held, after_group old.spec P rest c n t (means new.lower).holds (each_of old.spec P legal) added held')
