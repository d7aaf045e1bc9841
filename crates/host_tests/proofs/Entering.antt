-- What turns that enter an owner tell their seats.
use Rattle.std.proofs.Common.{◌≡◌, ℕ, List, [], ◌∷◌, Option, None, Some, Result, Ok, Err, set, sym, refl, ap, ◌∙◌, subst, ⊎_elim, inl, inr, append-nil}
use Rattle.mid_base.specs.declared.answers.By.{By}
use Rattle.mid_base.specs.declared.answers.NoMemory.{NoMemory}
use Rattle.mid_base.specs.declared.answers.TagState.{TagState}
use Rattle.mid_base.specs.declared.answers.TagState.TheVariants as tag
use Rattle.mid_base.specs.declared.entries.Entry.{Entry}
use Rattle.mid_base.specs.declared.entries.Entry.TheVariants.{Owned}
use Rattle.mid_base.specs.declared.names.Attempt.{Attempt}
use Rattle.host_words.specs.declared.view.Stage.TheVariants.{Holding}
use Rattle.host_words.specs.declared.view.Turn.{Turn}
use Rattle.host_words.specs.declared.view.View.{View}
use Rattle.host_words.specs.declared.words.WordSeen.{WordSeen}
use Rattle.host_words.specs.Journals.{Journal, IsPrefix, In}
use Rattle.host_words.specs.Words.{claimed_word}
use Rattle.host_words.specs.Views.{win, won, shows, begun, turn_of, staged, showing, released_of, left_view}
use Rattle.host_words.specs.Leaving.{MayLeave, IsShownClaimed}
use Rattle.host_words.specs.Looks.{Looks, WasShown}
use Rattle.host_words.proofs.Owning.{in_first, in_second, mark_same}
use Rattle.host_tests.specs.Desks.{Owns}
use Rattle.host_tests.specs.Entering.{OwnerAdded, Enters, FindsNone, TellsOwner}
use Rattle.host_tests.specs.Turned.{TurnOf}
use Rattle.host_tests.proofs.Leaves.{owner_in, owner_later, settles, looked}

-- a look right after the beginning of a turn
pub looks_from : (v v' : View) (k : ℕ) (now : Turn) (t : ℕ) (w : WordSeen) → v' ≡ staged v (Holding k now) → Looks v' (turn_of v'.stage) t w → Looks v now t w
looks_from v v' k now t w e l =
    let m : Looks (staged v (Holding k now)) now t w = subst (λ (x : View). Looks x (turn_of x.stage) t w) e l in
    record { fits = m.fits; caused = m.caused; won = m.won }

-- a turn that was left
pub turn_left : (v w v' : View) (base left : Journal) (k : ℕ) (u : Turn) → v' ≡ staged v (Holding k u) → u.base ≡ base → IsPrefix v.seen base → IsPrefix base left → w ≡ left_view v' (turn_of v'.stage) left → TurnOf v base left w
turn_left v w v' base left k u at same found later is = record {
  found = found;
  later = later;
  is = is ∙ (ap (λ (x : View). left_view x (turn_of x.stage) left) at ∙ ap (λ (b : Journal). left_view v (begun b []) left) same);
}

was_owned : (base : Journal) (tags : List TagState) (t : ℕ) (m : Attempt) (b : By) → WasShown (begun base tags) t m b → In (Owned m b) base
was_owned base tags t m b h = ⊎_elim (λ f. absurd f) (λ i. i) h

pub tells : (v w : View) (base left : Journal) (tags : List TagState) (t : ℕ) (word : WordSeen) (r : Result (Option (Attempt × By)) NoMemory)
    → TurnOf v base left w → Looks v (begun base tags) t word → Owns base word r left → TellsOwner v t r w
tells v w base left tags t word (Ok (Some o)) turn looks owns = record {
  base = base;
  left = left;
  turn = turn;
  caused = looks.caused o.0 o.1 owns.0;
  owner = owns.1;
  won = λ m b h. ⊎_elim (λ (e : word ≡ claimed_word m b). inl (mark_same m o.0 b o.1 (sym e ∙ owns.0))) (λ (s : WasShown (begun base tags) t m b). inr (was_owned base tags t m b s)) (looks.won m b h);
}
tells v w base left tags t word (Ok None) turn looks owns = record {
  base = base;
  turn = subst (λ (l : Journal). TurnOf v base l w) owns.1 turn;
  won = λ m b h. ⊎_elim (λ (e : word ≡ claimed_word m b). absurd (owns.0 m b e)) (λ (s : WasShown (begun base tags) t m b). was_owned base tags t m b s) (looks.won m b h);
}
tells v w base left tags t word (Err x) turn looks owns = (base, subst (λ (l : Journal). TurnOf v base l w) owns turn)

-- a turn that ends by releasing a tag
pub released_left : (v w v' v'' : View) (base left : Journal) (k j : ℕ) (u : Turn) (t : ℕ) (word : WordSeen) → v' ≡ staged v (Holding k u) → v'' ≡ staged v' (Holding j (released_of (turn_of v'.stage) t word)) → u.base ≡ base
    → IsPrefix v.seen base → IsPrefix base left → w ≡ left_view v'' (turn_of v''.stage) left → TurnOf v base left w
released_left v w v' v'' base left k j u t word at next same found later is =
    turn_left v w v'' base left j (released_of u t word) (next ∙ ap (λ (x : View). staged x (Holding j (released_of (turn_of x.stage) t word))) at) same found later is

-- what a seat has won is owned once a turn of it ended that looked there
pub owner_told : (v w : View) (t : ℕ) (n : Attempt) (by : By) (o : Option (Attempt × By)) → TellsOwner v t (Ok o) w → In (win t n by) v.wins → In (Owned n by) w.seen
owner_told v w t n by None tells h =
    subst (λ (l : Journal). In (Owned n by) l) (sym (ap (λ (x : View). x.seen) tells.turn.is)) (tells.won n by h)
owner_told v w t n by (Some o) tells h =
    let there : In (Owned n by) tells.left = ⊎_elim
    (λ (s : (n ≡ o.0) × (by ≡ o.1)). subst (λ (e : Entry). In e tells.left) (λ k. Owned (sym s.0 k) (sym s.1 k)) (owner_in tells.base o.0 o.1 tells.left tells.owner))
    (λ (i : In (Owned n by) tells.base). subst (In (Owned n by)) (sym tells.turn.later.1) (in_first (Owned n by) tells.base tells.turn.later.0 i)) (tells.won n by h) in
    subst (λ (l : Journal). In (Owned n by) l) (sym (ap (λ (x : View). x.seen) tells.turn.is)) there

-- a look showed the claim of n, and nothing was released since
pub shown_claim : (v v' : View) (k : ℕ) (base : Journal) (tags : List TagState) (t : ℕ) (n : Attempt) (by : By) (word : WordSeen) → v' ≡ staged v (Holding k (showing (begun base tags) t word)) → word ≡ claimed_word n by → IsShownClaimed (turn_of v'.stage) t n by
shown_claim v v' k base tags t n by word at is = subst (λ (x : View). IsShownClaimed (turn_of x.stage) t n by) (sym at) (inl (ap (shows t) (sym is)), λ f. absurd f)

-- a turn may end that has released the tag of an attempt whose owner stands
pub may_release : (v v' v'' : View) (k j : ℕ) (base left : Journal) (tags after : List TagState) (t : ℕ) (n : Attempt) (by : By) (word : WordSeen) → v' ≡ staged v (Holding k (showing (begun base tags) t word))
    → v'' ≡ staged v' (Holding j (released_of (turn_of v'.stage) t (claimed_word n by))) → word ≡ claimed_word n by → OwnerAdded base n by left → after ≡ set tags t tag.Free → MayLeave (turn_of v''.stage) left after
may_release v v' v'' k j base left tags after t n by word at next is a same =
    subst (λ (x : View). MayLeave (turn_of x.stage) left after) (sym (next ∙ ap (λ (x : View). staged x (Holding j (released_of (turn_of x.stage) t (claimed_word n by)))) at))
    (subst (λ (w : WordSeen). MayLeave (released_of (showing (begun base tags) t w) t (claimed_word n by)) left after) (sym is)
    (subst (MayLeave (released_of (showing (begun base tags) t (claimed_word n by)) t (claimed_word n by)) left) (sym same) (settles base tags t n by left a)))

-- a turn may end that has changed nothing
pub may_stay : (v v' : View) (k : ℕ) (base left : Journal) (tags after : List TagState) (t : ℕ) (word : WordSeen) → v' ≡ staged v (Holding k (showing (begun base tags) t word)) → left ≡ base → after ≡ tags → MayLeave (turn_of v'.stage) left after
may_stay v v' k base left tags after t word at same kept =
    subst (λ (x : View). MayLeave (turn_of x.stage) left after) (sym at)
    (subst (λ (l : Journal). MayLeave (showing (begun base tags) t word) l after) (sym same) (subst (MayLeave (showing (begun base tags) t word) base) (sym kept) (looked base tags t word)))

pub in_on : (e : Entry) (xs ys : Journal) → IsPrefix xs ys → In e xs → In e ys
in_on e xs ys p h = subst (In e) (sym p.1) (in_first e xs p.0 h)

pub owner_seen : (v w : View) (t : ℕ) (n : Attempt) (by : By) → Enters v t n by w → In (Owned n by) w.seen
owner_seen v w t n by e = subst (λ (l : Journal). In (Owned n by) l) (sym (ap (λ (x : View). x.seen) e.turn.is)) (owner_in e.base n by e.left e.owner)

pub won_in : (v v' : View) (t : ℕ) (n : Attempt) (by : By) → v' ≡ won v t n by → In (win t n by) v'.wins
won_in v v' t n by e = subst (λ (x : View). In (win t n by) x.wins) (sym e) (in_second (win t n by) v.wins (win t n by ∷ []) (inl refl))

pub owns_later : (base left : Journal) (word : WordSeen) (r : Result (Option (Attempt × By)) NoMemory) → Owns base word r left → IsPrefix base left
owns_later base left word (Ok (Some o)) owns = owner_later base o.0 o.1 left owns.1
owns_later base left word (Ok None) owns = ([], owns.1 ∙ sym (append-nil base))
owns_later base left word (Err x) owns = ([], owns ∙ sym (append-nil base))

pub tells_some : (v w : View) (base left : Journal) (tags : List TagState) (t : ℕ) (word : WordSeen) (o : Option (Attempt × By)) (n : Attempt) (by : By) → o ≡ Some (n, by)
    → TurnOf v base left w → Looks v (begun base tags) t word → Owns base word (Ok o) left → Enters v t n by w
tells_some v w base left tags t word o n by is turn looks owns = subst (λ (x : Option (Attempt × By)). TellsOwner v t (Ok x) w) is (tells v w base left tags t word (Ok o) turn looks owns)

pub tells_none : (v w : View) (base left : Journal) (tags : List TagState) (t : ℕ) (word : WordSeen) (o : Option (Attempt × By)) → o ≡ None
    → TurnOf v base left w → Looks v (begun base tags) t word → Owns base word (Ok o) left → FindsNone v t w
tells_none v w base left tags t word o is turn looks owns = subst (λ (x : Option (Attempt × By)). TellsOwner v t (Ok x) w) is (tells v w base left tags t word (Ok o) turn looks owns)
