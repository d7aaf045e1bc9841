-- What may be left at the end of a turn.
use Rattle.std.proofs.Common.{◌≡◌, ℕ, zero, suc, ◌<◌, ◌⊎◌, List, [], ◌∷◌, ◌++◌, length, set, get_or, slice_get, Some, Result, Ok, Err, OnOk, sym, refl, ap, ◌∙◌, subst, ⊎_elim, inl, inr, append-nil, length-set}
use Rattle.std.proofs.lemmas.Option.{slice_get-get_or}
use Rattle.mid_base.specs.declared.answers.By.{By}
use Rattle.mid_base.specs.declared.answers.NoMemory.{NoMemory}
use Rattle.mid_base.specs.declared.answers.TagState.{TagState}
use Rattle.mid_base.specs.declared.answers.TagState.TheVariants as tag
use Rattle.mid_base.specs.declared.entries.Entry.{Entry}
use Rattle.mid_base.specs.declared.entries.Entry.TheVariants.{Owned}
use Rattle.mid_base.specs.declared.names.Attempt.{Attempt}
use Rattle.mid_base.specs.declared.names.CmdId.{CmdId}
use Rattle.host_words.specs.declared.view.Arm.{Arm}
use Rattle.host_words.specs.declared.view.Shown.{Shown}
use Rattle.host_words.specs.declared.words.WordSeen.{WordSeen}
use Rattle.host_words.specs.declared.words.WordSeen.TheVariants.{Armed}
use Rattle.host_words.specs.Journals.{Journal, IsPrefix, In, sent, HasSent}
use Rattle.host_words.specs.Words.{claimed_word, Fits}
use Rattle.host_words.specs.Views.{shows, arm, begun, armed_with, showing, released_of}
use Rattle.host_words.specs.Leaving.{TagLeft, MayLeave}
use Rattle.host_words.proofs.Owning.{in_snoc, in_second, mark_free, mark_armed, mark_same}
use Rattle.host_tests.specs.Desks.{entry_of}
use Rattle.host_tests.specs.Entering.{OwnerAdded}
use Rattle.host_tests.specs.declared.desk.Note.{Note}
use Rattle.host_tests.specs.declared.desk.Note.TheVariants.{Begun, Ended, Answered, Overdue}

-- nothing was done, in a turn that armed and released nothing
pub stays : (j : Journal) (ts : List TagState) → MayLeave (begun j ts) j ts
stays j ts = record {
  later = ([], sym (append-nil j));
  long = refl;
  sent = λ u m h. absurd h;
  each_tag = λ u f e. (f, e, inl refl);
  owned = λ m b h. inl h;
  settled = λ u m b h. absurd h;
}

pub looked : (j : Journal) (ts : List TagState) (t : ℕ) (w : WordSeen) → MayLeave (showing (begun j ts) t w) j ts
looked j ts t w = record {
  later = ([], sym (append-nil j));
  long = refl;
  sent = λ u m h. absurd h;
  each_tag = λ u f e. (f, e, inl refl);
  owned = λ m b h. inl h;
  settled = λ u m b h. absurd h;
}

owns_nothing : (note : Note) (m : Attempt) (b : By) → Owned m b ≡ entry_of note → ⊥
owns_nothing Begun m b e = cc
owns_nothing Ended m b e = cc
owns_nothing (Answered n a) m b e = cc
owns_nothing (Overdue n) m b e = cc

pub notes : (j : Journal) (ts : List TagState) (note : Note) → MayLeave (begun j ts) (j ++ entry_of note ∷ []) ts
notes j ts note = record {
  later = (entry_of note ∷ [], refl);
  long = refl;
  sent = λ u m h. absurd h;
  each_tag = λ u f e. (f, e, inl refl);
  owned = λ m b h. ⊎_elim (λ i. inl i) (λ (e : Owned m b ≡ entry_of note). absurd (owns_nothing note m b e)) (in_snoc (Owned m b) j (entry_of note) h);
  settled = λ u m b h. absurd h;
}

owned_sent : (c : CmdId) (n : Attempt) (t : ℕ) (m : Attempt) (b : By) → Owned m b ≡ sent c n t → ⊥
owned_sent c n t m b e = cc

pub sends : (j : Journal) (ts : List TagState) (t : ℕ) (c : CmdId) (n : Attempt) → MayLeave (armed_with (begun j ts) t n) (j ++ sent c n t ∷ []) (set ts t (tag.Armed n))
sends j ts t c n = record {
  later = (sent c n t ∷ [], refl);
  long = refl;
  sent = λ u m h. ⊎_elim (λ (e : arm u m ≡ arm t n). (c, in_second (sent c m u) j (sent c n t ∷ []) (inl (ap (λ (a : Arm). sent c a.attempt a.«tag».0) e)))) (λ f. absurd f) h;
  each_tag = λ u f e. (f, e, inl refl);
  owned = λ m b h. ⊎_elim (λ i. inl i) (λ (e : Owned m b ≡ sent c n t). absurd (owned_sent c n t m b e)) (in_snoc (Owned m b) j (sent c n t) h);
  settled = λ u m b h. absurd h;
}

owned_same : (m n : Attempt) (b by : By) → Owned m b ≡ Owned n by → (m ≡ n) × (b ≡ by)
owned_same m n b by e = (cc, cc)

-- the owner stood, or it was entered
abbrev pub Stood : Journal → Attempt → By → Journal → Type 0
Stood j n by left = In (Owned n by) j × (left ≡ j)

abbrev pub Put : Journal → Attempt → By → Journal → Type 0
Put j n by left = (In (Owned n by) j → ⊥) × (left ≡ j ++ Owned n by ∷ [])

pub put_owner : {A : Type 0} (r : Result A NoMemory) (j left : Journal) (n : Attempt) (by : By) → (In (Owned n by) j → ⊥) → OnOk r (left ≡ j ++ Owned n by ∷ []) → OnOk r (OwnerAdded j n by left)
put_owner (Ok x) j left n by missing is = inr (missing, is)
put_owner (Err x) j left n by missing is = is

pub owner_later : (j : Journal) (n : Attempt) (by : By) (left : Journal) → OwnerAdded j n by left → IsPrefix j left
owner_later j n by left a = ⊎_elim (λ (x : Stood j n by left). ([], x.1 ∙ sym (append-nil j))) (λ (x : Put j n by left). (Owned n by ∷ [], x.1)) a

pub owner_in : (j : Journal) (n : Attempt) (by : By) (left : Journal) → OwnerAdded j n by left → In (Owned n by) left
owner_in j n by left a = ⊎_elim (λ (x : Stood j n by left). subst (In (Owned n by)) (sym x.1) x.0) (λ (x : Put j n by left). subst (In (Owned n by)) (sym x.1) (in_second (Owned n by) j (Owned n by ∷ []) (inl refl))) a

pub owner_new : (j : Journal) (n : Attempt) (by : By) (left : Journal) → OwnerAdded j n by left → (m : Attempt) (b : By) → In (Owned m b) left → In (Owned m b) j ⊎ ((m ≡ n) × (b ≡ by))
owner_new j n by left a m b h = ⊎_elim (λ (x : Stood j n by left). inl (subst (In (Owned m b)) x.1 h))
    (λ (x : Put j n by left). ⊎_elim (λ i. inl i) (λ (e : Owned m b ≡ Owned n by). inr (owned_same m n b by e)) (in_snoc (Owned m b) j (Owned n by) (subst (In (Owned m b)) x.1 h))) a

pub settles : (j : Journal) (ts : List TagState) (t : ℕ) (n : Attempt) (by : By) (left : Journal) → OwnerAdded j n by left
    → MayLeave (released_of (showing (begun j ts) t (claimed_word n by)) t (claimed_word n by)) left (set ts t tag.Free)
settles j ts t n by left a = record {
  later = owner_later j n by left a;
  long = refl;
  sent = λ u m h. absurd h;
  each_tag = λ u f e. (f, e, inl refl);
  owned = λ m b h. ⊎_elim (λ i. inl i) (λ (same : (m ≡ n) × (b ≡ by)). inr (t, inl (λ i. shows t (claimed_word (same.0 i) (same.1 i))))) (owner_new j n by left a m b h);
  settled = λ u m b h. ⊎_elim
      (λ (e : shows u (claimed_word m b) ≡ shows t (claimed_word n by)).
      let same = mark_same m n b by (ap (λ (s : Shown). s.word) e) in subst (λ (x : Entry). In x left) (λ k. Owned (sym same.0 k) (sym same.1 k)) (owner_in j n by left a))
      (λ f. absurd f) h;
}

-- one tag was set
pub tag_set : {A : Type 0} (ts : List A) (t u : ℕ) (x f : A) → slice_get (set ts t x) u ≡ Some f → ((u ≡ t) × (f ≡ x)) ⊎ (slice_get ts u ≡ Some f)
tag_set [] t u x f e = inr e
tag_set (y ∷ ys) zero zero x f e = let same : f ≡ x = cc in inl (refl, same)
tag_set (y ∷ ys) zero (suc u) x f e = inr e
tag_set (y ∷ ys) (suc t) zero x f e = inr e
tag_set {A} (y ∷ ys) (suc t) (suc u) x f e = ⊎_elim (λ (s : (u ≡ t) × (f ≡ x)). inl (ap suc s.0, s.1)) (λ r. inr r) (tag_set ys t u x f e)

tag_left : (shown : List Shown) (t : ℕ) (n : Attempt) (by : By) (had : TagState) → Fits had (claimed_word n by) → In (shows t (claimed_word n by)) shown → TagLeft shown t had (tag.Owned n by)
tag_left shown t n by tag.Free fits i = absurd (mark_free n by fits)
tag_left shown t n by (tag.Armed m) fits i = ⊎_elim (λ (e : claimed_word n by ≡ Armed m). absurd (mark_armed n m by e))
    (λ (x : (b : By) × (claimed_word n by ≡ claimed_word m b)). inr (n, by, ap tag.Armed (sym (mark_same n m by x.0 x.1).0), refl, i)) fits
tag_left shown t n by (tag.Owned m b) fits i = let same = mark_same n m by b fits in inl (λ k. tag.Owned (same.0 k) (same.1 k))

abbrev pub Left : List TagState → List Shown → ℕ → TagState → Type 0
Left ts shown t f = (had : TagState) × (slice_get ts t ≡ Some had) × TagLeft shown t had f

owned_left : (ts : List TagState) (t : ℕ) (n : Attempt) (by : By) → t < length ts → ((had : TagState) → slice_get ts t ≡ Some had → Fits had (claimed_word n by)) → Left ts (shows t (claimed_word n by) ∷ []) t (tag.Owned n by)
owned_left ts t n by lt fits =
    let got = slice_get-get_or ts t tag.Free lt in
    (get_or ts t tag.Free, got, tag_left (shows t (claimed_word n by) ∷ []) t n by (get_or ts t tag.Free) (fits (get_or ts t tag.Free) got) (inl refl))

pub owns : (j : Journal) (ts : List TagState) (t : ℕ) (n : Attempt) (by : By) (left : Journal) → t < length ts → ((had : TagState) → slice_get ts t ≡ Some had → Fits had (claimed_word n by))
    → OwnerAdded j n by left → MayLeave (showing (begun j ts) t (claimed_word n by)) left (set ts t (tag.Owned n by))
owns j ts t n by left lt fits a = record {
  later = owner_later j n by left a;
  long = length-set ts t (tag.Owned n by);
  sent = λ u m h. absurd h;
  each_tag = λ u f e. ⊎_elim
      (λ (s : (u ≡ t) × (f ≡ tag.Owned n by)).
      subst (λ (p : ℕ). Left ts (shows t (claimed_word n by) ∷ []) p f) (sym s.0) (subst (Left ts (shows t (claimed_word n by) ∷ []) t) (sym s.1) (owned_left ts t n by lt fits)))
      (λ (g : slice_get ts u ≡ Some f). (f, g, inl refl)) (tag_set ts t u (tag.Owned n by) f e);
  owned = λ m b h. ⊎_elim (λ i. inl i) (λ (same : (m ≡ n) × (b ≡ by)). inr (t, inl (λ i. shows t (claimed_word (same.0 i) (same.1 i))))) (owner_new j n by left a m b h);
  settled = λ u m b h. absurd h;
}

-- a desk after a sending, and after an owner was entered
pub has_sent : (j : Journal) (t : ℕ) (c : CmdId) (n : Attempt) → HasSent (j ++ sent c n t ∷ []) t n
has_sent j t c n = (c, in_second (sent c n t) j (sent c n t ∷ []) (inl refl))
