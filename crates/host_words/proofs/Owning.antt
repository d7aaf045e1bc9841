-- What a step on a tag's word keeps.
use Rattle.std.proofs.Common.{◌≡◌, ◌≢◌, ℕ, zero, suc, ◌+◌, ◌<◌, ◌≤◌, ◌⊎◌, List, [], ◌∷◌, ◌++◌, set, sym, refl, ap, ◌∙◌, subst, ⊎_elim, inl, inr, arith, append_assoc, length-set, replicate, Some, slice_get}
use Rattle.std.proofs.lemmas.List.{length-replicate}
use Rattle.std.proofs.lemmas.Bool.Decides.{nat_tests}
use mathlib.Core.Logic.{dite}
use mathlib.Core.Option.{some, some-injective, some-ne-none}
use native.Mathlib.Decide.{ℕ_discrete}
use lib.ListN.{get_elem?}
use Rattle.atomic_table.proofs.Lists.{at_set, set_else}
use Rattle.mid_base.specs.declared.answers.By.{By}
use Rattle.mid_base.specs.declared.answers.By.TheVariants.{Answer, Expiry}
use Rattle.mid_base.specs.declared.answers.TagState.{TagState}
use Rattle.mid_base.specs.declared.answers.TagState.TheVariants as tag
use Rattle.mid_base.specs.declared.entries.Entry.{Entry}
use Rattle.mid_base.specs.declared.entries.Entry.TheVariants.{Owned}
use Rattle.mid_base.specs.declared.names.Attempt.{Attempt}
use Rattle.host_words.specs.declared.words.WordSeen.{WordSeen}
use Rattle.host_words.specs.declared.words.WordSeen.TheVariants.{Free, Armed}
use Rattle.host_words.specs.declared.view.Loss.{Loss}
use Rattle.host_words.specs.declared.view.Shown.{Shown}
use Rattle.host_words.specs.declared.view.Turn.{Turn}
use Rattle.host_words.specs.declared.view.View.{View}
use Rattle.host_words.specs.declared.view.Win.{Win}
use Rattle.host_words.specs.Journals.{Journal, IsPrefix, In, sent, HasSent, Tells, HasCause}
use Rattle.host_words.specs.Words.{claimed_word, NumberIs, Fits}
use Rattle.host_words.specs.Views.{win, loss, shows, arm, won, lost, begun, armed_with, showing, released_of, total}
use Rattle.host_words.specs.Owners.{has_attempt, wins_of, WinStands, WinsStand, LossStands, LossesStand, Owners}
use Rattle.host_words.specs.Leaving.{IsNew, TagLeft, MayLeave}
use Rattle.host_words.specs.Looks.{Looks}
use Rattle.host_words.proofs.Totals.{total_set, total_snoc, total_none, each_set, each_snoc}

module _ {A : Type 0} where
  pub in_first : (x : A) (xs ys : List A) → In x xs → In x (xs ++ ys)
  in_first x [] ys h = absurd h
  in_first x (z ∷ zs) ys h = ⊎_elim (λ e. inl e) (λ i. inr (in_first x zs ys i)) h

  pub in_second : (x : A) (xs ys : List A) → In x ys → In x (xs ++ ys)
  in_second x [] ys h = h
  in_second x (z ∷ zs) ys h = inr (in_second x zs ys h)

  pub in_either : (x : A) (xs ys : List A) → In x (xs ++ ys) → In x xs ⊎ In x ys
  in_either x [] ys h = inr h
  in_either x (z ∷ zs) ys h = ⊎_elim (λ e. inl (inl e)) (λ i. ⊎_elim (λ a. inl (inr a)) (λ b. inr b) (in_either x zs ys i)) h

  pub in_snoc : (x : A) (xs : List A) (y : A) → In x (xs ++ y ∷ []) → In x xs ⊎ (x ≡ y)
  in_snoc x xs y h = ⊎_elim (λ a. inl a) (λ b. ⊎_elim (λ e. inr e) (λ f. absurd f) b) (in_either x xs (y ∷ []) h)

-- the caller's word for a place of a list, and the table's
pub from_slice : {A : Type 0} (l : List A) (i : ℕ) (a : A) → slice_get l i ≡ Some a → get_elem? l i ≡ some a
from_slice [] i a e = absurd (cc)
from_slice (x ∷ xs) zero a e = let same : x ≡ a = cc in ap some same
from_slice (x ∷ xs) (suc i) a e = from_slice xs i a e

pub to_slice : {A : Type 0} (l : List A) (i : ℕ) (a : A) → get_elem? l i ≡ some a → slice_get l i ≡ Some a
to_slice [] i a e = absurd (some-ne-none a (sym e))
to_slice (x ∷ xs) zero a e = ap Some (some-injective x a e)
to_slice (x ∷ xs) (suc i) a e = to_slice xs i a e

pub sent_on : (xs ys : Journal) (t : ℕ) (n : Attempt) → IsPrefix xs ys → HasSent xs t n → HasSent ys t n
sent_on xs ys t n p s = (s.0, subst (In (sent s.0 n t)) (sym p.1) (in_first _ xs p.0 s.1))

tells_on : (n : Attempt) (by : By) (xs ys : Journal) → Tells n by xs → Tells n by (xs ++ ys)
tells_on n Answer xs ys h = (h.0, in_first _ xs ys h.1)
tells_on n Expiry xs ys h = in_first _ xs ys h

pub cause_on : (xs ys : Journal) (t : ℕ) (n : Attempt) (by : By) → IsPrefix xs ys → HasCause xs t n by → HasCause ys t n by
cause_on xs ys t n by p h = (
  h.0,
  h.1,
  h.2 ++ p.0,
  p.1 ∙ (ap (λ (l : Journal). l ++ p.0) h.3 ∙ append_assoc h.1 (sent h.0 n t ∷ h.2) p.0),
  tells_on n by h.2 p.0 h.4,
)

pub cause_sent : (xs : Journal) (t : ℕ) (n : Attempt) (by : By) → HasCause xs t n by → HasSent xs t n
cause_sent xs t n by h = (h.0, subst (In (sent h.0 n t)) (sym h.3) (in_second _ h.1 (sent h.0 n t ∷ h.2) (inl refl)))

pub mark_armed : (n m : Attempt) (by : By) → claimed_word n by ≡ Armed m → ⊥
mark_armed n m Answer e = cc
mark_armed n m Expiry e = cc

pub mark_free : (n : Attempt) (by : By) → claimed_word n by ≡ Free → ⊥
mark_free n Answer e = cc
mark_free n Expiry e = cc

-- attempts are told by their numbers
pub same_attempt : (m n : Attempt) → m.0 ≡ n.0 → m ≡ n
same_attempt m n e = ap (λ (k : ℕ). record { 0 = k }) e

pub mark_same : (n m : Attempt) (a b : By) → claimed_word n a ≡ claimed_word m b → (n ≡ m) × (a ≡ b)
mark_same n m Answer Answer e = (cc, refl)
mark_same n m Answer Expiry e = absurd (cc)
mark_same n m Expiry Answer e = absurd (cc)
mark_same n m Expiry Expiry e = (cc, refl)

pub mark_number : (n : Attempt) (by : By) → NumberIs n (claimed_word n by)
mark_number n Answer = refl
mark_number n Expiry = refl

number_mark : (n m : Attempt) (by : By) → NumberIs n (claimed_word m by) → n ≡ m
number_mark n m Answer h = h
number_mark n m Expiry h = h

fits_mark : (n : Attempt) (by : By) (f : TagState) → Fits f (Armed n) → Fits f (claimed_word n by)
fits_mark n by tag.Free e = absurd (cc)
fits_mark n by (tag.Armed m) h = ⊎_elim (λ (e : Armed n ≡ Armed m). let same : n ≡ m = cc in inr (by, ap (λ (k : Attempt). claimed_word k by) same)) (λ (x : (b : By) × (Armed n ≡ claimed_word m b)). absurd (mark_armed m n x.0 (sym x.1))) h
fits_mark n by (tag.Owned m b) e = absurd (mark_armed m n b (sym e))

fits_number : (n : Attempt) (x : WordSeen) → Fits (tag.Armed n) x → NumberIs n x
fits_number n x f = ⊎_elim (λ (e : x ≡ Armed n). subst (NumberIs n) (sym e) refl) (λ (e : (by : By) × (x ≡ claimed_word n by)). subst (NumberIs n) (sym e.1) (mark_number n e.0)) f

has_snoc : (n : Attempt) (ws : List Win) (w : Win) → has_attempt n (ws ++ w ∷ []) ≡ has_attempt n ws + has_attempt n (w ∷ [])
has_snoc n [] w = omega arith
has_snoc n (x ∷ xs) w = omega (arith, has_snoc n xs w)

has_both : (n : Attempt) (xs ys : List Win) → has_attempt n (xs ++ ys) ≡ has_attempt n xs + has_attempt n ys
has_both n [] ys = omega arith
has_both n (x ∷ xs) ys = omega (arith, has_both n xs ys)

-- no win of an attempt that no win names
has_none : (n : Attempt) (ws : List Win) → ((t : ℕ) (by : By) → In (win t n by) ws → ⊥) → has_attempt n ws ≡ 0
has_none n [] not = refl
has_none n (w ∷ ws) not = let rest = has_none n ws (λ t by h. not t by (inr h)) in
    let other : n.0 ≢ w.attempt.0 = λ (e : n.0 ≡ w.attempt.0). not w.«tag».0 w.by (inl (ap (λ (k : Attempt). win w.«tag».0 k w.by) (same_attempt n w.attempt e))) in
    grind (arith, nat_tests)

there : {A : Type 0} (l : List A) (i : ℕ) (a b : A) → get_elem? l i ≡ some a → get_elem? (set l i b) i ≡ some b
there [] i a b e = absurd (some-ne-none a (sym e))
there (x ∷ xs) zero a b e = refl
there (x ∷ xs) (suc i) a b e = there xs i a b e

module _ (cells : List WordSeen) (now : Turn) (views : List View) (o : Owners cells now views) where
  -- a claim meets the word that it expects
  module _ (t : ℕ) (n : Attempt) (by : By) (at : get_elem? cells t ≡ some (Armed n)) (id : ℕ) (v : View) (here : get_elem? views id ≡ some v) (cause : HasCause now.base t n by) where
    abbrev cells' : List WordSeen
    cells' = set cells t (claimed_word n by)

    unwon : (j : ℕ) (u : View) → get_elem? views j ≡ some u → (t' : ℕ) (b : By) → In (win t' n b) u.wins → ⊥
    unwon j u e t' b h = (o.each_win j u e t' n b h).unarmed t at

    -- another word is as it was
    elsewhere : (u : ℕ) (m : Attempt) (b : By) → get_elem? cells u ≡ some (claimed_word m b) → get_elem? cells' u ≡ some (claimed_word m b)
    elsewhere u m b e = set_else cells t u (claimed_word n by) (λ (same : u ≡ t). mark_armed m n b (some-injective _ _ (sym e ∙ (ap (get_elem? cells) same ∙ at)))) ∙ e

    -- a word of the list after the claim is the new one, or an old one elsewhere
    before : (u : ℕ) (w : WordSeen) → get_elem? cells' u ≡ some w → ((u ≡ t) × (claimed_word n by ≡ w)) ⊎ ((u ≢ t) × (get_elem? cells u ≡ some w))
    before u w e = at_set cells t u (claimed_word n by) w e

    unarmed' : (u : ℕ) (m : Attempt) → get_elem? cells' u ≡ some (Armed m) → get_elem? cells u ≡ some (Armed m)
    unarmed' u m e = ⊎_elim (λ (x : (u ≡ t) × (claimed_word n by ≡ Armed m)). absurd (mark_armed n m by x.1)) (λ (x : (u ≢ t) × (get_elem? cells u ≡ some (Armed m))). x.1) (before u (Armed m) e)

    win_stays : (t' : ℕ) (m : Attempt) (b : By) → WinStands cells now t' m b → WinStands cells' now t' m b
    win_stays t' m b w = record {
      sent = w.sent;
      unarmed = λ u e. w.unarmed u (unarmed' u m e);
      stands = ⊎_elim (λ (x : get_elem? cells t' ≡ some (claimed_word m b)). inl (elsewhere t' m b x)) (λ x. inr x) w.stands;
      same_word = λ u c e. ⊎_elim (λ (x : (u ≡ t) × (claimed_word n by ≡ claimed_word m c)). let k = mark_same n m by c x.1 in absurd (w.unarmed t (subst (λ (l : Attempt). get_elem? cells t ≡ some (Armed l)) k.0 at)))
          (λ (x : (u ≢ t) × (get_elem? cells u ≡ some (claimed_word m c))). w.same_word u c x.1) (before u (claimed_word m c) e);
      same_shown = w.same_shown;
      same_owned = w.same_owned;
    }

    won_stands : WinStands cells' now t n by
    won_stands = record {
      sent = cause_sent now.base t n by cause;
      unarmed = λ u e. ⊎_elim (λ (x : (u ≡ t) × (claimed_word n by ≡ Armed n)). mark_armed n n by x.1) (λ (x : (u ≢ t) × (get_elem? cells u ≡ some (Armed n))). x.0 (o.differ u t n (Armed n) (Armed n) x.1 at refl refl)) (before u (Armed n) e);
      stands = inl (there cells t (Armed n) (claimed_word n by) at);
      same_word = λ u c e. ⊎_elim (λ (x : (u ≡ t) × (claimed_word n by ≡ claimed_word n c)). sym (mark_same n n by c x.1).1)
          (λ (x : (u ≢ t) × (get_elem? cells u ≡ some (claimed_word n c))). absurd (x.0 (o.differ u t n (claimed_word n c) (Armed n) x.1 at (mark_number n c) refl))) (before u (claimed_word n c) e);
      same_shown = λ u c h. absurd (o.unshown t n at u c h);
      same_owned = λ c h. absurd (o.unowned t n at c h);
    }

    apart_words : (i j : ℕ) (m : Attempt) (x y : WordSeen) → get_elem? cells' i ≡ some x → get_elem? cells' j ≡ some y → NumberIs m x → NumberIs m y → i ≡ j
    apart_words i j m x y e e' is is' = each_set (λ k w. NumberIs m w → NumberIs m y → k ≡ j) cells t (claimed_word n by)
        (each_set (λ k w. NumberIs m (claimed_word n by) → NumberIs m w → t ≡ k) cells t (claimed_word n by) (λ _ _. refl)
        (λ k w other e2 a b. o.differ t k m (Armed n) w at e2 (number_mark m n by a) b) j y e')
        (λ k w other e1 a b. each_set (λ l u. NumberIs m w → NumberIs m u → k ≡ l) cells t (claimed_word n by) (λ a b. o.differ k t m w (Armed n) e1 at a (number_mark m n by b))
        (λ l u _ e2 a b. o.differ k l m w u e1 e2 a b) j y e' a b)
        i x e is is'

    loss_stays : (t' : ℕ) (m : Attempt) (w : WordSeen) (seen : Journal) → LossStands cells seen t' m w → LossStands cells' seen t' m w
    loss_stays t' m w seen l = (l.0, l.1, λ e. l.2 (unarmed' t' m e))

    none_before : total (wins_of n) views ≡ 0
    none_before = total_none (wins_of n) views (λ j u e. has_none n u.wins (unwon j u e))

    one_win : (m : Attempt) → total (wins_of m) views + has_attempt m (win t n by ∷ []) ≤ 1
    one_win m = dite (ℕ_discrete m.0 n.0)
        (λ same. let none_there : total (wins_of m) views ≡ 0 = ap (λ (k : Attempt). total (wins_of k) views) (same_attempt m n same) ∙ none_before in grind (arith, nat_tests))
        (λ other. let few = o.once m in grind (arith, nat_tests))

    once' : (m : Attempt) → total (wins_of m) (set views id (won v t n by)) ≤ 1
    once' m = omega (arith, total_set (wins_of m) views id v (won v t n by) here, has_snoc m v.wins (win t n by), one_win m)

    pub claim_won : Owners cells' now (set views id (won v t n by))
    claim_won = record {
      long = o.long ∙ sym (length-set cells t (claimed_word n by));
      fits = λ u f w e e'. ⊎_elim (λ (x : (u ≡ t) × (claimed_word n by ≡ w)). subst (Fits f) x.1 (fits_mark n by f (o.fits u f (Armed n) e (ap (get_elem? cells) x.0 ∙ at))))
          (λ (x : (u ≢ t) × (get_elem? cells u ≡ some w)). o.fits u f w e x.1) (before u w e');
      still = λ u m b h. ⊎_elim (λ (x : In (shows u (claimed_word m b)) now.released). inl x) (λ (x : get_elem? cells u ≡ some (claimed_word m b)). inr (elsewhere u m b x)) (o.still u m b h);
      was_shown = o.was_shown;
      gone = λ u m k b w h e is. ⊎_elim
          (λ (x : (k ≡ t) × (claimed_word n by ≡ w)). o.gone u m t b (Armed n) h at (number_mark m n by (subst (NumberIs m) (sym x.1) is)))
          (λ (x : (k ≢ t) × (get_elem? cells k ≡ some w)). o.gone u m k b w h x.1 is) (before k w e);
      differ = λ i j m x y e e' is is'. apart_words i j m x y e e' is is';
      known = λ u m w e is. ⊎_elim (λ (x : (u ≡ t) × (claimed_word n by ≡ w)). let same : m ≡ n = number_mark m n by (subst (NumberIs m) (sym x.1) is) in o.known u m (Armed n) (ap (get_elem? cells) x.0 ∙ at) same)
          (λ (x : (u ≢ t) × (get_elem? cells u ≡ some w)). o.known u m w x.1 is) (before u w e);
      unowned = λ u m e. o.unowned u m (unarmed' u m e);
      unshown = λ u m e. o.unshown u m (unarmed' u m e);
      caused = λ u m b e. ⊎_elim (λ (x : (u ≡ t) × (claimed_word n by ≡ claimed_word m b)). let k = mark_same n m by b x.1 in subst (λ (z : ℕ × (Attempt × By)). HasCause now.base z.0 z.1.0 z.1.1) (λ i. (sym x.0 i, (k.0 i, k.1 i))) cause)
          (λ (x : (u ≢ t) × (get_elem? cells u ≡ some (claimed_word m b))). o.caused u m b x.1) (before u (claimed_word m b) e);
      caused_shown = o.caused_shown;
      once = once';
      each_win = each_set (λ _ u. WinsStand cells' now u) views id (won v t n by)
          (λ u m b h. ⊎_elim (λ (x : In (win u m b) v.wins). win_stays u m b (o.each_win id v here u m b x))
          (λ (x : win u m b ≡ win t n by). subst (λ (w : Win). WinStands cells' now w.«tag».0 w.attempt w.by) (sym x) won_stands) (in_snoc (win u m b) v.wins (win t n by) h))
          (λ j u _ e t' m b h. win_stays t' m b (o.each_win j u e t' m b h));
      each_loss = each_set (λ _ u. LossesStand cells' u) views id (won v t n by) (λ u m w h. loss_stays u m w v.seen (o.each_loss id v here u m w h)) (λ j u _ e t' m w h. loss_stays t' m w u.seen (o.each_loss j u e t' m w h));
    }

  -- a claim meets another word
  pub claim_lost : (t : ℕ) (n : Attempt) (w : WordSeen) → get_elem? cells t ≡ some w → w ≢ Armed n → (id : ℕ) (v : View) → get_elem? views id ≡ some v → HasSent v.seen t n → Owners cells now (set views id (lost v t n w))
  claim_lost t n w at other id v here sent = record {
    long = o.long;
    fits = o.fits;
    still = o.still;
    was_shown = o.was_shown;
    gone = o.gone;
    differ = o.differ;
    known = o.known;
    unowned = o.unowned;
    unshown = o.unshown;
    caused = o.caused;
    caused_shown = o.caused_shown;
    once = λ m. omega (arith, o.once m, total_set (wins_of m) views id v (lost v t n w) here);
    each_win = each_set (λ _ u. WinsStand cells now u) views id (lost v t n w) (o.each_win id v here) (λ j u _. o.each_win j u);
    each_loss = each_set (λ _ u. LossesStand cells u) views id (lost v t n w)
        (λ u m x h. ⊎_elim (λ (y : In (loss u m x) v.losts). o.each_loss id v here u m x y)
        (λ (y : loss u m x ≡ loss t n w). subst (λ (l : Loss). LossStands cells v.seen l.«tag».0 l.attempt l.met) (sym y) (sent, other, λ e. other (some-injective _ _ (sym at ∙ e)))) (in_snoc (loss u m x) v.losts (loss t n w) h))
        (λ j u _. o.each_loss j u);
  }

  -- a view that knows the same of the words
  pub same_knowledge : (id : ℕ) (v w : View) → get_elem? views id ≡ some v → w.wins ≡ v.wins → w.losts ≡ v.losts → w.seen ≡ v.seen → Owners cells now (set views id w)
  same_knowledge id v w here wins losts seen = record {
    long = o.long;
    fits = o.fits;
    still = o.still;
    was_shown = o.was_shown;
    gone = o.gone;
    differ = o.differ;
    known = o.known;
    unowned = o.unowned;
    unshown = o.unshown;
    caused = o.caused;
    caused_shown = o.caused_shown;
    once = λ m. let e : wins_of m w ≡ wins_of m v = ap (has_attempt m) wins in omega (arith, o.once m, total_set (wins_of m) views id v w here);
    each_win = each_set (λ _ u. WinsStand cells now u) views id w (λ t n by h. o.each_win id v here t n by (subst (In (win t n by)) wins h)) (λ j u _. o.each_win j u);
    each_loss = each_set (λ _ u. LossesStand cells u) views id w (λ t n x h. subst (λ (l : Journal). LossStands cells l t n x) (sym seen) (o.each_loss id v here t n x (subst (In (loss t n x)) losts h))) (λ j u _. o.each_loss j u);
  }

  -- a view that knows nothing comes
  pub newcomer_knows : (w : View) → w.wins ≡ [] → w.losts ≡ [] → Owners cells now (views ++ w ∷ [])
  newcomer_knows w wins losts = record {
    long = o.long;
    fits = o.fits;
    still = o.still;
    was_shown = o.was_shown;
    gone = o.gone;
    differ = o.differ;
    known = o.known;
    unowned = o.unowned;
    unshown = o.unshown;
    caused = o.caused;
    caused_shown = o.caused_shown;
    once = λ m. let e : wins_of m w ≡ 0 = ap (has_attempt m) wins in omega (arith, o.once m, total_snoc (wins_of m) views w);
    each_win = each_snoc (WinsStand cells now) views w (λ t n by h. absurd (subst (In (win t n by)) wins h)) (λ j u. o.each_win j u);
    each_loss = each_snoc (LossesStand cells) views w (λ t n x h. absurd (subst (In (loss t n x)) losts h)) (λ j u. o.each_loss j u);
  }

  -- one view takes in what the other knows
  pub joined_knowledge : (id other : ℕ) (v w b spent : View) → get_elem? views id ≡ some v → ¬ (other ≡ id) → get_elem? (set views id b) other ≡ some w
      → b.wins ≡ v.wins ++ w.wins → b.losts ≡ v.losts ++ w.losts → IsPrefix v.seen b.seen → IsPrefix w.seen b.seen → spent.wins ≡ [] → spent.losts ≡ [] → Owners cells now (set (set views id b) other spent)
  joined_knowledge id other v w b spent here apart there wins losts of_v of_w none_won none_lost =
      let at_other : get_elem? views other ≡ some w = sym (set_else views id other b apart) ∙ there in record {
        long = o.long;
        fits = o.fits;
        still = o.still;
        was_shown = o.was_shown;
        gone = o.gone;
        differ = o.differ;
        known = o.known;
        unowned = o.unowned;
        unshown = o.unshown;
        caused = o.caused;
        caused_shown = o.caused_shown;
        once = λ m. let e : wins_of m b ≡ has_attempt m (v.wins ++ w.wins) = ap (has_attempt m) wins in let z : wins_of m spent ≡ 0 = ap (has_attempt m) none_won in
            omega (arith, o.once m, total_set (wins_of m) views id v b here, total_set (wins_of m) (set views id b) other w spent there, has_both m v.wins w.wins);
        each_win = each_set (λ _ u. WinsStand cells now u) (set views id b) other spent (λ t n by h. absurd (subst (In (win t n by)) none_won h))
            (λ j u _. each_set (λ _ u. WinsStand cells now u) views id b (λ t n by h. ⊎_elim (o.each_win id v here t n by) (o.each_win other w at_other t n by) (in_either (win t n by) v.wins w.wins (subst (In (win t n by)) wins h))) (λ j u _. o.each_win j u) j u);
        each_loss = each_set (λ _ u. LossesStand cells u) (set views id b) other spent (λ t n x h. absurd (subst (In (loss t n x)) none_lost h))
            (λ j u _. each_set (λ _ u. LossesStand cells u) views id b
            (λ t n x h. ⊎_elim (λ (i : In (loss t n x) v.losts). let l = o.each_loss id v here t n x i in (sent_on v.seen b.seen t n of_v l.0, l.1, l.2))
            (λ (i : In (loss t n x) w.losts). let l = o.each_loss other w at_other t n x i in (sent_on w.seen b.seen t n of_w l.0, l.1, l.2)) (in_either (loss t n x) v.losts w.losts (subst (In (loss t n x)) losts h)))
            (λ j u _. o.each_loss j u) j u);
      }

  -- a free tag is armed for a new attempt
  module _ (t : ℕ) (n : Attempt) (free : get_elem? now.hand t ≡ some tag.Free) (word : get_elem? cells t ≡ some Free) (fresh : IsNew now n) where
    abbrev armed_cells : List WordSeen
    armed_cells = set cells t (Armed n)

    a_before : (u : ℕ) (w : WordSeen) → get_elem? armed_cells u ≡ some w → ((u ≡ t) × (Armed n ≡ w)) ⊎ ((u ≢ t) × (get_elem? cells u ≡ some w))
    a_before u w e = at_set cells t u (Armed n) w e

    below_new : (u : ℕ) (m : Attempt) (w : WordSeen) → get_elem? cells u ≡ some w → NumberIs m w → m.0 < n.0
    below_new u m w e is = ⊎_elim (fresh.above_sent u m) (fresh.above_armed u m) (o.known u m w e is)

    -- a claimed word is where it was
    a_marked : (u : ℕ) (m : Attempt) (b : By) → get_elem? armed_cells u ≡ some (claimed_word m b) → get_elem? cells u ≡ some (claimed_word m b)
    a_marked u m b e = ⊎_elim (λ (x : (u ≡ t) × (Armed n ≡ claimed_word m b)). absurd (mark_armed m n b (sym x.1))) (λ (x : (u ≢ t) × (get_elem? cells u ≡ some (claimed_word m b))). x.1) (a_before u (claimed_word m b) e)

    a_elsewhere : (u : ℕ) (m : Attempt) (b : By) → get_elem? cells u ≡ some (claimed_word m b) → get_elem? armed_cells u ≡ some (claimed_word m b)
    a_elsewhere u m b e = set_else cells t u (Armed n) (λ (same : u ≡ t). mark_free m b (some-injective _ _ (sym e ∙ (ap (get_elem? cells) same ∙ word)))) ∙ e

    a_armed : (u : ℕ) (m : Attempt) → m.0 < n.0 → get_elem? armed_cells u ≡ some (Armed m) → get_elem? cells u ≡ some (Armed m)
    a_armed u m old e = ⊎_elim (λ (x : (u ≡ t) × (Armed n ≡ Armed m)). let same : n ≡ m = let y = x.1 in cc in let number = ap (λ (k : Attempt). k.0) same in absurd (omega arith)) (λ (x : (u ≢ t) × (get_elem? cells u ≡ some (Armed m))). x.1) (a_before u (Armed m) e)

    a_win : (t' : ℕ) (m : Attempt) (b : By) → WinStands cells now t' m b → WinStands armed_cells (armed_with now t n) t' m b
    a_win t' m b w = record {
      sent = w.sent;
      unarmed = λ u e. w.unarmed u (a_armed u m (fresh.above_sent t' m w.sent) e);
      stands = ⊎_elim (λ (x : get_elem? cells t' ≡ some (claimed_word m b)). inl (a_elsewhere t' m b x)) (λ x. inr x) w.stands;
      same_word = λ u c e. w.same_word u c (a_marked u m c e);
      same_shown = w.same_shown;
      same_owned = w.same_owned;
    }

    a_loss : (t' : ℕ) (m : Attempt) (w : WordSeen) (seen : Journal) → IsPrefix seen now.base → LossStands cells seen t' m w → LossStands armed_cells seen t' m w
    a_loss t' m w seen p l = (l.0, l.1, λ e. l.2 (a_armed t' m (fresh.above_sent t' m (sent_on seen now.base t' m p l.0)) e))

    a_apart : (i j : ℕ) (m : Attempt) (x y : WordSeen) → get_elem? armed_cells i ≡ some x → get_elem? armed_cells j ≡ some y → NumberIs m x → NumberIs m y → i ≡ j
    a_apart i j m x y e e' is is' = each_set (λ k w. NumberIs m w → NumberIs m y → k ≡ j) cells t (Armed n)
        (each_set (λ k w. NumberIs m (Armed n) → NumberIs m w → t ≡ k) cells t (Armed n) (λ _ _. refl)
        (λ k w other e2 a b. let few = below_new k m w e2 b in let number = ap (λ (l : Attempt). l.0) a in absurd (omega arith)) j y e')
        (λ k w other e1 a b. each_set (λ l u. NumberIs m w → NumberIs m u → k ≡ l) cells t (Armed n) (λ a b. let few = below_new k m w e1 a in let number = ap (λ (l : Attempt). l.0) b in absurd (omega arith))
        (λ l u _ e2 a b. o.differ k l m w u e1 e2 a b) j y e' a b)
        i x e is is'

    pub tag_armed : (id : ℕ) (v w : View) → get_elem? views id ≡ some v → w.wins ≡ v.wins → w.losts ≡ v.losts → w.seen ≡ v.seen → ((j : ℕ) (u : View) → get_elem? views j ≡ some u → IsPrefix u.seen now.base)
        → Owners armed_cells (armed_with now t n) (set views id w)
    tag_armed id v w here wins losts seen prefixes = record {
      long = length-set now.hand t (tag.Armed n) ∙ (o.long ∙ sym (length-set cells t (Armed n)));
      fits = λ u f x e e'. ⊎_elim
          (λ (a : (u ≡ t) × (tag.Armed n ≡ f)). ⊎_elim (λ (b : (u ≡ t) × (Armed n ≡ x)). subst (λ (z : TagState × WordSeen). Fits z.0 z.1) (λ i. (a.1 i, b.1 i)) (inl refl)) (λ (b : (u ≢ t) × (get_elem? cells u ≡ some x)). absurd (b.0 a.0)) (a_before u x e'))
          (λ (a : (u ≢ t) × (get_elem? now.hand u ≡ some f)). ⊎_elim (λ (b : (u ≡ t) × (Armed n ≡ x)). absurd (a.0 b.0)) (λ (b : (u ≢ t) × (get_elem? cells u ≡ some x)). o.fits u f x a.1 b.1) (a_before u x e'))
          (at_set now.hand t u (tag.Armed n) f e);
      still = λ u m b h. ⊎_elim (λ (x : In (shows u (claimed_word m b)) now.released). inl x) (λ (x : get_elem? cells u ≡ some (claimed_word m b)). inr (a_elsewhere u m b x)) (o.still u m b h);
      was_shown = o.was_shown;
      gone = λ u m k b x h e is. ⊎_elim
          (λ (y : (k ≡ t) × (Armed n ≡ x)). let old = fresh.above_sent u m (cause_sent now.base u m b (o.caused_shown u m b (o.was_shown u m b h))) in let same : m ≡ n = subst (NumberIs m) (sym y.1) is in let number = ap (λ (k : Attempt). k.0) same in absurd (omega arith))
          (λ (y : (k ≢ t) × (get_elem? cells k ≡ some x)). o.gone u m k b x h y.1 is) (a_before k x e);
      differ = a_apart;
      known = λ u m x e is. ⊎_elim
          (λ (y : (u ≡ t) × (Armed n ≡ x)). let same : m ≡ n = subst (NumberIs m) (sym y.1) is in inr (in_second (arm u m) now.armed (arm t n ∷ []) (inl (λ i. arm (y.0 i) (same i)))))
          (λ (y : (u ≢ t) × (get_elem? cells u ≡ some x)). ⊎_elim (λ s. inl s) (λ (s : In (arm u m) now.armed). inr (in_first (arm u m) now.armed (arm t n ∷ []) s)) (o.known u m x y.1 is)) (a_before u x e);
      unowned = λ u m e b h. o.unowned u m (a_armed u m (fresh.above_owned m b h) e) b h;
      unshown = λ u m e k b h. o.unshown u m (a_armed u m (fresh.above_sent k m (cause_sent now.base k m b (o.caused_shown k m b h))) e) k b h;
      caused = λ u m b e. o.caused u m b (a_marked u m b e);
      caused_shown = o.caused_shown;
      once = λ m. let e : wins_of m w ≡ wins_of m v = ap (has_attempt m) wins in omega (arith, o.once m, total_set (wins_of m) views id v w here);
      each_win = each_set (λ _ u. WinsStand armed_cells (armed_with now t n) u) views id w (λ t' m b h. a_win t' m b (o.each_win id v here t' m b (subst (In (win t' m b)) wins h)))
          (λ j u _ e t' m b h. a_win t' m b (o.each_win j u e t' m b h));
      each_loss = each_set (λ _ u. LossesStand armed_cells u) views id w
          (λ t' m x h. subst (λ (l : Journal). LossStands armed_cells l t' m x) (sym seen) (a_loss t' m x v.seen (prefixes id v here) (o.each_loss id v here t' m x (subst (In (loss t' m x)) losts h))))
          (λ j u _ e t' m x h. a_loss t' m x u.seen (prefixes j u e) (o.each_loss j u e t' m x h));
    }

  -- a look shows the word of a tag
  module _ (t : ℕ) (word : WordSeen) (at : get_elem? cells t ≡ some word) where
    is_word : (u : ℕ) (m : Attempt) (b : By) → shows u (claimed_word m b) ≡ shows t word → get_elem? cells u ≡ some (claimed_word m b)
    is_word u m b e = ap (λ (z : Shown). get_elem? cells z.«tag».0) e ∙ (at ∙ ap (λ (z : Shown). some z.word) (sym e))

    s_win : (t' : ℕ) (m : Attempt) (b : By) → WinStands cells now t' m b → WinStands cells (showing now t word) t' m b
    s_win t' m b w = record {
      sent = w.sent;
      unarmed = w.unarmed;
      stands = ⊎_elim (λ (x : get_elem? cells t' ≡ some (claimed_word m b)). inl x)
          (λ (x : In (shows t' (claimed_word m b)) now.shown ⊎ In (Owned m b) now.base). ⊎_elim (λ (y : In (shows t' (claimed_word m b)) now.shown). inr (inl (in_first _ now.shown (shows t word ∷ []) y))) (λ (y : In (Owned m b) now.base). inr (inr y)) x) w.stands;
      same_word = w.same_word;
      same_shown = λ u c h. ⊎_elim (w.same_shown u c) (λ (e : shows u (claimed_word m c) ≡ shows t word). w.same_word u c (is_word u m c e)) (in_snoc (shows u (claimed_word m c)) now.shown (shows t word) h);
      same_owned = w.same_owned;
    }

    pub word_told : (id : ℕ) (v : View) → get_elem? views id ≡ some v → Looks v now t word
    word_told id v here = record {
      fits = λ had e. o.fits t had word (from_slice now.hand t had e) at;
      caused = λ n by e. o.caused t n by (at ∙ ap some e);
      won = λ n by h. ⊎_elim (λ (x : get_elem? cells t ≡ some (claimed_word n by)). inl (some-injective _ _ (sym at ∙ x))) (λ x. inr x) (o.each_win id v here t n by h).stands;
    }

    pub tag_shown : (id : ℕ) (v w : View) → get_elem? views id ≡ some v → w.wins ≡ v.wins → w.losts ≡ v.losts → w.seen ≡ v.seen → Owners cells (showing now t word) (set views id w)
    tag_shown id v w here wins losts seen = record {
      long = o.long;
      fits = o.fits;
      still = λ u m b h. ⊎_elim (o.still u m b) (λ (e : shows u (claimed_word m b) ≡ shows t word). inr (is_word u m b e)) (in_snoc (shows u (claimed_word m b)) now.shown (shows t word) h);
      was_shown = λ u m b h. in_first (shows u (claimed_word m b)) now.shown (shows t word ∷ []) (o.was_shown u m b h);
      gone = o.gone;
      differ = o.differ;
      known = o.known;
      unowned = o.unowned;
      unshown = λ u m e k b h. ⊎_elim (o.unshown u m e k b) (λ (x : shows k (claimed_word m b) ≡ shows t word). let there = is_word k m b x in let same = o.differ k u m (claimed_word m b) (Armed m) there e (mark_number m b) refl in
          mark_armed m m b (some-injective _ _ (sym there ∙ (ap (get_elem? cells) same ∙ e)))) (in_snoc (shows k (claimed_word m b)) now.shown (shows t word) h);
      caused = o.caused;
      caused_shown = λ u m b h. ⊎_elim (o.caused_shown u m b) (λ (e : shows u (claimed_word m b) ≡ shows t word). o.caused u m b (is_word u m b e)) (in_snoc (shows u (claimed_word m b)) now.shown (shows t word) h);
      once = λ m. let e : wins_of m w ≡ wins_of m v = ap (has_attempt m) wins in omega (arith, o.once m, total_set (wins_of m) views id v w here);
      each_win = each_set (λ _ u. WinsStand cells (showing now t word) u) views id w (λ t' m b h. s_win t' m b (o.each_win id v here t' m b (subst (In (win t' m b)) wins h))) (λ j u _ e t' m b h. s_win t' m b (o.each_win j u e t' m b h));
      each_loss = each_set (λ _ u. LossesStand cells u) views id w (λ t' m x h. subst (λ (l : Journal). LossStands cells l t' m x) (sym seen) (o.each_loss id v here t' m x (subst (In (loss t' m x)) losts h))) (λ j u _. o.each_loss j u);
    }

  -- a claimed tag is released
  module _ (t : ℕ) (n : Attempt) (by : By) (shown : In (shows t (claimed_word n by)) now.shown) (kept_yet : In (shows t (claimed_word n by)) now.released → ⊥) where
    abbrev freed : List WordSeen
    freed = set cells t Free

    abbrev now' : Turn
    now' = released_of now t (claimed_word n by)

    word_is : get_elem? cells t ≡ some (claimed_word n by)
    word_is = ⊎_elim (λ (x : In (shows t (claimed_word n by)) now.released). absurd (kept_yet x)) (λ (x : get_elem? cells t ≡ some (claimed_word n by)). x) (o.still t n by shown)

    r_before : (u : ℕ) (w : WordSeen) → get_elem? freed u ≡ some w → ((u ≡ t) × (Free ≡ w)) ⊎ ((u ≢ t) × (get_elem? cells u ≡ some w))
    r_before u w e = at_set cells t u Free w e

    -- a word with a number is an old one
    r_old : (u : ℕ) (m : Attempt) (w : WordSeen) → get_elem? freed u ≡ some w → NumberIs m w → (u ≢ t) × (get_elem? cells u ≡ some w)
    r_old u m w e is = ⊎_elim (λ (x : (u ≡ t) × (Free ≡ w)). absurd (subst (NumberIs m) (sym x.1) is)) (λ (x : (u ≢ t) × (get_elem? cells u ≡ some w)). x) (r_before u w e)

    -- a claimed word is there still, or it is the one that was released
    r_marked : (u : ℕ) (m : Attempt) (b : By) → get_elem? cells u ≡ some (claimed_word m b) → (get_elem? freed u ≡ some (claimed_word m b)) ⊎ (shows u (claimed_word m b) ≡ shows t (claimed_word n by))
    r_marked u m b e = dite (ℕ_discrete u t) (λ same. inr (λ i. shows (same i) (some-injective _ _ (sym e ∙ (ap (get_elem? cells) same ∙ word_is)) i))) (λ other. inl (set_else cells t u Free other ∙ e))

    r_win : (t' : ℕ) (m : Attempt) (b : By) → WinStands cells now t' m b → WinStands freed now' t' m b
    r_win t' m b w = record {
      sent = w.sent;
      unarmed = λ u e. w.unarmed u (r_old u m (Armed m) e refl).1;
      stands = ⊎_elim (λ (x : get_elem? cells t' ≡ some (claimed_word m b)). ⊎_elim (λ (y : get_elem? freed t' ≡ some (claimed_word m b)). inl y)
          (λ (y : shows t' (claimed_word m b) ≡ shows t (claimed_word n by)). inr (inl (subst (λ (z : Shown). In z now.shown) (sym y) shown))) (r_marked t' m b x)) (λ x. inr x) w.stands;
      same_word = λ u c e. w.same_word u c (r_old u m (claimed_word m c) e (mark_number m c)).1;
      same_shown = w.same_shown;
      same_owned = w.same_owned;
    }

    r_loss : (t' : ℕ) (m : Attempt) (w : WordSeen) (seen : Journal) → LossStands cells seen t' m w → LossStands freed seen t' m w
    r_loss t' m w seen l = (l.0, l.1, λ e. l.2 (r_old t' m (Armed m) e refl).1)

    pub tag_released : (id : ℕ) (v w : View) → get_elem? views id ≡ some v → w.wins ≡ v.wins → w.losts ≡ v.losts → w.seen ≡ v.seen → Owners freed now' (set views id w)
    tag_released id v w here wins losts seen = record {
      long = length-set now.hand t tag.Free ∙ (o.long ∙ sym (length-set cells t Free));
      fits = λ u f x e e'. ⊎_elim
          (λ (a : (u ≡ t) × (tag.Free ≡ f)). ⊎_elim (λ (b : (u ≡ t) × (Free ≡ x)). subst (λ (z : TagState × WordSeen). Fits z.0 z.1) (λ i. (a.1 i, b.1 i)) refl) (λ (b : (u ≢ t) × (get_elem? cells u ≡ some x)). absurd (b.0 a.0)) (r_before u x e'))
          (λ (a : (u ≢ t) × (get_elem? now.hand u ≡ some f)). ⊎_elim (λ (b : (u ≡ t) × (Free ≡ x)). absurd (a.0 b.0)) (λ (b : (u ≢ t) × (get_elem? cells u ≡ some x)). o.fits u f x a.1 b.1) (r_before u x e'))
          (at_set now.hand t u tag.Free f e);
      still = λ u m b h. ⊎_elim (λ (x : In (shows u (claimed_word m b)) now.released). inl (in_first _ now.released (shows t (claimed_word n by) ∷ []) x))
          (λ (x : get_elem? cells u ≡ some (claimed_word m b)). ⊎_elim (λ (y : get_elem? freed u ≡ some (claimed_word m b)). inr y) (λ (y : shows u (claimed_word m b) ≡ shows t (claimed_word n by)). inl (in_second _ now.released (shows t (claimed_word n by) ∷ []) (inl y))) (r_marked u m b x))
          (o.still u m b h);
      was_shown = λ u m b h. ⊎_elim (o.was_shown u m b) (λ (y : shows u (claimed_word m b) ≡ shows t (claimed_word n by)). subst (λ (z : Shown). In z now.shown) (sym y) shown) (in_snoc (shows u (claimed_word m b)) now.released (shows t (claimed_word n by)) h);
      gone = λ u m k b x h e is. let old = r_old k m x e is in ⊎_elim (λ (y : In (shows u (claimed_word m b)) now.released). o.gone u m k b x y old.1 is)
          (λ (y : shows u (claimed_word m b) ≡ shows t (claimed_word n by)). let same = mark_same m n b by (ap (λ (z : Shown). z.word) y) in
          old.0 (o.differ k t m x (claimed_word n by) old.1 word_is is (subst (λ (l : Attempt). NumberIs l (claimed_word n by)) (sym same.0) (mark_number n by)))) (in_snoc (shows u (claimed_word m b)) now.released (shows t (claimed_word n by)) h);
      differ = λ i j m x y e e' is is'. o.differ i j m x y (r_old i m x e is).1 (r_old j m y e' is').1 is is';
      known = λ u m x e is. o.known u m x (r_old u m x e is).1 is;
      unowned = λ u m e. o.unowned u m (r_old u m (Armed m) e refl).1;
      unshown = λ u m e. o.unshown u m (r_old u m (Armed m) e refl).1;
      caused = λ u m b e. o.caused u m b (r_old u m (claimed_word m b) e (mark_number m b)).1;
      caused_shown = o.caused_shown;
      once = λ m. let e : wins_of m w ≡ wins_of m v = ap (has_attempt m) wins in omega (arith, o.once m, total_set (wins_of m) views id v w here);
      each_win = each_set (λ _ u. WinsStand freed now' u) views id w (λ t' m b h. r_win t' m b (o.each_win id v here t' m b (subst (In (win t' m b)) wins h))) (λ j u _ e t' m b h. r_win t' m b (o.each_win j u e t' m b h));
      each_loss = each_set (λ _ u. LossesStand freed u) views id w (λ t' m x h. subst (λ (l : Journal). LossStands freed l t' m x) (sym seen) (r_loss t' m x v.seen (o.each_loss id v here t' m x (subst (In (loss t' m x)) losts h)))) (λ j u _ e t' m x h. r_loss t' m x u.seen (o.each_loss j u e t' m x h));
    }

  -- the turn ends with this state
  module _ (left : Journal) (tags : List TagState) (may : MayLeave now left tags) where
    abbrev after : Turn
    after = begun left tags

    -- an owned attempt was owned before, or its claimed word was shown
    owned_before : {X : Type 0} → (m : Attempt) (b : By) → In (Owned m b) left → (In (Owned m b) now.base → X) → ((u : ℕ) → In (shows u (claimed_word m b)) now.shown → X) → X
    owned_before m b h old new = ⊎_elim old (λ (x : (u : ℕ) × In (shows u (claimed_word m b)) now.shown). new x.0 x.1) (may.owned m b h)

    grown : (x : Entry) → In x now.base → In x left
    grown x h = subst (In x) (sym may.later.1) (in_first x now.base may.later.0 h)

    l_fits : (u : ℕ) (had f : TagState) (x : WordSeen) → TagLeft now.shown u had f → Fits had x → get_elem? cells u ≡ some x → Fits f x
    l_fits u had f x l fit e = ⊎_elim (λ (s : f ≡ had). subst (λ (g : TagState). Fits g x) (sym s) fit)
        (λ (s : (n : Attempt) × (by : By) × (had ≡ tag.Armed n) × (f ≡ tag.Owned n by) × In (shows u (claimed_word n by)) now.shown).
        subst (λ (g : TagState). Fits g x) (sym s.3) (⊎_elim
        (λ (r : In (shows u (claimed_word s.0 s.1)) now.released). absurd (o.gone u s.0 u s.1 x r e (fits_number s.0 x (subst (λ (g : TagState). Fits g x) s.2 fit))))
        (λ (r : get_elem? cells u ≡ some (claimed_word s.0 s.1)). some-injective _ _ (sym e ∙ r)) (o.still u s.0 s.1 s.4))) l

    l_win : (t' : ℕ) (m : Attempt) (b : By) → WinStands cells now t' m b → WinStands cells after t' m b
    l_win t' m b w = record {
      sent = sent_on now.base left t' m may.later w.sent;
      unarmed = w.unarmed;
      stands = ⊎_elim (λ (x : get_elem? cells t' ≡ some (claimed_word m b)). inl x)
          (λ (x : In (shows t' (claimed_word m b)) now.shown ⊎ In (Owned m b) now.base). ⊎_elim
          (λ (y : In (shows t' (claimed_word m b)) now.shown). ⊎_elim (λ (z : In (shows t' (claimed_word m b)) now.released). inr (inr (may.settled t' m b z))) (λ (z : get_elem? cells t' ≡ some (claimed_word m b)). inl z) (o.still t' m b y))
          (λ (y : In (Owned m b) now.base). inr (inr (grown (Owned m b) y))) x) w.stands;
      same_word = w.same_word;
      same_shown = λ u c h. absurd h;
      same_owned = λ c h. owned_before m c h (w.same_owned c) (λ u s. w.same_shown u c s);
    }

    pub turn_left : (id : ℕ) (v w : View) → get_elem? views id ≡ some v → w.wins ≡ v.wins → w.losts ≡ v.losts → IsPrefix v.seen w.seen → Owners cells after (set views id w)
    turn_left id v w here wins losts seen = record {
      long = may.long ∙ o.long;
      fits = λ u f x e e'. let l = may.each_tag u f (to_slice tags u f e) in l_fits u l.0 f x l.2 (o.fits u l.0 x (from_slice now.hand u l.0 l.1) e') e';
      still = λ u m b h. absurd h;
      was_shown = λ u m b h. absurd h;
      gone = λ u m k b x h e is. h;
      differ = o.differ;
      known = λ u m x e is. ⊎_elim (λ (s : HasSent now.base u m). inl (sent_on now.base left u m may.later s)) (λ (s : In (arm u m) now.armed). inl (may.sent u m s)) (o.known u m x e is);
      unowned = λ u m e b h. owned_before m b h (o.unowned u m e b) (λ k s. o.unshown u m e k b s);
      unshown = λ u m e k b h. h;
      caused = λ u m b e. cause_on now.base left u m b may.later (o.caused u m b e);
      caused_shown = λ u m b h. absurd h;
      once = λ m. let e : wins_of m w ≡ wins_of m v = ap (has_attempt m) wins in omega (arith, o.once m, total_set (wins_of m) views id v w here);
      each_win = each_set (λ _ u. WinsStand cells after u) views id w (λ t' m b h. l_win t' m b (o.each_win id v here t' m b (subst (In (win t' m b)) wins h))) (λ j u _ e t' m b h. l_win t' m b (o.each_win j u e t' m b h));
      each_loss = each_set (λ _ u. LossesStand cells u) views id w (λ t' m x h. let l = o.each_loss id v here t' m x (subst (In (loss t' m x)) losts h) in (sent_on v.seen w.seen t' m seen l.0, l.1, l.2)) (λ j u _. o.each_loss j u);
    }

free_at : (n t : ℕ) (w : WordSeen) → get_elem? (replicate n Free) t ≡ some w → Free ≡ w
free_at zero t w e = absurd (some-ne-none w (sym e))
free_at (suc n) zero w e = some-injective Free w e
free_at (suc n) (suc t) w e = free_at n t w e

tag_free_at : (n t : ℕ) (w : TagState) → get_elem? (replicate n tag.Free) t ≡ some w → tag.Free ≡ w
tag_free_at zero t w e = absurd (some-ne-none w (sym e))
tag_free_at (suc n) zero w e = some-injective tag.Free w e
tag_free_at (suc n) (suc t) w e = tag_free_at n t w e

nothing_at : {A : Type 0} (a : A) (P : A → Type 0) → P a → (j : ℕ) (b : A) → get_elem? (a ∷ []) j ≡ some b → P b
nothing_at a P p zero b e = subst P (some-injective a b e) p
nothing_at a P p (suc j) b e = absurd (some-ne-none b (sym e))

pub all_free : (journal : Journal) (n : ℕ) (v : View) → v.wins ≡ [] → v.losts ≡ [] → Owners (replicate n Free) (begun journal (replicate n tag.Free)) (v ∷ [])
all_free journal n v wins losts = record {
  long = length-replicate n tag.Free ∙ sym (length-replicate n Free);
  fits = λ t f w e e'. subst (λ (z : TagState × WordSeen). Fits z.0 z.1) (λ i. (tag_free_at n t f e i, free_at n t w e' i)) refl;
  still = λ t m b h. absurd h;
  was_shown = λ t m b h. absurd h;
  gone = λ t m u b w h e is. h;
  differ = λ t u m x y e e' is is'. absurd (subst (NumberIs m) (sym (free_at n t x e)) is);
  known = λ t m w e is. absurd (subst (NumberIs m) (sym (free_at n t w e)) is);
  unowned = λ t m e b h. subst (NumberIs m) (sym (free_at n t (Armed m) e)) refl;
  unshown = λ t m e u b h. h;
  caused = λ t m b e. absurd (mark_free m b (sym (free_at n t (claimed_word m b) e)));
  caused_shown = λ t m b h. absurd h;
  once = λ m. let z : wins_of m v ≡ 0 = ap (has_attempt m) wins in omega arith;
  each_win = nothing_at v (WinsStand (replicate n Free) (begun journal (replicate n tag.Free))) (λ t m b h. absurd (subst (In (win t m b)) wins h));
  each_loss = nothing_at v (LossesStand (replicate n Free)) (λ t m w h. absurd (subst (In (loss t m w)) losts h));
}
