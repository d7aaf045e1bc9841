-- Each step keeps the rule of the table.
use Rattle.std.proofs.Common.{◌≡◌, ◌≢◌, ℕ, zero, suc, ◌+◌, ◌%◌, ◌^◌, ◌<◌, ◌≤◌, eqb, ⊎_elim, List, [], ◌∷◌, ◌++◌, map, length, get_or, set, replicate, sym, refl, ap, ◌∙◌, subst, arith, Option, Some, None, append_assoc, append-nil, length-append, length-set, eq-eqb, ne_eqb}
use Rattle.std.proofs.Math.Nat.{mod-add-mod}
use Rattle.std.proofs.lemmas.Bool.Decides.{nat_tests}
use Rattle.std.proofs.lemmas.List.{length-replicate}
use mathlib.Core.Logic.{dite}
use mathlib.Core.Option as maybe
use native.Mathlib.Decide.{ℕ_discrete}
use native.Mathlib.Numerals.{unary_clauses}
use lib.ListN.{get_elem?}
use lib.Seq.{set-get_or, map-set}
use prog.Atomic.{either}
use Rattle.atomic_table.specs.Table.{State, Me, step, keeps, takes, gives, stepped, opening, Final, Seen, Allows, Splits, Joins}
use Rattle.atomic_table.proofs.Lists.{set_again, set_else, one_turn, at_snoc}
use Rattle.mid_base.specs.declared.answers.By.{By}
use Rattle.mid_base.specs.declared.answers.TagState.{TagState}
use Rattle.mid_base.specs.declared.answers.TagState.TheVariants as tag
use Rattle.mid_base.specs.declared.entries.Entry.TheVariants.{Owned}
use Rattle.mid_base.specs.declared.names.Attempt.{Attempt}
use Rattle.host_words.specs.declared.words.WordSeen.{WordSeen}
use Rattle.host_words.specs.declared.words.WordSeen.TheVariants.{Free, Armed, Done, Expired}
use Rattle.host_words.specs.declared.view.Origin.{Origin}
use Rattle.host_words.specs.declared.view.Range.{Range}
use Rattle.host_words.specs.declared.view.Stage.{Stage}
use Rattle.host_words.specs.declared.view.Stage.TheVariants.{Away, Waiting, Holding, Leaving}
use Rattle.host_words.specs.declared.view.Turn.{Turn}
use Rattle.host_words.specs.declared.view.View.{View}
use Rattle.host_words.specs.Journals.{Journal, IsPrefix, In, HasCause}
use Rattle.host_words.specs.Words.{code, claimed_word}
use Rattle.host_words.specs.Places.{covers, covered_by, below, EndBy, AreApart}
use Rattle.host_words.specs.Views.{range, staged, shows, won, lost, begun, turn_of, armed_with, showing, released_of, first_view, left_view, split_left, split_right, grown, joined, spent, total}
use Rattle.host_words.specs.Owners.{Owners, wins_of, OwnersAgree, WonOnce}
use Rattle.host_words.specs.Leaving.{IsNew, MayLeave, IsShownClaimed}
use Rattle.host_words.specs.Looks.{Looks}
use Rattle.host_words.specs.Hosted.{share_of, drawn_by, tickets, held_by, turns, Has, IsOf, HasTags, Knows, Home, Hosted}
use Rattle.host_words.specs.Tells.{drew, armed, showed, freed, claimed, Claimed, looked, sealed, counted}
use Rattle.host_words.proofs.Totals.{total_set, total_snoc, total_le, total_none, each_set, each_snoc, covers-append}
use Rattle.host_words.proofs.Owning.{same_knowledge, newcomer_knows, joined_knowledge, claim_won, claim_lost, tag_armed, tag_shown, tag_released, turn_left, all_free, cause_on, cause_sent, mark_same, same_attempt, in_first, in_snoc, in_either, word_told}

pub prefix_refl : (xs : Journal) → IsPrefix xs xs
prefix_refl xs = ([], sym (append-nil xs))

pub prefix_trans : (xs ys zs : Journal) → IsPrefix xs ys → IsPrefix ys zs → IsPrefix xs zs
prefix_trans xs ys zs p q = (p.0 ++ q.0, q.1 ∙ (ap (λ l. l ++ q.0) p.1 ∙ append_assoc xs p.0 q.0))

pub prefix_length : (xs ys : Journal) → IsPrefix xs ys → length xs ≤ length ys
prefix_length xs ys p = omega (arith, ap length p.1, length-append xs p.0)

pub grown_first : (xs ys : Journal) → IsPrefix xs (grown xs ys)
grown_first [] ys = (ys, refl)
grown_first (x ∷ xs) [] = ([], sym (append-nil (x ∷ xs)))
grown_first (x ∷ xs) (y ∷ ys) = let rest = grown_first xs ys in (rest.0, ap (λ l. x ∷ l) rest.1)

-- of two beginnings of one list, the first grown by the second begins it, and begins with the second
pub grown_of : (xs ys zs : Journal) → IsPrefix xs zs → IsPrefix ys zs → IsPrefix (grown xs ys) zs × IsPrefix ys (grown xs ys)
grown_of [] ys zs p q = (q, prefix_refl ys)
grown_of (x ∷ xs) [] zs p q = (p, (x ∷ xs, refl))
grown_of (x ∷ xs) (y ∷ ys) [] p q = absurd (let e = p.1 in cc)
grown_of (x ∷ xs) (y ∷ ys) (z ∷ zs) p q =
    let a : zs ≡ xs ++ p.0 = let e = p.1 in cc in
    let b : zs ≡ ys ++ q.0 = let e = q.1 in cc in
    let here : z ≡ x = let e = p.1 in cc in
    let same : y ≡ x = let e = p.1 in let f = q.1 in cc in
    let rest = grown_of xs ys zs (p.0, a) (q.0, b) in
    ((rest.0.0, λ i. here i ∷ rest.0.1 i), (rest.1.0, λ i. sym same i ∷ rest.1.1 i))

ends_on : (a b : ℕ) (ranges : List Range) → a ≤ b → EndBy a ranges → EndBy b ranges
ends_on a b ranges up ends r h = let e = ends r h in (e.0, omega (arith, e.1))

ends_more : (a b : ℕ) (ranges : List Range) → a ≤ b → EndBy a ranges → EndBy b (ranges ++ range a b ∷ [])
ends_more a b ranges up ends r h = ⊎_elim (ends_on a b ranges up ends r)
    (λ (e : r ≡ range a b). subst (λ (x : Range). (x.from ≤ x.to) × (x.to ≤ b)) (sym e) (up, omega arith)) (in_snoc r ranges (range a b) h)

ends_both : (a : ℕ) (rs ss : List Range) → EndBy a rs → EndBy a ss → EndBy a (rs ++ ss)
ends_both a rs ss p q r h = ⊎_elim (p r) (q r) (in_either r rs ss h)

below_one : (p end : ℕ) → below p end ≤ 1
below_one p end = grind (arith, nat_tests)

abbrev left_or : Stage → Journal
left_or (Leaving t u l) = l
left_or _ = []

abbrev lies_or : {S : Type 0} → S → List (ℕ × Option S) → S
lies_or d [] = d
lies_or d (x ∷ xs) = elim x.1 [ Some y ↦ y | None ↦ d ]

abbrev number_or : Stage → ℕ
number_or (Holding t u) = t
number_or (Leaving t u l) = t
number_or _ = 0

module _ (served drawn : ℕ) (now : Turn) where
  knows_more : (st : Stage) → Knows served drawn now st → Knows served (drawn + 1) now st
  knows_more Away k = tt
  knows_more (Waiting t) k = omega arith
  knows_more (Holding t u) k = let a = k.1 in (k.0, omega arith, k.2)
  knows_more (Leaving t u l) k = let a = k.1 in (k.0, omega arith, k.2)

  has_below : (t : ℕ) (st : Stage) → Knows served drawn now st → Has t st → t < drawn
  has_below t Away k h = absurd h
  has_below t (Waiting u) k h = omega arith
  has_below t (Holding u w) k h = let a = k.1 in omega arith
  has_below t (Leaving u w l) k h = let a = k.1 in omega arith

  -- who does not have the number that is served knows nothing of the turn
  knows_other : (now' : Turn) (st : Stage) → (Has served st → ⊥) → Knows served drawn now st → Knows served drawn now' st
  knows_other now' Away not k = tt
  knows_other now' (Waiting t) not k = k
  knows_other now' (Holding t u) not k = absurd (not (sym k.0))
  knows_other now' (Leaving t u l) not k = absurd (not (sym k.0))

  -- one number is served, and the others wait on
  knows_next : (now' : Turn) (st : Stage) → (Has served st → ⊥) → Knows served drawn now st → Knows (served + 1) drawn now' st
  knows_next now' Away not k = tt
  knows_next now' (Waiting t) not k = let a = k.0 in let other : served ≢ t = λ e. not e in (omega arith, k.1)
  knows_next now' (Holding t u) not k = absurd (not (sym k.0))
  knows_next now' (Leaving t u l) not k = absurd (not (sym k.0))

  -- who has no turn while the number t is served, unless it has that number
  no_turn : (st : Stage) → Knows served drawn now st → (Has served st → ⊥) → held_by st ≡ 0
  no_turn Away k not = refl
  no_turn (Waiting t) k not = refl
  no_turn (Holding t u) k not = absurd (not (sym k.0))
  no_turn (Leaving t u l) k not = absurd (not (sym k.0))

get_two : (a b : ℕ) (l : List ℕ) (t : ℕ) → get_or (a ∷ b ∷ l) (t + 2) 0 ≡ get_or l t 0
get_two a b l t = simp unary_clauses

set_two : (a b : ℕ) (l : List ℕ) (t x : ℕ) → set (a ∷ b ∷ l) (t + 2) x ≡ a ∷ b ∷ set l t x
set_two a b l t x = simp unary_clauses

at_place : {A : Type 0} (l : List A) (t : ℕ) → t < length l → (a : A) × (get_elem? l t ≡ maybe.some a)
at_place [] t h = absurd (omega arith)
at_place (x ∷ xs) zero h = (x, refl)
at_place (x ∷ xs) (suc t) h = at_place xs t (omega arith)

pub place_below : {A : Type 0} (l : List A) (t : ℕ) (a : A) → get_elem? l t ≡ maybe.some a → t < length l
place_below [] t a e = absurd (maybe.some-ne-none a (sym e))
place_below (x ∷ xs) zero a e = omega arith
place_below (x ∷ xs) (suc t) a e = omega (arith, place_below xs t a e)

get_code : (l : List WordSeen) (t : ℕ) (w : WordSeen) → get_elem? l t ≡ maybe.some w → get_or (map code l) t 0 ≡ code w
get_code [] t w e = absurd (maybe.some-ne-none w (sym e))
get_code (x ∷ xs) zero w e = ap code (maybe.some-injective x w e)
get_code (x ∷ xs) (suc t) w e = get_code xs t w e

pub code_same : (v w : WordSeen) → code v ≡ code w → v ≡ w
code_same Free Free e = refl
code_same Free (Armed n) e = absurd (omega arith)
code_same Free (Done n) e = absurd (omega arith)
code_same Free (Expired n) e = absurd (omega arith)
code_same (Armed m) Free e = absurd (omega arith)
code_same (Armed m) (Armed n) e = ap Armed (same_attempt m n (omega arith))
code_same (Armed m) (Done n) e = absurd (omega arith)
code_same (Armed m) (Expired n) e = absurd (omega arith)
code_same (Done m) Free e = absurd (omega arith)
code_same (Done m) (Armed n) e = absurd (omega arith)
code_same (Done m) (Done n) e = ap Done (same_attempt m n (omega arith))
code_same (Done m) (Expired n) e = absurd (omega arith)
code_same (Expired m) Free e = absurd (omega arith)
code_same (Expired m) (Armed n) e = absurd (omega arith)
code_same (Expired m) (Done n) e = absurd (omega arith)
code_same (Expired m) (Expired n) e = ap Expired (same_attempt m n (omega arith))

same_claim : (t t' : ℕ) (n n' : Attempt) (by by' : By) → t + 2 ≡ t' + 2 → code (Armed n) ≡ code (Armed n') → code (claimed_word n by) ≡ code (claimed_word n' by') → ◌≡◌ {A = ℕ × (Attempt × By)} (t, (n, by)) (t', (n', by'))
same_claim t t' n n' by by' e1 e2 e3 =
    let a : t ≡ t' = omega arith in
    let m = mark_same n n' by by' (code_same (claimed_word n by) (claimed_word n' by') e3) in
    λ i. (a i, (m.0 i, m.1 i))

-- a claim leaves the stage and the share of its seat
pub claim_keeps : (v v' : View) (t : ℕ) (n : Attempt) (by : By) (w : WordSeen) → Claimed v t n by w v' → (v'.stage ≡ v.stage) × (v'.share ≡ v.share) × (v'.tags ≡ v.tags)
claim_keeps v v' t n by w c = dite (ℕ_discrete (code w) (code (Armed n)))
    (λ hit. let k = c.0 (code_same w (Armed n) hit) in (ap (λ (x : View). x.stage) k, ap (λ (x : View). x.share) k, ap (λ (x : View). x.tags) k))
    (λ miss. let k = c.1 (λ e. miss (ap code e)) in (ap (λ (x : View). x.stage) k, ap (λ (x : View). x.share) k, ap (λ (x : View). x.tags) k))

either_hit : (x old new : ℕ) → x ≡ old → either (eqb x old) new x ≡ new
either_hit x old new e = ap (λ b. either b new x) (eq-eqb x old e)

either_miss : (x old new : ℕ) → x ≢ old → either (eqb x old) new x ≡ x
either_miss x old new e = ap (λ b. either b new x) (ne_eqb x old e)

few_drawn : (st : Stage) → drawn_by st ≤ 1
few_drawn Away = omega arith
few_drawn (Waiting t) = omega arith
few_drawn (Holding t u) = omega arith
few_drawn (Leaving t u l) = omega arith

few_held : (st : Stage) → held_by st ≤ drawn_by st
few_held Away = omega arith
few_held (Waiting t) = omega arith
few_held (Holding t u) = omega arith
few_held (Leaving t u l) = omega arith

map_replicate : (n : ℕ) → map code (replicate {A = WordSeen} n Free) ≡ replicate {A = ℕ} n 0
map_replicate zero = refl
map_replicate (suc n) = ap (λ l. 0 ∷ l) (map_replicate n)

only : (j : ℕ) (a v : View) (k : ℕ) (w : View) → get_elem? (a ∷ []) j ≡ maybe.some v → get_elem? (a ∷ []) k ≡ maybe.some w → j ≡ k
only zero a v zero w e e' = refl
only zero a v (suc k) w e e' = absurd (maybe.some-ne-none w (sym e'))
only (suc j) a v k w e e' = absurd (maybe.some-ne-none v (sym e))

abbrev Apart : List View → Type 0
Apart vs = (j k t : ℕ) (v w : View) → get_elem? vs j ≡ maybe.some v → get_elem? vs k ≡ maybe.some w → Has t v.stage → Has t w.stage → j ≡ k

apart_set : (vs : List View) (me : ℕ) (w : View) → Apart vs → ((k t : ℕ) (u : View) → k ≢ me → get_elem? vs k ≡ maybe.some u → Has t w.stage → Has t u.stage → ⊥) → Apart (set vs me w)
apart_set vs me w old new j k t v u at_j at_k = each_set (λ i x. Has t x.stage → Has t u.stage → i ≡ k) vs me w
    (each_set (λ i x. Has t w.stage → Has t x.stage → me ≡ i) vs me w (λ _ _. refl) (λ i x other e h g. absurd (new i t x other e h g)) k u at_k)
    (λ i x other e. each_set (λ l y. Has t x.stage → Has t y.stage → i ≡ l) vs me w (λ h g. absurd (new i t x other e g h)) (λ l y _ e'. old i l t x y e e') k u at_k)
    j v at_j

-- a view that keeps its stage keeps its number
apart_same : (vs : List View) (me : ℕ) (v w : View) → get_elem? vs me ≡ maybe.some v → ((t : ℕ) → Has t w.stage → Has t v.stage) → Apart vs → Apart (set vs me w)
apart_same vs me v w at same old = apart_set vs me w old (λ k t u other e h g. other (old k me t u v e at g (same t h)))

apart_snoc : (vs : List View) (w : View) → ((t : ℕ) → Has t w.stage → ⊥) → Apart vs → Apart (vs ++ w ∷ [])
apart_snoc vs w none_there old j k t v u at_j at_k h g = ⊎_elim
    (λ (e : get_elem? vs j ≡ maybe.some v). ⊎_elim (λ (e' : get_elem? vs k ≡ maybe.some u). old j k t v u e e' h g) (λ (e' : w ≡ u). absurd (none_there t (subst (λ (x : View). Has t x.stage) (sym e') g))) (at_snoc vs w u k at_k))
    (λ (e : w ≡ v). absurd (none_there t (subst (λ (x : View). Has t x.stage) (sym e) h)))
    (at_snoc vs w v j at_j)

module _ {S : Type 0} (origin_of : S → Origin) (journal_of : S → Journal) (tags_of : S → List TagState) (about : Origin) (tags : ℕ) where
  abbrev Rule : State (Option S) View → Type 0
  Rule = Hosted origin_of journal_of tags_of about tags

  waiting_few : (s : State (Option S) View) (r : Rule s) → r.drawn ≤ r.served + 65536
  waiting_few s r = let few = total_le tickets share_of s.views r.backed in let a = r.counts in let b = r.shares in omega arith

  found_home : (now : Turn) (holders : ℕ) (h : maybe.Option (Option S)) → Home origin_of journal_of tags_of about now holders h → holders ≡ 0 → (x : S) × (h ≡ maybe.some (Some x)) × (origin_of x ≡ about) × (now ≡ begun (journal_of x) (tags_of x))
  found_home now holders (maybe.some (Some x)) is zero_held = (x, refl, is.0, is.1)
  found_home now holders (maybe.some None) is zero_held = absurd is
  found_home now holders maybe.none is zero_held = absurd (omega arith)

  one_holder : (now : Turn) (holders : ℕ) (h : maybe.Option (Option S)) → Home origin_of journal_of tags_of about now holders h → 0 < holders → (holders ≡ 1) × (h ≡ maybe.none)
  one_holder now holders (maybe.some (Some x)) is some_held = let none_held = is.2 in absurd (omega arith)
  one_holder now holders (maybe.some None) is some_held = absurd is
  one_holder now holders maybe.none is some_held = (is, refl)

  hand_size : (s : State (Option S) View) (r : Rule s) → length r.now.hand ≡ tags
  hand_size s r = r.owners.long ∙ r.sized

  ranges_apart : (s : State (Option S) View) (r : Rule s) (id : ℕ) (v : View) → get_elem? s.views id ≡ maybe.some v → AreApart v.mine (length r.now.base)
  ranges_apart s r id v at = record {
    once = λ p. omega (arith, r.once p, total_set (covered_by p) s.views id v spent at, below_one p (length r.now.base));
    within = r.each_range id v at;
  }

  pub draws : (slots id : ℕ) (me : Me (Option S) View) → me.0.stage ≡ Away → me.0.share ≢ 0 → Allows Rule slots id me 0 (λ n. (n + 1) % 2 ^ 64) (drew (step slots 0 1 0 maybe.none) me)
  draws slots id me away some_share s r _ at _ =
      let w : View = staged me.0 (Waiting r.drawn) in
      let counts = r.counts in
      let none_yet : tickets me.0 ≡ 0 = ap drawn_by away in
      let no_turn_yet : turns me.0 ≡ 0 = ap held_by away in
      let sums = total_set tickets s.views id me.0 w at in
      let shares = total_set share_of s.views id me.0 w at in
      let held : total turns (set s.views id w) ≡ total turns s.views = omega (arith, total_set turns s.views id me.0 w at) in
      let all = r.shares in
      let number : get_or s.words 0 0 ≡ r.drawn % 2 ^ 64 = ap (λ (ws : List ℕ). get_or ws 0 0) r.words_are in (
        w,
        keeps,
        tt,
        record {
          served = r.served;
          drawn = r.drawn + 1;
          now = r.now;
          home = r.home;
          cells = r.cells;
          sized = r.sized;
          words_are = ap (λ (ws : List ℕ). set ws 0 ((get_or ws 0 0 + 1) % 2 ^ 64)) r.words_are ∙ ap (λ (n : ℕ). n ∷ (r.served % 2 ^ 64) ∷ map code r.cells) (mod-add-mod r.drawn (2 ^ 64) 1);
          slot_is = r.slot_is;
          at_home = subst (λ (n : ℕ). Home origin_of journal_of tags_of about r.now n r.home) (sym held) r.at_home;
          counts = omega arith;
          shares = omega arith;
          apart = apart_set s.views id w r.apart (λ k t u _ e h g. let under = has_below r.served r.drawn r.now t u.stage (r.each_seat k u e) g in absurd (omega arith));
          backed = each_set (λ _ v. tickets v ≤ v.share) s.views id w (omega arith) (λ j v _. r.backed j v);
          each_origin = each_set (λ _ v. IsOf about v) s.views id w (r.each_origin id me.0 at) (λ j v _. r.each_origin j v);
          each_tags = each_set (λ _ v. HasTags tags v) s.views id w (r.each_tags id me.0 at) (λ j v _. r.each_tags j v);
          each_seen = each_set (λ _ v. IsPrefix v.seen r.now.base) s.views id w (r.each_seen id me.0 at) (λ j v _. r.each_seen j v);
          each_seat = each_set (λ _ v. Knows r.served (r.drawn + 1) r.now v.stage) s.views id w (omega arith) (λ j v _ e. knows_more r.served r.drawn r.now v.stage (r.each_seat j v e));
          each_range = each_set (λ _ v. EndBy (length r.now.base) v.mine) s.views id w (r.each_range id me.0 at) (λ j v _. r.each_range j v);
          once = λ p. omega (arith, r.once p, total_set (covered_by p) s.views id me.0 w at);
          owners = same_knowledge r.cells r.now s.views r.owners id me.0 w at refl refl refl;
        },
        (refl, (r.drawn, number, refl)),
      )

  pub looks : (slots id : ℕ) (me : Me (Option S) View) (t : ℕ) → me.0.stage ≡ Waiting t → me.0.share ≢ 0 → Allows Rule slots id me 1 (λ n. n) (looked origin_of journal_of tags_of (step slots 1 0 0 maybe.none) me)
  looks slots id me t is some_share s r _ at _ = dite (ℕ_discrete (get_or s.words 1 0) (t % 2 ^ 64))
      (λ hit.
      let k = subst (Knows r.served r.drawn r.now) is (r.each_seat id me.0 at) in
      let few = waiting_few s r in
      let word_is : get_or s.words 1 0 ≡ r.served % 2 ^ 64 = ap (λ (ws : List ℕ). get_or ws 1 0) r.words_are in
      let served_is : r.served ≡ t = one_turn r.served t (2 ^ 64) k.0 (omega arith) (sym word_is ∙ hit) in
      let mine : Has r.served me.0.stage = subst (Has r.served) (sym is) served_is in
      let none_mine : turns me.0 ≡ 0 = ap held_by is in
      let idle : total turns s.views ≡ 0 = total_none turns s.views (λ j v e. dite (ℕ_discrete j id)
      (λ same. ap turns (maybe.some-injective v me.0 (sym e ∙ (ap (get_elem? s.views) same ∙ at))) ∙ none_mine)
      (λ other. no_turn r.served r.drawn r.now v.stage (r.each_seat j v e) (λ h. other (r.apart j id r.served v me.0 e at h mine)))) in
      let x = found_home r.now (total turns s.views) r.home r.at_home idle in
      let w : View = staged me.0 (Holding t (begun (journal_of x.0) (tags_of x.0))) in
      let one : tickets me.0 ≡ 1 = ap drawn_by is in
      let sums = total_set tickets s.views id me.0 w at in
      let shares = total_set share_of s.views id me.0 w at in
      let counts = r.counts in
      let all = r.shares in
      let there : s.homes ≡ maybe.some (Some x.0) ∷ [] = r.slot_is ∙ ap (λ h. h ∷ []) x.1 in (
        w,
        takes 0 (Some x.0),
        ap (λ hs. get_elem? hs 0) there,
        subst (λ (ws : List ℕ). Rule record { words = ws; homes = set s.homes 0 maybe.none; views = set s.views id w }) (sym (set-get_or s.words 1 0)) record {
          served = r.served;
          drawn = r.drawn;
          now = r.now;
          home = maybe.none;
          cells = r.cells;
          sized = r.sized;
          words_are = r.words_are;
          slot_is = ap (λ hs. set hs 0 maybe.none) there;
          at_home = omega (arith, total_set turns s.views id me.0 w at);
          counts = omega arith;
          shares = omega arith;
          apart = apart_same s.views id me.0 w at (λ n h. subst (Has n) (sym is) h) r.apart;
          backed = each_set (λ _ v. tickets v ≤ v.share) s.views id w (omega arith) (λ j v _. r.backed j v);
          each_origin = each_set (λ _ v. IsOf about v) s.views id w (r.each_origin id me.0 at) (λ j v _. r.each_origin j v);
          each_tags = each_set (λ _ v. HasTags tags v) s.views id w (r.each_tags id me.0 at) (λ j v _. r.each_tags j v);
          each_seen = each_set (λ _ v. IsPrefix v.seen r.now.base) s.views id w (r.each_seen id me.0 at) (λ j v _. r.each_seen j v);
          each_seat = each_set (λ _ v. Knows r.served r.drawn r.now v.stage) s.views id w (sym served_is, k.1, sym x.3) (λ j v _. r.each_seat j v);
          each_range = each_set (λ _ v. EndBy (length r.now.base) v.mine) s.views id w (r.each_range id me.0 at) (λ j v _. r.each_range j v);
          once = λ p. omega (arith, r.once p, total_set (covered_by p) s.views id me.0 w at);
          owners = same_knowledge r.cells r.now s.views r.owners id me.0 w at refl refl refl;
        },
        λ t' is'. let same : t' ≡ t = cc in (
          λ _. (
            x.0,
            refl,
            ap Some x.2 ∙ sym (r.each_origin id me.0 at (omega arith)),
            ap (λ (n : ℕ). staged me.0 (Holding n (begun (journal_of x.0) (tags_of x.0)))) (sym same),
            subst (IsPrefix me.0.seen) (ap (λ (u : Turn). u.base) x.3) (r.each_seen id me.0 at),
            subst (OwnersAgree me.0) (ap (λ (u : Turn). u.base) x.3) (λ i n b c h. (r.owners.each_win id me.0 at i n b h).same_owned c),
            sym (ap (λ (u : Turn). length u.hand) x.3) ∙ (hand_size s r ∙ sym (r.each_tags id me.0 at (omega arith))),
            subst (λ (l : Journal). AreApart me.0.mine (length l)) (ap (λ (u : Turn). u.base) x.3) (ranges_apart s r id me.0 at),
          ),
          λ miss. absurd (miss (hit ∙ ap (λ (n : ℕ). n % 2 ^ 64) (sym same))),
        ),
      ))
      (λ miss. (
        me.0,
        keeps,
        tt,
        subst (λ (x : List ℕ × List View). Rule record { words = x.0; homes = s.homes; views = x.1 }) (λ i. (sym (set-get_or s.words 1 0) i, sym (set_again s.views id me.0 at) i)) r,
        λ t' is'. let same : t' ≡ t = cc in (λ hit. absurd (miss (hit ∙ ap (λ (n : ℕ). n % 2 ^ 64) same)), λ _. refl),
      ))

  pub seals : (slots id : ℕ) (me : Me (Option S) View) (t : ℕ) (u : Turn) (x : S) → me.0.stage ≡ Holding t u → me.1 ≡ (0, Some x) ∷ []
      → Allows Rule slots id me 1 (λ n. n) (sealed journal_of (step slots 1 0 0 maybe.none) me)
  seals slots id me t u x is has s r _ at _ =
      let w : View = staged me.0 (Leaving t u (journal_of x)) in
      let k = subst (Knows r.served r.drawn r.now) is (r.each_seat id me.0 at) in
      let one : tickets me.0 ≡ 1 = ap drawn_by is in
      let one_turn_mine : turns me.0 ≡ 1 = ap held_by is in
      let sums = total_set tickets s.views id me.0 w at in
      let shares = total_set share_of s.views id me.0 w at in
      let held : total turns (set s.views id w) ≡ total turns s.views = omega (arith, total_set turns s.views id me.0 w at) in
      let counts = r.counts in
      let all = r.shares in
      let backed = r.backed id me.0 at in (
        w,
        keeps,
        tt,
        subst (λ (ws : List ℕ). Rule record { words = ws; homes = s.homes; views = set s.views id w }) (sym (set-get_or s.words 1 0)) record {
          served = r.served;
          drawn = r.drawn;
          now = r.now;
          home = r.home;
          cells = r.cells;
          sized = r.sized;
          words_are = r.words_are;
          slot_is = r.slot_is;
          at_home = subst (λ (n : ℕ). Home origin_of journal_of tags_of about r.now n r.home) (sym held) r.at_home;
          counts = omega arith;
          shares = omega arith;
          apart = apart_same s.views id me.0 w at (λ n h. subst (Has n) (sym is) h) r.apart;
          backed = each_set (λ _ v. tickets v ≤ v.share) s.views id w (omega arith) (λ j v _. r.backed j v);
          each_origin = each_set (λ _ v. IsOf about v) s.views id w (r.each_origin id me.0 at) (λ j v _. r.each_origin j v);
          each_tags = each_set (λ _ v. HasTags tags v) s.views id w (r.each_tags id me.0 at) (λ j v _. r.each_tags j v);
          each_seen = each_set (λ _ v. IsPrefix v.seen r.now.base) s.views id w (r.each_seen id me.0 at) (λ j v _. r.each_seen j v);
          each_seat = each_set (λ _ v. Knows r.served r.drawn r.now v.stage) s.views id w k (λ j v _. r.each_seat j v);
          each_range = each_set (λ _ v. EndBy (length r.now.base) v.mine) s.views id w (r.each_range id me.0 at) (λ j v _. r.each_range j v);
          once = λ p. omega (arith, r.once p, total_set (covered_by p) s.views id me.0 w at);
          owners = same_knowledge r.cells r.now s.views r.owners id me.0 w at refl refl refl;
        },
        (
          refl,
          λ t' u' x' is' has'.
              let same_t : t' ≡ t = sym (ap number_or (sym is ∙ is')) in
              let same_u : u' ≡ u = sym (ap turn_of (sym is ∙ is')) in
              let same_x : x' ≡ x = sym (ap (lies_or x) (sym has ∙ has')) in
              λ i. staged me.0 (Leaving (sym same_t i) (sym same_u i) (journal_of (sym same_x i))),
        ),
      )

  -- the range from a to b covers the places below b that are not below a
  once_more : (p a b n : ℕ) → a ≤ b → n ≤ below p a → n + covers p (range a b ∷ []) ≤ below p b
  once_more p a b n le few = grind (arith, nat_tests)

  pub ends : (slots id : ℕ) (me : Me (Option S) View) (t : ℕ) (u : Turn) (x : S) → me.0.stage ≡ Leaving t u (journal_of x) → me.1 ≡ (0, Some x) ∷ [] → Some (origin_of x) ≡ me.0.origin → me.0.share ≢ 0
      → MayLeave u (journal_of x) (tags_of x) → Allows Rule slots id me 1 (λ n. (n + 1) % 2 ^ 64) (counted (step slots 1 1 0 maybe.none) me)
  ends slots id me t u x is has spec some_share may_u s r _ at _ =
      let left : Journal = journal_of x in
      let w : View = left_view me.0 u left in
      let k = subst (Knows r.served r.drawn r.now) is (r.each_seat id me.0 at) in
      let may : MayLeave r.now left (tags_of x) = subst (λ (v : Turn). MayLeave v left (tags_of x)) k.2 may_u in
      let grows : IsPrefix r.now.base left = may.later in
      let mine : Has r.served me.0.stage = subst (Has r.served) (sym is) (sym k.0) in
      let one : tickets me.0 ≡ 1 = ap drawn_by is in
      let one_turn_mine : turns me.0 ≡ 1 = ap held_by is in
      let sums = total_set tickets s.views id me.0 w at in
      let shares = total_set share_of s.views id me.0 w at in
      let holds = total_set turns s.views id me.0 w at in
      let out = one_holder r.now (total turns s.views) r.home r.at_home (omega arith) in
      let one_held = out.0 in
      let counts = r.counts in
      let all = r.shares in
      let of_table : origin_of x ≡ about = let e : Some (origin_of x) ≡ Some about = spec ∙ r.each_origin id me.0 at (omega arith) in cc in
      let none_held : total turns (set s.views id w) ≡ 0 = omega arith in
      let from_to : length u.base ≡ length r.now.base = ap (λ (v : Turn). length v.base) k.2 in
      let up = prefix_length r.now.base left grows in
      let seen_grows = prefix_trans me.0.seen r.now.base left (r.each_seen id me.0 at) grows in (
        w,
        gives,
        tt,
        subst (λ (c : List (ℕ × Option S)). Rule (stepped s 1 ((get_or s.words 1 0 + 1) % 2 ^ 64) id c w gives)) (sym has) record {
          served = r.served + 1;
          drawn = r.drawn;
          now = begun left (tags_of x);
          home = maybe.some (Some x);
          cells = r.cells;
          sized = r.sized;
          words_are = ap (λ (ws : List ℕ). set ws 1 ((get_or ws 1 0 + 1) % 2 ^ 64)) r.words_are ∙ ap (λ (n : ℕ). (r.drawn % 2 ^ 64) ∷ n ∷ map code r.cells) (mod-add-mod r.served (2 ^ 64) 1);
          slot_is = ap (λ hs. set hs 0 (maybe.some (Some x))) r.slot_is;
          at_home = (of_table, refl, none_held);
          counts = omega arith;
          shares = omega arith;
          apart = apart_set s.views id w r.apart (λ n u x other e h g. h);
          backed = each_set (λ _ v. tickets v ≤ v.share) s.views id w (omega arith) (λ j v _. r.backed j v);
          each_origin = each_set (λ _ v. IsOf about v) s.views id w (r.each_origin id me.0 at) (λ j v _. r.each_origin j v);
          each_tags = each_set (λ _ v. HasTags tags v) s.views id w (r.each_tags id me.0 at) (λ j v _. r.each_tags j v);
          each_seen = each_set (λ _ v. IsPrefix v.seen left) s.views id w (prefix_refl left) (λ j v _ e. prefix_trans v.seen r.now.base left (r.each_seen j v e) grows);
          each_seat = each_set (λ _ v. Knows (r.served + 1) r.drawn (begun left (tags_of x)) v.stage) s.views id w tt
              (λ j v other e. knows_next r.served r.drawn r.now (begun left (tags_of x)) v.stage (λ h. other (r.apart j id r.served v me.0 e at h mine)) (r.each_seat j v e));
          each_range = each_set (λ _ v. EndBy (length left) v.mine) s.views id w (ends_more (length u.base) (length left) me.0.mine (omega arith) (subst (λ (n : ℕ). EndBy n me.0.mine) (sym from_to) (r.each_range id me.0 at)))
              (λ j v _ e. ends_on (length r.now.base) (length left) v.mine up (r.each_range j v e));
          once = λ p. let more = once_more p (length r.now.base) (length left) (total (covered_by p) s.views) up (r.once p) in
              let same : covers p (range (length u.base) (length left) ∷ []) ≡ covers p (range (length r.now.base) (length left) ∷ []) = ap (λ (n : ℕ). covers p (range n (length left) ∷ [])) from_to in
              omega (arith, total_set (covered_by p) s.views id me.0 w at, covers-append p me.0.mine (range (length u.base) (length left) ∷ []));
          owners = turn_left r.cells r.now s.views r.owners left (tags_of x) may id me.0 w at refl refl seen_grows;
        },
        (
          refl,
          λ t' u' left' is'.
              let same_u : u' ≡ u = sym (ap turn_of (sym is ∙ is')) in
              let same_left : left' ≡ left = sym (ap left_or (sym is ∙ is')) in
              λ i. left_view me.0 (sym same_u i) (sym same_left i),
        ),
      )

  -- A step of one seat on a tag's word
  tag_step : (s : State (Option S) View) (r : Rule s) (id : ℕ) (v w : View) → get_elem? s.views id ≡ maybe.some v → w.origin ≡ v.origin → w.tags ≡ v.tags → w.share ≡ v.share → w.seen ≡ v.seen → w.mine ≡ v.mine
      → drawn_by w.stage ≡ drawn_by v.stage → held_by w.stage ≡ held_by v.stage → ((t : ℕ) → Has t w.stage → Has t v.stage)
      → (now : Turn) (cells : List WordSeen) → now.base ≡ r.now.base → length cells ≡ length r.cells → Home origin_of journal_of tags_of about now (total turns s.views) r.home
      → Knows r.served r.drawn now w.stage → ((j : ℕ) (x : View) → j ≢ id → get_elem? s.views j ≡ maybe.some x → Knows r.served r.drawn now x.stage)
      → Owners cells now (set s.views id w) → Rule record { words = (r.drawn % 2 ^ 64) ∷ (r.served % 2 ^ 64) ∷ map code cells; homes = s.homes; views = set s.views id w }
  tag_step s r id v w at spec same_tags share seen mine drawn held has now cells base long home knows others owners =
      let same_held : total turns (set s.views id w) ≡ total turns s.views = omega (arith, total_set turns s.views id v w at) in
      let counts = r.counts in
      let all = r.shares in
      let backed = r.backed id v at in record {
        served = r.served;
        drawn = r.drawn;
        now = now;
        home = r.home;
        cells = cells;
        sized = long ∙ r.sized;
        words_are = refl;
        slot_is = r.slot_is;
        at_home = subst (λ (n : ℕ). Home origin_of journal_of tags_of about now n r.home) (sym same_held) home;
        counts = omega (arith, total_set tickets s.views id v w at);
        shares = omega (arith, total_set share_of s.views id v w at);
        apart = apart_same s.views id v w at has r.apart;
        backed = each_set (λ _ x. tickets x ≤ x.share) s.views id w (omega arith) (λ j x _. r.backed j x);
        each_origin = each_set (λ _ x. IsOf about x) s.views id w (λ some_share. spec ∙ r.each_origin id v at (omega arith)) (λ j x _. r.each_origin j x);
        each_tags = each_set (λ _ x. HasTags tags x) s.views id w (λ some_share. same_tags ∙ r.each_tags id v at (omega arith)) (λ j x _. r.each_tags j x);
        each_seen = each_set (λ _ x. IsPrefix x.seen now.base) s.views id w (subst (λ (z : Journal × Journal). IsPrefix z.0 z.1) (λ i. (sym seen i, sym base i)) (r.each_seen id v at))
            (λ j x _ e. subst (IsPrefix x.seen) (sym base) (r.each_seen j x e));
        each_seat = each_set (λ _ x. Knows r.served r.drawn now x.stage) s.views id w knows others;
        each_range = each_set (λ _ x. EndBy (length now.base) x.mine) s.views id w (subst (λ (z : List Range × Journal). EndBy (length z.1) z.0) (λ i. (sym mine i, sym base i)) (r.each_range id v at))
            (λ j x _ e. subst (λ (b : Journal). EndBy (length b) x.mine) (sym base) (r.each_range j x e));
        once = λ p. let c : covered_by p w ≡ covered_by p v = ap (covers p) mine in let l : below p (length now.base) ≡ below p (length r.now.base) = ap (λ (b : Journal). below p (length b)) base in omega (arith, r.once p, total_set (covered_by p) s.views id v w at);
        owners = owners;
      }

  -- The same of the seat that has the turn, which changes what it knows of the turn
  turn_step : (s : State (Option S) View) (r : Rule s) (id : ℕ) (v : View) (k : ℕ) (u u' : Turn) → get_elem? s.views id ≡ maybe.some v → v.stage ≡ Holding k u → u'.base ≡ u.base → (cells : List WordSeen) → length cells ≡ length r.cells
      → Owners cells u' (set s.views id (staged v (Holding k u'))) → Rule record { words = (r.drawn % 2 ^ 64) ∷ (r.served % 2 ^ 64) ∷ map code cells; homes = s.homes; views = set s.views id (staged v (Holding k u')) }
  turn_step s r id v k u u' at is base cells long owners =
      let w : View = staged v (Holding k u') in
      let known = subst (Knows r.served r.drawn r.now) is (r.each_seat id v at) in
      let mine : Has r.served v.stage = subst (Has r.served) (sym is) (sym known.0) in
      let one_turn_mine : turns v ≡ 1 = ap held_by is in
      let held : total turns (set s.views id w) ≡ total turns s.views = omega (arith, total_set turns s.views id v w at) in
      let out = one_holder r.now (total turns s.views) r.home r.at_home (omega (arith, total_set turns s.views id v spent at)) in
      tag_step s r id v w at refl refl refl refl refl (sym (ap drawn_by is)) (sym (ap held_by is)) (λ n h. subst (Has n) (sym is) h) u' cells (base ∙ ap (λ (x : Turn). x.base) known.2) long
      (subst (Home origin_of journal_of tags_of about u' (total turns s.views)) (sym out.1) out.0) (known.0, known.1, refl)
      (λ j x other e. knows_other r.served r.drawn r.now u' x.stage (λ h. other (r.apart j id r.served x v e at h mine)) (r.each_seat j x e)) owners

  word_here : (s : State (Option S) View) (r : Rule s) (t : ℕ) (w : WordSeen) → get_elem? r.cells t ≡ maybe.some w → get_or s.words (t + 2) 0 ≡ code w
  word_here s r t w at = ap (λ (ws : List ℕ). get_or ws (t + 2) 0) r.words_are ∙ (get_two (r.drawn % 2 ^ 64) (r.served % 2 ^ 64) (map code r.cells) t ∙ get_code r.cells t w at)

  word_set : (s : State (Option S) View) (r : Rule s) (t : ℕ) (w : WordSeen) → set s.words (t + 2) (code w) ≡ (r.drawn % 2 ^ 64) ∷ (r.served % 2 ^ 64) ∷ map code (set r.cells t w)
  word_set s r t w = ap (λ (ws : List ℕ). set ws (t + 2) (code w)) r.words_are ∙ (set_two (r.drawn % 2 ^ 64) (r.served % 2 ^ 64) (map code r.cells) t (code w) ∙ ap (λ l. (r.drawn % 2 ^ 64) ∷ (r.served % 2 ^ 64) ∷ l) (sym (map-set code r.cells t w)))

  pub claims : (slots id : ℕ) (me : Me (Option S) View) (t : ℕ) (n : Attempt) (by : By) → t < tags → HasCause me.0.seen t n by
      → Allows Rule slots id me (t + 2) (λ x. either (eqb x (code (Armed n))) (code (claimed_word n by)) x) (claimed (step slots (t + 2) (code (Armed n)) (code (claimed_word n by)) maybe.none) me)
  claims slots id me t n by inside cause s r _ at _ =
      let size = r.sized in
      let p = at_place r.cells t (omega arith) in
      let here = word_here s r t p.0 p.1 in
      let x : ℕ = get_or s.words (t + 2) 0 in
      let seen = r.each_seen id me.0 at in
      dite (ℕ_discrete x (code (Armed n)))
      (λ hit.
      let is : p.0 ≡ Armed n = code_same p.0 (Armed n) (sym here ∙ hit) in
      let w : View = won me.0 t n by in (
        w,
        keeps,
        tt,
        subst (λ (b : ℕ). Rule record { words = set s.words (t + 2) b; homes = s.homes; views = set s.views id w }) (sym (either_hit x (code (Armed n)) (code (claimed_word n by)) hit))
            (subst (λ (ws : List ℕ). Rule record { words = ws; homes = s.homes; views = set s.views id w }) (sym (word_set s r t (claimed_word n by)))
            (tag_step s r id me.0 w at refl refl refl refl refl refl refl (λ k h. h) r.now (set r.cells t (claimed_word n by)) refl (length-set r.cells t (claimed_word n by)) r.at_home (r.each_seat id me.0 at) (λ j v _. r.each_seat j v)
            (claim_won r.cells r.now s.views r.owners t n by (p.1 ∙ ap maybe.some is) id me.0 at (cause_on me.0.seen r.now.base t n by seen cause)))),
        (
          refl,
          λ t' n' by' e1 e2 e3. (
            p.0,
            here,
            let same = same_claim t t' n n' by by' e1 e2 e3 in
                subst (λ (z : ℕ × (Attempt × By)). Claimed me.0 z.0 z.1.0 z.1.1 p.0 w) same ((λ _. refl), λ other. absurd (other is), λ b h _. r.owners.unowned t n (p.1 ∙ ap maybe.some is) b (subst (In (Owned n b)) (sym seen.1) (in_first (Owned n b) me.0.seen seen.0 h))),
          ),
        ),
      ))
      (λ miss.
      let other : p.0 ≢ Armed n = λ e. miss (here ∙ ap code e) in
      let w : View = lost me.0 t n p.0 in (
        w,
        keeps,
        tt,
        subst (λ (b : ℕ). Rule record { words = set s.words (t + 2) b; homes = s.homes; views = set s.views id w }) (sym (either_miss x (code (Armed n)) (code (claimed_word n by)) miss))
            (subst (λ (ws : List ℕ). Rule record { words = ws; homes = s.homes; views = set s.views id w }) (sym (set-get_or s.words (t + 2) 0 ∙ r.words_are))
            (tag_step s r id me.0 w at refl refl refl refl refl refl refl (λ k h. h) r.now r.cells refl refl r.at_home (r.each_seat id me.0 at) (λ j v _. r.each_seat j v)
            (claim_lost r.cells r.now s.views r.owners t n p.0 p.1 other id me.0 at (cause_sent me.0.seen t n by cause)))),
        (
          refl,
          λ t' n' by' e1 e2 e3. (
            p.0,
            here,
            let same = same_claim t t' n n' by by' e1 e2 e3 in
                subst (λ (z : ℕ × (Attempt × By)). Claimed me.0 z.0 z.1.0 z.1.1 p.0 w) same ((λ is. absurd (other is)), λ _. refl, λ _ _. other),
          ),
        ),
      ))

  pub arms : (slots id : ℕ) (me : Me (Option S) View) (t : ℕ) (n : Attempt) (k : ℕ) (u : Turn) → me.0.stage ≡ Holding k u → get_elem? u.hand t ≡ maybe.some tag.Free → IsNew u n
      → Allows Rule slots id me (t + 2) (λ _. code (Armed n)) (armed (step slots (t + 2) (code (Armed n)) 0 maybe.none) me)
  arms slots id me t n k u is free new s r _ at _ =
      let w : View = staged me.0 (Holding k (armed_with u t n)) in
      let known = subst (Knows r.served r.drawn r.now) is (r.each_seat id me.0 at) in
      let o : Owners r.cells u s.views = subst (λ (v : Turn). Owners r.cells v s.views) (sym known.2) r.owners in
      let p = at_place r.cells t (subst (λ (m : ℕ). t < m) o.long (place_below u.hand t tag.Free free)) in
      let word : get_elem? r.cells t ≡ maybe.some Free = p.1 ∙ ap maybe.some (o.fits t tag.Free p.0 free p.1) in (
        w,
        keeps,
        tt,
        subst (λ (ws : List ℕ). Rule record { words = ws; homes = s.homes; views = set s.views id w }) (sym (word_set s r t (Armed n)))
            (turn_step s r id me.0 k u (armed_with u t n) at is refl (set r.cells t (Armed n)) (length-set r.cells t (Armed n))
            (tag_armed r.cells u s.views o t n free word new id me.0 w at refl refl refl (λ j v e. subst (IsPrefix v.seen) (sym (ap (λ (v : Turn). v.base) known.2)) (r.each_seen j v e)))),
        (
          refl,
          λ t' n' k' u' is' e1 e2.
              let same_t : t' ≡ t = omega arith in
              let same_n : n' ≡ n = same_attempt n' n (omega arith) in
              let same_k : k' ≡ k = sym (ap number_or (sym is ∙ is')) in
              let same_u : u' ≡ u = sym (ap turn_of (sym is ∙ is')) in
              λ i. staged me.0 (Holding (sym same_k i) (armed_with (sym same_u i) (sym same_t i) (sym same_n i))),
        ),
      )

  pub shows_word : (slots id : ℕ) (me : Me (Option S) View) (t k : ℕ) (u : Turn) → t < tags → me.0.stage ≡ Holding k u → Allows Rule slots id me (t + 2) (λ x. x) (showed (step slots (t + 2) 0 0 maybe.none) me)
  shows_word slots id me t k u inside is s r _ at _ =
      let size = r.sized in
      let p = at_place r.cells t (omega arith) in
      let w : View = staged me.0 (Holding k (showing u t p.0)) in
      let known = subst (Knows r.served r.drawn r.now) is (r.each_seat id me.0 at) in
      let o : Owners r.cells u s.views = subst (λ (v : Turn). Owners r.cells v s.views) (sym known.2) r.owners in
      let told = word_told r.cells u s.views o t p.0 p.1 id me.0 at in (
        w,
        keeps,
        tt,
        subst (λ (ws : List ℕ). Rule record { words = ws; homes = s.homes; views = set s.views id w }) (sym (set-get_or s.words (t + 2) 0 ∙ r.words_are))
            (turn_step s r id me.0 k u (showing u t p.0) at is refl r.cells refl (tag_shown r.cells u s.views o t p.0 p.1 id me.0 w at refl refl refl)),
        (
          refl,
          λ t' k' u' is' e1.
              let same_t : t' ≡ t = omega arith in
              let same_k : k' ≡ k = sym (ap number_or (sym is ∙ is')) in
              let same_u : u' ≡ u = sym (ap turn_of (sym is ∙ is')) in (
                p.0,
                word_here s r t p.0 p.1,
                λ i. staged me.0 (Holding (sym same_k i) (showing (sym same_u i) (sym same_t i) p.0)),
                subst (λ (z : ℕ × Turn). Looks me.0 z.1 z.0 p.0) (λ i. (sym same_t i, sym same_u i)) told,
              ),
        ),
      )

  pub frees : (slots id : ℕ) (me : Me (Option S) View) (t : ℕ) (n : Attempt) (k : ℕ) (by : By) (u : Turn) → me.0.stage ≡ Holding k u → IsShownClaimed u t n by
      → Allows Rule slots id me (t + 2) (λ _. 0) (freed (step slots (t + 2) 0 0 maybe.none) me)
  frees slots id me t n k by u is shown_claimed s r _ at _ =
      let shown = shown_claimed.0 in
      let kept_yet = shown_claimed.1 in
      let w : View = staged me.0 (Holding k (released_of u t (claimed_word n by))) in
      let known = subst (Knows r.served r.drawn r.now) is (r.each_seat id me.0 at) in
      let o : Owners r.cells u s.views = subst (λ (v : Turn). Owners r.cells v s.views) (sym known.2) r.owners in
      let word : get_elem? r.cells t ≡ maybe.some (claimed_word n by) = ⊎_elim (λ x. absurd (kept_yet x)) (λ (x : get_elem? r.cells t ≡ maybe.some (claimed_word n by)). x) (o.still t n by shown) in (
        w,
        keeps,
        tt,
        subst (λ (ws : List ℕ). Rule record { words = ws; homes = s.homes; views = set s.views id w }) (sym (word_set s r t Free))
            (turn_step s r id me.0 k u (released_of u t (claimed_word n by)) at is refl (set r.cells t Free) (length-set r.cells t Free) (tag_released r.cells u s.views o t n by shown kept_yet id me.0 w at refl refl refl)),
        (
          refl,
          λ t' n' k' by' u' is' e1 claimed'.
              let same_t : t' ≡ t = omega arith in
              let same_k : k' ≡ k = sym (ap number_or (sym is ∙ is')) in
              let same_u : u' ≡ u = sym (ap turn_of (sym is ∙ is')) in
              let shown_t : In (shows t (claimed_word n' by')) u.shown = subst (λ (z : ℕ × Turn). In (shows z.0 (claimed_word n' by')) z.1.shown) (λ i. (same_t i, same_u i)) claimed'.0 in
              let kept_t : ¬ In (shows t (claimed_word n' by')) u.released = subst (λ (z : ℕ × Turn). ¬ In (shows z.0 (claimed_word n' by')) z.1.released) (λ i. (same_t i, same_u i)) claimed'.1 in
              let word' : get_elem? r.cells t ≡ maybe.some (claimed_word n' by') = ⊎_elim (λ x. absurd (kept_t x)) (λ (x : get_elem? r.cells t ≡ maybe.some (claimed_word n' by')). x) (o.still t n' by' shown_t) in
              let same_w : claimed_word n by ≡ claimed_word n' by' = maybe.some-injective _ _ (sym word ∙ word') in
              λ i. staged me.0 (Holding (sym same_k i) (released_of (sym same_u i) (sym same_t i) (same_w i))),
        ),
      )

  pub splits : (id : ℕ) (v : View) → 2 ≤ v.share → Splits Rule id v (split_left v) (split_right v)
  splits id v two s r at =
      let l : View = split_left v in
      let w : View = split_right v in
      let vs : List View = set s.views id l in
      let held : total turns (vs ++ w ∷ []) ≡ total turns s.views = omega (arith, total_snoc turns vs w, total_set turns s.views id v l at) in
      let counts = r.counts in
      let all = r.shares in
      let backed = r.backed id v at in
      let has_one : tickets v ≤ 1 = few_drawn v.stage in
      let of_table = r.each_origin id v at (omega arith) in
      let has_tags = r.each_tags id v at (omega arith) in
      record {
        served = r.served;
        drawn = r.drawn;
        now = r.now;
        home = r.home;
        cells = r.cells;
        sized = r.sized;
        words_are = r.words_are;
        slot_is = r.slot_is;
        at_home = subst (λ (n : ℕ). Home origin_of journal_of tags_of about r.now n r.home) (sym held) r.at_home;
        counts = omega (arith, total_snoc tickets vs w, total_set tickets s.views id v l at);
        shares = omega (arith, total_snoc share_of vs w, total_set share_of s.views id v l at);
        apart = apart_snoc vs w (λ t h. h) (apart_same s.views id v l at (λ t h. h) r.apart);
        backed = each_snoc (λ u. tickets u ≤ u.share) vs w (omega arith) (each_set (λ _ u. tickets u ≤ u.share) s.views id l (omega arith) (λ j u _. r.backed j u));
        each_origin = each_snoc (IsOf about) vs w (λ _. of_table) (each_set (λ _ u. IsOf about u) s.views id l (λ _. of_table) (λ j u _. r.each_origin j u));
        each_tags = each_snoc (HasTags tags) vs w (λ _. has_tags) (each_set (λ _ u. HasTags tags u) s.views id l (λ _. has_tags) (λ j u _. r.each_tags j u));
        each_seen = each_snoc (λ u. IsPrefix u.seen r.now.base) vs w (r.each_seen id v at) (each_set (λ _ u. IsPrefix u.seen r.now.base) s.views id l (r.each_seen id v at) (λ j u _. r.each_seen j u));
        each_seat = each_snoc (λ u. Knows r.served r.drawn r.now u.stage) vs w tt (each_set (λ _ u. Knows r.served r.drawn r.now u.stage) s.views id l (r.each_seat id v at) (λ j u _. r.each_seat j u));
        each_range = each_snoc (λ u. EndBy (length r.now.base) u.mine) vs w (λ _ h. absurd h) (each_set (λ _ u. EndBy (length r.now.base) u.mine) s.views id l (r.each_range id v at) (λ j u _. r.each_range j u));
        once = λ p. omega (arith, r.once p, total_snoc (covered_by p) vs w, total_set (covered_by p) s.views id v l at);
        owners = newcomer_knows r.cells r.now vs (same_knowledge r.cells r.now s.views r.owners id v l at refl refl refl) w refl refl;
      }

  pub joins : (id : ℕ) (v : View) (other : ℕ) (w : View) → v.stage ≡ Away → w.stage ≡ Away → v.share ≢ 0 → Joins Rule id v other w (joined v w) spent
  joins id v other w away away' some_share s r at apart there =
      let b : View = joined v w in
      let vs : List View = set s.views id b in
      let at' : get_elem? s.views other ≡ maybe.some w = sym (set_else s.views id other b apart) ∙ there in
      let no_ticket : tickets v ≡ 0 = ap drawn_by away in
      let no_ticket' : tickets w ≡ 0 = ap drawn_by away' in
      let no_turn_here : turns v ≡ 0 = ap held_by away in
      let no_turn_there : turns w ≡ 0 = ap held_by away' in
      let held : total turns (set vs other spent) ≡ total turns s.views = omega (arith, total_set turns vs other w spent there, total_set turns s.views id v b at) in
      let counts = r.counts in
      let all = r.shares in
      let of_table = r.each_origin id v at (omega arith) in
      let has_tags = r.each_tags id v at (omega arith) in
      let both = grown_of v.seen w.seen r.now.base (r.each_seen id v at) (r.each_seen other w at') in
      let seen = both.0 in
      record {
        served = r.served;
        drawn = r.drawn;
        now = r.now;
        home = r.home;
        cells = r.cells;
        sized = r.sized;
        words_are = r.words_are;
        slot_is = r.slot_is;
        at_home = subst (λ (n : ℕ). Home origin_of journal_of tags_of about r.now n r.home) (sym held) r.at_home;
        counts = omega (arith, total_set tickets vs other w spent there, total_set tickets s.views id v b at);
        shares = omega (arith, total_set share_of vs other w spent there, total_set share_of s.views id v b at);
        apart = apart_set vs other spent (apart_set s.views id b r.apart (λ k t u e e' h g. h)) (λ k t u e e' h g. h);
        backed = each_set (λ _ u. tickets u ≤ u.share) vs other spent (omega arith) (λ j u _. each_set (λ _ u. tickets u ≤ u.share) s.views id b (omega arith) (λ j u _. r.backed j u) j u);
        each_origin = each_set (λ _ u. IsOf about u) vs other spent (λ some_there. absurd (omega arith)) (λ j u _. each_set (λ _ u. IsOf about u) s.views id b (λ _. of_table) (λ j u _. r.each_origin j u) j u);
        each_tags = each_set (λ _ u. HasTags tags u) vs other spent (λ some_there. absurd (omega arith)) (λ j u _. each_set (λ _ u. HasTags tags u) s.views id b (λ _. has_tags) (λ j u _. r.each_tags j u) j u);
        each_seen = each_set (λ _ u. IsPrefix u.seen r.now.base) vs other spent (r.now.base, refl) (λ j u _. each_set (λ _ u. IsPrefix u.seen r.now.base) s.views id b seen (λ j u _. r.each_seen j u) j u);
        each_seat = each_set (λ _ u. Knows r.served r.drawn r.now u.stage) vs other spent tt (λ j u _. each_set (λ _ u. Knows r.served r.drawn r.now u.stage) s.views id b tt (λ j u _. r.each_seat j u) j u);
        each_range = each_set (λ _ u. EndBy (length r.now.base) u.mine) vs other spent (λ _ h. absurd h)
            (λ j u _. each_set (λ _ u. EndBy (length r.now.base) u.mine) s.views id b (ends_both (length r.now.base) v.mine w.mine (r.each_range id v at) (r.each_range other w at')) (λ j u _. r.each_range j u) j u);
        once = λ p. omega (arith, r.once p, total_set (covered_by p) vs other w spent there, total_set (covered_by p) s.views id v b at, covers-append p v.mine w.mine);
        owners = joined_knowledge r.cells r.now s.views r.owners id other v w b spent at apart there refl refl (grown_first v.seen w.seen) both.1 refl refl;
      }

  -- with every share in one seat that has no number, no other seat has the turn, and the state is home
  pub closes : (s : State (Option S) View) (r : Rule s) (id : ℕ) (v : View) → get_elem? s.views id ≡ maybe.some v → v.share ≡ 65536 → v.stage ≡ Away
      → (x : S) × (s.homes ≡ maybe.some (Some x) ∷ []) × (origin_of x ≡ about) × IsPrefix v.seen (journal_of x) × OwnersAgree v (journal_of x) × WonOnce v × (v.origin ≡ Some about) × (length (tags_of x) ≡ tags) × AreApart v.mine (length (journal_of x))
  closes s r id v at every away =
      let vs : List View = set s.views id spent in
      let no_turn_here : turns v ≡ 0 = ap held_by away in
      let no_ticket : tickets v ≡ 0 = ap drawn_by away in
      let backed = each_set (λ _ u. tickets u ≤ u.share) s.views id spent (omega arith) (λ j u _. r.backed j u) in
      let few = total_le tickets share_of vs backed in
      let less = total_le turns tickets vs (λ j u _. few_held u.stage) in
      let all = r.shares in
      let idle : total turns s.views ≡ 0 = omega (arith, total_set share_of s.views id v spent at, total_set turns s.views id v spent at) in
      let x = found_home r.now (total turns s.views) r.home r.at_home idle in (
        x.0,
        r.slot_is ∙ ap (λ h. h ∷ []) x.1,
        x.2,
        subst (IsPrefix v.seen) (ap (λ (u : Turn). u.base) x.3) (r.each_seen id v at),
        subst (OwnersAgree v) (ap (λ (u : Turn). u.base) x.3) (λ i n b c h. (r.owners.each_win id v at i n b h).same_owned c),
        λ n. omega (arith, r.owners.once n, total_set (wins_of n) s.views id v spent at),
        r.each_origin id v at (omega arith),
        sym (ap (λ (u : Turn). length u.hand) x.3) ∙ hand_size s r,
        subst (λ (l : Journal). AreApart v.mine (length l)) (ap (λ (u : Turn). u.base) x.3) (ranges_apart s r id v at),
      )

  pub hands_out : (id : ℕ) (v : View) (ws : List ℕ) (ys : List (Option S)) (y : Option S) → Final (Seen Rule id v) ws ys → v.share ≡ 65536 → v.stage ≡ Away → get_elem? ys 0 ≡ maybe.some y
      → (x : S) × (y ≡ Some x) × (origin_of x ≡ about) × IsPrefix v.seen (journal_of x) × OwnersAgree v (journal_of x) × WonOnce v × (v.origin ≡ Some about) × (length (tags_of x) ≡ tags) × AreApart v.mine (length (journal_of x))
  hands_out id v ws ys y f every away there =
      let x = closes f.0 f.1.0 id v f.1.1 every away in
      let lies = f.4 0 (Some x.0) (ap (λ hs. get_elem? hs 0) x.1) in
      (x.0, maybe.some-injective y (Some x.0) (sym there ∙ lies), x.2, x.3, x.4, x.5, x.6, x.7, x.8)

  pub opens : (x : S) → origin_of x ≡ about → tags_of x ≡ replicate tags tag.Free → Rule (opening (0 ∷ 0 ∷ replicate tags 0) (Some x ∷ []) (first_view about tags (journal_of x)))
  opens x is free =
      let v : View = first_view about tags (journal_of x) in record {
        served = 0;
        drawn = 0;
        now = begun (journal_of x) (tags_of x);
        home = maybe.some (Some x);
        cells = replicate tags Free;
        sized = length-replicate tags Free;
        words_are = ap (λ l. 0 ∷ 0 ∷ l) (sym (map_replicate tags));
        slot_is = refl;
        at_home = (is, refl, refl);
        counts = refl;
        shares = refl;
        apart = λ j k t u w e e' h g. only j v u k w e e';
        backed = each_snoc (λ u. tickets u ≤ u.share) [] v (omega arith) (λ j u e. absurd (maybe.some-ne-none u (sym e)));
        each_origin = each_snoc (IsOf about) [] v (λ _. refl) (λ j u e. absurd (maybe.some-ne-none u (sym e)));
        each_tags = each_snoc (HasTags tags) [] v (λ _. refl) (λ j u e. absurd (maybe.some-ne-none u (sym e)));
        each_seen = each_snoc (λ u. IsPrefix u.seen (journal_of x)) [] v (prefix_refl (journal_of x)) (λ j u e. absurd (maybe.some-ne-none u (sym e)));
        each_seat = each_snoc (λ u. Knows 0 0 (begun (journal_of x) (tags_of x)) u.stage) [] v tt (λ j u e. absurd (maybe.some-ne-none u (sym e)));
        each_range = each_snoc (λ u. EndBy (length (journal_of x)) u.mine) [] v (λ _ h. absurd h) (λ j u e. absurd (maybe.some-ne-none u (sym e)));
        once = λ p. omega arith;
        owners = subst (λ (l : List TagState). Owners (replicate tags Free) (begun (journal_of x) l) (v ∷ [])) (sym free) (all_free (journal_of x) tags v refl refl);
      }
