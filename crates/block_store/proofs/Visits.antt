-- One more part of a buffer was visited.
use Rattle.std.proofs.Common.{◌≡◌, ℕ, ◌+◌, ◌≤◌, List, [], ◌∷◌, ◌++◌, length, take, drop, map, sum, sym, refl, ap, ◌∙◌, subst, append_assoc, append-nil, arith, ◌<◌, suc, slice_index_or, replicate}
use Rattle.std.specs.Borrow.{MutBor}
use Rattle.std.specs.Fn.{CalledAtMut}
use Rattle.std.specs.List.{FoldsTo, flat_map}
use Rattle.std.proofs.lemmas.List.{map-append, length-append, length-take-le, length-drop, length-replicate, replicate-append-replicate}
use Rattle.std.proofs.lemmas.List.Sums.{sum_by-append, sum_by-take-le}
use Rattle.std.proofs.lemmas.Grind.{flat_map-append}
use lib.Seq.{drop-drop}
use Rattle.std.proofs.Math.Seq.{take-append_seam, drop-append_seam, take-suc}
use denote.Param.Members.{Mut}
use Rattle.block_store.specs.Parts.{cuts, Visit, VisitsParts}

pub folds_more : {P A : Type 0} (R : P → A → P → Type 0) (p q r : P) (xs : List A) (x : A) → FoldsTo R p xs q → R q x r → FoldsTo R p (xs ++ x ∷ []) r
folds_more R p q r [] x h e = (r, subst (λ z. R z x r) (sym h) e, refl)
folds_more R p q r (y ∷ ys) x h e = (h.0, h.1, folds_more R h.0 q r ys x h.2 e)

pub sum_more : (ns : List ℕ) (n : ℕ) → sum (ns ++ n ∷ []) ≡ sum ns + n
sum_more ns n = let e = sum_by-append (λ x. x) ns (n ∷ []) in omega (arith, e)

sum_first : (m : ℕ) (ms : List ℕ) → m + sum ms ≡ sum (m ∷ ms)
sum_first m ms = let e = sum_by-append (λ x. x) (m ∷ []) ms in omega (arith, e)

pub cuts_more : (ns : List ℕ) (n : ℕ) (bytes : List ℕ) → cuts bytes (ns ++ n ∷ []) ≡ cuts bytes ns ++ take n (drop (sum ns) bytes) ∷ []
cuts_more [] n bytes = refl
cuts_more (m ∷ ms) n bytes =
    ap (λ (l : List (List ℕ)). take m bytes ∷ l) (cuts_more ms n (drop m bytes)
    ∙ ap (λ (l : List ℕ). cuts (drop m bytes) ms ++ take n l ∷ []) (drop-drop (sum ms) m bytes ∙ ap (λ (k : ℕ). drop k bytes) (sum_first m ms)))

sum_lengths : (visits : List Visit) → sum (map (λ (v : Visit). length v.1) visits) ≡ length (flat_map (λ (v : Visit). v.1) visits)
sum_lengths [] = refl
sum_lengths ((x, y) ∷ cs) = sym (sum_first (length y) (map (λ (v : Visit). length v.1) cs)) ∙ ap (λ (k : ℕ). length y + k) (sum_lengths cs) ∙ sym (length-append y (flat_map (λ (v : Visit). v.1) cs))

-- the buffer is what was left in its parts so far, and then what it was
module _ {F : Type 0} (g : Mut F (MutBor (List ℕ) × Unit {0}) (Unit {0} × (MutBor (List ℕ) × Unit {0}))) (old ns : List ℕ) (f f' : F) (buf : List ℕ) (w : VisitsParts g f old ns f' buf) where
  abbrev pub front : List ℕ
  front = flat_map (λ (v : Visit). v.1) w.visits

  long : length front ≡ sum ns
  long = sym (sum_lengths w.visits) ∙ ap sum w.lengths

  pub rest_is : drop (sum ns) buf ≡ drop (sum ns) old
  rest_is = rw w.left (subst (λ (k : ℕ). drop k (front ++ drop (sum ns) old) ≡ drop (sum ns) old) long (drop-append_seam front (drop (sum ns) old)))

  pub front_is : take (sum ns) buf ≡ front
  front_is = rw w.left (subst (λ (k : ℕ). take k (front ++ drop (sum ns) old) ≡ front) long (take-append_seam front (drop (sum ns) old)))

  pub visits_more : (f'' : F) (n : ℕ) (part new : List ℕ) → CalledAtMut g f' (take n (drop (sum ns) buf)) tt f'' part → length part ≡ n
      → new ≡ take (sum ns) buf ++ (part ++ drop n (drop (sum ns) buf)) → VisitsParts g f old (ns ++ n ∷ []) f'' new
  visits_more f'' n part new called same is =
      let visit : Visit = (take n (drop (sum ns) buf), part) in record {
        visits = w.visits ++ visit ∷ [];
        found = map-append (λ (v : Visit). v.0) w.visits (visit ∷ []) ∙ (λ i. w.found i ++ take n (rest_is i) ∷ []) ∙ sym (cuts_more ns n old);
        lengths = map-append (λ (v : Visit). length v.1) w.visits (visit ∷ []) ∙ (λ i. w.lengths i ++ same i ∷ []);
        called = folds_more _ _ _ _ w.visits visit w.called called;
        left = is ∙ (λ i. front_is i ++ (part ++ drop n (rest_is i))) ∙ ap (λ (l : List ℕ). front ++ (part ++ l)) (drop-drop n (sum ns) old ∙ ap (λ (k : ℕ). drop k old) (sym (sum_more ns n)))
            ∙ sym (append_assoc front part (drop (sum (ns ++ n ∷ [])) old)) ∙ ap (λ (l : List ℕ). l ++ drop (sum (ns ++ n ∷ [])) old) (sym (flat_map-append (λ (v : Visit). v.1) w.visits (visit ∷ []) ∙ ap (λ (l : List ℕ). front ++ l) (append-nil part)));
      }

pub lengths_more : (lens : List ℕ) (i : ℕ) → i < length lens → take (i + 1) lens ≡ take i lens ++ slice_index_or lens i 0 ∷ []
lengths_more lens i h = let e : i + 1 ≡ suc i = omega arith in rw e (take-suc lens i 0 h)

pub at_more : (lens : List ℕ) (i at : ℕ) → i < length lens → at ≡ sum (take i lens) → at + slice_index_or lens i 0 ≡ sum (take (i + 1) lens)
at_more lens i at h e = ap (λ (k : ℕ). k + slice_index_or lens i 0) e ∙ sym (sum_more (take i lens) (slice_index_or lens i 0)) ∙ ap sum (sym (lengths_more lens i h))

-- the next part is within the buffer, and has its whole length
pub part_long : (old lens buf : List ℕ) (i at m : ℕ) → i < length lens → at ≡ sum (take i lens) → sum lens ≤ length old → length buf ≡ length old → m ≡ slice_index_or lens i 0 → length (take m (drop at buf)) ≡ slice_index_or lens i 0
part_long old lens buf i at m h e inside same is =
    let next = at_more lens i at h e in
    let below = sum_by-take-le (λ x. x) lens (i + 1) in
    let left = length-drop at buf in
    length-take-le m (drop at buf) (omega (arith, next, below, left)) ∙ is

-- part i was visited
pub visits_next : {F : Type 0} (g : Mut F (MutBor (List ℕ) × Unit {0}) (Unit {0} × (MutBor (List ℕ) × Unit {0}))) (old lens : List ℕ) (i at m : ℕ) (f f' f'' : F) (buf part : List ℕ)
    → i < length lens → at ≡ sum (take i lens) → m ≡ slice_index_or lens i 0 → VisitsParts g f old (take i lens) f' buf → CalledAtMut g f' (take m (drop at buf)) tt f'' part
    → length part ≡ slice_index_or lens i 0 → VisitsParts g f old (take (i + 1) lens) f'' (take at buf ++ (part ++ drop m (drop at buf)))
visits_next g old lens i at m f f' f'' buf part h e is w called same =
    let n = slice_index_or lens i 0 in
    let new = take at buf ++ (part ++ drop m (drop at buf)) in
    let found = subst (λ (x : List ℕ). CalledAtMut g f' x tt f'' part) (λ j. take (is j) (drop (e j) buf)) called in
    subst (λ (ns : List ℕ). VisitsParts g f old ns f'' new) (sym (lengths_more lens i h))
    (visits_more g old (take i lens) f f' buf w f'' n part new found same (λ j. take (e j) buf ++ (part ++ drop (is j) (drop (e j) buf))))

ones : {F : Type 0} (g : Mut F (MutBor (List ℕ) × Unit {0}) (Unit {0} × (MutBor (List ℕ) × Unit {0}))) (visits : List Visit) (f f' : F) → ((f f' : F) (x x' : List ℕ) → CalledAtMut g f x tt f' x' → x' ≡ replicate (length x) 1)
    → FoldsTo (λ p v q. CalledAtMut g p v.0 tt q v.1) f visits f' → flat_map (λ (v : Visit). v.1) visits ≡ replicate (length (flat_map (λ (v : Visit). v.1) visits)) 1
ones g [] f f' each h = refl
ones g ((x, y) ∷ vs) f f' each h =
    let rest = flat_map (λ (v : Visit). v.1) vs in
    let e = each f h.0 x y h.1 in
    let len : length x ≡ length y = sym (ap length e ∙ length-replicate (length x) 1) in
    (λ i. (e ∙ ap (λ (k : ℕ). replicate k 1) len) i ++ ones g vs h.0 f' each h.2 i) ∙ replicate-append-replicate (length y) (length rest) 1
    ∙ ap (λ (k : ℕ). replicate k 1) (sym (length-append y rest))

pub all_ones : {F : Type 0} (g : Mut F (MutBor (List ℕ) × Unit {0}) (Unit {0} × (MutBor (List ℕ) × Unit {0}))) (old lens : List ℕ) (f f' : F) (buf : List ℕ) (w : VisitsParts g f old lens f' buf)
    → ((f f' : F) (x x' : List ℕ) → CalledAtMut g f x tt f' x' → x' ≡ replicate (length x) 1) → flat_map (λ (v : Visit). v.1) w.visits ≡ replicate (sum lens) 1
all_ones g old lens f f' buf w each = ones g w.visits f f' each w.called ∙ ap (λ (k : ℕ). replicate k 1) (long g old lens f f' buf w)
