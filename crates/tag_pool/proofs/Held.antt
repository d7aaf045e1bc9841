-- Tags that go out and come back: their bits, and how many are counted.
use Rattle.std.proofs.Common.{◌≡◌, ◌≢◌, ◌∙◌, sym, ap, subst, refl, ℕ, ◌+◌, ◌-◌, ◌*◌, ◌/◌, ◌<◌, ◌≤◌, Bool, true, false, cond, if◌then◌else◌, List, [], ◌∷◌, ◌++◌, length, get_or, set, take, drop, replicate, None, Some, inl, inr, arith, count_by}
use Rattle.std.specs.Prelude.{Option, is_some, nat_lt}
use Rattle.std.specs.List.{position, position_or_len}
use Rattle.std.proofs.lemmas.Bool.{cases_eq, cases_lt, cases_Bool, false≢true, lt-ltb, le-ltb, and_right}
use Rattle.std.proofs.lemmas.Bool.Decides.{nat_tests}
use Rattle.std.proofs.lemmas.Option.{same_Some}
use Rattle.std.proofs.lemmas.List.{get_or-set_same, get_or-set_other, get_or_default, get_or-replicate, get_or_past, length-set, length-replicate, append-nil, take_all, drop_all}
use Rattle.std.proofs.lemmas.List.Sums.{sum_by-set, count_by-le-length}
use Rattle.std.proofs.lemmas.List.Folds.{sum_by-replicate}
use Rattle.std.proofs.lemmas.List.Quantifiers.{position-Some}
use Rattle.mid_base.specs.declared.names.DevAddr.{DevAddr}
use Rattle.mid_base.specs.Address.{same_dev}
use Rattle.tag_pool.specs.declared.depths.DeviceDepth.{DeviceDepth}
use Rattle.tag_pool.specs.Depths.{is_at}
use Rattle.tag_pool.specs.Tags.{Holders, holder, is_out, is_out_for, out_of, all_out, has_room}
use Rattle.tag_pool.specs.Words.{bit_of, AreFree}
use Rattle.tag_pool.specs.Counts.{AreCounted}
use Rattle.tag_pool.proofs.Lists.{same_other}

-- a list that is written anew through a slice of all of it
pub anew : (n : ℕ) (ws vs : List ℕ) → n ≡ length ws → length vs ≡ length ws → take n (vs ++ drop (length vs) ws) ≡ vs
anew n ws vs all long =
    rw (drop_all (length vs) ws (omega arith), append-nil vs) (take_all n vs (omega arith))

pub free_given : (ws vs : List ℕ) (tags : Holders) (t : ℕ) → AreFree ws tags → t < length tags → length vs ≡ length ws → bit_of t vs ≡ 1
    → ((k : ℕ) → k ≢ t → bit_of k vs ≡ bit_of k ws) → AreFree vs (set tags t None)
free_given ws vs tags t free within long here others = record {
  count = rw (length-set tags t None) (long ∙ free.count);
  set = λ k is. elim (cases_eq k t) as (λ _. (k < length (set tags t None)) × (is_out k (set tags t None) ≡ false)) [
    | inl same ↦ (omega (arith, length-set tags t None), rw (same, get_or-set_same tags t None None within) refl)
    | inr other ↦
        let was = free.set k (sym (others k other) ∙ is) in
        (omega (arith, length-set tags t None, was.0), rw (get_or-set_other tags t k None None other) was.1)
  ];
  clear = λ k is below. elim (cases_eq k t) as (λ _. is_out k (set tags t None) ≡ true) [
    | inl same ↦ absurd (omega (arith, here, is, ap (λ (i : ℕ). bit_of i vs) same))
    | inr other ↦ rw (get_or-set_other tags t k None None other) (free.clear k (sym (others k other) ∙ is) (omega (arith, below, length-set tags t None)))
  ];
}

pub free_all : (ws : List ℕ) (n : ℕ) → length ws ≡ n / 64 + 1 → ((k : ℕ) → k < n → bit_of k ws ≡ 1) → ((k : ℕ) → n ≤ k → bit_of k ws ≡ 0)
    → AreFree ws (replicate n None)
free_all ws n long below above = record {
  count = rw (length-replicate {A = Option DevAddr} n None) long;
  set = λ k is. elim (cases_lt k n) as (λ _. (k < length (replicate {A = Option DevAddr} n None)) × (is_out k (replicate n None) ≡ false)) [
    | inl within ↦ (omega (arith, length-replicate {A = Option DevAddr} n None), rw (get_or-replicate {A = Option DevAddr} n k None None within) refl)
    | inr past ↦ absurd (omega (arith, is, above k past))
  ];
  clear = λ k is within. absurd (omega (arith, is, below k (omega (arith, within, length-replicate {A = Option DevAddr} n None))));
}

pub none_out : (n : ℕ) → all_out (replicate n None) ≡ 0
none_out n = omega (arith, sum_by-replicate (λ (x : Option DevAddr). cond (is_some x) 1 0) n None)

pub count_set : (p : Option DevAddr → Bool) (tags : Holders) (t : ℕ) (y : Option DevAddr) → t < length tags
    → count_by p (set tags t y) + cond (p (holder t tags)) 1 0 ≡ count_by p tags + cond (p y) 1 0
count_set p tags t y within = sum_by-set (λ (x : Option DevAddr). cond (p x) 1 0) tags t y None within

pub one_less : (p : Option DevAddr → Bool) (tags : Holders) (t : ℕ) → t < length tags → p (holder t tags) ≡ true → p None ≡ false
    → count_by p (set tags t None) + 1 ≡ count_by p tags
one_less p tags t within was is =
    let counted = count_set p tags t None within in
    omega (arith, rw (was, is) at counted)

pub one_more : (p : Option DevAddr → Bool) (tags : Holders) (t : ℕ) (y : Option DevAddr) → t < length tags → p (holder t tags) ≡ false → p y ≡ true
    → count_by p (set tags t y) ≡ count_by p tags + 1
one_more p tags t y within was is =
    let counted = count_set p tags t y within in
    omega (arith, rw (was, is) at counted)

pub as_many : (p : Option DevAddr → Bool) (tags : Holders) (t : ℕ) (y : Option DevAddr) → t < length tags → p (holder t tags) ≡ p y
    → count_by p (set tags t y) ≡ count_by p tags
as_many p tags t y within same =
    let counted = count_set p tags t y within in
    omega (arith, rw same at counted)

same_first : (a b : DevAddr) → same_dev a b ≡ true → (xs : List DeviceDepth) → position_or_len (is_at b) xs ≡ position_or_len (is_at a) xs
same_first a b same [] = refl
same_first a b same (x ∷ xs) =
    let here : is_at b x ≡ is_at a x = same_other a b x.dev same in
    let rest : position_or_len (is_at b) xs ≡ position_or_len (is_at a) xs = same_first a b same xs in
    rw (here, rest) refl

same_place : (a b : DevAddr) → same_dev a b ≡ true → (xs : List DeviceDepth) → position (is_at b) xs ≡ position (is_at a) xs
same_place a b same xs = ap (λ (k : ℕ). if nat_lt k (length xs) then Some k else None) (same_first a b same xs)

-- devices that differ have different places
met : (a b x : DevAddr) → same_dev x a ≡ true → same_dev x b ≡ true → same_dev a b ≡ true
met a b x at_a at_b = grind (arith, nat_tests)

apart : (a b : DevAddr) (xs : List DeviceDepth) (d : DeviceDepth) (i j : ℕ) → same_dev a b ≡ false → position (is_at a) xs ≡ Some i → position (is_at b) xs ≡ Some j → j ≢ i
apart a b xs d i j differ at_a at_b same =
    let here : is_at a (get_or xs i d) ≡ true = (position-Some (is_at a) xs i d at_a).1 in
    let there : is_at b (get_or xs j d) ≡ true = (position-Some (is_at b) xs j d at_b).1 in
    let both : is_at b (get_or xs i d) ≡ true = subst (λ (k : ℕ). is_at b (get_or xs k d) ≡ true) same there in
    false≢true (sym differ ∙ met a b (get_or xs i d).dev here both)

pub counted : (tags new : Holders) (xs : List DeviceDepth) (counts : List ℕ) (a : DevAddr) (d : DeviceDepth) (i n : ℕ) → AreCounted tags xs counts → position (is_at a) xs ≡ Some i
    → ((b : DevAddr) → same_dev a b ≡ true → out_of b tags ≡ get_or counts i 0 → n ≡ out_of b new) → ((b : DevAddr) → same_dev a b ≡ false → out_of b new ≡ out_of b tags)
    → AreCounted new xs (set counts i n)
counted tags new xs counts a d i n had at here others = record {
  count = length-set counts i n ∙ had.count;
  each = λ b j is. elim (cases_Bool (same_dev a b)) as (λ _. get_or (set counts i n) j 0 ≡ out_of b new) [
    | inl same ↦
        let place : j ≡ i = same_Some j i (sym is ∙ (same_place a b same xs ∙ at)) in
        let within : i < length counts = omega (arith, (position-Some (is_at a) xs i d at).0, had.count) in
        let was : out_of b tags ≡ get_or counts i 0 = sym (had.each b i (same_place a b same xs ∙ at)) in
        rw place (get_or-set_same counts i n 0 within ∙ here b same was)
    | inr other ↦
        get_or-set_other counts i j n 0 (apart a b xs d i j other at is) ∙ (had.each b j is ∙ sym (others b other))
  ];
}

-- a tag that is out is one of the pool's
pub out_within : (tags : Holders) (t : ℕ) → is_out t tags ≡ true → t < length tags
out_within tags t out =
    elim (cases_lt t (length tags)) [
      | inl within ↦ within
      | inr past ↦ absurd (false≢true (subst (λ (x : Option DevAddr). is_some x ≡ true) (get_or_past tags t None past) out))
    ]

pub more_out : (tags : Holders) (t : ℕ) (d : DevAddr) → t < length tags → is_out t tags ≡ false → all_out tags + 1 ≤ length tags
more_out tags t d within free =
    omega (arith, one_more is_some tags t (Some d) within free refl, count_by-le-length is_some (set tags t (Some d)), length-set tags t (Some d))

pub less_out : (tags : Holders) (t : ℕ) → t < length tags → is_out t tags ≡ true → all_out (set tags t None) + 1 ≡ all_out tags
less_out tags t within out = one_less is_some tags t within out refl

same_self : (a : DevAddr) → same_dev a a ≡ true
same_self a = grind (arith, nat_tests)

pub counted_read : (tags : Holders) (xs : List DeviceDepth) (counts : List ℕ) (a : DevAddr) (d : DeviceDepth) (i n : ℕ) → AreCounted tags xs counts → position (is_at a) xs ≡ Some i
    → n ≡ get_or counts i n → n ≡ out_of a tags
counted_read tags xs counts a d i n had at read =
    let within : i < length counts = omega (arith, (position-Some (is_at a) xs i d at).0, had.count) in
    read ∙ (get_or_default counts i n 0 within ∙ had.each a i at)

pub some_out : (tags : Holders) (a : DevAddr) (t : ℕ) → is_out t tags ≡ true → holder t tags ≡ Some a → 1 ≤ out_of a tags
some_out tags a t out is =
    let within : t < length tags = out_within tags t out in
    omega (arith, one_less (is_out_for a) tags t within (ap (is_out_for a) is ∙ same_self a) refl)

pub counted_given : (tags : Holders) (xs : List DeviceDepth) (counts : List ℕ) (a : DevAddr) (d : DeviceDepth) (i t n : ℕ) → AreCounted tags xs counts → position (is_at a) xs ≡ Some i
    → is_out t tags ≡ true → holder t tags ≡ Some a → n ≡ get_or counts i n → AreCounted (set tags t None) xs (set counts i (n - 1))
counted_given tags xs counts a d i t n had at out is read =
    let within : t < length tags = out_within tags t out in
    let place : i < length counts = omega (arith, (position-Some (is_at a) xs i d at).0, had.count) in
    let was : n ≡ get_or counts i 0 = read ∙ get_or_default counts i n 0 place in
    counted tags (set tags t None) xs counts a d i (n - 1) had at
    (λ b same old. let less = one_less (is_out_for b) tags t within (ap (is_out_for b) is ∙ same) refl in omega (arith, less, old, was))
    (λ b other. as_many (is_out_for b) tags t None within (ap (is_out_for b) is ∙ other))

held_by_none : (b : DevAddr) (x : Option DevAddr) → is_some x ≡ false → is_out_for b x ≡ false
held_by_none b None free = refl
held_by_none b (Some a) free = absurd (false≢true (sym free))

pub counted_taken : (tags : Holders) (xs : List DeviceDepth) (counts : List ℕ) (a : DevAddr) (d : DeviceDepth) (i t n : ℕ) → AreCounted tags xs counts → position (is_at a) xs ≡ Some i
    → t < length tags → is_out t tags ≡ false → n ≡ get_or counts i n → AreCounted (set tags t (Some a)) xs (set counts i (n + 1))
counted_taken tags xs counts a d i t n had at within free read =
    let place : i < length counts = omega (arith, (position-Some (is_at a) xs i d at).0, had.count) in
    let was : n ≡ get_or counts i 0 = read ∙ get_or_default counts i n 0 place in
    counted tags (set tags t (Some a)) xs counts a d i (n + 1) had at
    (λ b same old. let more = one_more (is_out_for b) tags t (Some a) within (held_by_none b (holder t tags) free) same in omega (arith, more, old, was))
    (λ b other. as_many (is_out_for b) tags t (Some a) within (held_by_none b (holder t tags) free ∙ sym other))

zeros : (m i : ℕ) → get_or (replicate {A = ℕ} m 0) i 0 ≡ 0
zeros m i =
    elim (cases_lt i m) [
      | inl within ↦ get_or-replicate m i 0 0 within
      | inr past ↦ get_or_past (replicate m 0) i 0 (omega (arith, length-replicate {A = ℕ} m 0))
    ]

pub counted_none : (n m : ℕ) (xs : List DeviceDepth) → m ≡ length xs → AreCounted (replicate n None) xs (replicate m 0)
counted_none n m xs all = record {
  count = length-replicate {A = ℕ} m 0 ∙ all;
  each = λ b i at. zeros m i ∙ omega (arith, sum_by-replicate (λ (x : Option DevAddr). cond (is_out_for b x) 1 0) n None);
}

pub room : (tags : Holders) (a : DevAddr) (depth all long n d : ℕ) → all ≡ all_out tags → long ≡ length tags → all < long → n ≡ out_of a tags → d ≡ depth → nat_lt n d ≡ has_room tags a depth
room tags a depth all long n d is_all is_long below is_n is_d =
    rw (is_n, is_d, lt-ltb (all_out tags) (length tags) (omega arith)) refl

pub no_room : (tags : Holders) (a : DevAddr) (depth : ℕ) → 0 ≡ depth → false ≡ has_room tags a depth
no_room tags a depth none = sym (and_right (nat_lt (all_out tags) (length tags)) (nat_lt (out_of a tags) depth) (le-ltb (out_of a tags) depth (omega arith)))
