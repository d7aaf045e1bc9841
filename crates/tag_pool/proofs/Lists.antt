-- Devices and tags found in their lists, and what a write there changes.
use Rattle.std.proofs.Common.{◌≡◌, ◌∙◌, sym, ap, subst, ℕ, ◌<◌, ◌≤◌, Bool, true, false, if◌then◌else◌, List, [], ◌∷◌, length, get_or, set, map, None, Some, refl, arith, inl, inr}
use Rattle.std.specs.Prelude.{option_map, nat_lt, slice_get}
use Rattle.std.specs.List.{All, position, position_or_len}
use Rattle.std.proofs.lemmas.Bool.{cases_Bool}
use Rattle.std.proofs.lemmas.Bool.Decides.{nat_tests}
use Rattle.std.proofs.lemmas.Option.{slice_get-get_or, slice_get_cases}
use Rattle.std.proofs.lemmas.List.Elements.{All-map, All-weaker}
use Rattle.std.proofs.lemmas.List.Folds.{find_at, find-set, find_past}
use Rattle.std.proofs.lemmas.List.Quantifiers.{position-Some}
use Rattle.mid_base.specs.declared.names.DevAddr.{DevAddr}
use Rattle.mid_base.specs.Address.{same_dev}
use Rattle.tag_pool.specs.declared.depths.DeviceDepth.{DeviceDepth}
use Rattle.tag_pool.specs.Depths.{is_at, device, depth_in, Changes, IsSound, at_start}

pub same_other : (a b x : DevAddr) → same_dev a b ≡ true → same_dev x b ≡ same_dev x a
same_other a b x same =
    let channel : a.channel ≡ b.channel = grind (arith, nat_tests) in
    let target : a.target ≡ b.target = grind (arith, nat_tests) in
    let lun : a.lun ≡ b.lun = grind (arith, nat_tests) in
    rw (channel, target, lun) refl

same_left : (a b x : DevAddr) → same_dev a b ≡ true → same_dev a x ≡ same_dev b x
same_left a b x same =
    let channel : a.channel ≡ b.channel = grind (arith, nat_tests) in
    let target : a.target ≡ b.target = grind (arith, nat_tests) in
    let lun : a.lun ≡ b.lun = grind (arith, nat_tests) in
    rw (channel, target, lun) refl

elsewhere : (x a b : DevAddr) → same_dev x a ≡ true → same_dev a b ≡ false → same_dev x b ≡ false
elsewhere x a b is other = same_left x a b is ∙ other

-- a device is found by each of its equal addresses
same_device : (a b : DevAddr) → same_dev a b ≡ true → (xs : List DeviceDepth) → device b xs ≡ device a xs
same_device a b same [] = refl
same_device a b same (x ∷ xs) =
    let here : is_at b x ≡ is_at a x = same_other a b x.dev same in
    let rest : device b xs ≡ device a xs = same_device a b same xs in
    rw (here, rest) refl

-- at a place that was found
place : {X : Type 0} (p : X → Bool) (xs : List X) (i : ℕ) → position p xs ≡ Some i → i ≡ position_or_len p xs
place p xs i is = grind (arith, nat_tests)

found : (dev : DevAddr) (xs : List DeviceDepth) (i : ℕ) (x : DeviceDepth) → position (is_at dev) xs ≡ Some i → x ≡ get_or xs i x → device dev xs ≡ Some x
found dev xs i x is here =
    let within : i < length xs = (position-Some (is_at dev) xs i x is).0 in
    find_at (is_at dev) xs ∙ ap (λ k. slice_get xs k) (sym (place (is_at dev) xs i is)) ∙ slice_get-get_or xs i x within ∙ ap Some (sym here)

none_or_some : (i n : ℕ) → i < n → (if nat_lt i n then Some i else None) ≡ None → ⊥
none_or_some i n below is = grind (arith, nat_tests)

missing : (dev : DevAddr) (xs : List DeviceDepth) → position (is_at dev) xs ≡ None → device dev xs ≡ None
missing dev xs is =
    elim (slice_get_cases xs (position_or_len (is_at dev) xs)).1 as (λ _. device dev xs ≡ None) [
      | inl at ↦
          absurd (none_or_some (position_or_len (is_at dev) xs) (length xs) at.1 is)
      | inr past ↦ find_at (is_at dev) xs ∙ past.1
    ]

pub depth_found : (dev : DevAddr) (xs : List DeviceDepth) (i : ℕ) (x : DeviceDepth) → position (is_at dev) xs ≡ Some i → x ≡ get_or xs i x → x.depth ≡ depth_in dev xs
depth_found dev xs i x is here = rw (found dev xs i x is here) refl

pub depth_missing : (dev : DevAddr) (xs : List DeviceDepth) → position (is_at dev) xs ≡ None → 0 ≡ depth_in dev xs
depth_missing dev xs is = rw (missing dev xs is) refl

-- the device at the place is written anew
pub changed : (dev : DevAddr) (f : DeviceDepth → DeviceDepth) → ((x : DeviceDepth) → (f x).dev ≡ x.dev) → (xs : List DeviceDepth) (i : ℕ) (x y : DeviceDepth) → position (is_at dev) xs ≡ Some i → x ≡ get_or xs i x → y ≡ f x → Changes dev f xs (set xs i y)
changed dev f keeps xs i x y is here becomes d =
    let within : i < length xs = (position-Some (is_at dev) xs i x is).0 in
    let is_x : is_at dev x ≡ true = subst (λ (z : DeviceDepth). is_at dev z ≡ true) (sym here) (position-Some (is_at dev) xs i x is).1 in
    let same : y.dev ≡ x.dev = ap (λ (z : DeviceDepth). z.dev) becomes ∙ keeps x in
    let is_y : is_at dev y ≡ true = ap (λ (a : DevAddr). same_dev a dev) same ∙ is_x in
    let written : device dev (set xs i y) ≡ Some y = find-set (is_at dev) xs i y (place (is_at dev) xs i is) within is_y in
    elim (cases_Bool (same_dev dev d)) as (λ _. device d (set xs i y) ≡ (if same_dev dev d then option_map f (device d xs) else device d xs)) [
      | inl equal ↦
          let new : device d (set xs i y) ≡ Some y = same_device dev d equal (set xs i y) ∙ written in
          let old : device d xs ≡ Some x = same_device dev d equal xs ∙ found dev xs i x is here in
          rw (equal, old) (new ∙ ap Some becomes)
      | inr other ↦
          let not_x : is_at d x ≡ false = elsewhere x.dev dev d is_x other in
          let not_y : is_at d y ≡ false = elsewhere y.dev dev d is_y other in
          rw other (find_past (is_at d) xs i y x (subst (λ (z : DeviceDepth). is_at d z ≡ false) here not_x) not_y)
    ]

pub unchanged : (dev : DevAddr) (f : DeviceDepth → DeviceDepth) (xs : List DeviceDepth) → position (is_at dev) xs ≡ None → Changes dev f xs xs
unchanged dev f xs is d =
    elim (cases_Bool (same_dev dev d)) as (λ _. device d xs ≡ (if same_dev dev d then option_map f (device d xs) else device d xs)) [
      | inl equal ↦
          let none : device d xs ≡ None = same_device dev d equal xs ∙ missing dev xs is in
          rw (equal, none) refl
      | inr other ↦ rw other refl
    ]

pub starts_sound : (xs : List (DevAddr × ℕ)) → All (λ x. 1 ≤ x.1) xs → All IsSound (map at_start xs)
starts_sound xs least =
    All-map IsSound at_start xs (All-weaker (λ (x : DevAddr × ℕ). 1 ≤ x.1) (λ (x : DevAddr × ℕ). IsSound (at_start x)) (λ x h. (h, omega arith, omega arith)) xs least)
