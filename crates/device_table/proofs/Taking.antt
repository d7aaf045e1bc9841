-- The tag that is taken, and the table of an empty journal.
use Rattle.std.proofs.Common.{◌≡◌, ◌∙◌, sym, ap, subst, refl, ℕ, zero, suc, ◌+◌, ◌<◌, ◌≤◌, Bool, true, false, not, ◌&&◌, ◌||◌, cond, List, [], ◌∷◌, length, map, replicate, Option, None, Some, arith, inl, inr}
use Rattle.std.specs.Prelude.{find, slice_get, option_map, is_some, count_by, nat_lt}
use Rattle.std.specs.List.{list_any}
use Rattle.std.proofs.lemmas.Bool.{cases_Bool, false≢true, ltb-true, and_parts, not-true}
use Rattle.std.proofs.lemmas.List.{get_or-replicate, length-replicate}
use Rattle.std.proofs.lemmas.List.Sums.{sum_by-cons}
use Rattle.std.proofs.lemmas.Option.{same_Some, none-some}
use Rattle.mid_base.specs.declared.names.DevAddr.{DevAddr}
use Rattle.mid_base.specs.declared.entries.Entry.{Entry}
use Rattle.mid_base.specs.declared.host_spec.CmdSpec.{CmdSpec}
use Rattle.mid_base.specs.declared.host_spec.LunSpec.{LunSpec}
use Rattle.mid_base.specs.declared.host_spec.HostSpec.{HostSpec}
use Rattle.mid_base.specs.Address.{same_dev, has_dev}
use Rattle.mid_base.specs.Limits.{differ_in_address, differ_in_id}
use Rattle.tag_pool.specs.declared.pool.Take.{Take}
use Rattle.tag_pool.specs.declared.pool.Take.TheVariants as take
use Rattle.tag_pool.specs.Pool.{Pool}
use Rattle.tag_pool.specs.Tags.{Holders, holder, is_out, is_out_for, out_of, all_out, has_room, AllOut, IsLeastFree, Takes}
use Rattle.tag_pool.specs.Depths.{at_start, device}
use Rattle.trace_model.specs.Names.{start_in, depth_in}
use Rattle.trace_model.specs.Commands.{standing, holds}
use Rattle.trace_model.specs.Sending.{is_held, is_least_free, all_below}
use Rattle.device_table.specs.declared.rows.DeviceRow.{DeviceRow}
use Rattle.device_table.specs.declared.devices.Devices.{Devices}
use Rattle.device_table.specs.Rows.{start_row, scripted}
use Rattle.device_table.specs.DevicesAgree.{TagsAre, DevicesAgree}
use Rattle.device_table.proofs.Counts.{find_none}
use Rattle.device_table.proofs.Places.{starts_for, same_self, equal_dev}

-- where all tags are out, all of them are counted
full_counts : (tags : Holders) → AllOut tags → length tags ≤ all_out tags
full_counts [] h = omega arith
full_counts (x ∷ tags) h =
    let here : is_some x ≡ true = h 0 (omega arith) in
    let rest : length tags ≤ all_out tags = full_counts tags (λ t lt. h (suc t) (omega (arith, lt))) in
    let more : all_out (x ∷ tags) ≡ 1 + all_out tags = sum_by-cons {X = Option DevAddr} (λ y. cond (is_some y) 1 0) x tags ∙ ap (λ (b : Bool). cond {A = ℕ} b 1 0 + all_out tags) here in
    omega (arith, rest, more)

-- a device that has room is given a tag
pub gives_tag : (tags : Holders) (d : DevAddr) (depth : ℕ) (result : Take) → has_room tags d depth ≡ true → Takes tags d depth result → ((t : _) → result ≡ take.Tag t → ⊥) → ⊥
gives_tag tags d depth (take.HostFull n) room takes' none =
    let parts = and_parts (nat_lt (all_out tags) (length tags)) (nat_lt (out_of d tags) depth) room in
    omega (arith, ltb-true (all_out tags) (length tags) parts.0, full_counts tags takes'.0)
gives_tag tags d depth (take.DeviceFull n) room takes' none =
    let parts = and_parts (nat_lt (all_out tags) (length tags)) (nat_lt (out_of d tags) depth) room in
    omega (arith, ltb-true (out_of d tags) depth parts.1, takes'.1)
gives_tag tags d depth (take.Tag t) room takes' none = none t refl

-- a tag is out where a command holds it
any_found : (p : CmdSpec → Bool) (ks : List CmdSpec) → list_any p ks ≡ is_some (option_map (λ k. k.dev) (find p ks))
any_found p [] = refl
any_found p (k ∷ ks) = elim (cases_Bool (p k)) as (λ _. list_any p (k ∷ ks) ≡ is_some (option_map (λ j. j.dev) (find p (k ∷ ks)))) [
  | inl is ↦ rw is refl
  | inr isnt ↦ rw isnt (any_found p ks)
]

held_is : (s : HostSpec) (P : List Entry) (pool : Pool) (t : ℕ) → TagsAre s P pool → t < s.can_queue → is_held s P t ≡ is_out t pool.tags
held_is s P pool t tags lt = any_found (λ k. holds t (standing k.id.0 P)) s.cmds ∙ ap (λ (o : Option DevAddr). is_some o) (sym (tags.holders t lt))

below_all : (t : ℕ) (f : ℕ → Bool) → ((k : ℕ) → k < t → f k ≡ true) → all_below t f ≡ true
below_all zero f h = refl
below_all (suc t) f h = rw (h t (omega arith)) (below_all t f (λ k lt. h k (omega (arith, lt))))

pub least_is : (s : HostSpec) (P : List Entry) (pool : Pool) (t : ℕ) → TagsAre s P pool → IsLeastFree t pool.tags → (is_least_free s P t ≡ true) × (t < s.can_queue)
least_is s P pool t tags least =
    let lt : t < s.can_queue = omega (arith, least.0, tags.count) in
    let free : is_held s P t ≡ false = held_is s P pool t tags lt ∙ least.1 in
    let before : all_below t (is_held s P) ≡ true = below_all t (is_held s P) (λ k below. held_is s P pool k tags (omega (arith, below, lt)) ∙ least.2 k below) in
    (rw (free, before) refl, lt)

pub free_holder : (t : ℕ) (tags : Holders) → is_out t tags ≡ false → holder t tags ≡ None
free_holder t tags free = by_holder (holder t tags) free
  where
    by_holder : (o : Option DevAddr) → is_some o ≡ false → o ≡ None
    by_holder None h = refl
    by_holder (Some d) h = absurd (false≢true (sym h))

-- at the beginning
none_out : (p : Option DevAddr → Bool) → p None ≡ false → (n : ℕ) → count_by p (replicate n None) ≡ 0
none_out p off zero = refl
none_out p off (suc n) =
    sum_by-cons {X = Option DevAddr} (λ y. cond (p y) 1 0) None (replicate n None)
    ∙ ap (λ (b : Bool). cond {A = ℕ} b 1 0 + count_by p (replicate n None)) off
    ∙ added (count_by p (replicate n None)) (none_out p off n)
  where
    added : (m : ℕ) → m ≡ 0 → 0 + m ≡ 0
    added m e = omega (arith, e)

none_counted : (p : CmdSpec → Bool) → ((k : CmdSpec) → p k ≡ false) → (ks : List CmdSpec) → count_by p ks ≡ 0
none_counted p off [] = refl
none_counted p off (k ∷ ks) =
    sum_by-cons {X = CmdSpec} (λ j. cond (p j) 1 0) k ks
    ∙ ap (λ (b : Bool). cond {A = ℕ} b 1 0 + count_by p ks) (off k)
    ∙ added (count_by p ks) (none_counted p off ks)
  where
    added : (m : ℕ) → m ≡ 0 → 0 + m ≡ 0
    added m e = omega (arith, e)

and_false : (b : Bool) → b && false ≡ false
and_false true = refl
and_false false = refl

has_start : (ls : List LunSpec) (i : ℕ) (r : DeviceRow) → slice_get (map start_row ls) i ≡ Some r → has_dev ls r.dev ≡ true
has_start [] i r at = absurd (none-some r at)
has_start (l ∷ ls) zero r at =
    subst (λ (x : DeviceRow). has_dev (l ∷ ls) x.dev ≡ true) (same_Some (start_row l) r at) (ap (λ (b : Bool). b || has_dev ls l.dev) (same_self l.dev))
has_start (l ∷ ls) (suc i) r at = or_later (same_dev l.dev r.dev) (has_dev ls r.dev) (has_start ls i r at)
  where
    or_later : (a b : Bool) → b ≡ true → a || b ≡ true
    or_later true b h = refl
    or_later false b h = h

unlike : (l : LunSpec) (ls : List LunSpec) → differ_in_address (l ∷ ls) ≡ true → (i : ℕ) (r : DeviceRow) → slice_get (map start_row ls) i ≡ Some r → same_dev l.dev r.dev ≡ false
unlike l ls differ i r at = elim (cases_Bool (same_dev l.dev r.dev)) as (λ _. same_dev l.dev r.dev ≡ false) [
  | inl is ↦
      let has : has_dev ls l.dev ≡ true = subst (λ (d : DevAddr). has_dev ls d ≡ true) (sym (equal_dev l.dev r.dev is)) (has_start ls i r at) in
      absurd (false≢true (sym (not-true (has_dev ls l.dev) (and_parts (not (has_dev ls l.dev)) (differ_in_address ls) differ).0) ∙ has))
  | inr isnt ↦ isnt
]

-- the first of the units at an address is the only one
start_found : (ls : List LunSpec) → differ_in_address ls ≡ true → (i : ℕ) (r : DeviceRow) → slice_get (map start_row ls) i ≡ Some r → start_in ls r.dev ≡ r.state
start_found [] differ i r at = absurd (none-some r at)
start_found (l ∷ ls) differ zero r at =
    subst (λ (x : DeviceRow). start_in (l ∷ ls) x.dev ≡ x.state) (same_Some (start_row l) r at) (ap (λ (b : Bool). cond b l.start (start_in ls l.dev)) (same_self l.dev))
start_found (l ∷ ls) differ (suc i) r at =
    let off : same_dev l.dev r.dev ≡ false = unlike l ls differ i r at in
    ap (λ (b : Bool). cond b l.start (start_in ls r.dev)) off ∙ start_found ls (and_parts (not (has_dev ls l.dev)) (differ_in_address ls) differ).1 i r at

depth_found : (s : HostSpec) (ls : List LunSpec) (d : DevAddr) → has_dev ls d ≡ true
    → device d (map at_start (map scripted ls)) ≡ Some (record { dev = d; scripted = depth_in ls d; depth = depth_in ls d; goods = 0 })
depth_found s [] d has = absurd (false≢true has)
depth_found s (l ∷ ls) d has = elim (cases_Bool (same_dev l.dev d)) as (λ _. device d (map at_start (map scripted (l ∷ ls))) ≡ Some (record { dev = d; scripted = depth_in (l ∷ ls) d; depth = depth_in (l ∷ ls) d; goods = 0 })) [
  | inl is ↦ rw is (ap (λ (e : DevAddr). Some (record { dev = e; scripted = l.depth; depth = l.depth; goods = 0 })) (equal_dev l.dev d is))
  | inr isnt ↦
      let rest : has_dev ls d ≡ true = subst (λ (b : Bool). b || has_dev ls d ≡ true) isnt has in
      rw isnt (depth_found s ls d rest)
]

pub starts : (s : HostSpec) (t : Devices) → differ_in_address s.luns ≡ true → differ_in_id s.cmds ≡ true → t.rows.items ≡ map start_row s.luns → t.paused ≡ false
    → t.pool.tags ≡ replicate s.can_queue None → t.pool.devices ≡ map at_start (map scripted s.luns) → DevicesAgree s [] t
starts s t apart ids rows paused tags devices = record {
  rows_are = rw rows (starts_for s.luns);
  apart = apart;
  ids = ids;
  states = λ i r at. start_found s.luns apart i r (rw rows at at);
  pauses = λ i r at. unpaused_start s.luns i r (rw rows at at);
  depths_are = λ i r at. ap (device r.dev) devices ∙ depth_found s s.luns r.dev (has_start s.luns i r (rw rows at at));
  host = sym paused;
  tags = record {
    count = ap length tags ∙ length-replicate s.can_queue None;
    holders = λ u lt. ap (holder u) tags ∙ get_or-replicate s.can_queue u None None lt
        ∙ sym (ap (λ (o : Option CmdSpec). option_map (λ (k : CmdSpec). k.dev) o) (find_none (λ k. holds u (standing k.id.0 [])) s.cmds (λ i k at. refl)));
    of_each = λ d. ap (out_of d) tags ∙ none_out (is_out_for d) refl s.can_queue ∙ sym (none_counted (λ k. same_dev k.dev d && false) (λ k. and_false (same_dev k.dev d)) s.cmds);
    all = ap all_out tags ∙ none_out (λ o. is_some o) refl s.can_queue ∙ sym (none_counted (λ k. false) (λ k. refl) s.cmds);
  };
}
  where
    unpaused_start : (ls : List LunSpec) (i : ℕ) (r : DeviceRow) → slice_get (map start_row ls) i ≡ Some r → false ≡ r.paused
    unpaused_start [] i r at = absurd (none-some r at)
    unpaused_start (l ∷ ls) zero r at = ap (λ (x : DeviceRow). x.paused) (same_Some (start_row l) r at)
    unpaused_start (l ∷ ls) (suc i) r at = unpaused_start ls i r at
