-- A plan that is parted by devices and classes says the same of each call.
use Rattle.std.proofs.Common.{zero, suc, ◌≡◌, ℕ, ◌<◌, ◌+◌, ◌&&◌, Bool, true, false, if◌then◌else◌, List, [], ◌∷◌, ◌++◌, take, length, get_or, map, Option, Some, slice_get, refl, sym, ap, ◌∙◌, subst, arith}
use Rattle.std.specs.Prelude.{not, find, filter, option_map}
use Rattle.std.proofs.lemmas.List.{take_more}
use Rattle.mid_base.specs.declared.names.DevAddr.{DevAddr}
use Rattle.mid_base.specs.declared.faults.PlanEntry.{PlanEntry}
use Rattle.mid_base.specs.declared.host_spec.LunSpec.{LunSpec}
use Rattle.mid_base.specs.Address.{same_dev}
use Rattle.fault_plan.specs.declared.class.Class.{Class}
use Rattle.fault_plan.specs.declared.class.Class.TheVariants.{Queue, Time, Answer}
use Rattle.fault_plan.specs.Plan.{class_of, same_class, hits, is_hit, planned}
use Rattle.adapter_tables.specs.declared.device_rows.DevicePlan.{DevicePlan}
use Rattle.adapter_tables.specs.Addresses.{lun_devs}
use Rattle.adapter_tables.specs.Plans.{Parts, is_for, is_in, is_queued, is_rest, parts_for, shown, HavePlans}

-- what isn't kept isn't looked for
find_kept : (test keep : PlanEntry → Bool) → ((x : PlanEntry) → keep x ≡ false → test x ≡ false) → (xs : List PlanEntry) → find test (filter keep xs) ≡ find test xs
find_kept test keep h [] = refl
find_kept test keep h (x ∷ xs) = by (keep x) refl (find_kept test keep h xs)
  where
    by : (k : Bool) → keep x ≡ k → find test (filter keep xs) ≡ find test xs → find test (filter keep (x ∷ xs)) ≡ find test (x ∷ xs)
    by true e rest = rw e (ap (λ (t : Option PlanEntry). if test x then Some x else t) rest)
    by false e rest = rw (e, h x e) rest

of_device : (plan : List PlanEntry) (d : DevAddr) (class : Class) (n : ℕ) → find (is_hit d class n) (filter (is_for d) plan) ≡ find (is_hit d class n) plan
of_device plan d class n = find_kept (is_hit d class n) (is_for d) (λ x off. rw off refl) plan

neither : (a b : Bool) → a && false && b ≡ false
neither true b = refl
neither false b = refl

in_class : (plan : List PlanEntry) (d : DevAddr) (class : Class) (n : ℕ) → find (is_hit d class n) (filter (is_in class) plan) ≡ find (is_hit d class n) plan
in_class plan d class n = find_kept (is_hit d class n) (is_in class) (λ x off. rw off (neither (same_dev x.dev d) (hits x n))) plan

not_queue : (b : Class) → is_queued b ≡ false → same_class Queue b ≡ false
not_queue Queue e = absurd (cc e)
not_queue b e = refl

not_time : (b : Class) → is_queued b ≡ false → same_class Time b ≡ false
not_time Time e = absurd (cc e)
not_time b e = refl

not_answer : (b : Class) → is_queued b ≡ false → same_class Answer b ≡ false
not_answer Answer e = absurd (cc e)
not_answer b e = refl

pub not_queued : (class : Class) → (class ≡ Queue → ⊥) → (class ≡ Time → ⊥) → (class ≡ Answer → ⊥) → is_queued class ≡ false
not_queued Queue q t a = absurd (q refl)
not_queued Time q t a = absurd (t refl)
not_queued Answer q t a = absurd (a refl)
not_queued class q t a = refl

apart : (a b : Class) → not (is_queued a) ≡ false → is_queued b ≡ false → same_class a b ≡ false
apart Queue b off rest = not_queue b rest
apart Time b off rest = not_time b rest
apart Answer b off rest = not_answer b rest
apart a b off rest = absurd (cc off)

in_rest : (plan : List PlanEntry) (d : DevAddr) (class : Class) (n : ℕ) → is_queued class ≡ false → find (is_hit d class n) (filter is_rest plan) ≡ find (is_hit d class n) plan
in_rest plan d class n rest = find_kept (is_hit d class n) is_rest (λ x off. rw (apart (class_of x.fault) class off rest) (neither (same_dev x.dev d) (hits x n))) plan

pub rest_lines : (plan lines : List PlanEntry) (d : DevAddr) (class : Class) (n : ℕ) → is_queued class ≡ false → lines ≡ filter is_rest (filter (is_for d) plan) → planned lines d class n ≡ planned plan d class n
rest_lines plan lines d class n rest is =
    ap (λ (ls : List PlanEntry). planned ls d class n) is
    ∙ ap (option_map (λ (e : PlanEntry). e.fault)) (in_rest (filter (is_for d) plan) d class n rest ∙ of_device plan d class n)

pub class_lines : (plan lines : List PlanEntry) (d : DevAddr) (class : Class) (n : ℕ) → lines ≡ filter (is_in class) (filter (is_for d) plan) → planned lines d class n ≡ planned plan d class n
class_lines plan lines d class n is =
    ap (λ (ls : List PlanEntry). planned ls d class n) is
    ∙ ap (option_map (λ (e : PlanEntry). e.fault)) (in_class (filter (is_for d) plan) d class n ∙ of_device plan d class n)

-- one device more
shown_more : (ps : List DevicePlan) (p : DevicePlan) → map shown (ps ++ p ∷ []) ≡ map shown ps ++ shown p ∷ []
shown_more [] p = refl
shown_more (q ∷ ps) p = ap (λ (xs : List Parts). shown q ∷ xs) (shown_more ps p)

parts_more : (plan : List PlanEntry) (ls : List LunSpec) (l : LunSpec) → map (parts_for plan) (lun_devs (ls ++ l ∷ [])) ≡ map (parts_for plan) (lun_devs ls) ++ parts_for plan l.dev ∷ []
parts_more plan [] l = refl
parts_more plan (k ∷ ls) l = ap (λ (xs : List Parts). parts_for plan k.dev ∷ xs) (parts_more plan ls l)

pub next_plan : (plan : List PlanEntry) (luns : List LunSpec) (i : ℕ) (d : LunSpec) (ps qs : List DevicePlan) (p : DevicePlan) → i < length luns → HavePlans plan (lun_devs (take i luns)) ps
    → qs ≡ ps ++ p ∷ [] → shown p ≡ parts_for plan (get_or luns i d).dev → HavePlans plan (lun_devs (take (i + 1) luns)) qs
next_plan plan luns i d ps qs p lt have e is =
    subst (λ (ls : List LunSpec). HavePlans plan (lun_devs ls) qs) (sym (take_more luns i d lt))
    (ap (map shown) e ∙ (shown_more ps p ∙ (rw (have, is) (sym (parts_more plan (take i luns) (get_or luns i d))))))

-- the lines of a device stand at its place
pub plan_at : (plan : List PlanEntry) (ds : List DevAddr) (ps : List DevicePlan) (i : ℕ) (d : DevAddr) → HavePlans plan ds ps → slice_get ds i ≡ Some d
    → (i < length ps) × ((p : DevicePlan) → slice_get ps i ≡ Some p → shown p ≡ parts_for plan d)
plan_at plan [] ps i d have at = absurd (cc at)
plan_at plan (e ∷ ds) [] i d have at = absurd (cc have)
plan_at plan (e ∷ ds) (p ∷ ps) zero d have at =
    let dev : e ≡ d = cc at in
    let here : shown p ≡ parts_for plan e = cc have in
    (omega arith, λ q is. let same : p ≡ q = cc is in ap shown (sym same) ∙ (here ∙ ap (parts_for plan) dev))
plan_at plan (e ∷ ds) (p ∷ ps) (suc i) d have at =
    let later : map shown ps ≡ map (parts_for plan) ds = cc have in
    let rest = plan_at plan ds ps i d later at in
    let lt : i < length ps = rest.0 in
    (omega (arith, lt), rest.1)
