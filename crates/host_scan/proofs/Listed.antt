-- The findings of a host's targets have the devices that are found.
use Rattle.std.proofs.Common.{◌≡◌, ℕ, Bool, true, false, ◌&&◌, ◌||◌, ◌==◌, List, [], ◌∷◌, map, Result, Ok, Err, refl, sym, ap, ◌∙◌, subst, inl, inr, arith}
use Rattle.std.specs.Prelude.{if◌then◌else◌, nat_le}
use Rattle.std.specs.List.{list_any}
use Rattle.std.proofs.lemmas.Bool.{and_parts, cases_Bool, eqb-true}
use Rattle.std.proofs.lemmas.Bool.Decides.{nat_tests}
use Rattle.mid_base.specs.declared.names.DevAddr.{DevAddr}
use Rattle.mid_base.specs.declared.states.DeviceState.TheVariants.{Running, Del}
use Rattle.mid_base.specs.declared.host_spec.LunSpec.{LunSpec}
use Rattle.mid_base.specs.declared.host_spec.HostSpec.{HostSpec}
use Rattle.mid_base.specs.Address.{same_dev, has_dev}
use Rattle.adapter_tables.specs.Units.{target_luns, with_number}
use Rattle.host_scan.specs.declared.target.Target.{Target}
use Rattle.host_scan.specs.declared.finding.Finding.{Finding}
use Rattle.host_scan.specs.Targets.{comes_before, same_target, target_of, targets_of, with_target, zero_of}
use Rattle.host_scan.specs.Found.{answers, found, unit_found}
use Rattle.host_scan.specs.Findings.{finding_of, lists, unit_by}

or_right : (a b : Bool) → b ≡ true → (a || b) ≡ true
or_right true b e = refl
or_right false b e = e

-- ---- a target lists each of its units

with_it : (n k : ℕ) (ms : List ℕ) → n == k ≡ true → list_any (λ m. m == k) (with_number n ms) ≡ true
with_it n k [] e = rw e refl
with_it n k (m ∷ ms) e = elim (cases_Bool (nat_le n m)) [
  | inl le ↦ rw (le, e) refl
  | inr more ↦ rw more (or_right (m == k) (list_any (λ j. j == k) (with_number n ms)) (with_it n k ms e))
]

with_others : (n k : ℕ) (ms : List ℕ) → list_any (λ m. m == k) ms ≡ true → list_any (λ m. m == k) (with_number n ms) ≡ true
with_others n k [] e = absurd (cc)
with_others n k (m ∷ ms) e = elim (cases_Bool (nat_le n m)) [
  | inl le ↦ rw le (or_right (n == k) (list_any (λ j. j == k) (m ∷ ms)) e)
  | inr more ↦ elim (cases_Bool (m == k)) [
    | inl is ↦ rw (more, is) refl
    | inr isnt ↦ rw (more, isnt) (with_others n k ms (rw isnt at e))
  ]
]

pub unit_listed : (ls : List LunSpec) (d : DevAddr) → has_dev ls d ≡ true → list_any (λ n. n == d.lun) (target_luns ls (zero_of (target_of d))) ≡ true
unit_listed [] d e = absurd (cc)
unit_listed (l ∷ ls) d e = elim (cases_Bool ((l.dev.channel == d.channel) && (l.dev.target == d.target))) [
  | inl mine ↦ elim (cases_Bool (l.dev.lun == d.lun)) [
    | inl is ↦ rw mine (with_it l.dev.lun d.lun (target_luns ls (zero_of (target_of d))) is)
    | inr isnt ↦ rw mine (with_others l.dev.lun d.lun (target_luns ls (zero_of (target_of d))) (unit_listed ls d (later isnt)))
  ]
  | inr foreign ↦ rw foreign (unit_listed ls d (elsewhere foreign))
]
  where
    later : (l.dev.lun == d.lun) ≡ false → has_dev ls d ≡ true
    later isnt = grind (arith, nat_tests, e, isnt)

    elsewhere : ((l.dev.channel == d.channel) && (l.dev.target == d.target)) ≡ false → has_dev ls d ≡ true
    elsewhere foreign = grind (arith, nat_tests, e, foreign)

-- ---- a device's target is scanned

same_self : (t : Target) → same_target t t ≡ true
same_self t = grind (arith, nat_tests)

same_through : (t u v : Target) → same_target t u ≡ true → same_target t v ≡ true → same_target u v ≡ true
same_through t u v e f = grind (arith, nat_tests, e, f)

holds_it : (t v : Target) (us : List Target) → same_target t v ≡ true → list_any (λ u. same_target u v) (with_target t us) ≡ true
holds_it t v [] e = rw e refl
holds_it t v (u ∷ us) e = elim (cases_Bool (same_target t u)) [
  | inl same ↦ rw (same, same_through t u v same e) refl
  | inr other ↦ elim (cases_Bool (comes_before t u)) [
    | inl less ↦ rw (other, less, e) refl
    | inr more ↦ rw (other, more) (or_right (same_target u v) (list_any (λ w. same_target w v) (with_target t us)) (holds_it t v us e))
  ]
]

holds_others : (t v : Target) (us : List Target) → list_any (λ u. same_target u v) us ≡ true → list_any (λ u. same_target u v) (with_target t us) ≡ true
holds_others t v [] e = absurd (cc)
holds_others t v (u ∷ us) e = elim (cases_Bool (same_target t u)) [
  | inl same ↦ rw same e
  | inr other ↦ elim (cases_Bool (comes_before t u)) [
    | inl less ↦ rw (other, less) (or_right (same_target t v) (list_any (λ w. same_target w v) (u ∷ us)) e)
    | inr more ↦ elim (cases_Bool (same_target u v)) [
      | inl is ↦ rw (other, more, is) refl
      | inr isnt ↦ rw (other, more, isnt) (holds_others t v us (rw isnt at e))
    ]
  ]
]

on_target : (d e : DevAddr) → same_dev d e ≡ true → same_target (target_of d) (target_of e) ≡ true
on_target d e same = grind (arith, nat_tests, same)

pub target_scanned : (ds : List DevAddr) (e : DevAddr) → list_any (λ d. same_dev d e) ds ≡ true → list_any (λ u. same_target u (target_of e)) (targets_of ds) ≡ true
target_scanned [] e h = absurd (cc)
target_scanned (d ∷ ds) e h = elim (cases_Bool (same_dev d e)) [
  | inl is ↦ holds_it (target_of d) (target_of e) (targets_of ds) (on_target d e is)
  | inr isnt ↦ holds_others (target_of d) (target_of e) (targets_of ds) (target_scanned ds e (rw isnt at h))
]

-- ---- it is found where its target tells its units

same_is : (t u : Target) → same_target t u ≡ true → t ≡ u
same_is t u e =
    let parts = and_parts (t.channel == u.channel) (t.target == u.target) e in
    ap (λ (n : ℕ). record { channel = n; target = t.target }) (eqb-true t.channel u.channel parts.0) ∙ ap (λ (n : ℕ). record { channel = u.channel; target = n }) (eqb-true t.target u.target parts.1)

if_told : (q : Bool) (k : ℕ) (ns : List ℕ) → list_any (λ n. n == k) ns ≡ true → list_any (λ n. n == k) (if q then ns else []) ≡ q
if_told true k ns e = e
if_told false k ns e = refl

own_finding : (s : HostSpec) (e : DevAddr) → has_dev s.luns e ≡ true → list_any (λ n. n == e.lun) (finding_of s (target_of e)).numbers ≡ answers s (target_of e)
own_finding s e there = if_told (answers s (target_of e)) e.lun (target_luns s.luns (zero_of (target_of e))) (unit_listed s.luns e there)

lists_own : (s : HostSpec) (t : Target) (e : DevAddr) → has_dev s.luns e ≡ true → same_target t (target_of e) ≡ true → lists e (finding_of s t) ≡ answers s (target_of e)
lists_own s t e there same =
    ap (λ (q : Bool). q && list_any (λ n. n == e.lun) (finding_of s t).numbers) same
    ∙ (ap (λ (u : Target). list_any (λ n. n == e.lun) (finding_of s u).numbers) (same_is t (target_of e) same) ∙ own_finding s e there)

lists_other : (s : HostSpec) (t : Target) (e : DevAddr) → same_target t (target_of e) ≡ false → lists e (finding_of s t) ≡ false
lists_other s t e other = ap (λ (q : Bool). q && list_any (λ n. n == e.lun) (finding_of s t).numbers) other

all_listed : (s : HostSpec) (e : DevAddr) → has_dev s.luns e ≡ true → (ts : List Target) → answers s (target_of e) ≡ false → list_any (lists e) (map (finding_of s) ts) ≡ false
all_listed s e there [] quiet = refl
all_listed s e there (t ∷ ts) quiet = elim (cases_Bool (same_target t (target_of e))) [
  | inl same ↦ rw (lists_own s t e there same ∙ quiet) (all_listed s e there ts quiet)
  | inr other ↦ rw (lists_other s t e other) (all_listed s e there ts quiet)
]

any_listed : (s : HostSpec) (e : DevAddr) → has_dev s.luns e ≡ true → (ts : List Target) → answers s (target_of e) ≡ true → list_any (λ u. same_target u (target_of e)) ts ≡ true
    → list_any (lists e) (map (finding_of s) ts) ≡ true
any_listed s e there [] loud h = absurd (cc)
any_listed s e there (t ∷ ts) loud h = elim (cases_Bool (same_target t (target_of e))) [
  | inl same ↦ rw (lists_own s t e there same ∙ loud) refl
  | inr other ↦ rw (lists_other s t e other) (any_listed s e there ts loud (rw other at h))
]

pub found_listed : (s : HostSpec) (ds : List DevAddr) (e : DevAddr) → has_dev s.luns e ≡ true → list_any (λ d. same_dev d e) ds ≡ true
    → list_any (lists e) (map (finding_of s) (targets_of ds)) ≡ answers s (target_of e)
found_listed s ds e there h = elim (cases_Bool (answers s (target_of e))) [
  | inl loud ↦ any_listed s e there (targets_of ds) loud (target_scanned ds e h) ∙ sym loud
  | inr quiet ↦ all_listed s e there (targets_of ds) quiet ∙ sym quiet
]

-- ---- the host with what was found

same_unit : (s : HostSpec) (ds : List DevAddr) (l : LunSpec) → has_dev s.luns l.dev ≡ true → unit_by ds (map (finding_of s) (targets_of ds)) l ≡ unit_found ds s l
same_unit s ds l there = elim (cases_Bool (list_any (λ d. same_dev d l.dev) ds)) [
  | inl is ↦ rw is (ap (λ (q : Bool). record l { start = if q then Running else Del }) (found_listed s ds l.dev there is))
  | inr isnt ↦ rw isnt refl
]

dev_self : (d : DevAddr) → same_dev d d ≡ true
dev_self d = grind (arith, nat_tests)

same_units : (s : HostSpec) (ds : List DevAddr) (ls : List LunSpec) → ((d : DevAddr) → has_dev ls d ≡ true → has_dev s.luns d ≡ true)
    → map (unit_by ds (map (finding_of s) (targets_of ds))) ls ≡ map (unit_found ds s) ls
same_units s ds [] known = refl
same_units s ds (l ∷ ls) known =
    let here = known l.dev (rw (dev_self l.dev) refl) in
    ap (λ (x : LunSpec). x ∷ map (unit_by ds (map (finding_of s) (targets_of ds))) ls) (same_unit s ds l here)
    ∙ ap (λ (xs : List LunSpec). unit_found ds s l ∷ xs) (same_units s ds ls (λ d e. known d (or_right (same_dev l.dev d) (has_dev ls d) e)))

pub same_host : (s : HostSpec) (ds : List DevAddr) → record s { luns = map (unit_by ds (map (finding_of s) (targets_of ds))) s.luns } ≡ found ds s
same_host s ds = ap (λ (ls : List LunSpec). record s { luns = ls }) (same_units s ds s.luns (λ d e. e))
