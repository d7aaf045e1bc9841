-- The attempts that the adapter tells are those that its table has.
use Rattle.std.proofs.Common.{zero, suc, ◌≡◌, ℕ, ◌==◌, ◌⊎◌, ◌↔◌, Bool, true, false, if◌then◌else◌, List, [], ◌∷◌, map, Option, None, Some, refl, sym, ap, ◌∙◌, subst, inl, inr, ⊎_elim, eq-eqb}
use Rattle.std.specs.Prelude.{slice_index_or}
use Rattle.std.specs.List.{list_any}
use Rattle.std.proofs.lemmas.Bool.{le-leb}
use Rattle.slab.specs.Slab.{Slab}
use Rattle.mid_base.specs.declared.names.Attempt.{Attempt}
use Rattle.mid_base.specs.declared.names.DevAddr.{DevAddr}
use Rattle.mid_base.specs.declared.answers.Answer.{Answer}
use Rattle.mid_base.specs.declared.answers.Scope.{Scope}
use Rattle.mid_base.specs.declared.faults.PlanEntry.{PlanEntry}
use Rattle.mid_base.specs.declared.host_spec.HostSpec.{HostSpec}
use Rattle.mid_base.specs.declared.entries.Entry.{Entry}
use Rattle.mid_base.specs.Address.{in_scope}
use Rattle.host_template.specs.Standing.{Before, Unchanged}
use Rattle.host_template.specs.declared.queued.Queued.TheVariants.{Taken}
use Rattle.host_template.specs.declared.queued.Queued.{Queued}
use Rattle.host_template.specs.declared.says.EhSay.{EhSay}
use Rattle.host_template.specs.declared.says.TimerSay.{TimerSay}
use Rattle.host_template.specs.declared.says.TimerSay.TheVariants.{Done}
use Rattle.mid_base.specs.declared.faults.Fault.{Fault}
use Rattle.mid_base.specs.declared.faults.Fault.TheVariants.{HostBusy}
use Rattle.host_template.specs.declared.says.EhSay.TheVariants.{Success, Failed}
use Rattle.host_template.specs.Meaning.{Holds, IsFree, NothingAdded, SameMeaning, HonestQueue, HonestWork, HonestReset}
use Rattle.fault_plan.specs.declared.class.Class.{Class}
use Rattle.adapter_tables.specs.declared.held.Held.{Held}
use Rattle.adapter_tables.specs.declared.counts.CountRow.{CountRow}
use Rattle.adapter_tables.specs.declared.device_rows.UnitRow.{UnitRow}
use Rattle.adapter_tables.specs.Held.{is_attempt, due_from, is_due}
use Rattle.adapter_tables.specs.Tests.{passes}
use Rattle.adapter_tables.specs.Ties.{IsKept, IsLeast, WereKept, any_due}
use Rattle.adapter_tables.specs.Units.{unit}
use Rattle.adapter_tables.proofs.UnitLaws.{units_kept}
use Rattle.adapter_tables.specs.Answering.{Resets, busy_by}
use Rattle.adapter_tables.proofs.Tables.{kept_in, any_found}
use Rattle.debug_adapter.specs.Means.{pair_of, means_of}
use Rattle.debug_adapter.specs.Stands.{Stands, TimedTable}

-- an attempt that is told stands in the table
slots_told : (xs : List (Option Held)) (n : ℕ) (d : DevAddr) → Holds (map pair_of (kept_in xs)) n d → (h : Held) × ((key : ℕ) × (slice_index_or xs key None ≡ Some h)) × (h.n.0 ≡ n) × (h.dev ≡ d)
slots_told [] n d i = absurd i
slots_told (None ∷ xs) n d i = let r = slots_told xs n d i in (r.0, (suc r.1.0, r.1.1), r.2, r.3)
slots_told (Some x ∷ xs) n d (inl e) = (x, (zero, refl), e.0, e.1)
slots_told (Some x ∷ xs) n d (inr i) = let r = slots_told xs n d i in (r.0, (suc r.1.0, r.1.1), r.2, r.3)

pub told : (t : Slab Held) (n : ℕ) (d : DevAddr) → Holds (means_of t).holds n d → (h : Held) × IsKept t h × (h.n.0 ≡ n) × (h.dev ≡ d)
told t n d i = slots_told t.slots n d i

-- and the other way round
slots_tell : (xs : List (Option Held)) (key : ℕ) (h : Held) → slice_index_or xs key None ≡ Some h → Holds (map pair_of (kept_in xs)) h.n.0 h.dev
slots_tell [] key h e = absurd (cc e)
slots_tell (None ∷ xs) zero h e = absurd (cc e)
slots_tell (None ∷ xs) (suc key) h e = slots_tell xs key h e
slots_tell (Some x ∷ xs) zero h e = let same : x ≡ h = cc e in inl (ap (λ (y : Held). y.n.0) same, ap (λ (y : Held). y.dev) same)
slots_tell (Some x ∷ xs) (suc key) h e = inr (slots_tell xs key h e)

pub tells : (t : Slab Held) (h : Held) (n : ℕ) (d : DevAddr) → IsKept t h → h.n.0 ≡ n → h.dev ≡ d → Holds (means_of t).holds n d
tells t h n d kept e q = subst (λ (m : ℕ). Holds (means_of t).holds m d) e (subst (λ (x : DevAddr). Holds (means_of t).holds h.n.0 x) q (slots_tell t.slots kept.0 h kept.1))

-- each attempt of the new table is one of the old, but for its due tick
pub adds_none : (t new : Slab Held) → ((g : Held) → IsKept new g → (h : Held) × IsKept t h × (h.n.0 ≡ g.n.0) × (h.dev ≡ g.dev)) → NothingAdded (means_of t) (means_of new)
adds_none t new from n d i =
    let r = told new n d i in
    let o = from r.0 r.1 in
    tells t o.0 n d o.1 (o.2 ∙ r.2) (o.3 ∙ r.3)

pub same_adds_none : (t new : Slab Held) → ((g : Held) → IsKept new g → IsKept t g) → NothingAdded (means_of t) (means_of new)
same_adds_none t new from = adds_none t new (λ g k. (g, from g k, refl, refl))

pub gone_free : (t : Slab Held) (n : ℕ) → ((g : Held) → IsKept t g → is_attempt n g ≡ false) → IsFree (means_of t) n
gone_free t n off d i = let r = told t n d i in cc (sym (off r.0 r.1) ∙ eq-eqb r.0.n.0 n r.2)

-- ---- want of memory: the slots are those that there were

pub kept_same : (t u : Slab Held) → u.slots ≡ t.slots → (g : Held) → IsKept u g ↔ IsKept t g
kept_same t u e g = (
  (λ k. (k.0, sym (ap (λ (xs : List (Option Held)). slice_index_or xs k.0 None) e) ∙ k.1)),
  (λ k. (k.0, ap (λ (xs : List (Option Held)). slice_index_or xs k.0 None) e ∙ k.1)),
)

pub due_same : (t u : Slab Held) → u.slots ≡ t.slots → (now : ℕ) → any_due u now ≡ any_due t now
due_same t u e now = ap (λ (xs : List (Option Held)). list_any (λ h. is_due now h.due) (kept_in xs)) e

pub stands_same : (plan : List PlanEntry) (t u : Slab Held) (rows : List CountRow) (units : List UnitRow) (s : HostSpec) (b : Before) (P : List Entry) → u.slots ≡ t.slots
    → Stands plan t rows units s b P → Stands plan u rows units s b P
stands_same plan t u rows units s b P e old = (
  old.0,
  old.1,
  (λ n h. ((λ q. let i = (old.2 n h).0 q in (i.0, (kept_same t u e h).1 i.1)), (λ i. (old.2 n h).1 (i.0, (kept_same t u e h).0 i.1)))),
  old.3,
  old.4,
  old.5,
)

pub means_same : (t u : Slab Held) → u.slots ≡ t.slots → SameMeaning (means_of t) (means_of u)
means_same t u e = record {
  nature = record { honest = refl; tells = refl };
  holds = λ n d. (
    (λ i. subst (λ (xs : List (Option Held)). Holds (map pair_of (kept_in xs)) n d) e i),
    (λ i. subst (λ (xs : List (Option Held)). Holds (map pair_of (kept_in xs)) n d) (sym e) i),
  );
}

-- ---- the calls

pub honest_taken : (t mid new : Slab Held) (n : Attempt) (dev : DevAddr) (h : Held) → ((g : Held) → IsKept mid g ↔ (IsKept t g × (is_attempt n.0 g ≡ false)))
    → ((g : Held) → IsKept new g ↔ (IsKept mid g ⊎ (h ≡ g))) → h.n ≡ n → h.dev ≡ dev → HonestQueue n.0 dev Taken (means_of t) (means_of new)
honest_taken t mid new n dev h gone more number at = (
  tells new h n.0 dev ((more h).1 (inr refl)) (ap (λ (m : Attempt). m.0) number) at,
  (λ d i. let r = told new n.0 d i in ⊎_elim
      (λ old. absurd (cc (sym ((gone r.0).0 old).1 ∙ eq-eqb r.0.n.0 n.0 r.2)))
      (λ q. sym r.3 ∙ (ap (λ (y : Held). y.dev) (sym q) ∙ at))
      ((more r.0).0 r.1)),
  (λ m d ne i. let r = told new m d i in ⊎_elim
      (λ old. tells t r.0 m d ((gone r.0).0 old).0 r.2 r.3)
      (λ q. absurd (ne (sym r.2 ∙ (ap (λ (y : Held). y.n.0) (sym q) ∙ ap (λ (k : Attempt). k.0) number))))
      ((more r.0).0 r.1)),
)

pub honest_gone : (t new : Slab Held) (n : Attempt) → ((g : Held) → IsKept new g ↔ (IsKept t g × (is_attempt n.0 g ≡ false))) → IsFree (means_of new) n.0 × NothingAdded (means_of t) (means_of new)
honest_gone t new n gone = (gone_free new n.0 (λ g k. ((gone g).0 k).1), same_adds_none t new (λ g k. ((gone g).0 k).0))

pub honest_work : (t new : Slab Held) (h : Held) (a : Answer) → IsKept t h → ((g : Held) → IsKept new g ↔ (IsKept t g × (is_attempt h.n.0 g ≡ false))) → HonestWork (h.n, a) (means_of t) (means_of new)
honest_work t new h a kept gone = let r = honest_gone t new h.n gone in ((h.dev, tells t h h.n.0 h.dev kept refl refl), r.0, r.1)

due_keeps : (n now : ℕ) (h : Held) → ((due_from n now h).n ≡ h.n) × ((due_from n now h).dev ≡ h.dev)
due_keeps n now h = by (h.n.0 == n)
  where
    by : (x : Bool) → ((if x then record h { due = Some now } else h).n ≡ h.n) × ((if x then record h { due = Some now } else h).dev ≡ h.dev)
    by true = (refl, refl)
    by false = (refl, refl)

pub honest_due : (t new : Slab Held) (n now : ℕ) → ((g : Held) → IsKept new g ↔ ((h : Held) × IsKept t h × (due_from n now h ≡ g))) → NothingAdded (means_of t) (means_of new)
honest_due t new n now changed = adds_none t new (λ g k.
    let r = (changed g).0 k in
    let q = due_keeps n now r.0 in
    (r.0, r.1, ap (λ (m : Attempt). m.0) (sym q.0) ∙ ap (λ (y : Held). y.n.0) r.2, sym q.1 ∙ ap (λ (y : Held). y.dev) r.2))

pub honest_reset : (plan : List PlanEntry) (t new : Slab Held) (rows rows' : List CountRow) (units units' : List UnitRow) (scope : Scope) (class : Class) (say : EhSay) → Resets plan t new rows rows' units units' scope class say
    → HonestReset scope say (means_of t) (means_of new)
honest_reset plan t new rows rows' units units' scope class Success was = (
  (λ n d i. let r = told new n d i in subst (λ (x : DevAddr). in_scope scope x ≡ false) r.3 ((was.1 r.0).0 r.1).1),
  same_adds_none t new (λ g k. ((was.1 g).0 k).0),
)
honest_reset plan t new rows rows' units units' scope class Failed was = same_adds_none t new (λ g k. subst (λ (x : Slab Held). IsKept x g) was.1 k)

-- ---- whether one is due

pub least_some : (now : ℕ) (t : Slab Held) (h : Held) → IsLeast (IsKept t) now (Some h) → any_due t now ≡ true
least_some now t h is = any_found (λ g. is_due now g.due) t.slots is.0.0 (ap (passes (λ g. is_due now g.due)) is.0.1 ∙ (rw is.2 (le-leb is.1 now is.3)))

none_in : (now : ℕ) (xs : List (Option Held)) → ((g : Held) (key : ℕ) → slice_index_or xs key None ≡ Some g → is_due now g.due ≡ false) → list_any (λ g. is_due now g.due) (kept_in xs) ≡ false
none_in now [] off = refl
none_in now (None ∷ xs) off = none_in now xs (λ g key e. off g (suc key) e)
none_in now (Some x ∷ xs) off = rw (off x zero refl) (none_in now xs (λ g key e. off g (suc key) e))

pub least_none : (now : ℕ) (t : Slab Held) → IsLeast (IsKept t) now None → any_due t now ≡ false
least_none now t off = none_in now t.slots (λ g key e. off g (key, e))

-- ---- what the calls need of both

-- an attempt that is let go after room was made
pub gone_same : (t u new : Slab Held) (n : Attempt) → u.slots ≡ t.slots → ((g : Held) → IsKept new g ↔ (IsKept u g × (is_attempt n.0 g ≡ false)))
    → (g : Held) → IsKept new g ↔ (IsKept t g × (is_attempt n.0 g ≡ false))
gone_same t u new n e gone g = (
  (λ k. let r = (gone g).0 k in ((kept_same t u e g).0 r.0, r.1)),
  (λ k. (gone g).1 ((kept_same t u e g).1 k.0, k.1)),
)

pub honest_busy : (t new : Slab Held) (n : Attempt) (dev : DevAddr) (f : Fault) (q : Queued) → q ≡ busy_by f → ((g : Held) → IsKept new g ↔ (IsKept t g × (is_attempt n.0 g ≡ false)))
    → HonestQueue n.0 dev q (means_of t) (means_of new)
honest_busy t new n dev f q e gone = subst (λ (x : Queued). HonestQueue n.0 dev x (means_of t) (means_of new)) (sym e) (by f)
  where
    by : (f : Fault) → HonestQueue n.0 dev (busy_by f) (means_of t) (means_of new)
    by HostBusy = honest_gone t new n gone
    by f = honest_gone t new n gone

pub honest_timed : (t new : Slab Held) (n : Attempt) (now : ℕ) (say : TimerSay) → TimedTable n now say t new → NothingAdded (means_of t) (means_of new)
honest_timed t new n now Done table = honest_due t new n.0 now table
honest_timed t new n now say table = same_adds_none t new (λ g k. subst (λ (x : Slab Held). IsKept x g) table k)

pub room_made : (plan : List PlanEntry) (t u : Slab Held) (rows : List CountRow) (units : List UnitRow) → u.slots ≡ t.slots
    → Unchanged (λ s b P. Stands plan t rows units s b P) (λ s b P. Stands plan u rows units s b P) (any_due t) (any_due u)
room_made plan t u rows units e = record { stands = λ s b P old. stands_same plan t u rows units s b P e old; due = due_same t u e }

pub units_still : (plan : List PlanEntry) (t : Slab Held) (rows : List CountRow) (units new : List UnitRow) → WereKept units new
    → Unchanged (λ s b P. Stands plan t rows units s b P) (λ s b P. Stands plan t rows new s b P) (any_due t) (any_due t)
units_still plan t rows units new kept = record {
  stands = λ s b P old. (old.0, old.1, old.2, old.3, units_kept s.luns (unit s b P) s.luns units new kept old.4, old.5);
  due = λ now. refl;
}
