-- The adapter's laws: what leaves it standing where it stood.
use Rattle.std.specs.Prelude.{◌≡◌, ℕ, ◌+◌, ◌==◌, ◌&&◌, ◌⊎◌, min, Bool, true, false, if◌then◌else◌, List, [], ◌∷◌, Option, None, Some}
use Rattle.std.proofs.Common.{refl, sym, ap, ◌∙◌, subst, inl, inr, arith}
use Rattle.slab.specs.Slab.{Slab}
use Rattle.mid_base.specs.declared.names.CmdId.{CmdId}
use Rattle.mid_base.specs.declared.names.Attempt.{Attempt}
use Rattle.mid_base.specs.declared.names.DevAddr.{DevAddr}
use Rattle.mid_base.specs.declared.answers.Scope.{Scope}
use Rattle.mid_base.specs.declared.answers.Scope.TheVariants.{Cmd}
use Rattle.mid_base.specs.declared.answers.ProbeSay.{ProbeSay}
use Rattle.mid_base.specs.declared.host_spec.HostSpec.{HostSpec}
use Rattle.mid_base.specs.declared.host_spec.LunSpec.{LunSpec}
use Rattle.mid_base.specs.declared.faults.PlanEntry.{PlanEntry}
use Rattle.mid_base.specs.declared.entries.Entry.{Entry}
use Rattle.mid_base.specs.declared.entries.Entry.TheVariants.{Sent, Bounced, Ready, Due, Longer, DoneSaid, Aborted, Sensed, Act, Probe, Tick}
use Rattle.mid_base.specs.Past.{ticks}
use Rattle.mid_base.specs.Address.{same_dev}
use Rattle.mid_base.specs.Levels.{has_level}
use Rattle.host_template.specs.Standing.{Before, earlier, probes}
use Rattle.host_template.specs.Laws.{IsSilent, SilentLaw, TickLaw, ScanLaw, OnlyScans}
use Rattle.fault_plan.specs.declared.class.Class.{Class}
use Rattle.fault_plan.specs.declared.class.Class.TheVariants.{Queue, Abort, ResetDevice, ResetTarget, ResetBus, ResetHost, Probe as Probing}
use Rattle.debug_lun.specs.Units.{LogicalUnit}
use Rattle.adapter_tables.specs.declared.held.Held.{Held}
use Rattle.adapter_tables.specs.declared.counts.CountRow.{CountRow}
use Rattle.adapter_tables.specs.declared.device_rows.UnitRow.{UnitRow}
use Rattle.adapter_tables.specs.Counted.{counts, counted, counted_before}
use Rattle.adapter_tables.specs.Held.{held, is_attempt, lets_go, is_reset, is_due, is_due_held}
use Rattle.adapter_tables.specs.Tests.{passes}
use Rattle.adapter_tables.specs.Units.{unit, first_unit, is_answered, probed, target_luns}
use Rattle.adapter_tables.specs.Ties.{cap, HeldIs, IsKept, RowsAre, any_due}
use Rattle.adapter_tables.proofs.HeldLaws.{held_same}
use Rattle.adapter_tables.proofs.UnitLaws.{units_same}
use Rattle.adapter_tables.proofs.Tables.{any_found}
use Rattle.adapter_tables.proofs.ProbeLaws.{inquiry_keeps, report_keeps}
use Rattle.debug_adapter.specs.LowerRun.{act_ok, tells_act}
use Rattle.debug_adapter.specs.Stands.{Stands}

rows_same : (f g : DevAddr → Class → ℕ) → ((d : DevAddr) (x : Class) → g d x ≡ f d x) → (ls : List LunSpec) (rs : List CountRow) → RowsAre f ls rs → RowsAre g ls rs
rows_same f g same [] [] is = tt
rows_same f g same [] (r ∷ rs) is = absurd is
rows_same f g same (l ∷ ls) [] is = absurd is
rows_same f g same (l ∷ ls) (r ∷ rs) is = ((is.0.0, (λ x. is.0.1 x ∙ ap (λ (k : ℕ). min k cap) (sym (same l.dev x)))), rows_same f g same ls rs is.1)

not_counted : (s : HostSpec) (b : Before) (P : List Entry) (e : Entry) → ((d : DevAddr) (x : Class) → counts s e P d x ≡ false) → (d : DevAddr) (x : Class) → counted s b (e ∷ P) d x ≡ counted s b P d x
not_counted s b P e off d x = rw (off d x) refl

aborted_off : (s : HostSpec) (P : List Entry) (c : CmdId) (n : Attempt) → has_level s.handlers 2 ≡ false → (d : DevAddr) (x : Class) → counts s (Aborted c n false) P d x ≡ false
aborted_off s P c n off d Abort = rw off refl
aborted_off s P c n off d Queue = refl
aborted_off s P c n off d x = refl

-- an act whose effects are none
pub act_law : (plan : List PlanEntry) (t : Slab Held) (rows : List CountRow) (units : List UnitRow) (s : HostSpec) (b : Before) (P : List Entry) (level : ℕ) (scope : Scope) (ok : Bool)
    → ((h : Held) → ok && lets_go level scope P h ≡ false) → ((d : DevAddr) (x : Class) → counts s (Act level scope ok) P d x ≡ false) → ok && is_reset level ≡ false
    → (tells_act level ≡ true → ok ≡ act_ok s b P level scope) → Stands plan t rows units s b P → Stands plan t rows units s b (Act level scope ok ∷ P)
act_law plan t rows units s b P level scope ok kept off calm told old = (
  old.0,
  old.1,
  held_same (λ h. ok && lets_go level scope P h) (held s b P) (IsKept t) kept old.2,
  rows_same (counted s b P) (counted s b (Act level scope ok ∷ P)) (not_counted s b P (Act level scope ok) off) s.luns rows old.3,
  units_same s.luns (unit s b P) (unit s b (Act level scope ok ∷ P)) (λ d. rw calm refl) s.luns units old.4,
  (told, old.5),
)

and_off : (a : Bool) → a && false ≡ false
and_off true = refl
and_off false = refl

abort_off : (s : HostSpec) (P : List Entry) (scope : Scope) → has_level s.handlers 2 ≡ false → (d : DevAddr) (x : Class) → counts s (Act 2 scope false) P d x ≡ false
abort_off s P scope off d Abort = rw off refl
abort_off s P scope off d x = refl

device_off : (s : HostSpec) (P : List Entry) (scope : Scope) → has_level s.handlers 4 ≡ false → (d : DevAddr) (x : Class) → counts s (Act 4 scope false) P d x ≡ false
device_off s P scope off d ResetDevice = rw off refl
device_off s P scope off d x = refl

target_off : (s : HostSpec) (P : List Entry) (scope : Scope) → has_level s.handlers 5 ≡ false → (d : DevAddr) (x : Class) → counts s (Act 5 scope false) P d x ≡ false
target_off s P scope off d ResetTarget = rw off refl
target_off s P scope off d x = refl

bus_off : (s : HostSpec) (P : List Entry) (scope : Scope) → has_level s.handlers 6 ≡ false → (d : DevAddr) (x : Class) → counts s (Act 6 scope false) P d x ≡ false
bus_off s P scope off d ResetBus = rw off refl
bus_off s P scope off d x = refl

host_off : (s : HostSpec) (P : List Entry) (scope : Scope) → has_level s.handlers 7 ≡ false → (d : DevAddr) (x : Class) → counts s (Act 7 scope false) P d x ≡ false
host_off s P scope off d ResetHost = rw off refl
host_off s P scope off d x = refl

start_off : (s : HostSpec) (P : List Entry) (scope : Scope) (ok : Bool) (d : DevAddr) (x : Class) → counts s (Act 3 scope ok) P d x ≡ false
start_off s P scope ok d Abort = refl
start_off s P scope ok d x = refl

offline_off : (s : HostSpec) (P : List Entry) (scope : Scope) (ok : Bool) (d : DevAddr) (x : Class) → counts s (Act 8 scope ok) P d x ≡ false
offline_off s P scope ok d Abort = refl
offline_off s P scope ok d x = refl

start_keeps : (P : List Entry) (scope : Scope) (ok : Bool) (h : Held) → ok && lets_go 3 scope P h ≡ false
start_keeps P (Cmd c) ok h = and_off ok
start_keeps P scope ok h = and_off ok

offline_keeps : (P : List Entry) (scope : Scope) (ok : Bool) (h : Held) → ok && lets_go 8 scope P h ≡ false
offline_keeps P (Cmd c) ok h = and_off ok
offline_keeps P scope ok h = and_off ok

-- an abort or a reset without its callback isn't ok
not_ok : (s : HostSpec) (b : Before) (P : List Entry) (level : ℕ) (scope : Scope) → level == 1 ≡ false → has_level s.handlers level ≡ false → false ≡ act_ok s b P level scope
not_ok s b P level (Cmd c) one off = rw (one, off) refl
not_ok s b P level scope one off = rw off refl

module _ (plan : List PlanEntry) (t : Slab Held) (rows : List CountRow) (units : List UnitRow) (s : HostSpec) (b : Before) (P : List Entry) (scope : Scope) (old : Stands plan t rows units s b P) where
  omitted_at : (level : ℕ) → ((d : DevAddr) (x : Class) → counts s (Act level scope false) P d x ≡ false) → false ≡ act_ok s b P level scope → Stands plan t rows units s b (Act level scope false ∷ P)
  omitted_at level counting told = act_law plan t rows units s b P level scope false (λ h. refl) counting refl (λ _. told) old

  omitted : (level : ℕ) → has_level s.handlers level ≡ false → ((level ≡ 2) ⊎ (level ≡ 4) ⊎ (level ≡ 5) ⊎ (level ≡ 6) ⊎ (level ≡ 7)) → Stands plan t rows units s b (Act level scope false ∷ P)
  omitted level off which = by which
    where
      to : (k : ℕ) → level ≡ k → Stands plan t rows units s b (Act k scope false ∷ P) → Stands plan t rows units s b (Act level scope false ∷ P)
      to k e x = subst (λ (m : ℕ). Stands plan t rows units s b (Act m scope false ∷ P)) (sym e) x

      none : (k : ℕ) → level ≡ k → has_level s.handlers k ≡ false
      none k e = subst (λ (m : ℕ). has_level s.handlers m ≡ false) e off

      by : (level ≡ 2) ⊎ (level ≡ 4) ⊎ (level ≡ 5) ⊎ (level ≡ 6) ⊎ (level ≡ 7) → Stands plan t rows units s b (Act level scope false ∷ P)
      by (inl e) = to 2 e (omitted_at 2 (abort_off s P scope (none 2 e)) (not_ok s b P 2 scope refl (none 2 e)))
      by (inr (inl e)) = to 4 e (omitted_at 4 (device_off s P scope (none 4 e)) (not_ok s b P 4 scope refl (none 4 e)))
      by (inr (inr (inl e))) = to 5 e (omitted_at 5 (target_off s P scope (none 5 e)) (not_ok s b P 5 scope refl (none 5 e)))
      by (inr (inr (inr (inl e)))) = to 6 e (omitted_at 6 (bus_off s P scope (none 6 e)) (not_ok s b P 6 scope refl (none 6 e)))
      by (inr (inr (inr (inr e)))) = to 7 e (omitted_at 7 (host_off s P scope (none 7 e)) (not_ok s b P 7 scope refl (none 7 e)))

  act_silent : (level : ℕ) (ok : Bool) → IsSilent s (Act level scope ok) → Stands plan t rows units s b (Act level scope ok ∷ P)
  act_silent level ok (inl e) = subst (λ (m : ℕ). Stands plan t rows units s b (Act m scope ok ∷ P)) (sym e)
      (act_law plan t rows units s b P 3 scope ok (start_keeps P scope ok) (start_off s P scope ok) (and_off ok) (λ q. absurd (cc q)) old)
  act_silent level ok (inr (inl e)) = subst (λ (m : ℕ). Stands plan t rows units s b (Act m scope ok ∷ P)) (sym e)
      (act_law plan t rows units s b P 8 scope ok (offline_keeps P scope ok) (offline_off s P scope ok) (and_off ok) (λ q. absurd (cc q)) old)
  act_silent level ok (inr (inr q)) = subst (λ (u : Bool). Stands plan t rows units s b (Act level scope u ∷ P)) (sym q.1) (omitted level q.0 q.2)

pub silent_law : (plan : List PlanEntry) (t : Slab Held) (rows : List CountRow) (units : List UnitRow) → SilentLaw (λ s b P. Stands plan t rows units s b P)
silent_law plan t rows units s b P (Aborted c n ok) quiet old = subst (λ (u : Bool). Stands plan t rows units s b (Aborted c n u ∷ P)) (sym quiet.1) (
  old.0,
  old.1,
  held_same (λ h. false && is_attempt n.0 h) (held s b P) (IsKept t) (λ h. refl) old.2,
  rows_same (counted s b P) (counted s b (Aborted c n false ∷ P)) (not_counted s b P (Aborted c n false) (aborted_off s P c n quiet.0)) s.luns rows old.3,
  old.4,
  (rw quiet.0 refl, old.5),
)
silent_law plan t rows units s b P (Act level scope ok) quiet old = act_silent plan t rows units s b P scope old level ok quiet
silent_law plan t rows units s b P (Sent c n tag) quiet old = absurd quiet
silent_law plan t rows units s b P (Bounced c n why) quiet old = absurd quiet
silent_law plan t rows units s b P (Ready n a) quiet old = absurd quiet
silent_law plan t rows units s b P (Due n) quiet old = absurd quiet
silent_law plan t rows units s b P (Longer n) quiet old = absurd quiet
silent_law plan t rows units s b P (DoneSaid n) quiet old = absurd quiet
silent_law plan t rows units s b P (Sensed c n bytes) quiet old = absurd quiet
silent_law plan t rows units s b P (Probe d code say) quiet old = absurd quiet
silent_law plan t rows units s b P Tick quiet old = absurd quiet
silent_law plan t rows units s b P e quiet old = old

-- ---- time

none_due : (f : ℕ → Option Held) (t : Slab Held) (now n : ℕ) (o : Option Held) → HeldIs f (IsKept t) → any_due t now ≡ false → f n ≡ o → is_due_held now o ≡ false
none_due f t now n None is off e = refl
none_due f t now n (Some g) is off e = let kept = ((is n g).0 e).1 in by (is_due now g.due) refl kept
  where
    by : (u : Bool) → is_due now g.due ≡ u → IsKept t g → u ≡ false
    by false q kept = refl
    by true q kept = absurd (cc (sym off ∙ any_found (λ h. is_due now h.due) t.slots kept.0 (ap (passes (λ h. is_due now h.due)) kept.1 ∙ q)))

pub tick_law : (plan : List PlanEntry) (t : Slab Held) (rows : List CountRow) (units : List UnitRow) → TickLaw (λ s b P. Stands plan t rows units s b P) (λ now. any_due t now)
tick_law plan t rows units s b P off old = (old.0, old.1, old.2, old.3, old.4, ((λ n. none_due (held s b P) t (ticks P) n (held s b P n) old.2 off refl), old.5))

-- ---- scanning

scans_held : (s : HostSpec) (b : Before) (P : List Entry) (n : ℕ) → OnlyScans P → held s b P n ≡ None
scans_held s b [] n only = refl
scans_held s b (Probe d code say ∷ P) n only = scans_held s b P n only.1
scans_held s b (_ ∷ P) n only = absurd only

one_more : (u : Bool) (j k e : ℕ) → j ≡ e + k → (if u then j + 1 else j) ≡ e + (if u then k + 1 else k)
one_more true j k e q = omega (arith, q)
one_more false j k e q = q

scans_probes : (s : HostSpec) (b : Before) (P : List Entry) (d : DevAddr) → OnlyScans P → counted s b P d Probing ≡ earlier b d + probes d P
scans_probes s b [] d only = omega arith
scans_probes s b (Probe e code say ∷ P) d only = one_more (same_dev e d) (counted s b P d Probing) (probes d P) (earlier b d) (scans_probes s b P d only.1)
scans_probes s b (_ ∷ P) d only = absurd only

scans_none : (s : HostSpec) (b : Before) (P : List Entry) (d : DevAddr) (x : Class) → ((Q : List Entry) (e : DevAddr) (code : ℕ) (say : ProbeSay) → counts s (Probe e code say) Q d x ≡ false)
    → counted_before b d x ≡ 0 → OnlyScans P → counted s b P d x ≡ 0
scans_none s b [] d x off z only = z
scans_none s b (Probe e code say ∷ P) d x off z only = rw (off P e code say) (scans_none s b P d x off z only.1)
scans_none s b (_ ∷ P) d x off z only = absurd only

scans_counted : (s : HostSpec) (b c : Before) (P : List Entry) (d : DevAddr) (x : Class) → OnlyScans P → earlier c d ≡ earlier b d + probes d P → counted s b P d x ≡ counted_before c d x
scans_counted s b c P d Probing only same = scans_probes s b P d only ∙ sym same
scans_counted s b c P d Queue only same = scans_none s b P d Queue (λ Q e code say. refl) refl only
scans_counted s b c P d x only same = scans_none s b P d x (λ Q e code say. refl) refl only

scans_unit : (s : HostSpec) (b : Before) (P : List Entry) (d : DevAddr) → OnlyScans P → unit s b P d ≡ first_unit s.luns d
scans_unit s b [] d only = refl
scans_unit s b (Probe e code say ∷ P) d only = kept (is_answered say && same_dev e d) code (unit s b P d) only.0 ∙ scans_unit s b P d only.1
  where
    kept : (u : Bool) (k : ℕ) (x : LogicalUnit) → ((k ≡ 18) ⊎ (k ≡ 160)) → (if u then (probed (target_luns s.luns d) x k).unit else x) ≡ x
    kept true k x (inl q) = ap (λ (m : ℕ). (probed (target_luns s.luns d) x m).unit) q ∙ inquiry_keeps (target_luns s.luns d) x
    kept true k x (inr q) = ap (λ (m : ℕ). (probed (target_luns s.luns d) x m).unit) q ∙ report_keeps (target_luns s.luns d) x
    kept false k x q = refl
scans_unit s b (_ ∷ P) d only = absurd only

pub scan_law : (plan : List PlanEntry) (t : Slab Held) (rows : List CountRow) (units : List UnitRow) → ScanLaw (λ s b P. Stands plan t rows units s b P)
scan_law plan t rows units s b c P only same old = (
  old.0,
  old.1,
  (λ n h. ((λ e. absurd (cc e)), (λ i. sym (scans_held s b P n only) ∙ (old.2 n h).1 i))),
  rows_same (counted s b P) (counted s c []) (λ d x. sym (scans_counted s b c P d x only (same d))) s.luns rows old.3,
  units_same s.luns (unit s b P) (unit s c []) (λ d. sym (scans_unit s b P d only)) s.luns units old.4,
  tt,
)
