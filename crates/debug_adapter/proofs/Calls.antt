-- Timeouts, aborts and resets: the adapter stands where their entries leave the journal.
use Rattle.std.proofs.Common.{◌≡◌, ◌↔◌, ℕ, ◌+◌, ◌==◌, ◌&&◌, ◌||◌, min, Bool, true, false, not, is_some, if◌then◌else◌, List, [], ◌∷◌, map, Option, None, Some, refl, sym, ap, ◌∙◌, subst}
use Rattle.std.specs.Prelude.{option_map, find}
use Rattle.std.specs.List.{list_any}
use Rattle.slab.specs.Slab.{Slab}
use Rattle.mid_base.specs.declared.names.CmdId.{CmdId}
use Rattle.mid_base.specs.declared.names.Attempt.{Attempt}
use Rattle.mid_base.specs.declared.names.DevAddr.{DevAddr}
use Rattle.mid_base.specs.declared.answers.Scope.{Scope}
use Rattle.mid_base.specs.declared.answers.Scope.TheVariants.{Cmd, Dev, Target, Bus, Host}
use Rattle.mid_base.specs.declared.host_spec.CmdSpec.{CmdSpec}
use Rattle.mid_base.specs.declared.host_spec.LunSpec.{LunSpec}
use Rattle.mid_base.specs.declared.host_spec.HostSpec.{HostSpec}
use Rattle.mid_base.specs.declared.faults.PlanEntry.{PlanEntry}
use Rattle.mid_base.specs.declared.faults.Fault.{Fault}
use Rattle.mid_base.specs.declared.faults.Fault.TheVariants.{Longer as LongerHit, TimerDone}
use Rattle.mid_base.specs.declared.entries.Entry.{Entry}
use Rattle.mid_base.specs.declared.entries.Entry.TheVariants.{Due, Aborted, Act}
use Rattle.mid_base.specs.Past.{sent_for}
use Rattle.mid_base.specs.Address.{same_dev, in_scope, has_dev}
use Rattle.mid_base.specs.Levels.{has_level}
use Rattle.host_template.specs.Standing.{Before}
use Rattle.host_template.specs.declared.says.TimerSay.{TimerSay}
use Rattle.host_template.specs.declared.says.TimerSay.TheVariants.{Done, ResetTimer, NotHandled}
use Rattle.host_template.specs.declared.says.EhSay.{EhSay}
use Rattle.host_template.specs.declared.says.EhSay.TheVariants.{Success, Failed}
use Rattle.host_template.specs.Calls.{FitsLast, timed_out, succeeded, StandsTimed, StandsAborted, StandsReset}
use Rattle.fault_plan.specs.declared.class.Class.{Class}
use Rattle.fault_plan.specs.declared.class.Class.TheVariants.{Queue, Timer, Abort, ResetDevice, ResetTarget, ResetBus, ResetHost}
use Rattle.fault_plan.specs.Plan.{planned, class_of, same_class, is_hit, hits}
use Rattle.adapter_tables.specs.declared.held.Held.{Held}
use Rattle.adapter_tables.specs.declared.counts.CountRow.{CountRow}
use Rattle.adapter_tables.specs.declared.device_rows.UnitRow.{UnitRow}
use Rattle.adapter_tables.specs.Counted.{counts, counted, hit, hit_at, any_hit, device_of}
use Rattle.adapter_tables.specs.Held.{held, without, is_attempt, due_from, lets_go, is_reset}
use Rattle.adapter_tables.specs.Units.{unit}
use Rattle.debug_adapter.specs.LowerRun.{act_ok}
use Rattle.debug_adapter.specs.Stands.{Stands, TimedTable}
use Rattle.adapter_tables.specs.Ties.{cap, count_of, counted_row, any_hit_in, IsKept, HeldIs, RowsAre, Within, PlanSmall}
use Rattle.adapter_tables.specs.Answering.{say_by, Resets}
use Rattle.adapter_tables.proofs.HeldLaws.{held_without, held_same, held_changed}
use Rattle.adapter_tables.proofs.RowLaws.{touches, IsCalled, rows_map, row_counted, count_found, itself}
use Rattle.adapter_tables.proofs.UnitLaws.{units_reset}
use Rattle.adapter_tables.proofs.PlanLaws.{planned_capped}

and_right : (a : Bool) → a && true ≡ a
and_right true = refl
and_right false = refl

and_off : (a : Bool) → a && false ≡ false
and_off true = refl
and_off false = refl

and_parts : (a b : Bool) → a && b ≡ true → (a ≡ true) × (b ≡ true)
and_parts true b e = (refl, e)
and_parts false b e = absurd (cc e)

one_more : (t u : Bool) (k : ℕ) → t ≡ u → (if t then k + 1 else k) ≡ (if u then k + 1 else k)
one_more t u k e = ap (λ (x : Bool). if x then k + 1 else k) e

-- a planned fault is of its class
pub planned_class : (plan : List PlanEntry) (d : DevAddr) (class : Class) (k : ℕ) (f : Fault) → planned plan d class k ≡ Some f → same_class (class_of f) class ≡ true
planned_class [] d class k f e = absurd (cc e)
planned_class (x ∷ xs) d class k f e = by (is_hit d class k x) refl e (λ q. planned_class xs d class k f q)
  where
    by : (t : Bool) → is_hit d class k x ≡ t → option_map (λ (y : PlanEntry). y.fault) (if t then Some x else find (is_hit d class k) xs) ≡ Some f
        → (option_map (λ (y : PlanEntry). y.fault) (find (is_hit d class k) xs) ≡ Some f → same_class (class_of f) class ≡ true) → same_class (class_of f) class ≡ true
    by true h q rest = subst (λ (g : Fault). same_class (class_of g) class ≡ true) (cc q)
        (and_parts (same_dev x.dev d) (same_class (class_of x.fault) class) (and_parts (same_dev x.dev d && same_class (class_of x.fault) class) (hits x k) h).0).1
    by false h q rest = rest q

module _ (plan : List PlanEntry) (t : Slab Held) (rows : List CountRow) (units : List UnitRow) (s : HostSpec) (b : Before) (P : List Entry) (old : Stands plan t rows units s b P) where
  -- an entry that counts for one class on the devices of a scope
  pub rows_counted : (e : Entry) (scope : Scope) (class : Class) → IsCalled class → ((d : DevAddr) (x : Class) → counts s e P d x ≡ in_scope scope d && touches class x)
      → RowsAre (counted s b (e ∷ P)) s.luns (map (counted_row scope class) rows)
  rows_counted e scope class called more = rows_map (counted s b P) (counted s b (e ∷ P)) (counted_row scope class)
      (row_counted (counted s b P) (counted s b (e ∷ P)) scope class called (λ d x. one_more _ _ (counted s b P d x) (more d x)))
      s.luns rows old.3

  -- the number that the code counts finds the hit
  pub hit_next : (e : Entry) (dev : DevAddr) (class : Class) → IsCalled class → touches class class ≡ true → ((d : DevAddr) (x : Class) → counts s e P d x ≡ in_scope (Dev dev) d && touches class x)
      → has_dev s.luns dev ≡ true → planned plan dev class (count_of (map (counted_row (Dev dev) class) rows) dev class) ≡ hit s b P dev class
  hit_next e dev class called own more has =
      ap (planned plan dev class)
      (count_found (counted s b (e ∷ P)) dev class s.luns (map (counted_row (Dev dev) class) rows) has (rows_counted e (Dev dev) class called more)
      ∙ ap (λ (i : ℕ). min i cap) (one_more (counts s e P dev class) true (counted s b P dev class) (more dev class ∙ rw (own, itself dev) refl)))
      ∙ rw old.0 (planned_capped s.plan dev class (counted s b P dev class + 1) old.1.plan)

pub at_last : (s : HostSpec) (P : List Entry) (c : CmdId) (k : CmdSpec) (n : ℕ) (dev : DevAddr) → FitsLast s P c k n dev → device_of s c.0 ≡ Some dev
at_last s P c k n dev fits = ap (option_map (λ (q : CmdSpec). q.dev)) fits.command ∙ ap (λ (d : DevAddr). Some d) fits.dev_is

line_last : (s : HostSpec) (P : List Entry) (c : CmdId) (k : CmdSpec) (n : ℕ) (dev : DevAddr) → Within s → FitsLast s P c k n dev → has_dev s.luns dev ≡ true
line_last s P c k n dev w fits = subst (λ (d : DevAddr). has_dev s.luns d ≡ true) fits.dev_is (w.known c.0 k fits.command)

-- ---- timeouts

timer_counts : (s : HostSpec) (P : List Entry) (n : Attempt) (say : TimerSay) (dev d : DevAddr) (x : Class) → device_of s (sent_for n.0 P) ≡ Some dev
    → counts s (timed_out n say) P d x ≡ in_scope (Dev dev) d && touches Timer x
timer_counts s P n NotHandled dev d Timer e = rw e (sym (and_right (same_dev dev d)))
timer_counts s P n ResetTimer dev d Timer e = rw e (sym (and_right (same_dev dev d)))
timer_counts s P n Done dev d Timer e = rw e (sym (and_right (same_dev dev d)))
timer_counts s P n say dev d x e = sym (and_off (same_dev dev d))

due_keeps : (m t : ℕ) (h : Held) → (due_from m t h).n.0 ≡ h.n.0
due_keeps m t h = by (h.n.0 == m)
  where
    by : (x : Bool) → (if x then record h { due = Some t } else h).n.0 ≡ h.n.0
    by true = refl
    by false = refl

pub call_timed : (plan : List PlanEntry) (t new : Slab Held) (rows rows' : List CountRow) (units : List UnitRow) (n : Attempt) (dev : DevAddr) (now number : ℕ) (f : Option Fault) (q : TimerSay)
    → q ≡ say_by f → rows' ≡ map (counted_row (Dev dev) Timer) rows → TimedTable n now q t new
    → number ≡ count_of (map (counted_row (Dev dev) Timer) rows) dev Timer → f ≡ planned plan dev Timer number
    → StandsTimed (λ s b P. Stands plan t rows units s b P) (λ s b P. Stands plan new rows' units s b P) n dev now q
call_timed plan t new rows rows' units n dev now number f q e r table k p s b P c spec fits time old =
    rw r (subst (λ (x : TimerSay). TimedTable n now x t new → Stands plan new (map (counted_row (Dev dev) Timer) rows) units s b (timed_out n x ∷ P)) (sym e) (by f (sym p) told) table)
  where
    sent_dev : device_of s (sent_for n.0 P) ≡ Some dev
    sent_dev = ap (device_of s) fits.sent_for ∙ at_last s P c spec n.0 dev fits

    told : hit_at s b P (device_of s (sent_for n.0 P)) Timer ≡ f
    told = ap (λ (o : Option DevAddr). hit_at s b P o Timer) sent_dev
        ∙ (sym (hit_next plan t rows units s b P old (Due n) dev Timer tt refl (λ d x. timer_counts s P n NotHandled dev d x sent_dev) (line_last s P c spec n.0 dev old.1 fits))
        ∙ (ap (planned plan dev Timer) (sym k) ∙ sym p))

    counted_rows : (say : TimerSay) → RowsAre (counted s b (timed_out n say ∷ P)) s.luns (map (counted_row (Dev dev) Timer) rows)
    counted_rows say = rows_counted plan t rows units s b P old (timed_out n say) (Dev dev) Timer tt (λ d x. timer_counts s P n say dev d x sent_dev)

    by : (g : Option Fault) → planned plan dev Timer number ≡ g → hit_at s b P (device_of s (sent_for n.0 P)) Timer ≡ g
        → TimedTable n now (say_by g) t new → Stands plan new (map (counted_row (Dev dev) Timer) rows) units s b (timed_out n (say_by g) ∷ P)
    by None u h tab = rw tab (old.0, old.1, old.2, counted_rows NotHandled, old.4, (h, old.5))
    by (Some LongerHit) u h tab = rw tab (old.0, old.1, old.2, counted_rows ResetTimer, old.4, (h, old.5))
    by (Some TimerDone) u h tab = (
      old.0,
      old.1,
      subst (λ (i : ℕ). HeldIs (λ m. option_map (due_from n.0 i) (held s b P m)) (IsKept new)) time (held_changed (due_from n.0 now) (due_keeps n.0 now) (held s b P) (IsKept t) (IsKept new) tab old.2),
      counted_rows Done,
      old.4,
      (h, old.5),
    )
    by (Some g) u h tab = absurd (cc (planned_class plan dev Timer number g u))

-- ---- aborts

-- the table of held attempts after an abort
abbrev AbortedTable : Attempt → EhSay → Slab Held → Slab Held → Type 0
AbortedTable n Success t new = (g : Held) → IsKept new g ↔ (IsKept t g × (is_attempt n.0 g ≡ false))
AbortedTable n Failed t new = new ≡ t

-- what an abort says, given whether a fault hits
abbrev eh_by : Bool → EhSay
eh_by true = Failed
eh_by false = Success

abort_counts : (s : HostSpec) (P : List Entry) (c : CmdId) (n : Attempt) (ok : Bool) (dev d : DevAddr) (x : Class) → device_of s c.0 ≡ Some dev → has_level s.handlers 2 ≡ true
    → counts s (Aborted c n ok) P d x ≡ in_scope (Dev dev) d && touches Abort x
abort_counts s P c n ok dev d Abort e h = rw (e, h) (sym (and_right (same_dev dev d)))
abort_counts s P c n ok dev d Queue e h = sym (and_off (same_dev dev d))
abort_counts s P c n ok dev d x e h = sym (and_off (same_dev dev d))

act_counts : (s : HostSpec) (P : List Entry) (c : CmdId) (ok : Bool) (dev d : DevAddr) (x : Class) → device_of s c.0 ≡ Some dev → has_level s.handlers 2 ≡ true
    → counts s (Act 2 (Cmd c) ok) P d x ≡ in_scope (Dev dev) d && touches Abort x
act_counts s P c ok dev d Abort e h = rw (e, h) (sym (and_right (same_dev dev d)))
act_counts s P c ok dev d x e h = sym (and_off (same_dev dev d))

pub call_aborted : (plan : List PlanEntry) (t new : Slab Held) (rows rows' : List CountRow) (units : List UnitRow) (n : Attempt) (dev : DevAddr) (number : ℕ) (hitting : Bool)
    → rows' ≡ map (counted_row (Dev dev) Abort) rows → AbortedTable n (eh_by hitting) t new
    → number ≡ count_of (map (counted_row (Dev dev) Abort) rows) dev Abort → is_some (planned plan dev Abort number) ≡ hitting
    → StandsAborted (λ s b P. Stands plan t rows units s b P) (λ s b P. Stands plan new rows' units s b P) n dev (eh_by hitting)
call_aborted plan t new rows rows' units n dev number hitting r table k p s b P c spec fits has old = rw r (by hitting told table)
  where
    at_dev : device_of s c.0 ≡ Some dev
    at_dev = at_last s P c spec n.0 dev fits

    told : is_some (hit_at s b P (device_of s c.0) Abort) ≡ hitting
    told = ap (λ (o : Option DevAddr). is_some (hit_at s b P o Abort)) at_dev
        ∙ (ap (λ (o : Option Fault). is_some o) (sym (hit_next plan t rows units s b P old (Aborted c n true) dev Abort tt refl (λ d x. abort_counts s P c n true dev d x at_dev has) (line_last s P c spec n.0 dev old.1 fits)))
        ∙ (ap (λ (m : ℕ). is_some (planned plan dev Abort m)) (sym k) ∙ p))

    rows_aborted : (ok : Bool) → RowsAre (counted s b (Aborted c n ok ∷ P)) s.luns (map (counted_row (Dev dev) Abort) rows)
    rows_aborted ok = rows_counted plan t rows units s b P old (Aborted c n ok) (Dev dev) Abort tt (λ d x. abort_counts s P c n ok dev d x at_dev has)

    rows_act : (ok : Bool) → RowsAre (counted s b (Act 2 (Cmd c) ok ∷ P)) s.luns (map (counted_row (Dev dev) Abort) rows)
    rows_act ok = rows_counted plan t rows units s b P old (Act 2 (Cmd c) ok) (Dev dev) Abort tt (λ d x. act_counts s P c ok dev d x at_dev has)

    by : (u : Bool) → is_some (hit_at s b P (device_of s c.0) Abort) ≡ u → AbortedTable n (eh_by u) t new
        → Stands plan new (map (counted_row (Dev dev) Abort) rows) units s b (Aborted c n (succeeded (eh_by u)) ∷ P)
        × Stands plan new (map (counted_row (Dev dev) Abort) rows) units s b (Act 2 (Cmd c) (succeeded (eh_by u)) ∷ P)
    by true h tab = rw tab (
      (old.0, old.1, held_same (λ g. false && is_attempt n.0 g) (held s b P) (IsKept t) (λ g. refl) old.2, rows_aborted false, old.4, (rw (has, h) refl, old.5)),
      (old.0, old.1, held_same (λ g. false && lets_go 2 (Cmd c) P g) (held s b P) (IsKept t) (λ g. refl) old.2, rows_act false, old.4, ((λ _. rw (has, h) refl), old.5)),
    )
    by false h tab = (
      (old.0, old.1, held_without (is_attempt n.0) (held s b P) (IsKept t) (IsKept new) tab old.2, rows_aborted true, old.4, (rw (has, h) refl, old.5)),
      (old.0, old.1, subst (λ (m : ℕ). HeldIs (λ i. without (is_attempt m) (held s b P i)) (IsKept new)) (sym fits.last) (held_without (is_attempt n.0) (held s b P) (IsKept t) (IsKept new) tab old.2), rows_act true, old.4, ((λ _. rw (has, h) refl), old.5)),
    )

-- ---- resets

any_same : (plan : List PlanEntry) (f g : DevAddr → Class → ℕ) (scope : Scope) (class : Class) → PlanSmall plan
    → ((d : DevAddr) → in_scope scope d ≡ true → g d class ≡ f d class + 1) → (ls : List LunSpec) (rs : List CountRow) → RowsAre g ls rs
    → any_hit_in plan rs scope class ≡ list_any (λ l. in_scope scope l.dev && is_some (planned plan l.dev class (f l.dev class + 1))) ls
any_same plan f g scope class small more [] [] is = refl
any_same plan f g scope class small more [] (r ∷ rs) is = absurd is
any_same plan f g scope class small more (l ∷ ls) [] is = absurd is
any_same plan f g scope class small more (l ∷ ls) (r ∷ rs) is =
    rw (is.0.0, is.0.1 class, any_same plan f g scope class small more ls rs is.1) (ap (λ (x : Bool). x || list_any (λ y. in_scope scope y.dev && is_some (planned plan y.dev class (f y.dev class + 1))) ls) (by (in_scope scope l.dev) refl))
  where
    by : (x : Bool) → in_scope scope l.dev ≡ x → x && is_some (planned plan l.dev class (min (g l.dev class) cap)) ≡ x && is_some (planned plan l.dev class (f l.dev class + 1))
    by false e = refl
    by true e = ap (λ (k : ℕ). is_some (planned plan l.dev class (min k cap))) (more l.dev e) ∙ ap (λ (o : Option Fault). is_some o) (planned_capped plan l.dev class (f l.dev class + 1) small)

module _ (level : ℕ) (scope : Scope) (class : Class) (called : IsCalled class) (own : touches class class ≡ true)
    (counting : (s : HostSpec) (P : List Entry) (ok : Bool) → has_level s.handlers level ≡ true → (d : DevAddr) (x : Class) → counts s (Act level scope ok) P d x ≡ in_scope scope d && touches class x)
    (letting : (P : List Entry) (h : Held) → lets_go level scope P h ≡ in_scope scope h.dev)
    (is_one : is_reset level ≡ true)
    (deciding : (s : HostSpec) (b : Before) (P : List Entry) → act_ok s b P level scope ≡ has_level s.handlers level && not (any_hit s b P scope class)) where
  pub call_reset : (plan : List PlanEntry) (t new : Slab Held) (rows rows' : List CountRow) (units units' : List UnitRow) (say : EhSay) → Resets plan t new rows rows' units units' scope class say
      → StandsReset (λ s b P. Stands plan t rows units s b P) (λ s b P. Stands plan new rows' units' s b P) level scope say
  call_reset plan t new rows rows' units units' say was s b P has old = by say was
    where
      rows_act : (ok : Bool) → RowsAre (counted s b (Act level scope ok ∷ P)) s.luns (map (counted_row scope class) rows)
      rows_act ok = rows_counted plan t rows units s b P old (Act level scope ok) scope class called (counting s P ok has)

      more : (ok : Bool) (d : DevAddr) → in_scope scope d ≡ true → counted s b (Act level scope ok ∷ P) d class ≡ counted s b P d class + 1
      more ok d e = rw (counting s P ok has d class, e, own) refl

      same_hit : any_hit_in plan (map (counted_row scope class) rows) scope class ≡ any_hit s b P scope class
      same_hit = any_same plan (counted s b P) (counted s b (Act level scope true ∷ P)) scope class (subst PlanSmall (sym old.0) old.1.plan) (more true) s.luns (map (counted_row scope class) rows) (rows_act true)
          ∙ ap (λ (p : List PlanEntry). list_any (λ l. in_scope scope l.dev && is_some (planned p l.dev class (counted s b P l.dev class + 1))) s.luns) old.0

      ok_is : (x : Bool) → any_hit_in plan (map (counted_row scope class) rows) scope class ≡ x → not x ≡ act_ok s b P level scope
      ok_is x e = sym (deciding s b P ∙ rw (has, sym same_hit ∙ e) refl)

      by : (q : EhSay) → Resets plan t new rows rows' units units' scope class q → Stands plan new rows' units' s b (Act level scope (succeeded q) ∷ P)
      by Failed w = rw (w.1, w.2, w.3) (old.0, old.1, held_same (λ g. false && lets_go level scope P g) (held s b P) (IsKept t) (λ g. refl) old.2, rows_act false, old.4, ((λ _. ok_is true w.0), old.5))
      by Success w = rw w.2 (
        old.0,
        old.1,
        held_without (λ g. true && lets_go level scope P g) (held s b P) (IsKept t) (IsKept new)
            (λ g. ((λ i. let k = (w.1 g).0 i in (k.0, letting P g ∙ k.1)), (λ i. (w.1 g).1 (i.0, sym (letting P g) ∙ i.1)))) old.2,
        rows_act true,
        units_reset s.luns (unit s b P) (unit s b (Act level scope true ∷ P)) scope (λ d. rw is_one refl) s.luns units units' w.3 old.4,
        ((λ _. ok_is false w.0), old.5),
      )

counts_device : (dev : DevAddr) (s : HostSpec) (P : List Entry) (ok : Bool) → has_level s.handlers 4 ≡ true → (d : DevAddr) (x : Class) → counts s (Act 4 (Dev dev) ok) P d x ≡ in_scope (Dev dev) d && touches ResetDevice x
counts_device dev s P ok has d ResetDevice = rw has (sym (and_right (in_scope (Dev dev) d)))
counts_device dev s P ok has d x = sym (and_off (in_scope (Dev dev) d))

pub reset_device_stands : (dev : DevAddr) (plan : List PlanEntry) (t new : Slab Held) (rows rows' : List CountRow) (units units' : List UnitRow) (say : EhSay) → Resets plan t new rows rows' units units' (Dev dev) ResetDevice say
    → StandsReset (λ s b P. Stands plan t rows units s b P) (λ s b P. Stands plan new rows' units' s b P) 4 (Dev dev) say
reset_device_stands dev = call_reset 4 (Dev dev) ResetDevice tt refl (counts_device dev) (λ P h. refl) refl (λ s b P. refl)

counts_target : (c t : ℕ) (s : HostSpec) (P : List Entry) (ok : Bool) → has_level s.handlers 5 ≡ true → (d : DevAddr) (x : Class) → counts s (Act 5 (Target c t) ok) P d x ≡ in_scope (Target c t) d && touches ResetTarget x
counts_target c t s P ok has d ResetTarget = rw has (sym (and_right (in_scope (Target c t) d)))
counts_target c t s P ok has d x = sym (and_off (in_scope (Target c t) d))

pub reset_target_stands : (c u : ℕ) (plan : List PlanEntry) (t new : Slab Held) (rows rows' : List CountRow) (units units' : List UnitRow) (say : EhSay) → Resets plan t new rows rows' units units' (Target c u) ResetTarget say
    → StandsReset (λ s b P. Stands plan t rows units s b P) (λ s b P. Stands plan new rows' units' s b P) 5 (Target c u) say
reset_target_stands c u = call_reset 5 (Target c u) ResetTarget tt refl (counts_target c u) (λ P h. refl) refl (λ s b P. refl)

counts_bus : (c : ℕ) (s : HostSpec) (P : List Entry) (ok : Bool) → has_level s.handlers 6 ≡ true → (d : DevAddr) (x : Class) → counts s (Act 6 (Bus c) ok) P d x ≡ in_scope (Bus c) d && touches ResetBus x
counts_bus c s P ok has d ResetBus = rw has (sym (and_right (in_scope (Bus c) d)))
counts_bus c s P ok has d x = sym (and_off (in_scope (Bus c) d))

pub reset_bus_stands : (c : ℕ) (plan : List PlanEntry) (t new : Slab Held) (rows rows' : List CountRow) (units units' : List UnitRow) (say : EhSay) → Resets plan t new rows rows' units units' (Bus c) ResetBus say
    → StandsReset (λ s b P. Stands plan t rows units s b P) (λ s b P. Stands plan new rows' units' s b P) 6 (Bus c) say
reset_bus_stands c = call_reset 6 (Bus c) ResetBus tt refl (counts_bus c) (λ P h. refl) refl (λ s b P. refl)

counts_host : (s : HostSpec) (P : List Entry) (ok : Bool) → has_level s.handlers 7 ≡ true → (d : DevAddr) (x : Class) → counts s (Act 7 Host ok) P d x ≡ in_scope Host d && touches ResetHost x
counts_host s P ok has d ResetHost = rw has refl
counts_host s P ok has d x = refl

pub reset_host_stands : (plan : List PlanEntry) (t new : Slab Held) (rows rows' : List CountRow) (units units' : List UnitRow) (say : EhSay) → Resets plan t new rows rows' units units' Host ResetHost say
    → StandsReset (λ s b P. Stands plan t rows units s b P) (λ s b P. Stands plan new rows' units' s b P) 7 Host say
reset_host_stands = call_reset 7 Host ResetHost tt refl counts_host (λ P h. refl) refl (λ s b P. refl)
