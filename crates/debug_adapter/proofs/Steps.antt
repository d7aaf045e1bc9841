-- `queue` and `work`: the adapter stands where their entries leave the journal.
use Rattle.std.proofs.Common.{◌≡◌, ◌≢◌, ℕ, ◌+◌, ◌≤◌, ◌==◌, ◌&&◌, ◌⊎◌, ◌↔◌, min, Bool, true, false, if◌then◌else◌, List, ◌∷◌, map, Option, None, Some, refl, sym, ap, ◌∙◌, subst, inl, inr}
use Rattle.std.specs.Prelude.{option_map}
use Rattle.slab.specs.Slab.{Slab}
use Rattle.mid_base.specs.declared.answers.BusyOf.{BusyOf}
use Rattle.mid_base.specs.declared.answers.BusyOf.TheVariants.{Host as BusyHost, Device as BusyDevice}
use Rattle.mid_base.specs.declared.names.CmdId.{CmdId}
use Rattle.mid_base.specs.declared.names.Attempt.{Attempt}
use Rattle.mid_base.specs.declared.names.Tag.{Tag}
use Rattle.mid_base.specs.declared.names.DevAddr.{DevAddr}
use Rattle.mid_base.specs.declared.bytes.CdbBytes.{CdbBytes}
use Rattle.mid_base.specs.declared.answers.Answer.{Answer as AnswerValue}
use Rattle.mid_base.specs.declared.answers.Scope.TheVariants.{Dev}
use Rattle.mid_base.specs.declared.host_spec.CmdSpec.{CmdSpec}
use Rattle.mid_base.specs.declared.host_spec.HostSpec.{HostSpec}
use Rattle.mid_base.specs.declared.faults.PlanEntry.{PlanEntry}
use Rattle.mid_base.specs.declared.faults.Fault.{Fault}
use Rattle.mid_base.specs.declared.faults.Fault.TheVariants.{HostBusy as HostBusyHit}
use Rattle.mid_base.specs.declared.entries.Entry.{Entry}
use Rattle.mid_base.specs.declared.entries.Entry.TheVariants.{Sent, Bounced, Ready}
use Rattle.mid_base.specs.Past.{ticks, find_command}
use Rattle.mid_base.specs.Address.{same_dev, in_scope, has_dev}
use Rattle.host_template.specs.Standing.{Before}
use Rattle.host_template.specs.declared.queued.Queued.{Queued}
use Rattle.host_template.specs.declared.queued.Queued.TheVariants.{Taken}
use Rattle.host_template.specs.Calls.{FitsQueue, queued, StandsQueued, StandsReady}
use Rattle.fault_plan.specs.declared.class.Class.{Class}
use Rattle.fault_plan.specs.declared.class.Class.TheVariants.{Queue, Time, Answer, Timer, Abort, ResetDevice, ResetTarget, ResetBus, ResetHost, Probe as Probing}
use Rattle.fault_plan.specs.Plan.{planned}
use Rattle.debug_lun.specs.Units.{LogicalUnit, Reply, reply_of, unit_of}
use Rattle.adapter_tables.specs.declared.held.Held.{Held}
use Rattle.adapter_tables.specs.declared.counts.CountRow.{CountRow}
use Rattle.adapter_tables.specs.declared.device_rows.UnitRow.{UnitRow}
use Rattle.adapter_tables.specs.Counted.{counts, counted, hit, hit_at, device_of}
use Rattle.adapter_tables.specs.Held.{held, sent_as, due_tick, is_attempt, IsNext, precedes, precedes_held}
use Rattle.adapter_tables.specs.Units.{unit, target_luns, outcome, after_answer}
use Rattle.debug_adapter.specs.LowerRun.{Bounces}
use Rattle.debug_adapter.specs.Stands.{Stands}
use Rattle.adapter_tables.specs.Ties.{cap, count_of, counted_row, IsKept, IsLeast, HeldIs, RowsAre, UnitsAre, ServedAt}
use Rattle.adapter_tables.specs.Answering.{held_as, busy_by, Answers}
use Rattle.adapter_tables.proofs.HeldLaws.{held_sent, held_bounced, held_without, held_fresh, fresh}
use Rattle.adapter_tables.proofs.RowLaws.{touches, rows_map, row_counted, count_found, same_queue, same_dev_tells, itself, differ}
use Rattle.adapter_tables.proofs.UnitLaws.{units_set, unit_missing, line_of}
use Rattle.adapter_tables.proofs.PlanLaws.{planned_capped}
use Rattle.adapter_tables.proofs.KnownLaws.{IsKnown, known}

and_right : (a : Bool) → a && true ≡ a
and_right true = refl
and_right false = refl

and_off : (a : Bool) → a && false ≡ false
and_off true = refl
and_off false = refl

-- what a Sent counts
sent_counts : (s : HostSpec) (P : List Entry) (c : CmdId) (n : Attempt) (t : Tag) (dev d : DevAddr) (x : Class) → device_of s c.0 ≡ Some dev
    → counts s (Sent c n t) P d x ≡ in_scope (Dev dev) d && touches Queue x
sent_counts s P c n t dev d Queue e = rw e (sym (and_right (same_dev dev d)))
sent_counts s P c n t dev d Time e = rw e (sym (and_right (same_dev dev d)))
sent_counts s P c n t dev d Answer e = rw e (sym (and_right (same_dev dev d)))
sent_counts s P c n t dev d Timer e = sym (and_off (same_dev dev d))
sent_counts s P c n t dev d Abort e = sym (and_off (same_dev dev d))
sent_counts s P c n t dev d ResetDevice e = sym (and_off (same_dev dev d))
sent_counts s P c n t dev d ResetTarget e = sym (and_off (same_dev dev d))
sent_counts s P c n t dev d ResetBus e = sym (and_off (same_dev dev d))
sent_counts s P c n t dev d ResetHost e = sym (and_off (same_dev dev d))
sent_counts s P c n t dev d Probing e = sym (and_off (same_dev dev d))

one_more : (t u : Bool) (k : ℕ) → t ≡ u → (if t then k + 1 else k) ≡ (if u then k + 1 else k)
one_more t u k e = ap (λ (x : Bool). if x then k + 1 else k) e

same_held : (n : Attempt) (d d' : DevAddr) (c c' : CdbBytes) (f f' : ℕ) (u u' : Option ℕ) (v v' : Option Fault) → d ≡ d' → c ≡ c' → f ≡ f' → u ≡ u' → v ≡ v'
    → ◌≡◌ {A = Option Held} (Some (record { n = n; dev = d; cdb = c; fill = f; due = u; fault = v })) (Some (record { n = n; dev = d'; cdb = c'; fill = f'; due = u'; fault = v' }))
same_held n d d' c c' f f' u u' v v' p q r x y = rw (p, q, r, x, y) refl

module _ (plan : List PlanEntry) (t : Slab Held) (rows : List CountRow) (units : List UnitRow) (s : HostSpec) (b : Before) (P : List Entry) (old : Stands plan t rows units s b P) where
  module _ (c : CmdId) (k : CmdSpec) (n : Attempt) (tag : Tag) (now : ℕ) (dev : DevAddr) (cdb : CdbBytes) (fill : ℕ) (fits : FitsQueue s P c k n.0 now dev cdb fill) where
    at_dev : device_of s c.0 ≡ Some dev
    at_dev = ap (option_map (λ (q : CmdSpec). q.dev)) fits.command ∙ ap (λ (d : DevAddr). Some d) fits.dev_is

    rows_sent : RowsAre (counted s b (Sent c n tag ∷ P)) s.luns (map (counted_row (Dev dev) Queue) rows)
    rows_sent = rows_map (counted s b P) (counted s b (Sent c n tag ∷ P)) (counted_row (Dev dev) Queue)
        (row_counted (counted s b P) (counted s b (Sent c n tag ∷ P)) (Dev dev) Queue tt
        (λ d x. one_more _ _ (counted s b P d x) (sent_counts s P c n tag dev d x at_dev)))
        s.luns rows old.3

    counted_here : (x : Class) → touches Queue x ≡ true → counted s b (Sent c n tag ∷ P) dev x ≡ counted s b P dev x + 1
    counted_here x yes_it = one_more _ true (counted s b P dev x) (sent_counts s P c n tag dev dev x at_dev ∙ rw (yes_it, itself dev) refl)

    -- the number that the code counts finds the hit
    hit_found : (x : Class) → touches Queue x ≡ true → planned plan dev x (count_of (map (counted_row (Dev dev) Queue) rows) dev x) ≡ hit s b P dev x
    hit_found x yes_it =
        let has : has_dev s.luns dev ≡ true = subst (λ (d : DevAddr). has_dev s.luns d ≡ true) fits.dev_is (old.1.known c.0 k fits.command) in
        ap (planned plan dev x) (count_found (counted s b (Sent c n tag ∷ P)) dev x s.luns (map (counted_row (Dev dev) Queue) rows) has rows_sent ∙ ap (λ (i : ℕ). min i cap) (counted_here x yes_it))
        ∙ (rw old.0 (planned_capped s.plan dev x (counted s b P dev x + 1) old.1.plan))

    hit_queue : (f : Option Fault) → planned plan dev Queue (count_of (map (counted_row (Dev dev) Queue) rows) dev Queue) ≡ f → hit_at s b P (device_of s c.0) Queue ≡ f
    hit_queue f e = ap (λ (o : Option DevAddr). hit_at s b P o Queue) at_dev ∙ (sym (hit_found Queue refl) ∙ e)

    sent_is : option_map (sent_as s b P n) (find_command s c.0) ≡ Some (held_as plan n dev cdb fill now (count_of (map (counted_row (Dev dev) Queue) rows) dev Queue))
    sent_is =
        let q = same_queue (map (counted_row (Dev dev) Queue) rows) dev in
        let time : planned plan dev Time (count_of (map (counted_row (Dev dev) Queue) rows) dev Queue) ≡ hit s b P dev Time = ap (planned plan dev Time) (sym q.0) ∙ hit_found Time refl in
        let answer : planned plan dev Answer (count_of (map (counted_row (Dev dev) Queue) rows) dev Queue) ≡ hit s b P dev Answer = ap (planned plan dev Answer) (sym q.1) ∙ hit_found Answer refl in
        ap (option_map (sent_as s b P n)) fits.command
        ∙ same_held n k.dev dev k.cdb cdb k.fill fill _ _ _ _ fits.dev_is fits.cdb_is fits.fill_is
        (ap (λ (d : DevAddr). due_tick (ticks P) (hit s b P d Time)) fits.dev_is ∙ (ap (λ (i : ℕ). due_tick i (hit s b P dev Time)) (sym fits.time) ∙ ap (due_tick now) (sym time)))
        (ap (λ (d : DevAddr). hit s b P d Answer) fits.dev_is ∙ sym answer)

    -- an attempt of this number isn't held, so to let it go first changes nothing
    still : (K : Held → Type 0) → ((g : Held) → K g ↔ (IsKept t g × (is_attempt n.0 g ≡ false))) → HeldIs (held s b P) K
    still K same = held_fresh n.0 (held s b P) (IsKept t) K same (fresh s b P n.0 fits.fresh) old.2

    pub stands_sent : (mid new : Slab Held) → ((g : Held) → IsKept mid g ↔ (IsKept t g × (is_attempt n.0 g ≡ false)))
        → ((g : Held) → IsKept new g ↔ (IsKept mid g ⊎ (held_as plan n dev cdb fill now (count_of (map (counted_row (Dev dev) Queue) rows) dev Queue) ≡ g)))
        → planned plan dev Queue (count_of (map (counted_row (Dev dev) Queue) rows) dev Queue) ≡ None
        → Stands plan new (map (counted_row (Dev dev) Queue) rows) units s b (Sent c n tag ∷ P)
    stands_sent mid new gone more off =
        let x = held_as plan n dev cdb fill now (count_of (map (counted_row (Dev dev) Queue) rows) dev Queue) in (
          old.0,
          old.1,
          subst (λ (o : Option Held). HeldIs (λ m. if n.0 == m then o else held s b P m) (IsKept new)) (sym sent_is)
              (held_sent n.0 x (held s b P) (IsKept mid) (IsKept new) more refl (fresh s b P n.0 fits.fresh) (still (IsKept mid) gone)),
          rows_sent,
          old.4,
          (hit_queue None off, old.5),
        )

    held_still : (why : BusyOf) (new : Slab Held) → ((g : Held) → IsKept new g ↔ (IsKept t g × (is_attempt n.0 g ≡ false))) → HeldIs (held s b (Bounced c n why ∷ Sent c n tag ∷ P)) (IsKept new)
    held_still why new gone m h =
        let e = held_bounced s b P n (find_command s c.0) (IsKept new) fits.fresh (still (IsKept new) gone) m in
        ((λ q. (still (IsKept new) gone m h).0 (sym e ∙ q)), (λ i. e ∙ (still (IsKept new) gone m h).1 i))

    pub stands_bounced : (new : Slab Held) (f : Fault) → ((g : Held) → IsKept new g ↔ (IsKept t g × (is_attempt n.0 g ≡ false)))
        → planned plan dev Queue (count_of (map (counted_row (Dev dev) Queue) rows) dev Queue) ≡ Some f
        → Stands plan new (map (counted_row (Dev dev) Queue) rows) units s b (queued c n tag (busy_by f) P)
    stands_bounced new HostBusyHit gone on = (
      old.0,
      old.1,
      held_still BusyHost new gone,
      rows_sent,
      old.4,
      (refl, refl, subst (λ (o : Option Fault). Bounces o BusyHost) (sym (hit_queue (Some HostBusyHit) on)) refl, old.5),
    )
    stands_bounced new f gone on = (
      old.0,
      old.1,
      held_still BusyDevice new gone,
      rows_sent,
      old.4,
      (refl, refl, subst (λ (o : Option Fault). Bounces o BusyDevice) (sym (hit_queue (Some f) on)) refl, old.5),
    )

  module _ (now : ℕ) (h : Held) (time : now ≡ ticks P) (least : IsLeast (IsKept t) now (Some h)) where
    here : held s b P h.n.0 ≡ Some h
    here = (old.2 h.n.0 h).1 (refl, least.0)

    line : has_dev s.luns h.dev ≡ true
    line = subst (λ (o : Option Held). IsKnown s o) here (known s b P h.n.0 old.1)

    least_at : (m : ℕ) (o : Option Held) → held s b P m ≡ o → precedes_held least.1 h.n.0 m o ≡ true
    least_at m None e = refl
    least_at m (Some g) e = let q = (old.2 m g).0 e in subst (λ (k : ℕ). precedes least.1 h.n.0 g.due k ≡ true) q.0 (least.4 g q.1)

    is_next : IsNext s b P h.n.0 h
    is_next = record { here = here; at = least.1; due = least.2; by_now = subst (λ (i : ℕ). least.1 ≤ i) time least.3; least = λ m. least_at m (held s b P m) refl }

    module _ (a : AnswerValue) (gone : Slab Held) (new : List UnitRow) (let_go : (g : Held) → IsKept gone g ↔ (IsKept t g × (is_attempt h.n.0 g ≡ false))) where
      after : (e : DevAddr) → e ≢ h.dev → unit s b (Ready h.n a ∷ P) e ≡ unit s b P e
      after e off = ap (λ (o : Option Held). after_answer (target_luns s.luns e) o e (unit s b P e)) here ∙ rw (differ h.dev e (λ q. off (sym q))) refl

      after_it : unit s b (Ready h.n a ∷ P) h.dev ≡ (outcome (target_luns s.luns h.dev) h (unit s b P h.dev)).0
      after_it = ap (λ (o : Option Held). after_answer (target_luns s.luns h.dev) o h.dev (unit s b P h.dev)) here ∙ rw (itself h.dev) refl

      served_at : (i : ℕ) (x y : UnitRow) → ServedAt units new h.dev (λ luns u. outcome luns h u) (reply_of a) i x y → Stands plan gone rows new s b (Ready h.n a ∷ P)
      served_at i x y at =
          let d : x.dev ≡ h.dev = same_dev_tells x.dev h.dev at.dev in
          let was = line_of s.luns (unit s b P) s.luns units i x old.4 at.at in
          let l : x.luns.items ≡ target_luns s.luns h.dev = was.1 ∙ ap (target_luns s.luns) d in
          let u : unit_of x.lun ≡ unit s b P h.dev = was.2 ∙ ap (unit s b P) d in
          let both : outcome x.luns.items h (unit_of x.lun) ≡ outcome (target_luns s.luns h.dev) h (unit s b P h.dev) =
          ap (λ (q : LogicalUnit). outcome x.luns.items h q) u ∙ ap (λ (q : List ℕ). outcome q h (unit s b P h.dev)) l in (
            old.0,
            old.1,
            held_without (is_attempt h.n.0) (held s b P) (IsKept t) (IsKept gone) let_go old.2,
            old.3,
            subst (λ (xs : List UnitRow). UnitsAre s.luns (unit s b (Ready h.n a ∷ P)) s.luns xs) (sym at.changed)
                (units_set s.luns (unit s b P) (unit s b (Ready h.n a ∷ P)) h.dev after s.luns units i x y old.1.differ at.at d at.served.dev at.served.luns
                (at.served.unit ∙ (ap (λ (p : LogicalUnit × Reply). p.0) both ∙ sym after_it)) old.4),
            ((h, is_next, at.served.answer ∙ ap (λ (p : LogicalUnit × Reply). p.1) both), old.5),
          )

      pub stands_ready : Answers units new h (reply_of a) → Stands plan gone rows new s b (Ready h.n a ∷ P)
      stands_ready (inl none) = absurd (cc (sym none.0 ∙ (unit_missing s.luns (unit s b P) h.dev s.luns units old.4 ∙ line)))
      stands_ready (inr at) = served_at at.0 at.1 at.2 at.3

-- a call of `queue`, by what its parts ensure
pub queue_taken : (plan : List PlanEntry) (t mid new : Slab Held) (rows rows' : List CountRow) (units : List UnitRow) (n : Attempt) (dev : DevAddr) (cdb : CdbBytes) (fill now number : ℕ) (h : Held)
    → rows' ≡ map (counted_row (Dev dev) Queue) rows → number ≡ count_of (map (counted_row (Dev dev) Queue) rows) dev Queue
    → planned plan dev Queue number ≡ None → h ≡ held_as plan n dev cdb fill now number
    → ((g : Held) → IsKept mid g ↔ (IsKept t g × (is_attempt n.0 g ≡ false))) → ((g : Held) → IsKept new g ↔ (IsKept mid g ⊎ (h ≡ g)))
    → StandsQueued (λ s b P. Stands plan t rows units s b P) (λ s b P. Stands plan new rows' units s b P) n now dev cdb fill Taken
queue_taken plan t mid new rows rows' units n dev cdb fill now number h r k off e gone more s b P c spec tag fits old =
    rw r (stands_sent plan t rows units s b P old c spec n tag now dev cdb fill fits mid new gone
    (subst (λ (x : Held). (g : Held) → IsKept new g ↔ (IsKept mid g ⊎ (x ≡ g))) (e ∙ ap (held_as plan n dev cdb fill now) k) more)
    (subst (λ (m : ℕ). planned plan dev Queue m ≡ None) k off))

pub queue_busy : (plan : List PlanEntry) (t new : Slab Held) (rows rows' : List CountRow) (units : List UnitRow) (n : Attempt) (dev : DevAddr) (cdb : CdbBytes) (fill now number : ℕ) (f : Fault) (q : Queued)
    → ((g : Held) → IsKept new g ↔ (IsKept t g × (is_attempt n.0 g ≡ false))) → q ≡ busy_by f → rows' ≡ map (counted_row (Dev dev) Queue) rows
    → number ≡ count_of (map (counted_row (Dev dev) Queue) rows) dev Queue → planned plan dev Queue number ≡ Some f
    → StandsQueued (λ s b P. Stands plan t rows units s b P) (λ s b P. Stands plan new rows' units s b P) n now dev cdb fill q
queue_busy plan t new rows rows' units n dev cdb fill now number f q gone e r k on s b P c spec tag fits old =
    subst (λ (x : Queued). Stands plan new rows' units s b (queued c n tag x P)) (sym e)
    (subst (λ (xs : List CountRow). Stands plan new xs units s b (queued c n tag (busy_by f) P)) (sym r)
    (stands_bounced plan t rows units s b P old c spec n tag now dev cdb fill fits new f gone (subst (λ (m : ℕ). planned plan dev Queue m ≡ Some f) k on)))

pub work_ready : (plan : List PlanEntry) (t gone : Slab Held) (rows : List CountRow) (units new : List UnitRow) (now : ℕ) (h : Held) (a : AnswerValue)
    → IsLeast (IsKept t) now (Some h)
    → Answers units new h (reply_of a)
    → ((g : Held) → IsKept gone g ↔ (IsKept t g × (is_attempt h.n.0 g ≡ false)))
    → StandsReady (λ s b P. Stands plan t rows units s b P) (λ s b P. Stands plan gone rows new s b P) now (h.n, a)
work_ready plan t gone rows units new now h a least served let_go s b P time old = stands_ready plan t rows units s b P old now h time least a gone new let_go served
