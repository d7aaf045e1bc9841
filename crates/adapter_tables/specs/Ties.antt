-- What the tables of an adapter hold, what a call makes of them, and how they are tied to what a journal says.
use Rattle.std.specs.Prelude.{◌≡◌, ◌≢◌, ℕ, option_map, ◌+◌, ◌^◌, ◌<◌, ◌≤◌, ◌&&◌, ◌↔◌, min, nat_le, Bool, true, false, if◌then◌else◌, List, [], ◌∷◌, Option, None, Some, slice_get, slice_set, take, is_some}
use Rattle.std.specs.List.{list_any}
use Rattle.slab.specs.Slab.{Slab, get, values}
use Rattle.mid_base.specs.declared.names.DevAddr.{DevAddr}
use Rattle.mid_base.specs.declared.host_spec.CmdSpec.{CmdSpec}
use Rattle.mid_base.specs.declared.host_spec.LunSpec.{LunSpec}
use Rattle.mid_base.specs.declared.host_spec.HostSpec.{HostSpec}
use Rattle.mid_base.specs.declared.faults.PlanEntry.{PlanEntry}
use Rattle.mid_base.specs.declared.answers.Scope.{Scope}
use Rattle.mid_base.specs.Past.{find_command}
use Rattle.mid_base.specs.Address.{same_dev, in_scope, has_dev}
use Rattle.fault_plan.specs.declared.class.Class.{Class}
use Rattle.fault_plan.specs.declared.class.Class.TheVariants.{Queue, Time, Answer, Timer, Abort, ResetDevice, ResetTarget, ResetBus, ResetHost, Probe as Probing}
use Rattle.fault_plan.specs.Plan.{planned}
use Rattle.debug_lun.specs.Units.{LogicalUnit, Reply, unit_of, unit_for, after_reset}
use Rattle.adapter_tables.specs.declared.held.Held.{Held}
use Rattle.adapter_tables.specs.declared.counts.CallCounts.{CallCounts}
use Rattle.adapter_tables.specs.declared.counts.CountRow.{CountRow}
use Rattle.adapter_tables.specs.declared.device_rows.UnitRow.{UnitRow}
use Rattle.adapter_tables.specs.Held.{is_due, due_from, precedes}
use Rattle.adapter_tables.specs.Units.{target_luns}

-- ---- held attempts

abbrev pub IsKept : Slab Held → Held → Type 0
IsKept t h = (key : ℕ) × (get t key ≡ Some h)

-- it stands at a key below this one
abbrev pub IsKeptBelow : Slab Held → ℕ → Held → Type 0
IsKeptBelow t end h = (key : ℕ) × (key < end) × (get t key ≡ Some h)

-- the table has exactly the attempts that a journal says
abbrev pub HeldIs : (ℕ → Option Held) → (Held → Type 0) → Type 0
HeldIs f Kept = (n : ℕ) (h : Held) → (f n ≡ Some h) ↔ ((h.n.0 ≡ n) × Kept h)

-- at one key the attempt is due at this tick, and the others are as they were
pub record SetsDue (old new : Slab Held) (key now : ℕ) : Type 0 where
  pub here : get new key ≡ option_map (λ h. due_from h.n.0 now h) (get old key)
  pub others : (other : ℕ) → other ≢ key → get new other ≡ get old other

-- the first of those that are due at a tick
abbrev pub IsLeast : (Held → Type 0) → ℕ → Option Held → Type 0
IsLeast Kept now None = (g : Held) → Kept g → is_due now g.due ≡ false
IsLeast Kept now (Some h) = Kept h × (at : ℕ) × (h.due ≡ Some at) × (at ≤ now) × ((g : Held) → Kept g → precedes at h.n.0 g.due g.n.0 ≡ true)

-- some attempt is due at a tick
abbrev pub any_due : Slab Held → ℕ → Bool
any_due t now = list_any (λ h. is_due now h.due) (values t)

-- ---- counts

-- counts go no further than this, which no plan within the limits reaches
abbrev pub cap : ℕ
cap = 2 ^ 40

abbrev pub up : ℕ → ℕ
up k = if nat_le cap k then k else k + 1

abbrev pub count_in : CallCounts → Class → ℕ
count_in c Queue = c.queue
count_in c Time = c.queue
count_in c Answer = c.queue
count_in c Timer = c.timer
count_in c Abort = c.abort
count_in c ResetDevice = c.device
count_in c ResetTarget = c.target
count_in c ResetBus = c.bus
count_in c ResetHost = c.host
count_in c Probing = c.probe

-- one more call of the class
abbrev pub bump : Class → CallCounts → CallCounts
bump Queue c = record c { queue = up c.queue }
bump Time c = record c { queue = up c.queue }
bump Answer c = record c { queue = up c.queue }
bump Timer c = record c { timer = up c.timer }
bump Abort c = record c { abort = up c.abort }
bump ResetDevice c = record c { device = up c.device }
bump ResetTarget c = record c { target = up c.target }
bump ResetBus c = record c { bus = up c.bus }
bump ResetHost c = record c { host = up c.host }
bump Probing c = record c { probe = up c.probe }

abbrev pub counted_row : Scope → Class → CountRow → CountRow
counted_row scope class r = if in_scope scope r.dev then record r { counts = bump class r.counts } else r

abbrev pub count_of : List CountRow → DevAddr → Class → ℕ
count_of [] d class = 0
count_of (r ∷ rows) d class = if same_dev r.dev d then count_in r.counts class else count_of rows d class

abbrev pub any_hit_in : List PlanEntry → List CountRow → Scope → Class → Bool
any_hit_in plan rows scope class = list_any (λ r. in_scope scope r.dev && is_some (planned plan r.dev class (count_in r.counts class))) rows

abbrev pub RowIs : (DevAddr → Class → ℕ) → LunSpec → CountRow → Type 0
RowIs f l r = (r.dev ≡ l.dev) × ((class : Class) → count_in r.counts class ≡ min (f l.dev class) cap)

-- each unit of the spec has its row
abbrev pub RowsAre : (DevAddr → Class → ℕ) → List LunSpec → List CountRow → Type 0
RowsAre f [] [] = Unit {0}
RowsAre f (l ∷ ls) (r ∷ rs) = RowIs f l r × RowsAre f ls rs
RowsAre f _ _ = ⊥

abbrev pub no_counts : CallCounts
no_counts = record { queue = 0; timer = 0; abort = 0; device = 0; target = 0; bus = 0; host = 0; probe = 0 }

-- a device on which no call was made yet
abbrev pub new_row : LunSpec → CountRow
new_row l = record { dev = l.dev; counts = no_counts }

-- ---- units

abbrev pub UnitIs : List LunSpec → (DevAddr → LogicalUnit) → LunSpec → UnitRow → Type 0
UnitIs luns u l x = (x.dev ≡ l.dev) × (x.luns.items ≡ target_luns luns l.dev) × (unit_of x.lun ≡ u l.dev)

abbrev pub UnitsAre : List LunSpec → (DevAddr → LogicalUnit) → List LunSpec → List UnitRow → Type 0
UnitsAre luns u [] [] = Unit {0}
UnitsAre luns u (l ∷ ls) (x ∷ xs) = UnitIs luns u l x × UnitsAre luns u ls xs
UnitsAre luns u _ _ = ⊥

-- each unit is as its line of the spec describes it
abbrev pub NewUnits : List LunSpec → List LunSpec → List UnitRow → Type 0
NewUnits luns [] [] = Unit {0}
NewUnits luns (l ∷ ls) (x ∷ xs) = UnitIs luns (λ d. unit_for l) l x × NewUnits luns ls xs
NewUnits luns _ _ = ⊥

abbrev pub has_unit : List UnitRow → DevAddr → Bool
has_unit xs d = list_any (λ x. same_dev x.dev d) xs

-- what a command does, given the LUNs of the target: the unit after it, and its answer
abbrev pub Service : Type 0
Service = List ℕ → LogicalUnit → LogicalUnit × Reply

-- one unit served a command
pub record WasServed (old new : UnitRow) (step : Service) (a : Reply) : Type 0 where
  pub dev : new.dev ≡ old.dev
  pub luns : new.luns.items ≡ old.luns.items
  pub unit : unit_of new.lun ≡ (step old.luns.items (unit_of old.lun)).0
  pub answer : a ≡ (step old.luns.items (unit_of old.lun)).1

-- nothing of a unit has changed
pub record WasKept (old new : UnitRow) : Type 0 where
  pub dev : new.dev ≡ old.dev
  pub luns : new.luns.items ≡ old.luns.items
  pub unit : unit_of new.lun ≡ unit_of old.lun

abbrev pub WereKept : List UnitRow → List UnitRow → Type 0
WereKept [] [] = Unit {0}
WereKept (x ∷ xs) (y ∷ ys) = WasKept x y × WereKept xs ys
WereKept _ _ = ⊥

-- the first unit with the address d did
pub record ServedAt (old new : List UnitRow) (d : DevAddr) (step : Service) (a : Reply) (i : ℕ) (x y : UnitRow) : Type 0 where
  pub at : slice_get old i ≡ Some x
  pub dev : same_dev x.dev d ≡ true
  pub first : has_unit (take i old) d ≡ false
  pub changed : new ≡ slice_set old i y
  pub served : WasServed x y step a

-- one unit before and after a reset
abbrev pub WasReset : Scope → UnitRow → UnitRow → Type 0
WasReset scope x y =
    (y.dev ≡ x.dev) × (y.luns.items ≡ x.luns.items)
    × (unit_of y.lun ≡ (if in_scope scope x.dev then after_reset (unit_of x.lun) else unit_of x.lun))

abbrev pub WereReset : Scope → List UnitRow → List UnitRow → Type 0
WereReset scope [] [] = Unit {0}
WereReset scope (x ∷ xs) (y ∷ ys) = WasReset scope x y × WereReset scope xs ys
WereReset scope _ _ = ⊥

-- ---- what the ties rely on of the limits that a spec keeps

abbrev pub PlanSmall : List PlanEntry → Type 0
PlanSmall [] = Unit {0}
PlanSmall (e ∷ es) = (e.first < 65536) × (e.every < 65536) × (e.uses < 65536) × PlanSmall es

abbrev pub Differ : List LunSpec → Type 0
Differ [] = Unit {0}
Differ (l ∷ ls) = (has_dev ls l.dev ≡ false) × Differ ls

pub record Within (s : HostSpec) : Type 0 where
  pub plan : PlanSmall s.plan
  pub differ : Differ s.luns
  pub known : (c : ℕ) (k : CmdSpec) → find_command s c ≡ Some k → has_dev s.luns k.dev ≡ true
