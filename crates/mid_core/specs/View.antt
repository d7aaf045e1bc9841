-- What contracts see of a core, and what always holds of one.
use Rattle.std.specs.Prelude.{◌≡◌, ◌≤◌, ℕ, true, false, List, length, Option, None, Some}
use Rattle.mid_base.specs.declared.answers.TagState.{TagState}
use Rattle.mid_base.specs.declared.entries.Entry.{Entry}
use Rattle.mid_base.specs.declared.host_spec.HostSpec.{HostSpec}
use Rattle.mid_base.specs.declared.steps.Step.{Step}
use Rattle.mid_base.specs.declared.steps.Step.TheVariants as step
use Rattle.host_template.specs.Meaning.{Meaning}
use Rattle.host_template.specs.Standing.{Before, Standing}
use Rattle.trace_model.specs.Devices.{has_begun}
use Rattle.trace_model.specs.Legal.{ByGroups}
use Rattle.escalation.specs.Climbing.{Climb}
use Rattle.climb_laws.specs.LadderOf.{IsLadderOf}
use Rattle.held_laws.specs.Held.{IsRight}
use Rattle.host_state.specs.declared.running.Running.{Running}
use Rattle.host_state.specs.HostAgrees.{HostAgrees}

-- the spec, the probes made before, the journal (the oldest entry first), the states of the tags, for how many more
-- entries there is room, and the lower layer
pub record CoreView (A : Type 0) : Type 0 where
  pub spec : HostSpec
  pub before : Before
  pub journal : List Entry
  pub tags : List TagState
  pub spare : ℕ
  pub lower : A

-- there is a ladder from EhBegin until EhEnd, and it stands where the journal does
abbrev pub IsStaged : HostSpec → List Entry → Option Climb → Type 0
IsStaged s P None = has_begun P ≡ false
IsStaged s P (Some k) = (has_begun P ≡ true) × IsLadderOf s P k

-- P is the journal, the newest entry first; the ladder is that of recovery, and probes the bytes that its probes are read into
pub record IsCore {A : Type 0} (stands : A → Standing) (means : A → Meaning) (spec : HostSpec) (before : Before) (lower : A) (P : List Entry)
    (running : Running) (ladder : Option Climb) (probes : List ℕ) : Type 0 where
  pub legal : ByGroups spec P
  pub stood : stands lower spec before P
  pub right : IsRight spec P (means lower)
  pub runs : HostAgrees spec P running
  pub stage : IsStaged spec P ladder
  pub buffer : 2056 ≤ length probes

-- the steps that take no memory while there is spare
abbrev pub IsSpared : Step → Type 0
IsSpared (step.Own n by) = Unit {0}
IsSpared (step.Drop n) = Unit {0}
IsSpared step.Tick = Unit {0}
IsSpared s = ⊥
