-- How a script makes the journals of its hosts: by its step lines, and then in rounds. P and Q have the newest entry first.
use Rattle.std.specs.Prelude.{◌≡◌, ◌==◌, ◌&&◌, not, ℕ, Bool, true, false, List, [], ◌∷◌, ◌++◌, map, count_by, Option, None, Some, unwrap_or, All, slice_get, slice_set}
use Rattle.mid_base.specs.declared.names.HostNo.{HostNo}
use Rattle.mid_base.specs.declared.entries.Entry.{Entry}
use Rattle.mid_base.specs.declared.steps.Step.{Step}
use Rattle.mid_base.specs.declared.steps.Step.TheVariants.{SetState}
use Rattle.mid_base.specs.declared.steps.Why.{Why}
use Rattle.mid_base.specs.declared.host_spec.HostSpec.{HostSpec}
use Rattle.drain_rounds.specs.Bound.{host_bound}
use Rattle.drain_rounds.specs.Making.{Comes, HostRun}
use Rattle.drain_rounds.specs.Rounds.{Drains, greatest}
use Rattle.script_text.specs.declared.script.Script.{Script}
use Rattle.play_sched.specs.Runs.{IsRun, all_drained, as_found, specs_of, unplayed}

-- the step was made on a host with this number, and no other host has changed
pub record ComesOn (old : List HostRun) (number : ℕ) (step : Step) (why : Option Why) (new : List HostRun) : Type 0 where
  pub place : ℕ
  pub host : HostRun
  pub entries : List Entry
  pub at : slice_get old place ≡ Some host
  pub named : host.spec.no.0 ≡ number
  pub comes : Comes host.spec host.before host.entries step why entries
  pub changed : new ≡ slice_set old place (record host { entries = entries })

abbrev pub skip_of : ℕ → Option Why → List (ℕ × Why)
skip_of line None = []
skip_of line (Some why) = (line, why) ∷ []

-- step lines make the new runs from the old ones one after the other, each from those before, and these are the skipped lines
abbrev pub Plays : List (ℕ × HostNo × Step) → List HostRun → List HostRun → List (ℕ × Why) → Type 0
Plays [] old new skips = (new ≡ old) × (skips ≡ [])
Plays (t ∷ steps) old new skips =
    (mid : List HostRun) × (why : Option Why) × (later : List (ℕ × Why))
    × ComesOn old t.1.0 t.2 why mid × (skips ≡ skip_of t.0 why ++ later) × Plays steps mid new later

-- each host is run on for at most so many rounds
abbrev pub DrainEach : ℕ → List HostRun → List HostRun → Type 0
DrainEach most [] new = new ≡ []
DrainEach most (r ∷ runs) new =
    (entries : List Entry) × (later : List HostRun)
    × Drains most r.spec r.before r.entries entries × (new ≡ record r { entries = entries } ∷ later) × DrainEach most runs later

abbrev pub RunOn : Bool → ℕ → List HostRun → List HostRun → Type 0
RunOn false most old new = new ≡ old
RunOn true most old new = DrainEach most old new

-- the step sets the state of a device of the host with this number
abbrev pub sets_state : ℕ → ℕ × HostNo × Step → Bool
sets_state number (line, host, SetState d x) = host.0 == number
sets_state number t = false

abbrev pub bound_in : List (ℕ × HostNo × Step) → HostSpec → ℕ
bound_in steps h = host_bound h (count_by (sets_state h.no.0) steps)

-- for how many rounds hosts are run on: as the script says, else by the greatest bound of its hosts
abbrev pub most_rounds : Script → ℕ
most_rounds script = unwrap_or script.budget (greatest (map (bound_in script.steps) script.hosts))

-- the script's hosts, in its order, were scanned and run so: its steps make their journals, and then its rounds, where it asks
-- for them; `short` says that it asked for them and some host isn't drained
pub record Ran (script : Script) (runs : List HostRun) (skips : List (ℕ × Why)) (short : Bool) : Type 0 where
  pub hosts : specs_of runs ≡ map (as_found script.scans) script.hosts
  pub mid : List HostRun
  pub steps : Plays script.steps (map (unplayed script.scans) script.hosts) mid skips
  pub rounds : RunOn script.drain (most_rounds script) mid runs
  pub ends : short ≡ (script.drain && not (all_drained runs))
  pub each : All IsRun runs
