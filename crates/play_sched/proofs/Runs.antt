-- The hosts of a script that was played.
use Rattle.std.proofs.Common.{◌≡◌, ℕ, suc, Bool, not, ◌&&◌, List, [], ◌∷◌, ◌++◌, length, map, take, drop, get_or, refl, sym, ap, ◌∙◌, ◌==◌, subst, inl, inr, arith}
use Rattle.std.specs.Prelude.{All}
use Rattle.std.proofs.lemmas.Bool.{cases_Bool}
use Rattle.std.proofs.lemmas.List.{append-nil, drop_all, length-map, take_all}
use Rattle.std.proofs.lemmas.List.Elements.{All-cons, All-nil}
use Rattle.mid_base.specs.declared.names.DevAddr.{DevAddr}
use Rattle.mid_base.specs.declared.names.HostNo.{HostNo}
use Rattle.mid_base.specs.declared.steps.Step.{Step}
use Rattle.mid_base.specs.declared.steps.Step.TheVariants.{SetState}
use Rattle.mid_base.specs.declared.steps.Why.{Why}
use Rattle.mid_base.specs.declared.host_spec.HostSpec.{HostSpec}
use Rattle.mid_base.specs.Limits.{KeepsLimits}
use Rattle.script_text.specs.declared.script.Script.{Script}
use Rattle.script_text.specs.Playable.{IsStepOf, IsStepOn, IsStepOnSome}
use Rattle.script_text.specs.Said.{host_of}
use Rattle.host_scan.proofs.Starts.{found_devs, found_keeps}
use Rattle.drain_rounds.specs.Making.{HostRun}
use Rattle.host_template.specs.Standing.{Before}
use Rattle.drain_rounds.specs.Rounds.{Drains}
use Rattle.play_sched.specs.Played.{DrainEach, Plays, Ran, RunOn, most_rounds}
use Rattle.play_sched.specs.Runs.{IsNumbered, IsRun, all_drained, as_found, devices_on, specs_of, unplayed}

specs_unplayed : (scans : List (HostNo × DevAddr)) (hosts : List HostSpec) → specs_of (map (unplayed scans) hosts) ≡ map (as_found scans) hosts
specs_unplayed scans [] = refl
specs_unplayed scans (h ∷ hosts) = ap (λ (hs : List HostSpec). as_found scans h ∷ hs) (specs_unplayed scans hosts)

pub started : (scans : List (HostNo × DevAddr)) (hosts : List HostSpec) (start : List HostRun) → start ≡ map (unplayed scans) hosts → specs_of start ≡ map (as_found scans) hosts
started scans hosts start e = ap specs_of e ∙ specs_unplayed scans hosts

-- a step on a host is one on the host with what was found
step_found : (scans : List (HostNo × DevAddr)) (h : HostSpec) (t : Step) → IsStepOn h t → IsStepOn (as_found scans h) t
step_found scans h (SetState d x) is = found_devs (devices_on h.no.0 scans) h d ∙ is
step_found scans h t is = is

step_on_found : (scans : List (HostNo × DevAddr)) (hosts : List HostSpec) (n : ℕ) (t : Step) → IsStepOnSome (host_of hosts n) t → IsStepOnSome (host_of (map (as_found scans) hosts) n) t
step_on_found scans [] n t is = is
step_on_found scans (h ∷ hosts) n t is = elim (cases_Bool (h.no.0 == n)) [
  | inl own ↦ rw own (step_found scans h t (rw own at is))
  | inr other ↦ rw other (step_on_found scans hosts n t (rw other at is))
]

pub steps_fit : (scans : List (HostNo × DevAddr)) (hosts : List HostSpec) (steps : List (ℕ × HostNo × Step)) (start : List HostRun) → start ≡ map (unplayed scans) hosts
    → All (IsStepOf hosts) steps → All (IsStepOf (specs_of start)) steps
steps_fit scans hosts steps start f all =
    subst (λ (hs : List HostSpec). All (IsStepOf hs) steps) (sym (started scans hosts start f)) (λ k x lt. step_on_found scans hosts (get_or steps k x).1.0 (get_or steps k x).2 (all k x lt))

pub ran : (script : Script) (mid new : List HostRun) (skips : List (ℕ × Why)) (short : Bool) → Plays script.steps (map (unplayed script.scans) script.hosts) mid skips
    → RunOn script.drain (most_rounds script) mid new → specs_of new ≡ map (as_found script.scans) script.hosts → short ≡ (script.drain && not (all_drained new)) → All IsRun new → Ran script new skips short
ran script mid new skips short plays rounds kept ends each = record {
  hosts = kept;
  mid = mid;
  steps = plays;
  rounds = rounds;
  ends = ends;
  each = each;
}

-- one host more
pub drained_more : (most : ℕ) (old new : List HostRun) (r q : HostRun) → DrainEach most old new → Drains most r.spec r.before r.entries q.entries → q.spec ≡ r.spec → q.before ≡ r.before
    → DrainEach most (old ++ r ∷ []) (new ++ q ∷ [])
drained_more most [] new r q h one spec before = (
  q.entries,
  [],
  one,
  ap (λ (rs : List HostRun). rs ++ q ∷ []) h ∙ ap (λ (x : HostRun). x ∷ []) (same spec before),
  refl,
)
  where
    same : q.spec ≡ r.spec → q.before ≡ r.before → q ≡ record r { entries = q.entries }
    same e f =
        ap (λ (s : HostSpec). record { spec = s; before = q.before; entries = q.entries }) e
        ∙ ap (λ (b : Before). record { spec = r.spec; before = b; entries = q.entries }) f
drained_more most (x ∷ old) new r q h one spec before = (
  h.0,
  h.1 ++ q ∷ [],
  h.2,
  ap (λ (rs : List HostRun). rs ++ q ∷ []) h.3,
  drained_more most old h.1 r q h.4 one spec before,
)

pub drained_specs : (most : ℕ) (old new : List HostRun) → DrainEach most old new → specs_of new ≡ specs_of old
drained_specs most [] new h = ap specs_of h
drained_specs most (x ∷ old) new h = ap specs_of h.3 ∙ ap (λ (ss : List HostSpec). x.spec ∷ ss) (drained_specs most old h.1 h.4)

numbered_all : (runs : List HostRun) → All KeepsLimits (specs_of runs) → All IsNumbered runs
numbered_all [] all = All-nil IsNumbered
numbered_all (r ∷ runs) all = All-cons IsNumbered r runs (all 0 r.spec (omega arith)).number (numbered_all runs (λ k x lt. all (suc k) x (omega (arith, lt))))

found_limits : (scans : List (HostNo × DevAddr)) (hosts : List HostSpec) → All KeepsLimits hosts → All KeepsLimits (map (as_found scans) hosts)
found_limits scans [] all = All-nil KeepsLimits
found_limits scans (h ∷ hosts) all =
    All-cons KeepsLimits (as_found scans h) (map (as_found scans) hosts) (found_keeps (devices_on h.no.0 scans) h (all 0 h (omega arith)))
    (found_limits scans hosts (λ k x lt. all (suc k) x (omega (arith, lt))))

pub numbered : (scans : List (HostNo × DevAddr)) (hosts : List HostSpec) (runs : List HostRun) → specs_of runs ≡ map (as_found scans) hosts → All KeepsLimits hosts → All IsNumbered runs
numbered scans hosts runs e all = numbered_all runs (subst (λ (hs : List HostSpec). All KeepsLimits hs) (sym e) (found_limits scans hosts all))

-- as many hosts as before are written back in the place of the old ones
pub written_back : (new old : List HostRun) (n : ℕ) → specs_of new ≡ specs_of old → n ≡ length old → take n (new ++ drop (length new) old) ≡ new
written_back new old n kept e =
    let same : length new ≡ length old = sym (length-map new (λ (r : HostRun). r.spec)) ∙ (ap length kept ∙ length-map old (λ (r : HostRun). r.spec)) in
    ap (λ (rest : List HostRun). take n (new ++ rest)) (drop_all (length new) old (omega (arith, same)))
    ∙ (ap (take n) (append-nil new) ∙ take_all n new (omega (arith, same, e)))
