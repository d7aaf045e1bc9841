-- A script comes to one outcome.
use Rattle.std.proofs.Common.{◌≡◌, ◌==◌, ℕ, Bool, true, false, not, ◌&&◌, ◌||◌, List, [], ◌∷◌, map, refl, sym, ap, ap₂, ◌∙◌, subst}
use Rattle.std.specs.List.{list_any}
use Rattle.mid_base.specs.declared.names.DevAddr.{DevAddr}
use Rattle.mid_base.specs.declared.names.HostNo.{HostNo}
use Rattle.mid_base.specs.declared.entries.Entry.{Entry}
use Rattle.mid_base.specs.declared.steps.Why.{Why}
use Rattle.mid_base.specs.declared.host_spec.HostSpec.{HostSpec}
use Rattle.script_text.specs.declared.script.Script.{Script}
use Rattle.script_text.specs.Playable.{IsPlayable, differ_in_number}
use Rattle.drain_rounds.specs.Making.{HostRun}
use Rattle.play_sched.specs.Played.{DrainEach, RunOn, most_rounds}
use Rattle.play_sched.specs.Runs.{all_drained, specs_of, unplayed}
use Rattle.ran_laws.specs.Outcome.{ComesOut, Outcome}
use Rattle.ran_laws.proofs.Rounds.{drains_one}
use Rattle.ran_laws.proofs.Lines.{plays_one}

each_one : (most : ℕ) (old new also : List HostRun) → DrainEach most old new → DrainEach most old also → new ≡ also
each_one most [] new also x y = x ∙ sym y
each_one most (r ∷ old) new also x y =
    let one : x.0 ≡ y.0 = drains_one most r.spec r.before r.entries x.0 y.0 x.2 y.2 in
    let rest : x.1 ≡ y.1 = each_one most old x.1 y.1 x.4 y.4 in
    x.3 ∙ (ap₂ (λ (P : List Entry) (runs : List HostRun). record r { entries = P } ∷ runs) one rest ∙ sym y.3)

run_on_one : (drains : Bool) (most : ℕ) (old new also : List HostRun) → RunOn drains most old new → RunOn drains most old also → new ≡ also
run_on_one false most old new also x y = x ∙ sym y
run_on_one true most old new also x y = each_one most old new also x y

-- scanning leaves the numbers of hosts as they are
number_found : (scans : List (HostNo × DevAddr)) (hosts : List HostSpec) (n : ℕ)
    → list_any (λ (g : HostSpec). g.no.0 == n) (specs_of (map (unplayed scans) hosts)) ≡ list_any (λ (g : HostSpec). g.no.0 == n) hosts
number_found scans [] n = refl
number_found scans (h ∷ hosts) n = ap (λ (b : Bool). (h.no.0 == n) || b) (number_found scans hosts n)

numbers_found : (scans : List (HostNo × DevAddr)) (hosts : List HostSpec) → differ_in_number (specs_of (map (unplayed scans) hosts)) ≡ differ_in_number hosts
numbers_found scans [] = refl
numbers_found scans (h ∷ hosts) = ap₂ (λ (b c : Bool). not b && c) (number_found scans hosts h.no.0) (numbers_found scans hosts)

same : (o q : Outcome) → o.runs ≡ q.runs → o.skips ≡ q.skips → o.short ≡ q.short → o ≡ q
same o q runs skips short =
    ap (λ (r : List HostRun). record { runs = r; skips = o.skips; short = o.short }) runs
    ∙ (ap (λ (k : List (ℕ × Why)). record { runs = q.runs; skips = k; short = o.short }) skips
    ∙ ap (λ (u : Bool). record { runs = q.runs; skips = q.skips; short = u }) short)

pub outcome_one : (script : Script) (one other : Outcome) → IsPlayable script → ComesOut script one → ComesOut script other → one ≡ other
outcome_one script one other playable x y =
    let start = map (unplayed script.scans) script.hosts in
    let differ : differ_in_number (specs_of start) ≡ true = numbers_found script.scans script.hosts ∙ playable.numbers in
    let lines = plays_one script.steps start x.mid y.mid one.skips other.skips differ x.steps y.steps in
    let most = most_rounds script in
    let runs : one.runs ≡ other.runs =
    run_on_one script.drain most x.mid one.runs other.runs x.rounds
    (subst (λ (mid : List HostRun). RunOn script.drain most mid other.runs) (sym lines.0) y.rounds)
    in
    same one other runs lines.1 (x.ends ∙ (ap (λ (rs : List HostRun). script.drain && not (all_drained rs)) runs ∙ sym y.ends))
