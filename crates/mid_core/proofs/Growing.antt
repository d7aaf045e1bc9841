-- A core goes on by a group, and its journal grows at its end.
use Rattle.std.proofs.Common.{◌≡◌, ◌∙◌, ◌≤◌, ap, length, ℕ, List, [], ◌∷◌, ◌++◌, reverse, append_assoc, Option}
use Rattle.std.proofs.lemmas.List.{reverse-append}
use Rattle.mid_base.specs.declared.entries.Entry.{Entry}
use Rattle.mid_base.specs.declared.host_spec.HostSpec.{HostSpec}
use Rattle.host_template.specs.Meaning.{Meaning}
use Rattle.host_template.specs.Standing.{Before, Standing}
use Rattle.trace_model.specs.Legal.{Group, onto}
use Rattle.trace_model.proofs.Making.{goes_on_back}
use Rattle.host_state.specs.declared.running.Running.{Running}
use Rattle.host_state.specs.HostAgrees.{HostAgrees}
use Rattle.escalation.specs.Climbing.{Climb}
use Rattle.mid_core.specs.View.{IsCore, IsStaged}
use Rattle.mid_core.proofs.Holding.{Does, does_right, one_group}
use Rattle.mid_core.proofs.Staged.{Keeps, keeps_stage}

pub core_grows : {A : Type 0} (stands : A → Standing) (means : A → Meaning) (spec : HostSpec) (before : Before) (lower later : A) (P g : List Entry) (r new : Running) (ladder : Option Climb) (probes : List ℕ)
    → IsCore stands means spec before lower P r ladder probes → Keeps spec P g
    → Group spec P g → stands later spec before (onto g P) → Does spec P g (means lower) (means later) → HostAgrees spec (onto g P) new → IsCore stands means spec before later (onto g P) new ladder probes
core_grows stands means spec before lower later P g r new ladder probes core keeps may stood does runs = record {
  legal = goes_on_back spec P g core.legal may;
  stood = stood;
  right = does_right spec P g (means lower) (means later) core.legal (one_group spec P g may) does core.right;
  runs = runs;
  stage = keeps_stage spec P g ladder keeps core.stage;
  buffer = core.buffer;
}

-- a core goes on by a group of recovery
pub core_recovers : {A : Type 0} (stands : A → Standing) (means : A → Meaning) (spec : HostSpec) (before : Before) (lower later : A) (P g : List Entry) (r new : Running) (ladder next : Option Climb) (probes bytes : List ℕ)
    → IsCore stands means spec before lower P r ladder probes → Group spec P g → stands later spec before (onto g P) → Does spec P g (means lower) (means later) → HostAgrees spec (onto g P) new → IsStaged spec (onto g P) next
    → 2056 ≤ length bytes → IsCore stands means spec before later (onto g P) new next bytes
core_recovers stands means spec before lower later P g r new ladder next probes bytes core may stood does runs stage buffer = record {
  legal = goes_on_back spec P g core.legal may;
  stood = stood;
  right = does_right spec P g (means lower) (means later) core.legal (one_group spec P g may) does core.right;
  runs = runs;
  stage = stage;
  buffer = buffer;
}

-- one entry more
pub added : (J J1 J2 : List Entry) (e : Entry) → J1 ≡ J → J2 ≡ J1 ++ e ∷ [] → J2 ≡ J ++ e ∷ []
added J J1 J2 e p q = q ∙ ap (λ (xs : List Entry). xs ++ e ∷ []) p

pub back : (J J1 J2 : List Entry) (e : Entry) → J1 ≡ J → J2 ≡ J1 ++ e ∷ [] → reverse J2 ≡ e ∷ reverse J
back J J1 J2 e p q = ap (λ (xs : List Entry). reverse xs) (added J J1 J2 e p q) ∙ reverse-append J (e ∷ [])

-- two entries more
pub added2 : (J J1 J2 J3 : List Entry) (e f : Entry) → J1 ≡ J → J2 ≡ J1 ++ e ∷ [] → J3 ≡ J2 ++ f ∷ [] → J3 ≡ J ++ e ∷ f ∷ []
added2 J J1 J2 J3 e f p q r = r ∙ ap (λ (xs : List Entry). xs ++ f ∷ []) (added J J1 J2 e p q) ∙ append_assoc J (e ∷ []) (f ∷ [])

pub back2 : (J J1 J2 J3 : List Entry) (e f : Entry) → J1 ≡ J → J2 ≡ J1 ++ e ∷ [] → J3 ≡ J2 ++ f ∷ [] → reverse J3 ≡ f ∷ e ∷ reverse J
back2 J J1 J2 J3 e f p q r = ap (λ (xs : List Entry). reverse xs) (added2 J J1 J2 J3 e f p q r) ∙ reverse-append J (e ∷ f ∷ [])
