-- What an act of recovery adds to the journal, entry by entry, and what the core owes for it.
use Rattle.std.proofs.Common.{◌≡◌, ◌∙◌, ◌<◌, ◌≤◌, ◌+◌, ap, sym, subst, refl, ℕ, Bool, true, false, List, [], ◌∷◌, ◌++◌, reverse, length, length-append, length-drop, length-take, get_or, take, drop, append_assoc, filter, None, Some, arith}
use Rattle.std.specs.List.{list_all}
use Rattle.std.proofs.lemmas.List.{take_more, drop_more, reverse-append}
use Rattle.mid_base.specs.declared.answers.Scope.{Scope}
use Rattle.mid_base.specs.declared.entries.Entry.{Entry}
use Rattle.mid_base.specs.declared.entries.Entry.TheVariants as entry
use Rattle.mid_base.specs.declared.host_spec.HostSpec.{HostSpec}
use Rattle.mid_base.specs.declared.steps.Step.TheVariants as step
use Rattle.mid_base.specs.Levels.{level_of}
use Rattle.mid_base.specs.Limits.{KeepsLimits}
use Rattle.disposition.specs.declared.todo.Todo.{Todo}
use Rattle.disposition.specs.Ladder.{is_in_scope}
use Rattle.host_template.specs.Meaning.{Meaning, SameNature, IfHonest}
use Rattle.host_template.specs.Standing.{Before, Standing}
use Rattle.trace_model.specs.Climb.{climb}
use Rattle.trace_model.specs.Course.{Follows}
use Rattle.trace_model.specs.Flush.{is_empty}
use Rattle.trace_model.specs.Legal.{EachStands, onto}
use Rattle.trace_model.specs.Recovery.{todo}
use Rattle.trace_model.specs.Steps.{barred, IsAdded}
use Rattle.trace_model.proofs.Making.{onto-reverse}
use Rattle.trace_model.proofs.Readings.{onto_more}
use Rattle.verdict_table.specs.Taken.{Takes, AreTaken}
use Rattle.host_state.specs.declared.running.Running.{Running}
use Rattle.host_state.specs.HostAgrees.{HostAgrees}
use Rattle.escalation.specs.Climbing.{Climb, IsNextAct, StandsActed, HonestAct, gone_on}
use Rattle.climb_laws.specs.LadderOf.{LeadTo}
use Rattle.climb_laws.proofs.Acts.{leads_on, some_left}
use Rattle.climb_laws.proofs.Lasts.{left_last}
use Rattle.climb_laws.proofs.Others.{same_next}
use Rattle.recovery_laws.proofs.Courses.{act_taken}
use Rattle.recovery_laws.proofs.Quiet.{still}
use Rattle.mid_core.specs.Steps.{AddsTo, Opens, may_enter}
use Rattle.mid_core.specs.View.{IsCore, IsStaged}
use Rattle.mid_core.proofs.Holding.{Does}
use Rattle.mid_core.proofs.Growing.{core_recovers}
use Rattle.mid_core.proofs.Staged.{each_of}

-- the running state says the journal with the first i of the entries, and the others are taken after them
abbrev pub TellsTo : HostSpec → List Entry → List Entry → ℕ → Running → Type 0
TellsTo s P es i r = HostAgrees s (onto (take i es) P) r × AreTaken s (onto (take i es) P) (drop i es)

-- one entry more
pub tells_more : (s : HostSpec) (P es : List Entry) (i : ℕ) (e : Entry) (now next : Running) → i < length es → e ≡ get_or es i e
    → ((t : HostSpec) (Q : List Entry) → Takes t Q e → HostAgrees t Q now → HostAgrees t (e ∷ Q) next)
    → TellsTo s P es i now → TellsTo s P es (i + 1) next
tells_more s P es i e now next lt is enter (runs, taken) =
    let rest : drop i es ≡ e ∷ drop (i + 1) es = drop_more es i e lt ∙ ap (λ (x : Entry). x ∷ drop (i + 1) es) (sym is) in
    let front : onto (take (i + 1) es) P ≡ e ∷ onto (take i es) P =
    ap (λ (xs : List Entry). onto xs P) (take_more es i e lt ∙ ap (λ (x : Entry). take i es ++ x ∷ []) (sym is)) ∙ onto_more (take i es) e P in
    let both : AreTaken s (onto (take i es) P) (e ∷ drop (i + 1) es) = subst (λ (xs : List Entry). AreTaken s (onto (take i es) P) xs) rest taken in
    subst (λ (Q : List Entry). HostAgrees s Q next × AreTaken s Q (drop (i + 1) es)) (sym front) (enter s (onto (take i es) P) both.0 runs, both.1)

-- the book's entries, one more
pub book_more : (old now next es : List Entry) (i : ℕ) (e : Entry) → i < length es → e ≡ get_or es i e
    → next ≡ now ++ e ∷ [] → now ≡ old ++ take i es → next ≡ old ++ take (i + 1) es
book_more old now next es i e lt is pushed before =
    pushed ∙ ap (λ (xs : List Entry). xs ++ e ∷ []) before ∙ append_assoc old (take i es) (e ∷ [])
    ∙ ap (λ (xs : List Entry). old ++ xs) (sym (take_more es i e lt ∙ ap (λ (x : Entry). take i es ++ x ∷ []) (sym is)))

-- the journal, the newest entry first, with these entries behind it
pub back_onto : (J new es : List Entry) → new ≡ J ++ es → reverse new ≡ onto es (reverse J)
back_onto J new es pushed = ap (λ (xs : List Entry). reverse xs) pushed ∙ (reverse-append J es ∙ sym (onto-reverse es (reverse J)))

-- what is told of a group goes behind the journal
pub told_behind : (J now new es told : List Entry) → now ≡ J → told ≡ es → new ≡ now ++ told → new ≡ J ++ es
told_behind J now new es told same is pushed = pushed ∙ (ap (λ (xs : List Entry). xs ++ told) same ∙ ap (λ (xs : List Entry). J ++ xs) is)

-- the running state says the journal with what is told behind it
pub tells_all : (s : HostSpec) (P es told : List Entry) (now next : Running) → told ≡ es → HostAgrees s P now → AreTaken s P es
    → ((Q : List Entry) → HostAgrees s Q now → AreTaken s Q told → HostAgrees s (onto told Q) next) → HostAgrees s (onto es P) next
tells_all s P es told now next is runs taken tell =
    subst (λ (xs : List Entry). HostAgrees s (onto xs P) next) is (tell P runs (subst (λ (xs : List Entry). AreTaken s P xs) (sym is) taken))

-- the entries of an act send nothing, and give no attempt an owner
pub taken_enters : (s : HostSpec) (P es : List Entry) → AreTaken s P es → list_all (may_enter step.EhAct) es ≡ true
taken_enters s P [] taken = refl
taken_enters s P (entry.Act level scope ok ∷ es) taken = taken_enters s _ es taken.1
taken_enters s P (entry.Probe d op say ∷ es) taken = taken_enters s _ es taken.1
taken_enters s P (entry.Cleared c level ∷ es) taken = taken_enters s _ es taken.1
taken_enters s P (entry.Offline d ∷ es) taken = taken_enters s _ es taken.1
taken_enters s P (entry.Sensed c n x ∷ es) taken = taken_enters s _ es taken.1
taken_enters s P (entry.Judged c n d ∷ es) taken = taken_enters s _ es taken.1
taken_enters s P (e ∷ es) taken = absurd taken.0

-- what probes are read into keeps its length
pub buffer_kept : (n : ℕ) (old new : List ℕ) → 2056 ≤ length old → n ≡ length old → length new ≡ length old → 2056 ≤ length (take n (new ++ drop (length new) old))
buffer_kept n old new long is same =
    omega (arith, length-take n (new ++ drop (length new) old), length-append new (drop (length new) old), length-drop (length new) old)

-- the next act of the ladder of a core
module _ (s : HostSpec) (P : List Entry) (each : EachStands s P) (k : Climb) (stage : IsStaged s P (Some k)) (level : ℕ) (scope : Scope) (ok : Bool) (es : List Entry)
    (act : IsNextAct k level scope ok es) where
  leads : LeadTo s P es (gone_on (level, scope) es k)
  leads = leads_on s P k level scope ok es (record { begun = stage.0; quiet = (still s P each stage.0).quiet; ladder = stage.1; act = act })

  pub acts_taken : KeepsLimits s → AreTaken s P es
  acts_taken limits =
      subst (λ (xs : List Entry). AreTaken s P xs) (sym act.told)
      (act_taken s P level scope ok act.rest limits each (sym (same_next s P k stage.1) ∙ act.next)
      (subst (λ (xs : List Todo). Follows (climb xs level scope ok) act.rest) stage.1.left act.course))

  is_free : (due : Bool) → barred s due P step.EhAct ≡ None
  is_free due =
      let some : is_empty (todo s P) ≡ false = subst (λ (xs : List Todo). is_empty xs ≡ false) stage.1.left (some_left k.aborts k.left k.ahead (level, scope) act.next) in
      rw (stage.0, some) refl

  pub acts_add : (due : Bool) → AddsTo s due P step.EhAct es
  acts_add due = record {
    opened = subst (λ (xs : List Entry). Opens s P step.EhAct xs) (sym act.told) refl;
    added = let may = leads.group in subst (λ (xs : List Entry). IsAdded s P xs) (sym act.told) (rw act.told at may);
    free = is_free due;
  }

  pub acts_enter : KeepsLimits s → list_all (may_enter step.EhAct) es ≡ true
  acts_enter limits = taken_enters s P es (acts_taken limits)

-- an honest lower layer lets go what the act says
act_does : (s : HostSpec) (P : List Entry) (k : Climb) → IsStaged s P (Some k) → (level : ℕ) (scope : Scope) (ok : Bool) (es : List Entry) → IsNextAct k level scope ok es → (old new : Meaning)
    → SameNature old new → IfHonest (HonestAct (level_of level) scope ok (filter (is_in_scope scope) k.left)) old new → Does s P es old new
act_does s P k stage level scope ok es act old new nature did =
    subst (λ (xs : List Entry). Does s P xs old new) (sym act.told)
    (nature, subst (λ (xs : List Todo). IfHonest (HonestAct (level_of level) scope ok (filter (is_in_scope scope) xs)) old new) stage.1.left did)

-- a core goes on by the next act of its ladder
pub core_acts : {A : Type 0} (stands : A → Standing) (means : A → Meaning) (spec : HostSpec) (before : Before) (lower later : A) (P : List Entry) (r new : Running) (k : Climb) (probes bytes : List ℕ) (level : ℕ) (scope : Scope) (ok : Bool) (es : List Entry)
    → IsCore stands means spec before lower P r (Some k) probes → IsNextAct k level scope ok es → StandsActed k.handlers k.left (stands lower) (stands later) es
    → SameNature (means lower) (means later) → IfHonest (HonestAct (level_of level) scope ok (filter (is_in_scope scope) k.left)) (means lower) (means later)
    → HostAgrees spec (onto es P) new → 2056 ≤ length bytes → IsCore stands means spec before later (onto es P) new (Some (gone_on (level, scope) es k)) bytes
core_acts stands means spec before lower later P r new k probes bytes level scope ok es core act acted nature did runs buffer =
    let each = each_of spec P core.legal in
    let to = leads spec P each k core.stage level scope ok es act in
    core_recovers stands means spec before lower later P es r new (Some k) (Some (gone_on (level, scope) es k)) probes bytes core to.group
    (acted spec before P (sym core.stage.1.handlers) (left_last spec P k each core.stage.1) core.stood)
    (act_does spec P k core.stage level scope ok es act (means lower) (means later) nature did) runs (to.begun, to.ladder) buffer
