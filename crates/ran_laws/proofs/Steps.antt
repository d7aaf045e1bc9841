-- A step comes to one journal.
use Rattle.std.proofs.Common.{◌≡◌, Bool, List, Option, None, Some, refl, sym, ap, ◌∙◌, subst}
use Rattle.mid_base.specs.declared.entries.Entry.{Entry}
use Rattle.mid_base.specs.declared.host_spec.HostSpec.{HostSpec}
use Rattle.mid_base.specs.declared.steps.Step.{Step}
use Rattle.mid_base.specs.declared.steps.Why.{Why}
use Rattle.host_template.specs.Standing.{Before}
use Rattle.trace_model.specs.Legal.{onto}
use Rattle.debug_adapter.specs.LowerRun.{LowerRun}
use Rattle.drain_rounds.specs.Making.{Comes, ComesWhere, Makes}
use Rattle.adds_laws.proofs.All.{adds_one}
use Rattle.adds_laws.proofs.Due.{due_once}

pub made_one : (s : HostSpec) (b : Before) (due other : Bool) (P : List Entry) (t : Step) (Q R : List Entry) → Makes s b due P t Q → Makes s b other P t R → Q ≡ R
made_one s b due other P t Q R x y =
    let one : x.group ≡ y.group =
    adds_one s b P t due other x.group y.group x.adds (subst (LowerRun s b) x.after x.lower) y.adds (subst (LowerRun s b) y.after y.lower)
    in
    x.after ∙ (ap (λ (g : List Entry). onto g P) one ∙ sym y.after)

comes_where_one : (due : Bool) (s : HostSpec) (b : Before) (P : List Entry) (t : Step) (why other : Option Why) (Q R : List Entry)
    → ComesWhere due s b P t why Q → ComesWhere due s b P t other R → (why ≡ other) × (Q ≡ R)
comes_where_one due s b P t None None Q R x y = (refl, made_one s b due due P t Q R x y)
comes_where_one due s b P t None (Some w) Q R x y = absurd (cc (sym x.adds.free ∙ y.1))
comes_where_one due s b P t (Some v) None Q R x y = absurd (cc (sym y.adds.free ∙ x.1))
comes_where_one due s b P t (Some v) (Some w) Q R x y = (sym x.1 ∙ y.1, x.0 ∙ sym y.0)

pub comes_one : (s : HostSpec) (b : Before) (P : List Entry) (t : Step) (why other : Option Why) (Q R : List Entry)
    → Comes s b P t why Q → Comes s b P t other R → (why ≡ other) × (Q ≡ R)
comes_one s b P t why other Q R x y =
    let same : y.0 ≡ x.0 = due_once s b P y.0 x.0 y.1 x.1 in
    comes_where_one x.0 s b P t why other Q R x.2 (subst (λ (due : Bool). ComesWhere due s b P t other R) same y.2)
