-- A phase comes to one journal.
use Rattle.std.proofs.Common.{◌≡◌, Bool, List, [], ◌∷◌, Some, sym, ap, ◌∙◌, subst}
use Rattle.mid_base.specs.declared.entries.Entry.{Entry}
use Rattle.mid_base.specs.declared.host_spec.HostSpec.{HostSpec}
use Rattle.mid_base.specs.declared.steps.Step.{Step}
use Rattle.host_template.specs.Standing.{Before}
use Rattle.drain_rounds.specs.Making.{Makes}
use Rattle.drain_rounds.specs.Rounds.{Exhausts, MakesEach, NamesNone, Passes, Phase, named}
use Rattle.adds_laws.proofs.Due.{due_once}
use Rattle.ran_laws.proofs.Steps.{made_one}

-- where a phase names none, it makes none
over : (f : Phase) (s : HostSpec) (b : Before) (P Q R : List Entry) (t : Step) (ts : List Step) → Q ≡ P → NamesNone f s b Q → MakesEach f s b (t ∷ ts) P R → ⊥
over f s b P Q R t ts same none x = cc (sym (subst (NamesNone f s b) same none x.0 x.2) ∙ x.3)

-- what comes next is one step
named_one : (f : Phase) (s : HostSpec) (P : List Entry) (due other : Bool) (t u : Step) → due ≡ other → named f s due P ≡ Some t → named f s other P ≡ Some u → u ≡ t
named_one f s P due other t u same x y = cc (sym y ∙ (ap (λ (d : Bool). named f s d P) (sym same) ∙ x))

each_one : (f : Phase) (s : HostSpec) (b : Before) (ts us : List Step) (P Q R : List Entry)
    → MakesEach f s b ts P Q → NamesNone f s b Q → MakesEach f s b us P R → NamesNone f s b R → Q ≡ R
each_one f s b [] [] P Q R x n y m = x ∙ sym y
each_one f s b [] (u ∷ us) P Q R x n y m = absurd (over f s b P Q R u us x n y)
each_one f s b (t ∷ ts) [] P Q R x n y m = absurd (over f s b P R Q t ts y m x)
each_one f s b (t ∷ ts) (u ∷ us) P Q R x n y m =
    let step : u ≡ t = named_one f s P x.0 y.0 t u (due_once s b P x.0 y.0 x.2 y.2) x.3 y.3 in
    let next : y.1 ≡ x.1 = made_one s b y.0 x.0 P t y.1 x.1 (subst (λ (z : Step). Makes s b y.0 P z y.1) step y.4) x.4 in
    each_one f s b ts us x.1 Q R x.5 n (subst (λ (S : List Entry). MakesEach f s b us S R) next y.5) m

pub exhausts_one : (f : Phase) (s : HostSpec) (b : Before) (P Q R : List Entry) → Exhausts f s b P Q → Exhausts f s b P R → Q ≡ R
exhausts_one f s b P Q R x y = each_one f s b x.steps y.steps P Q R x.made x.done y.made y.done

pub passes_one : (fs : List Phase) (s : HostSpec) (b : Before) (P Q R : List Entry) → Passes fs s b P Q → Passes fs s b P R → Q ≡ R
passes_one [] s b P Q R x y = x ∙ sym y
passes_one (f ∷ fs) s b P Q R x y =
    let one : y.0 ≡ x.0 = exhausts_one f s b P y.0 x.0 y.1 x.1 in
    passes_one fs s b x.0 Q R x.2 (subst (λ (S : List Entry). Passes fs s b S R) one y.2)
