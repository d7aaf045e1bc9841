-- A phase goes on by a step, and ends.
use Rattle.std.proofs.Common.{◌≡◌, ℕ, Bool, true, false, List, [], ◌∷◌, Option, None, Some, is_some, refl, sym, ap, ◌∙◌, subst}
use Rattle.mid_base.specs.declared.entries.Entry.{Entry}
use Rattle.mid_base.specs.declared.steps.Step.{Step}
use Rattle.mid_base.specs.declared.steps.Why.{Why}
use Rattle.mid_base.specs.declared.host_spec.HostSpec.{HostSpec}
use Rattle.host_template.specs.Standing.{Before}
use Rattle.trace_model.specs.Steps.{barred}
use Rattle.drain_rounds.specs.Making.{Comes, HostRun, IsDueAfter}
use Rattle.drain_rounds.specs.Rounds.{Exhausts, NamesNone, Phase, named}
use Rattle.play_sched.specs.Phases.{Continues, unless_barred}
use Rattle.play_sched.specs.Rest.{GoesOn}

-- what the phase named was made
pub walk_on : (f : Phase) (s : HostSpec) (b : Before) (P R Q : List Entry) (t : Step)
    → ((due : Bool) → named f s due P ≡ unless_barred (barred s due P t) t) → Comes s b P t None R → Exhausts f s b R Q → Exhausts f s b P Q
walk_on f s b P R Q t names comes rest = record {
  steps = t ∷ rest.steps;
  made = (comes.0, R, comes.1, names comes.0 ∙ ap (λ (w : Option Why). unless_barred w t) comes.2.adds.free, comes.2, rest.made);
  done = rest.done;
}

-- it names nothing
pub walk_ends : (f : Phase) (s : HostSpec) (b : Before) (P : List Entry) → NamesNone f s b P → Exhausts f s b P P
walk_ends f s b P none = record { steps = []; made = refl; done = none }

due_same : (s : HostSpec) (b : Before) (P : List Entry) (x y : Bool) → IsDueAfter s b P x → IsDueAfter s b P y → x ≡ y
due_same s b P true true h k = refl
due_same s b P true false h k = absurd (cc (sym h.1 ∙ k h.0))
due_same s b P false true h k = absurd (cc (sym k.1 ∙ h k.0))
due_same s b P false false h k = refl

-- the step that it would have named is barred
pub walk_barred : (f : Phase) (s : HostSpec) (b : Before) (P R : List Entry) (t : Step) (why : Why)
    → ((due : Bool) → named f s due P ≡ unless_barred (barred s due P t) t) → Comes s b P t (Some why) R → Exhausts f s b P R
walk_barred f s b P R t why names comes =
    subst (Exhausts f s b P) (sym comes.2.0) (walk_ends f s b P (λ due is.
    names due ∙ ap (λ (w : Option Why). unless_barred w t) (ap (λ (d : Bool). barred s d P t) (due_same s b P due comes.0 is comes.1) ∙ comes.2.1)))

pub goes_more : (a b c : HostRun) → GoesOn a b → GoesOn b c → GoesOn a c
goes_more a b c g h = record {
  spec = h.spec ∙ g.spec;
  before = h.before ∙ g.before;
  handed = λ n in_below. h.handed n (g.handed n in_below);
  awake = λ up. h.awake (g.awake up);
}

pub goes_none : (a : HostRun) → GoesOn a a
goes_none a = record { spec = refl; before = refl; handed = λ n h. h; awake = λ h. h }

moved : (f : Phase) (s t : HostSpec) (b d : Before) (P Q : List Entry) → s ≡ t → b ≡ d → Exhausts f s b P Q → Exhausts f t d P Q
moved f s t b d P Q e g h =
    subst (λ (x : HostSpec). Exhausts f x d P Q) e (subst (λ (x : Before). Exhausts f s x P Q) g h)

pub continues_none : (f : Phase) (a : HostRun) → Continues f a a
continues_none f a = λ Q h. h

pub continues_more : (f : Phase) (a b c : HostRun) → GoesOn a b → Continues f a b → Continues f b c → Continues f a c
continues_more f a b c g h k = λ Q ex.
    h Q (moved f b.spec a.spec b.before a.before b.entries Q g.spec g.before (k Q (moved f a.spec b.spec a.before b.before c.entries Q (sym g.spec) (sym g.before) ex)))

-- a step more
pub continues_by : (f : Phase) (a b : HostRun) (t : Step) → ((due : Bool) → named f a.spec due a.entries ≡ unless_barred (barred a.spec due a.entries t) t)
    → Comes a.spec a.before a.entries t None b.entries → Continues f a b
continues_by f a b t names comes = λ Q ex. walk_on f a.spec a.before a.entries b.entries Q t names comes ex

-- the end of a phase
pub ends_named : (f : Phase) (a b : HostRun) → GoesOn a b → Continues f a b → NamesNone f b.spec b.before b.entries → Exhausts f a.spec a.before a.entries b.entries
ends_named f a b g h none = h b.entries (moved f b.spec a.spec b.before a.before b.entries b.entries g.spec g.before (walk_ends f b.spec b.before b.entries none))

pub ends_barred : (f : Phase) (a b c : HostRun) (t : Step) (why : Why) → GoesOn a b → Continues f a b
    → ((due : Bool) → named f b.spec due b.entries ≡ unless_barred (barred b.spec due b.entries t) t)
    → Comes b.spec b.before b.entries t (Some why) c.entries → Exhausts f a.spec a.before a.entries c.entries
ends_barred f a b c t why g h names comes =
    h c.entries (moved f b.spec a.spec b.before a.before b.entries c.entries g.spec g.before (walk_barred f b.spec b.before b.entries c.entries t why names comes))

-- no reason to skip it was given
pub unskipped : (w : Option Why) → is_some w ≡ false → w ≡ None
unskipped None h = refl
unskipped (Some why) h = absurd (cc h)

pub skipped : (w : Option Why) → is_some w ≡ true → (why : Why) × (w ≡ Some why)
skipped None h = absurd (cc h)
skipped (Some why) h = (why, refl)
