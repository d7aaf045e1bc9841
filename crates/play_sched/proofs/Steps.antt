-- What a step of the core makes of its host.
use Rattle.std.proofs.Common.{◌≡◌, ℕ, true, List, [], ◌∷◌, ◌++◌, length, get_or, set, reverse, Option, None, Some, Ok, refl, sym, ap, ◌∙◌, subst, append_assoc, inl, inr, arith, ◌≤◌, ◌<◌, length-append, one-add}
use Rattle.std.specs.List.{position, position_or_len}
use Rattle.std.proofs.lemmas.Bool.{cases_Bool, cases_lt, lt-ltb, eqb-true}
use Rattle.std.proofs.lemmas.List.{reverse-append, append-nil, length-reverse}
use Rattle.std.proofs.lemmas.List.Quantifiers.{position-Some}
use Rattle.std.proofs.lemmas.Option.{slice_get-get_or}
use Rattle.std.proofs.Math.Seq.{map-set_same}
use Rattle.mid_base.specs.declared.entries.Entry.{Entry}
use Rattle.mid_base.specs.declared.names.HostNo.{HostNo}
use Rattle.mid_base.specs.declared.steps.Step.{Step}
use Rattle.mid_base.specs.declared.steps.Why.{Why}
use Rattle.mid_base.specs.declared.host_spec.HostSpec.{HostSpec}
use Rattle.mid_base.specs.declared.steps.Did.{Did}
use Rattle.mid_base.specs.declared.steps.Did.TheVariants.{Done, Skipped}
use Rattle.mid_base.specs.Past.{ticks}
use Rattle.host_template.specs.Standing.{Before}
use Rattle.adapter_tables.specs.Ties.{any_due}
use Rattle.debug_adapter.specs.declared.adapter.DebugAdapter.{DebugAdapter}
use Rattle.debug_adapter.specs.Adapter.{AdapterStands}
use Rattle.debug_adapter.specs.Means.{means_of}
use Rattle.trace_model.specs.Legal.{onto}
use Rattle.trace_model.proofs.Making.{onto-reverse}
use Rattle.mid_core.specs.View.{CoreView}
use Rattle.mid_core.specs.Steps.{Answers, Opens}
use Rattle.debug_adapter.specs.LowerRun.{LowerRun}
use Rattle.drain_rounds.specs.Making.{Comes, HostRun}
use Rattle.play_sched.specs.Rest.{GoesOn, stops_none}
use Rattle.play_sched.proofs.Due.{due_is}
use Rattle.play_sched.proofs.Kept.{awake_stays, handed_stays}

-- the journal behind a group, the newest entry first
pub behind : (journal g new : List Entry) → new ≡ journal ++ g → reverse new ≡ onto g (reverse journal)
behind journal g new e = ap reverse e ∙ (reverse-append journal g ∙ sym (onto-reverse g (reverse journal)))

-- why a step was skipped, if it was
abbrev pub why_of : Did → Option Why
why_of Done = None
why_of (Skipped why) = Some why

abbrev pub run_of : CoreView DebugAdapter → HostRun
run_of v = record { spec = v.spec; before = v.before; entries = reverse v.journal }

pub kept_on : (old new : CoreView DebugAdapter) (t : Step) (did : Did) → Answers AdapterStands (λ x now. any_due x.held now) (λ x. means_of x.held) old new t (Ok did)
    → (new.spec ≡ old.spec) × (new.before ≡ old.before)
kept_on old new t Done answer = (answer.spec, answer.before)
kept_on old new t (Skipped why) answer = (ap (λ (v : CoreView DebugAdapter). v.spec) answer.0, ap (λ (v : CoreView DebugAdapter). v.before) answer.0)

-- what a step of the core says of its host
pub came : (old new : CoreView DebugAdapter) (run : HostRun) (t : Step) (did : Did) → run_of old ≡ run
    → AdapterStands old.lower old.spec old.before (reverse old.journal) → AdapterStands new.lower new.spec new.before (reverse new.journal)
    → Answers AdapterStands (λ x now. any_due x.held now) (λ x. means_of x.held) old new t (Ok did)
    → Comes run.spec run.before run.entries t (why_of did) (reverse new.journal)
came old new run t did view stands after answer =
    let kept = kept_on old new t did answer in
    let lower : LowerRun old.spec old.before (reverse new.journal) =
    subst (λ (s : HostSpec). LowerRun s old.before (reverse new.journal)) kept.0
    (subst (λ (b : Before). LowerRun new.spec b (reverse new.journal)) kept.1 after.5) in
    subst (λ (r : HostRun). Comes r.spec r.before r.entries t (why_of did) (reverse new.journal)) view (by did answer lower)
  where
    by : (x : Did) → Answers AdapterStands (λ x now. any_due x.held now) (λ x. means_of x.held) old new t (Ok x) → LowerRun old.spec old.before (reverse new.journal)
        → Comes old.spec old.before (reverse old.journal) t (why_of x) (reverse new.journal)
    by Done a lower = (
      any_due old.lower.held (ticks (reverse old.journal)),
      due_is old.lower old.spec old.before (reverse old.journal) stands,
      record {
        group = a.group;
        adds = a.adds;
        after = behind old.journal a.group new.journal a.journal;
        lower = lower;
      },
    )
    by (Skipped why) a lower = (
      any_due old.lower.held (ticks (reverse old.journal)),
      due_is old.lower old.spec old.before (reverse old.journal) stands,
      (ap (λ (v : CoreView DebugAdapter). reverse v.journal) a.0, a.1),
    )

-- what is over stays so
pub goes : (old new : CoreView DebugAdapter) (t : Step) (did : Did) → stops_none t ≡ true
    → Answers AdapterStands (λ x now. any_due x.held now) (λ x. means_of x.held) old new t (Ok did) → GoesOn (run_of old) (run_of new)
goes old new t Done none answer =
    let after = behind old.journal answer.group new.journal answer.journal in
    record {
      spec = answer.spec;
      before = answer.before;
      handed = λ n h. rw (answer.spec, after) (handed_stays old.spec n answer.group (reverse old.journal) h);
      awake = λ h. rw (answer.spec, after) (awake_stays old.spec t answer.group (reverse old.journal) none answer.enters h);
    }
goes old new t (Skipped why) none answer = record {
  spec = ap (λ (v : CoreView DebugAdapter). v.spec) answer.0;
  before = ap (λ (v : CoreView DebugAdapter). v.before) answer.0;
  handed = λ n h. rw answer.0 h;
  awake = λ h. rw answer.0 h;
}

some_added : (s : HostSpec) (P : List Entry) (t : Step) (g : List Entry) → Opens s P t g → 0 < length g
some_added s P t [] opened = absurd opened
some_added s P t (e ∷ g) opened = omega arith

pub longer : (old new : CoreView DebugAdapter) (t : Step) → Answers AdapterStands (λ x now. any_due x.held now) (λ x. means_of x.held) old new t (Ok Done)
    → length (reverse old.journal) < length (reverse new.journal)
longer old new t answer =
    omega (
      arith,
      length-reverse old.journal,
      length-reverse new.journal,
      ap length answer.journal,
      length-append old.journal answer.group,
      some_added old.spec (reverse old.journal) t answer.group answer.adds.opened,
    )
