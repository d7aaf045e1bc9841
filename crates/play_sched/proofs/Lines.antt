-- Step lines on hosts.
use Rattle.std.proofs.Common.{◌≡◌, ℕ, List, [], ◌∷◌, ◌++◌, length, get_or, set, reverse, Option, None, Some, Ok, refl, sym, ap, ◌∙◌, subst, append_assoc, inl, inr, arith, ◌≤◌, ◌<◌, length-append, one-add}
use Rattle.std.specs.List.{position, position_or_len}
use Rattle.std.proofs.lemmas.Bool.{cases_Bool, cases_lt, lt-ltb, eqb-true}
use Rattle.std.proofs.lemmas.List.{reverse-append, append-nil, length-reverse}
use Rattle.std.proofs.lemmas.List.Quantifiers.{position-Some}
use Rattle.std.proofs.lemmas.Option.{slice_get-get_or}
use Rattle.std.proofs.Math.Seq.{map-set_same}
use Rattle.mid_base.specs.declared.entries.Entry.{Entry}
use Rattle.mid_base.specs.declared.names.HostNo.{HostNo}
use Rattle.mid_base.specs.declared.steps.Step.{Step}
use Rattle.mid_base.specs.declared.steps.Why.{Why}
use Rattle.mid_base.specs.declared.host_spec.HostSpec.{HostSpec}
use Rattle.mid_base.specs.Past.{ticks}
use Rattle.host_template.specs.Standing.{Before}
use Rattle.script_text.specs.Playable.{IsStepOnSome}
use Rattle.script_text.specs.Said.{host_of}
use Rattle.drain_rounds.specs.Making.{Comes, HostRun}
use Rattle.play_sched.specs.Played.{ComesOn, Plays, skip_of}
use Rattle.play_sched.specs.Runs.{is_named, specs_of}

absent : (n : ℕ) (runs : List HostRun) (t : Step) → IsStepOnSome (host_of (specs_of runs) n) t → length runs ≤ position_or_len (is_named n) runs → ⊥
absent n [] t is le = absurd is
absent n (r ∷ runs) t is le = elim (cases_Bool (is_named n r)) [
  | inl hit ↦ let h = rw hit at le in omega (arith, h)
  | inr isnt ↦ let below = rw (isnt, one-add) at le in absent n runs t (rw isnt at is) (omega (arith, below))
]

-- the host that a step names is there
pub host_found : (n : ℕ) (runs : List HostRun) (t : Step) → IsStepOnSome (host_of (specs_of runs) n) t → position (is_named n) runs ≡ None → ⊥
host_found n runs t is none = elim (cases_lt (position_or_len (is_named n) runs) (length runs)) [
  | inl lt ↦ absurd (let h = rw (lt-ltb (position_or_len (is_named n) runs) (length runs) lt) at none in cc h)
  | inr le ↦ absent n runs t is (omega arith)
]

-- a step on the first host with the number
pub made_on : (old : List HostRun) (n i : ℕ) (t : Step) (why : Option Why) (d new : HostRun) → position (is_named n) old ≡ Some i
    → Comes (get_or old i d).spec (get_or old i d).before (get_or old i d).entries t why new.entries → new.spec ≡ (get_or old i d).spec → new.before ≡ (get_or old i d).before
    → ComesOn old n t why (set old i new)
made_on old n i t why d new place comes spec before =
    let host = get_or old i d in
    let found = position-Some (is_named n) old i d place in
    record {
      place = i;
      host = host;
      entries = new.entries;
      at = slice_get-get_or old i d found.0;
      named = eqb-true host.spec.no.0 n found.1;
      comes = comes;
      changed =
          ap (λ (s : HostSpec). set old i (record { spec = s; before = new.before; entries = new.entries })) spec
          ∙ ap (λ (b : Before). set old i (record { spec = host.spec; before = b; entries = new.entries })) before;
    }

pub specs_kept : (old : List HostRun) (i : ℕ) (d new : HostRun) → new.spec ≡ (get_or old i d).spec → specs_of (set old i new) ≡ specs_of old
specs_kept old i d new kept = map-set_same (λ (r : HostRun). r.spec) old i new d kept

-- one step line more
pub plays_more : (steps : List (ℕ × HostNo × Step)) (old mid new : List HostRun) (skips : List (ℕ × Why)) (t : ℕ × HostNo × Step) (why : Option Why)
    → Plays steps old mid skips → ComesOn mid t.1.0 t.2 why new → Plays (steps ++ t ∷ []) old new (skips ++ skip_of t.0 why)
plays_more [] old mid new skips t why h come = (
  new,
  why,
  [],
  subst (λ (runs : List HostRun). ComesOn runs t.1.0 t.2 why new) h.0 come,
  ap (λ (xs : List (ℕ × Why)). xs ++ skip_of t.0 why) h.1 ∙ sym (append-nil (skip_of t.0 why)),
  (refl, refl),
)
plays_more (u ∷ steps) old mid new skips t why h come = (
  h.0,
  h.1,
  h.2 ++ skip_of t.0 why,
  h.3,
  ap (λ (xs : List (ℕ × Why)). xs ++ skip_of t.0 why) h.4 ∙ append_assoc (skip_of u.0 h.1) h.2 (skip_of t.0 why),
  plays_more steps h.0 mid new h.2 t why h.5 come,
)
