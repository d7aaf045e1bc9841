-- What a step of a core does.
use Rattle.std.specs.Prelude.{◌≡◌, ℕ, ◌==◌, ◌&&◌, ◌≤◌, Bool, true, false, List, [], ◌∷◌, ◌++◌, reverse, Some, None, Result, Ok, Err, slice_get, slice_set}
use Rattle.std.specs.List.{list_all}
use Rattle.mid_base.specs.declared.answers.By.{By}
use Rattle.mid_base.specs.declared.answers.NoMemory.{NoMemory}
use Rattle.mid_base.specs.declared.answers.TagState.{TagState}
use Rattle.mid_base.specs.declared.answers.TagState.TheVariants as tag
use Rattle.mid_base.specs.declared.entries.Entry.{Entry}
use Rattle.mid_base.specs.declared.entries.Entry.TheVariants as entry
use Rattle.mid_base.specs.declared.host_spec.HostSpec.{HostSpec}
use Rattle.mid_base.specs.declared.names.Attempt.{Attempt}
use Rattle.mid_base.specs.declared.names.CmdId.{CmdId}
use Rattle.mid_base.specs.declared.names.Tag.{Tag}
use Rattle.mid_base.specs.declared.steps.Step.{Step}
use Rattle.mid_base.specs.declared.steps.Step.TheVariants as step
use Rattle.mid_base.specs.declared.steps.Did.{Did}
use Rattle.mid_base.specs.declared.steps.Did.TheVariants.{Done, Skipped}
use Rattle.mid_base.specs.Address.{same_dev}
use Rattle.mid_base.specs.Past.{ticks}
use Rattle.device_states.specs.States.{same_state}
use Rattle.host_template.specs.Meaning.{Meaning, SameNature, SameMeaning, IfHonest}
use Rattle.host_template.specs.Standing.{Standing, Unchanged}
use Rattle.trace_model.specs.Legal.{onto}
use Rattle.trace_model.specs.Steps.{opens, same_owner, IsAdded, barred}
use Rattle.held_laws.specs.Held.{NoneHeld}
use Rattle.mid_core.specs.View.{CoreView}

-- the list begins with an opener of the step
abbrev pub Opens : HostSpec → List Entry → Step → List Entry → Type 0
Opens spec P s [] = ⊥
Opens spec P s (e ∷ g) = opens spec P s e ≡ true

-- the step adds these entries to a journal: they begin with its opener, they are a group (a Send's may be followed by its
-- Bounced), and nothing barred the step
pub record AddsTo (spec : HostSpec) (due : Bool) (P : List Entry) (s : Step) (g : List Entry) : Type 0 where
  pub opened : Opens spec P s g
  pub added : IsAdded spec P g
  pub free : barred spec due P s ≡ None

-- which step adds an entry: of attempts and devices, that of the step's own alone
abbrev pub may_enter : Step → Entry → Bool
may_enter (step.Submit lane) (entry.Took c) = true
may_enter (step.Submit lane) (entry.Told c a) = true
may_enter step.Send (entry.Sent c n t) = true
may_enter step.Send (entry.Bounced c n why) = true
may_enter step.Send (entry.Told c a) = true
may_enter step.Work (entry.Ready n a) = true
may_enter step.Due (entry.Due n) = true
may_enter step.Due (entry.Longer n) = true
may_enter step.Due (entry.DoneSaid n) = true
may_enter (step.Own n by) (entry.Owned m who) = (m.0 == n.0) && same_owner who by
may_enter (step.Settle n) (entry.Judged c m d) = m.0 == n.0
may_enter (step.Settle n) (entry.AbortSet c m) = m.0 == n.0
may_enter (step.Settle n) (entry.Failed c m cancelled) = m.0 == n.0
may_enter (step.Settle n) (entry.Again c counted) = true
may_enter (step.Settle n) (entry.Told c a) = true
may_enter (step.Drop n) (entry.Late m) = m.0 == n.0
may_enter step.Abort (entry.Aborted c n ok) = true
may_enter step.Abort (entry.Failed c n cancelled) = true
may_enter step.Abort (entry.Again c counted) = true
may_enter step.Abort (entry.Told c a) = true
may_enter step.EhBegin entry.EhBegin = true
may_enter step.EhBegin (entry.Cleared c level) = true
may_enter step.EhAct (entry.Act level scope ok) = true
may_enter step.EhAct (entry.Probe d code say) = true
may_enter step.EhAct (entry.Sensed c n sense) = true
may_enter step.EhAct (entry.Judged c n d) = true
may_enter step.EhAct (entry.Offline d) = true
may_enter step.EhAct (entry.Cleared c level) = true
may_enter step.EhFlush (entry.Again c counted) = true
may_enter step.EhFlush (entry.Told c a) = true
may_enter step.EhEnd entry.EhEnd = true
may_enter step.Tick entry.Tick = true
may_enter (step.SetState d x) (entry.State e y) = same_dev e d && same_state y x
may_enter s e = false

-- how a step that added g changes the states of the tags: Send arms a free one, unless it was bounced; Own turns an armed
-- one into an owned one; Settle frees an owned one; no other step changes any
abbrev pub ChangesTags : Step → List Entry → List TagState → List TagState → Type 0
ChangesTags step.Send (entry.Sent c n t ∷ []) old new = (slice_get old t.0 ≡ Some tag.Free) × (new ≡ slice_set old t.0 (tag.Armed n))
ChangesTags (step.Own n by) g old new = (t : ℕ) × (slice_get old t ≡ Some (tag.Armed n)) × (new ≡ slice_set old t (tag.Owned n by))
ChangesTags (step.Settle n) g old new = (t : ℕ) × (by : By) × (slice_get old t ≡ Some (tag.Owned n by)) × (new ≡ slice_set old t tag.Free)
ChangesTags s g old new = new ≡ old

pub record Adds {A : Type 0} (due : A → ℕ → Bool) (means : A → Meaning) (old new : CoreView A) (s : Step) : Type 0 where
  pub spec : new.spec ≡ old.spec
  pub before : new.before ≡ old.before
  pub group : List Entry
  pub journal : new.journal ≡ old.journal ++ group
  pub adds : AddsTo old.spec (due old.lower (ticks (reverse old.journal))) (reverse old.journal) s group
  pub enters : list_all (may_enter s) group ≡ true
  pub tags : ChangesTags s group old.tags new.tags
  pub nature : SameNature (means old.lower) (means new.lower)

-- nothing has changed, but that there may be more room
pub record IsSame {A : Type 0} (stands : A → Standing) (due : A → ℕ → Bool) (means : A → Meaning) (old new : CoreView A) : Type 0 where
  pub spec : new.spec ≡ old.spec
  pub before : new.before ≡ old.before
  pub journal : new.journal ≡ old.journal
  pub tags : new.tags ≡ old.tags
  pub spare : old.spare ≤ new.spare
  pub lower : Unchanged (stands old.lower) (stands new.lower) (due old.lower) (due new.lower)
  pub meaning : SameMeaning (means old.lower) (means new.lower)

-- Done adds a group. Skipped comes exactly where a condition of the step fails, with the first one that does, and changes
-- nothing; so does want of memory.
abbrev pub Answers : {A : Type 0} → (A → Standing) → (A → ℕ → Bool) → (A → Meaning) → CoreView A → CoreView A → Step → Result Did NoMemory → Type 0
Answers stands due means old new s (Ok Done) = Adds due means old new s
Answers stands due means old new s (Ok (Skipped why)) = (new ≡ old) × (barred old.spec (due old.lower (ticks (reverse old.journal))) (reverse old.journal) s ≡ Some why)
Answers stands due means old new s (Err e) = IsSame stands due means old new

-- at each Sent that a step added, a lower layer that is honest and tells its attempts holds none of the command's attempts
-- that were sent before: neither before the step nor after it
abbrev pub HoldsNoEarlier : {A : Type 0} → (A → Meaning) → CoreView A → CoreView A → Type 0
HoldsNoEarlier means old new =
    (front rest : List Entry) (c : CmdId) (n : Attempt) (t : Tag) → new.journal ≡ old.journal ++ front ++ entry.Sent c n t ∷ rest
    → IfHonest (λ x y. NoneHeld (onto front (reverse old.journal)) c.0 x.holds × NoneHeld (onto front (reverse old.journal)) c.0 y.holds) (means old.lower) (means new.lower)
