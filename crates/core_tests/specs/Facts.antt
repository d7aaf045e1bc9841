-- What a caller of a core's steps may build on.
use Rattle.std.specs.Prelude.{◌≡◌, ℕ, ◌<◌, List, [], ◌∷◌, ◌++◌, All, reverse, Some, Result, Ok, slice_get, slice_set}
use Rattle.mid_base.specs.declared.answers.By.{By}
use Rattle.mid_base.specs.declared.answers.NoMemory.{NoMemory}
use Rattle.mid_base.specs.declared.answers.TagState.TheVariants.{Free, Armed, Owned}
use Rattle.mid_base.specs.declared.entries.Entry.{Entry}
use Rattle.mid_base.specs.declared.entries.Entry.TheVariants.{Sent, Bounced, Told}
use Rattle.mid_base.specs.declared.names.Attempt.{Attempt}
use Rattle.mid_base.specs.declared.names.CmdId.{CmdId}
use Rattle.mid_base.specs.declared.names.Tag.{Tag}
use Rattle.mid_base.specs.declared.steps.Step.{Step}
use Rattle.mid_base.specs.declared.steps.Step.TheVariants.{Submit, Work, Due, Drop, Abort, EhBegin, EhAct, EhFlush, EhEnd, Tick, SetState}
use Rattle.mid_base.specs.declared.steps.Did.{Did}
use Rattle.mid_base.specs.declared.steps.Did.TheVariants.{Done}
use Rattle.debug_adapter.specs.declared.adapter.DebugAdapter.{DebugAdapter}
use Rattle.debug_adapter.specs.Means.{means_of}
use Rattle.trace_model.specs.Attempts.{attempts}
use Rattle.trace_model.specs.Legal.{onto}
use Rattle.held_laws.specs.Held.{NoneHeld}
use Rattle.mid_core.specs.View.{CoreView}

-- this holds where the step was made
abbrev pub WhereDone : Result Did NoMemory → Type 0 → Type 0
WhereDone (Ok Done) T = T
WhereDone answer T = Unit {0}

-- the journal is the old one and what came behind it, and neither the spec nor the earlier probes changed
pub record Grows {A : Type 0} (old new : CoreView A) : Type 0 where
  pub spec : new.spec ≡ old.spec
  pub before : new.before ≡ old.before
  pub group : List Entry
  pub journal : new.journal ≡ old.journal ++ group

abbrev pub KeepsTags : {A : Type 0} → CoreView A → CoreView A → Type 0
KeepsTags old new = new.tags ≡ old.tags

-- n is above the numbers of all attempts of the journal
abbrev pub IsAbove : ℕ → List Entry → Type 0
IsAbove n journal = All (λ m. m < n) (attempts (reverse journal))

-- One attempt is sent, with a new number, and arms a tag that was free; or it is turned away, or a command is reported,
-- and the tags are as they were.
abbrev pub Sends : {A : Type 0} → List Entry → CoreView A → CoreView A → Type 0
Sends (Sent c n t ∷ []) old new = IsAbove n.0 old.journal × (slice_get old.tags t.0 ≡ Some Free) × (new.tags ≡ slice_set old.tags t.0 (Armed n))
Sends (Sent c n t ∷ Bounced d m why ∷ []) old new = IsAbove n.0 old.journal × KeepsTags old new
Sends (Told c a ∷ []) old new = KeepsTags old new
Sends g old new = ⊥

abbrev pub SendsOne : {A : Type 0} → CoreView A → CoreView A → Type 0
SendsOne old new = (g : List Entry) × (new.journal ≡ old.journal ++ g) × Sends g old new

-- one tag that was armed with n is owned by this side, and the others are as they were
abbrev pub Owns : {A : Type 0} → CoreView A → CoreView A → Attempt → By → Type 0
Owns old new n by = (t : ℕ) × (slice_get old.tags t ≡ Some (Armed n)) × (new.tags ≡ slice_set old.tags t (Owned n by))

-- one tag on which n was owned is free, and the others are as they were
abbrev pub Frees : {A : Type 0} → CoreView A → CoreView A → Attempt → Type 0
Frees old new n = (t : ℕ) × (by : By) × (slice_get old.tags t ≡ Some (Owned n by)) × (new.tags ≡ slice_set old.tags t Free)

-- the steps that leave the tags as they are
abbrev pub MovesNoTag : Step → Type 0
MovesNoTag (Submit lane) = Unit {0}
MovesNoTag Work = Unit {0}
MovesNoTag Due = Unit {0}
MovesNoTag (Drop n) = Unit {0}
MovesNoTag Abort = Unit {0}
MovesNoTag EhBegin = Unit {0}
MovesNoTag EhAct = Unit {0}
MovesNoTag EhFlush = Unit {0}
MovesNoTag EhEnd = Unit {0}
MovesNoTag Tick = Unit {0}
MovesNoTag (SetState dev state) = Unit {0}
MovesNoTag step = ⊥

-- at each Sent that was added, the adapter holds none of the command's attempts that were sent before
abbrev pub HeldNoEarlier : CoreView DebugAdapter → CoreView DebugAdapter → Type 0
HeldNoEarlier old new =
    (front rest : List Entry) (c : CmdId) (n : Attempt) (t : Tag) → new.journal ≡ old.journal ++ front ++ Sent c n t ∷ rest
    → NoneHeld (onto front (reverse old.journal)) c.0 (means_of new.lower.held).holds
