-- The states of a host's tags.
use Rattle.std.specs.Prelude.{ℕ, zero, suc, ◌+◌, ◌==◌, Bool, true, false, if◌then◌else◌, List, [], ◌∷◌, Option, Some}
use Rattle.mid_base.specs.declared.answers.By.{By}
use Rattle.mid_base.specs.declared.answers.TagState.{TagState}
use Rattle.mid_base.specs.declared.answers.TagState.TheVariants.{Free, Armed, Owned}
use Rattle.mid_base.specs.declared.entries.Entry.{Entry}
use Rattle.mid_base.specs.declared.entries.Entry.TheVariants.{Sent}
use Rattle.mid_base.specs.declared.host_spec.HostSpec.{HostSpec}
use Rattle.trace_model.specs.Attempts.{is_open, owner, is_settled}

-- the last attempt that was sent with a tag; 0 for none
abbrev pub sent_with : ℕ → List Entry → ℕ
sent_with t [] = 0
sent_with t (Sent c n u ∷ P) = if u.0 == t then n.0 else sent_with t P
sent_with t (_ ∷ P) = sent_with t P

abbrev pub state_by : ℕ → Bool → Bool → Option By → TagState
state_by n true settled by = Armed (record { 0 = n })
state_by n false false (Some by) = Owned (record { 0 = n }) by
state_by n _ _ _ = Free

abbrev pub tag_state : List Entry → ℕ → TagState
tag_state P t = state_by (sent_with t P) (is_open (sent_with t P) P) (is_settled (sent_with t P) P) (owner (sent_with t P) P)

-- the states of n tags from t on
abbrev pub tags_from : (t n : ℕ) → List Entry → List TagState
tags_from t zero P = []
tags_from t (suc n) P = tag_state P t ∷ tags_from (t + 1) n P

-- the state of each tag of the host, in order
abbrev pub tag_states : HostSpec → List Entry → List TagState
tag_states s P = tags_from 0 s.can_queue P
