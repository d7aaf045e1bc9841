-- The table of attempts says what the entries P, the newest first, say of attempts.
use Rattle.std.specs.Prelude.{◌≡◌, ◌≢◌, ℕ, zero, suc, ◌+◌, ◌<◌, ◌≤◌, ◌==◌, true, ◌&&◌, if◌then◌else◌, List, [], ◌∷◌, Option, Some, None, is_some, length, slice_get, vec_len, vec_capacity, pred}
use Rattle.mid_base.specs.declared.answers.Answer.{Answer}
use Rattle.mid_base.specs.declared.answers.By.TheVariants.{Answer as ByAnswer}
use Rattle.mid_base.specs.declared.answers.TagState.{TagState}
use Rattle.mid_base.specs.declared.entries.Entry.{Entry}
use Rattle.mid_base.specs.declared.entries.Entry.TheVariants.{Took, Judged, AbortSet, Failed, Longer, DoneSaid, Aborted, Cleared, Again, Told, EhBegin, EhEnd, Act, Probe, Offline, State, Tick}
use Rattle.mid_base.specs.declared.host_spec.HostSpec.{HostSpec}
use Rattle.mid_base.specs.Past.{was_sent, sent_for}
use Rattle.trace_model.specs.Attempts.{attempts, sends, is_open, is_answered, answer, late, owner, is_settled, is_due}
use Rattle.trace_model.specs.Tags.{sent_with, tag_states}
use Rattle.trace_model.specs.Claims.{tag_for, waiting_claims}
use Rattle.attempt_table.specs.declared.rows.Row.{Row}
use Rattle.attempt_table.specs.declared.attempts.Attempts.{Attempts}
use Rattle.attempt_table.specs.Rows.{row_of, open_in, answered_in, due_in, settled_in, owner_in, command_in, tag_in, owned_in, live_in, keeps_in}
use Rattle.attempt_table.specs.Claims.{Claim}

-- the numbers from n down to 1
abbrev pub countdown : ℕ → List ℕ
countdown zero = []
countdown (suc n) = suc n ∷ countdown n

-- how often n stands in a list
abbrev pub times : ℕ → List ℕ → ℕ
times n [] = 0
times n (m ∷ ms) = if m == n then times n ms + 1 else times n ms

-- what P says of attempt n is what its row says
abbrev pub Reads : List Entry → ℕ → Option Row → Type 0
Reads P n x =
    (was_sent n P ≡ is_some x) × (is_open n P ≡ open_in x) × (is_open n P && is_answered n P ≡ open_in x && answered_in x)
    × (is_some (answer n P) ≡ answered_in x) × (owner n P ≡ owner_in x) × (is_settled n P ≡ settled_in x)
    × (sent_for n P ≡ command_in x) × (tag_for n P ≡ tag_in x) × (is_due n P ≡ due_in x)

-- who belongs to its answer has one, and who is open belongs to nobody
abbrev pub IsSound : Option Row → Type 0
IsSound x = (owner_in x ≡ Some ByAnswer → answered_in x ≡ true) × (open_in x ≡ true → owner_in x ≡ None)

pub record Says (s : HostSpec) (P : List Entry) (table : List Row) (shown : List TagState) (kept : List (Option Answer)) (waiting : List Claim) (lates : List ℕ) : Type 0 where
  pub rows : (n : ℕ) → Reads P n (row_of n table)
  pub sends_are : sends P ≡ length table
  pub numbers : attempts P ≡ countdown (length table)
  -- a tag was sent last with the attempt that holds it, and an attempt was sent with the tag that shows it
  pub live : (n : ℕ) → live_in (row_of n table) ≡ true → sent_with (tag_in (row_of n table)).0 P ≡ n
  pub backs : (u : ℕ) → sent_with u P ≢ 0 → (tag_for (sent_with u P) P).0 ≡ u
  pub below : (n : ℕ) → live_in (row_of n table) ≡ true → (tag_in (row_of n table)).0 < s.can_queue
  pub tags : shown ≡ tag_states s P
  pub places : length kept ≡ s.can_queue
  pub keeps : (n : ℕ) → keeps_in (row_of n table) ≡ true → slice_get kept (tag_in (row_of n table)).0 ≡ Some (answer n P)
  pub claims : waiting ≡ waiting_claims P
  pub sound : (n : ℕ) → IsSound (row_of n table)
  pub lates_are : (n : ℕ) → late n P ≡ times n lates

-- an answer that waits for its owner may become one that is to be ignored, and finds room
abbrev pub LatesFit : Attempts → Type 0
LatesFit t = vec_len t.lates + vec_len t.claims ≤ vec_capacity t.lates

-- each attempt that has an owner and isn't settled is listed, once, and no other
abbrev pub ListsOwned : List Row → List ℕ → Type 0
ListsOwned table owned = (n : ℕ) → times n owned ≡ (if owned_in (row_of n table) then 1 else 0)

-- an attempt that waits for its owner finds room among those that have one
abbrev pub OwnedFit : Attempts → Type 0
OwnedFit t = vec_len t.owned + vec_len t.claims ≤ vec_capacity t.owned

abbrev pub AttemptsAgree : HostSpec → List Entry → Attempts → Type 0
AttemptsAgree s P t =
    Says s P t.rows.items t.tags.items t.kept.items t.claims.items t.lates.items × LatesFit t
    × ListsOwned t.rows.items t.owned.items × OwnedFit t

-- room for one attempt, one claim, one late answer and one owned attempt more
pub record HasRoom (t : Attempts) : Type 0 where
  pub rows : vec_len t.rows < vec_capacity t.rows
  pub claims : vec_len t.claims < vec_capacity t.claims
  pub lates : vec_len t.lates + vec_len t.claims < vec_capacity t.lates
  pub owned : vec_len t.owned + vec_len t.claims < vec_capacity t.owned

-- the table is that of some journal
pub record IsTied (t : Attempts) : Type 0 where
  pub spec : HostSpec
  pub entries : List Entry
  pub agrees : AttemptsAgree spec entries t

-- all but the room is as it was
pub record IsSame (old new : Attempts) : Type 0 where
  pub rows : new.rows.items ≡ old.rows.items
  pub tags : new.tags.items ≡ old.tags.items
  pub kept : new.kept.items ≡ old.kept.items
  pub claims : new.claims.items ≡ old.claims.items
  pub lates : new.lates.items ≡ old.lates.items
  pub owned : new.owned.items ≡ old.owned.items

-- the entry settles attempt n
abbrev pub Settles : ℕ → Entry → Type 0
Settles n (Judged c m d) = m.0 ≡ n
Settles n (AbortSet c m) = m.0 ≡ n
Settles n (Failed c m x) = m.0 ≡ n
Settles n e = ⊥

-- n stands once less, where it stood, and each other number as often as before
abbrev pub IsLessOne : ℕ → List ℕ → List ℕ → Type 0
IsLessOne n old new = (m : ℕ) → times m new ≡ (if n == m then pred (times m old) else times m old)

-- the entries that say nothing of how far an attempt has come
abbrev pub IsApart : Entry → Type 0
IsApart (Took c) = Unit {0}
IsApart (Longer n) = Unit {0}
IsApart (DoneSaid n) = Unit {0}
IsApart (Aborted c n ok) = Unit {0}
IsApart (Cleared c level) = Unit {0}
IsApart (Again c counted) = Unit {0}
IsApart (Told c a) = Unit {0}
IsApart EhBegin = Unit {0}
IsApart EhEnd = Unit {0}
IsApart (Act level scope ok) = Unit {0}
IsApart (Probe d op say) = Unit {0}
IsApart (Offline d) = Unit {0}
IsApart (State d x) = Unit {0}
IsApart Tick = Unit {0}
IsApart e = ⊥
