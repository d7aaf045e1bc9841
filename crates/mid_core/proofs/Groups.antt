-- The group of each step is one that the rules allow, and nothing bars the step.
use Rattle.std.proofs.Common.{◌≡◌, ◌∙◌, sym, ap, subst, refl, ℕ, zero, suc, ◌+◌, ◌<◌, ◌==◌, Bool, true, false, not, ◌&&◌, ◌||◌, cond, List, [], ◌∷◌, Option, None, Some, is_some, Ok, Err, arith}
use Rattle.std.specs.Prelude.{nat_le, nat_lt}
use Rattle.std.specs.List.{list_any, list_all}
use Rattle.std.proofs.lemmas.Option.{same_Some}
use Rattle.std.proofs.lemmas.Bool.{eq-eqb, ne_eqb, lt-ltb, and_parts, false≢true}
use Rattle.mid_base.specs.declared.answers.Answer.{Answer}
use Rattle.mid_base.specs.declared.answers.BusyOf.{BusyOf}
use Rattle.mid_base.specs.declared.answers.By.TheVariants.{Answer as ByAnswer, Expiry as ByExpiry}
use Rattle.mid_base.specs.declared.answers.Disp.{Disp}
use Rattle.mid_base.specs.declared.answers.Disp.TheVariants.{Success, Retry, Requeue, Fail}
use Rattle.mid_base.specs.declared.entries.Entry.{Entry}
use Rattle.mid_base.specs.declared.entries.Entry.TheVariants as entry
use Rattle.mid_base.specs.declared.host_spec.CmdSpec.{CmdSpec}
use Rattle.mid_base.specs.declared.host_spec.HostSpec.{HostSpec}
use Rattle.mid_base.specs.declared.names.Attempt.{Attempt}
use Rattle.mid_base.specs.declared.names.CmdId.{CmdId}
use Rattle.mid_base.specs.declared.names.DevAddr.{DevAddr}
use Rattle.mid_base.specs.declared.names.LaneNo.{LaneNo}
use Rattle.mid_base.specs.declared.names.Tag.{Tag}
use Rattle.mid_base.specs.declared.states.DeviceState.{DeviceState}
use Rattle.mid_base.specs.declared.states.DeviceState.TheVariants as device
use Rattle.mid_base.specs.declared.steps.Step.TheVariants as step
use Rattle.mid_base.specs.declared.steps.Why.TheVariants.{Spent, NotOpen, NotLate, Illegal as NotLegal}
use Rattle.mid_base.specs.Address.{has_dev}
use Rattle.mid_base.specs.Answers.{no_connect, time_out}
use Rattle.mid_base.specs.Levels.{abort, calls}
use Rattle.mid_base.specs.Past.{ticks, sent_for}
use Rattle.device_states.specs.States.{is_closed, same_state, may_become, set_or_refuse}
use Rattle.device_states.specs.declared.tables.Illegal.{Illegal}
use Rattle.trace_model.specs.Attempts.{attempts, answered, sends, is_open, is_answered, answer, late, owner, is_settled, is_due}
use Rattle.trace_model.specs.Devices.{state, is_online, has_begun}
use Rattle.trace_model.specs.Commands.{aborts}
use Rattle.trace_model.specs.Flush.{is_empty}
use Rattle.trace_model.specs.Judging.{disp_of, to_judge, to_abort, may_own, has_abort_left, may_retry, is_first}
use Rattle.trace_model.specs.Legal.{Group}
use Rattle.trace_model.specs.Names.{command, dev_of}
use Rattle.trace_model.specs.Sending.{is_next_of_lane, is_refused, is_stranded, is_least_free}
use Rattle.mid_base.specs.Limits.{last_number}
use Rattle.trace_model.specs.Steps.{barred, opens, IsAdded}
use Rattle.trace_model.specs.Time.{is_expired, is_claimed, may_ask}
use Rattle.attempt_table.specs.declared.rows.Row.{Row}
use Rattle.attempt_table.specs.Rows.{row_of, claims_by, open_in, answered_in, due_in, owner_in, settled_in, answer_in, command_in}
use Rattle.attempt_table.proofs.Told.{answer_known}
use Rattle.mid_base.specs.declared.answers.By.{By}
use Rattle.host_state.specs.declared.running.Running.{Running}
use Rattle.host_state.specs.HostAgrees.{HostAgrees, IsOwnedBy}
use Rattle.host_template.specs.Laws.{IsSilent}
use Rattle.recovery_laws.specs.Still.{is_unsettled}
use Rattle.mid_core.specs.Steps.{may_enter}
use Rattle.mid_core.specs.Choices.{IsHandedIn, HasTurn, MayBeSent, IsHanded, IsSaidOf, has_cause, why_not, follow_of, after_expiry, after_abort}
use Rattle.mid_core.specs.declared.sending.Handed.{Handed}
use Rattle.mid_core.proofs.Known.{picked_command}
use Rattle.mid_core.proofs.Offered.{command_of}

pub same : (n : ℕ) → (n == n) ≡ true
same n = eq-eqb n n refl

or_true : (b : Bool) → b || true ≡ true
or_true true = refl
or_true false = refl

-- the command that is handed in
module _ (s : HostSpec) (P : List Entry) (r : Running) (runs : HostAgrees s P r) (lane : LaneNo) (i : ℕ) (closed : Bool) (h : IsHandedIn s P r lane i closed) where
  named : command s h.next.command.id.0 ≡ h.next.command
  named = command_of s P r runs i h.next.command h.next.stands_at

  in_lane : (command s h.next.command.id.0).lane.0 ≡ lane.0
  in_lane = ap (λ (k : CmdSpec). k.lane.0) named ∙ h.next.lane_is

  is_next : is_next_of_lane s P h.next.command.id.0 ≡ true
  is_next = rw (in_lane, h.next.next) (same h.next.command.id.0)

  device_closed : is_closed (state s (dev_of s h.next.command.id.0) P) ≡ closed
  device_closed = ap (λ (k : CmdSpec). is_closed (state s k.dev P)) named ∙ h.device

  pub nothing_bars_handing : (due : Bool) → barred s due P (step.Submit lane) ≡ None
  nothing_bars_handing due = rw h.next.next refl

  pub opens_took : opens s P (step.Submit lane) (entry.Took h.next.command.id) ≡ true
  opens_took = eq-eqb (command s h.next.command.id.0).lane.0 lane.0 in_lane

  pub refused : closed ≡ true → is_refused s P h.next.command.id.0 ≡ true
  refused off = rw (is_next, device_closed, off) refl

  pub opens_refused : (a : Answer) → closed ≡ true → opens s P (step.Submit lane) (entry.Told h.next.command.id a) ≡ true
  opens_refused a off = rw (eq-eqb (command s h.next.command.id.0).lane.0 lane.0 in_lane, refused off) refl

  pub group_took : closed ≡ false → Group s P (entry.Took h.next.command.id ∷ [])
  group_took on = (rw (is_next, device_closed, on) refl, tt)

  pub group_refused : closed ≡ true → Group s P (entry.Told h.next.command.id no_connect ∷ [])
  group_refused off = (rw (refused off) refl, tt)

-- the command whose turn it is
module _ (s : HostSpec) (P : List Entry) (r : Running) (runs : HostAgrees s P r) (i : ℕ) (online : Bool) (h : HasTurn s P r i online) where
  picked_online : is_online s (dev_of s h.picked.command.id.0) P ≡ online
  picked_online = ap (λ (k : CmdSpec). is_online s k.dev P) (picked_command s P r runs i h.picked) ∙ h.device

  pub stranded : online ≡ false → is_stranded s P h.picked.command.id.0 ≡ true
  stranded off = rw (h.calm, h.picked.picked, picked_online, off, same h.picked.command.id.0) refl

  pub group_stranded : online ≡ false → Group s P (entry.Told h.picked.command.id no_connect ∷ [])
  group_stranded off = (rw (stranded off, or_true (is_refused s P h.picked.command.id.0)) refl, tt)

  pub group_sent : online ≡ true → (n : Attempt) (t : Tag) → n.0 ≡ sends P + 1 → is_least_free s P t.0 ≡ true → Group s P (entry.Sent h.picked.command.id n t ∷ [])
  group_sent on n t number least =
      (rw (h.calm, h.picked.picked, picked_online, on, same h.picked.command.id.0, eq-eqb n.0 (sends P + 1) number, least) refl, tt)

-- what was handed over was the command that is picked
pub group_handed : (s : HostSpec) (P : List Entry) (r new : Running) → HostAgrees s P r → (i : ℕ) (may : MayBeSent s P r i) (o : Handed) → IsHanded s P new i o
    → Group s P (entry.Sent o.id o.attempt o.tag ∷ [])
group_handed s P r new runs i may o told =
    let picked = may.turn.picked in
    let command : told.command ≡ picked.command = same_Some told.command picked.command (sym told.at ∙ picked.at) in
    subst (λ (c : CmdId). Group s P (entry.Sent c o.attempt o.tag ∷ [])) (sym (told.id ∙ ap (λ (k : CmdSpec). k.id) command))
    (group_sent s P r runs i true may.turn refl o.attempt o.tag told.number told.least)

pub group_bounced : (s : HostSpec) (P : List Entry) (c : CmdId) (n : Attempt) (t : Tag) (why : BusyOf) → Group s (entry.Sent c n t ∷ P) (entry.Bounced c n why ∷ [])
group_bounced s P c n t why = (rw (same c.0, same n.0) refl, tt)

-- an attempt that waits for this owner
module _ (s : HostSpec) (P : List Entry) (r : Running) (runs : HostAgrees s P r) (n : Attempt) (by : By) (row : Row) (there : row_of n.0 r.attempts.rows.items ≡ Some row) (opened : row.out ≡ true)
    (caused : has_cause by row ≡ true) where
  pub is_opened : is_open n.0 P ≡ true
  is_opened = (runs.attempts.0.rows n.0).1 ∙ ap open_in there ∙ opened

  pub waits_for : claims_by by (row_of n.0 r.attempts.rows.items) ≡ true
  waits_for = ap (claims_by by) there ∙ by_side by caused
    where
      by_side : (x : By) → has_cause x row ≡ true → claims_by x (Some row) ≡ true
      by_side ByAnswer is = rw (opened, is) refl
      by_side ByExpiry is = rw (opened, is) refl

  may_belong : may_own n.0 by P ≡ true
  may_belong = by_side by caused
    where
      by_side : (x : By) → has_cause x row ≡ true → may_own n.0 x P ≡ true
      by_side ByAnswer is = (runs.attempts.0.rows n.0).2 ∙ ap (λ (y : Option Row). open_in y && answered_in y) there ∙ rw (opened, is) refl
      by_side ByExpiry is =
          let due : is_due n.0 P ≡ true = (runs.attempts.0.rows n.0).8 ∙ ap due_in there ∙ is in
          rw (is_opened, due) refl

  pub group_owned : Group s P (entry.Owned n by ∷ [])
  group_owned = (may_belong, tt)

  pub nothing_bars_owning : (due : Bool) → barred s due P (step.Own n by) ≡ None
  nothing_bars_owning due = by_side by may_belong
    where
      by_side : (x : By) → may_own n.0 x P ≡ true → barred s due P (step.Own n x) ≡ None
      by_side ByAnswer may = let both = and_parts (is_open n.0 P) (is_answered n.0 P) may in rw (both.0, both.1) refl
      by_side ByExpiry may = let both = and_parts (is_open n.0 P) (is_due n.0 P) may in rw (both.0, both.1) refl

pub opens_owned : (s : HostSpec) (P : List Entry) (n : Attempt) (by : By) → opens s P (step.Own n by) (entry.Owned n by) ≡ true
opens_owned s P n ByAnswer = rw (same n.0) refl
opens_owned s P n ByExpiry = rw (same n.0) refl

pub enters_owned : (n : Attempt) (by : By) → list_all (may_enter (step.Own n by)) (entry.Owned n by ∷ []) ≡ true
enters_owned n ByAnswer = rw (same n.0) refl
enters_owned n ByExpiry = rw (same n.0) refl

pub enters_late : (n : Attempt) → list_all (may_enter (step.Drop n)) (entry.Late n ∷ []) ≡ true
enters_late n = rw (same n.0) refl

-- an attempt that isn't open can't be owned, nor one that has no cause for it
module _ (s : HostSpec) (P : List Entry) (r : Running) (runs : HostAgrees s P r) (n : Attempt) (by : By) where
  pub not_open_bars : open_in (row_of n.0 r.attempts.rows.items) ≡ false → (due : Bool) → barred s due P (step.Own n by) ≡ Some NotOpen
  not_open_bars closed due = by_side by
    where
      is_closed : is_open n.0 P ≡ false
      is_closed = (runs.attempts.0.rows n.0).1 ∙ closed

      by_side : (x : By) → barred s due P (step.Own n x) ≡ Some NotOpen
      by_side ByAnswer = rw is_closed refl
      by_side ByExpiry = rw is_closed refl

  pub no_cause_bars : (row : Row) → row_of n.0 r.attempts.rows.items ≡ Some row → row.out ≡ true → has_cause by row ≡ false → (due : Bool) → barred s due P (step.Own n by) ≡ Some (why_not by)
  no_cause_bars row there opened uncaused due = by_side by uncaused
    where
      is_opened : is_open n.0 P ≡ true
      is_opened = (runs.attempts.0.rows n.0).1 ∙ ap open_in there ∙ opened

      by_side : (x : By) → has_cause x row ≡ false → barred s due P (step.Own n x) ≡ Some (why_not x)
      by_side ByAnswer isnt =
          let answered : is_open n.0 P && is_answered n.0 P ≡ false = (runs.attempts.0.rows n.0).2 ∙ ap (λ (y : Option Row). open_in y && answered_in y) there ∙ rw (opened, isnt) refl in
          let unanswered : is_answered n.0 P ≡ false = rw is_opened at answered in
          rw (is_opened, unanswered) refl
      by_side ByExpiry isnt =
          let undue : is_due n.0 P ≡ false = (runs.attempts.0.rows n.0).8 ∙ ap due_in there ∙ isnt in
          rw (is_opened, undue) refl

-- an attempt that has an owner and isn't settled
module _ (s : HostSpec) (P : List Entry) (r : Running) (runs : HostAgrees s P r) (n : Attempt) (row : Row) (by : By) (is : IsOwnedBy r n row by) where
  owned_by : owner n.0 P ≡ Some by
  owned_by = (runs.attempts.0.rows n.0).4 ∙ ap owner_in is.at ∙ is.owner

  unsettled : is_settled n.0 P ≡ false
  unsettled = (runs.attempts.0.rows n.0).5 ∙ ap settled_in is.at ∙ by_fields row.out row.settled row.owner is.owned
    where
      by_fields : (o e : Bool) (w : Option By) → not o && not e && is_some w ≡ true → e ≡ false
      by_fields o false w owned = refl
      by_fields true true w owned = cc
      by_fields false true w owned = cc

  pub not_settled : is_unsettled n.0 P ≡ true
  not_settled = rw (owned_by, unsettled) refl

  pub nothing_bars_settling : (due : Bool) → barred s due P (step.Settle n) ≡ None
  nothing_bars_settling due = rw (owned_by, unsettled) refl

  of_command : sent_for n.0 P ≡ row.command.0
  of_command = (runs.attempts.0.rows n.0).6 ∙ ap command_in is.at

-- its answer is judged
module _ (s : HostSpec) (P : List Entry) (r : Running) (runs : HostAgrees s P r) (n : Attempt) (row : Row) (a : Answer) (is : IsOwnedBy r n row ByAnswer)
    (kept : answer_in r.attempts.kept.items (Some row) ≡ Some a) (calm : has_begun P ≡ false) where
  judging : to_judge P row.command.0 n.0 && not (has_begun P) ≡ true
  judging = rw (owned_by s P r runs n row ByAnswer is, unsettled s P r runs n row ByAnswer is, of_command s P r runs n row ByAnswer is, same row.command.0, calm) refl

  pub group_judged : (d : Disp) → d ≡ disp_of s P row.command.0 a → Group s P (entry.Judged row.command n d ∷ follow_of row.command n a d ∷ [])
  group_judged d right = by d right
    where
      told : answer n.0 P ≡ Some a
      told = answer_known s P r.attempts runs.attempts n.0 a (ap (answer_in r.attempts.kept.items) is.at ∙ kept)

      by : (d : Disp) → d ≡ disp_of s P row.command.0 a → Group s P (entry.Judged row.command n d ∷ follow_of row.command n a d ∷ [])
      by Success e = rw told ((judging, e), (refl, tt))
      by Retry e = rw told ((judging, e), (refl, tt))
      by Requeue e = rw told ((judging, e), (refl, tt))
      by Fail e = rw told ((judging, e), (refl, tt))

pub opens_judged : (s : HostSpec) (P : List Entry) (n : Attempt) (c : CmdId) (d : Disp) → opens s P (step.Settle n) (entry.Judged c n d) ≡ true
opens_judged s P n c d = same n.0

-- one that its expired timer owns is set for an abort, or has failed
module _ (s : HostSpec) (P : List Entry) (r : Running) (runs : HostAgrees s P r) (n : Attempt) (row : Row) (is : IsOwnedBy r n row ByExpiry) where
  giving_up : to_abort P row.command.0 n.0 ≡ true
  giving_up = rw (owned_by s P r runs n row ByExpiry is, unsettled s P r runs n row ByExpiry is, of_command s P r runs n row ByExpiry is, same row.command.0) refl

  group_by : (b : Bool) → has_abort_left s P row.command.0 ≡ b → Group s P (cond b (entry.AbortSet row.command n) (entry.Failed row.command n true) ∷ [])
  group_by true left = (rw (giving_up, left) refl, tt)
  group_by false left = (rw (giving_up, left) refl, tt)

  added_by : (b : Bool) → has_abort_left s P row.command.0 ≡ b → IsAdded s P (cond b (entry.AbortSet row.command n) (entry.Failed row.command n true) ∷ [])
  added_by true left = group_by true left
  added_by false left = group_by false left

  pub group_expired : (e : Entry) → e ≡ after_expiry s P row.command n → Group s P (e ∷ [])
  group_expired e right = subst (λ (x : Entry). Group s P (x ∷ [])) (sym right) (group_by (has_abort_left s P row.command.0) refl)

  pub added_expired : (e : Entry) → e ≡ after_expiry s P row.command n → IsAdded s P (e ∷ [])
  added_expired e right = subst (λ (x : Entry). IsAdded s P (x ∷ [])) (sym right) (added_by (has_abort_left s P row.command.0) refl)

pub opens_expired : (s : HostSpec) (P : List Entry) (c : CmdId) (n : Attempt) → opens s P (step.Settle n) (after_expiry s P c n) ≡ true
opens_expired s P c n = by_left (has_abort_left s P c.0)
  where
    by_left : (b : Bool) → opens s P (step.Settle n) (cond b (entry.AbortSet c n) (entry.Failed c n true)) ≡ true
    by_left true = same n.0
    by_left false = same n.0

pub expired_silent : (s : HostSpec) (P : List Entry) (c : CmdId) (n : Attempt) → IsSilent s (after_expiry s P c n)
expired_silent s P c n = by_left (has_abort_left s P c.0)
  where
    by_left : (b : Bool) → IsSilent s (cond b (entry.AbortSet c n) (entry.Failed c n true))
    by_left true = tt
    by_left false = tt

pub expired_enters : (s : HostSpec) (P : List Entry) (c : CmdId) (n : Attempt) → list_all (may_enter (step.Settle n)) (after_expiry s P c n ∷ []) ≡ true
expired_enters s P c n = by_left (has_abort_left s P c.0)
  where
    by_left : (b : Bool) → list_all (may_enter (step.Settle n)) (cond b (entry.AbortSet c n) (entry.Failed c n true) ∷ []) ≡ true
    by_left true = rw (same n.0) refl
    by_left false = rw (same n.0) refl

-- the lower layer was asked about an attempt whose time is up
module _ (s : HostSpec) (P : List Entry) (n : Attempt) (asked : may_ask s P n.0 ≡ true) where
  pub group_asked : (e : Entry) → IsSaidOf n e → Group s P (e ∷ [])
  group_asked (entry.Due m) is = (ap (λ (x : Attempt). may_ask s P x.0) is ∙ asked, tt)
  group_asked (entry.Longer m) is = (ap (λ (x : Attempt). may_ask s P x.0) is ∙ asked, tt)
  group_asked (entry.DoneSaid m) is = (ap (λ (x : Attempt). may_ask s P x.0) is ∙ asked, tt)
  group_asked e is = absurd is

  pub added_asked : (e : Entry) → IsSaidOf n e → IsAdded s P (e ∷ [])
  added_asked (entry.Due m) is = group_asked (entry.Due m) is
  added_asked (entry.Longer m) is = group_asked (entry.Longer m) is
  added_asked (entry.DoneSaid m) is = group_asked (entry.DoneSaid m) is
  added_asked e is = absurd is

pub opens_asked : (s : HostSpec) (P : List Entry) (n : Attempt) (e : Entry) → IsSaidOf n e → opens s P step.Due e ≡ true
opens_asked s P n (entry.Due m) is = refl
opens_asked s P n (entry.Longer m) is = refl
opens_asked s P n (entry.DoneSaid m) is = refl
opens_asked s P n e is = absurd is

pub asked_enters : (n : Attempt) (e : Entry) → IsSaidOf n e → list_all (may_enter step.Due) (e ∷ []) ≡ true
asked_enters n (entry.Due m) is = refl
asked_enters n (entry.Longer m) is = refl
asked_enters n (entry.DoneSaid m) is = refl
asked_enters n e is = absurd is

pub nothing_bars_asking : (s : HostSpec) (P : List Entry) → list_any (is_expired s P) (attempts P) ≡ true → (due : Bool) → barred s due P step.Due ≡ None
nothing_bars_asking s P some due = rw some refl

-- an answer that is to be ignored
module _ (s : HostSpec) (P : List Entry) (n : Attempt) (late_one : nat_lt 0 (late n.0 P) ≡ true) where
  pub group_late : Group s P (entry.Late n ∷ [])
  group_late = (late_one, tt)

  pub nothing_bars_dropping : (due : Bool) → barred s due P (step.Drop n) ≡ None
  nothing_bars_dropping due = rw (not_none (late n.0 P) late_one) refl
    where
      not_none : (m : ℕ) → nat_lt 0 m ≡ true → (m == 0) ≡ false
      not_none zero h = cc
      not_none (suc m) h = ne_eqb (suc m) 0 (λ e. omega (arith, e))

pub no_late_bars : (s : HostSpec) (P : List Entry) (n : Attempt) → nat_lt 0 (late n.0 P) ≡ false → (due : Bool) → barred s due P (step.Drop n) ≡ Some NotLate
no_late_bars s P n none due = rw (is_none_late (late n.0 P) none) refl
  where
    is_none_late : (m : ℕ) → nat_lt 0 m ≡ false → (m == 0) ≡ true
    is_none_late zero h = refl
    is_none_late (suc m) h = absurd (false≢true (sym h ∙ lt-ltb 0 (suc m) (omega arith)))

-- the abort that was scheduled first was tried
module _ (s : HostSpec) (P : List Entry) (c : CmdId) (n : Attempt) (ok : Bool) (first : is_first n.0 (aborts P) ≡ true) (sent : sent_for n.0 P ≡ c.0) (called : ok ≡ true → calls s.handlers abort ≡ true) where
  pub group_aborted : (e : Entry) → e ≡ after_abort s P c n ok → Group s P (entry.Aborted c n ok ∷ e ∷ [])
  group_aborted e right = by_ok ok called right
    where
      by_ok : (b : Bool) → (b ≡ true → calls s.handlers abort ≡ true) → e ≡ after_abort s P c n b → Group s P (entry.Aborted c n b ∷ e ∷ [])
      by_ok true has is = (rw (first, sent, same c.0, has refl) refl, (is, tt))
      by_ok false has is = (rw (first, sent, same c.0) refl, (is, tt))

  pub nothing_bars_aborting : (due : Bool) → barred s due P step.Abort ≡ None
  nothing_bars_aborting due = rw (some_wait (aborts P) first) refl
    where
      some_wait : (ns : List ℕ) → is_first n.0 ns ≡ true → is_empty ns ≡ false
      some_wait [] h = cc
      some_wait (m ∷ ns) h = refl

pub after_abort_silent : (s : HostSpec) (P : List Entry) (c : CmdId) (n : Attempt) (ok : Bool) → IsSilent s (after_abort s P c n ok)
after_abort_silent s P c n false = tt
after_abort_silent s P c n true = by_retry (may_retry s P c.0)
  where
    by_retry : (b : Bool) → IsSilent s (cond b (entry.Again c true) (entry.Told c time_out))
    by_retry true = tt
    by_retry false = tt

pub aborted_enters : (s : HostSpec) (P : List Entry) (c : CmdId) (n : Attempt) (ok : Bool) → list_all (may_enter step.Abort) (entry.Aborted c n ok ∷ after_abort s P c n ok ∷ []) ≡ true
aborted_enters s P c n false = refl
aborted_enters s P c n true = by_retry (may_retry s P c.0)
  where
    by_retry : (b : Bool) → list_all (may_enter step.Abort) (entry.Aborted c n true ∷ cond b (entry.Again c true) (entry.Told c time_out) ∷ []) ≡ true
    by_retry true = refl
    by_retry false = refl

-- time goes on
none_claimed : (P : List Entry) (xs : List ℕ) (f : ℕ → Bool) → list_any (λ n. is_open n P && is_answered n P) xs ≡ false → list_any (λ n. f n || (is_open n P && is_due n P)) xs ≡ false → list_any (is_claimed P) xs ≡ false
none_claimed P [] f a b = refl
none_claimed P (x ∷ xs) f a b =
    let first = no_either (is_open x P && is_answered x P) (list_any (λ n. is_open n P && is_answered n P) xs) a in
    let second = no_either (f x || (is_open x P && is_due x P)) (list_any (λ n. f n || (is_open n P && is_due n P)) xs) b in
    let due = (no_either (f x) (is_open x P && is_due x P) second.0).1 in
    rw (unclaimed (is_open x P) (is_answered x P) (is_due x P) first.0 due) (none_claimed P xs f first.1 second.1)
  where
    no_either : (a b : Bool) → a || b ≡ false → (a ≡ false) × (b ≡ false)
    no_either true b h = absurd (false≢true (sym h))
    no_either false b h = (refl, h)

    unclaimed : (o a d : Bool) → o && a ≡ false → o && d ≡ false → o && (a || d) ≡ false
    unclaimed false a d p q = refl
    unclaimed true false d p q = q
    unclaimed true true d p q = absurd (false≢true (sym p))

first_off : (f a b : Bool) → (f || a) || b ≡ false → (f ≡ false) × (b ≡ false)
first_off true a b h = absurd (false≢true (sym h))
first_off false true b h = absurd (false≢true (sym h))
first_off false false b h = (refl, h)

pub none_expired : (P : List Entry) (xs : List ℕ) (f : ℕ → Bool) → list_any (λ n. f n || (is_open n P && is_due n P)) xs ≡ false → list_any f xs ≡ false
none_expired P [] f b = refl
none_expired P (x ∷ xs) f b =
    let here = first_off (f x) (is_open x P && is_due x P) (list_any (λ n. f n || (is_open n P && is_due n P)) xs) b in
    rw here.0 (none_expired P xs f here.1)

not_late : (m : ℕ) (b : Bool) → nat_lt 0 m || b ≡ false → ((m == 0) ≡ true) × (b ≡ false)
not_late zero b h = (refl, h)
not_late (suc m) b h = absurd (false≢true (sym h ∙ ap (λ (c : Bool). c || b) (lt-ltb 0 (suc m) (omega arith))))

none_late : (P : List Entry) (xs : List ℕ) → list_any (λ n. nat_lt 0 (late n P)) xs ≡ false → list_all (λ n. late n P == 0) xs ≡ true
none_late P [] h = refl
none_late P (x ∷ xs) h =
    let here = not_late (late x P) (list_any (λ n. nat_lt 0 (late n P)) xs) h in
    rw here.0 (none_late P xs here.1)

module _ (s : HostSpec) (P : List Entry)
    (unclaimed : list_any (λ n. is_open n P && is_answered n P) (attempts P) || list_any (λ n. nat_lt 0 (late n P)) (answered P) ≡ false)
    (unexpired : list_any (λ n. is_expired s P n || (is_open n P && is_due n P)) (attempts P) ≡ false) where
  pub group_tick : Group s P (entry.Tick ∷ [])
  group_tick =
      let none = halves (list_any (λ n. is_open n P && is_answered n P) (attempts P)) (list_any (λ n. nat_lt 0 (late n P)) (answered P)) unclaimed in (
        rw (none_claimed P (attempts P) (is_expired s P) none.0 unexpired, none_late P (answered P) none.1, none_expired P (attempts P) (is_expired s P) unexpired) refl,
        tt,
      )
    where
      halves : (a b : Bool) → a || b ≡ false → (a ≡ false) × (b ≡ false)
      halves true b h = absurd (false≢true (sym h))
      halves false b h = (refl, h)

  pub nothing_bars_a_tick : (due : Bool) → due ≡ false → ticks P < last_number → barred s due P step.Tick ≡ None
  nothing_bars_a_tick due idle early = rw (idle, unclaimed, unexpired) (by (nat_le last_number (ticks P)) (above last_number (ticks P) early))
    where
      by : (b : Bool) → b ≡ false → cond b (Some Spent) None ≡ None
      by true is = cc
      by false is = refl

      above : (a b : ℕ) → b < a → nat_le a b ≡ false
      above a b lt = grind arith

-- a device goes to another state
module _ (s : HostSpec) (P : List Entry) (d : DevAddr) (x : DeviceState) (calm : has_begun P ≡ false) (there : has_dev s.luns d ≡ true) (may : may_become (state s d P) x ≡ true) where
  pub group_state : Group s P (entry.State d x ∷ [])
  group_state = (rw (calm, there, may) refl, tt)

  pub nothing_bars_a_state : (due : Bool) → barred s due P (step.SetState d x) ≡ None
  nothing_bars_a_state due = rw (calm, there, may) refl

-- a State opens the step that asks for it
pub opens_state : (s : HostSpec) (P : List Entry) (d : DevAddr) (x : DeviceState) → opens s P (step.SetState d x) (entry.State d x) ≡ true
opens_state s P d x = rw (same d.channel, same d.target, same d.lun) (by x)
  where
    by : (y : DeviceState) → same_state y y ≡ true
    by device.Created = refl
    by device.Running = refl
    by device.Quiesce = refl
    by device.Block = refl
    by device.Offline = refl
    by device.Cancel = refl
    by device.Del = refl

pub enters_state : (s : HostSpec) (P : List Entry) (d : DevAddr) (x : DeviceState) → list_all (may_enter (step.SetState d x)) (entry.State d x ∷ []) ≡ true
enters_state s P d x = alone _ (opens_state s P d x)
  where
    alone : (b : Bool) → b ≡ true → b && true ≡ true
    alone true e = refl
    alone false e = cc e

-- what follows a judgement tells nothing of the lower layer, sends nothing and owns nothing
pub follow_silent : (s : HostSpec) (c : CmdId) (n : Attempt) (a : Answer) (d : Disp) → IsSilent s (follow_of c n a d)
follow_silent s c n a Success = tt
follow_silent s c n a Retry = tt
follow_silent s c n a Requeue = tt
follow_silent s c n a Fail = tt

pub follow_enters : (c : CmdId) (n : Attempt) (a : Answer) (d : Disp) → list_all (may_enter (step.Settle n)) (entry.Judged c n d ∷ follow_of c n a d ∷ []) ≡ true
follow_enters c n a Success = rw (same n.0) refl
follow_enters c n a Retry = rw (same n.0) refl
follow_enters c n a Requeue = rw (same n.0) refl
follow_enters c n a Fail = rw (same n.0) refl

-- a pair of states that isn't legal
pub illegal_pair : (legal : Bool) (had asked : DeviceState) (x : Illegal DeviceState) → set_or_refuse legal had asked ≡ Err x → legal ≡ false
illegal_pair true had asked x is = cc
illegal_pair false had asked x is = refl

pub legal_pair : (legal : Bool) (had asked x : DeviceState) → set_or_refuse legal had asked ≡ Ok x → legal ≡ true
legal_pair true had asked x is = refl
legal_pair false had asked x is = cc

pub illegal_state : (s : HostSpec) (P : List Entry) (due : Bool) (d : DevAddr) (x : DeviceState) → has_begun P ≡ false → may_become (state s d P) x ≡ false
    → barred s due P (step.SetState d x) ≡ Some NotLegal
illegal_state s P due d x calm bad = rw (calm, bad, and_false (has_dev s.luns d)) refl
  where
    and_false : (b : Bool) → b && false ≡ false
    and_false true = refl
    and_false false = refl
