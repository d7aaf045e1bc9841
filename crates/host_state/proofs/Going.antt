-- What is said of attempts and commands together where an attempt is sent.
use Rattle.std.proofs.Common.{◌≡◌, ◌≢◌, ◌∙◌, sym, ap, subst, refl, ℕ, zero, suc, ◌+◌, ◌<◌, ◌==◌, Bool, true, false, not, ◌&&◌, ◌||◌, cond, List, [], ◌∷◌, ◌++◌, length, Option, None, Some, arith, inl, inr}
use Rattle.std.specs.Prelude.{slice_get, slice_set, option_map, is_some, nat_lt}
use Rattle.device_states.specs.States.{is_running}
use Rattle.tag_pool.specs.Tags.{all_out}
use Rattle.trace_model.specs.Counts.{busy_count}
use Rattle.std.specs.List.{list_any}
use Rattle.std.proofs.lemmas.Bool.{cases_Bool, false≢true, eq-eqb, eqb-true, ne_eqb, ltb-true}
use Rattle.std.proofs.lemmas.List.{length_push}
use Rattle.std.proofs.lemmas.Option.{same_Some, none-some}
use Rattle.mid_base.specs.declared.names.CmdId.{CmdId}
use Rattle.mid_base.specs.declared.names.Attempt.{Attempt}
use Rattle.mid_base.specs.declared.names.Tag.{Tag}
use Rattle.mid_base.specs.declared.answers.By.{By}
use Rattle.mid_base.specs.declared.answers.BusyOf.{BusyOf}
use Rattle.mid_base.specs.declared.answers.TagState.{TagState}
use Rattle.mid_base.specs.declared.answers.TagState.TheVariants as tag
use Rattle.mid_base.specs.declared.entries.Entry.{Entry}
use Rattle.mid_base.specs.declared.entries.Entry.TheVariants.{Sent, Bounced}
use Rattle.mid_base.specs.declared.host_spec.CmdSpec.{CmdSpec}
use Rattle.mid_base.specs.declared.host_spec.HostSpec.{HostSpec}
use Rattle.mid_base.specs.Past.{sent_for, was_sent}
use Rattle.trace_model.specs.declared.standing.Standing.{Standing}
use Rattle.trace_model.specs.declared.standing.Standing.TheVariants.{Waits, Busy}
use Rattle.trace_model.specs.Commands.{standing, holds, is_busy, failed_since_sent}
use Rattle.failure_table.specs.FailuresAgree.{is_out, is_aborting}
use Rattle.failure_table.proofs.Entries.{sent_is_out as says_sent_is_out}
use Rattle.trace_model.specs.Sending.{is_held, is_least_free, is_ready, all_below}
use Rattle.trace_model.specs.Tags.{sent_with, tag_state}
use Rattle.attempt_table.specs.declared.rows.Row.{Row}
use Rattle.attempt_table.specs.Rows.{row_of, live_in, tag_in, turned_away, Becomes}
use Rattle.attempt_table.proofs.Bools.{same}
use Rattle.attempt_table.proofs.Places.{row_last, row_front, row_new, row_here, row_other, tags_get}
use Rattle.attempt_table.proofs.Shown.{last_was_sent}
use Rattle.attempt_table.proofs.Told.{armed_is_live}
use Rattle.command_table.specs.declared.rows.CommandRow.{CommandRow}
use Rattle.command_table.specs.declared.commands.Commands.{Commands}
use Rattle.command_table.specs.CommandsAgree.{CommandsAgree}
use Rattle.trace_model.specs.Devices.{is_online}
use Rattle.mid_base.specs.declared.names.DevAddr.{DevAddr}
use Rattle.device_table.specs.declared.rows.DeviceRow.{DeviceRow}
use Rattle.device_table.specs.DevicesAgree.{takes, goes, goes_in, IsOf}
use Rattle.device_table.proofs.Depths.{goes_is, takes_is}
use Rattle.host_state.specs.declared.running.Running.{Running}
use Rattle.host_state.specs.HostAgrees.{HostAgrees, AreUnderWay, AreAborting, AreHeld}
use Rattle.host_state.specs.Picks.{CanSend}
use Rattle.host_state.proofs.Failing.{idle_unaborted}
use Rattle.host_state.proofs.Kept.{AreKept, kept_same, aborting_apart}
use Rattle.host_state.proofs.Settled.{unscheduled}
use Rattle.host_state.proofs.Ties.{any_at, busy_at, of_device, of_device_at, out_alike}
use Rattle.host_state.proofs.Moving.{both_true}

-- the tag of a busy command is held
pub held_by : (s : HostSpec) (P : List Entry) (t : Commands) (c : ℕ) (n : Attempt) (u : Tag) → CommandsAgree s P t → standing c P ≡ Busy n u → is_held s P u.0 ≡ true
held_by s P t c n u f busy =
    let there = busy_at s P t c n u f busy in
    any_at (λ k. holds u.0 (standing k.id.0 P)) s.cmds there.0 there.1 there.2
    (ap (λ (d : ℕ). holds u.0 (standing d P)) there.3 ∙ ap (holds u.0) busy ∙ same u.0)

not_held : (s : HostSpec) (P : List Entry) (t : ℕ) → is_least_free s P t ≡ true → is_held s P t ≡ false
not_held s P t least = by_held (is_held s P t) refl (both_true (not (is_held s P t)) (all_below t (is_held s P)) least).0
  where
    by_held : (b : Bool) → is_held s P t ≡ b → not b ≡ true → is_held s P t ≡ false
    by_held true is h = absurd (false≢true h)
    by_held false is h = is

-- a tag that no command holds is free
pub free_is : (s : HostSpec) (P : List Entry) (r : Running) (t : ℕ) → HostAgrees s P r → is_least_free s P t ≡ true → t < s.can_queue → slice_get r.attempts.tags.items t ≡ Some tag.Free
free_is s P r t runs least lt = by_state (tag_state P t) (ap (λ (xs : List TagState). slice_get xs t) runs.attempts.0.tags ∙ tags_get 0 s.can_queue t t P (omega (arith)) lt)
  where
    is_free : TagState → Bool
    is_free tag.Free = true
    is_free x = false

    held_still : (x : TagState) → slice_get r.attempts.tags.items t ≡ Some x → x ≢ tag.Free → ⊥
    held_still x at other =
        let there = armed_is_live s P r.attempts runs.attempts t x at other in
        by_row there.0 (row_of there.0 r.attempts.rows.items) refl there.1 there.2
      where
        by_row : (n : ℕ) (o : Option Row) → row_of n r.attempts.rows.items ≡ o → live_in o ≡ true → (tag_in o).0 ≡ t → ⊥
        by_row n None is lives with_tag = false≢true lives
        by_row n (Some x) is lives with_tag =
            false≢true (sym (not_held s P t least) ∙ ap (is_held s P) (sym with_tag)
            ∙ held_by s P r.commands x.command.0 (record { 0 = n }) x.tag runs.commands (runs.under_way n x is lives).0)

    by_state : (x : TagState) → slice_get r.attempts.tags.items t ≡ Some x → slice_get r.attempts.tags.items t ≡ Some tag.Free
    by_state tag.Free at = at
    by_state (tag.Armed n) at = absurd (held_still (tag.Armed n) at (λ e. false≢true (ap is_free e)))
    by_state (tag.Owned n by) at = absurd (held_still (tag.Owned n by) at (λ e. false≢true (ap is_free e)))

module _ (s : HostSpec) (P : List Entry) (r : Running) (runs : HostAgrees s P r) (c : CmdId) (n : Attempt) (t : Tag) (number : n.0 ≡ length r.attempts.rows.items + 1)
    (waiting : standing c.0 P ≡ Waits) (least : is_least_free s P t.0 ≡ true) (within : t.0 < s.can_queue) where
  stands_new : (d : ℕ) → (c.0 == d) ≡ true → standing d (Sent c n t ∷ P) ≡ Busy n t
  stands_new d is = ap (λ (b : Bool). cond b (Busy n t) (standing d P)) is

  stands_old : (d : ℕ) → (c.0 == d) ≡ false → standing d (Sent c n t ∷ P) ≡ standing d P
  stands_old d isnt = ap (λ (b : Bool). cond b (Busy n t) (standing d P)) isnt

  -- a busy command isn't the one that waits
  apart : (d : ℕ) (m : Attempt) (u : Tag) → standing d P ≡ Busy m u → (c.0 == d) ≡ false
  apart d m u busy = ne_eqb c.0 d (λ e. false≢true (sym (ap is_busy (ap (λ (x : ℕ). standing x P) (sym e) ∙ waiting)) ∙ ap is_busy busy))

  other_tag : (d : ℕ) (m : Attempt) (u : Tag) → standing d P ≡ Busy m u → (t.0 == u.0) ≡ false
  other_tag d m u busy =
      ne_eqb t.0 u.0 (λ e. false≢true (sym (not_held s P t.0 least) ∙ ap (is_held s P) e ∙ held_by s P r.commands d m u runs.commands busy))

  -- no attempt had this number
  unsent : was_sent n.0 P ≡ false
  unsent = (runs.attempts.0.rows n.0).0 ∙ ap is_some (row_new r.attempts.rows.items n.0 number)

  other_number : (u : ℕ) (m : ℕ) → sent_with u P ≡ m → (n.0 == m) ≡ false
  other_number u m with_tag = ne_eqb n.0 m (λ e. false≢true (sym unsent ∙ ap (λ (x : ℕ). was_sent x P) (e ∙ sym with_tag)
      ∙ last_was_sent u P (λ none. absurd (omega (arith, none, with_tag, e, number)))))

  pub held_once : AreHeld s (Sent c n t ∷ P)
  held_once d m u busy = elim (cases_Bool (c.0 == d)) as (λ _. (sent_with u.0 (Sent c n t ∷ P) ≡ m.0) × (sent_for m.0 (Sent c n t ∷ P) ≡ d) × (u.0 < s.can_queue)) [
    | inl is ↦
        let now : Busy n t ≡ Busy m u = sym (stands_new d is) ∙ busy in
        by_now m u now (eqb-true c.0 d is)
    | inr isnt ↦
        let before : standing d P ≡ Busy m u = sym (stands_old d isnt) ∙ busy in
        let was = runs.held_back d m u before in (
          ap (λ (b : Bool). cond b n.0 (sent_with u.0 P)) (other_tag d m u before) ∙ was.0,
          ap (λ (b : Bool). cond b c.0 (sent_for m.0 P)) (other_number u.0 m.0 was.0) ∙ was.1,
          was.2,
        )
  ]
    where
      attempt_in : Standing → Attempt
      attempt_in (Busy m u) = m
      attempt_in x = n

      tag_of : Standing → Tag
      tag_of (Busy m u) = u
      tag_of x = t

      by_now : (m : Attempt) (u : Tag) → Busy n t ≡ Busy m u → c.0 ≡ d → (sent_with u.0 (Sent c n t ∷ P) ≡ m.0) × (sent_for m.0 (Sent c n t ∷ P) ≡ d) × (u.0 < s.can_queue)
      by_now m u now e =
          let numbers : n.0 ≡ m.0 = ap (λ (x : Standing). (attempt_in x).0) now in
          let tags : t.0 ≡ u.0 = ap (λ (x : Standing). (tag_of x).0) now in (
            ap (λ (b : Bool). cond b n.0 (sent_with u.0 P)) (eq-eqb t.0 u.0 tags) ∙ numbers,
            ap (λ (b : Bool). cond b c.0 (sent_for m.0 P)) (eq-eqb n.0 m.0 numbers) ∙ e,
            subst (λ (v : ℕ). v < s.can_queue) tags within,
          )

  -- no command that waits is to be aborted
  unaborted : is_aborting c.0 P ≡ false
  unaborted = idle_unaborted s P r.failures runs.failures c.0 (ap is_busy waiting)

  -- a command that is sent now is out, and others are where they were
  just_sent : (d : ℕ) → c.0 ≡ d → is_out d (Sent c n t ∷ P) ≡ true
  just_sent d e = subst (λ (k : ℕ). is_out k (Sent c n t ∷ P) ≡ true) e (says_sent_is_out s P r.failures.queue.failed r.failures.queue.busy r.failures.work.waiting runs.failures.says c (ap is_busy waiting) n t)

  sent_apart : (d : ℕ) → (c.0 == d) ≡ false → is_out d (Sent c n t ∷ P) ≡ is_out d P
  sent_apart d isnt = out_alike d P (Sent c n t ∷ P) (stands_old d isnt) (ap (λ (b : Bool). cond b false (failed_since_sent d P)) isnt) refl

  -- what is under way, with one attempt more
  pub sent_under_way : (row : Row) (attempts : List Row) → attempts ≡ r.attempts.rows.items ++ row ∷ [] → row.command ≡ c → row.tag ≡ t → AreUnderWay (Sent c n t ∷ P) attempts
  sent_under_way row attempts rows command tag_is =
      rw rows (λ k x at lives. elim (cases_Bool (k == n.0)) as (λ _. (standing x.command.0 (Sent c n t ∷ P) ≡ Busy (record { 0 = k }) x.tag) × (is_out x.command.0 (Sent c n t ∷ P) ≡ true)) [
        | inl is ↦
            let here : k ≡ n.0 = eqb-true k n.0 is in
            let now : row ≡ x = same_Some row x (sym (row_last r.attempts.rows.items row k (here ∙ number)) ∙ at) in
            let mine : c.0 ≡ x.command.0 = ap (λ (y : CmdId). y.0) (sym command) ∙ ap (λ (y : Row). y.command.0) now in (
              stands_new x.command.0 (eq-eqb c.0 x.command.0 mine)
                  ∙ ap (λ (j : ℕ). Busy (record { 0 = j }) t) (sym here) ∙ ap (Busy (record { 0 = k })) (sym tag_is ∙ ap (λ (y : Row). y.tag) now),
              just_sent x.command.0 mine,
            )
        | inr isnt ↦
            let before = runs.under_way k x (sym (row_front r.attempts.rows.items row k (λ e. false≢true (sym isnt ∙ eq-eqb k n.0 (e ∙ sym number)))) ∙ at) lives in
            let far = apart x.command.0 (record { 0 = k }) x.tag before.0 in
            (stands_old x.command.0 far ∙ before.0, sent_apart x.command.0 far ∙ before.1)
      ])

  -- what is under way where that attempt was turned away at once
  pub bounced_under_way : (row : Row) (sent bounced : List Row) (why : BusyOf) → sent ≡ r.attempts.rows.items ++ row ∷ [] → row.owner ≡ None → Becomes n.0 turned_away sent bounced
      → AreUnderWay (Bounced c n why ∷ Sent c n t ∷ P) bounced
  bounced_under_way row sent bounced why rows unowned moves k x at lives = elim (cases_Bool (k == n.0)) as (λ _. (standing x.command.0 (Bounced c n why ∷ Sent c n t ∷ P) ≡ Busy (record { 0 = k }) x.tag) × (is_out x.command.0 (Bounced c n why ∷ Sent c n t ∷ P) ≡ true)) [
    | inl is ↦
        let here : k ≡ n.0 = eqb-true k n.0 is in
        let now : turned_away moves.row ≡ x =
        same_Some (turned_away moves.row) x (sym (row_here n.0 turned_away sent bounced moves) ∙ ap (λ (j : ℕ). row_of j bounced) (sym here) ∙ at)
        in
        let last : row ≡ moves.row = same_Some row moves.row (sym (row_last r.attempts.rows.items row n.0 number) ∙ ap (row_of n.0) (sym rows) ∙ moves.was) in
        absurd (dead_row moves.row (ap (λ (y : Row). y.owner) (sym last) ∙ unowned) (ap (λ (y : Row). live_in (Some y)) now ∙ lives))
    | inr isnt ↦
        let other : k ≢ n.0 = λ e. false≢true (sym isnt ∙ eq-eqb k n.0 e) in
        let was : row_of k r.attempts.rows.items ≡ Some x =
        sym (row_front r.attempts.rows.items row k (λ e. other (e ∙ sym number))) ∙ ap (row_of k) (sym rows) ∙ sym (row_other n.0 turned_away sent bounced moves k other) ∙ at
        in
        let before = runs.under_way k x was lives in
        let far = apart x.command.0 (record { 0 = k }) x.tag before.0 in
        let stands : standing x.command.0 (Bounced c n why ∷ Sent c n t ∷ P) ≡ standing x.command.0 P = ap (λ (b : Bool). cond b Waits (standing x.command.0 (Sent c n t ∷ P))) far ∙ stands_old x.command.0 far in
        (stands ∙ before.0, out_alike x.command.0 P (Bounced c n why ∷ Sent c n t ∷ P) stands (ap (λ (b : Bool). cond b false (failed_since_sent x.command.0 P)) far) refl ∙ before.1)
  ]
    where
      dead_row : (y : Row) → y.owner ≡ None → live_in (Some (turned_away y)) ≡ true → ⊥
      dead_row y none live = by_fields y.settled y.owner none live
        where
          by_fields : (e : Bool) (w : Option By) → w ≡ None → false || (not false && not e && is_some w) ≡ true → ⊥
          by_fields true w none live = cc
          by_fields false None none live = cc
          by_fields false (Some by) none live = cc

  -- the scheduled aborts, where its attempt is one of the rows
  pub sent_aborting : (new : List Row) → AreKept r.attempts.rows.items new → AreAborting (Sent c n t ∷ P) new r.failures.work.waiting
  sent_aborting new kept = aborting_apart P (Sent c n t ∷ P) r.attempts.rows.items new kept c.0 (Busy n t) (λ d. refl) r.failures.work.waiting (unscheduled s P r runs c.0 unaborted) runs.aborting

  pub bounced_aborting : (why : BusyOf) (new : List Row) → AreKept r.attempts.rows.items new → AreAborting (Bounced c n why ∷ Sent c n t ∷ P) new r.failures.work.waiting
  bounced_aborting why new kept =
      aborting_apart (Sent c n t ∷ P) (Bounced c n why ∷ Sent c n t ∷ P) r.attempts.rows.items new kept c.0 Waits (λ d. refl) r.failures.work.waiting (unscheduled s P r runs c.0 unaborted)
      (sent_aborting r.attempts.rows.items (kept_same r.attempts.rows.items r.attempts.rows.items refl))

  pub is_sent : standing c.0 (Sent c n t ∷ P) ≡ Busy n t
  is_sent = stands_new c.0 (same c.0)

-- a place that is written and then written as it was
pub set_back : {A : Type 0} (xs : List A) (k : ℕ) (a b : A) → slice_get xs k ≡ Some b → slice_set (slice_set xs k a) k b ≡ xs
set_back [] k a b at = absurd (none-some b at)
set_back (z ∷ zs) zero a b at = ap (λ (y : _). y ∷ zs) (sym (same_Some z b at))
set_back (z ∷ zs) (suc k) a b at = ap (λ (ys : List _). z ∷ ys) (set_back zs k a b at)

-- one attempt more
pub one_more : (rows new : List Row) (row : Row) → new ≡ rows ++ row ∷ [] → length new ≡ length rows + 1
one_more rows new row e = ap length e ∙ length_push rows row

-- the device of the command that is picked takes one more, where it is online
pub goes_online : (r : Running) (i : ℕ) → (can : CanSend r i) → (row : CommandRow) → slice_get r.commands.rows.items i ≡ Some row
    → (x : DeviceRow) × (slice_get r.devices.rows.items row.device ≡ Some x) × (takes r.devices x ≡ true)
goes_online r i can row at =
    let runs = can.runs in
    let picked = can.picked in
    let here : picked.row ≡ row = same_Some picked.row row (sym picked.row_at ∙ at) in
    let of : IsOf can.spec r.devices row.id row.device = of_device can.spec can.entries r.commands r.devices runs.commands runs.devices i row at in
    let command : of.command ≡ picked.command = same_Some of.command picked.command (sym (of_device_at can.spec can.entries r.commands r.devices runs.commands runs.devices i row at) ∙ picked.at) in
    let d : DevAddr = of.row.dev in
    let online : is_online can.spec d can.entries ≡ true = ap (λ (e : DevAddr). is_online can.spec e can.entries) (of.dev ∙ ap (λ (k : CmdSpec). k.dev) command) ∙ can.online in
    let going : not (is_online can.spec d can.entries) || is_ready can.spec can.entries d ≡ true =
    sym (goes_is can.spec can.entries r.devices row.device d of.row runs.devices of.row_at (ap (option_map (λ (q : DeviceRow). q.dev)) of.row_at))
    ∙ ap (goes r.devices) (sym of.row_at) ∙ ap (λ (q : CommandRow). goes_in r.devices q.device) (sym here) ∙ picked.goes
    in (
      of.row,
      of.row_at,
      takes_is can.spec can.entries r.devices row.device of.row runs.devices of.row_at ∙ ap (λ (b : Bool). not b || is_ready can.spec can.entries d) (sym online) ∙ going,
    )

-- then fewer commands are busy than the host has tags
pub room_online : (r : Running) (i : ℕ) → (can : CanSend r i) → (row : CommandRow) → slice_get r.commands.rows.items i ≡ Some row → busy_count can.spec can.entries < can.spec.can_queue
room_online r i can row at =
    let there = goes_online r i can row at in
    let tags = can.runs.devices.tags in
    let room = last_of (is_running there.0.state) (not r.devices.paused) (not there.0.paused) _ there.2 in
    let fewer : nat_lt (all_out r.devices.pool.tags) (length r.devices.pool.tags) ≡ true = (both_true (nat_lt (all_out r.devices.pool.tags) (length r.devices.pool.tags)) _ room).0 in
    let less : all_out r.devices.pool.tags < length r.devices.pool.tags = ltb-true (all_out r.devices.pool.tags) (length r.devices.pool.tags) fewer in
    omega (arith, less, tags.all, tags.count)
  where
    last_of : (a b c d : Bool) → a && b && c && d ≡ true → d ≡ true
    last_of true true true d h = h
    last_of true true false d h = cc
    last_of true false c d h = cc
    last_of false b c d h = cc
