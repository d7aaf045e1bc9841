-- What is said of attempts and commands together where an attempt is settled.
use Rattle.std.proofs.Common.{◌≡◌, ◌≢◌, ◌∙◌, sym, ap, subst, refl, ℕ, ◌<◌, ◌==◌, Bool, true, false, not, ◌&&◌, ◌||◌, List, Option, None, Some, inl, inr}
use Rattle.std.specs.Prelude.{slice_get, slice_set, option_map, is_some}
use Rattle.std.proofs.lemmas.Bool.{cases_Bool, false≢true, eq-eqb, eqb-true, ne_eqb}
use Rattle.std.proofs.lemmas.Option.{same_Some, none-some}
use Rattle.mid_base.specs.declared.names.CmdId.{CmdId}
use Rattle.mid_base.specs.declared.names.Attempt.{Attempt}
use Rattle.mid_base.specs.declared.answers.By.{By}
use Rattle.mid_base.specs.declared.answers.TagState.{TagState}
use Rattle.mid_base.specs.declared.answers.TagState.TheVariants as tag
use Rattle.mid_base.specs.declared.entries.Entry.{Entry}
use Rattle.mid_base.specs.declared.host_spec.HostSpec.{HostSpec}
use Rattle.tag_pool.specs.Tags.{is_out}
use Rattle.trace_model.specs.declared.standing.Standing.{Standing}
use Rattle.trace_model.specs.declared.standing.Standing.TheVariants.{Busy}
use Rattle.trace_model.specs.Commands.{standing}
use Rattle.trace_model.specs.Tags.{state_by}
use Rattle.attempt_table.specs.declared.rows.Row.{Row}
use Rattle.attempt_table.specs.Rows.{row_of, open_in, owned_in, live_in, tag_in, at_end, shown_in, Becomes}
use Rattle.attempt_table.proofs.Bools.{or_second}
use Rattle.attempt_table.proofs.Places.{row_here, row_other}
use Rattle.attempt_table.proofs.Told.{live_tag_is_shown}
use Rattle.command_table.specs.declared.rows.CommandRow.{CommandRow}
use Rattle.command_table.specs.Rows.{id_at}
use Rattle.deadline_table.specs.DeadlinesAgree.{DeadlinesAgree}
use Rattle.device_table.specs.declared.rows.DeviceRow.{DeviceRow}
use Rattle.device_table.specs.declared.devices.Devices.{Devices}
use Rattle.device_table.specs.DevicesAgree.{IsOf, HoldsAlone}
use Rattle.device_table.proofs.Tags.{is_held_by}
use Rattle.failure_table.specs.FailuresAgree.{knows, is_aborting, aborts_of, once_if, is_out as is_command_out}
use Rattle.host_state.specs.declared.running.Running.{Running}
use Rattle.host_state.specs.HostAgrees.{HostAgrees, AreUnderWay, IsOwnedBy, IsFreed, IsTimed}
use Rattle.host_state.proofs.Ties.{command_stands, holds_alone, of_device, is_known}
use Rattle.host_state.proofs.Timed.{timed_settled}

-- the row of a command whose id stands at a place
pub has_id : (rows : List CommandRow) (i : ℕ) (c : CmdId) → id_at i rows ≡ Some c → (r : CommandRow) × (slice_get rows i ≡ Some r)
has_id rows i c is = by_row (slice_get rows i) refl is
  where
    by_row : (o : Option CommandRow) → slice_get rows i ≡ o → option_map (λ (r : CommandRow). r.id) o ≡ Some c → (r : CommandRow) × (slice_get rows i ≡ Some r)
    by_row None at e = absurd (none-some c e)
    by_row (Some r) at e = (r, at)

-- the command of an attempt is busy with it
pub record Holds (s : HostSpec) (P : List Entry) (r : Running) (n : Attempt) (row : Row) : Type 0 where
  pub command : CommandRow
  pub at : slice_get r.commands.rows.items row.place ≡ Some command
  pub id : id_at row.place r.commands.rows.items ≡ Some row.command
  pub busy : standing row.command.0 P ≡ Busy n row.tag
  pub stands : command.standing ≡ Busy n row.tag
  pub device : IsOf s r.devices row.command command.device
  pub alone : HoldsAlone s P row.command row.tag.0
  pub below : row.tag.0 < s.can_queue
  pub out : is_out row.tag.0 r.devices.pool.tags ≡ true
  pub known : knows s row.command.0 ≡ true

pub holds_of : (s : HostSpec) (P : List Entry) (r : Running) → HostAgrees s P r → (n : Attempt) (row : Row) → row_of n.0 r.attempts.rows.items ≡ Some row
    → standing row.command.0 P ≡ Busy n row.tag → Holds s P r n row
holds_of s P r runs n row there busy =
    let id = runs.placed n.0 row there in
    let at = has_id r.commands.rows.items row.place row.command id in
    let stands : at.0.standing ≡ Busy n row.tag = sym (command_stands s P r.commands runs.commands row.place at.0 at.1 row.command id) ∙ busy in
    let id_of : at.0.id ≡ row.command = same_Some at.0.id row.command (sym (ap (option_map (λ (x : CommandRow). x.id)) at.1) ∙ id) in
    let of = subst (λ (c : CmdId). IsOf s r.devices c at.0.device) id_of (of_device s P r.commands r.devices runs.commands runs.devices row.place at.0 at.1) in
    let alone = holds_alone s P row.command n row.tag runs.held_back busy in
    let below = (runs.held_back row.command.0 n row.tag busy).2 in
    record {
      command = at.0;
      at = at.1;
      id = id;
      busy = busy;
      stands = stands;
      device = of;
      alone = alone;
      below = below;
      out =
          ap is_some (is_held_by s P of.command of.place n row.tag r.devices.pool runs.devices.ids of.at
          (ap (λ (c : CmdId). standing c.0 P) of.id ∙ busy)
          (λ m j get holding. alone m j get holding ∙ ap (λ (c : CmdId). c.0) (sym of.id))
          below runs.devices.tags);
      known = is_known s P r.commands row.command.0 n row.tag runs.commands busy;
    }

-- an attempt that has an owner is under way
pub under_way_of : (s : HostSpec) (P : List Entry) (r : Running) → HostAgrees s P r → (n : Attempt) (row : Row) (by : By) → IsOwnedBy r n row by
    → (standing row.command.0 P ≡ Busy n row.tag) × (is_command_out row.command.0 P ≡ true)
under_way_of s P r runs n row by is = runs.under_way n.0 row is.at (or_second (open_in (Some row)) (owned_in (Some row)) is.owned)

pub settles : (s : HostSpec) (P : List Entry) (r : Running) → HostAgrees s P r → (n : Attempt) (row : Row) (by : By) → IsOwnedBy r n row by → Holds s P r n row
settles s P r runs n row by is = holds_of s P r runs n row is.at (under_way_of s P r runs n row by is).0

-- no abort of its command waits
pub unscheduled : (s : HostSpec) (P : List Entry) (r : Running) → HostAgrees s P r → (c : ℕ) → is_aborting c P ≡ false → aborts_of c r.failures.work.waiting ≡ 0
unscheduled s P r runs c unaborted = runs.failures.says.waits c ∙ ap once_if unaborted

-- what is under way, without the attempt that was settled
pub settled_under_way : (s : HostSpec) (P Q : List Entry) (r : Running) → HostAgrees s P r → (n : Attempt) (row : Row) (by : By) → IsOwnedBy r n row by
    → (new : List Row) → Becomes n.0 at_end r.attempts.rows.items new → ((d : ℕ) → (row.command.0 == d) ≡ false → (standing d Q ≡ standing d P) × (is_command_out d Q ≡ is_command_out d P))
    → AreUnderWay Q new
settled_under_way s P Q r runs n row by is_owned new moves elsewhere k x at lives = elim (cases_Bool (k == n.0)) as (λ _. (standing x.command.0 Q ≡ Busy (record { 0 = k }) x.tag) × (is_command_out x.command.0 Q ≡ true)) [
  | inl is ↦
      let now : at_end moves.row ≡ x =
      same_Some (at_end moves.row) x (sym (row_here n.0 at_end r.attempts.rows.items new moves) ∙ ap (λ (j : ℕ). row_of j new) (sym (eqb-true k n.0 is)) ∙ at)
      in
      let was : row ≡ moves.row = same_Some row moves.row (sym is_owned.at ∙ moves.was) in
      absurd (dead_end moves.row (ap (λ (y : Row). owned_in (Some y)) (sym was) ∙ is_owned.owned) (ap (λ (y : Row). live_in (Some y)) now ∙ lives))
  | inr isnt ↦
      let other : k ≢ n.0 = λ e. false≢true (sym isnt ∙ eq-eqb k n.0 e) in
      let before = runs.under_way k x (sym (row_other n.0 at_end r.attempts.rows.items new moves k other) ∙ at) lives in
      let mine = under_way_of s P r runs n row by is_owned in
      let apart : (row.command.0 == x.command.0) ≡ false =
      ne_eqb row.command.0 x.command.0 (λ e. other (ap (λ (y : Standing). number_in y) (sym before.0 ∙ ap (λ (c : ℕ). standing c P) (sym e) ∙ mine.0)))
      in
      let there = elsewhere x.command.0 apart in
      (there.0 ∙ before.0, there.1 ∙ before.1)
]
  where
    dead_end : (y : Row) → owned_in (Some y) ≡ true → live_in (Some (at_end y)) ≡ true → ⊥
    dead_end y owned live = by_fields y.out y.settled y.owner owned live
      where
        by_fields : (o e : Bool) (w : Option By) → not o && not e && is_some w ≡ true → o || (not o && not true && is_some w) ≡ true → ⊥
        by_fields true e w owned live = cc
        by_fields false e w owned live = cc

    number_in : Standing → ℕ
    number_in (Busy m u) = m.0
    number_in y = 0

-- the device of a command, where only other things of the table changed
pub same_device : (s : HostSpec) (old new : Devices) (c : CmdId) (i : ℕ) → new.rows.items ≡ old.rows.items → IsOf s old c i → IsOf s new c i
same_device s old new c i rows of = record {
  command = of.command;
  place = of.place;
  at = of.at;
  id = of.id;
  row = of.row;
  row_at = ap (λ (xs : List DeviceRow). slice_get xs i) rows ∙ of.row_at;
  dev = of.dev;
}

-- the tag of an attempt that has an owner
pub shown_owned : (n : Attempt) (row : Row) (by : By) → owned_in (Some row) ≡ true → row.owner ≡ Some by → shown_in n.0 (Some row) ≡ tag.Owned n by
shown_owned n row by owned owner = by_fields row.out row.settled row.owner owner owned
  where
    by_fields : (o e : Bool) (w : Option By) → w ≡ Some by → not o && not e && is_some w ≡ true → state_by n.0 o e w ≡ tag.Owned n by
    by_fields true e w is owned = cc
    by_fields false true w is owned = cc
    by_fields false false None is owned = cc
    by_fields false false (Some x) is owned = let side : x ≡ by = same_Some x by is in rw side refl

-- the same, as the tags show it
pub tag_owned : (s : HostSpec) (P : List Entry) (r : Running) → HostAgrees s P r → (n : Attempt) (row : Row) (by : By) → IsOwnedBy r n row by
    → slice_get r.attempts.tags.items row.tag.0 ≡ Some (tag.Owned n by)
tag_owned s P r runs n row by is =
    let lives : live_in (row_of n.0 r.attempts.rows.items) ≡ true = ap live_in is.at ∙ or_second (open_in (Some row)) (owned_in (Some row)) is.owned in
    ap (λ (x : Option Row). slice_get r.attempts.tags.items (tag_in x).0) (sym is.at) ∙ live_tag_is_shown s P r.attempts runs.attempts n.0 lives
    ∙ ap (λ (x : Option Row). Some (shown_in n.0 x)) is.at ∙ ap Some (shown_owned n row by is.owned is.owner)

pub tag_freed : (s : HostSpec) (P : List Entry) (r : Running) → HostAgrees s P r → (n : Attempt) (row : Row) (by : By) → IsOwnedBy r n row by → (new : List TagState)
    → new ≡ slice_set r.attempts.tags.items (tag_in (row_of n.0 r.attempts.rows.items)).0 tag.Free → IsFreed r.attempts.tags.items new n by row.tag
tag_freed s P r runs n row by is new set =
    (tag_owned s P r runs n row by is, set ∙ ap (λ (x : Option Row). slice_set r.attempts.tags.items (tag_in x).0 tag.Free) is.at)

-- the deadlines, where the attempt is settled
pub settled_timed : (s : HostSpec) (P : List Entry) (r : Running) → HostAgrees s P r → (n : Attempt) (row : Row) (by : By) → IsOwnedBy r n row by → (Q : List Entry) (new : List TagState)
    → new ≡ slice_set r.attempts.tags.items (tag_in (row_of n.0 r.attempts.rows.items)).0 tag.Free → DeadlinesAgree s Q r.deadlines → IsTimed s Q r.deadlines new
settled_timed s P r runs n row by is Q new set agrees =
    let freed = tag_freed s P r runs n row by is new set in
    subst (λ (xs : List TagState). IsTimed s Q r.deadlines xs) (sym freed.1)
    (timed_settled s P r.deadlines r.attempts.tags.items runs.timed Q row.tag.0 (tag.Owned n by) freed.0 refl agrees)
