-- What each entry changes.
use Rattle.std.proofs.Common.{◌≡◌, ◌∙◌, sym, ap, subst, refl, ℕ, zero, suc, ◌<◌, ◌==◌, Bool, true, false, ◌||◌, cond, List, [], ◌∷◌, set, map, Option, None, Some, inl, inr}
use Rattle.std.specs.Prelude.{slice_get, option_map}
use Rattle.std.proofs.lemmas.Bool.{cases_Bool, eq-eqb, eqb-true}
use Rattle.std.proofs.lemmas.Option.{same_Some, none-some}
use Rattle.mid_base.specs.declared.names.CmdId.{CmdId}
use Rattle.mid_base.specs.declared.names.DevAddr.{DevAddr}
use Rattle.mid_base.specs.declared.names.Attempt.{Attempt}
use Rattle.mid_base.specs.declared.names.Tag.{Tag}
use Rattle.mid_base.specs.declared.answers.Answer.{Answer}
use Rattle.mid_base.specs.declared.answers.BusyOf.TheVariants.{Host as HostBusy, Device as DeviceBusy}
use Rattle.mid_base.specs.declared.states.DeviceState.{DeviceState}
use Rattle.mid_base.specs.declared.states.DeviceState.TheVariants.{Offline}
use Rattle.mid_base.specs.declared.entries.Entry.{Entry}
use Rattle.mid_base.specs.declared.entries.Entry.TheVariants as entry
use Rattle.mid_base.specs.declared.host_spec.CmdSpec.{CmdSpec}
use Rattle.mid_base.specs.declared.host_spec.HostSpec.{HostSpec}
use Rattle.mid_base.specs.Address.{same_dev}
use Rattle.mid_base.specs.Limits.{differ_in_id}
use Rattle.tag_pool.specs.Pool.{Pool}
use Rattle.tag_pool.specs.Tags.{holder}
use Rattle.trace_model.specs.declared.standing.Standing.{Standing}
use Rattle.trace_model.specs.declared.standing.Standing.TheVariants.{Waits, Busy, Ended}
use Rattle.trace_model.specs.Names.{command, dev_of, or_no_command}
use Rattle.trace_model.specs.Commands.{standing, holds, is_busy}
use Rattle.trace_model.specs.Devices.{state}
use Rattle.trace_model.specs.Sending.{host_paused, dev_paused}
use Rattle.device_table.specs.declared.rows.DeviceRow.{DeviceRow}
use Rattle.device_table.specs.declared.devices.Devices.{Devices}
use Rattle.device_table.specs.Rows.{AreFor, dev_at, unpaused}
use Rattle.device_table.specs.DevicesAgree.{TagsAre, StateIs, PauseIs, DepthIs, DevicesAgree, IsOf, HoldsAlone, IsApart}
use Rattle.device_table.proofs.Counts.{find_one}
use Rattle.device_table.proofs.Tags.{Restood, tags_sent, tags_given, tags_alike, idle_holds}
use Rattle.device_table.proofs.Places.{same_self, after_write, apart_rows, for_set, for_map}

-- the spec's command, and its device
pub command_is : (s : HostSpec) (P : List Entry) (t : Devices) (c : CmdId) (i : ℕ) → DevicesAgree s P t → (of : IsOf s t c i) → command s c.0 ≡ of.command
command_is s P t c i k of =
    ap or_no_command
    (find_one (λ j. j.id.0 == c.0) s.cmds k.ids of.place of.command of.at
    (λ m j at apart. ap (λ (x : CmdId). j.id.0 == x.0) (sym of.id) ∙ apart)
    (eq-eqb of.command.id.0 c.0 (ap (λ (x : CmdId). x.0) of.id)))

pub dev_is : (s : HostSpec) (P : List Entry) (t : Devices) (c : CmdId) (i : ℕ) → DevicesAgree s P t → (of : IsOf s t c i) → dev_of s c.0 ≡ of.row.dev
dev_is s P t c i k of = ap (λ (x : CmdSpec). x.dev) (command_is s P t c i k of) ∙ sym of.dev

-- the command comes to stand elsewhere
restood : (s : HostSpec) (P Q : List Entry) (t : Devices) (c : CmdId) (i : ℕ) (x : Standing) → DevicesAgree s P t → (of : IsOf s t c i)
    → ((d : ℕ) → standing d Q ≡ cond (c.0 == d) x (standing d P)) → Restood s P Q of.command x
restood s P Q t c i x k of changed = record {
  ids = k.ids;
  place = of.place;
  at = of.at;
  changed = λ d. changed d ∙ ap (λ (y : CmdId). cond (y.0 == d) x (standing d P)) (sym of.id);
}

stands_as : (s : HostSpec) (P : List Entry) (t : Devices) (c : CmdId) (i : ℕ) (of : IsOf s t c i) → standing of.command.id.0 P ≡ standing c.0 P
stands_as s P t c i of = ap (λ (x : CmdId). standing x.0 P) of.id

module _ (s : HostSpec) (P : List Entry) (old new : Devices) (c : CmdId) (i : ℕ) (k : DevicesAgree s P old) (of : IsOf s old c i) where
  alone_as : (t : Tag) → HoldsAlone s P c t.0 → (m : ℕ) (j : CmdSpec) → slice_get s.cmds m ≡ Some j → holds t.0 (standing j.id.0 P) ≡ true → j.id.0 ≡ of.command.id.0
  alone_as t alone m j at is = alone m j at is ∙ ap (λ (x : CmdId). x.0) (sym of.id)

  pub keeps_sent : (n : Attempt) (t : Tag) → is_busy (standing c.0 P) ≡ false → t.0 < s.can_queue → holder t.0 old.pool.tags ≡ None
      → new.rows.items ≡ old.rows.items → new.paused ≡ old.paused → new.pool.devices ≡ old.pool.devices → new.pool.tags ≡ set old.pool.tags t.0 (Some of.row.dev)
      → DevicesAgree s (entry.Sent c n t ∷ P) new
  keeps_sent n t idle lt free rows paused devices tags = record {
    rows_are = rw rows k.rows_are;
    apart = k.apart;
    ids = k.ids;
    states = rw rows k.states;
    pauses = rw rows k.pauses;
    depths_are = rw (rows, devices) k.depths_are;
    host = k.host ∙ sym paused;
    tags = tags_sent s P (entry.Sent c n t ∷ P) of.command n t old.pool new.pool
        (restood s P (entry.Sent c n t ∷ P) old c i (Busy n t) k of (λ d. refl))
        (ap is_busy (stands_as s P old c i of) ∙ idle) lt free (tags ∙ ap (λ (d : DevAddr). set old.pool.tags t.0 (Some d)) of.dev) k.tags;
  }

  pub keeps_told : (n : Attempt) (t : Tag) (a : Answer) → standing c.0 P ≡ Busy n t → HoldsAlone s P c t.0 → t.0 < s.can_queue
      → new.rows.items ≡ old.rows.items → new.paused ≡ old.paused → new.pool.devices ≡ old.pool.devices → new.pool.tags ≡ set old.pool.tags t.0 None
      → DevicesAgree s (entry.Told c a ∷ P) new
  keeps_told n t a was alone lt rows paused devices tags = record {
    rows_are = rw rows k.rows_are;
    apart = k.apart;
    ids = k.ids;
    states = rw rows k.states;
    pauses = rw rows k.pauses;
    depths_are = rw (rows, devices) k.depths_are;
    host = k.host ∙ sym paused;
    tags = tags_given s P (entry.Told c a ∷ P) of.command n t Ended old.pool new.pool
        (restood s P (entry.Told c a ∷ P) old c i Ended k of (λ d. refl))
        (stands_as s P old c i of ∙ was) refl (alone_as t alone) lt tags k.tags;
  }

  -- the pauses where the rows are as they were, and the entry pauses no device
  pauses_same : (Q : List Entry) → new.rows.items ≡ old.rows.items → ((d : DevAddr) → dev_paused s d Q ≡ dev_paused s d P)
      → (j : ℕ) (r : DeviceRow) → slice_get new.rows.items j ≡ Some r → PauseIs s Q r
  pauses_same Q rows same j r at = same r.dev ∙ k.pauses j r (rw rows at at)

  -- the pauses where the command's device is paused
  pauses_more : (Q : List Entry) → new.rows.items ≡ set old.rows.items i (record of.row { paused = true }) → ((d : DevAddr) → dev_paused s d Q ≡ same_dev (dev_of s c.0) d || dev_paused s d P)
      → (j : ℕ) (r : DeviceRow) → slice_get new.rows.items j ≡ Some r → PauseIs s Q r
  pauses_more Q rows more j r at = elim (after_write old.rows.items i j of.row (record of.row { paused = true }) r of.row_at (rw rows at at)) as (λ _. PauseIs s Q r) [
    | inl here ↦
        subst (λ (x : DeviceRow). PauseIs s Q x) here.1
        (more of.row.dev ∙ ap (λ (d : DevAddr). same_dev d of.row.dev || dev_paused s of.row.dev P) (dev_is s P old c i k of) ∙ ap (λ (b : Bool). b || dev_paused s of.row.dev P) (same_self of.row.dev))
    | inr there ↦
        more r.dev ∙ ap (λ (d : DevAddr). same_dev d r.dev || dev_paused s r.dev P) (dev_is s P old c i k of)
        ∙ ap (λ (b : Bool). b || dev_paused s r.dev P) (apart_rows s.luns old.rows.items k.rows_are k.apart i j of.row r of.row_at there.1 there.0)
        ∙ k.pauses j r there.1
  ]

  -- the states and depths where the command's device may be paused
  by_row : (A : DeviceRow → Type 0) → ((r : DeviceRow) (b : Bool) → A r → A (record r { paused = b })) → ((j : ℕ) (r : DeviceRow) → slice_get old.rows.items j ≡ Some r → A r)
      → new.rows.items ≡ set old.rows.items i (record of.row { paused = true }) → (j : ℕ) (r : DeviceRow) → slice_get new.rows.items j ≡ Some r → A r
  by_row A either all rows j r at = elim (after_write old.rows.items i j of.row (record of.row { paused = true }) r of.row_at (rw rows at at)) as (λ _. A r) [
    | inl here ↦ subst A here.1 (either of.row true (all i of.row of.row_at))
    | inr there ↦ all j r there.1
  ]

  rows_now : new.rows.items ≡ set old.rows.items i (record of.row { paused = true }) → AreFor s.luns new.rows.items
  rows_now rows = rw rows (for_set s.luns old.rows.items k.rows_are i of.row (record of.row { paused = true }) of.row_at refl)

  module _ (n : Attempt) (t : Tag) (was : standing c.0 P ≡ Busy n t) (alone : HoldsAlone s P c t.0) (lt : t.0 < s.can_queue)
      (devices : new.pool.devices ≡ old.pool.devices) (tags : new.pool.tags ≡ set old.pool.tags t.0 None) where
    given : (Q : List Entry) → ((d : ℕ) → standing d Q ≡ cond (c.0 == d) Waits (standing d P)) → TagsAre s Q new.pool
    given Q changed =
        tags_given s P Q of.command n t Waits old.pool new.pool (restood s P Q old c i Waits k of changed) (stands_as s P old c i of ∙ was) refl (alone_as t alone) lt tags k.tags

    pub keeps_counted : new.rows.items ≡ old.rows.items → new.paused ≡ old.paused → DevicesAgree s (entry.Again c true ∷ P) new
    keeps_counted rows paused = record {
      rows_are = rw rows k.rows_are;
      apart = k.apart;
      ids = k.ids;
      states = rw rows k.states;
      pauses = pauses_same (entry.Again c true ∷ P) rows (λ d. refl);
      depths_are = rw (rows, devices) k.depths_are;
      host = k.host ∙ sym paused;
      tags = given (entry.Again c true ∷ P) (λ d. refl);
    }

    pub keeps_free : new.rows.items ≡ set old.rows.items i (record of.row { paused = true }) → new.paused ≡ old.paused → DevicesAgree s (entry.Again c false ∷ P) new
    keeps_free rows paused = record {
      rows_are = rows_now rows;
      apart = k.apart;
      ids = k.ids;
      states = by_row (StateIs s (entry.Again c false ∷ P)) (λ r b h. h) k.states rows;
      pauses = pauses_more (entry.Again c false ∷ P) rows (λ d. refl);
      depths_are = rw devices (by_row (DepthIs s (entry.Again c false ∷ P) old.pool) (λ r b h. h) k.depths_are rows);
      host = k.host ∙ sym paused;
      tags = given (entry.Again c false ∷ P) (λ d. refl);
    }

    pub keeps_host_busy : new.rows.items ≡ old.rows.items → new.paused ≡ true → DevicesAgree s (entry.Bounced c n HostBusy ∷ P) new
    keeps_host_busy rows paused = record {
      rows_are = rw rows k.rows_are;
      apart = k.apart;
      ids = k.ids;
      states = rw rows k.states;
      pauses = pauses_same (entry.Bounced c n HostBusy ∷ P) rows (λ d. refl);
      depths_are = rw (rows, devices) k.depths_are;
      host = sym paused;
      tags = given (entry.Bounced c n HostBusy ∷ P) (λ d. refl);
    }

    pub keeps_device_busy : new.rows.items ≡ set old.rows.items i (record of.row { paused = true }) → new.paused ≡ old.paused → DevicesAgree s (entry.Bounced c n DeviceBusy ∷ P) new
    keeps_device_busy rows paused = record {
      rows_are = rows_now rows;
      apart = k.apart;
      ids = k.ids;
      states = by_row (StateIs s (entry.Bounced c n DeviceBusy ∷ P)) (λ r b h. h) k.states rows;
      pauses = pauses_more (entry.Bounced c n DeviceBusy ∷ P) rows (λ d. refl);
      depths_are = rw devices (by_row (DepthIs s (entry.Bounced c n DeviceBusy ∷ P) old.pool) (λ r b h. h) k.depths_are rows);
      host = k.host ∙ sym paused;
      tags = given (entry.Bounced c n DeviceBusy ∷ P) (λ d. refl);
    }

-- a command that isn't busy and isn't busy afterwards changes nothing here
idle_now : (s : HostSpec) (P Q : List Entry) (c : CmdId) (x : Standing) (pool : Pool) → differ_in_id s.cmds ≡ true → is_busy (standing c.0 P) ≡ false → is_busy x ≡ false
    → ((d : ℕ) → standing d Q ≡ cond (c.0 == d) x (standing d P)) → TagsAre s P pool → TagsAre s Q pool
idle_now s P Q c x pool ids was is changed tags = tags_alike s P Q pool (λ d. busy_same d) (λ t d. holds_same t d) tags
  where
    busy_same : (d : ℕ) → is_busy (standing d Q) ≡ is_busy (standing d P)
    busy_same d = elim (cases_Bool (c.0 == d)) as (λ _. is_busy (standing d Q) ≡ is_busy (standing d P)) [
      | inl here ↦ ap is_busy (changed d) ∙ ap (λ (b : Bool). is_busy (cond b x (standing d P))) here ∙ is ∙ sym was ∙ ap (λ (n : ℕ). is_busy (standing n P)) (eqb-true c.0 d here)
      | inr apart ↦ ap is_busy (changed d) ∙ ap (λ (b : Bool). is_busy (cond b x (standing d P))) apart
    ]

    holds_same : (t d : ℕ) → holds t (standing d Q) ≡ holds t (standing d P)
    holds_same t d = elim (cases_Bool (c.0 == d)) as (λ _. holds t (standing d Q) ≡ holds t (standing d P)) [
      | inl here ↦
          ap (holds t) (changed d) ∙ ap (λ (b : Bool). holds t (cond b x (standing d P))) here ∙ idle_holds t x is
          ∙ sym (idle_holds t (standing c.0 P) was) ∙ ap (λ (n : ℕ). holds t (standing n P)) (eqb-true c.0 d here)
      | inr apart ↦ ap (holds t) (changed d) ∙ ap (λ (b : Bool). holds t (cond b x (standing d P))) apart
    ]

pub not_busy_took : (s : HostSpec) (P : List Entry) (t : Devices) (c : CmdId) → is_busy (standing c.0 P) ≡ false → DevicesAgree s P t → DevicesAgree s (entry.Took c ∷ P) t
not_busy_took s P t c idle k = record {
  rows_are = k.rows_are;
  apart = k.apart;
  ids = k.ids;
  states = k.states;
  pauses = k.pauses;
  depths_are = k.depths_are;
  host = k.host;
  tags = idle_now s P (entry.Took c ∷ P) c Waits t.pool k.ids idle refl (λ d. refl) k.tags;
}

pub not_busy_told : (s : HostSpec) (P : List Entry) (t : Devices) (c : CmdId) (a : Answer) → is_busy (standing c.0 P) ≡ false → DevicesAgree s P t → DevicesAgree s (entry.Told c a ∷ P) t
not_busy_told s P t c a idle k = record {
  rows_are = k.rows_are;
  apart = k.apart;
  ids = k.ids;
  states = k.states;
  pauses = k.pauses;
  depths_are = k.depths_are;
  host = k.host;
  tags = idle_now s P (entry.Told c a ∷ P) c Ended t.pool k.ids idle refl (λ d. refl) k.tags;
}

-- entries that say nothing of devices
same_record : (s : HostSpec) (P Q : List Entry) (t : Devices) → ((j : ℕ) (r : DeviceRow) → slice_get t.rows.items j ≡ Some r → StateIs s Q r) → ((j : ℕ) (r : DeviceRow) → slice_get t.rows.items j ≡ Some r → PauseIs s Q r)
    → ((j : ℕ) (r : DeviceRow) → slice_get t.rows.items j ≡ Some r → DepthIs s Q t.pool r) → host_paused Q ≡ t.paused → TagsAre s Q t.pool → DevicesAgree s P t → DevicesAgree s Q t
same_record s P Q t states pauses depths_now host tags k = record {
  rows_are = k.rows_are;
  apart = k.apart;
  ids = k.ids;
  states = states;
  pauses = pauses;
  depths_are = depths_now;
  host = host;
  tags = tags;
}

pub keeps_apart : (s : HostSpec) (P : List Entry) (t : Devices) (e : Entry) → IsApart e → DevicesAgree s P t → DevicesAgree s (e ∷ P) t
keeps_apart s P t (entry.Ready n a) apart k = same_record s P (entry.Ready n a ∷ P) t k.states k.pauses k.depths_are k.host (tags_alike s P (entry.Ready n a ∷ P) t.pool (λ d. refl) (λ u d. refl) k.tags) k
keeps_apart s P t (entry.Owned n by) apart k = same_record s P (entry.Owned n by ∷ P) t k.states k.pauses k.depths_are k.host (tags_alike s P (entry.Owned n by ∷ P) t.pool (λ d. refl) (λ u d. refl) k.tags) k
keeps_apart s P t (entry.Failed c n x) apart k = same_record s P (entry.Failed c n x ∷ P) t k.states k.pauses k.depths_are k.host (tags_alike s P (entry.Failed c n x ∷ P) t.pool (λ d. refl) (λ u d. refl) k.tags) k
keeps_apart s P t (entry.Due n) apart k = same_record s P (entry.Due n ∷ P) t k.states k.pauses k.depths_are k.host (tags_alike s P (entry.Due n ∷ P) t.pool (λ d. refl) (λ u d. refl) k.tags) k
keeps_apart s P t (entry.Longer n) apart k = same_record s P (entry.Longer n ∷ P) t k.states k.pauses k.depths_are k.host (tags_alike s P (entry.Longer n ∷ P) t.pool (λ d. refl) (λ u d. refl) k.tags) k
keeps_apart s P t (entry.DoneSaid n) apart k = same_record s P (entry.DoneSaid n ∷ P) t k.states k.pauses k.depths_are k.host (tags_alike s P (entry.DoneSaid n ∷ P) t.pool (λ d. refl) (λ u d. refl) k.tags) k
keeps_apart s P t (entry.Late n) apart k = same_record s P (entry.Late n ∷ P) t k.states k.pauses k.depths_are k.host (tags_alike s P (entry.Late n ∷ P) t.pool (λ d. refl) (λ u d. refl) k.tags) k
keeps_apart s P t (entry.AbortSet c n) apart k = same_record s P (entry.AbortSet c n ∷ P) t k.states k.pauses k.depths_are k.host (tags_alike s P (entry.AbortSet c n ∷ P) t.pool (λ d. refl) (λ u d. refl) k.tags) k
keeps_apart s P t (entry.Aborted c n ok) apart k = same_record s P (entry.Aborted c n ok ∷ P) t k.states k.pauses k.depths_are k.host (tags_alike s P (entry.Aborted c n ok ∷ P) t.pool (λ d. refl) (λ u d. refl) k.tags) k
keeps_apart s P t (entry.Cleared c level) apart k = same_record s P (entry.Cleared c level ∷ P) t k.states k.pauses k.depths_are k.host (tags_alike s P (entry.Cleared c level ∷ P) t.pool (λ d. refl) (λ u d. refl) k.tags) k
keeps_apart s P t (entry.Sensed c n sense) apart k = same_record s P (entry.Sensed c n sense ∷ P) t k.states k.pauses k.depths_are k.host (tags_alike s P (entry.Sensed c n sense ∷ P) t.pool (λ d. refl) (λ u d. refl) k.tags) k
keeps_apart s P t entry.EhBegin apart k = same_record s P (entry.EhBegin ∷ P) t k.states k.pauses k.depths_are k.host (tags_alike s P (entry.EhBegin ∷ P) t.pool (λ d. refl) (λ u d. refl) k.tags) k
keeps_apart s P t entry.EhEnd apart k = same_record s P (entry.EhEnd ∷ P) t k.states k.pauses k.depths_are k.host (tags_alike s P (entry.EhEnd ∷ P) t.pool (λ d. refl) (λ u d. refl) k.tags) k
keeps_apart s P t (entry.Act level scope ok) apart k = same_record s P (entry.Act level scope ok ∷ P) t k.states k.pauses k.depths_are k.host (tags_alike s P (entry.Act level scope ok ∷ P) t.pool (λ d. refl) (λ u d. refl) k.tags) k
keeps_apart s P t (entry.Probe d op say) apart k = same_record s P (entry.Probe d op say ∷ P) t k.states k.pauses k.depths_are k.host (tags_alike s P (entry.Probe d op say ∷ P) t.pool (λ d. refl) (λ u d. refl) k.tags) k
keeps_apart s P t e apart k = absurd apart

-- the row of a device that has a place
pub dev_row : (rows : List DeviceRow) (i : ℕ) (d : DevAddr) → dev_at i rows ≡ Some d → (r : DeviceRow) × (slice_get rows i ≡ Some r) × (r.dev ≡ d)
dev_row rows i d is = by_row (slice_get rows i) refl is
  where
    by_row : (o : Option DeviceRow) → slice_get rows i ≡ o → option_map (λ (q : DeviceRow). q.dev) o ≡ Some d → (r : DeviceRow) × (slice_get rows i ≡ Some r) × (r.dev ≡ d)
    by_row None at e = absurd (none-some d e)
    by_row (Some q) at e = (q, at, same_Some q.dev d e)

-- the device at a place goes to a state, by an entry that says so and says nothing else of devices and tags
keeps_set : (s : HostSpec) (P Q : List Entry) (old new : Devices) (i : ℕ) (r : DeviceRow) (x : DeviceState) → slice_get old.rows.items i ≡ Some r
    → new.rows.items ≡ set old.rows.items i (record r { state = x }) → new.paused ≡ old.paused → new.pool ≡ old.pool
    → ((d : DevAddr) → state s d Q ≡ cond (same_dev r.dev d) x (state s d P)) → ((q : DeviceRow) → PauseIs s P q → PauseIs s Q q)
    → ((q : DeviceRow) → DepthIs s P old.pool q → DepthIs s Q old.pool q) → host_paused Q ≡ host_paused P → TagsAre s Q old.pool → DevicesAgree s P old → DevicesAgree s Q new
keeps_set s P Q old new i r x at rows paused pool state_is pause_is depth_is host tags k = record {
  rows_are = rw rows (for_set s.luns old.rows.items k.rows_are i r (record r { state = x }) at refl);
  apart = k.apart;
  ids = k.ids;
  states = λ j q get. states j q (rw rows at get);
  pauses = λ j q get. other (PauseIs s Q) (λ y h. h) (λ m p there. pause_is p (k.pauses m p there)) j q (rw rows at get);
  depths_are = λ j q get. rw pool (other (DepthIs s Q old.pool) (λ y h. h) (λ m p there. depth_is p (k.depths_are m p there)) j q (rw rows at get));
  host = host ∙ k.host ∙ sym paused;
  tags = rw pool tags;
}
  where
    other : (A : DeviceRow → Type 0) → ((y : DeviceState) → A r → A (record r { state = y })) → ((j : ℕ) (q : DeviceRow) → slice_get old.rows.items j ≡ Some q → A q)
        → (j : ℕ) (q : DeviceRow) → slice_get (set old.rows.items i (record r { state = x })) j ≡ Some q → A q
    other A either all j q get = elim (after_write old.rows.items i j r (record r { state = x }) q at get) as (λ _. A q) [
      | inl here ↦ subst A here.1 (either x (all i r at))
      | inr there ↦ all j q there.1
    ]

    states : (j : ℕ) (q : DeviceRow) → slice_get (set old.rows.items i (record r { state = x })) j ≡ Some q → StateIs s Q q
    states j q get = elim (after_write old.rows.items i j r (record r { state = x }) q at get) as (λ _. StateIs s Q q) [
      | inl here ↦ subst (StateIs s Q) here.1 (state_is r.dev ∙ ap (λ (b : Bool). cond b x (state s r.dev P)) (same_self r.dev))
      | inr there ↦ state_is q.dev ∙ ap (λ (b : Bool). cond b x (state s q.dev P)) (apart_rows s.luns old.rows.items k.rows_are k.apart i j r q at there.1 there.0) ∙ k.states j q there.1
    ]

pub keeps_state : (s : HostSpec) (P : List Entry) (old new : Devices) (i : ℕ) (r : DeviceRow) (x : DeviceState) → slice_get old.rows.items i ≡ Some r
    → new.rows.items ≡ set old.rows.items i (record r { state = x }) → new.paused ≡ old.paused → new.pool ≡ old.pool → DevicesAgree s P old → DevicesAgree s (entry.State r.dev x ∷ P) new
keeps_state s P old new i r x at rows paused pool k =
    keeps_set s P (entry.State r.dev x ∷ P) old new i r x at rows paused pool (λ d. refl) (λ q h. h) (λ q h. h) refl
    (tags_alike s P (entry.State r.dev x ∷ P) old.pool (λ d. refl) (λ u d. refl) k.tags) k

pub keeps_offline : (s : HostSpec) (P : List Entry) (old new : Devices) (i : ℕ) (r : DeviceRow) → slice_get old.rows.items i ≡ Some r
    → new.rows.items ≡ set old.rows.items i (record r { state = Offline }) → new.paused ≡ old.paused → new.pool ≡ old.pool → DevicesAgree s P old → DevicesAgree s (entry.Offline r.dev ∷ P) new
keeps_offline s P old new i r at rows paused pool k =
    keeps_set s P (entry.Offline r.dev ∷ P) old new i r Offline at rows paused pool (λ d. refl) (λ q h. h) (λ q h. h) refl
    (tags_alike s P (entry.Offline r.dev ∷ P) old.pool (λ d. refl) (λ u d. refl) k.tags) k

-- time goes on
pub keeps_ticked : (s : HostSpec) (P : List Entry) (old new : Devices) → new.rows.items ≡ map unpaused old.rows.items → new.paused ≡ false → new.pool ≡ old.pool
    → DevicesAgree s P old → DevicesAgree s (entry.Tick ∷ P) new
keeps_ticked s P old new rows paused pool k = record {
  rows_are = rw rows (for_map unpaused (λ r. refl) s.luns old.rows.items k.rows_are);
  apart = k.apart;
  ids = k.ids;
  states = λ j r at. each (StateIs s (entry.Tick ∷ P)) (λ q n get. k.states n q get) j r (rw rows at at);
  pauses = λ j r at. each (PauseIs s (entry.Tick ∷ P)) (λ q n get. refl) j r (rw rows at at);
  depths_are = λ j r at. rw pool (each (DepthIs s (entry.Tick ∷ P) old.pool) (λ q n get. k.depths_are n q get) j r (rw rows at at));
  host = sym paused;
  tags = rw pool (tags_alike s P (entry.Tick ∷ P) old.pool (λ d. refl) (λ u d. refl) k.tags);
}
  where
    found : (xs : List DeviceRow) (j : ℕ) (r : DeviceRow) → slice_get (map unpaused xs) j ≡ Some r → (q : DeviceRow) × (slice_get xs j ≡ Some q) × (unpaused q ≡ r)
    found [] j r at = absurd (none-some r at)
    found (x ∷ xs) zero r at = (x, refl, same_Some (unpaused x) r at)
    found (x ∷ xs) (suc j) r at = found xs j r at

    each : (A : DeviceRow → Type 0) → ((q : DeviceRow) (n : ℕ) → slice_get old.rows.items n ≡ Some q → A (unpaused q)) → (j : ℕ) (r : DeviceRow) → slice_get (map unpaused old.rows.items) j ≡ Some r → A r
    each A all j r at = let was = found old.rows.items j r at in subst A was.2 (all was.0 j was.1)
