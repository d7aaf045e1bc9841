-- What a judged answer changes of the depths, and which device takes one more.
use Rattle.std.proofs.Common.{◌≡◌, ◌∙◌, sym, ap, subst, refl, ℕ, ◌==◌, Bool, true, false, not, ◌&&◌, ◌||◌, cond, List, ◌∷◌, length, Option, Some, inl, inr}
use Rattle.std.specs.Prelude.{slice_get, option_map, unwrap_or, nat_lt}
use Rattle.std.proofs.lemmas.Bool.{cases_Bool, false≢true, eq-eqb, eqb-true}
use Rattle.std.proofs.lemmas.Option.{same_Some}
use Rattle.mid_base.specs.declared.names.CmdId.{CmdId}
use Rattle.mid_base.specs.declared.names.DevAddr.{DevAddr}
use Rattle.mid_base.specs.declared.names.Attempt.{Attempt}
use Rattle.mid_base.specs.declared.answers.Answer.{Answer}
use Rattle.mid_base.specs.declared.answers.Disp.{Disp}
use Rattle.mid_base.specs.declared.states.DeviceState.{DeviceState}
use Rattle.mid_base.specs.declared.entries.Entry.{Entry}
use Rattle.mid_base.specs.declared.entries.Entry.TheVariants as entry
use Rattle.mid_base.specs.declared.host_spec.HostSpec.{HostSpec}
use Rattle.mid_base.specs.Address.{same_dev}
use Rattle.mid_base.specs.Answers.{is_good}
use Rattle.tag_pool.specs.declared.depths.DeviceDepth.{DeviceDepth}
use Rattle.tag_pool.specs.Pool.{Pool}
use Rattle.tag_pool.specs.Tags.{out_of, all_out, has_room}
use Rattle.tag_pool.specs.Depths.{device, depth_in as depth_of, fuller, better, Changes}
use Rattle.device_states.specs.States.{is_online_state, is_running}
use Rattle.trace_model.specs.Names.{depth_in}
use Rattle.trace_model.specs.Attempts.{answer}
use Rattle.trace_model.specs.Devices.{state, is_online}
use Rattle.mid_base.specs.Depths.{Depth, after_full, after_good}
use Rattle.trace_model.specs.Counts.{busy_count, busy_on}
use Rattle.trace_model.specs.Sending.{after_answer, depths, is_ready, depth, host_paused}
use Rattle.device_table.specs.declared.rows.DeviceRow.{DeviceRow}
use Rattle.device_table.specs.declared.devices.Devices.{Devices}
use Rattle.device_table.specs.Rows.{dev_at}
use Rattle.device_table.specs.DevicesAgree.{TagsAre, DepthIs, DevicesAgree, IsOf, takes}
use Rattle.device_table.proofs.Tags.{tags_alike}
use Rattle.device_table.proofs.Places.{same_self, apart_rows}
use Rattle.device_table.proofs.Entries.{dev_is}

-- what is kept of a device at a depth
abbrev pub kept_at : HostSpec → DevAddr → Depth → DeviceDepth
kept_at s d x = record { dev = d; scripted = depth_in s.luns d; depth = x.0; goods = x.1 }

tags_same : (s : HostSpec) (P : List Entry) (old new : Pool) → new.tags ≡ old.tags → TagsAre s P old → TagsAre s P new
tags_same s P old new same tags = record {
  count = ap length same ∙ tags.count;
  holders = rw same tags.holders;
  of_each = λ d. ap (out_of d) same ∙ tags.of_each d;
  all = ap all_out same ∙ tags.all;
}

pub keeps_judged : (s : HostSpec) (P : List Entry) (old new : Devices) (c : CmdId) (i : ℕ) (k : DevicesAgree s P old) (of : IsOf s old c i) (n : Attempt) (d : Disp) (a : Answer) (g : DeviceDepth → DeviceDepth)
    → answer n.0 P ≡ Some a → new.rows.items ≡ old.rows.items → new.paused ≡ old.paused → new.pool.tags ≡ old.pool.tags → Changes of.row.dev g old.pool.devices new.pool.devices
    → g (kept_at s of.row.dev (depths s of.row.dev P)) ≡ kept_at s of.row.dev (after_answer s P of.row.dev (Some a) (depths s of.row.dev P))
    → DevicesAgree s (entry.Judged c n d ∷ P) new
keeps_judged s P old new c i k of n d a g told rows paused tags changes becomes = record {
  rows_are = rw rows k.rows_are;
  apart = k.apart;
  ids = k.ids;
  states = rw rows k.states;
  pauses = rw rows k.pauses;
  depths_are = λ j r at. depths_now j r (rw rows at at);
  host = k.host ∙ sym paused;
  tags = tags_same s (entry.Judged c n d ∷ P) old.pool new.pool tags (tags_alike s P (entry.Judged c n d ∷ P) old.pool (λ e. refl) (λ u e. refl) k.tags);
}
  where
    own : DeviceRow → Bool → Type 0
    own r b = device r.dev new.pool.devices ≡ Some (kept_at s r.dev (cond b (after_answer s P r.dev (answer n.0 P) (depths s r.dev P)) (depths s r.dev P)))

    depths_now : (j : ℕ) (r : DeviceRow) → slice_get old.rows.items j ≡ Some r → DepthIs s (entry.Judged c n d ∷ P) new.pool r
    depths_now j r at = elim (cases_Bool (i == j)) as (λ _. DepthIs s (entry.Judged c n d ∷ P) new.pool r) [
      | inl is ↦
          let same : of.row ≡ r = same_Some of.row r (sym of.row_at ∙ ap (slice_get old.rows.items) (eqb-true i j is) ∙ at) in
          let here : device of.row.dev new.pool.devices ≡ Some (kept_at s of.row.dev (after_answer s P of.row.dev (Some a) (depths s of.row.dev P))) =
          changes of.row.dev ∙ ap (λ (b : Bool). cond b (option_map g (device of.row.dev old.pool.devices)) (device of.row.dev old.pool.devices)) (same_self of.row.dev)
          ∙ ap (option_map g) (k.depths_are i of.row of.row_at) ∙ ap Some becomes
          in
          let mine : device of.row.dev new.pool.devices ≡ Some (kept_at s of.row.dev (depths s of.row.dev (entry.Judged c n d ∷ P))) =
          here ∙ ap (λ (o : Option Answer). Some (kept_at s of.row.dev (after_answer s P of.row.dev o (depths s of.row.dev P)))) (sym told)
          ∙ ap (λ (b : Bool). Some (kept_at s of.row.dev (cond b (after_answer s P of.row.dev (answer n.0 P) (depths s of.row.dev P)) (depths s of.row.dev P))))
          (sym (ap (λ (e : DevAddr). same_dev e of.row.dev) (dev_is s P old c i k of) ∙ same_self of.row.dev))
          in
          subst (DepthIs s (entry.Judged c n d ∷ P) new.pool) same mine
      | inr isnt ↦
          let apart : same_dev of.row.dev r.dev ≡ false = apart_rows s.luns old.rows.items k.rows_are k.apart i j of.row r of.row_at at (λ e. false≢true (sym isnt ∙ eq-eqb i j e)) in
          changes r.dev ∙ ap (λ (b : Bool). cond b (option_map g (device r.dev old.pool.devices)) (device r.dev old.pool.devices)) apart
          ∙ k.depths_are j r at
          ∙ ap (λ (b : Bool). Some (kept_at s r.dev (cond b (after_answer s P r.dev (answer n.0 P) (depths s r.dev P)) (depths s r.dev P))))
          (sym (ap (λ (e : DevAddr). same_dev e r.dev) (dev_is s P old c i k of) ∙ apart))
    ]

-- the pool's room is the rule's
room_is : (s : HostSpec) (P : List Entry) (t : Devices) (i : ℕ) (r : DeviceRow) → DevicesAgree s P t → slice_get t.rows.items i ≡ Some r
    → has_room t.pool.tags r.dev (depth_of r.dev t.pool.devices) ≡ nat_lt (busy_count s P) s.can_queue && nat_lt (busy_on s P r.dev) (depth s P r.dev)
room_is s P t i r k at =
    let deep : depth_of r.dev t.pool.devices ≡ depth s P r.dev = ap (λ (o : Option DeviceDepth). unwrap_or (option_map (λ x. x.depth) o) 0) (k.depths_are i r at) in
    ap (λ (n : ℕ). nat_lt n (length t.pool.tags) && nat_lt (out_of r.dev t.pool.tags) (depth_of r.dev t.pool.devices)) k.tags.all
    ∙ ap (λ (n : ℕ). nat_lt (busy_count s P) n && nat_lt (out_of r.dev t.pool.tags) (depth_of r.dev t.pool.devices)) k.tags.count
    ∙ ap (λ (n : ℕ). nat_lt (busy_count s P) s.can_queue && nat_lt n (depth_of r.dev t.pool.devices)) (k.tags.of_each r.dev)
    ∙ ap (λ (n : ℕ). nat_lt (busy_count s P) s.can_queue && nat_lt (busy_on s P r.dev) n) deep

pub takes_is : (s : HostSpec) (P : List Entry) (t : Devices) (i : ℕ) (r : DeviceRow) → DevicesAgree s P t → slice_get t.rows.items i ≡ Some r → takes t r ≡ is_ready s P r.dev
takes_is s P t i r k at =
    ap (λ (b : Bool). is_running r.state && not t.paused && not r.paused && b) (room_is s P t i r k at)
    ∙ five (is_running r.state) (not t.paused) (not r.paused) (nat_lt (busy_count s P) s.can_queue) (nat_lt (busy_on s P r.dev) (depth s P r.dev))
    ∙ ap (λ (x : DeviceState). is_running x && not t.paused && not r.paused && nat_lt (busy_count s P) s.can_queue && nat_lt (busy_on s P r.dev) (depth s P r.dev)) (sym (k.states i r at))
    ∙ ap (λ (b : Bool). is_running (state s r.dev P) && not b && not r.paused && nat_lt (busy_count s P) s.can_queue && nat_lt (busy_on s P r.dev) (depth s P r.dev)) (sym k.host)
    ∙ ap (λ (b : Bool). is_running (state s r.dev P) && not (host_paused P) && not b && nat_lt (busy_count s P) s.can_queue && nat_lt (busy_on s P r.dev) (depth s P r.dev)) (sym (k.pauses i r at))
  where
    five : (a b c d e : Bool) → a && b && c && (d && e) ≡ a && b && c && d && e
    five true true true d e = refl
    five true true false d e = refl
    five true false c d e = refl
    five false b c d e = refl

pub goes_is : (s : HostSpec) (P : List Entry) (t : Devices) (i : ℕ) (d : DevAddr) (r : DeviceRow) → DevicesAgree s P t → slice_get t.rows.items i ≡ Some r → dev_at i t.rows.items ≡ Some d
    → not (is_online_state r.state) || takes t r ≡ not (is_online s d P) || is_ready s P d
goes_is s P t i d r k at dev =
    let same : r.dev ≡ d = same_Some r.dev d (sym (ap (option_map (λ (x : DeviceRow). x.dev)) at) ∙ dev) in
    ap (λ (b : Bool). not (is_online_state r.state) || b) (takes_is s P t i r k at)
    ∙ ap (λ (x : DeviceState). not (is_online_state x) || is_ready s P r.dev) (sym (k.states i r at))
    ∙ ap (λ (e : DevAddr). not (is_online s e P) || is_ready s P e) same

pub full_becomes : (s : HostSpec) (P : List Entry) (d : DevAddr) (out : ℕ) (a : Answer) (x : Depth) → out ≡ busy_on s P d → a.host.0 ≡ 0 → a.status ≡ 40
    → fuller out (kept_at s d x) ≡ kept_at s d (after_answer s P d (Some a) x)
full_becomes s P d out a x same host status =
    let both : (a.host.0 == 0) && (a.status == 40) ≡ true = rw (eq-eqb a.host.0 0 host, eq-eqb a.status 40 status) refl in
    ap (λ (n : ℕ). kept_at s d (after_full n x)) same
    ∙ ap (λ (b : Bool). kept_at s d (cond b (after_full (busy_on s P d) x) (cond (is_good a) (after_good (depth_in s.luns d) x) x))) (sym both)

pub good_becomes : (s : HostSpec) (P : List Entry) (d : DevAddr) (a : Answer) (x : Depth) → a.host.0 ≡ 0 → a.status ≡ 0
    → better (kept_at s d x) ≡ kept_at s d (after_answer s P d (Some a) x)
good_becomes s P d a x host status =
    let isnt : (a.host.0 == 0) && (a.status == 40) ≡ false = rw (host, status) refl in
    let good : is_good a ≡ true = rw (eq-eqb a.host.0 0 host, eq-eqb a.status 0 status) refl in
    ap (λ (b : Bool). kept_at s d (cond b (after_good (depth_in s.luns d) x) x)) (sym good)
    ∙ ap (λ (b : Bool). kept_at s d (cond b (after_full (busy_on s P d) x) (cond (is_good a) (after_good (depth_in s.luns d) x) x))) (sym isnt)
