-- What the entries of recovery leave as it is.
use Rattle.std.proofs.Common.{◌≡◌, ◌∙◌, sym, ap, subst, refl, ℕ, ◌<◌, ◌==◌, Bool, true, false, not, ◌&&◌, ◌||◌, List, [], ◌∷◌, length, Option, None, Some, inl, inr}
use Rattle.std.specs.Prelude.{cond, is_some, slice_get}
use Rattle.std.specs.List.{All}
use Rattle.std.proofs.lemmas.Bool.{cases_Bool, false≢true, eq-eqb, eqb-true, ne_eqb, and_parts, or_cases}
use Rattle.std.proofs.lemmas.List.Elements.{All-head, All-tail}
use Rattle.mid_base.specs.declared.answers.Answer.{Answer}
use Rattle.mid_base.specs.declared.answers.By.{By}
use Rattle.mid_base.specs.declared.answers.Disp.{Disp}
use Rattle.mid_base.specs.declared.entries.Entry.{Entry}
use Rattle.mid_base.specs.declared.entries.Entry.TheVariants.{Judged}
use Rattle.mid_base.specs.declared.host_spec.HostSpec.{HostSpec}
use Rattle.mid_base.specs.declared.names.Attempt.{Attempt}
use Rattle.mid_base.specs.declared.names.CmdId.{CmdId}
use Rattle.mid_base.specs.declared.names.DevAddr.{DevAddr}
use Rattle.mid_base.specs.Address.{same_dev}
use Rattle.mid_base.specs.Answers.{is_good}
use Rattle.mid_base.specs.Codes.{did_ok, task_set_full}
use Rattle.mid_base.specs.Depths.{Depth}
use Rattle.trace_model.specs.Attempts.{answer, is_open, is_settled}
use Rattle.trace_model.specs.Commands.{standing, is_busy, is_failed}
use Rattle.trace_model.specs.Names.{dev_of, depth_in}
use Rattle.trace_model.specs.Recovery.{Failure, failed}
use Rattle.trace_model.specs.Sending.{after_answer, depths}
use Rattle.attempt_table.specs.declared.rows.Row.{Row}
use Rattle.attempt_table.specs.Rows.{row_of, open_in, settled_in, owner_in, live_in}
use Rattle.device_table.specs.declared.rows.DeviceRow.{DeviceRow}
use Rattle.device_table.specs.declared.devices.Devices.{Devices}
use Rattle.device_table.specs.DevicesAgree.{DevicesAgree, DepthIs}
use Rattle.failure_table.specs.declared.failures.Failures.{Failures}
use Rattle.failure_table.specs.FailuresAgree.{FailuresAgree, CanEnd, is_aborting, is_out, failures_of, once_if}
use Rattle.failure_table.proofs.Entries.{out_parts}
use Rattle.failure_table.proofs.Lists.{queued_is}
use Rattle.verdict_table.specs.Taken.{has_failed, moves_no_depth}
use Rattle.verdict_table.specs.VerdictsAgree.{IsShut}
use Rattle.host_state.specs.declared.running.Running.{Running}
use Rattle.host_state.specs.HostAgrees.{HostAgrees, AreUnderWay}

-- a failed command isn't to be aborted
pub failed_unaborted : (s : HostSpec) (P : List Entry) (t : Failures) → FailuresAgree s P t → (c : ℕ) → is_failed c P ≡ true → is_aborting c P ≡ false
failed_unaborted s P t run c gone = elim (cases_Bool (is_aborting c P)) as (λ _. is_aborting c P ≡ false) [
  | inl is ↦ absurd (false≢true (sym (run.says.waiting_are c is).1 ∙ gone))
  | inr isnt ↦ isnt
]

-- a failed command is on the list, so that it can end
pub failed_can_end : (s : HostSpec) (P : List Entry) (t : Failures) → FailuresAgree s P t → (c : CmdId) → is_failed c.0 P ≡ true → CanEnd c t
failed_can_end s P t run c gone unlisted = absurd (false≢true (sym unlisted ∙ queued_is c t.queue.failed true (run.says.listed c.0 ∙ ap once_if gone)))

-- what is under way, where a failed command comes to stand elsewhere
pub failed_under_way : (P Q : List Entry) (rows : List Row) (c : CmdId) → is_failed c.0 P ≡ true → ((d : ℕ) → (c.0 == d) ≡ false → (standing d Q ≡ standing d P) × (is_out d Q ≡ is_out d P))
    → AreUnderWay P rows → AreUnderWay Q rows
failed_under_way P Q rows c gone elsewhere under k x at lives =
    let before = under k x at lives in
    let apart : (c.0 == x.command.0) ≡ false =
    ne_eqb c.0 x.command.0 (λ e. false≢true (sym (out_parts x.command.0 P before.1).1 ∙ ap (λ (d : ℕ). is_failed d P) (sym e) ∙ gone))
    in
    let there = elsewhere x.command.0 apart in
    (there.0 ∙ before.0, there.1 ∙ before.1)

-- an attempt that failed is open no longer, and is settled
pub shut_of : (P : List Entry) (c n : ℕ) (fs : List Failure) → All (IsShut P) fs → has_failed c n fs ≡ true → (is_open n P ≡ false) × (is_settled n P ≡ true)
shut_of P c n [] all has = cc has
shut_of P c n (f ∷ fs) all has = elim (or_cases ((f.cmd.0 == c) && (f.attempt.0 == n)) (has_failed c n fs) has) as (λ _. (is_open n P ≡ false) × (is_settled n P ≡ true)) [
  | inl here ↦
      let e : f.attempt.0 ≡ n = eqb-true f.attempt.0 n (and_parts (f.cmd.0 == c) (f.attempt.0 == n) here).1 in
      let it = All-head (IsShut P) f fs all in
      (subst (λ (m : ℕ). is_open m P ≡ false) e it.1, subst (λ (m : ℕ). is_settled m P ≡ true) e it.2)
  | inr later ↦ shut_of P c n fs (All-tail (IsShut P) f fs all) later
]

-- its row says so
pub failed_row : (s : HostSpec) (P : List Entry) (r : Running) → HostAgrees s P r → (c n : ℕ) → has_failed c n (failed P) ≡ true
    → (live_in (row_of n r.attempts.rows.items) ≡ false) × (settled_in (row_of n r.attempts.rows.items) ≡ true)
failed_row s P r runs c n has =
    let shut = shut_of P c n (failed P) runs.verdicts.shut has in
    let reads = runs.attempts.0.rows n in
    let row = row_of n r.attempts.rows.items in
    let closed : open_in row ≡ false = sym reads.1 ∙ shut.0 in
    let ended : settled_in row ≡ true = sym reads.5 ∙ shut.1 in
    (dead (open_in row) (settled_in row) (is_some (owner_in row)) closed ended, ended)
  where
    dead : (o e w : Bool) → o ≡ false → e ≡ true → o || (not o && not e && w) ≡ false
    dead true e w a b = absurd (false≢true (sym a))
    dead false false w a b = absurd (false≢true b)
    dead false true w a b = refl

-- an answer that moves no depth
after_still : (s : HostSpec) (P : List Entry) (d : DevAddr) (o : Option Answer) (x : Depth) → moves_no_depth o ≡ true → after_answer s P d o x ≡ x
after_still s P d None x still = refl
after_still s P d (Some a) x still = by ((a.host.0 == did_ok) && (a.status == task_set_full)) (is_good a) _ _ still
  where
    by : (full good : Bool) (y z : Depth) → not full && not good ≡ true → cond full y (cond good z x) ≡ x
    by false false y z h = refl
    by true good y z h = cc h
    by false true y z h = cc h

pub devices_judged : (s : HostSpec) (P : List Entry) (t : Devices) (c : CmdId) (n : Attempt) (d : Disp) → moves_no_depth (answer n.0 P) ≡ true → DevicesAgree s P t → DevicesAgree s (Judged c n d ∷ P) t
devices_judged s P t c n d still k = record {
  rows_are = k.rows_are;
  apart = k.apart;
  ids = k.ids;
  states = k.states;
  pauses = k.pauses;
  depths_are = λ i r at. k.depths_are i r at ∙ ap (λ (x : Depth). Some (record { dev = r.dev; scripted = depth_in s.luns r.dev; depth = x.0; goods = x.1 })) (sym (same r.dev));
  host = k.host;
  tags = record { count = k.tags.count; holders = k.tags.holders; of_each = k.tags.of_each; all = k.tags.all };
}
  where
    by : (b : Bool) (x y : Depth) → x ≡ y → cond b x y ≡ y
    by true x y e = e
    by false x y e = refl

    same : (e : DevAddr) → depths s e (Judged c n d ∷ P) ≡ depths s e P
    same e = by (same_dev (dev_of s c.0) e) (after_answer s P e (answer n.0 P) (depths s e P)) (depths s e P) (after_still s P e (answer n.0 P) (depths s e P) still)
