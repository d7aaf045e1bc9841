-- What is said of the verdicts on failed commands where one fails, is judged, or is told before it was sent.
use Rattle.std.proofs.Common.{◌≡◌, ◌∙◌, sym, ap, subst, refl, ℕ, ◌<◌, ◌≤◌, Bool, true, false, not, ◌&&◌, List, [], ◌∷◌, map, length, Option, None, Some, arith}
use Rattle.std.specs.Prelude.{is_some, cond, ◌==◌}
use Rattle.std.specs.List.{All}
use Rattle.std.proofs.lemmas.Bool.{false≢true, eq-eqb}
use Rattle.std.proofs.lemmas.List.{length-map}
use Rattle.std.proofs.lemmas.Option.{none-some}
use Rattle.mid_base.specs.declared.answers.Answer.{Answer}
use Rattle.mid_base.specs.declared.answers.By.{By}
use Rattle.mid_base.specs.declared.answers.Disp.{Disp}
use Rattle.mid_base.specs.declared.answers.Disp.TheVariants.{Fail}
use Rattle.mid_base.specs.declared.entries.Entry.{Entry}
use Rattle.mid_base.specs.declared.entries.Entry.TheVariants.{Judged, Aborted, Told}
use Rattle.mid_base.specs.declared.host_spec.HostSpec.{HostSpec}
use Rattle.mid_base.specs.declared.names.Attempt.{Attempt}
use Rattle.mid_base.specs.declared.names.CmdId.{CmdId}
use Rattle.mid_base.specs.Past.{was_sent}
use Rattle.trace_model.specs.Attempts.{is_open, is_settled, answer}
use Rattle.trace_model.specs.Commands.{standing, is_busy}
use Rattle.trace_model.specs.Flush.{was_success}
use Rattle.trace_model.specs.Commands.{judgement}
use Rattle.trace_model.specs.Recovery.{Failure, failed}
use Rattle.attempt_table.specs.declared.rows.Row.{Row}
use Rattle.attempt_table.specs.Rows.{row_of, open_in, settled_in, owner_in}
use Rattle.eh_queue.specs.Failures.{Failure as Queued}
use Rattle.failure_table.specs.FailuresAgree.{FailuresAgree, CanFail, failure_of}
use Rattle.verdict_table.specs.declared.verdicts.FailedRow.{FailedRow}
use Rattle.verdict_table.specs.declared.verdicts.Verdicts.{Verdicts}
use Rattle.verdict_table.specs.VerdictsAgree.{VerdictsAgree, FailsWith, HasRoom, IsShut, row_of as verdict_of}
use Rattle.verdict_table.proofs.Agree.{verdicts_judged}
use Rattle.host_state.specs.declared.running.Running.{Running}
use Rattle.host_state.specs.HostAgrees.{HostAgrees, IsOwnedBy}
use Rattle.host_state.proofs.Failing.{idle_told}

-- an attempt that belongs to an owner was sent, is open no longer, and isn't settled
pub record IsOwnedNow (P : List Entry) (n : ℕ) : Type 0 where
  pub sent : was_sent n P ≡ true
  pub shut : is_open n P ≡ false
  pub unsettled : is_settled n P ≡ false

pub owned_now : (s : HostSpec) (P : List Entry) (r : Running) → HostAgrees s P r → (n : Attempt) (row : Row) (by : By) → IsOwnedBy r n row by → IsOwnedNow P n.0
owned_now s P r runs n row by is = let reads = runs.attempts.0.rows n.0 in record {
  sent = reads.0 ∙ ap (λ (x : Option Row). is_some x) is.at;
  shut = reads.1 ∙ ap open_in is.at ∙ no_more row.out row.settled row.owner is.owned;
  unsettled = reads.5 ∙ ap settled_in is.at ∙ not_yet row.out row.settled row.owner is.owned;
}
  where
    no_more : (o e : Bool) (w : Option By) → not o && not e && is_some w ≡ true → o ≡ false
    no_more false e w owned = refl
    no_more true e w owned = cc owned

    not_yet : (o e : Bool) (w : Option By) → not o && not e && is_some w ≡ true → e ≡ false
    not_yet o false w owned = refl
    not_yet true true w owned = cc owned
    not_yet false true w owned = cc owned

-- one that its expired timer owns is given up
pub fails_cancelled : (s : HostSpec) (P : List Entry) (r : Running) → HostAgrees s P r → (n : Attempt) (row : Row) (by : By) → IsOwnedBy r n row by → FailsWith P n.0 true None
fails_cancelled s P r runs n row by is =
    let now = owned_now s P r runs n row by is in
    record { sent = now.sent; shut = now.shut; answer = refl; verdict = refl }

-- one whose abort failed is given up
pub fails_aborted : (s : HostSpec) (P : List Entry) (r : Running) → HostAgrees s P r → (n : Attempt) (row : Row) → row_of n.0 r.attempts.rows.items ≡ Some row → is_some row.owner ≡ true
    → FailsWith (Aborted row.command n false ∷ P) n.0 true None
fails_aborted s P r runs n row at owned = let reads = runs.attempts.0.rows n.0 in record {
  sent = reads.0 ∙ ap (λ (x : Option Row). is_some x) at;
  shut = reads.1 ∙ ap open_in at ∙ closed row.out (λ o. sym (ap owner_in at) ∙ (runs.attempts.0.sound n.0).1 (ap open_in at ∙ o));
  answer = refl;
  verdict = refl;
}
  where
    closed : (o : Bool) → (o ≡ true → row.owner ≡ None) → o ≡ false
    closed false h = refl
    closed true h = absurd (false≢true (sym (ap (λ (w : Option By). is_some w) (h refl)) ∙ owned))

-- the answer that owns an attempt is judged
pub judged_first : (s : HostSpec) (P : List Entry) (r : Running) → HostAgrees s P r → (n : Attempt) (row : Row) (by : By) (d : Disp) → IsOwnedBy r n row by
    → VerdictsAgree s (Judged row.command n d ∷ P) r.verdicts
judged_first s P r runs n row by d is = verdicts_judged s P r.verdicts row.command n d (owned_now s P r runs n row by is).unsettled runs.verdicts

-- and its command fails with it
pub fails_judged : (s : HostSpec) (P : List Entry) (r : Running) → HostAgrees s P r → (n : Attempt) (row : Row) (by : By) (a : Answer) → IsOwnedBy r n row by → answer n.0 P ≡ Some a
    → FailsWith (Judged row.command n Fail ∷ P) n.0 false (Some a)
fails_judged s P r runs n row by a is told =
    let now = owned_now s P r runs n row by is in
    record { sent = now.sent; shut = now.shut; answer = sym told; verdict = by_number (n.0 == n.0) (eq-eqb n.0 n.0 refl) }
  where
    by_number : (b : Bool) → b ≡ true → was_success (cond b (Some Fail) (judgement n.0 P)) ≡ false
    by_number true e = refl
    by_number false e = absurd (false≢true e)

-- a command that isn't busy is reported
pub idle_verdicts : (s : HostSpec) (P : List Entry) (r : Running) (c : CmdId) (a : Answer) → is_busy (standing c.0 P) ≡ false → HostAgrees s P r → VerdictsAgree s (Told c a ∷ P) r.verdicts
idle_verdicts s P r c a idle runs =
    let now = (idle_told s P r.failures c a idle runs.failures).says.failures in
    let same : failed P ≡ failed (Told c a ∷ P) = runs.failures.says.failures ∙ sym now in
    record {
      rows = runs.verdicts.rows ∙ ap (λ (fs : List Failure). map (verdict_of P) fs) same;
      shut = subst (λ (fs : List Failure). All (IsShut P) fs) same runs.verdicts.shut;
      most = runs.verdicts.most;
    }

-- there is room for the verdict on a command that can fail
pub verdict_room : (s : HostSpec) (P : List Entry) (r : Running) → HostAgrees s P r → (c : CmdId) → CanFail c r.failures → HasRoom r.verdicts
verdict_room s P r runs c can =
    let count : length r.verdicts.rows.items ≡ length r.failures.queue.failed =
    ap (λ (rows : List FailedRow). length rows) runs.verdicts.rows ∙ length-map (failed P) (verdict_of P)
    ∙ ap (λ (fs : List Failure). length fs) runs.failures.says.failures ∙ length-map r.failures.queue.failed failure_of
    in
    omega (arith, count, can.1, runs.failures.few, runs.verdicts.most)
