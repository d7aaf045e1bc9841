-- What is known of the abort that was scheduled first, and of what is left once it was tried.
use Rattle.std.proofs.Common.{◌≡◌, ◌∙◌, sym, ap, subst, refl, ℕ, ◌==◌, Bool, true, false, not, ◌&&◌, ◌||◌, List, [], ◌∷◌, Option, None, Some, inl, inr}
use Rattle.std.specs.Prelude.{slice_get, is_some}
use Rattle.std.proofs.lemmas.Bool.{cases_Bool, false≢true, ne_eqb}
use Rattle.std.proofs.lemmas.Option.{same_Some, none-some}
use Rattle.mid_base.specs.declared.answers.By.{By}
use Rattle.mid_base.specs.declared.entries.Entry.{Entry}
use Rattle.mid_base.specs.declared.entries.Entry.TheVariants.{Aborted}
use Rattle.mid_base.specs.declared.host_spec.HostSpec.{HostSpec}
use Rattle.mid_base.specs.declared.names.Attempt.{Attempt}
use Rattle.mid_base.specs.declared.names.CmdId.{CmdId}
use Rattle.trace_model.specs.declared.standing.Standing.TheVariants.{Busy}
use Rattle.trace_model.specs.Commands.{standing}
use Rattle.attempt_table.specs.declared.rows.Row.{Row}
use Rattle.attempt_table.specs.Rows.{row_of, live_in}
use Rattle.failure_table.specs.FailuresAgree.{Abort, is_aborting, is_out, aborts_of}
use Rattle.failure_table.proofs.Entries.{out_parts, first_alone, moved, tried_is_out}
use Rattle.failure_table.proofs.Lists.{same, aborts_cons}
use Rattle.host_state.specs.declared.running.Running.{Running}
use Rattle.host_state.specs.HostAgrees.{HostAgrees, AreUnderWay, IsAborting, AreAborting}
use Rattle.host_state.proofs.Settled.{Holds, holds_of}

-- the abort that was scheduled first
first_of : (P : List Entry) (rows : List Row) (xs : List Abort) (x : Abort) → slice_get xs 0 ≡ Some x → AreAborting P rows xs → IsAborting P rows x
first_of P rows [] x at all = absurd (none-some x at)
first_of P rows (y ∷ xs) x at all = subst (λ (z : Abort). IsAborting P rows z) (same_Some y x at) all.0

pub aborting_first : (s : HostSpec) (P : List Entry) (r : Running) → HostAgrees s P r → (x : Abort) → slice_get r.failures.work.waiting 0 ≡ Some x → IsAborting P r.attempts.rows.items x
aborting_first s P r runs x first = first_of P r.attempts.rows.items r.failures.work.waiting x first runs.aborting

pub first_busy : (s : HostSpec) (P : List Entry) (r : Running) → HostAgrees s P r → (n : Attempt) (row : Row) → slice_get r.failures.work.waiting 0 ≡ Some (row.command, n)
    → row_of n.0 r.attempts.rows.items ≡ Some row → (is_some row.owner ≡ true) × (standing row.command.0 P ≡ Busy n row.tag)
first_busy s P r runs n row first at =
    let it = aborting_first s P r runs (row.command, n) first in
    let is : it.row ≡ row = same_Some it.row row (sym it.at ∙ at) in
    (ap (λ (x : Row). is_some x.owner) (sym is) ∙ it.owned, it.busy ∙ ap (λ (x : Row). Busy n x.tag) is)

pub first_holds : (s : HostSpec) (P : List Entry) (r : Running) → HostAgrees s P r → (n : Attempt) (row : Row) → slice_get r.failures.work.waiting 0 ≡ Some (row.command, n)
    → row_of n.0 r.attempts.rows.items ≡ Some row → Holds s P r n row
first_holds s P r runs n row first at = holds_of s P r runs n row at (first_busy s P r runs n row first at).1

-- an attempt that came to an owner and isn't under way is settled
settled_by : (x : Row) → live_in (Some x) ≡ false → is_some x.owner ≡ true → x.settled ≡ true
settled_by x dead has = by_fields x.out x.settled x.owner dead has
  where
    by_fields : (o e : Bool) (w : Option By) → o || (not o && not e && is_some w) ≡ false → is_some w ≡ true → e ≡ true
    by_fields true e w dead has = cc
    by_fields false true w dead has = refl
    by_fields false false w dead has = absurd (false≢true (sym dead ∙ has))

-- where the abort that was scheduled first was tried, and these are left
pub record Tried (s : HostSpec) (P : List Entry) (r : Running) (n : Attempt) (row : Row) (ok : Bool) (rest : List Abort) : Type 0 where
  pub holds : Holds s P r n row
  pub scheduled : is_aborting row.command.0 P ≡ true
  pub alone : aborts_of row.command.0 rest ≡ 0
  pub out : is_out row.command.0 (Aborted row.command n ok ∷ P) ≡ true
  pub others : AreAborting P r.attempts.rows.items rest
  pub settled : row.settled ≡ true

pub tried_of : (s : HostSpec) (P : List Entry) (r : Running) → HostAgrees s P r → (n : Attempt) (row : Row) (ok : Bool) (rest : List Abort) → r.failures.work.waiting ≡ (row.command, n) ∷ rest
    → row_of n.0 r.attempts.rows.items ≡ Some row → Tried s P r n row ok rest
tried_of s P r runs n row ok rest waiting at =
    let c = row.command.0 in
    let first : slice_get r.failures.work.waiting 0 ≡ Some (row.command, n) = ap (λ (xs : List Abort). slice_get xs 0) waiting in
    let its = first_busy s P r runs n row first at in
    let says = runs.failures.says in
    let one = first_alone (aborts_of c ((row.command, n) ∷ rest)) (aborts_of c rest) (c == c) (is_aborting c P) (aborts_cons c (row.command, n) rest) (same c) (ap (aborts_of c) (sym waiting) ∙ says.waits c) in
    let all : AreAborting P r.attempts.rows.items ((row.command, n) ∷ rest) = subst (λ (xs : List Abort). AreAborting P r.attempts.rows.items xs) waiting runs.aborting in
    record {
      holds = holds_of s P r runs n row at its.1;
      scheduled = one.0;
      alone = one.1;
      out =
          (tried_is_out s P r.failures.queue.failed r.failures.queue.busy row.command n rest
          (moved s P r.failures.queue.failed r.failures.queue.failed r.failures.queue.busy r.failures.queue.busy r.failures.work.waiting ((row.command, n) ∷ rest) says refl refl (sym waiting)) ok).1;
      others = all.1;
      settled = settled_by row (dead (live_in (Some row)) refl one.0) its.0;
    }
  where
    dead : (b : Bool) → live_in (Some row) ≡ b → is_aborting row.command.0 P ≡ true → live_in (Some row) ≡ false
    dead true is scheduled = absurd (false≢true (sym (out_parts row.command.0 P (runs.under_way n.0 row at is).1).2 ∙ scheduled))
    dead false is scheduled = is

-- what is under way, where a command that was to be aborted comes to stand elsewhere
pub aborted_under_way : (P Q : List Entry) (rows : List Row) (c : CmdId) → is_aborting c.0 P ≡ true → ((d : ℕ) → (c.0 == d) ≡ false → (standing d Q ≡ standing d P) × (is_out d Q ≡ is_out d P))
    → AreUnderWay P rows → AreUnderWay Q rows
aborted_under_way P Q rows c scheduled elsewhere under k x at lives =
    let before = under k x at lives in
    let apart : (c.0 == x.command.0) ≡ false =
    ne_eqb c.0 x.command.0 (λ e. false≢true (sym (out_parts x.command.0 P before.1).2 ∙ ap (λ (d : ℕ). is_aborting d P) (sym e) ∙ scheduled))
    in
    let there = elsewhere x.command.0 apart in
    (there.0 ∙ before.0, there.1 ∙ before.1)
