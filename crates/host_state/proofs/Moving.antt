-- What attempts come to, and what is said of them together with their commands.
use Rattle.std.proofs.Common.{◌≡◌, ◌∙◌, sym, ap, subst, refl, ℕ, ◌≤◌, ◌==◌, Bool, true, false, List, [], ◌∷◌, Some, arith, inl, inr}
use Rattle.std.proofs.lemmas.Bool.{cases_Bool, false≢true, eqb-true, leb-true, lt-ltb}
use Rattle.std.proofs.lemmas.Option.{same_Some}
use Rattle.std.specs.Prelude.{◌&&◌, ◌||◌, nat_le, nat_lt}
use Rattle.std.specs.List.{list_all}
use Rattle.mid_base.specs.declared.host_spec.CmdSpec.{CmdSpec}
use Rattle.mid_base.specs.declared.host_spec.LunSpec.{LunSpec}
use Rattle.mid_base.specs.Address.{has_dev}
use Rattle.mid_base.specs.Limits.{is_between, is_address, is_lun, is_command, has_block}
use Rattle.mid_base.specs.declared.entries.Entry.{Entry}
use Rattle.mid_base.specs.declared.host_spec.HostSpec.{HostSpec}
use Rattle.attempt_table.specs.declared.rows.Row.{Row}
use Rattle.attempt_table.specs.Rows.{row_of, live_in, Becomes}
use Rattle.attempt_table.proofs.Bools.{same}
use Rattle.attempt_table.proofs.Places.{row_here, row_other}
use Rattle.trace_model.specs.declared.standing.Standing.TheVariants.{Busy}
use Rattle.trace_model.specs.Commands.{standing}
use Rattle.failure_table.specs.FailuresAgree.{is_out}
use Rattle.host_state.specs.HostAgrees.{AreUnderWay}
use Rattle.host_state.proofs.Kept.{IsOfSame}

-- what is under way stays so where an attempt goes on
pub moves_under_way : (P : List Entry) (n : ℕ) (f : Row → Row) (old new : List Row) → (h : Becomes n f old new) → IsOfSame h.row (f h.row)
    → live_in (Some h.row) ≡ true → AreUnderWay P old → AreUnderWay P new
moves_under_way P n f old new h kept live under k r at lives = elim (cases_Bool (k == n)) as (λ _. (standing r.command.0 P ≡ Busy (record { 0 = k }) r.tag) × (is_out r.command.0 P ≡ true)) [
  | inl is ↦
      let moved : f h.row ≡ r = same_Some (f h.row) r (sym (row_here n f old new h) ∙ ap (λ (j : ℕ). row_of j new) (sym (eqb-true k n is)) ∙ at) in
      rw (sym moved) (rw (eqb-true k n is, kept.0, kept.2) (under n h.row h.was live))
  | inr isnt ↦ under k r (sym (row_other n f old new h k (λ e. false≢true (sym isnt ∙ ap (λ (j : ℕ). j == n) e ∙ same n))) ∙ at) lives
]

pub both_true : (a b : Bool) → a && b ≡ true → (a ≡ true) × (b ≡ true)
both_true true b h = (refl, h)
both_true false b h = absurd (false≢true h)

pub all_weaker : {X : Type 0} (p q : X → Bool) → ((x : X) → p x ≡ true → q x ≡ true) → (xs : List X) → list_all p xs ≡ true → list_all q xs ≡ true
all_weaker p q weaker [] h = refl
all_weaker p q weaker (x ∷ xs) h =
    let both = both_true (p x) (list_all p xs) h in
    ap (λ (b : Bool). b && list_all q xs) (weaker x both.0) ∙ all_weaker p q weaker xs both.1

-- what the limits of a spec say of commands and units
pub housed_in : (luns : List LunSpec) (k : CmdSpec) → is_command luns k ≡ true → has_dev luns k.dev ≡ true
housed_in luns k h = (both_true _ _ (both_true _ _ (both_true _ _ (both_true _ (nat_le k.allowed 20) (both_true _ (has_block k) h).0).0).0).0).0

pub lane_below : (luns : List LunSpec) (k : CmdSpec) → is_command luns k ≡ true → nat_lt k.lane.0 64 ≡ true
lane_below luns k h =
    let within : nat_le k.lane.0 63 ≡ true = (both_true _ _ (both_true _ _ (both_true _ (nat_le k.allowed 20) (both_true _ (has_block k) h).0).0).0).1 in
    let bound : k.lane.0 ≤ 63 = leb-true k.lane.0 63 within in
    lt-ltb k.lane.0 64 (omega (arith, bound))

pub deep : (l : LunSpec) → is_lun l ≡ true → nat_le 1 l.depth ≡ true
deep l h = (both_true (nat_le 1 l.depth) _ (both_true (is_address l.dev && is_between 1 4294967295 l.blocks) _ h).1).0
