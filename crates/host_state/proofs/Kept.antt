-- Attempts stay with their commands where one row changes or one is added, and so do scheduled aborts.
use Rattle.std.proofs.Common.{◌≡◌, ◌∙◌, sym, ap, subst, refl, ℕ, ◌+◌, ◌==◌, Bool, true, false, cond, List, [], ◌∷◌, ◌++◌, length, Some, arith, inl, inr}
use Rattle.std.specs.Prelude.{is_some}
use Rattle.std.proofs.lemmas.Bool.{cases_Bool, false≢true, eq-eqb, eqb-true, ne_eqb}
use Rattle.std.proofs.lemmas.Option.{same_Some, none-some}
use Rattle.mid_base.specs.declared.entries.Entry.{Entry}
use Rattle.trace_model.specs.declared.standing.Standing.{Standing}
use Rattle.trace_model.specs.declared.standing.Standing.TheVariants.{Busy}
use Rattle.trace_model.specs.Commands.{standing}
use Rattle.attempt_table.specs.declared.rows.Row.{Row}
use Rattle.attempt_table.specs.Rows.{row_of, Becomes}
use Rattle.attempt_table.proofs.Places.{row_here, row_other, row_new, row_last, row_front}
use Rattle.command_table.specs.declared.rows.CommandRow.{CommandRow}
use Rattle.command_table.specs.Rows.{id_at}
use Rattle.failure_table.specs.FailuresAgree.{Abort, aborts_of, once_if}
use Rattle.failure_table.proofs.Lists.{aborts_cons}
use Rattle.host_state.specs.HostAgrees.{ArePlaced, IsAborting, AreAborting}

-- the row is of the same command, place and tag, and has an owner where it had one
abbrev pub IsOfSame : Row → Row → Type 0
IsOfSame old new = (new.command ≡ old.command) × (new.place ≡ old.place) × (new.tag ≡ old.tag) × (is_some old.owner ≡ true → is_some new.owner ≡ true)

-- attempt n has a row, of the command and tag of x, and with an owner where x has one
pub record IsKept (rows : List Row) (n : ℕ) (x : Row) : Type 0 where
  pub row : Row
  pub at : row_of n rows ≡ Some row
  pub command : row.command ≡ x.command
  pub tag : row.tag ≡ x.tag
  pub owned : is_some x.owner ≡ true → is_some row.owner ≡ true

abbrev pub AreKept : List Row → List Row → Type 0
AreKept old new = (n : ℕ) (x : Row) → row_of n old ≡ Some x → IsKept new n x

pub kept_moved : (n : ℕ) (f : Row → Row) (old new : List Row) (h : Becomes n f old new) → IsOfSame h.row (f h.row) → AreKept old new
kept_moved n f old new h alike k x at = elim (cases_Bool (k == n)) as (λ _. IsKept new k x) [
  | inl is ↦
      let e : k ≡ n = eqb-true k n is in
      let was : h.row ≡ x = same_Some h.row x (sym h.was ∙ ap (λ (j : ℕ). row_of j old) (sym e) ∙ at) in
      record {
        row = f h.row;
        at = ap (λ (j : ℕ). row_of j new) e ∙ row_here n f old new h;
        command = alike.0 ∙ ap (λ (z : Row). z.command) was;
        tag = alike.2 ∙ ap (λ (z : Row). z.tag) was;
        owned = λ has. alike.3 (ap (λ (z : Row). is_some z.owner) was ∙ has);
      }
  | inr isnt ↦ record { row = x; at = row_other n f old new h k (λ e. false≢true (sym isnt ∙ eq-eqb k n e)) ∙ at; command = refl; tag = refl; owned = λ has. has }
]

pub kept_pushed : (rows : List Row) (row : Row) (new : List Row) → new ≡ rows ++ row ∷ [] → AreKept rows new
kept_pushed rows row new is k x at = record {
  row = x;
  at = ap (row_of k) is ∙ row_front rows row k (λ e. none-some x (sym (row_new rows k e) ∙ at)) ∙ at;
  command = refl;
  tag = refl;
  owned = λ has. has;
}

pub kept_same : (old new : List Row) → new ≡ old → AreKept old new
kept_same old new is k x at = record { row = x; at = ap (row_of k) is ∙ at; command = refl; tag = refl; owned = λ has. has }

pub kept_then : (old mid new : List Row) → AreKept old mid → AreKept mid new → AreKept old new
kept_then old mid new first then k x at =
    let one = first k x at in
    let two = then k one.row one.at in
    record { row = two.row; at = two.at; command = two.command ∙ one.command; tag = two.tag ∙ one.tag; owned = λ has. two.owned (one.owned has) }

-- the places of commands
pub placed_moved : (n : ℕ) (f : Row → Row) (old new : List Row) (commands : List CommandRow) → (h : Becomes n f old new) → IsOfSame h.row (f h.row) → ArePlaced old commands → ArePlaced new commands
placed_moved n f old new commands h alike placed k y at = elim (cases_Bool (k == n)) as (λ _. id_at y.place commands ≡ Some y.command) [
  | inl is ↦
      let now : f h.row ≡ y = same_Some (f h.row) y (sym (row_here n f old new h) ∙ ap (λ (j : ℕ). row_of j new) (sym (eqb-true k n is)) ∙ at) in
      ap (λ (z : Row). id_at z.place commands) (sym now) ∙ ap (λ (i : ℕ). id_at i commands) alike.1 ∙ placed n h.row h.was
      ∙ ap Some (sym alike.0) ∙ ap (λ (z : Row). Some z.command) now
  | inr isnt ↦ placed k y (sym (row_other n f old new h k (λ e. false≢true (sym isnt ∙ eq-eqb k n e))) ∙ at)
]

pub placed_at : (rows : List Row) (old new : List CommandRow) → ((i : ℕ) → id_at i new ≡ id_at i old) → ArePlaced rows old → ArePlaced rows new
placed_at rows old new ids placed k y at = ids y.place ∙ placed k y at

pub placed_pushed : (rows : List Row) (row : Row) (new : List Row) (commands : List CommandRow) → new ≡ rows ++ row ∷ [] → id_at row.place commands ≡ Some row.command → ArePlaced rows commands → ArePlaced new commands
placed_pushed rows row new commands is here placed k y at = elim (cases_Bool (k == length rows + 1)) as (λ _. id_at y.place commands ≡ Some y.command) [
  | inl last ↦
      let now : row ≡ y = same_Some row y (sym (row_last rows row k (eqb-true k (length rows + 1) last)) ∙ ap (row_of k) (sym is) ∙ at) in
      ap (λ (z : Row). id_at z.place commands) (sym now) ∙ here ∙ ap (λ (z : Row). Some z.command) now
  | inr isnt ↦ placed k y (sym (row_front rows row k (λ e. false≢true (sym isnt ∙ eq-eqb k (length rows + 1) e))) ∙ ap (row_of k) (sym is) ∙ at)
]

-- the scheduled aborts
one_kept : (P Q : List Entry) (old new : List Row) (x : Abort) → AreKept old new → standing x.0.0 Q ≡ standing x.0.0 P → IsAborting P old x → IsAborting Q new x
one_kept P Q old new x kept stands it =
    let now = kept x.1.0 it.row it.at in
    record { row = now.row; at = now.at; of = now.command ∙ it.of; owned = now.owned it.owned; busy = stands ∙ it.busy ∙ ap (Busy x.1) (sym now.tag) }

pub aborting_alike : (P Q : List Entry) (old new : List Row) → AreKept old new → ((c : ℕ) → standing c Q ≡ standing c P) → (xs : List Abort) → AreAborting P old xs → AreAborting Q new xs
aborting_alike P Q old new kept stands [] all = tt
aborting_alike P Q old new kept stands (x ∷ xs) all = (one_kept P Q old new x kept (stands x.0.0) all.0, aborting_alike P Q old new kept stands xs all.1)

-- where one command that isn't to be aborted comes to stand elsewhere
pub aborting_apart : (P Q : List Entry) (old new : List Row) → AreKept old new → (c : ℕ) (z : Standing) → ((d : ℕ) → standing d Q ≡ cond (c == d) z (standing d P))
    → (xs : List Abort) → aborts_of c xs ≡ 0 → AreAborting P old xs → AreAborting Q new xs
aborting_apart P Q old new kept c z changed [] none all = tt
aborting_apart P Q old new kept c z changed (x ∷ xs) none all =
    let parts = none_of (x.0.0 == c) (aborts_of c xs) (sym (aborts_cons c x xs) ∙ none) in
    let far : (c == x.0.0) ≡ false = ne_eqb c x.0.0 (λ e. false≢true (sym parts.0 ∙ eq-eqb x.0.0 c (sym e))) in (
      one_kept P Q old new x kept (changed x.0.0 ∙ ap (λ (b : Bool). cond b z (standing x.0.0 P)) far) all.0,
      aborting_apart P Q old new kept c z changed xs parts.1 all.1,
    )
  where
    none_of : (b : Bool) (k : ℕ) → once_if b + k ≡ 0 → (b ≡ false) × (k ≡ 0)
    none_of true k h = absurd (omega (arith, h))
    none_of false k h = (refl, omega (arith, h))

pub aborting_pushed : (P : List Entry) (rows : List Row) (xs : List Abort) (x : Abort) → AreAborting P rows xs → IsAborting P rows x → AreAborting P rows (xs ++ x ∷ [])
aborting_pushed P rows [] x all here = (here, tt)
aborting_pushed P rows (y ∷ xs) x all here = (all.0, aborting_pushed P rows xs x all.1 here)

-- where none comes to stand elsewhere
pub aborting_still : (P Q : List Entry) (rows : List Row) → ((c : ℕ) → standing c Q ≡ standing c P) → (xs : List Abort) → AreAborting P rows xs → AreAborting Q rows xs
aborting_still P Q rows = aborting_alike P Q rows rows (kept_same rows rows refl)
