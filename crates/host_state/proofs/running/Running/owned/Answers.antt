use Rattle.std.proofs.Common.{◌≡◌, ◌∙◌, sym, ap, refl, Bool, true, false, not, ◌&&◌, ◌||◌, Option, Some, None, is_some, is_none}
use Rattle.mid_base.specs.declared.answers.By.{By}
use Rattle.attempt_table.specs.declared.rows.Row.{Row}
use Rattle.attempt_table.specs.Rows.{row_of, owned_in, owner_in, open_in, settled_in}
use Rattle.host_state.proofs.running.Running.owned.Goals as goal

-- an attempt that isn't owned, of which nobody is the owner while it is open
not_owned : (o e : Bool) (w : Option By) → (o ≡ true → w ≡ None) → not o && not e && is_some w ≡ false → is_none w || e ≡ true
not_owned true e w free unowned = rw (free refl) refl
not_owned false true None free unowned = refl
not_owned false true (Some by) free unowned = refl
not_owned false false None free unowned = refl
not_owned false false (Some by) free unowned = cc

pub returns-then-not-is_owned : goal.returns-then-not-is_owned
returns-then-not-is_owned c = λ s P r.
    let reads = r.attempts.0.rows c.args.n.0 in
    let sound = r.attempts.0.sound c.args.n.0 in
    let x : Option Row = row_of c.args.n.0 c.args.self.now.attempts.rows.items in
    let found : x ≡ Some c.in-Some.row = sym c.row.ensures ∙ c.in-Some.is in
    let unowned : owned_in x ≡ false = ap owned_in found ∙ (sym c.is_owned.ensures ∙ c.if-not-is_owned.true) in
    rw (reads.4, reads.5) (not_owned (open_in x) (settled_in x) (owner_in x) sound.1 unowned)
