use Rattle.std.proofs.Common.{◌≡◌, ◌∙◌, sym, subst, ℕ, length, Option, None}
use Rattle.std.specs.Prelude.{MatchOption}
use Rattle.trace_model.specs.Sending.{pick}
use Rattle.host_state.specs.Picks.{IsPicked, IsFirstUpTo}
use Rattle.host_state.proofs.Chosen.{none_is, first_is}
use Rattle.host_state.proofs.running.Running.pick.Goals as goal

pub returns-in_err-order : goal.returns-in_err-order
returns-in_err-order c s P r =
    subst (λ (o : Option ℕ). MatchOption o (pick s P ≡ None) (IsPicked s P c.args.self.now)) (sym c.from_residual.ensures)
    (none_is s P c.args.self.now r (subst (IsFirstUpTo c.args.self.now (length c.args.self.now.devices.rows.items)) (c.in_err-order.was) c.first_to_go.ensures))

pub returns : goal.returns
returns c s P r =
    first_is s P c.args.self.now r c.in_ok-order.order c.in_ok-order.field-0-1 c.in_ok-taken.taken
    (subst (IsFirstUpTo c.args.self.now (length c.args.self.now.devices.rows.items)) (c.in_ok-order.was) c.first_to_go.ensures)
    (sym c.taken_as.ensures ∙ c.in_ok-taken.was)
