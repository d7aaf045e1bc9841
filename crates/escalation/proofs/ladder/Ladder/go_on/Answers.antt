use Rattle.std.proofs.Common.{rules, not, ◌≡◌, ◌≤◌, ◌+◌, ◌∙◌, List, map, filter, drop, length, sym, ap, subst, arith}
use Rattle.std.specs.List.{list_any}
use Rattle.std.proofs.lemmas.Fn.{filter_same}
use Rattle.disposition.specs.declared.todo.Todo.{Todo}
use Rattle.disposition.specs.Ladder.{Pair, beyond_pair}
use Rattle.escalation.specs.Rungs.{pair_at}
use Rattle.escalation.specs.Climbing.{Climb, is_left, as_told}
use Rattle.escalation.specs.Acts.{IsClimbing, is_id}
use Rattle.escalation.proofs.Cleared.{same_left}
use Rattle.escalation.proofs.Moves.{moved, room_ahead, went_on}
use Rattle.escalation.proofs.ladder.Ladder.go_on.Goals as goal

pub invariant_of-self : goal.invariant_of-self
invariant_of-self c =
    let entries = c.args.entries.now in
    let rs = c.self.inside.rungs.items in
    let at = c.self.inside.at in
    let k = c.passed-passed.result in
    let view = ap (λ (x : Climb). x.ahead) c.self.view_is in
    let kept : c.retain.new.self.items ≡ filter (is_left entries) c.self.inside.left.items =
    filter_same _ (λ x. not (list_any (is_id x.cmd.0) c.args.cleared.now)) _ (λ x b f' h. search (rules, c.requires.cleared.rise)) _ _ c.retain.ensures.filtered ∙ same_left entries c.args.cleared.now c.requires.cleared c.self.inside.left.items
    in
    let left : c.take_sense.new.left.items ≡ map (as_told entries) (filter (is_left entries) c.args.self.now.left) =
    c.take_sense.ensures ∙ (ap (map (as_told entries)) kept ∙ ap (λ (x : Climb). map (as_told entries) (filter (is_left entries) x.left)) c.self.view_is)
    in
    let ahead : map pair_at (drop (at + k) rs) ≡ beyond_pair (pair_at c.args.rung.now) c.args.self.now.ahead =
    moved rs at k c.args.self.now.ahead _ c.ahead.result.now view c.ahead.ensures (c.passed-passed.ensures.beyond ∙ ap (beyond_pair (pair_at c.args.rung.now)) c.ahead.ensures)
    in (
      room_ahead rs at k c.args.self.now.ahead c.ahead.result.now c.self.invariant.0 view c.ahead.ensures c.passed-passed.ensures.within,
      subst (λ (xs : List Todo). IsClimbing xs (map pair_at (drop (at + k) rs))) (sym left) (subst (λ (ps : List Pair). IsClimbing (map (as_told entries) (filter (is_left entries) c.args.self.now.left)) ps) (sym ahead) c.requires.climbing),
    )

pub returns : goal.returns
returns c =
    let entries = c.args.entries.now in
    let rs = c.self.inside.rungs.items in
    let at = c.self.inside.at in
    let k = c.passed-passed.result in
    let view = ap (λ (x : Climb). x.ahead) c.self.view_is in
    let kept : c.retain.new.self.items ≡ filter (is_left entries) c.self.inside.left.items =
    filter_same _ (λ x. not (list_any (is_id x.cmd.0) c.args.cleared.now)) _ (λ x b f' h. search (rules, c.requires.cleared.rise)) _ _ c.retain.ensures.filtered ∙ same_left entries c.args.cleared.now c.requires.cleared c.self.inside.left.items
    in
    let ahead : map pair_at (drop (at + k) rs) ≡ beyond_pair (pair_at c.args.rung.now) c.args.self.now.ahead =
    moved rs at k c.args.self.now.ahead _ c.ahead.result.now view c.ahead.ensures (c.passed-passed.ensures.beyond ∙ ap (beyond_pair (pair_at c.args.rung.now)) c.ahead.ensures)
    in
    went_on c.args.self.now c.self.inside.handlers c.self.inside.aborts c.self.inside.left.items c.take_sense.new.left.items (map pair_at (drop at rs)) (map pair_at (drop (at + k) rs)) (pair_at c.args.rung.now) entries
    c.self.view_is (c.take_sense.ensures ∙ ap (map (as_told entries)) kept) ahead
