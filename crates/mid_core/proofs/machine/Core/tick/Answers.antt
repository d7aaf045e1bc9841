use Rattle.std.proofs.Common.{reverse, ap, ◌∙◌, sym, refl, [], ◌∷◌, false, ◌≡◌, ◌<◌, arith}
use Rattle.mid_base.specs.declared.entries.Entry.TheVariants.{Tick}
use Rattle.mid_base.specs.Past.{ticks}
use Rattle.trace_model.specs.Attempts.{attempts}
use Rattle.trace_model.specs.Time.{is_expired}
use Rattle.mid_base.specs.Limits.{last_number}
use Rattle.mid_core.proofs.Groups.{group_tick, nothing_bars_a_tick, none_expired}
use Rattle.mid_core.proofs.Staged.{other_keeps}
use Rattle.mid_core.proofs.Holding.{idle, same_nature}
use Rattle.mid_core.proofs.Growing.{core_grows, added, back}
use Rattle.mid_core.proofs.machine.Core.tick.Goals as goal

pub invariant_of-self-2 : goal.invariant_of-self-2
invariant_of-self-2 g c =
    let core = c.self.invariant in
    let laws = g.met.A.HostTemplate g.world.𝓛 g.world.𝓜 g.world.𝓡 ((λ s x. x), (λ x. x), (λ x. x), λ x. x) in
    let spec = c.self.inside.spec in
    let P = reverse c.self.inside.book.entries in
    let undue : g.A.HostTemplate.is_due c.self.inside.lower (ticks P) ≡ false =
    ap (g.A.HostTemplate.is_due c.self.inside.lower) (core.runs.time ∙ sym c.now-now.ensures) ∙ (sym c.due.ensures ∙ c.if-due.false)
    in
    rw (back c.self.inside.book.entries _ _ Tick c.in_ok-reserve.ensures.entries c.push.ensures.entries)
    (core_grows _ _ _ _ _ _ P (Tick ∷ []) _ _ _ _ core (other_keeps spec P Tick refl (λ begun. tt))
    (group_tick spec P (c.has_answer_waiting.ensures spec P core.runs ∙ c.if-has_answer_waiting.false) (c.has_expired.ensures spec P core.runs ∙ c.if-has_expired.false))
    (laws.quiet_tick c.self.inside.lower spec c.self.inside.before P undue core.stood)
    (idle _)
    (c.tick.ensures.runs spec P (none_expired P (attempts P) (is_expired spec P) (c.has_expired.ensures spec P core.runs ∙ c.if-has_expired.false)) core.runs))

pub returns-clause-answer : goal.returns-clause-answer
returns-clause-answer g c =
    let core = c.self.invariant in
    let spec = c.self.inside.spec in
    let P = reverse c.self.inside.book.entries in
    let undue : g.A.HostTemplate.is_due c.self.inside.lower (ticks P) ≡ false =
    ap (g.A.HostTemplate.is_due c.self.inside.lower) (core.runs.time ∙ sym c.now-now.ensures) ∙ (sym c.due.ensures ∙ c.if-due.false)
    in
    let unclaimed = c.has_answer_waiting.ensures spec P core.runs ∙ c.if-has_answer_waiting.false in
    let unexpired = c.has_expired.ensures spec P core.runs ∙ c.if-has_expired.false in
    let early : ticks P < last_number = omega (arith, core.runs.time, c.now-now.ensures) in
    rw (← c.self.view_is) (record {
      spec = refl;
      before = refl;
      group = Tick ∷ [];
      journal = added c.self.inside.book.entries _ _ Tick c.in_ok-reserve.ensures.entries c.push.ensures.entries;
      adds = record {
        opened = refl;
        added = group_tick spec P unclaimed unexpired;
        free = nothing_bars_a_tick spec P unclaimed unexpired (g.A.HostTemplate.is_due c.self.inside.lower (ticks P)) undue early;
      };
      enters = refl;
      tags = c.tick.ensures.shown;
      nature = same_nature _;
    })
