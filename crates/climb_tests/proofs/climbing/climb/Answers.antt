use Rattle.std.proofs.Common.{List, ◌++◌, ◌∙◌, refl, sym, ap, arith}
use Rattle.mid_base.specs.declared.entries.Entry.{Entry}
use Rattle.climb_tests.proofs.Ends.{left_after, none_told, all_cleared, acted_left, acted_ahead, finished_left}
use Rattle.climb_tests.proofs.climbing.climb.Goals as goal

pub loop-init : goal.loop-init
loop-init g c = record {
  left = sym (ap (λ (es : List Entry). left_after es c.args.ladder.now.left) c.requires.empty ∙ none_told c.args.ladder.now.left);
  ahead = omega (arith, c.requires.calls);
  len = refl;
}

pub loop-preserved : goal.loop-preserved
loop-preserved g c =
    let a = c.in-Act in
    record {
      left = acted_left c.loop.ladder c.next.new.self c.in_ok-entries.field-0 a.level a.scope a.ok a.entries a.is c.in_ok-entries.ensures.act c.args.ladder.now.left c.loop.told.items c.add.new.told.items c.loop.invariant.left
          (c.in_ok-add-in-Act.ensures ∙ ap (λ (es : List Entry). c.loop.told.items ++ es) c.deref.ensures.value);
      ahead = acted_ahead c.loop.ladder c.next.new.self c.in_ok-entries.field-0 a.level a.scope a.ok a.entries a.is c.in_ok-entries.ensures.act c.loop.counter c.args.calls c.loop.invariant.ahead;
      len = c.next.ensures.len ∙ c.loop.invariant.len;
    }

pub returns-in-Finished : goal.returns-in-Finished
returns-in-Finished g c =
    all_cleared c.loop.told.items c.args.ladder.now.left (sym c.loop.invariant.left ∙ finished_left c.loop.ladder c.next.new.self c.in_ok-entries.field-0 c.in-Finished.is c.in_ok-entries.ensures.act)

pub returns : goal.returns
returns g c = absurd (omega (arith, c.loop-test.false, c.loop.invariant.ahead))
