use Rattle.std.proofs.Common.{◌∙◌, ◌++◌, ap, sym, subst, refl, arith, List, append-nil, take}
use Rattle.std.proofs.lemmas.List.{take_all}
use Rattle.mid_base.specs.declared.entries.Entry.{Entry}
use Rattle.host_state.specs.HostAgrees.{HostAgrees}
use Rattle.trace_model.specs.Legal.{onto}
use Rattle.mid_core.proofs.Acted.{tells_more, book_more}
use Rattle.mid_core.proofs.telling.tell_all.Goals as goal

pub loop-entry-init : goal.loop-entry-init
loop-entry-init c = record {
  told = sym (append-nil c.args.book.now.entries);
  room = omega arith;
  runs = λ P runs taken. (runs, taken);
  shown = refl;
}

pub enter-requires : goal.enter-requires
enter-requires c =
    let given = c.requires.runs in
    (c.args.spec.now, onto (take c.loop-entry.entry-index c.args.entries.now) given.0, (c.loop-entry.invariant.runs given.0 given.1 given.2).0)

pub push-requires : goal.push-requires
push-requires c = omega (arith, c.loop-entry.invariant.room, c.requires.room, c.loop-entry-test.true)

pub loop-entry-preserved : goal.loop-entry-preserved
loop-entry-preserved c =
    let es = c.args.entries.now in
    let i = c.loop-entry.entry-index in
    let e = c.entry-item.result in
    record {
      told = book_more c.args.book.now.entries c.loop-entry.book.entries _ es i e c.loop-entry-test.true c.entry-item.is c.push.ensures.entries c.loop-entry.invariant.told;
      room = omega (arith, c.loop-entry.invariant.room, c.push.ensures.spare);
      runs = λ P runs taken. tells_more c.args.spec.now P es i e _ _ c.loop-entry-test.true c.entry-item.is c.enter.ensures.runs (c.loop-entry.invariant.runs P runs taken);
      shown = c.enter.ensures.shown ∙ c.loop-entry.invariant.shown;
    }

pub returns-clause-told : goal.returns-clause-told
returns-clause-told c =
    c.loop-entry.invariant.told ∙ ap (λ (xs : List Entry). c.args.book.now.entries ++ xs) (take_all c.loop-entry.entry-index c.args.entries.now (omega arith))

pub returns-clause-runs : goal.returns-clause-runs
returns-clause-runs c P runs taken =
    subst (λ (xs : List Entry). HostAgrees c.args.spec.now (onto xs P) c.loop-entry.running) (take_all c.loop-entry.entry-index c.args.entries.now (omega arith))
    (c.loop-entry.invariant.runs P runs taken).0

pub returns-clause-shown : goal.returns-clause-shown
returns-clause-shown c = c.loop-entry.invariant.shown
