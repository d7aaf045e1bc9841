use Rattle.std.proofs.Common.{refl, inr, sym, ap, ◌∙◌, Some}
use Rattle.std.proofs.lemmas.Option.{slice_get-get_or}
use Rattle.adapter_tables.specs.declared.device_rows.UnitRow.{UnitRow}
use Rattle.adapter_tables.proofs.AddressLaws.{unit_devs_set}
use Rattle.adapter_tables.proofs.UnitLaws.{kept_set}
use Rattle.adapter_tables.proofs.units.answer_held.Goals as goal

pub invariant_of-units : goal.invariant_of-units
invariant_of-units c =
    let at = slice_get-get_or c.args.units.now.units.items c.in-Some.i c.index_mut.result.now c.in-Some.ensures.0 ∙ ap (λ (x : UnitRow). Some x) (sym c.index_mut.ensures.value) in
    record { aligned = unit_devs_set c.args.units.now.units.items c.in-Some.i c.index_mut.result.now c.finish.new.x at c.finish.ensures.dev ∙ c.args.units.now.aligned }

pub returns-in-Err-clause-err : goal.returns-in-Err-clause-err
returns-in-Err-clause-err c =
    let at = slice_get-get_or c.args.units.now.units.items c.in-Some.i c.index_mut.result.now c.in-Some.ensures.0 ∙ ap (λ (x : UnitRow). Some x) (sym c.index_mut.ensures.value) in
    kept_set c.args.units.now.units.items c.in-Some.i c.index_mut.result.now c.finish.new.x at c.in-Err.ensures.err

pub returns-in-Ok-clause-ok : goal.returns-in-Ok-clause-ok
returns-in-Ok-clause-ok c =
    let at = slice_get-get_or c.args.units.now.units.items c.in-Some.i c.index_mut.result.now c.in-Some.ensures.0 ∙ ap (λ (x : UnitRow). Some x) (sym c.index_mut.ensures.value) in
    inr (
      c.in-Some.i,
      c.index_mut.result.now,
      c.finish.new.x,
      record {
        at = at;
        dev = c.in-Some.ensures.1 c.index_mut.result.now at;
        first = c.in-Some.ensures.2;
        changed = refl;
        served = c.in-Ok.ensures.ok;
      },
    )
