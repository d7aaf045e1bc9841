use Rattle.std.proofs.Common.{refl, sym, ap, ◌∙◌, Some}
use Rattle.std.proofs.lemmas.Option.{slice_get-get_or}
use Rattle.adapter_tables.specs.declared.device_rows.UnitRow.{UnitRow}
use Rattle.adapter_tables.proofs.AddressLaws.{unit_devs_set}
use Rattle.adapter_tables.proofs.probes.probe_unit.Goals as goal

pub invariant_of-units : goal.invariant_of-units
invariant_of-units c =
    let at = slice_get-get_or c.args.units.now.units.items c.in-Some.i c.index_mut.result.now c.in-Some.ensures.0 ∙ ap (λ (x : UnitRow). Some x) (sym c.index_mut.ensures.value) in
    record { aligned = unit_devs_set c.args.units.now.units.items c.in-Some.i c.index_mut.result.now c.answer_probe.new.x at c.answer_probe.ensures.served.dev ∙ c.args.units.now.aligned }

pub returns-in-Some-clause-says : goal.returns-in-Some-clause-says
returns-in-Some-clause-says c =
    let at = slice_get-get_or c.args.units.now.units.items c.in-Some.i c.index_mut.result.now c.in-Some.ensures.0 ∙ ap (λ (x : UnitRow). Some x) (sym c.index_mut.ensures.value) in (
      c.in-Some.i,
      c.index_mut.result.now,
      c.answer_probe.new.x,
      record {
        at = at;
        dev = c.in-Some.ensures.1 c.index_mut.result.now at;
        first = c.in-Some.ensures.2;
        changed = refl;
        served = c.answer_probe.ensures.served;
      },
      c.answer_probe.ensures.given,
    )
