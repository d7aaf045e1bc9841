use Rattle.std.proofs.Common.{◌∙◌, ap, sym, refl, map, length, List}
use Rattle.mid_base.specs.declared.host_spec.LunSpec.{LunSpec}
use Rattle.mid_base.specs.Address.{has_dev}
use Rattle.std.specs.Prelude.{nat_lt}
use Rattle.std.specs.List.{list_all}
use Rattle.mid_base.specs.Limits.{differ_in_id}
use Rattle.command_table.specs.Rows.{start_row}
use Rattle.command_table.proofs.Queries.{starts}
use Rattle.command_table.proofs.commands.Commands.new.Goals as goal

pub returns : goal.returns
returns c s same same_luns =
    starts s _
    (ap differ_in_id same ∙ c.requires.ids)
    (ap (list_all (λ k. nat_lt k.lane.0 64)) same ∙ c.requires.lanes)
    (ap (λ (luns : List LunSpec). list_all (λ k. has_dev luns k.dev) s.cmds) same_luns ∙ ap (list_all (λ k. has_dev c.args.luns.now k.dev)) same ∙ c.requires.devices)
    (c.in_ok-rows.ensures ∙ ap (map (start_row c.args.luns.now)) (sym same) ∙ ap (λ (luns : List LunSpec). map (start_row luns) s.cmds) (sym same_luns))
    c.in_ok-cursors.ensures.pointed c.in_ok-cursors.ensures.count c.new.ensures.items
    (c.in_ok-waiting.ensures.count ∙ ap length (sym same_luns)) c.in_ok-waiting.ensures.none c.in_ok-waiting.ensures.out refl
