use Rattle.std.proofs.Common.{sym, subst}
use Rattle.script_text.specs.Playable.{IsPlayable}
use Rattle.play_top.proofs.top.play_count.Goals as goal

pub play_script-requires : goal.play_script-requires
play_script-requires c = subst IsPlayable (sym c.in-Ok.ensures) (c.made_scripts_are_playable.ensures c.args.count c.requires)
