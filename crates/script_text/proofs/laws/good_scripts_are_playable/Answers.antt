use Rattle.script_text.proofs.Sound.{script_plays}
use Rattle.script_text.proofs.laws.good_scripts_are_playable.Goals as goal

pub returns : goal.returns
returns c = script_plays
