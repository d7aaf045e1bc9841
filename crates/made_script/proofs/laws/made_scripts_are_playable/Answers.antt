use Rattle.made_script.proofs.Fits.{is_playable}
use Rattle.made_script.proofs.laws.made_scripts_are_playable.Goals as goal

pub returns : goal.returns
returns c = is_playable
