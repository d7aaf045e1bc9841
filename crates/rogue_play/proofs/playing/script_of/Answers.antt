use Rattle.std.proofs.Common.{◌≡◌, ◌++◌, [], sym, ap, ◌∙◌}
use Rattle.std.proofs.lemmas.List.{append-nil}
use Rattle.script_text.specs.Script.{script_of}
use Rattle.script_text.specs.Told.{says}
use Rattle.rogue_play.proofs.playing.script_of.Goals as goal

pub returns-in-Ok-finish : goal.returns-in-Ok-finish
returns-in-Ok-finish c =
    let bytes = c.args.bytes.now in
    let fed : says c.feed.new.self [] ≡ script_of bytes =
    c.in-Ok.ensures.says [] ∙ (c.new-reader.ensures.says (bytes ++ []) ∙ ap script_of (append-nil bytes)) in
    c.good_scripts_are_playable.ensures bytes c.in-Ok-finish.script (sym fed ∙ c.in-Ok-finish.ensures.read)
