use Rattle.std.proofs.Common.{◌≡◌, ◌++◌, [], sym, ap, ◌∙◌}
use Rattle.std.proofs.lemmas.List.{append-nil}
use Rattle.script_text.specs.Script.{script_of}
use Rattle.script_text.specs.Told.{says}
use Rattle.script_text.proofs.Sound.{script_plays}
use Rattle.play_top.proofs.reading.script_in.Goals as goal

pub returns-in-Ok-finish : goal.returns-in-Ok-finish
returns-in-Ok-finish c =
    let bytes = c.args.bytes.now in
    let fed : says c.feed.new.self [] ≡ script_of bytes =
    c.in-Ok.ensures.says [] ∙ (c.new-reader.ensures.says (bytes ++ []) ∙ ap script_of (append-nil bytes)) in
    let good = sym fed ∙ c.in-Ok-finish.ensures.read in
    (good, script_plays bytes c.in-Ok-finish.script good)

pub returns-in-Err-Bad : goal.returns-in-Err-Bad
returns-in-Err-Bad c =
    let bytes = c.args.bytes.now in
    let fed : says c.feed.new.self [] ≡ script_of bytes =
    c.in-Ok.ensures.says [] ∙ (c.new-reader.ensures.says (bytes ++ []) ∙ ap script_of (append-nil bytes)) in
    sym fed ∙ (rw c.in-Err-Bad.field-0-is at c.in-Err-Bad.ensures.read)
