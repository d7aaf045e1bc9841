use Rattle.std.proofs.Common.{◌≡◌, ◌++◌, [], sym, ap, ◌∙◌}
use Rattle.std.proofs.lemmas.List.{append-nil}
use Rattle.script_text.specs.Script.{script_of}
use Rattle.script_text.specs.Told.{says}
use Rattle.climb_tests.proofs.simulated.script_of.Goals as goal

pub returns-in-Ok : goal.returns-in-Ok
returns-in-Ok c =
    let bytes = c.as_bytes.result.now in
    let fed : says c.feed.new.self [] ≡ script_of bytes =
    c.in_ok-feed.ensures.says [] ∙ (c.new-reader.ensures.says (bytes ++ []) ∙ ap script_of (append-nil bytes)) in
    c.good_scripts_are_playable.ensures bytes c.in-Ok.script (sym fed ∙ c.in-Ok.ensures.read)
