use Rattle.std.proofs.Common.{◌≡◌, ℕ, List, ◌++◌, drop, false}
use Rattle.script_text.specs.Told.{says}
use Rattle.script_text.proofs.reader.Reader.feed.Given as goal

abbrev pub invariant-loop-b : goal.invariant-loop-b
invariant-loop-b l = record {
  going : l.self.failed ≡ false;
  says : (more : List ℕ) → says l.self (drop l.b-index l.piece ++ more) ≡ says l.initial.self (l.piece ++ more);
}
