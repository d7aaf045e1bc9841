use Rattle.std.proofs.Common.{◌≡◌, drop}
use Rattle.script_words.specs.Words.{letters, bits_from, some_letters}
use Rattle.script_words.proofs.handlers.letters.Given as goal

abbrev pub invariant-loop-letter : goal.invariant-loop-letter
invariant-loop-letter l = bits_from l.bits (drop l.letter-index letters) l.rest ≡ some_letters l.word
