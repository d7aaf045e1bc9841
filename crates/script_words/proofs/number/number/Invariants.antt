use Rattle.std.proofs.Common.{◌≡◌, ◌<◌, ◌^◌, take, true}
use Rattle.std.specs.List.{list_all}
use Rattle.script_words.specs.Pieces.{value_of, is_digit}
use Rattle.script_words.proofs.number.number.Given as goal

abbrev pub invariant-loop-b : goal.invariant-loop-b
invariant-loop-b l = record {
  value : l.n ≡ value_of (take l.b-index l.word);
  digits : list_all is_digit (take l.b-index l.word) ≡ true;
  small : l.n < 10 ^ l.b-index;
}
