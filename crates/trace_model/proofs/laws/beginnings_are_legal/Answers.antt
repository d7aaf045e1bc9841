use Rattle.std.proofs.Common.{reverse, subst}
use Rattle.std.proofs.lemmas.List.{reverse-append}
use Rattle.trace_model.specs.Legal.{EachStands}
use Rattle.trace_model.proofs.Permitted.{each_before}
use Rattle.trace_model.proofs.laws.beginnings_are_legal.Goals as goal

pub returns : goal.returns
returns c = λ s front back legal done. record {
  each = each_before s (reverse back) (reverse front) (subst (EachStands s) (reverse-append front back) legal.each);
  ended = done;
}
