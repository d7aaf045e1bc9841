use Rattle.std.proofs.Common.{◌≡◌}
use Rattle.std.specs.Prelude.{find}
use Rattle.sense_data.specs.Grammar.{is_information, descriptors}
use Rattle.sense_data.specs.Parts.{bodies}
use Rattle.sense_data.proofs.view.SenseView.information.Given as goal

abbrev pub invariant-loop-kind : goal.invariant-loop-kind
invariant-loop-kind l = record {
  may_go_on : (goal.iterator-loop-kind).can_next l.kind-iterator;
  ends : (goal.iterator-loop-kind).is_finite l.kind-iterator;
  none_so_far : find is_information (bodies l.kind-iterator) ≡ find is_information (descriptors l.self.now);
}
