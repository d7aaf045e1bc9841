use Rattle.std.proofs.Common.{ap, ◌∙◌}
use Rattle.std.specs.Prelude.{find}
use Rattle.sense_data.specs.Grammar.{is_information}
use Rattle.sense_data.specs.Parts.{bodies}
use Rattle.sense_data.proofs.Walk.{bodies-parts}
use Rattle.sense_data.proofs.view.SenseView.information.Goals as goal

pub loop-kind-init : goal.loop-kind-init
loop-kind-init c = record {
  may_go_on = tt;
  ends = tt;
  none_so_far = ap (λ left. find is_information (bodies left)) (c.into_iter-kind-iterator.ensures.into_iter_gives ∙ c.descriptors-kind-items.ensures) ∙ ap (find is_information) (bodies-parts c.args.self.now);
}
