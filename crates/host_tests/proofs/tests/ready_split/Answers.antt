use Rattle.std.proofs.Common.{rules, ap, sym, ◌∙◌, subst}
use Rattle.host_words.specs.declared.view.View.{View}
use Rattle.host_tests.specs.Turned.{AllTold}
use Rattle.host_tests.proofs.tests.ready_split.Goals as goal

pub returns-clause-ready : goal.returns-clause-ready
returns-clause-ready c = (
  ((search rules, ap (λ (v : View). v.stage) c.split.ensures.left ∙ c.requires.ready.0.1), c.requires.ready.1, subst (AllTold 1000) (sym (ap (λ (v : View). v.seen) c.split.ensures.left)) c.requires.ready.2),
  ((search rules, ap (λ (v : View). v.stage) c.split.ensures.given), c.requires.ready.1, subst (AllTold 1000) (sym (ap (λ (v : View). v.seen) c.split.ensures.given)) c.requires.ready.2),
)
