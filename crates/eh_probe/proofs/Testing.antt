-- What two probes of a test say, and where they leave a lower layer.
use Rattle.std.proofs.Common.{◌≡◌, Bool, true, false, cond, List, [], ◌∷◌, Option, None, Some, refl, sym, ap, ◌∙◌, subst}
use Rattle.mid_base.specs.declared.names.DevAddr.{DevAddr}
use Rattle.mid_base.specs.declared.answers.Answer.{Answer}
use Rattle.mid_base.specs.declared.answers.ProbeSay.{ProbeSay}
use Rattle.mid_base.specs.declared.answers.ProbeSay.TheVariants.{Answered, Silent as Nothing}
use Rattle.mid_base.specs.declared.entries.Entry.TheVariants.{Probe as Probed}
use Rattle.mid_base.specs.Answers.{is_good, said_good}
use Rattle.mid_base.specs.Codes.{test_unit_ready}
use Rattle.host_template.specs.Standing.{Standing}
use Rattle.trace_model.specs.Climb.{is_doubtful}
use Rattle.eh_probe.specs.declared.says.Probe.{Probe}
use Rattle.eh_probe.specs.declared.says.Probe.TheVariants.{Good, Bad}
use Rattle.eh_probe.specs.declared.says.Tested.{Tested}
use Rattle.eh_probe.specs.Tests.{sorted, said, IsTest, test_entries}
use Rattle.eh_probe.specs.Standings.{StandsAfter}

said_either : (a : Answer) (good : Bool) → said (cond good (Good a) (Bad a)) ≡ Answered a
said_either a true = refl
said_either a false = refl

said_sorted : (say : ProbeSay) → said (sorted say) ≡ say
said_sorted (Answered a) = said_either a (is_good a)
said_sorted Nothing = refl

abbrev one_test : Probe → Bool → Tested
one_test p ready = record { first = p; second = None; ready = ready }

abbrev two_tests : Probe → Probe → Bool → Tested
two_tests p q ready = record { first = p; second = Some q; ready = ready }

pub tested_twice : (say again : ProbeSay) (p q : Probe) (ready : Bool) → is_doubtful say ≡ true → p ≡ sorted say → q ≡ sorted again → ready ≡ said_good again
    → IsTest (record { first = p; second = Some q; ready = ready })
tested_twice say again p q ready doubtful p_is q_is ready_is = (
  say,
  again,
  subst (λ (b : Bool). two_tests p q ready ≡ cond b (two_tests (sorted say) (sorted again) (said_good again)) (one_test (sorted say) (said_good say))) (sym doubtful)
      (ap (λ (x : Probe). two_tests x q ready) p_is ∙ (ap (λ (x : Probe). two_tests (sorted say) x ready) q_is ∙ ap (λ (r : Bool). two_tests (sorted say) (sorted again) r) ready_is)),
)

said_of : (say : ProbeSay) (p : Probe) → p ≡ sorted say → said p ≡ say
said_of say p e = ap said e ∙ said_sorted say

pub stands_twice : (old between new : Standing) (dev : DevAddr) (say again : ProbeSay) (p q : Probe) (ready : Bool) → p ≡ sorted say → q ≡ sorted again
    → StandsAfter old between (Probed dev test_unit_ready say ∷ []) → StandsAfter between new (Probed dev test_unit_ready again ∷ [])
    → StandsAfter old new (test_entries dev (record { first = p; second = Some q; ready = ready }))
stands_twice old between new dev say again p q ready p_is q_is h k =
    subst (λ (x : ProbeSay). StandsAfter old new (Probed dev test_unit_ready x ∷ Probed dev test_unit_ready (said q) ∷ [])) (sym (said_of say p p_is))
    (subst (λ (y : ProbeSay). StandsAfter old new (Probed dev test_unit_ready say ∷ Probed dev test_unit_ready y ∷ [])) (sym (said_of again q q_is))
    (λ s b P stood. k s b (Probed dev test_unit_ready say ∷ P) (h s b P stood)))
