use Rattle.std.proofs.Common.{◌∙◌, sym, subst, Some, refl, arith}
use Rattle.std.proofs.lemmas.Bool.Decides.{nat_tests}
use Rattle.adapter_tables.specs.Ties.{IsLeast, IsKeptBelow}
use Rattle.adapter_tables.proofs.Least.{least_not, least_first, least_better, least_worse, least_more}
use Rattle.adapter_tables.proofs.held_table.better.Goals as goal

pub returns-in_default-best : goal.returns-in_default-best
returns-in_default-best c = λ t k e is. least_more t k c.args.now (Some c.args.h) c.args.h e
    (least_first (IsKeptBelow t k) c.args.now c.in-Some.at c.args.h c.in-Some.is c.if-at-now.false (subst (λ o. IsLeast (IsKeptBelow t k) c.args.now o) c.in_default-best.is is))

pub returns-then-goes_before : goal.returns-then-goes_before
returns-then-goes_before c = λ t k e is. least_more t k c.args.now (Some c.args.h) c.args.h e
    (least_better (IsKeptBelow t k) c.args.now c.in-Some.at c.in-Some-best.b c.args.h c.in-Some.is c.if-at-now.false (sym c.goes_before.ensures ∙ c.if-goes_before.true)
    (subst (λ o. IsLeast (IsKeptBelow t k) c.args.now o) c.in-Some-best.is is))

pub returns : goal.returns
returns c = λ t k e is. least_more t k c.args.now (Some c.in-Some-best.b) c.args.h e
    (least_worse (IsKeptBelow t k) c.args.now c.in-Some.at c.in-Some-best.b c.args.h c.in-Some.is (sym c.goes_before.ensures ∙ c.if-goes_before.false)
    (subst (λ o. IsLeast (IsKeptBelow t k) c.args.now o) c.in-Some-best.is is))

pub returns-in_default : goal.returns-in_default
returns-in_default c = λ t k e is. least_more t k c.args.now c.args.best c.args.h e (least_not (IsKeptBelow t k) c.args.now c.args.best c.args.h (rw c.in_default.is refl) is)

pub returns-then-at-now : goal.returns-then-at-now
returns-then-at-now c = λ t k e is. least_more t k c.args.now c.args.best c.args.h e (least_not (IsKeptBelow t k) c.args.now c.args.best c.args.h (rw c.in-Some.is (grind (arith, nat_tests, c.if-at-now.true))) is)
