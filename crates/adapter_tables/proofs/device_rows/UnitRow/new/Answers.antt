use Rattle.std.proofs.Common.{◌≤◌, ℕ, List, All, length, sym, subst, arith}
use Rattle.adapter_tables.proofs.Numbers.{few_numbers, small_numbers}
use Rattle.adapter_tables.proofs.device_rows.UnitRow.new.Goals as goal

pub invariant_of-result-clause-few : goal.invariant_of-result-clause-few
invariant_of-result-clause-few c =
    let few = few_numbers c.args.luns.now c.args.spec.now.dev in
    subst (λ (xs : List ℕ). length xs ≤ 256) (sym c.in_ok-numbers.ensures) (omega (arith, few, c.requires.few))

pub invariant_of-result-clause-small : goal.invariant_of-result-clause-small
invariant_of-result-clause-small c =
    subst (λ (xs : List ℕ). All (λ n. n ≤ 16383) xs) (sym c.in_ok-numbers.ensures) (small_numbers c.args.luns.now c.args.spec.now.dev c.requires.luns)
