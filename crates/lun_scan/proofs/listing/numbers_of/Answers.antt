use Rattle.std.proofs.Common.{◌≡◌, ◌≤◌, length, List, ℕ, sym, ap, ◌∙◌, subst}
use Rattle.std.specs.Prelude.{None}
use denote.Bor.{Bor}
use Rattle.lun_addr.specs.Grammar.{refusal}
use Rattle.lun_addr.specs.Parts.{entry_parts}
use Rattle.lun_scan.specs.Numbers.{numbers_in}
use Rattle.lun_scan.proofs.Listed.{not_refused, numbers_read, few_entries}
use Rattle.lun_scan.proofs.listing.numbers_of.Goals as goal

pub add_numbers-requires-clause-few : goal.add_numbers-requires-clause-few
add_numbers-requires-clause-few c =
    subst (λ (l : Bor (List ℕ)). length (entry_parts l) ≤ 256) (sym c.in-Ok.ensures.read.1) (few_entries c.args.list c.requires.short)

pub returns-in-Ok : goal.returns-in-Ok
returns-in-Ok c =
    let whole : refusal c.args.list.now ≡ None = not_refused (refusal c.args.list.now) c.in-Ok.ensures.read.0 in
    (whole, c.add_numbers.ensures ∙ (ap (λ (l : Bor (List ℕ)). numbers_in (entry_parts l)) c.in-Ok.ensures.read.1 ∙ numbers_read c.args.list whole))
