-- Where each entry of a journal may stand, each of a front of it may.
use Rattle.std.proofs.Common.{◌≡◌, ℕ, ◌+◌, List, [], ◌∷◌, ◌++◌, take, drop, reverse, sym, ap, ◌∙◌, subst}
use Rattle.std.proofs.lemmas.List.{take-append-drop, reverse-append}
use Rattle.mid_base.specs.declared.entries.Entry.{Entry}
use Rattle.mid_base.specs.declared.host_spec.HostSpec.{HostSpec}
use Rattle.trace_model.specs.Legal.{EachStands, LegalByPlaces, WrongBack}
use Rattle.worked_journals.specs.Edits.{WrongAt}

earlier : (s : HostSpec) (later P : List Entry) → EachStands s (later ++ P) → EachStands s P
earlier s [] P each = each
earlier s (e ∷ later) P each = earlier s later P each.1

-- the front of n entries, the newest first
front : (s : HostSpec) (n : ℕ) (journal : List Entry) → EachStands s (reverse journal) → EachStands s (reverse (take n journal))
front s n journal each =
    let parts : reverse journal ≡ reverse (drop n journal) ++ reverse (take n journal) =
    ap reverse (sym (take-append-drop n journal)) ∙ reverse-append (take n journal) (drop n journal) in
    earlier s (reverse (drop n journal)) (reverse (take n journal)) (subst (EachStands s) parts each)

not_both : (s : HostSpec) (P : List Entry) → WrongBack s P → EachStands s P → ⊥
not_both s [] wrong each = wrong
not_both s (e ∷ P) wrong each = wrong.1 each.0

pub wrong_place : (s : HostSpec) (i : ℕ) (journal : List Entry) → WrongAt s i journal → LegalByPlaces s journal → ⊥
wrong_place s i journal wrong legal = not_both s (reverse (take (i + 1) journal)) wrong (front s (i + 1) journal legal.each)
