-- The texts in parts.
use Rattle.std.proofs.Common.{◌≡◌, ℕ, ◌+◌, ◌<◌, ◌≤◌, List, [], ◌∷◌, ◌++◌, length, take, drop, get_or, reverse, refl, sym, ap, ◌∙◌, append_assoc, arith, Option}
use Rattle.std.specs.List.{flat_map}
use Rattle.std.proofs.lemmas.List.{append-nil, take-append-drop, drop_more, reverse-append}
use Rattle.std.proofs.lemmas.Grind.{flat_map-append}
use Rattle.mid_base.specs.Past.{ticks}
use Rattle.mid_base.specs.declared.entries.Entry.{Entry}
use Rattle.mid_base.specs.declared.entries.Entry.TheVariants.{Tick}
use Rattle.trace_model.specs.Commands.{retries}
use Rattle.report_text.specs.Results.{result_line, result_text}
use Rattle.report_text.specs.Tables.{SaysOf, gathered_line, report_in, row_at, row_of, tick_after}
use Rattle.report_text.specs.Text.{entry_line, entry_lines}
use Rattle.report_text.specs.declared.gather.Row.{Row}
use Rattle.report_text.specs.declared.gather.Results.{Results}
use Rattle.report_text.specs.declared.results.Report.{Report}
use Rattle.report_text.proofs.Back.{back}
use Rattle.report_text.proofs.Firsts.{report_is}

-- what follows the lines of P, where Q comes after P
later_lines : (Q P : List Entry) → (rest : List ℕ) × (entry_lines P ++ rest ≡ entry_lines (Q ++ P))
later_lines [] P = ([], append-nil (entry_lines P))
later_lines (e ∷ Q) P =
    let more = later_lines Q P in (
      more.0 ++ entry_line (ticks (Q ++ P)) e,
      sym (append_assoc (entry_lines P) more.0 (entry_line (ticks (Q ++ P)) e)) ∙ ap (λ (x : List ℕ). x ++ entry_line (ticks (Q ++ P)) e) more.1,
    )

-- what follows the lines of the first i entries
pub lines_after : (es : List Entry) (i : ℕ) → (rest : List ℕ) × (entry_lines (reverse (take i es)) ++ rest ≡ entry_lines (reverse es))
lines_after es i =
    let more = later_lines (reverse (drop i es)) (reverse (take i es)) in
    (more.0, more.1 ∙ ap entry_lines (sym (reverse-append (take i es) (drop i es)) ∙ ap reverse (take-append-drop i es)))

-- the lines at the entry in place i
pub lines_at : (es : List Entry) (i : ℕ) (e : Entry) → i < length es → e ≡ get_or es i e
    → (rest : List ℕ) × (entry_lines (reverse (take i es)) ++ (entry_line (ticks (reverse (take i es))) e ++ rest) ≡ entry_lines (reverse es))
lines_at es i e lt is =
    let more = lines_after es (i + 1) in (
      more.0,
      sym (append_assoc (entry_lines (reverse (take i es))) (entry_line (ticks (reverse (take i es))) e) more.0)
          ∙ (ap (λ (x : List Entry). entry_lines x ++ more.0) (sym (back es i e lt is)) ∙ more.1),
    )

pub tick_is : (tick : ℕ) (P : List Entry) (e : Entry) → tick ≡ ticks P → tick_after tick e ≡ ticks (e ∷ P)
tick_is tick P Tick h = ap (λ (t : ℕ). t + 1) h
tick_is tick P e h = h

-- there are no more ticks than entries
pub ticks-le-length : (P : List Entry) → ticks P ≤ length P
ticks-le-length [] = omega arith
ticks-le-length (Tick ∷ P) = omega (arith, ticks-le-length P)
ticks-le-length (e ∷ P) = omega (arith, ticks-le-length P)

-- one part after another
pub parts_after : {A : Type 0} (part : A → List ℕ) (xs : List A) (i : ℕ) → flat_map part (take i xs) ++ flat_map part (drop i xs) ≡ flat_map part xs
parts_after part xs i = sym (flat_map-append part (take i xs) (drop i xs)) ∙ ap (flat_map part) (take-append-drop i xs)

pub parts_at : {A : Type 0} (part : A → List ℕ) (xs : List A) (i : ℕ) (d : A) → i < length xs
    → flat_map part (take i xs) ++ (part (get_or xs i d) ++ flat_map part (drop (i + 1) xs)) ≡ flat_map part xs
parts_at part xs i d lt = ap (λ (x : List ℕ). flat_map part (take i xs) ++ x) (ap (flat_map part) (sym (drop_more xs i d lt))) ∙ parts_after part xs i

-- the same with what stands after them
pub parts_before : {A : Type 0} (part : A → List ℕ) (xs : List A) (i : ℕ) (d : A) (tail : List ℕ) → i < length xs
    → flat_map part (take i xs) ++ (part (get_or xs i d) ++ (flat_map part (drop (i + 1) xs) ++ tail)) ≡ flat_map part xs ++ tail
parts_before part xs i d tail lt =
    let here = part (get_or xs i d) in
    let rest = flat_map part (drop (i + 1) xs) in
    ap (λ (x : List ℕ). flat_map part (take i xs) ++ x) (sym (append_assoc here rest tail))
    ∙ (sym (append_assoc (flat_map part (take i xs)) (here ++ rest) tail) ∙ ap (λ (x : List ℕ). x ++ tail) (parts_at part xs i d lt))

line_is : (r : Results) (es : List Entry) (c : ℕ) → row_at r.rows c ≡ row_of c (reverse es) → gathered_line es r c ≡ result_line (reverse es) c
line_is r es c h =
    ap (λ (row : Row). result_text c (report_in es row.told) row.retries) h
    ∙ ap (λ (told : Option Report). result_text c told (retries c (reverse es))) (report_is c es)

-- the result lines of the tables are those of the journal
pub results_are : (r : Results) (es : List Entry) (ids : List ℕ) → SaysOf r (reverse es) → flat_map (gathered_line es r) ids ≡ flat_map (result_line (reverse es)) ids
results_are r es [] says = refl
results_are r es (c ∷ ids) says =
    ap (λ (x : List ℕ). x ++ flat_map (gathered_line es r) ids) (line_is r es c (says c))
    ∙ ap (λ (x : List ℕ). result_line (reverse es) c ++ x) (results_are r es ids says)
