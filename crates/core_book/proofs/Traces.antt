-- Reading on from a place gives what is left of the trace.
use Rattle.std.proofs.Common.{◌≡◌, ◌≢◌, ℕ, ◌+◌, ◌-◌, ◌<◌, ◌≤◌, true, false, List, [], ◌∷◌, ◌++◌, None, Some, get_or, reverse, length, refl, sym, ◌∙◌, ap, arith, append_assoc, append-nil, take, drop, ⊎_elim}
use Rattle.std.specs.Prelude.{zero, suc, Option, slice_get}
use Rattle.std.proofs.lemmas.Option.{slice_get_within, slice_get_past, get_or_from_slice_get, same_Some, none-some}
use Rattle.std.proofs.lemmas.List.{take_more, drop_all, reverse-append}
use Rattle.std.proofs.lemmas.Bool.{cases_Bool}
use Rattle.mid_base.specs.declared.entries.Entry.{Entry}
use Rattle.trace_model.specs.Commands.{trace}
use Rattle.core_book.specs.Whose.{all_whose}
use Rattle.core_book.specs.Places.{IsFirst, IsNext}
use Rattle.core_book.specs.Traces.{traced}
use Rattle.core_book.proofs.Entries.{Of, of_yes, of_no, whose_at}

traced_yes : (c : ℕ) (P : List Entry) (e : Entry) (es : List Entry) → Of c e P ≡ true → traced c P (e ∷ es) ≡ e ∷ traced c (e ∷ P) es
traced_yes c P e es h = rw h refl

traced_no : (c : ℕ) (P : List Entry) (e : Entry) (es : List Entry) → Of c e P ≡ false → traced c P (e ∷ es) ≡ traced c (e ∷ P) es
traced_no c P e es h = rw h refl

trace_yes : (c : ℕ) (P : List Entry) (e : Entry) → Of c e P ≡ true → trace c (e ∷ P) ≡ e ∷ trace c P
trace_yes c P e h = rw h refl

trace_no : (c : ℕ) (P : List Entry) (e : Entry) → Of c e P ≡ false → trace c (e ∷ P) ≡ trace c P
trace_no c P e h = rw h refl

-- behind P
behind : (c : ℕ) (P es : List Entry) → reverse (trace c P) ++ traced c P es ≡ reverse (trace c (reverse es ++ P))
behind c P [] = append-nil (reverse (trace c P))
behind c P (e ∷ es) =
    let rest : reverse (trace c (e ∷ P)) ++ traced c (e ∷ P) es ≡ reverse (trace c (reverse es ++ (e ∷ P))) = behind c (e ∷ P) es in
    let turned : reverse (e ∷ es) ++ P ≡ reverse es ++ (e ∷ P) = ap (λ (xs : List Entry). xs ++ P) (reverse-append (e ∷ []) es) ∙ append_assoc (reverse es) (e ∷ []) P in
    let whole : reverse (trace c (reverse es ++ (e ∷ P))) ≡ reverse (trace c (reverse (e ∷ es) ++ P)) = ap (λ (xs : List Entry). reverse (trace c xs)) (sym turned) in
    ⊎_elim
    (λ yes.
    let more : reverse (trace c (e ∷ P)) ≡ reverse (trace c P) ++ (e ∷ []) = ap (λ (xs : List Entry). reverse xs) (trace_yes c P e yes) ∙ reverse-append (e ∷ []) (trace c P) in
    let joined : reverse (trace c P) ++ (e ∷ traced c (e ∷ P) es) ≡ reverse (trace c (e ∷ P)) ++ traced c (e ∷ P) es =
    sym (append_assoc (reverse (trace c P)) (e ∷ []) (traced c (e ∷ P) es)) ∙ ap (λ (xs : List Entry). xs ++ traced c (e ∷ P) es) (sym more) in
    ap (λ (xs : List Entry). reverse (trace c P) ++ xs) (traced_yes c P e es yes) ∙ joined ∙ rest ∙ whole)
    (λ no.
    ap (λ (xs : List Entry). reverse (trace c P) ++ xs) (traced_no c P e es no)
    ∙ ap (λ (xs : List Entry). reverse xs ++ traced c (e ∷ P) es) (sym (trace_no c P e no)) ∙ rest ∙ whole)
    (cases_Bool (Of c e P))

whole_trace : (c : ℕ) (es : List Entry) → traced c [] es ≡ reverse (trace c (reverse es))
whole_trace c es = behind c [] es ∙ ap (λ (xs : List Entry). reverse (trace c xs)) (append-nil (reverse es))

-- what is left at the next place
at_drop : (es : List Entry) (place : ℕ) (e : Entry) → slice_get es place ≡ Some e → drop place es ≡ e ∷ drop (place + 1) es
at_drop [] place e h = absurd (omega (arith, slice_get_within [] place e h))
at_drop (x ∷ es) zero e h = ap (λ (y : Entry). y ∷ es) (same_Some x e h)
at_drop (x ∷ es) (suc place) e h =
    let one : suc (place + 1) ≡ suc place + 1 = omega arith in
    at_drop es place e h ∙ ap (λ (n : ℕ). e ∷ drop n (x ∷ es)) one

at_take : (es : List Entry) (place : ℕ) (e : Entry) → slice_get es place ≡ Some e → reverse (take (place + 1) es) ≡ e ∷ reverse (take place es)
at_take es place e h =
    let longer : take (place + 1) es ≡ take place es ++ get_or es place e ∷ [] = take_more es place e (slice_get_within es place e h) in
    let is : get_or es place e ≡ e = get_or_from_slice_get es place e e h in
    ap (λ (xs : List Entry). reverse xs) (longer ∙ ap (λ (y : Entry). take place es ++ y ∷ []) is) ∙ reverse-append (take place es) (e ∷ [])

at_next : (es : List Entry) (place : ℕ) (e : Entry) → slice_get es place ≡ Some e → (drop place es ≡ e ∷ drop (place + 1) es) × (reverse (take (place + 1) es) ≡ e ∷ reverse (take place es))
at_next es place e h = (at_drop es place e h, at_take es place e h)

one_traced : (c : ℕ) (es : List Entry) (place : ℕ) (e : Entry) → slice_get es place ≡ Some e → Of c e (reverse (take place es)) ≡ true
    → traced c (reverse (take place es)) (drop place es) ≡ e ∷ traced c (reverse (take (place + 1) es)) (drop (place + 1) es)
one_traced c es place e at is =
    let next = at_next es place e at in
    ap (λ (xs : List Entry). traced c (reverse (take place es)) xs) next.0 ∙ traced_yes c (reverse (take place es)) e (drop (place + 1) es) is
    ∙ ap (λ (P : List Entry). e ∷ traced c P (drop (place + 1) es)) (sym next.1)

none_traced : (c : ℕ) (es : List Entry) (place : ℕ) (e : Entry) → slice_get es place ≡ Some e → Of c e (reverse (take place es)) ≡ false
    → traced c (reverse (take place es)) (drop place es) ≡ traced c (reverse (take (place + 1) es)) (drop (place + 1) es)
none_traced c es place e at isnt =
    let next = at_next es place e at in
    ap (λ (xs : List Entry). traced c (reverse (take place es)) xs) next.0 ∙ traced_no c (reverse (take place es)) e (drop (place + 1) es) isnt
    ∙ ap (λ (P : List Entry). traced c P (drop (place + 1) es)) (sym next.1)

-- at the end nothing is left
none_past : (es : List Entry) (place : ℕ) → slice_get es place ≡ None → length es ≤ place
none_past [] place h = omega arith
none_past (x ∷ es) zero h = absurd (none-some x (sym h))
none_past (x ∷ es) (suc place) h = let rest : length es ≤ place = none_past es place h in omega (arith, rest)

pub none_left : (c : ℕ) (es : List Entry) (place : ℕ) → slice_get es place ≡ None → traced c (reverse (take place es)) (drop place es) ≡ []
none_left c es place h = ap (λ (xs : List Entry). traced c (reverse (take place es)) xs) (drop_all place es (none_past es place h))

-- what is left of the trace of c at a place
abbrev From : ℕ → List Entry → ℕ → List Entry
From c es i = traced c (reverse (take i es)) (drop i es)

pass : (c : ℕ) (es : List Entry) (i : ℕ) (o : Option Entry) → slice_get es i ≡ o → get_or (all_whose [] es) i None ≢ Some c → From c es i ≡ From c es (i + 1)
pass c es i None at none =
    let past : length es ≤ i = none_past es i at in
    none_left c es i at ∙ sym (none_left c es (i + 1) (slice_get_past es (i + 1) (omega (arith, past))))
pass c es i (Some e) at none = none_traced c es i e at (of_no c e (reverse (take i es)) (λ is. none (whose_at es i e at ∙ is)))

-- between two places that have no entry of c between them, nothing of its trace is lost
pass_all : (c : ℕ) (es : List Entry) (d i j : ℕ) → i + d ≡ j → ((k : ℕ) → i ≤ k → k < j → get_or (all_whose [] es) k None ≢ Some c) → From c es i ≡ From c es j
pass_all c es zero i j at none = let same : i ≡ j = omega (arith, at) in ap (λ (k : ℕ). From c es k) same
pass_all c es (suc d) i j at none =
    let least : i ≤ i = omega arith in
    let below : i < j = omega (arith, at) in
    let further : (i + 1) + d ≡ j = omega (arith, at) in
    pass c es i (slice_get es i) refl (none i least below) ∙ pass_all c es d (i + 1) j further (λ k low high. none k (omega (arith, low)) high)

-- a command's trace begins at its first place
pub from_first : (c : ℕ) (es : List Entry) (first : ℕ) → IsFirst (all_whose [] es) c first → From c es first ≡ reverse (trace c (reverse es))
from_first c es first is =
    let whole : 0 + first ≡ first = omega arith in
    sym (pass_all c es first 0 first whole (λ k low high. is.before k high)) ∙ whole_trace c es

-- and goes on at the next one
pub from_next : (c : ℕ) (es : List Entry) (i j : ℕ) (e : Entry) → slice_get es i ≡ Some e → get_or (all_whose [] es) i None ≡ Some c → IsNext (all_whose [] es) c i j
    → From c es i ≡ e ∷ From c es j
from_next c es i j e at is next =
    let behind : i < j = next.behind in
    let rest : (i + 1) + (j - (i + 1)) ≡ j = omega (arith, behind) in
    one_traced c es i e at (of_yes c e (reverse (take i es)) (sym (whose_at es i e at) ∙ is))
    ∙ ap (λ (xs : List Entry). e ∷ xs) (pass_all c es (j - (i + 1)) (i + 1) j rest (λ k low high. next.between k (omega (arith, low)) high))
