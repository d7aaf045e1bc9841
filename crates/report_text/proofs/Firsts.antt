-- The first report of a command stands at its place in the journal.
use Rattle.std.proofs.Common.{◌≡◌, ℕ, ◌==◌, Bool, true, false, if◌then◌else◌, List, [], ◌∷◌, ◌++◌, length, reverse, Option, None, Some, option_map, slice_get, refl, sym, ap, ◌∙◌, append_assoc, subst}
use Rattle.std.proofs.lemmas.Grind.{reverse_onto}
use Rattle.std.proofs.lemmas.List.{append-nil, length-reverse, reverse-reverse}
use Rattle.mid_base.specs.declared.answers.Answer.{Answer}
use Rattle.mid_base.specs.declared.entries.Entry.{Entry}
use Rattle.mid_base.specs.declared.entries.Entry.TheVariants.{Told}
use Rattle.report_text.specs.Results.{ended, first_report, report}
use Rattle.report_text.specs.Tables.{answer_told, first_of, first_told, report_in}
use Rattle.report_text.specs.declared.results.Ended.{Ended}
use Rattle.report_text.specs.declared.results.FirstTold.{FirstTold}
use Rattle.report_text.specs.declared.results.Report.{Report}

Stands : List Entry → Option FirstTold → Option Report → Type 0
Stands es None None = Unit {0}
Stands es (Some t) (Some r) = (t.ended ≡ r.ended) × (answer_told (slice_get es t.place) ≡ Some r.answer)
Stands es t r = ⊥

stands_more : (b : Bool) (es : List Entry) (t : FirstTold) (r : Report) (told : Option FirstTold) (reported : Option Report) → Stands es told reported → t.ended ≡ r.ended → answer_told (slice_get es t.place) ≡ Some r.answer
    → Stands es (if b then Some (first_of told t) else told) (if b then Some (first_report reported r) else reported)
unfolding Stands
stands_more false es t r told reported h p q = h
stands_more true es t r None None h p q = (p, q)
stands_more true es t r (Some s) (Some o) h p q = h
stands_more true es t r None (Some o) h p q = absurd h
stands_more true es t r (Some s) None h p q = absurd h

seam : (xs ys : List Entry) (e : Entry) → slice_get (xs ++ (e ∷ ys)) (length xs) ≡ Some e
seam [] ys e = refl
seam (x ∷ xs) ys e = seam xs ys e

at_its_place : (P Q : List Entry) (e : Entry) → slice_get (reverse P ++ (e ∷ Q)) (length P) ≡ Some e
at_its_place P Q e = ap (λ (n : ℕ). slice_get (reverse P ++ (e ∷ Q)) n) (sym (length-reverse P)) ∙ seam (reverse P) Q e

turned : (P Q : List Entry) (e : Entry) → reverse P ++ (e ∷ Q) ≡ reverse (e ∷ P) ++ Q
turned P Q e = sym (ap (λ (es : List Entry). es ++ Q) (reverse_onto P e []) ∙ append_assoc (reverse P) (e ∷ []) Q)

-- whatever stands after P
stands : (c : ℕ) (P Q : List Entry) → Stands (reverse P ++ Q) (first_told c P) (report c P)
unfolding Stands
stands c [] Q = tt
stands c (Told d a ∷ P) Q =
    subst (λ (es : List Entry). Stands es (first_told c (Told d a ∷ P)) (report c (Told d a ∷ P))) (turned P Q (Told d a))
    (stands_more (d.0 == c) (reverse P ++ (Told d a ∷ Q)) (record { ended = ended c P; place = length P }) (record { ended = ended c P; answer = a }) (first_told c P) (report c P)
    (stands c P (Told d a ∷ Q)) refl (ap answer_told (at_its_place P Q (Told d a))))
stands c (e ∷ P) Q = subst (λ (es : List Entry). Stands es (first_told c P) (report c P)) (turned P Q e) (stands c P (e ∷ Q))

found : (es : List Entry) (told : Option FirstTold) (reported : Option Report) → Stands es told reported → report_in es told ≡ reported
unfolding Stands
found es None None h = refl
found es (Some t) (Some r) h =
    ap (λ (a : Option Answer). option_map (λ (x : Answer). record { ended = t.ended; answer = x }) a) h.1 ∙ ap (λ (x : Ended). Some (record { ended = x; answer = r.answer })) h.0
found es None (Some r) h = absurd h
found es (Some t) None h = absurd h

pub report_is : (c : ℕ) (es : List Entry) → report_in es (first_told c (reverse es)) ≡ report c (reverse es)
report_is c es =
    let P = reverse es in
    let here : reverse P ++ [] ≡ es = append-nil (reverse P) ∙ reverse-reverse es in
    found es (first_told c P) (report c P) (subst (λ (x : List Entry). Stands x (first_told c P) (report c P)) here (stands c P []))
