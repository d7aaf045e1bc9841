-- Of which command each entry of a journal is.
use Rattle.std.proofs.Common.{◌≡◌, ℕ, ◌≢◌, ◌==◌, Bool, true, false, ◌||◌, List, [], ◌∷◌, ◌++◌, None, Some, get_or, reverse, length, refl, sym, ◌∙◌, ap, append_assoc, append-nil, take}
use Rattle.std.specs.Prelude.{zero, suc, Option, slice_get}
use Rattle.std.proofs.lemmas.Option.{same_Some, none-some}
use Rattle.std.proofs.lemmas.List.{reverse-append}
use Rattle.std.proofs.lemmas.Bool.{eq-eqb, ne_eqb}
use Rattle.mid_base.specs.declared.entries.Entry.{Entry}
use Rattle.mid_base.specs.declared.entries.Entry.TheVariants.{Took, Sent, Bounced, Judged, AbortSet, Aborted, Failed, Cleared, Sensed, Again, Told}
use Rattle.trace_model.specs.Commands.{is_own, is_of_attempt}
use Rattle.core_book.specs.Whose.{whose, all_whose}

abbrev pub Of : ℕ → Entry → List Entry → Bool
Of c e P = is_own c e || is_of_attempt c e P

abbrev mine : ℕ → Option ℕ → Bool
mine c None = false
mine c (Some d) = d == c

or_false : (b : Bool) → b || false ≡ b
or_false true = refl
or_false false = refl

of_whose : (c : ℕ) (e : Entry) (P : List Entry) → Of c e P ≡ mine c (whose e P)
of_whose c (Took d) P = or_false (d.0 == c)
of_whose c (Sent d n t) P = or_false (d.0 == c)
of_whose c (Bounced d n why) P = or_false (d.0 == c)
of_whose c (Judged d n x) P = or_false (d.0 == c)
of_whose c (AbortSet d n) P = or_false (d.0 == c)
of_whose c (Aborted d n ok) P = or_false (d.0 == c)
of_whose c (Failed d n x) P = or_false (d.0 == c)
of_whose c (Cleared d level) P = or_false (d.0 == c)
of_whose c (Sensed d n s) P = or_false (d.0 == c)
of_whose c (Again d counted) P = or_false (d.0 == c)
of_whose c (Told d a) P = or_false (d.0 == c)
of_whose c e P = refl

mine_yes : (c : ℕ) (o : Option ℕ) → o ≡ Some c → mine c o ≡ true
mine_yes c None h = absurd (none-some c h)
mine_yes c (Some d) h = eq-eqb d c (same_Some d c h)

mine_no : (c : ℕ) (o : Option ℕ) → o ≢ Some c → mine c o ≡ false
mine_no c None h = refl
mine_no c (Some d) h = ne_eqb d c (λ e. h (ap (λ (n : ℕ). Some n) e))

pub of_yes : (c : ℕ) (e : Entry) (P : List Entry) → whose e P ≡ Some c → Of c e P ≡ true
of_yes c e P h = of_whose c e P ∙ mine_yes c (whose e P) h

pub of_no : (c : ℕ) (e : Entry) (P : List Entry) → whose e P ≢ Some c → Of c e P ≡ false
of_no c e P h = of_whose c e P ∙ mine_no c (whose e P) h

turned : (x : Entry) (es P : List Entry) → reverse (x ∷ es) ++ P ≡ reverse es ++ (x ∷ P)
turned x es P = ap (λ (xs : List Entry). xs ++ P) (reverse-append (x ∷ []) es) ∙ append_assoc (reverse es) (x ∷ []) P

whose_behind : (es P : List Entry) (i : ℕ) (e : Entry) → slice_get es i ≡ Some e → get_or (all_whose P es) i None ≡ whose e (reverse (take i es) ++ P)
whose_behind [] P i e h = absurd (none-some e h)
whose_behind (x ∷ es) P zero e h = ap (λ (y : Entry). whose y P) (same_Some x e h)
whose_behind (x ∷ es) P (suc i) e h = whose_behind es (x ∷ P) i e h ∙ ap (λ (xs : List Entry). whose e xs) (sym (turned x (take i es) P))

-- the command at a place is that of the entry there, behind those before it
pub whose_at : (es : List Entry) (i : ℕ) (e : Entry) → slice_get es i ≡ Some e → get_or (all_whose [] es) i None ≡ whose e (reverse (take i es))
whose_at es i e h = whose_behind es [] i e h ∙ ap (λ (xs : List Entry). whose e xs) (append-nil (reverse (take i es)))

push_behind : (es P : List Entry) (e : Entry) → all_whose P (es ++ e ∷ []) ≡ all_whose P es ++ whose e (reverse es ++ P) ∷ []
push_behind [] P e = refl
push_behind (x ∷ es) P e =
    ap (λ (os : List (Option ℕ)). whose x P ∷ os) (push_behind es (x ∷ P) e ∙ ap (λ (xs : List Entry). all_whose (x ∷ P) es ++ whose e xs ∷ []) (sym (turned x es P)))

-- one entry more
pub whose_push : (es : List Entry) (e : Entry) → all_whose [] (es ++ e ∷ []) ≡ all_whose [] es ++ whose e (reverse es) ∷ []
whose_push es e = push_behind es [] e ∙ ap (λ (xs : List Entry). all_whose [] es ++ whose e xs ∷ []) (append-nil (reverse es))

pub length_whose : (P es : List Entry) → length (all_whose P es) ≡ length es
length_whose P [] = refl
length_whose P (e ∷ es) = ap suc (length_whose (e ∷ P) es)
