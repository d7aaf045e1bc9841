-- What a reader will say, byte by byte.
use Rattle.std.proofs.Common.{◌≡◌, ℕ, zero, suc, ◌+◌, ◌-◌, ◌≤◌, ◌<◌, Bool, true, false, not, ◌&&◌, List, [], ◌∷◌, ◌++◌, length, take, Option, Some, None, Result, Err, refl, sym, ap, arith, inl, inr, append_assoc, append-nil, length-take, zero-add}
use Rattle.std.specs.Prelude.{nat_lt}
use Rattle.std.specs.List.{list_all, onto_first}
use Rattle.std.proofs.lemmas.Bool.{cases_Bool, and_parts, lt-ltb, ltb-true}
use Rattle.std.proofs.lemmas.Bool.Decides.{nat_tests}
use Rattle.script_words.specs.Pieces.{pieces, is_newline, is_last, lines, words}
use Rattle.script_words.specs.declared.kind.Kind.TheVariants as kinds
use Rattle.script_text.specs.declared.script.Script.{Script}
use Rattle.script_text.specs.declared.script.Bad.{Bad}
use Rattle.script_text.specs.Said.{Said, nothing}
use Rattle.script_text.specs.Script.{bad, judge, at_line, after_line, judge_lines, script_of}
use Rattle.script_text.specs.Told.{told}
use Rattle.script_text.specs.Gives.{go_on_unless}
use Rattle.script_text.proofs.Grown.{all_more, not_true}

abbrev within : ℕ → Bool
within b = not (is_newline b)

pub one_more_within : (part : List ℕ) (b : ℕ) → list_all (λ x. not (is_newline x)) part ≡ true → is_newline b ≡ false → list_all (λ x. not (is_newline x)) (part ++ b ∷ []) ≡ true
one_more_within part b e f = all_more within part b e (not_true (is_newline b) f)

-- a newline ends the line that a part without newlines begins
lines_join : (part rest : List ℕ) → list_all within part ≡ true → lines (part ++ 10 ∷ rest) ≡ part ∷ lines rest
unfolding lines
lines_join [] rest e = refl
lines_join (b ∷ bs) rest e =
    let a = and_parts (within b) (list_all within bs) e in
    elim (cases_Bool (is_newline b)) [
      | inl t ↦ absurd (let h = rw t at a.0 in cc h)
      | inr f ↦ rw f (ap (onto_first b) (lines_join bs rest a.1))
    ]

lines_one : (b : ℕ) (bs : List ℕ) → list_all within (b ∷ bs) ≡ true → lines (b ∷ bs) ≡ (b ∷ bs) ∷ []
unfolding lines
lines_one b [] e =
    let a = and_parts (within b) true e in
    elim (cases_Bool (is_newline b)) [ inl t ↦ absurd (let h = rw t at a.0 in cc h) | inr f ↦ rw f refl ]
lines_one b (c ∷ cs) e =
    let a = and_parts (within b) (list_all within (c ∷ cs)) e in
    elim (cases_Bool (is_newline b)) [
      | inl t ↦ absurd (let h = rw t at a.0 in cc h)
      | inr f ↦ rw f (ap (onto_first b) (lines_one c cs a.1))
    ]

pub last_is : (part : List ℕ) → 0 < length part → list_all (λ b. not (is_newline b)) part ≡ true → lines part ≡ part ∷ []
last_is [] some e = absurd (omega arith)
last_is (b ∷ bs) some e = lines_one b bs e

-- one more byte leaves one line
single_step : (c : ℕ) (cs line : List ℕ) → is_newline c ≡ false → lines cs ≡ line ∷ [] → lines (c ∷ cs) ≡ (c ∷ line) ∷ []
unfolding lines
single_step c cs line f e = rw f (ap (onto_first c) e)

inside_is : (b : ℕ) → within b ≡ true → is_newline b ≡ false
inside_is b e = elim (cases_Bool (is_newline b)) [ inl t ↦ absurd (let h = rw t at e in cc h) | inr f ↦ f ]

lines_single : (part : List ℕ) (b : ℕ) → list_all within part ≡ true → (line : List ℕ) × (lines (part ++ b ∷ []) ≡ line ∷ [])
unfolding lines
lines_single [] b e = elim (cases_Bool (is_newline b)) [ inl t ↦ ([], rw t refl) | inr f ↦ (b ∷ [], rw f refl) ]
lines_single (c ∷ cs) b e =
    let a = and_parts (within c) (list_all within cs) e in
    let rest = lines_single cs b a.1 in
    (c ∷ rest.0, single_step c (cs ++ b ∷ []) rest.0 (inside_is c a.0) rest.1)

pub no_lines : (part : List ℕ) → length part ≡ 0 → lines part ≡ []
unfolding lines
no_lines [] e = refl
no_lines (b ∷ bs) e = absurd (omega (arith, e))

onto_some : (b : ℕ) (ps : List (List ℕ)) → is_last (onto_first b ps) ≡ false
onto_some b [] = refl
onto_some b (p ∷ ps) = refl

some_lines : (bs : List ℕ) → 0 < length bs → is_last (lines bs) ≡ false
unfolding lines
some_lines [] some = absurd (omega arith)
some_lines (b ∷ bs) some = elim (cases_Bool (is_newline b)) [ inl t ↦ rw t refl | inr f ↦ rw f (onto_some b (pieces is_newline bs)) ]

-- at the limit the line of the next byte is too long
at_limit : (limit n : ℕ) (said : Said) (part : List ℕ) (b : ℕ) (more : List ℕ) → list_all within part ≡ true → judge_lines (nat_lt limit (limit + suc (length more))) n said (lines (part ++ b ∷ [])) ≡ Err (bad n kinds.Limit)
unfolding judge_lines
at_limit limit n said part b more e =
    let one = lines_single part b e in
    rw (lt-ltb limit (limit + suc (length more)) (omega arith), one.1) refl

one_of : (k : ℕ) (b : ℕ) (bs : List ℕ) → k ≡ 1 → take k (b ∷ bs) ≡ b ∷ []
one_of k b bs e = rw e refl

more_of : (k j : ℕ) (b : ℕ) (bs : List ℕ) → k ≡ suc j → take k (b ∷ bs) ≡ b ∷ take j bs
more_of k j b bs e = rw e refl

pub limit_told : (before count : ℕ) (said : Said) (part : List ℕ) (b : ℕ) (more : List ℕ) → list_all (λ x. not (is_newline x)) part ≡ true → count ≡ 16777216 → told None before said part count (b ∷ more) ≡ Err (bad (before + 1) kinds.Limit)
limit_told before count said part b more e full =
    rw (full, one_of (16777217 - 16777216) b more refl) (at_limit 16777216 (before + 1) said part b more e)

pub byte_told : (before count : ℕ) (said : Said) (part : List ℕ) (b : ℕ) (more : List ℕ) → count < 16777216 → told None before said (part ++ b ∷ []) (count + 1) more ≡ told None before said part count (b ∷ more)
byte_told before count said part b more room =
    let left : 16777217 - count ≡ suc (16777217 - (count + 1)) = omega arith in
    let cut : (count + 1) + length more ≡ count + suc (length more) = omega arith in
    rw (cut, more_of (16777217 - count) (16777217 - (count + 1)) b more left, append_assoc) refl

not_last_line : (limit count : ℕ) (more : List ℕ) → count < limit → (nat_lt limit (count + suc (length more)) && is_last (lines (take (limit - count) more))) ≡ false
not_last_line limit count more room =
    elim (cases_Bool (nat_lt limit (count + suc (length more)))) [
      | inl t ↦ rw t (some_lines (take (limit - count) more) (omega (arith, length-take (limit - count) more, ltb-true limit (count + suc (length more)) t)))
      | inr f ↦ rw f refl
    ]

newline_at : (limit count n : ℕ) (said new : Said) (part more : List ℕ) (verdict : Option Bad) → count < limit → list_all within part ≡ true
    → ((rest : Said → Result Script Bad) → after_line n rest (judge (at_line n said) (words part)) ≡ go_on_unless verdict (rest new))
    → judge_lines (nat_lt limit (count + suc (length more))) n said (lines (part ++ 10 ∷ take (limit - count) more))
    ≡ go_on_unless verdict (judge_lines (nat_lt limit (count + suc (length more))) (n + 1) new (lines (take (limit - count) more)))
unfolding judge_lines
newline_at limit count n said new part more verdict room e ends =
    let cut : Bool = nat_lt limit (count + suc (length more)) in
    let left : List ℕ = take (limit - count) more in
    let not_last : (nat_lt limit (count + suc (length more)) && is_last (lines (take (limit - count) more))) ≡ false = not_last_line limit count more room in
    rw (lines_join part left e, not_last) (ends (λ s. judge_lines cut (n + 1) s (lines left)))

pub newline_told : (before count : ℕ) (said new : Said) (part : List ℕ) (verdict : Option Bad) (more : List ℕ) → count < 16777216 → list_all (λ x. not (is_newline x)) part ≡ true
    → ((rest : Said → Result Script Bad) → after_line (before + 1) rest (judge (at_line (before + 1) said) (words part)) ≡ go_on_unless verdict (rest new))
    → told verdict (before + 1) new [] (count + 1) more ≡ told None before said part count (10 ∷ more)
newline_told before count said new part None more room e ends =
    let left : 16777217 - count ≡ suc (16777216 - count) = omega arith in
    let same : 16777217 - (count + 1) ≡ 16777216 - count = omega arith in
    let cut : (count + 1) + length more ≡ count + suc (length more) = omega arith in
    rw (cut, same, more_of (16777217 - count) (16777216 - count) 10 more left) (sym (newline_at 16777216 count (before + 1) said new part more None room e ends))
newline_told before count said new part (Some verdict) more room e ends =
    let left : 16777217 - count ≡ suc (16777216 - count) = omega arith in
    rw (more_of (16777217 - count) (16777216 - count) 10 more left) (sym (newline_at 16777216 count (before + 1) said new part more (Some verdict) room e ends))

-- before the first byte, and behind the last
first_told : (text : List ℕ) → told None 0 nothing [] 0 text ≡ script_of text
unfolding script_of
first_told text = ap (λ (k : ℕ). judge_lines (nat_lt 16777216 k) 1 nothing (lines (take 16777217 text))) (zero-add (length text))

pub new_told : (before count : ℕ) (said : Said) (part text : List ℕ) → before ≡ 0 → count ≡ 0 → said ≡ nothing → part ≡ [] → told None before said part count text ≡ script_of text
new_told before count said part text b c s p = rw (b, c, s, p) (first_told text)

take_none : (k : ℕ) → take {A = ℕ} k [] ≡ []
take_none zero = refl
take_none (suc k) = refl

pub end_told : (before count : ℕ) (said : Said) (part : List ℕ) → count ≤ 16777216 → told None before said part count [] ≡ judge_lines false (before + 1) said (lines part)
end_told before count said part fits =
    let cut : nat_lt 16777216 (count + 0) ≡ false = grind (arith, nat_tests) in
    rw (cut, take_none (16777217 - count), append-nil) refl
