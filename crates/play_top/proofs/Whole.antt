-- What the bytes that were read say of the whole source.
use Rattle.std.proofs.Common.{◌≡◌, ℕ, suc, ◌+◌, ◌≤◌, true, false, List, [], ◌∷◌, length, Option, None, Some, Result, Ok, Err, refl, sym, ap, ◌∙◌, arith, inl, inr, length-append, length-take}
use Rattle.std.specs.Prelude.{nat_lt}
use Rattle.std.specs.Io.KnownBytes.{Consumes}
use Rattle.std.proofs.lemmas.Bool.{cases_Bool, lt-ltb, cases_lt}
use Rattle.std.specs.List.{onto_first}
use Rattle.mid_io.specs.Whole.{IsFront}
use Rattle.script_text.specs.declared.script.Script.{Script}
use Rattle.script_text.specs.declared.script.Bad.{Bad}
use Rattle.script_words.specs.declared.kind.Kind.{Kind}
use Rattle.script_words.specs.Pieces.{lines, words, pieces, is_last, is_newline}
use Rattle.script_text.specs.Said.{Said, nothing}
use Rattle.script_text.specs.Script.{at_line, judge, judge_lines, after_line, counted, script_of, bad}
use Rattle.script_text.proofs.Counted.{counted_says_all}
use Rattle.play_top.specs.declared.reading.Unread.{Unread}
use Rattle.play_top.specs.declared.reading.Unread.TheVariants as unread
use Rattle.play_top.specs.Reading.{Says, IsReadOut, ReadsScript, ScriptReads}

-- the bytes up to the limit say what all bytes say
pub says_all : (left : Option (List ℕ)) (bytes : List ℕ) (judged : Result Script Bad) → IsFront left 16777217 bytes → script_of bytes ≡ judged → Says left judged
says_all None bytes judged front e = (bytes, e)
says_all (Some xs) bytes judged front e = sym (counted_says_all xs) ∙ (ap script_of (sym front) ∙ e)

-- a text that is cut is never good
goes_on_bad : (n : ℕ) (go_on : Said → Result Script Bad) (judged : Result Said Kind) (script : Script) → ((said : Said) → go_on said ≡ Ok script → ⊥) → after_line n go_on judged ≡ Ok script → ⊥
goes_on_bad n go_on (Ok said) script none e = none said e
goes_on_bad n go_on (Err kind) script none e = cc

cut_is_bad : (rest : List (List ℕ)) (line : List ℕ) (n : ℕ) (said : Said) (script : Script) → judge_lines true n said (line ∷ rest) ≡ Ok script → ⊥
unfolding judge_lines
cut_is_bad [] line n said script e = cc
cut_is_bad (next ∷ rest) line n said script e =
    goes_on_bad n (λ s. judge_lines true (n + 1) s (next ∷ rest)) (judge (at_line n said) (words line)) script (λ s. cut_is_bad rest next (n + 1) s script) e

lines_left : (ls : List (List ℕ)) (n : ℕ) (said : Said) (script : Script) → is_last ls ≡ false → judge_lines true n said ls ≡ Ok script → ⊥
lines_left [] n said script some e = cc
lines_left (line ∷ rest) n said script some e = cut_is_bad rest line n said script e

onto_is_some : (b : ℕ) (ps : List (List ℕ)) → is_last (onto_first b ps) ≡ false
onto_is_some b [] = refl
onto_is_some b (p ∷ ps) = refl

-- a text that isn't empty has a line
line_left : (s : List ℕ) (k : ℕ) → length s ≡ suc k → is_last (lines s) ≡ false
unfolding lines
line_left [] k e = absurd (omega (arith, e))
line_left (b ∷ bs) k e = elim (cases_Bool (is_newline b)) [ inl t ↦ rw t refl | inr f ↦ rw f (onto_is_some b (pieces is_newline bs)) ]

pub good_is_short : (text : List ℕ) (script : Script) → script_of text ≡ Ok script → length text ≤ 16777216
unfolding script_of
good_is_short text script e = elim (cases_lt 16777216 (length text)) [
  | inr short ↦ short
  | inl long ↦
      let cut : nat_lt 16777216 (length text) ≡ true = lt-ltb 16777216 (length text) long in
      let count : length (counted text) ≡ 16777217 = omega (arith, length-take {A = ℕ} 16777217 text) in
      let some : is_last (lines (counted text)) ≡ false = line_left (counted text) 16777216 count in
      absurd (lines_left (lines (counted text)) 1 nothing script some (rw cut at e))
]

-- a good script leaves nothing of its source
empty : (zs : List ℕ) → length zs ≡ 0 → zs ≡ []
empty [] h = refl
empty (z ∷ zs) h = absurd (omega (arith, h))

pub ends : (left left_new : Option (List ℕ)) (bytes : List ℕ) (script : Script) → IsFront left 16777217 bytes → Consumes left left_new bytes → script_of bytes ≡ Ok script → IsReadOut left left_new
ends None left_new bytes script front took e = tt
ends (Some xs) None bytes script front took e = tt
ends (Some xs) (Some ys) bytes script front took e =
    let short = good_is_short bytes script e in
    let none : length ys ≡ 0 = omega (arith, short, ap length took, ap length front, length-append {A = ℕ} bytes ys, length-take {A = ℕ} 16777217 xs) in
    empty ys none

pub reads : (left left_new : Option (List ℕ)) (before now : ℕ) (bytes : List ℕ) → IsFront left 16777217 bytes → Consumes left left_new bytes
    → (result : Result Script Unread) → ScriptReads bytes result → ReadsScript left left_new before now result
reads left left_new before now bytes front took (Ok script) h = (says_all left bytes (Ok script) front h.0, ends left left_new bytes script front took h.0, h.1)
reads left left_new before now bytes front took (Err (unread.Bad bad)) h = says_all left bytes (Err bad) front h
reads left left_new before now bytes front took (Err unread.Fault) h = absurd h
reads left left_new before now bytes front took (Err unread.NoMemory) h = tt
