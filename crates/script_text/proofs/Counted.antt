-- The part of a text that counts.
use Rattle.std.proofs.Common.{◌≡◌, ℕ, suc, Bool, List, length, take, sym, ap, ◌∙◌, arith, nat_lt, inl, inr}
use Rattle.std.proofs.lemmas.List.{take_all, length-take, length-take-le}
use Rattle.std.proofs.lemmas.Bool.{cases_lt, lt-ltb}
use Rattle.script_words.specs.Pieces.{lines}
use Rattle.script_text.specs.Said.{nothing}
use Rattle.script_text.specs.Script.{counted, judge_lines, script_of}

counted_length : (n : ℕ) (text : List ℕ) → nat_lt n (length (take (suc n) text)) ≡ nat_lt n (length text)
counted_length n text =
    elim (cases_lt n (length text)) [
      | inl long ↦
          let len : length (take (suc n) text) ≡ suc n = length-take-le (suc n) text (omega arith) in
          lt-ltb n (length (take (suc n) text)) (omega (arith, len)) ∙ sym (lt-ltb n (length text) long)
      | inr short ↦ ap (λ (t : List ℕ). nat_lt n (length t)) (take_all (suc n) text (omega arith))
    ]

-- what counts of a text says as much as the text
pub counted_says_all : (text : List ℕ) → script_of (counted text) ≡ script_of text
unfolding script_of
counted_says_all text =
    let same : counted (counted text) ≡ counted text = take_all 16777217 (counted text) (omega (arith, length-take {A = ℕ} 16777217 text)) in
    let long : nat_lt 16777216 (length (counted text)) ≡ nat_lt 16777216 (length text) = counted_length 16777216 text in
    ap (λ (t : List ℕ). judge_lines (nat_lt 16777216 (length (counted text))) 1 nothing (lines t)) same
    ∙ ap (λ (b : Bool). judge_lines b 1 nothing (lines (counted text))) long
