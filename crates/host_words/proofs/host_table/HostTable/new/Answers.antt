use Rattle.std.proofs.Common.{refl, rules, ◌≡◌, ℕ, ◌+◌, [], ◌∷◌, ◌∙◌, replicate, Some}
use native.Mathlib.Numerals.{unary_clauses}
use Rattle.host_words.proofs.Turning.{opens}
use Rattle.host_words.proofs.host_table.HostTable.new.Goals as goal

two_more : (n : ℕ) → replicate {A = ℕ} (n + 2) 0 ≡ 0 ∷ 0 ∷ replicate {A = ℕ} n 0
two_more n = simp unary_clauses

pub new-requires : goal.new-requires
new-requires g c =
    let words : c.as_slice.result.now ≡ 0 ∷ 0 ∷ replicate {A = ℕ} c.args.tags 0 = c.as_slice.ensures.value ∙ (c.in-Ok.ensures.items_if_clones_equal (λ y e. e) ∙ two_more c.args.tags) in
    let slots : c.push.new.self.items ≡ Some c.args.state ∷ [] = search rules in
    rw (words, slots, c.of.ensures) (opens _ _ _ _ _ c.args.state refl c.requires.free)
