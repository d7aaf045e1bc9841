use Rattle.std.proofs.Common.{◌≡◌, ℕ, List, [], ◌∷◌, ◌++◌, Option, Some, None, refl, ap, append_assoc}
use Rattle.script_words.specs.Hex.{put}

-- what was read, and what is still read
abbrev pub joined : List ℕ → Option (List ℕ) → Option (List ℕ)
joined front None = None
joined front (Some bs) = Some (front ++ bs)

pub joined_put : (front : List ℕ) (b : ℕ) (o : Option (List ℕ)) → joined front (put (Some b) o) ≡ joined (front ++ b ∷ []) o
joined_put front b None = refl
joined_put front b (Some bs) = ap Some (simp append_assoc)
