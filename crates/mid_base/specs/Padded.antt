-- A list in an array of a fixed length, with zeros past its end.
use Rattle.std.specs.Prelude.{◌≡◌, ℕ, ◌-◌, ◌≤◌, List, ◌++◌, length, drop, replicate}
use Rattle.std.proofs.Common.{[], arith, refl, ap, ◌∙◌, length-append}
use Rattle.std.proofs.lemmas.List.{drop_at, drop-replicate, length-replicate}

pub record IsPadded (size len : ℕ) (bytes : List ℕ) : Type 0 where
  pub size_is : length bytes ≡ size
  pub fits : len ≤ size
  pub zeros : drop len bytes ≡ replicate (size - len) 0

-- what is made of a list and zeros
pub padded_made : (size : ℕ) (b rest : List ℕ) → length b ≤ size → rest ≡ drop (length b) (replicate size 0) → IsPadded size (length b) (b ++ rest)
padded_made size b rest le e =
    let r : rest ≡ replicate (size - length b) 0 = e ∙ drop-replicate (length b) size 0 in
    record {
      size_is = omega (arith, length-append b rest, ap length r, length-replicate {A = ℕ} (size - length b) 0);
      fits = le;
      zeros = drop_at b rest (length b) refl ∙ r;
    }

pub empty_padded : (size : ℕ) → IsPadded size 0 (replicate size 0)
empty_padded size = padded_made size [] (replicate size 0) (omega arith) refl
