-- Parts of the caller's slice: which places they are, and where they lie.
use Rattle.std.specs.Prelude.{◌≡◌, ℕ, ◌+◌, ◌≤◌, List, [], ◌∷◌, map, length, None, if◌then◌else◌, slice_index, slice_range}
use denote.Bor.{Bor}
use Rattle.sense_data.specs.Grammar.{refusal, is_fixed, sense_end, descriptor_end, starts_from, first_cut}

-- the places from `from` up to `to` of this very slice
abbrev pub part : Bor (List ℕ) → ℕ → ℕ → Bor (List ℕ)
part b from to = record { ref_ptr = (b.ref_ptr.0, b.ref_ptr.1 + from); now = slice_range b.now from to }

-- type and body of the descriptors from place p on up to `end`
abbrev pub parts_from : Bor (List ℕ) → ℕ → ℕ → List (ℕ × Bor (List ℕ))
parts_from b end p = map (λ start. (slice_index b.now start, part b (start + 2) (descriptor_end b.now start))) (starts_from b.now end p)

-- those of sense data: none in the fixed form
abbrev pub descriptor_parts : Bor (List ℕ) → List (ℕ × Bor (List ℕ))
descriptor_parts b = if is_fixed b.now then [] else parts_from b (sense_end b.now) 8

-- a view of valid sense data, and where that ends
pub record IsView (b : List ℕ) (end : ℕ) : Type 0 where
  pub valid : refusal b ≡ None
  pub ends : end ≡ sense_end b
  pub begins : 8 ≤ end
  pub within : end ≤ length b

-- the descriptors from p on up to `end` are whole
pub record IsWalk (b : List ℕ) (end p : ℕ) : Type 0 where
  pub within : end ≤ length b
  pub begun : p ≤ end
  pub whole : first_cut b end p ≡ None

-- what stands in the parts
abbrev pub bodies : List (ℕ × Bor (List ℕ)) → List (ℕ × List ℕ)
bodies = map (λ d. (d.0, d.1.now))

-- these descriptors fill b from place p up to `end`, each right after the one before it
abbrev pub Fill : Bor (List ℕ) → ℕ → ℕ → List (ℕ × Bor (List ℕ)) → Type 0
Fill b end p [] = p ≡ end
Fill b end p (d ∷ ds) =
    (d.0 ≡ slice_index b.now p) × (d.1 ≡ part b (p + 2) (descriptor_end b.now p))
    × (length d.1.now ≡ slice_index b.now (p + 1)) × Fill b end (descriptor_end b.now p) ds
