-- Which attempt a tag shows. The oldest entry of a journal stands first.
use Rattle.std.specs.Prelude.{◌≡◌, ℕ, reverse, slice_get, Some}
use Rattle.mid_base.specs.declared.answers.TagState.{TagState}
use Rattle.mid_base.specs.declared.answers.TagState.TheVariants.{Free, Armed, Owned}
use Rattle.mid_base.specs.declared.host_spec.HostSpec.{HostSpec}
use Rattle.mid_base.specs.declared.names.Attempt.{Attempt}
use Rattle.trace_model.specs.Tags.{tag_states}
use Rattle.host_words.specs.Journals.{Journal}

-- a tag in this state is armed with attempt n, or n is owned under it
abbrev pub IsStateOf : Attempt → TagState → Type 0
IsStateOf n Free = ⊥
IsStateOf n (Armed m) = n ≡ m
IsStateOf n (Owned m by) = n ≡ m

-- tag t of the host shows attempt n
abbrev pub ShownUnder : HostSpec → Journal → ℕ → Attempt → Type 0
ShownUnder s journal t n = (f : TagState) × (slice_get (tag_states s (reverse journal)) t ≡ Some f) × IsStateOf n f
