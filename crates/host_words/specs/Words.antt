-- What the word of a tag says.
use Rattle.std.specs.Prelude.{◌≡◌, ℕ, ◌+◌, ◌*◌, ◌⊎◌}
use Rattle.mid_base.specs.declared.answers.By.{By}
use Rattle.mid_base.specs.declared.answers.By.TheVariants.{Answer, Expiry}
use Rattle.mid_base.specs.declared.answers.TagState.{TagState}
use Rattle.mid_base.specs.declared.answers.TagState.TheVariants as tag
use Rattle.mid_base.specs.declared.names.Attempt.{Attempt}
use Rattle.host_words.specs.declared.words.WordSeen.{WordSeen}
use Rattle.host_words.specs.declared.words.WordSeen.TheVariants.{Free, Armed, Done, Expired}

-- the number that a word is kept as
abbrev pub code : WordSeen → ℕ
code Free = 0
code (Armed n) = 4 * n.0 + 1
code (Done n) = 4 * n.0 + 2
code (Expired n) = 4 * n.0 + 3

-- the word of an attempt that was claimed
abbrev pub claimed_word : Attempt → By → WordSeen
claimed_word n Answer = Done n
claimed_word n Expiry = Expired n

-- the word is about attempt n
abbrev pub NumberIs : Attempt → WordSeen → Type 0
NumberIs n Free = ⊥
NumberIs n (Armed m) = n ≡ m
NumberIs n (Done m) = n ≡ m
NumberIs n (Expired m) = n ≡ m

-- the word that a tag in this state may have
abbrev pub Fits : TagState → WordSeen → Type 0
Fits tag.Free w = w ≡ Free
Fits (tag.Armed n) w = (w ≡ Armed n) ⊎ ((by : By) × (w ≡ claimed_word n by))
Fits (tag.Owned n by) w = w ≡ claimed_word n by
