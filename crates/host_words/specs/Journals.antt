-- What a list of entries says of an attempt. The oldest entry stands first.
use Rattle.std.specs.Prelude.{◌≡◌, ℕ, ◌⊎◌, List, [], ◌∷◌, ◌++◌}
use Rattle.mid_base.specs.declared.answers.Answer.{Answer}
use Rattle.mid_base.specs.declared.answers.By.{By}
use Rattle.mid_base.specs.declared.answers.By.TheVariants.{Answer as ByAnswer, Expiry as ByExpiry}
use Rattle.mid_base.specs.declared.entries.Entry.{Entry}
use Rattle.mid_base.specs.declared.entries.Entry.TheVariants.{Sent, Ready, Due}
use Rattle.mid_base.specs.declared.names.Attempt.{Attempt}
use Rattle.mid_base.specs.declared.names.CmdId.{CmdId}

abbrev pub Journal : Type 0
Journal = List Entry

-- ys begins with xs
abbrev pub IsPrefix : Journal → Journal → Type 0
IsPrefix xs ys = (more : Journal) × (ys ≡ xs ++ more)

abbrev pub In : {A : Type 0} → A → List A → Type 0
In x [] = ⊥
In x (y ∷ ys) = (x ≡ y) ⊎ In x ys

-- attempt n of command c was sent under tag t
abbrev pub sent : CmdId → Attempt → ℕ → Entry
sent c n t = Sent c n (record { 0 = t })

-- attempt n was sent under tag t
abbrev pub HasSent : Journal → ℕ → Attempt → Type 0
HasSent j t n = (c : CmdId) × In (sent c n t) j

-- an answer of n stands there, or that its time was up
abbrev pub Tells : Attempt → By → Journal → Type 0
Tells n ByAnswer j = (a : Answer) × In (Ready n a) j
Tells n ByExpiry j = In (Due n) j

-- n was sent under tag t, and was answered, or its time was up, after that
abbrev pub HasCause : Journal → ℕ → Attempt → By → Type 0
HasCause j t n by = (c : CmdId) × (before after : Journal) × (j ≡ before ++ sent c n t ∷ after) × Tells n by after
