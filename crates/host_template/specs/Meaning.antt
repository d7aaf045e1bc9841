-- What a lower layer means by itself, whatever the journal.
use Rattle.std.specs.Prelude.{◌≡◌, ◌≢◌, ◌↔◌, ℕ, ◌⊎◌, Bool, true, false, List, [], ◌∷◌}
use Rattle.mid_base.specs.declared.names.DevAddr.{DevAddr}
use Rattle.mid_base.specs.declared.names.Attempt.{Attempt}
use Rattle.mid_base.specs.declared.answers.Answer.{Answer}
use Rattle.mid_base.specs.declared.answers.Scope.{Scope}
use Rattle.mid_base.specs.Address.{in_scope}
use Rattle.host_template.specs.declared.queued.Queued.{Queued}
use Rattle.host_template.specs.declared.queued.Queued.TheVariants.{Taken}
use Rattle.host_template.specs.declared.says.EhSay.{EhSay}
use Rattle.host_template.specs.declared.says.EhSay.TheVariants.{Success, Failed}

pub record Meaning : Type 0 where
  pub honest : Bool
  pub tells : Bool  -- it tells the attempts that it holds
  pub holds : List (ℕ × DevAddr)  -- these attempts by their numbers, each with its device

abbrev pub Holds : List (ℕ × DevAddr) → ℕ → DevAddr → Type 0
Holds [] n d = ⊥
Holds (x ∷ xs) n d = ((x.0 ≡ n) × (x.1 ≡ d)) ⊎ Holds xs n d

-- the attempt isn't held
abbrev pub IsFree : Meaning → ℕ → Type 0
IsFree m n = (d : DevAddr) → Holds m.holds n d → ⊥

-- neither whether it is honest has changed, nor whether it tells its attempts
pub record SameNature (old new : Meaning) : Type 0 where
  pub honest : new.honest ≡ old.honest
  pub tells : new.tells ≡ old.tells

-- nor which attempts it holds
pub record SameMeaning (old new : Meaning) : Type 0 where
  pub nature : SameNature old new
  pub holds : (n : ℕ) (d : DevAddr) → Holds new.holds n d ↔ Holds old.holds n d

-- this is so of a lower layer that is honest and tells its attempts
abbrev pub IfHonest : (Meaning → Meaning → Type 0) → Meaning → Meaning → Type 0
IfHonest P old new = old.honest ≡ true → old.tells ≡ true → P old new

-- each attempt that it holds was held before, on the same device
abbrev pub NothingAdded : Meaning → Meaning → Type 0
NothingAdded old new = (n : ℕ) (d : DevAddr) → Holds new.holds n d → Holds old.holds n d

-- `queue` holds the attempt exactly where it answers Taken, and then on the device of the call alone
abbrev pub HonestQueue : ℕ → DevAddr → Queued → Meaning → Meaning → Type 0
HonestQueue n dev Taken old new = Holds new.holds n dev × ((d : DevAddr) → Holds new.holds n d → d ≡ dev)
    × ((m : ℕ) (d : DevAddr) → m ≢ n → Holds new.holds m d → Holds old.holds m d)
HonestQueue n dev busy old new = IsFree new n × NothingAdded old new

-- `work` hands out an attempt that was held, and holds it no longer
abbrev pub HonestWork : Attempt × Answer → Meaning → Meaning → Type 0
HonestWork r old new = ((d : DevAddr) × Holds old.holds r.0.0 d) × IsFree new r.0.0 × NothingAdded old new

-- an abort that succeeds takes the attempt back
abbrev pub HonestAbort : ℕ → EhSay → Meaning → Meaning → Type 0
HonestAbort n Success old new = IsFree new n × NothingAdded old new
HonestAbort n Failed old new = NothingAdded old new

-- a reset that succeeds takes back the attempts of all devices in its scope
abbrev pub HonestReset : Scope → EhSay → Meaning → Meaning → Type 0
HonestReset scope Success old new =
    ((n : ℕ) (d : DevAddr) → Holds new.holds n d → in_scope scope d ≡ false) × NothingAdded old new
HonestReset scope Failed old new = NothingAdded old new
