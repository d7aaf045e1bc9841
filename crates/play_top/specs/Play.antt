-- What a run of the program did.
use Rattle.std.specs.Prelude.{◌≡◌, ℕ, ◌⊎◌, Bool, true, false, List, [], Option, None, Some, Ok, Err}
use Rattle.std.specs.Io.KnownBytes.{Appends}
use Rattle.mid_base.specs.declared.steps.Why.{Why}
use Rattle.mid_io.specs.Whole.{IsCutShort}
use Rattle.script_text.specs.declared.script.Script.{Script}
use Rattle.script_text.specs.declared.script.Bad.{Bad}
use Rattle.play_top.specs.Reading.{Says, IsReadOut}
use Rattle.play_words.specs.declared.mode.Mode.{Mode}
use Rattle.play_words.specs.declared.mode.Mode.TheVariants as mode
use Rattle.play_words.specs.Words.{mode_of}
use Rattle.drain_rounds.specs.Making.{HostRun}
use Rattle.play_sched.specs.Played.{Ran}
use Rattle.made_script.specs.Made.{made}
use Rattle.play_top.specs.Texts.{played_text, bad_text, made_text}

abbrev pub is_script : Option Mode → Bool
is_script (Some mode.Script) = true
is_script mode = false

-- the words of the command line ask for the script of the source
abbrev pub asks_for_script : List (List ℕ) → Bool
asks_for_script words = is_script (mode_of words)

-- the source was read to its end, its bytes are a good script, the script was played, and the text of the journals written;
-- `short` says that the rounds of the script were used up with a host that isn't drained
pub record IsPlayedRun (short : Bool) (left left_new old new : Option (List ℕ)) : Type 0 where
  pub script : Script
  pub says : Says left (Ok script)
  pub ended : IsReadOut left left_new
  pub runs : List HostRun
  pub skips : List (ℕ × Why)
  pub ran : Ran script runs skips short
  pub written : Appends old new (played_text runs skips)

-- the script that so many commands ask for was played, and the summary of its journal written
pub record IsMadeRun (count : ℕ) (old new : Option (List ℕ)) : Type 0 where
  pub runs : List HostRun
  pub skips : List (ℕ × Why)
  pub short : Bool
  pub ran : Ran (made count) runs skips short
  pub written : Appends old new (made_text count runs)

-- what the words asked for was done; a script that is made reads nothing
abbrev pub IsDone : {A : Type 0} → Option Mode → A → A → Option (List ℕ) → Option (List ℕ) → Option (List ℕ) → Option (List ℕ) → Type 0
IsDone None src src_new left left_new old new = ⊥
IsDone (Some mode.Script) src src_new left left_new old new = IsPlayedRun false left left_new old new
IsDone (Some (mode.Make count)) src src_new left left_new old new = (src_new ≡ src) × IsMadeRun count old new

-- the source's bytes are a bad script, and its first bad line with its kind was written
pub record IsBadRun (left old new : Option (List ℕ)) : Type 0 where
  pub bad : Bad
  pub says : Says left (Err bad)
  pub written : Appends old new (bad_text bad)

-- a front of the text, or of a bad script's line, was written, or nothing at all
abbrev pub IsCutOff : Option (List ℕ) → Option (List ℕ) → Option (List ℕ) → Type 0
IsCutOff left old new =
    ((bad : Bad) × Says left (Err bad) × IsCutShort old new (bad_text bad))
    ⊎ ((script : Script) × (runs : List HostRun) × (skips : List (ℕ × Why)) × (short : Bool)
    × Says left (Ok script) × Ran script runs skips short × IsCutShort old new (played_text runs skips))
    ⊎ Appends old new []

-- a front of the summary was written, or nothing at all
abbrev pub IsMadeCut : ℕ → Option (List ℕ) → Option (List ℕ) → Type 0
IsMadeCut count old new =
    ((runs : List HostRun) × (skips : List (ℕ × Why)) × (short : Bool)
    × Ran (made count) runs skips short × IsCutShort old new (made_text count runs))
    ⊎ Appends old new []

-- a front of what was asked for was written
abbrev pub IsCutBy : {A : Type 0} → Option Mode → A → A → Option (List ℕ) → Option (List ℕ) → Option (List ℕ) → Type 0
IsCutBy None src src_new left old new = ⊥
IsCutBy (Some mode.Script) src src_new left old new = IsCutOff left old new
IsCutBy (Some (mode.Make count)) src src_new left old new = (src_new ≡ src) × IsMadeCut count old new
