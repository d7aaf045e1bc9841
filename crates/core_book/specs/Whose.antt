-- Which command each entry of a journal is of.
use Rattle.std.specs.Prelude.{◌≡◌, ℕ, List, [], ◌∷◌, Option, None, Some, nat_eq, unwrap_or}
use Rattle.std.specs.HashMap.{HashMap, get}
use Rattle.mid_base.specs.declared.entries.Entry.{Entry}
use Rattle.mid_base.specs.declared.entries.Entry.TheVariants.{Took, Sent, Bounced, Ready, Due, Longer, DoneSaid, Owned, Late, Judged, AbortSet, Aborted, Failed, Cleared, Sensed, Again, Told}
use Rattle.mid_base.specs.Past.{sent_for}

-- the command that entry e names, or that its attempt was sent for, where P, the newest first, stands before it
abbrev pub whose : Entry → List Entry → Option ℕ
whose (Took c) P = Some c.0
whose (Sent c n t) P = Some c.0
whose (Bounced c n why) P = Some c.0
whose (Judged c n x) P = Some c.0
whose (AbortSet c n) P = Some c.0
whose (Aborted c n ok) P = Some c.0
whose (Failed c n x) P = Some c.0
whose (Cleared c level) P = Some c.0
whose (Sensed c n s) P = Some c.0
whose (Again c counted) P = Some c.0
whose (Told c a) P = Some c.0
whose (Ready n a) P = Some (sent_for n.0 P)
whose (Due n) P = Some (sent_for n.0 P)
whose (Longer n) P = Some (sent_for n.0 P)
whose (DoneSaid n) P = Some (sent_for n.0 P)
whose (Owned n by) P = Some (sent_for n.0 P)
whose (Late n) P = Some (sent_for n.0 P)
whose _ P = None

-- the same for each entry of es, where P, the newest first, stands before them
abbrev pub all_whose : List Entry → List Entry → List (Option ℕ)
all_whose P [] = []
all_whose P (e ∷ es) = whose e P ∷ all_whose (e ∷ P) es

-- the command that a map has for an attempt, or 0
abbrev pub command_of : {S : Type 0} → HashMap ℕ ℕ S → ℕ → ℕ
command_of m n = unwrap_or (get nat_eq m n) 0

-- the map has the command of each attempt that P sends
abbrev pub KnowsSent : {S : Type 0} → List Entry → HashMap ℕ ℕ S → Type 0
KnowsSent P m = (n : ℕ) → command_of m n ≡ sent_for n P
