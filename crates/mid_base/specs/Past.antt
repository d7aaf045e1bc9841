-- What a list of entries says, looking back over it: the few words that the layers below the journal's rules need.
-- P has the newest entry first. Commands and attempts are told by their numbers; 0 is none.
use Rattle.std.specs.Prelude.{ℕ, ◌+◌, ◌==◌, Bool, true, false, if◌then◌else◌, List, [], ◌∷◌, Option, find}
use Rattle.mid_base.specs.declared.entries.Entry.{Entry}
use Rattle.mid_base.specs.declared.entries.Entry.TheVariants.{Sent, Tick}
use Rattle.mid_base.specs.declared.host_spec.CmdSpec.{CmdSpec}
use Rattle.mid_base.specs.declared.host_spec.HostSpec.{HostSpec}

-- the present tick
abbrev pub ticks : List Entry → ℕ
ticks [] = 0
ticks (Tick ∷ P) = ticks P + 1
ticks (_ ∷ P) = ticks P

-- attempt n was sent
abbrev pub was_sent : ℕ → List Entry → Bool
was_sent n [] = false
was_sent n (Sent c m t ∷ P) = if m.0 == n then true else was_sent n P
was_sent n (_ ∷ P) = was_sent n P

-- the command that attempt n was sent for
abbrev pub sent_for : ℕ → List Entry → ℕ
sent_for n [] = 0
sent_for n (Sent c m t ∷ P) = if m.0 == n then c.0 else sent_for n P
sent_for n (_ ∷ P) = sent_for n P

-- the last attempt of command c
abbrev pub attempt_of : ℕ → List Entry → ℕ
attempt_of c [] = 0
attempt_of c (Sent d n t ∷ P) = if d.0 == c then n.0 else attempt_of c P
attempt_of c (_ ∷ P) = attempt_of c P

-- what the spec says of command c
abbrev pub find_command : HostSpec → ℕ → Option CmdSpec
find_command s c = find (λ k. k.id.0 == c) s.cmds
