-- What an honest lower layer does with its attempts as a group is added to a journal. P has the newest entry first.
use Rattle.std.specs.Prelude.{ℕ, true, List, [], ◌∷◌, filter}
use Rattle.mid_base.specs.declared.entries.Entry.{Entry}
use Rattle.mid_base.specs.declared.entries.Entry.TheVariants.{Sent, Bounced, Ready, Aborted, Act}
use Rattle.mid_base.specs.declared.host_spec.HostSpec.{HostSpec}
use Rattle.mid_base.specs.Levels.{level_of}
use Rattle.disposition.specs.Ladder.{is_in_scope}
use Rattle.host_template.specs.declared.queued.Queued.TheVariants.{Taken}
use Rattle.host_template.specs.Meaning.{Meaning, IsFree, NothingAdded, HonestQueue, HonestWork}
use Rattle.trace_model.specs.Names.{dev_of}
use Rattle.trace_model.specs.Recovery.{todo}
use Rattle.escalation.specs.Climbing.{HonestAct}

-- it holds n no longer, and nothing else besides what it held
abbrev pub TakesBack : ℕ → Meaning → Meaning → Type 0
TakesBack n old new = IsFree new n × NothingAdded old new

-- by the entry that opens the group
abbrev pub HonestOpener : HostSpec → List Entry → Entry → Meaning → Meaning → Type 0
HonestOpener s P (Sent c n t) old new = HonestQueue n.0 (dev_of s c.0) Taken old new
HonestOpener s P (Bounced c n why) old new = TakesBack n.0 old new
HonestOpener s P (Ready n a) old new = HonestWork (n, a) old new
HonestOpener s P (Aborted c n true) old new = TakesBack n.0 old new
HonestOpener s P (Act level scope ok) old new = HonestAct (level_of level) scope ok (filter (is_in_scope scope) (todo s P)) old new
HonestOpener s P e old new = NothingAdded old new

-- a Sent may be followed by its Bounced
abbrev pub HonestGroup : HostSpec → List Entry → List Entry → Meaning → Meaning → Type 0
HonestGroup s P (Sent c n t ∷ Bounced d m why ∷ []) old new = TakesBack n.0 old new
HonestGroup s P (e ∷ g) old new = HonestOpener s P e old new
HonestGroup s P [] old new = NothingAdded old new
