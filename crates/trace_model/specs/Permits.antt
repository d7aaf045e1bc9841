-- What the other rules ask of an entry that is owed.
use Rattle.std.specs.Prelude.{◌≡◌, true, List, ⊤}
use Rattle.mid_base.specs.declared.entries.Entry.{Entry}
use Rattle.mid_base.specs.declared.entries.Entry.TheVariants.{Judged, Failed, Cleared, Sensed, Again, Told, Probe, Offline}
use Rattle.mid_base.specs.declared.host_spec.HostSpec.{HostSpec}
use Rattle.trace_model.specs.Attempts.{owner, is_by_answer}
use Rattle.trace_model.specs.Devices.{has_begun}
use Rattle.trace_model.specs.Recovery.{is_quiet}

-- recovery has begun, and every busy command is failed
pub record IsWithin (s : HostSpec) (P : List Entry) : Type 0 where
  pub quiet : is_quiet s P ≡ true
  pub begun : has_begun P ≡ true

-- An answer is judged only where it owns its attempt; recovery's entries stand only within it. Of a failure, a retry and a
-- report no other rule says anything, and no other entry is ever owed.
abbrev pub Permits : HostSpec → List Entry → Entry → Type 0
Permits s P (Judged c n d) = is_by_answer (owner n.0 P) ≡ true
Permits s P (Cleared c level) = IsWithin s P
Permits s P (Sensed c n sense) = IsWithin s P
Permits s P (Probe d code say) = IsWithin s P
Permits s P (Offline d) = IsWithin s P
Permits s P (Failed c n cancelled) = ⊤
Permits s P (Again c counted) = ⊤
Permits s P (Told c a) = ⊤
Permits s P e = ⊥
