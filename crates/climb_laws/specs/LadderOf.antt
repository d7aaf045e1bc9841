-- The ladder that stands at a journal. Everywhere P has the newest entry first.
use Rattle.std.specs.Prelude.{◌≡◌, ℕ, ◌==◌, Bool, true, false, List, ◌∷◌, map, filter, ⊤}
use Rattle.std.specs.List.{list_any}
use Rattle.mid_base.specs.declared.answers.Scope.{Scope}
use Rattle.mid_base.specs.declared.entries.Entry.{Entry}
use Rattle.mid_base.specs.declared.entries.Entry.TheVariants.{Took, Ready, Late, Told, EhBegin, Cleared, Tick}
use Rattle.mid_base.specs.declared.host_spec.HostSpec.{HostSpec}
use Rattle.mid_base.specs.Levels.{not_online, number}
use Rattle.disposition.specs.Ladder.{pairs, beyond}
use Rattle.trace_model.specs.Attempts.{is_open}
use Rattle.trace_model.specs.Devices.{has_begun}
use Rattle.trace_model.specs.Recovery.{Failure, failed, listed, todo, last_act, is_quiet}
use Rattle.trace_model.specs.Flush.{is_empty}
use Rattle.trace_model.specs.Rules.{is_lost}
use Rattle.trace_model.specs.Legal.{Group, onto}
use Rattle.escalation.specs.Climbing.{Climb, IsNextAct}

-- the ladder has what the journal leaves to do, and ahead what the failed commands could want beyond the last act
pub record IsLadderOf (s : HostSpec) (P : List Entry) (k : Climb) : Type 0 where
  pub left : k.left ≡ todo s P
  pub ahead : is_empty (todo s P) ≡ false → k.ahead ≡ beyond (last_act P) (pairs (listed s P))
  pub handlers : k.handlers ≡ s.handlers
  pub aborts : k.aborts ≡ s.no_async_abort

-- what follows EhBegin: the failed commands of devices that aren't online are cleared
abbrev pub lost_cleared : HostSpec → List Entry → List Entry
lost_cleared s P = map (λ x. Cleared x.cmd (number not_online)) (filter (is_lost s P) (listed s P))

-- the journal where recovery has begun
abbrev pub begun_at : HostSpec → List Entry → List Entry
begun_at s P = onto (lost_cleared s P) (EhBegin ∷ P)

-- these entries tell the next act of a ladder that stands at a journal in recovery
pub record IsActAt (s : HostSpec) (P : List Entry) (k : Climb) (level : ℕ) (scope : Scope) (ok : Bool) (es : List Entry) : Type 0 where
  pub begun : has_begun P ≡ true
  pub quiet : is_quiet s P ≡ true
  pub ladder : IsLadderOf s P k
  pub act : IsNextAct k level scope ok es

-- entries that are a group by the rules lead to where a ladder stands, and no command leaves the failed list
pub record LeadTo (s : HostSpec) (P es : List Entry) (k : Climb) : Type 0 where
  pub group : Group s P es
  pub ladder : IsLadderOf s (onto es P) k
  pub begun : has_begun (onto es P) ≡ true
  pub failed : failed (onto es P) ≡ failed P

-- the command is on the failed list
abbrev pub is_on_list : ℕ → List Failure → Bool
is_on_list c fs = list_any (λ f. f.cmd.0 == c) fs

-- entries that leave recovery's list as it is: an answer of an attempt that is over, and a report of a command that hasn't failed, among others
abbrev pub LeavesList : List Entry → Entry → Type 0
LeavesList P (Took c) = ⊤
LeavesList P (Late n) = ⊤
LeavesList P Tick = ⊤
LeavesList P (Ready n a) = is_open n.0 P ≡ false
LeavesList P (Told c a) = is_on_list c.0 (failed P) ≡ false
LeavesList P e = ⊥
