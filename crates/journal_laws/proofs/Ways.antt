-- How an entry comes to stand.
use Rattle.std.proofs.Common.{◌≡◌, ◌⊎◌, List, ◌∷◌, refl, inl, inr}
use Rattle.mid_base.specs.declared.entries.Entry.{Entry}
use Rattle.mid_base.specs.declared.host_spec.HostSpec.{HostSpec}
use Rattle.trace_model.specs.Recovery.{failed}
use Rattle.trace_model.specs.Course.{Course, over, next, ask, fetch, Meets}
use Rattle.trace_model.specs.Rules.{Allowed}
use Rattle.trace_model.specs.Legal.{owed, Stands, EachStands}
use Rattle.trace_model.proofs.Owes.{End, meets_owes}
use Rattle.trace_model.proofs.After.{Named, Names, owed_names}

-- an entry opens a group, or it is owed
abbrev pub Way : HostSpec → List Entry → Course → Entry → Type 0
Way s P k e = ((k ≡ over) × Allowed s P e) ⊎ (Meets k e × (Named (failed P) e ⊎ End e))

owed_way : (P : List Entry) (k : Course) (e : Entry) → Meets k e → Names P k → Meets k e × (Named (failed P) e ⊎ End e)
owed_way P k e m (inl h) = (m, inl (meets_owes (Named (failed P)) k e h m))
owed_way P k e m (inr h) = (m, inr (meets_owes End k e h m))

way_by : (s : HostSpec) (P : List Entry) (k : Course) (e : Entry) → Stands k s P e → Names P k → Way s P k e
way_by s P over e st h = inl (refl, st)
way_by s P (next x k) e st h = inr (owed_way P (next x k) e st h)
way_by s P (ask d code want k) e st h = inr (owed_way P (ask d code want k) e st h)
way_by s P (fetch c n k) e st h = inr (owed_way P (fetch c n k) e st h)

pub way : (s : HostSpec) (P : List Entry) (e : Entry) → EachStands s (e ∷ P) → Way s P (owed s P) e
way s P e each = way_by s P (owed s P) e each.0 (owed_names s P each.1)
