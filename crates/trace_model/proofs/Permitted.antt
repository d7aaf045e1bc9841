-- An entry that is owed is never one that another rule forbids.
use Rattle.std.proofs.Common.{List, [], ◌∷◌, ◌++◌, ⊎_elim}
use Rattle.mid_base.specs.declared.entries.Entry.{Entry}
use Rattle.mid_base.specs.declared.entries.Entry.TheVariants.{Judged, Failed, Cleared, Sensed, Again, Told, Probe, Offline}
use Rattle.mid_base.specs.declared.host_spec.HostSpec.{HostSpec}
use Rattle.trace_model.specs.Attempts.{owner}
use Rattle.trace_model.specs.Course.{Meets}
use Rattle.trace_model.specs.Legal.{owed, EachStands}
use Rattle.trace_model.specs.Permits.{IsWithin, Permits}
use Rattle.trace_model.proofs.Owes.{Calm, End, meets_owes}
use Rattle.trace_model.proofs.Quiet.{owed_quiet}
use Rattle.trace_model.proofs.Backed.{Backed, owed_backed}

pub calm_permitted : (s : HostSpec) (P : List Entry) (e : Entry) → Calm e → Backed (λ n. owner n P) e → IsWithin s P → Permits s P e
calm_permitted s P (Judged c n d) m b h = b
calm_permitted s P (Cleared c level) m b h = h
calm_permitted s P (Sensed c n x) m b h = h
calm_permitted s P (Probe d code say) m b h = h
calm_permitted s P (Offline d) m b h = h
calm_permitted s P e m b h = cc m

pub end_permitted : (s : HostSpec) (P : List Entry) (e : Entry) → End e → Permits s P e
end_permitted s P (Failed c n x) m = tt
end_permitted s P (Again c x) m = tt
end_permitted s P (Told c a) m = tt
end_permitted s P e m = cc m

pub permitted : (s : HostSpec) (P : List Entry) (e : Entry) → EachStands s P → Meets (owed s P) e → Permits s P e
permitted s P e each m = ⊎_elim
    (λ h. calm_permitted s P e (meets_owes Calm (owed s P) e h.1 m) (meets_owes (Backed (λ n. owner n P)) (owed s P) e (owed_backed s P each).owes m) h.0)
    (λ h. end_permitted s P e (meets_owes End (owed s P) e h m))
    (owed_quiet s P each)

-- what stands before is legal too
pub each_before : (s : HostSpec) (Q P : List Entry) → EachStands s (Q ++ P) → EachStands s P
each_before s [] P each = each
each_before s (e ∷ Q) P each = each_before s Q P each.1
