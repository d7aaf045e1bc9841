-- Whether an answer is due, by the adapter's table and by the words of the journal.
use Rattle.std.proofs.Common.{◌≡◌, ℕ, zero, suc, Bool, true, false, List, [], ◌∷◌, Option, None, Some, refl, ap, ◌∙◌, inl, inr}
use Rattle.std.specs.Prelude.{filter_map, slice_index_or}
use Rattle.std.specs.List.{list_any}
use Rattle.std.proofs.lemmas.Bool.{cases_Bool}
use Rattle.mid_base.specs.declared.entries.Entry.{Entry}
use Rattle.mid_base.specs.declared.host_spec.HostSpec.{HostSpec}
use Rattle.mid_base.specs.Past.{ticks}
use Rattle.adapter_tables.specs.declared.held.Held.{Held}
use Rattle.adapter_tables.specs.Held.{held, is_due, is_due_held}
use Rattle.adapter_tables.specs.Ties.{any_due}
use Rattle.adapter_tables.specs.TablesOf.{plan_of, rows_of, units_of}
use Rattle.debug_adapter.specs.declared.adapter.DebugAdapter.{DebugAdapter}
use Rattle.debug_adapter.specs.Adapter.{AdapterStands}
use Rattle.debug_adapter.specs.Laws.{tick_law}
use Rattle.host_template.specs.Standing.{Before}
use Rattle.drain_rounds.specs.Making.{IsDueAfter}

some_passes : (f : Held → Bool) (xs : List (Option Held)) → list_any f (filter_map (λ slot. slot) xs) ≡ true
    → (k : ℕ) × (h : Held) × (slice_index_or xs k None ≡ Some h) × (f h ≡ true)
some_passes f [] e = absurd (cc)
some_passes f (None ∷ xs) e = let later = some_passes f xs e in (suc later.0, later.1, later.2, later.3)
some_passes f (Some h ∷ xs) e = elim (cases_Bool (f h)) [
  | inl is ↦ (zero, h, refl, is)
  | inr isnt ↦ let later = some_passes f xs (rw isnt at e) in (suc later.0, later.1, later.2, later.3)
]

pub due_is : (x : DebugAdapter) (s : HostSpec) (b : Before) (P : List Entry) → AdapterStands x s b P → IsDueAfter s b P (any_due x.held (ticks P))
due_is x s b P stands = by (any_due x.held (ticks P)) refl
  where
    by : (due : Bool) → any_due x.held (ticks P) ≡ due → IsDueAfter s b P due
    by true e =
        let some = some_passes (λ h. is_due (ticks P) h.due) x.held.slots e in
        let held_so : held s b P some.1.n.0 ≡ Some some.1 = (stands.2 some.1.n.0 some.1).1 (refl, (some.0, some.2)) in
        (some.1.n.0, ap (is_due_held (ticks P)) held_so ∙ some.3)
    by false e = (tick_law (plan_of x.plan) x.held (rows_of x.rows) (units_of x.units) s b P e stands).5.0
