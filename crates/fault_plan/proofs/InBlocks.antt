-- A plan in blocks is looked up block by block.
use Rattle.std.proofs.Common.{◌≡◌, ℕ, ◌+◌, ◌<◌, inl, inr, List, [], ◌∷◌, ◌++◌, length, take, drop, get_or, Option, None, Some, refl, sym, ap, ◌∙◌}
use Rattle.std.specs.List.{flat_map}
use Rattle.std.proofs.lemmas.Bool.{cases_Bool}
use Rattle.std.proofs.lemmas.Grind.{flat_map-append}
use Rattle.std.proofs.lemmas.List.{append-nil, take-append-drop, take_more, drop_more}
use Rattle.mid_base.specs.declared.names.DevAddr.{DevAddr}
use Rattle.mid_base.specs.declared.faults.Fault.{Fault}
use Rattle.mid_base.specs.declared.faults.PlanEntry.{PlanEntry}
use Rattle.fault_plan.specs.declared.blocks.Block.{Block}
use Rattle.fault_plan.specs.declared.class.Class.{Class}
use Rattle.fault_plan.specs.Lines.{lines_of_blocks}
use Rattle.fault_plan.specs.Plan.{is_hit, planned}

-- where the front of a plan isn't hit, the rest counts
planned_behind : (xs ys : List PlanEntry) (dev : DevAddr) (class : Class) (nth : ℕ) → planned xs dev class nth ≡ None → planned (xs ++ ys) dev class nth ≡ planned ys dev class nth
planned_behind [] ys dev class nth none = refl
planned_behind (x ∷ xs) ys dev class nth none =
    elim (cases_Bool (is_hit dev class nth x)) [
      | inl t ↦ absurd (let h = rw t at none in cc h)
      | inr f ↦ rw f (planned_behind xs ys dev class nth (rw f at none))
    ]

-- where it is hit, nothing behind it counts
planned_front : (xs ys : List PlanEntry) (dev : DevAddr) (class : Class) (nth : ℕ) (fault : Fault) → planned xs dev class nth ≡ Some fault → planned (xs ++ ys) dev class nth ≡ Some fault
planned_front [] ys dev class nth fault hit = absurd (cc hit)
planned_front (x ∷ xs) ys dev class nth fault hit =
    elim (cases_Bool (is_hit dev class nth x)) [
      | inl t ↦ rw t (rw t at hit)
      | inr f ↦ rw f (planned_front xs ys dev class nth fault (rw f at hit))
    ]

blocks_next : (bs : List Block) (i : ℕ) (b : Block) → i < length bs → b ≡ get_or bs i b → lines_of_blocks (take (i + 1) bs) ≡ lines_of_blocks (take i bs) ++ b.lines.items
blocks_next bs i b lt is =
    ap lines_of_blocks (take_more bs i b lt ∙ ap (λ (x : Block). take i bs ++ x ∷ []) (sym is))
    ∙ (flat_map-append (λ (x : Block). x.lines.items) (take i bs) (b ∷ []) ∙ ap (λ (x : List PlanEntry). lines_of_blocks (take i bs) ++ x) (append-nil b.lines.items))

blocks_apart : (bs : List Block) (i : ℕ) → lines_of_blocks (take i bs) ++ lines_of_blocks (drop i bs) ≡ lines_of_blocks bs
blocks_apart bs i = sym (flat_map-append (λ (x : Block). x.lines.items) (take i bs) (drop i bs)) ∙ ap lines_of_blocks (take-append-drop i bs)

-- one block more that isn't hit
pub none_further : (bs : List Block) (i : ℕ) (b : Block) (dev : DevAddr) (class : Class) (nth : ℕ) → i < length bs → b ≡ get_or bs i b
    → planned (lines_of_blocks (take i bs)) dev class nth ≡ None → planned b.lines.items dev class nth ≡ None → planned (lines_of_blocks (take (i + 1) bs)) dev class nth ≡ None
none_further bs i b dev class nth lt is before here =
    ap (λ (es : List PlanEntry). planned es dev class nth) (blocks_next bs i b lt is)
    ∙ (planned_behind (lines_of_blocks (take i bs)) b.lines.items dev class nth before ∙ here)

-- the first block that is hit
pub first_block : (bs : List Block) (i : ℕ) (b : Block) (dev : DevAddr) (class : Class) (nth : ℕ) (fault : Fault) → i < length bs → b ≡ get_or bs i b
    → planned (lines_of_blocks (take i bs)) dev class nth ≡ None → planned b.lines.items dev class nth ≡ Some fault → planned (lines_of_blocks bs) dev class nth ≡ Some fault
first_block bs i b dev class nth fault lt is before here =
    ap (λ (es : List PlanEntry). planned es dev class nth) (sym (blocks_apart bs (i + 1)))
    ∙ planned_front (lines_of_blocks (take (i + 1) bs)) (lines_of_blocks (drop (i + 1) bs)) dev class nth fault
    (ap (λ (es : List PlanEntry). planned es dev class nth) (blocks_next bs i b lt is) ∙ (planned_behind (lines_of_blocks (take i bs)) b.lines.items dev class nth before ∙ here))
