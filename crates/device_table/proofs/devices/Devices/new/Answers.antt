use Rattle.std.proofs.Common.{◌≡◌, ◌∙◌, sym, ap, subst, refl, ℕ, zero, suc, replicate, ◌<◌, ◌≤◌, true, List, [], ◌∷◌, length, get_or, map, None, arith}
use Rattle.std.proofs.lemmas.Bool.{and_parts, leb-true}
use Rattle.mid_base.specs.declared.names.DevAddr.{DevAddr}
use Rattle.std.specs.Prelude.{nat_le}
use Rattle.std.specs.List.{list_all}
use Rattle.mid_base.specs.declared.host_spec.LunSpec.{LunSpec}
use Rattle.mid_base.specs.Limits.{differ_in_address}
use Rattle.tag_pool.specs.Depths.{at_start}
use Rattle.device_table.specs.Rows.{start_row, scripted}
use Rattle.device_table.proofs.Taking.{starts}
use Rattle.device_table.proofs.devices.Devices.new.Goals as goal

deep_at : (ls : List LunSpec) → list_all (λ l. nat_le 1 l.depth) ls ≡ true → (k : ℕ) (d : DevAddr × ℕ) → k < length (map scripted ls) → 1 ≤ (get_or (map scripted ls) k d).1
deep_at [] h k d lt = absurd (omega (arith, lt))
deep_at (l ∷ ls) h zero d lt = leb-true 1 l.depth (and_parts (nat_le 1 l.depth) (list_all (λ x. nat_le 1 x.depth) ls) h).0
deep_at (l ∷ ls) h (suc k) d lt = deep_at ls (and_parts (nat_le 1 l.depth) (list_all (λ x. nat_le 1 x.depth) ls) h).1 k d (omega (arith, lt))

pub new-requires : goal.new-requires
new-requires c k d lt =
    subst (λ (xs : List (DevAddr × ℕ)). 1 ≤ (get_or xs k d).1) (sym (c.deref.ensures.value ∙ c.in_ok-scripted.ensures))
    (deep_at c.args.luns.now c.requires.deep k d (subst (λ (xs : List (DevAddr × ℕ)). k < length xs) (c.deref.ensures.value ∙ c.in_ok-scripted.ensures) lt))

pub returns : goal.returns
returns c s queue luns ids =
    starts s _ (ap differ_in_address luns ∙ c.requires.apart) ids (c.in_ok-rows.ensures ∙ ap (map start_row) (sym luns)) refl
    (c.in_ok-pool.ensures.tags ∙ ap (λ (n : ℕ). replicate n None) (sym queue))
    (c.in_ok-pool.ensures.devices ∙ ap (map at_start) (c.deref.ensures.value ∙ c.in_ok-scripted.ensures) ∙ ap (λ (ls : List LunSpec). map at_start (map scripted ls)) (sym luns))
