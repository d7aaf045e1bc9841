-- What the table answers.
use Rattle.std.proofs.Common.{◌≡◌, ◌∙◌, sym, ap, subst, refl, ℕ, zero, suc, ◌+◌, ◌<◌, ◌≤◌, ◌==◌, Bool, true, false, not, ◌&&◌, ◌||◌, cond, List, [], ◌∷◌, length, map, None, Some, arith, inl, inr}
use Rattle.std.specs.Prelude.{slice_get, count_by, nat_lt}
use Rattle.std.specs.List.{list_all}
use Rattle.std.proofs.lemmas.Bool.{cases_Bool, false≢true, eq-eqb, eqb-true, ne_eqb, and_parts, ltb-true}
use Rattle.std.proofs.lemmas.List.Sums.{sum_by-cons, count_by-le-length}
use Rattle.std.proofs.lemmas.Option.{same_Some, none-some, slice_get_past, slice_get_within}
use Rattle.mid_base.specs.declared.entries.Entry.{Entry}
use Rattle.mid_base.specs.declared.host_spec.CmdSpec.{CmdSpec}
use Rattle.mid_base.specs.declared.host_spec.HostSpec.{HostSpec}
use Rattle.mid_base.specs.declared.names.LaneNo.{LaneNo}
use Rattle.mid_base.specs.Limits.{differ_in_id}
use Rattle.trace_model.specs.declared.standing.Standing.{Standing}
use Rattle.trace_model.specs.declared.standing.Standing.TheVariants.{New, Waits, Busy, Ended}
use Rattle.trace_model.specs.Commands.{standing, is_new}
use Rattle.trace_model.specs.Drained.{is_done, was_taken, was_told}
use Rattle.trace_model.specs.Sending.{next_of_lane, is_left as is_left_in}
use Rattle.command_table.specs.declared.rows.CommandRow.{CommandRow}
use Rattle.command_table.specs.declared.rows.Taken.{Taken}
use Rattle.command_table.specs.declared.commands.Commands.{Commands}
use Rattle.command_table.specs.Rows.{row_of, has_ended, is_out, AreFor, is_left, first_left, IsHoused, start_row, home, waits_at}
use Rattle.command_table.specs.Sets.{has, out_of}
use Rattle.mid_base.specs.declared.names.DevAddr.{DevAddr}
use Rattle.mid_base.specs.declared.host_spec.LunSpec.{LunSpec}
use Rattle.mid_base.specs.Address.{same_dev, has_dev}
use Rattle.command_table.specs.CommandsAgree.{Reads, ArePointed, CommandsAgree, IsNext}
use Rattle.command_table.proofs.Places.{starts_for, next_is, both_at, command_at, first_is, first_passes}
use Rattle.command_table.proofs.Entries.{reads_at}

same_length : (luns : List LunSpec) (ks : List CmdSpec) (rs : List CommandRow) → AreFor luns ks rs → length ks ≡ length rs
same_length luns [] [] are = refl
same_length luns (k ∷ ks) (r ∷ rs) are = ap suc (same_length luns ks rs are.3)
same_length luns [] (r ∷ rs) are = absurd are
same_length luns (k ∷ ks) [] are = absurd are

module _ (s : HostSpec) (P : List Entry) (t : Commands) (f : CommandsAgree s P t) where
  -- the rows tell which command of the spec is the next of a lane
  left_is : (lane i : ℕ) (k : CmdSpec) (r : CommandRow) → slice_get s.cmds i ≡ Some k → slice_get t.rows.items i ≡ Some r → is_left_in lane P k ≡ is_left lane r
  left_is lane i k r one other =
      let same = both_at s.luns s.cmds t.rows.items f.rows_are i k r one other in
      let stands : standing r.id.0 P ≡ r.standing = (reads_at s P t f i r other).0 in
      rw (← same.0, ← same.1, stands) refl

  next_of : (lane : ℕ) → next_of_lane s P lane ≡ slice_get s.cmds (first_left lane t.rows.items)
  next_of lane = next_is (is_left_in lane P) lane s.luns s.cmds t.rows.items f.rows_are (left_is lane)

  pub next_row : (lane i : ℕ) (r : CommandRow) → slice_get t.cursors.items lane ≡ Some i → lane < 64 → slice_get t.rows.items i ≡ Some r → IsNext s P t lane i
  next_row lane i r cursor lt at =
      let first : i ≡ first_left lane t.rows.items = same_Some i (first_left lane t.rows.items) (sym cursor ∙ f.pointed lane lt) in
      let left : is_left lane r ≡ true = first_passes lane t.rows.items r (ap (slice_get t.rows.items) (sym first) ∙ at) in
      let parts = and_parts (r.lane.0 == lane) (is_new r.standing) left in
      let has_lane : r.lane.0 ≡ lane = eqb-true r.lane.0 lane parts.0 in
      let here = command_at s.luns s.cmds t.rows.items f.rows_are i r at in
      let same = both_at s.luns s.cmds t.rows.items f.rows_are i here.0 r here.1 at in
      record {
        command = here.0;
        stands_at = here.1;
        next = next_of lane ∙ ap (slice_get s.cmds) (sym first) ∙ here.1;
        id = rw at (ap Some same.0);
        lane_is = ap (λ (l : LaneNo). l.0) (sym same.1) ∙ has_lane;
        fresh = rw at (ap Some (new_is r.standing parts.1));
        housed = f.housed i;
        first = λ q get. let e : r ≡ q = same_Some r q (sym at ∙ get) in first ∙ ap (λ (l : ℕ). first_left l t.rows.items) (sym has_lane ∙ ap (λ (x : CommandRow). x.lane.0) e);
      }
    where
      new_is : (x : Standing) → is_new x ≡ true → x ≡ New
      new_is New h = refl
      new_is Waits h = absurd (false≢true h)
      new_is (Busy n u) h = absurd (false≢true h)
      new_is Ended h = absurd (false≢true h)

  pub no_next : (lane i : ℕ) → slice_get t.cursors.items lane ≡ Some i → lane < 64 → length t.rows.items ≤ i → next_of_lane s P lane ≡ None
  no_next lane i cursor lt past =
      let first : i ≡ first_left lane t.rows.items = same_Some i (first_left lane t.rows.items) (sym cursor ∙ f.pointed lane lt) in
      next_of lane ∙ ap (slice_get s.cmds) (sym first) ∙ slice_get_past s.cmds i (omega (arith, past, same_length s.luns s.cmds t.rows.items f.rows_are))

  -- no command has a lane that isn't one
  pub no_lane : (lane : ℕ) → 64 ≤ lane → next_of_lane s P lane ≡ None
  no_lane lane past =
      let none : length t.rows.items ≡ first_left lane t.rows.items =
      first_is lane t.rows.items (length t.rows.items) (λ k r lt at. other k r at) (λ r at. absurd (outside r at)) (omega arith)
      in
      next_of lane ∙ ap (slice_get s.cmds) (sym none) ∙ slice_get_past s.cmds (length t.rows.items) (omega (arith, same_length s.luns s.cmds t.rows.items f.rows_are))
    where
      other : (k : ℕ) (r : CommandRow) → slice_get t.rows.items k ≡ Some r → is_left lane r ≡ false
      other k r at =
          let apart : (r.lane.0 == lane) ≡ false = ne_eqb r.lane.0 lane (λ e. absurd (omega (arith, e, past, f.lanes k r at))) in
          rw apart refl

      outside : (r : CommandRow) → slice_get t.rows.items (length t.rows.items) ≡ Some r → ⊥
      outside r at = omega (arith, slice_get_within t.rows.items (length t.rows.items) r at)

  done_is : (i : ℕ) (k : CmdSpec) (r : CommandRow) → slice_get s.cmds i ≡ Some k → slice_get t.rows.items i ≡ Some r → is_done P k ≡ has_ended r
  done_is i k r one other =
      let same = both_at s.luns s.cmds t.rows.items f.rows_are i k r one other in
      let told : was_told k.id.0 P ≡ has_ended r = rw (← same.0) (reads_at s P t f i r other).2 in
      by_told (was_taken k.id.0 P) (was_told k.id.0 P) ∙ told
    where
      by_told : (a b : Bool) → (a || b) && (not a || b) ≡ b
      by_told true true = refl
      by_told true false = refl
      by_told false true = refl
      by_told false false = refl

  pub drained_is : list_all (is_done P) s.cmds ≡ (t.ended == length t.rows.items)
  drained_is = all_are s.luns s.cmds t.rows.items f.rows_are done_is ∙ all_counted t.rows.items ∙ ap (λ (n : ℕ). n == length t.rows.items) (sym f.ended)
    where
      all_are : (luns : List LunSpec) (ks : List CmdSpec) (rs : List CommandRow) → AreFor luns ks rs
          → ((i : ℕ) (k : CmdSpec) (r : CommandRow) → slice_get ks i ≡ Some k → slice_get rs i ≡ Some r → is_done P k ≡ has_ended r)
          → list_all (is_done P) ks ≡ list_all has_ended rs
      all_are luns [] [] are h = refl
      all_are luns (k ∷ ks) (r ∷ rs) are h = rw (h 0 k r refl refl, all_are luns ks rs are.3 (λ i j q a b. h (suc i) j q a b)) refl
      all_are luns [] (r ∷ rs) are h = absurd are
      all_are luns (k ∷ ks) [] are h = absurd are

      counted : (r : CommandRow) (rs : List CommandRow) → count_by has_ended (r ∷ rs) ≡ cond {A = ℕ} (has_ended r) 1 0 + count_by has_ended rs
      counted r rs = sum_by-cons {X = CommandRow} (λ q. cond (has_ended q) 1 0) r rs

      same_sum : (b : Bool) (n m : ℕ) → b ≡ (n == m) → b ≡ (1 + n == suc m)
      same_sum b n m h = elim (cases_Bool (n == m)) as (λ _. b ≡ (1 + n == suc m)) [
        | inl is ↦ h ∙ is ∙ sym (eq-eqb (1 + n) (suc m) (omega (arith, eqb-true n m is)))
        | inr isnt ↦ h ∙ isnt ∙ sym (ne_eqb (1 + n) (suc m) (λ e. false≢true (sym isnt ∙ eq-eqb n m (omega (arith, e)))))
      ]

      all_counted : (rs : List CommandRow) → list_all has_ended rs ≡ (count_by has_ended rs == length rs)
      all_counted [] = refl
      all_counted (r ∷ rs) = elim (cases_Bool (has_ended r)) as (λ _. list_all has_ended (r ∷ rs) ≡ (count_by has_ended (r ∷ rs) == length (r ∷ rs))) [
        | inl is ↦
            let more : count_by has_ended (r ∷ rs) ≡ 1 + count_by has_ended rs = subst (λ (b : Bool). count_by has_ended (r ∷ rs) ≡ cond {A = ℕ} b 1 0 + count_by has_ended rs) is (counted r rs) in
            let here : true && list_all has_ended rs ≡ (1 + count_by has_ended rs == suc (length rs)) = same_sum (list_all has_ended rs) (count_by has_ended rs) (length rs) (all_counted rs) in
            subst (λ (b : Bool). b && list_all has_ended rs ≡ (count_by has_ended (r ∷ rs) == suc (length rs))) (sym is)
            (subst (λ (n : ℕ). true && list_all has_ended rs ≡ (n == suc (length rs))) (sym more) here)
        | inr isnt ↦
            let less : count_by has_ended (r ∷ rs) ≡ 0 + count_by has_ended rs = subst (λ (b : Bool). count_by has_ended (r ∷ rs) ≡ cond {A = ℕ} b 1 0 + count_by has_ended rs) isnt (counted r rs) in
            let here : false ≡ (count_by has_ended (r ∷ rs) == suc (length rs)) =
            sym (ne_eqb (count_by has_ended (r ∷ rs)) (suc (length rs)) (λ e. absurd (omega (arith, e, less, count_by-le-length has_ended rs))))
            in
            subst (λ (b : Bool). b && list_all has_ended rs ≡ (count_by has_ended (r ∷ rs) == suc (length rs))) (sym isnt) here
      ]

home_within : (d : DevAddr) (luns : List LunSpec) → has_dev luns d ≡ true → home d luns < length luns
home_within d [] h = absurd (false≢true h)
home_within d (l ∷ luns) h = elim (cases_Bool (same_dev l.dev d)) as (λ _. home d (l ∷ luns) < length (l ∷ luns)) [
  | inl is ↦ rw is (omega arith)
  | inr isnt ↦
      let rest : has_dev luns d ≡ true = subst (λ (b : Bool). b || has_dev luns d ≡ true) isnt h in
      rw isnt (omega (arith, home_within d luns rest))
]

-- a table for a journal without entries
pub starts : (s : HostSpec) (t : Commands) → differ_in_id s.cmds ≡ true → list_all (λ k. nat_lt k.lane.0 64) s.cmds ≡ true → list_all (λ k. has_dev s.luns k.dev) s.cmds ≡ true
    → t.rows.items ≡ map (start_row s.luns) s.cmds → ArePointed t.rows.items t.cursors.items → length t.cursors.items ≡ 64 → t.taken.items ≡ [] → length t.waiting.items ≡ length s.luns → ((d j : ℕ) → has t.waiting.items d j ≡ false) → ((d : ℕ) → out_of t.waiting.items d ≡ 0) → t.ended ≡ 0 → CommandsAgree s [] t
starts s t ids lanes devices rows pointed count taken sets none outs ended = record {
  rows_are = rw rows (starts_for s.luns s.cmds);
  ids = ids;
  lanes = rw rows (start_lanes s.cmds lanes);
  reads = λ c. rw rows (start_reads c s.cmds);
  pointed = pointed;
  lane_count = count;
  order = rw taken refl;
  ordered = λ i r at fresh still. absurd (fresh (start_new s.cmds i r (rw rows at at)));
  placed = λ j x at. absurd (none-some x (rw taken at at));
  housed = λ i r at. rw sets (start_housed s.cmds devices i r (rw rows at at));
  set_count = sets;
  waiting = λ d j. none d j ∙ sym (ap (λ (xs : List Taken). waits_at t.rows.items xs d j) taken);
  out = λ d. outs d ∙ sym (rw rows (start_count (is_out d) (λ k. refl) s.cmds));
  ended = ended ∙ sym (rw rows (start_count has_ended (λ k. refl) s.cmds));
}
  where
    start_lanes : (ks : List CmdSpec) → list_all (λ k. nat_lt k.lane.0 64) ks ≡ true → (i : ℕ) (r : CommandRow) → slice_get (map (start_row s.luns) ks) i ≡ Some r → r.lane.0 < 64
    start_lanes [] h i r at = absurd (none-some r at)
    start_lanes (k ∷ ks) h zero r at =
        subst (λ (x : CommandRow). x.lane.0 < 64) (same_Some (start_row s.luns k) r at) (ltb-true k.lane.0 64 (and_parts (nat_lt k.lane.0 64) (list_all (λ j. nat_lt j.lane.0 64) ks) h).0)
    start_lanes (k ∷ ks) h (suc i) r at = start_lanes ks (and_parts (nat_lt k.lane.0 64) (list_all (λ j. nat_lt j.lane.0 64) ks) h).1 i r at

    start_reads : (c : ℕ) (ks : List CmdSpec) → Reads [] c (row_of c (map (start_row s.luns) ks))
    start_reads c [] = (refl, refl, refl, refl)
    start_reads c (k ∷ ks) = elim (cases_Bool (k.id.0 == c)) as (λ _. Reads [] c (row_of c (map (start_row s.luns) (k ∷ ks)))) [
      | inl is ↦ rw is (refl, refl, refl, refl)
      | inr isnt ↦ rw isnt (start_reads c ks)
    ]

    start_housed : (ks : List CmdSpec) → list_all (λ k. has_dev s.luns k.dev) ks ≡ true → (i : ℕ) → IsHoused i (map (start_row s.luns) ks) (length s.luns)
    start_housed [] h i r at = absurd (none-some r at)
    start_housed (k ∷ ks) h zero r at =
        subst (λ (x : CommandRow). x.device < length s.luns) (same_Some (start_row s.luns k) r at) (home_within k.dev s.luns (and_parts (has_dev s.luns k.dev) (list_all (λ j. has_dev s.luns j.dev) ks) h).0)
    start_housed (k ∷ ks) h (suc i) r at = start_housed ks (and_parts (has_dev s.luns k.dev) (list_all (λ j. has_dev s.luns j.dev) ks) h).1 i r at

    start_new : (ks : List CmdSpec) (i : ℕ) (r : CommandRow) → slice_get (map (start_row s.luns) ks) i ≡ Some r → r.standing ≡ New
    start_new [] i r at = absurd (none-some r at)
    start_new (k ∷ ks) zero r at = ap (λ (x : CommandRow). x.standing) (sym (same_Some (start_row s.luns k) r at))
    start_new (k ∷ ks) (suc i) r at = start_new ks i r at

    start_count : (p : CommandRow → Bool) → ((k : CmdSpec) → p (start_row s.luns k) ≡ false) → (ks : List CmdSpec) → count_by p (map (start_row s.luns) ks) ≡ 0
    start_count p none_is [] = refl
    start_count p none_is (k ∷ ks) =
        let cons : count_by p (map (start_row s.luns) (k ∷ ks)) ≡ cond (p (start_row s.luns k)) 1 0 + count_by p (map (start_row s.luns) ks) = sum_by-cons {X = CommandRow} (λ q. cond (p q) 1 0) (start_row s.luns k) (map (start_row s.luns) ks) in
        let none : ◌≡◌ {A = ℕ} (cond (p (start_row s.luns k)) 1 0) 0 = rw (none_is k) refl in
        omega (arith, cons, none, start_count p none_is ks)
