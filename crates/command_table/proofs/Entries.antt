-- What each entry changes.
use Rattle.std.proofs.Common.{◌≡◌, ◌≢◌, ◌∙◌, sym, ap, subst, refl, ℕ, zero, suc, ◌+◌, ◌<◌, ◌≤◌, ◌==◌, ◌^◌, Bool, true, false, not, ◌&&◌, cond, List, [], ◌∷◌, ◌++◌, length, set, get_or, Option, Some, ◌⊎◌, arith, inl, inr}
use Rattle.std.proofs.lemmas.List.{length-set}
use Rattle.std.specs.Prelude.{Result, Ok, Err, OnErr, slice_get, option_map, count_by, min, ◌-◌}
use Rattle.std.proofs.lemmas.Bool.{cases_Bool, false≢true, eq-eqb, eqb-true, ne_eqb}
use Rattle.std.proofs.lemmas.Option.{same_Some, none-some, slice_get_within, get_or_from_slice_get}
use Rattle.std.proofs.lemmas.List.Sums.{sum_by-set, count_by-le-length}
use Rattle.mid_base.specs.declared.names.CmdId.{CmdId}
use Rattle.mid_base.specs.declared.names.Attempt.{Attempt}
use Rattle.mid_base.specs.declared.names.Tag.{Tag}
use Rattle.mid_base.specs.declared.answers.Answer.{Answer}
use Rattle.mid_base.specs.declared.answers.BusyOf.{BusyOf}
use Rattle.mid_base.specs.declared.entries.Entry.{Entry}
use Rattle.mid_base.specs.declared.entries.Entry.TheVariants as entry
use Rattle.mid_base.specs.declared.host_spec.CmdSpec.{CmdSpec}
use Rattle.mid_base.specs.declared.host_spec.LunSpec.{LunSpec}
use Rattle.mid_base.specs.declared.host_spec.HostSpec.{HostSpec}
use Rattle.mid_base.specs.Limits.{differ_in_id}
use Rattle.trace_model.specs.declared.standing.Standing.{Standing}
use Rattle.trace_model.specs.declared.standing.Standing.TheVariants.{New, Waits, Busy, Ended}
use Rattle.trace_model.specs.Commands.{standing, retries, has_abort, taken, is_new, waits, is_busy}
use Rattle.trace_model.specs.Drained.{was_told, tellings}
use Rattle.command_table.specs.declared.rows.CommandRow.{CommandRow}
use Rattle.command_table.specs.declared.rows.Taken.{Taken}
use Rattle.command_table.specs.declared.commands.Commands.{Commands}
use Rattle.command_table.specs.Rows.{row_of, is_ended, has_ended, is_out, is_open, AreFor, id_at, standing_at, IsBusyAt, IsOpenAt, is_left, first_left, IsFirstLeft, IsHoused, ids_of, waits_at}
use Rattle.command_table.specs.Sets.{has, out_of}
use Rattle.command_table.specs.CommandsAgree.{Reads, IsOrdered, IsPlaced, ArePlaced, ArePointed, CommandsAgree, IsApart}
use Rattle.command_table.proofs.Places.{at_place, row_set, for_set, get_set, first_set, before_first}

same : (n : ℕ) → (n == n) ≡ true
same n = eq-eqb n n refl

and_none : (b : Bool) → b && false ≡ false
and_none true = refl
and_none false = refl

-- the row at a place says what the entries say of its command
pub reads_at : (s : HostSpec) (P : List Entry) (t : Commands) → CommandsAgree s P t → (i : ℕ) (r : CommandRow) → slice_get t.rows.items i ≡ Some r → Reads P r.id.0 (Some r)
reads_at s P t f i r at = subst (λ (x : Option CommandRow). Reads P r.id.0 x) (at_place s.luns s.cmds t.rows.items f.rows_are f.ids i r at) (f.reads r.id.0)

-- one row is written: its command is what the new row says, and every other is what it was
abbrev pub Written : List Entry → List Entry → CommandRow → CommandRow → Type 0
Written P Q r new =
    (c : ℕ)
    → ((r.id.0 == c) ≡ true → Reads Q c (Some new))
    × ((r.id.0 == c) ≡ false → (standing c Q ≡ standing c P) × (retries c Q ≡ retries c P) × (was_told c Q ≡ was_told c P) × (has_abort c Q ≡ has_abort c P))

reads_written : (P Q : List Entry) (luns : List LunSpec) (ks : List CmdSpec) (rs : List CommandRow) → AreFor luns ks rs → differ_in_id ks ≡ true
    → (i : ℕ) (r new : CommandRow) → slice_get rs i ≡ Some r → new.id ≡ r.id → Written P Q r new
    → ((c : ℕ) → Reads P c (row_of c rs)) → (c : ℕ) → Reads Q c (row_of c (set rs i new))
reads_written P Q luns ks rs are ids i r new at id written reads c =
    rw (row_set luns ks rs are ids i r new at id c)
    (elim (cases_Bool (r.id.0 == c)) as (λ _. Reads Q c (cond (r.id.0 == c) (Some new) (row_of c rs))) [
      | inl is ↦ rw is ((written c).0 is)
      | inr isnt ↦
          let others = (written c).1 isnt in
          rw isnt (others.0 ∙ (reads c).0, others.1 ∙ (reads c).1, others.2 ∙ (reads c).2, others.3 ∙ (reads c).3)
    ])

-- the order of taking, where the row keeps its own
ordered_written : (rs : List CommandRow) (xs : List Taken) (i : ℕ) (r new : CommandRow) → slice_get rs i ≡ Some r
    → (new.standing ≢ New → is_ended new.standing ≡ false → slice_get xs new.order ≡ Some (record { place = i; command = new.id }))
    → IsOrdered rs xs → IsOrdered (set rs i new) xs
ordered_written rs xs i r new at here ordered j q get taken still =
    elim (cases_Bool (i == j)) as (λ _. slice_get xs q.order ≡ Some (record { place = j; command = q.id })) [
      | inl is ↦
          let e : i ≡ j = eqb-true i j is in
          let got : Some new ≡ Some q = sym (rw is at (get_set rs i j r new at)) ∙ get in
          let q_is : new ≡ q = same_Some new q got in
          rw (← e, ← q_is) (here (rw (← q_is) at taken) (rw (← q_is) at still))
      | inr isnt ↦ ordered j q (sym (rw isnt at (get_set rs i j r new at)) ∙ get) taken still
    ]

pub placed_written : (rs : List CommandRow) (xs : List Taken) (i : ℕ) (r new : CommandRow) → slice_get rs i ≡ Some r → new.id ≡ r.id
    → (is_new r.standing ≡ false → (new.order ≡ r.order) × (is_new new.standing ≡ false)) → ArePlaced rs xs → ArePlaced (set rs i new) xs
placed_written rs xs i r new at id kept placed j x get =
    let was : IsPlaced rs j x = placed j x get in
    elim (cases_Bool (i == x.place)) as (λ _. IsPlaced (set rs i new) j x) [
      | inl is ↦
          let here : was.row ≡ r = same_Some was.row r (sym was.at ∙ ap (slice_get rs) (sym (eqb-true i x.place is)) ∙ at) in
          let still = kept (ap (λ (q : CommandRow). is_new q.standing) (sym here) ∙ was.taken) in
          record {
            row = new;
            at = rw is at (get_set rs i x.place r new at);
            id = id ∙ ap (λ (q : CommandRow). q.id) (sym here) ∙ was.id;
            order = still.0 ∙ ap (λ (q : CommandRow). q.order) (sym here) ∙ was.order;
            taken = still.1;
          }
      | inr isnt ↦ record {
        row = was.row;
        at = rw isnt at (get_set rs i x.place r new at) ∙ was.at;
        id = was.id;
        order = was.order;
        taken = was.taken;
      }
    ]

lanes_written : (rs : List CommandRow) (i : ℕ) (r new : CommandRow) → slice_get rs i ≡ Some r → new.lane ≡ r.lane
    → ((j : ℕ) (q : CommandRow) → slice_get rs j ≡ Some q → q.lane.0 < 64) → (j : ℕ) (q : CommandRow) → slice_get (set rs i new) j ≡ Some q → q.lane.0 < 64
lanes_written rs i r new at lane lanes j q get =
    elim (cases_Bool (i == j)) as (λ _. q.lane.0 < 64) [
      | inl is ↦
          let got : new ≡ q = same_Some new q (sym (rw is at (get_set rs i j r new at)) ∙ get) in
          rw (← got, lane) (lanes i r at)
      | inr isnt ↦ lanes j q (sym (rw isnt at (get_set rs i j r new at)) ∙ get)
    ]

count_set : (p : CommandRow → Bool) (rs : List CommandRow) (i : ℕ) (r new : CommandRow) → slice_get rs i ≡ Some r
    → count_by p (set rs i new) + cond (p r) 1 0 ≡ count_by p rs + cond (p new) 1 0
count_set p rs i r new at =
    let whole : count_by p (set rs i new) + cond (p (get_or rs i r)) 1 0 ≡ count_by p rs + cond (p new) 1 0 =
    sum_by-set {X = CommandRow} (λ q. cond (p q) 1 0) rs i new r (slice_get_within rs i r at)
    in
    subst (λ (q : CommandRow). count_by p (set rs i new) + cond (p q) 1 0 ≡ count_by p rs + cond (p new) 1 0) (get_or_from_slice_get rs i r r at) whole

-- a number that moves as the count does stays the count
count_moved : (p : CommandRow → Bool) (rs : List CommandRow) (i : ℕ) (r new : CommandRow) → slice_get rs i ≡ Some r
    → (n m : ℕ) → n ≡ count_by p rs → m + cond (p r) 1 0 ≡ n + cond (p new) 1 0 → m ≡ count_by p (set rs i new)
count_moved p rs i r new at n m counted moves =
    let whole : count_by p (set rs i new) + cond (p r) 1 0 ≡ count_by p rs + cond (p new) 1 0 = count_set p rs i r new at in
    omega (arith, whole, counted, moves)

count_kept : (rs : List CommandRow) (i : ℕ) (r new : CommandRow) → slice_get rs i ≡ Some r → has_ended r ≡ false → has_ended new ≡ false
    → count_by has_ended (set rs i new) ≡ count_by has_ended rs
count_kept rs i r new at one other =
    let whole : count_by has_ended (set rs i new) + cond (has_ended r) 1 0 ≡ count_by has_ended rs + cond (has_ended new) 1 0 = count_set has_ended rs i r new at in
    let less : ◌≡◌ {A = ℕ} (cond (has_ended r) 1 0) 0 = rw one refl in
    let more : ◌≡◌ {A = ℕ} (cond (has_ended new) 1 0) 0 = rw other refl in
    omega (arith, whole, less, more)

count_more : (rs : List CommandRow) (i : ℕ) (r new : CommandRow) → slice_get rs i ≡ Some r → has_ended r ≡ false → has_ended new ≡ true
    → count_by has_ended (set rs i new) ≡ count_by has_ended rs + 1
count_more rs i r new at one other =
    let whole : count_by has_ended (set rs i new) + cond (has_ended r) 1 0 ≡ count_by has_ended rs + cond (has_ended new) 1 0 = count_set has_ended rs i r new at in
    let less : ◌≡◌ {A = ℕ} (cond (has_ended r) 1 0) 0 = rw one refl in
    let more : ◌≡◌ {A = ℕ} (cond (has_ended new) 1 0) 1 = rw other refl in
    omega (arith, whole, less, more)

-- how many are busy, by the lines, moves as the rows say
abbrev pub OutsMove : Commands → Commands → CommandRow → CommandRow → Type 0
OutsMove old new r q = (d : ℕ) → out_of new.waiting.items d + cond (is_out d r) 1 0 ≡ out_of old.waiting.items d + cond (is_out d q) 1 0

-- a command that isn't handed in isn't busy
new_idle : (x : Standing) → is_new x ≡ true → is_busy x ≡ false
new_idle New h = refl
new_idle Waits h = refl
new_idle (Busy n t) h = absurd (false≢true h)
new_idle Ended h = refl

-- the table after a call: this row is written, and the rest is as given
pub record Changes (old new : Commands) (i : ℕ) (r q : CommandRow) : Type 0 where
  pub at : slice_get old.rows.items i ≡ Some r
  pub rows : new.rows.items ≡ set old.rows.items i q
  pub id : q.id ≡ r.id
  pub lane : q.lane ≡ r.lane
  pub device : q.device ≡ r.device

module _ (s : HostSpec) (P : List Entry) (old new : Commands) (i : ℕ) (r q : CommandRow) (f : CommandsAgree s P old) (ch : Changes old new i r q) where
  rows_are_now : AreFor s.luns s.cmds new.rows.items
  rows_are_now = rw ch.rows (for_set s.luns s.cmds old.rows.items f.rows_are i r q ch.at ch.id ch.lane ch.device)

  lanes_now : (j : ℕ) (x : CommandRow) → slice_get new.rows.items j ≡ Some x → x.lane.0 < 64
  lanes_now = rw ch.rows (lanes_written old.rows.items i r q ch.at ch.lane f.lanes)

  reads_now : (Q : List Entry) → Written P Q r q → (c : ℕ) → Reads Q c (row_of c new.rows.items)
  reads_now Q written = rw ch.rows (reads_written P Q s.luns s.cmds old.rows.items f.rows_are f.ids i r q ch.at ch.id written f.reads)

  housed_now : length new.waiting.items ≡ length old.waiting.items → (j : ℕ) → IsHoused j new.rows.items (length new.waiting.items)
  housed_now same_count j x get =
      elim (cases_Bool (i == j)) as (λ _. x.device < length new.waiting.items) [
        | inl is ↦
            let got : q ≡ x = same_Some q x (sym (rw is at (get_set old.rows.items i j r q ch.at)) ∙ sym (ap (λ (rs : List CommandRow). slice_get rs j) ch.rows) ∙ get) in
            rw (← got, ch.device, same_count) (f.housed i r ch.at)
        | inr isnt ↦ rw same_count (f.housed j x (sym (rw isnt at (get_set old.rows.items i j r q ch.at)) ∙ sym (ap (λ (rs : List CommandRow). slice_get rs j) ch.rows) ∙ get))
      ]

  outs_now : OutsMove old new r q → (d : ℕ) → out_of new.waiting.items d ≡ count_by (is_out d) new.rows.items
  outs_now outs d = rw ch.rows (count_moved (is_out d) old.rows.items i r q ch.at (out_of old.waiting.items d) (out_of new.waiting.items d) (f.out d) (outs d))

  -- a command that is handed in already stands elsewhere
  pub moved : (Q : List Entry) → Written P Q r q → taken Q ≡ taken P → is_new r.standing ≡ false → is_new q.standing ≡ false
      → (q.standing ≢ New → is_ended q.standing ≡ false → slice_get old.taken.items q.order ≡ Some (record { place = i; command = q.id }))
      → q.order ≡ r.order → new.cursors.items ≡ old.cursors.items → new.taken.items ≡ old.taken.items
      → length new.waiting.items ≡ length old.waiting.items → ((d j : ℕ) → has new.waiting.items d j ≡ waits_at (set old.rows.items i q) old.taken.items d j)
      → OutsMove old new r q → new.ended ≡ count_by has_ended new.rows.items → CommandsAgree s Q new
  moved Q written order was is here same_order same_cursors same_taken same_count waiting outs ended = record {
    rows_are = rows_are_now;
    ids = f.ids;
    lanes = lanes_now;
    reads = reads_now Q written;
    pointed = λ lane lt. rw (same_cursors, ch.rows) (f.pointed lane lt ∙ ap Some (sym (first_set lane old.rows.items i r q ch.at (none_left lane))));
    lane_count = ap length same_cursors ∙ f.lane_count;
    order = order ∙ f.order ∙ ap ids_of (sym same_taken);
    ordered = rw (same_taken, ch.rows) (ordered_written old.rows.items old.taken.items i r q ch.at here f.ordered);
    placed = rw (same_taken, ch.rows) (placed_written old.rows.items old.taken.items i r q ch.at ch.id (λ _. (same_order, is)) f.placed);
    housed = housed_now same_count;
    set_count = same_count ∙ f.set_count;
    waiting = λ d j. rw (same_taken, ch.rows) (waiting d j);
    out = outs_now outs;
    ended = ended;
  }
    where
      none_left : (lane : ℕ) → is_left lane q ≡ is_left lane r
      none_left lane = rw (was, is) (and_none (q.lane.0 == lane) ∙ sym (and_none (r.lane.0 == lane)))

  -- a command is handed in
  pub handed_in : (Q : List Entry) → Written P Q r q → taken Q ≡ ids_of new.taken.items → is_new r.standing ≡ true → is_new q.standing ≡ false → is_busy q.standing ≡ false
      → IsOrdered new.rows.items new.taken.items → ArePlaced new.rows.items new.taken.items
      → new.cursors.items ≡ set old.cursors.items r.lane.0 (first_left r.lane.0 new.rows.items)
      → length new.waiting.items ≡ length old.waiting.items → ((d j : ℕ) → has new.waiting.items d j ≡ waits_at new.rows.items new.taken.items d j)
      → ((d : ℕ) → out_of new.waiting.items d ≡ out_of old.waiting.items d) → new.ended ≡ count_by has_ended new.rows.items → CommandsAgree s Q new
  handed_in Q written order was is idle ordered placed cursors same_count waiting outs ended = record {
    rows_are = rows_are_now;
    ids = f.ids;
    lanes = lanes_now;
    reads = reads_now Q written;
    pointed = pointed;
    lane_count = ap length cursors ∙ length-set old.cursors.items r.lane.0 (first_left r.lane.0 new.rows.items) ∙ f.lane_count;
    order = order;
    ordered = ordered;
    placed = placed;
    housed = housed_now same_count;
    set_count = same_count ∙ f.set_count;
    waiting = waiting;
    out = outs_now (λ d. rw (new_idle r.standing was, idle) (ap (λ (n : ℕ). n + 0) (outs d)));
    ended = ended;
  }
    where
      other_lane : (lane : ℕ) → (r.lane.0 == lane) ≡ false → is_left lane q ≡ is_left lane r
      other_lane lane isnt = rw (ch.lane, isnt) refl

      pointed : ArePointed new.rows.items new.cursors.items
      pointed lane lt =
          rw (cursors, get_set old.cursors.items r.lane.0 lane (first_left r.lane.0 old.rows.items) (first_left r.lane.0 new.rows.items) (f.pointed r.lane.0 (f.lanes i r ch.at)))
          (elim (cases_Bool (r.lane.0 == lane)) as (λ _. cond (r.lane.0 == lane) (Some (first_left r.lane.0 new.rows.items)) (slice_get old.cursors.items lane) ≡ Some (first_left lane new.rows.items)) [
            | inl same_lane ↦ rw same_lane (ap (λ (l : ℕ). Some (first_left l new.rows.items)) (eqb-true r.lane.0 lane same_lane))
            | inr isnt ↦ rw isnt (f.pointed lane lt ∙ ap Some (sym (first_set lane old.rows.items i r q ch.at (other_lane lane isnt)) ∙ ap (first_left lane) (sym ch.rows)))
          ])

-- what each entry writes
pub written_took : (P : List Entry) (r : CommandRow) (order : ℕ) → Reads P r.id.0 (Some r) → is_ended r.standing ≡ false
    → Written P (entry.Took r.id ∷ P) r (record r { standing = Waits; order = order })
written_took P r order reads still c = (
  λ is. subst (λ (d : ℕ). Reads (entry.Took r.id ∷ P) d (Some (record r { standing = Waits; order = order }))) (eqb-true r.id.0 c is) (rw (same r.id.0) refl, reads.1, reads.2 ∙ still, reads.3),
  λ isnt. (rw isnt refl, refl, refl, refl),
)

pub written_sent : (P : List Entry) (r : CommandRow) (n : Attempt) (t : Tag) → Reads P r.id.0 (Some r) → is_ended r.standing ≡ false
    → Written P (entry.Sent r.id n t ∷ P) r (record r { standing = Busy n t })
written_sent P r n t reads still c = (
  λ is. subst (λ (d : ℕ). Reads (entry.Sent r.id n t ∷ P) d (Some (record r { standing = Busy n t }))) (eqb-true r.id.0 c is) (rw (same r.id.0) refl, reads.1, reads.2 ∙ still, reads.3),
  λ isnt. (rw isnt refl, refl, refl, refl),
)

pub written_again : (P : List Entry) (r : CommandRow) (counted : Bool) → Reads P r.id.0 (Some r) → is_ended r.standing ≡ false
    → Written P (entry.Again r.id counted ∷ P) r (record r { standing = Waits; retries = cond counted (r.retries + 1) r.retries })
written_again P r true reads still c = (
  λ is. subst (λ (d : ℕ). Reads (entry.Again r.id true ∷ P) d (Some (record r { standing = Waits; retries = r.retries + 1 }))) (eqb-true r.id.0 c is) (rw (same r.id.0) refl, rw (same r.id.0, reads.1) refl, reads.2 ∙ still, reads.3),
  λ isnt. (rw isnt refl, rw isnt refl, refl, refl),
)
written_again P r false reads still c = (
  λ is. subst (λ (d : ℕ). Reads (entry.Again r.id false ∷ P) d (Some (record r { standing = Waits }))) (eqb-true r.id.0 c is) (rw (same r.id.0) refl, reads.1, reads.2 ∙ still, reads.3),
  λ isnt. (rw isnt refl, refl, refl, refl),
)

pub written_told : (P : List Entry) (r : CommandRow) (a : Answer) → Reads P r.id.0 (Some r)
    → Written P (entry.Told r.id a ∷ P) r (record r { standing = Ended })
written_told P r a reads c = (
  λ is. subst (λ (d : ℕ). Reads (entry.Told r.id a ∷ P) d (Some (record r { standing = Ended }))) (eqb-true r.id.0 c is) (rw (same r.id.0) refl, reads.1, now_told (same r.id.0) (tellings r.id.0 P), reads.3),
  λ isnt. (rw isnt refl, refl, rw isnt refl, refl),
)
  where
    now_told : {b : Bool} → b ≡ true → (n : ℕ) → not (cond b (n + 1) n == 0) ≡ true
    now_told is n = rw (is, ne_eqb (n + 1) 0 (λ e. absurd (omega (arith, e)))) refl

pub written_abort : (P : List Entry) (r : CommandRow) (n : Attempt) → Reads P r.id.0 (Some r)
    → Written P (entry.AbortSet r.id n ∷ P) r (record r { aborted = true })
written_abort P r n reads c = (
  λ is. subst (λ (d : ℕ). Reads (entry.AbortSet r.id n ∷ P) d (Some (record r { aborted = true }))) (eqb-true r.id.0 c is) (reads.0, reads.1, reads.2, rw (same r.id.0) refl),
  λ isnt. (refl, refl, refl, rw isnt refl),
)

pub count_as : (old new : Commands) (i : ℕ) (r q : CommandRow) → Changes old new i r q → old.ended ≡ count_by has_ended old.rows.items
    → has_ended r ≡ false → has_ended q ≡ false → new.ended ≡ old.ended → new.ended ≡ count_by has_ended new.rows.items
count_as old new i r q ch counted one other e = rw ch.rows (e ∙ counted ∙ sym (count_kept old.rows.items i r q ch.at one other))

pub counts_on : (old new : Commands) (i : ℕ) (r q : CommandRow) → Changes old new i r q → old.ended ≡ count_by has_ended old.rows.items
    → has_ended r ≡ false → has_ended q ≡ true → length old.rows.items < 2 ^ 64 → new.ended ≡ min (old.ended + 1) (2 ^ 64 - 1) → new.ended ≡ count_by has_ended new.rows.items
counts_on old new i r q ch counted one other short e =
    let more : count_by has_ended (set old.rows.items i q) ≡ count_by has_ended old.rows.items + 1 = count_more old.rows.items i r q ch.at one other in
    let most : count_by has_ended (set old.rows.items i q) ≤ length (set old.rows.items i q) = count_by-le-length has_ended (set old.rows.items i q) in
    let long : length (set old.rows.items i q) ≡ length old.rows.items = length-set old.rows.items i q in
    rw ch.rows (omega (arith, e, counted, more, most, long, short))

-- the words of both lists of entries on commands are the same
alike : (s : HostSpec) (P Q : List Entry) (t : Commands)
    → ((c : ℕ) → standing c Q ≡ standing c P) → ((c : ℕ) → retries c Q ≡ retries c P) → ((c : ℕ) → was_told c Q ≡ was_told c P) → ((c : ℕ) → has_abort c Q ≡ has_abort c P) → taken Q ≡ taken P
    → CommandsAgree s P t → CommandsAgree s Q t
alike s P Q t a b c d e f = record {
  rows_are = f.rows_are;
  ids = f.ids;
  lanes = f.lanes;
  reads = λ n. (a n ∙ (f.reads n).0, b n ∙ (f.reads n).1, c n ∙ (f.reads n).2, d n ∙ (f.reads n).3);
  pointed = f.pointed;
  lane_count = f.lane_count;
  order = e ∙ f.order;
  ordered = f.ordered;
  placed = f.placed;
  housed = f.housed;
  set_count = f.set_count;
  waiting = f.waiting;
  out = f.out;
  ended = f.ended;
}

-- the rows, the cursors and what the lines say are the same
pub same_table : (s : HostSpec) (P : List Entry) (old new : Commands) → new.rows.items ≡ old.rows.items → new.cursors.items ≡ old.cursors.items → new.taken.items ≡ old.taken.items
    → length new.waiting.items ≡ length old.waiting.items → ((d j : ℕ) → has new.waiting.items d j ≡ has old.waiting.items d j)
    → ((d : ℕ) → out_of new.waiting.items d ≡ out_of old.waiting.items d) → new.ended ≡ old.ended → CommandsAgree s P old → CommandsAgree s P new
same_table s P old new rows cursors same_taken count waiting outs ended f = record {
  rows_are = rw rows f.rows_are;
  ids = f.ids;
  lanes = rw rows f.lanes;
  reads = rw rows f.reads;
  pointed = rw (rows, cursors) f.pointed;
  lane_count = ap length cursors ∙ f.lane_count;
  order = f.order ∙ ap ids_of (sym same_taken);
  ordered = rw (rows, same_taken) f.ordered;
  placed = rw (rows, same_taken) f.placed;
  housed = rw (rows, count) f.housed;
  set_count = count ∙ f.set_count;
  waiting = λ d j. rw (rows, same_taken) (waiting d j ∙ f.waiting d j);
  out = λ d. rw rows (outs d ∙ f.out d);
  ended = rw rows (ended ∙ f.ended);
}

pub follows_apart : (s : HostSpec) (P : List Entry) (t : Commands) (e : Entry) → IsApart e → CommandsAgree s P t → CommandsAgree s (e ∷ P) t
follows_apart s P t (entry.Ready n a) apart f = alike s P (entry.Ready n a ∷ P) t (λ c. refl) (λ c. refl) (λ c. refl) (λ c. refl) refl f
follows_apart s P t (entry.Owned n by) apart f = alike s P (entry.Owned n by ∷ P) t (λ c. refl) (λ c. refl) (λ c. refl) (λ c. refl) refl f
follows_apart s P t (entry.Judged k n d) apart f = alike s P (entry.Judged k n d ∷ P) t (λ c. refl) (λ c. refl) (λ c. refl) (λ c. refl) refl f
follows_apart s P t (entry.Failed k n x) apart f = alike s P (entry.Failed k n x ∷ P) t (λ c. refl) (λ c. refl) (λ c. refl) (λ c. refl) refl f
follows_apart s P t (entry.State d x) apart f = alike s P (entry.State d x ∷ P) t (λ c. refl) (λ c. refl) (λ c. refl) (λ c. refl) refl f
follows_apart s P t entry.Tick apart f = alike s P (entry.Tick ∷ P) t (λ c. refl) (λ c. refl) (λ c. refl) (λ c. refl) refl f
follows_apart s P t (entry.Due n) apart f = alike s P (entry.Due n ∷ P) t (λ c. refl) (λ c. refl) (λ c. refl) (λ c. refl) refl f
follows_apart s P t (entry.Longer n) apart f = alike s P (entry.Longer n ∷ P) t (λ c. refl) (λ c. refl) (λ c. refl) (λ c. refl) refl f
follows_apart s P t (entry.DoneSaid n) apart f = alike s P (entry.DoneSaid n ∷ P) t (λ c. refl) (λ c. refl) (λ c. refl) (λ c. refl) refl f
follows_apart s P t (entry.Late n) apart f = alike s P (entry.Late n ∷ P) t (λ c. refl) (λ c. refl) (λ c. refl) (λ c. refl) refl f
follows_apart s P t (entry.Aborted c n ok) apart f = alike s P (entry.Aborted c n ok ∷ P) t (λ c. refl) (λ c. refl) (λ c. refl) (λ c. refl) refl f
follows_apart s P t (entry.Cleared c level) apart f = alike s P (entry.Cleared c level ∷ P) t (λ c. refl) (λ c. refl) (λ c. refl) (λ c. refl) refl f
follows_apart s P t (entry.Sensed c n sense) apart f = alike s P (entry.Sensed c n sense ∷ P) t (λ c. refl) (λ c. refl) (λ c. refl) (λ c. refl) refl f
follows_apart s P t entry.EhBegin apart f = alike s P (entry.EhBegin ∷ P) t (λ c. refl) (λ c. refl) (λ c. refl) (λ c. refl) refl f
follows_apart s P t entry.EhEnd apart f = alike s P (entry.EhEnd ∷ P) t (λ c. refl) (λ c. refl) (λ c. refl) (λ c. refl) refl f
follows_apart s P t (entry.Act level scope ok) apart f = alike s P (entry.Act level scope ok ∷ P) t (λ c. refl) (λ c. refl) (λ c. refl) (λ c. refl) refl f
follows_apart s P t (entry.Probe d op say) apart f = alike s P (entry.Probe d op say ∷ P) t (λ c. refl) (λ c. refl) (λ c. refl) (λ c. refl) refl f
follows_apart s P t (entry.Offline d) apart f = alike s P (entry.Offline d ∷ P) t (λ c. refl) (λ c. refl) (λ c. refl) (λ c. refl) refl f
follows_apart s P t e apart f = absurd apart

pub follows_bounced : (s : HostSpec) (P : List Entry) (t : Commands) (c : CmdId) (n m : Attempt) (u : Tag) (why : BusyOf) → standing c.0 P ≡ Waits
    → CommandsAgree s P t → CommandsAgree s (entry.Bounced c m why ∷ entry.Sent c n u ∷ P) t
follows_bounced s P t c n m u why waits_now f = alike s P (entry.Bounced c m why ∷ entry.Sent c n u ∷ P) t stands (λ d. refl) (λ d. refl) (λ d. refl) refl f
  where
    stands : (d : ℕ) → standing d (entry.Bounced c m why ∷ entry.Sent c n u ∷ P) ≡ standing d P
    stands d = elim (cases_Bool (c.0 == d)) as (λ _. standing d (entry.Bounced c m why ∷ entry.Sent c n u ∷ P) ≡ standing d P) [
      | inl is ↦ rw is (sym (ap (λ (k : ℕ). standing k P) (sym (eqb-true c.0 d is)) ∙ waits_now))
      | inr isnt ↦ rw isnt refl
    ]

-- a command that waits or is busy isn't new and isn't reported
pub open_isnt_new : (x : Standing) → is_open x ≡ true → is_new x ≡ false
open_isnt_new New h = absurd (false≢true h)
open_isnt_new Waits h = refl
open_isnt_new (Busy n t) h = refl
open_isnt_new Ended h = refl

pub open_isnt_ended : (x : Standing) → is_open x ≡ true → is_ended x ≡ false
open_isnt_ended New h = refl
open_isnt_ended Waits h = refl
open_isnt_ended (Busy n t) h = refl
open_isnt_ended Ended h = absurd (false≢true h)

open_apart : (x : Standing) → is_open x ≡ true → x ≢ New
open_apart x h e = false≢true (sym (ap is_open e) ∙ h)

module _ (s : HostSpec) (P Q : List Entry) (old new : Commands) (i : ℕ) (r q : CommandRow) (f : CommandsAgree s P old) (ch : Changes old new i r q) (written : Written P Q r q) where
  -- it goes on
  pub goes_on : taken Q ≡ taken P → is_open r.standing ≡ true → is_open q.standing ≡ true → q.order ≡ r.order
      → new.cursors.items ≡ old.cursors.items → new.taken.items ≡ old.taken.items → length new.waiting.items ≡ length old.waiting.items
      → ((d j : ℕ) → has new.waiting.items d j ≡ waits_at (set old.rows.items i q) old.taken.items d j)
      → OutsMove old new r q → new.ended ≡ old.ended → CommandsAgree s Q new
  goes_on order was is same_order cursors same_taken same_count waiting outs ended =
      moved s P old new i r q f ch Q written order (open_isnt_new r.standing was) (open_isnt_new q.standing is)
      (λ _ _. rw (same_order, ch.id) (f.ordered i r ch.at (open_apart r.standing was) (open_isnt_ended r.standing was)))
      same_order cursors same_taken same_count waiting outs
      (count_as old new i r q ch f.ended (open_isnt_ended r.standing was) (open_isnt_ended q.standing is) ended)

  -- it was reported
  pub reported : taken Q ≡ taken P → is_open r.standing ≡ true → q.standing ≡ Ended
      → q.order ≡ r.order → new.cursors.items ≡ old.cursors.items → new.taken.items ≡ old.taken.items → length new.waiting.items ≡ length old.waiting.items
      → ((d j : ℕ) → has new.waiting.items d j ≡ waits_at (set old.rows.items i q) old.taken.items d j)
      → OutsMove old new r q → length old.rows.items < 2 ^ 64 → new.ended ≡ min (old.ended + 1) (2 ^ 64 - 1) → CommandsAgree s Q new
  reported order was is same_order cursors same_taken same_count waiting outs short ended =
      moved s P old new i r q f ch Q written order (open_isnt_new r.standing was) (ap is_new is)
      (λ _ still. absurd (false≢true (sym still ∙ ap is_ended is)))
      same_order cursors same_taken same_count waiting outs
      (counts_on old new i r q ch f.ended (open_isnt_ended r.standing was) (ap is_ended is) short ended)

-- what a condition on a place says of its row
pub id_is : (i : ℕ) (rows : List CommandRow) (r : CommandRow) (c : CmdId) → slice_get rows i ≡ Some r → id_at i rows ≡ Some c → r.id ≡ c
id_is i rows r c at is = same_Some r.id c (subst (λ (o : Option CommandRow). option_map (λ (q : CommandRow). q.id) o ≡ Some c) at is)

pub standing_is : (i : ℕ) (rows : List CommandRow) (r : CommandRow) (x : Standing) → slice_get rows i ≡ Some r → standing_at i rows ≡ Some x → r.standing ≡ x
standing_is i rows r x at is = same_Some r.standing x (subst (λ (o : Option CommandRow). option_map (λ (q : CommandRow). q.standing) o ≡ Some x) at is)

pub busy_is : (i : ℕ) (rows : List CommandRow) (r : CommandRow) → slice_get rows i ≡ Some r → IsBusyAt i rows → is_busy r.standing ≡ true
busy_is i rows r at is = same_Some (is_busy r.standing) true (subst (λ (o : Option CommandRow). option_map (λ (q : CommandRow). is_busy q.standing) o ≡ Some true) at is)

pub open_is : (i : ℕ) (rows : List CommandRow) (r : CommandRow) → slice_get rows i ≡ Some r → IsOpenAt i rows → is_open r.standing ≡ true
open_is i rows r at is = same_Some (is_open r.standing) true (subst (λ (o : Option CommandRow). option_map (λ (q : CommandRow). is_open q.standing) o ≡ Some true) at is)

pub busy_open : (x : Standing) → is_busy x ≡ true → is_open x ≡ true
busy_open New h = absurd (false≢true h)
busy_open Waits h = absurd (false≢true h)
busy_open (Busy n t) h = refl
busy_open Ended h = absurd (false≢true h)

-- one more is taken
pub ids_push : (xs : List Taken) (x : Taken) → ids_of (xs ++ x ∷ []) ≡ ids_of xs ++ x.command.0 ∷ []
ids_push [] x = refl
ids_push (y ∷ xs) x = ap (λ (ns : List ℕ). y.command.0 ∷ ns) (ids_push xs x)

pub get_push_old : {A : Type 0} (xs : List A) (x y : A) (j : ℕ) → slice_get xs j ≡ Some y → slice_get (xs ++ x ∷ []) j ≡ Some y
get_push_old [] x y j at = absurd (none-some y at)
get_push_old (z ∷ xs) x y zero at = at
get_push_old (z ∷ xs) x y (suc j) at = get_push_old xs x y j at

pub get_push_new : {A : Type 0} (xs : List A) (x : A) → slice_get (xs ++ x ∷ []) (length xs) ≡ Some x
get_push_new [] x = refl
get_push_new (z ∷ xs) x = get_push_new xs x

get_push_which : {A : Type 0} (xs : List A) (x y : A) (j : ℕ) → slice_get (xs ++ x ∷ []) j ≡ Some y → (slice_get xs j ≡ Some y) ⊎ ((x ≡ y) × (j ≡ length xs))
get_push_which [] x y zero at = inr (same_Some x y at, refl)
get_push_which [] x y (suc j) at = absurd (none-some y at)
get_push_which (z ∷ xs) x y zero at = inl at
get_push_which (z ∷ xs) x y (suc j) at = elim (get_push_which xs x y j at) as (λ _. (slice_get xs j ≡ Some y) ⊎ ((x ≡ y) × (suc j ≡ suc (length xs)))) [
  | inl old ↦ inl old
  | inr here ↦ inr (here.0, ap suc here.1)
]

pub ordered_taken : (rs : List CommandRow) (xs : List Taken) (i : ℕ) (r : CommandRow) → slice_get rs i ≡ Some r → IsOrdered rs xs
    → IsOrdered (set rs i (record r { standing = Waits; order = length xs })) (xs ++ record { place = i; command = r.id } ∷ [])
ordered_taken rs xs i r at ordered =
    ordered_written rs (xs ++ record { place = i; command = r.id } ∷ []) i r (record r { standing = Waits; order = length xs }) at
    (λ _ _. get_push_new xs (record { place = i; command = r.id }))
    (λ j q get taken still. get_push_old xs (record { place = i; command = r.id }) (record { place = j; command = q.id }) q.order (ordered j q get taken still))

pub placed_taken : (rs : List CommandRow) (xs : List Taken) (i : ℕ) (r : CommandRow) → slice_get rs i ≡ Some r → is_new r.standing ≡ true → ArePlaced rs xs
    → ArePlaced (set rs i (record r { standing = Waits; order = length xs })) (xs ++ record { place = i; command = r.id } ∷ [])
placed_taken rs xs i r at fresh placed j x get =
    let new : CommandRow = record r { standing = Waits; order = length xs } in
    elim (get_push_which xs (record { place = i; command = r.id }) x j get) as (λ _. IsPlaced (set rs i new) j x) [
      | inl old ↦ placed_written rs xs i r new at refl (λ isnt. absurd (false≢true (sym isnt ∙ fresh))) placed j x old
      | inr here ↦
          subst (λ (y : Taken). IsPlaced (set rs i new) j y) here.0
          (record { row = new; at = rw (same i) at (get_set rs i i r new at); id = refl; order = sym here.1; taken = refl })
    ]

-- what is refused isn't in the order
pub ordered_refused : (rs : List CommandRow) (xs : List Taken) (i : ℕ) (r : CommandRow) → slice_get rs i ≡ Some r → IsOrdered rs xs
    → IsOrdered (set rs i (record r { standing = Ended })) xs
ordered_refused rs xs i r at ordered =
    ordered_written rs xs i r (record r { standing = Ended }) at (λ _ still. absurd (false≢true (sym still))) ordered

-- no row up to the place is left in its lane
pub passed : (rs : List CommandRow) (i : ℕ) (r new : CommandRow) → slice_get rs i ≡ Some r → IsFirstLeft i rs → is_new new.standing ≡ false
    → (k : ℕ) (q : CommandRow) → k ≤ i → slice_get (set rs i new) k ≡ Some q → is_left r.lane.0 q ≡ false
passed rs i r new at first gone k q le get = elim (cases_Bool (i == k)) as (λ _. is_left r.lane.0 q ≡ false) [
  | inl is ↦
      let here : new ≡ q = same_Some new q (sym (rw is at (get_set rs i k r new at)) ∙ get) in
      subst (λ (x : CommandRow). is_left r.lane.0 x ≡ false) here (rw gone (and_none (new.lane.0 == r.lane.0)))
  | inr isnt ↦
      let other : slice_get rs k ≡ Some q = sym (rw isnt at (get_set rs i k r new at)) ∙ get in
      let apart : i ≢ k = λ e. false≢true (sym isnt ∙ eq-eqb i k e) in
      before_first r.lane.0 rs k q (subst (λ (n : ℕ). k < n) (first r at) (omega (arith, le, apart))) other
]

-- the cursor of the lane that was gone on with
pub pointed_on : (before between after : List ℕ) (lane : ℕ) (rows then : List CommandRow) → between ≡ before → then ≡ rows
    → after ≡ set between lane (first_left lane rows) → after ≡ set before lane (first_left lane then)
pointed_on before between after lane rows then same_before same_rows is = is ∙ ap (λ (ns : List ℕ). set ns lane (first_left lane rows)) same_before ∙ ap (λ (rs : List CommandRow). set before lane (first_left lane rs)) (sym same_rows)

-- a command that waits or is busy has its place among those that were taken
pub own_place : (s : HostSpec) (P : List Entry) (t : Commands) → CommandsAgree s P t → (i : ℕ) (r : CommandRow) → slice_get t.rows.items i ≡ Some r → is_open r.standing ≡ true
    → slice_get t.taken.items r.order ≡ Some (record { place = i; command = r.id })
own_place s P t f i r at still = f.ordered i r at (open_apart r.standing still) (open_isnt_ended r.standing still)

pub busy_waits : (x : Standing) → is_busy x ≡ true → waits x ≡ false
busy_waits New h = refl
busy_waits Waits h = absurd (false≢true h)
busy_waits (Busy n t) h = refl
busy_waits Ended h = refl

pub waits_idle : (x : Standing) → waits x ≡ true → is_busy x ≡ false
waits_idle New h = absurd (false≢true h)
waits_idle Waits h = refl
waits_idle (Busy n t) h = absurd (false≢true h)
waits_idle Ended h = absurd (false≢true h)

pub open_busy : (x : Standing) → is_open x ≡ true → waits x ≡ false → is_busy x ≡ true
open_busy New h isnt = absurd (false≢true h)
open_busy Waits h isnt = absurd (false≢true (sym isnt))
open_busy (Busy n t) h isnt = refl
open_busy Ended h isnt = absurd (false≢true h)

pub at_err : {T E P : Type 0} (r : Result T E) → P → OnErr r P
at_err (Ok x) h = tt
at_err (Err e) h = h

-- how the number of busy ones moves: b says whether the device is the command's
pub out_sent : (busy b : Bool) (n m : ℕ) → busy ≡ false → m ≡ n + cond b 1 0 → m + cond (busy && b) 1 0 ≡ n + cond b 1 0
out_sent true b n m idle e = absurd (false≢true (sym idle))
out_sent false b n m idle e = omega (arith, e)

pub out_back : (busy b : Bool) (n m : ℕ) → busy ≡ true → m + cond b 1 0 ≡ n → m + cond (busy && b) 1 0 ≡ n + 0
out_back true b n m is e = omega (arith, e)
out_back false b n m is e = absurd (false≢true is)

pub out_kept : (busy b : Bool) (n m : ℕ) → busy ≡ false → m ≡ n → m + cond (busy && b) 1 0 ≡ n + 0
out_kept true b n m idle e = absurd (false≢true (sym idle))
out_kept false b n m idle e = omega (arith, e)

-- a busy command is counted at its device
pub some_out : (s : HostSpec) (P : List Entry) (t : Commands) → CommandsAgree s P t → (i : ℕ) (r : CommandRow) → slice_get t.rows.items i ≡ Some r → is_busy r.standing ≡ true
    → 0 < out_of t.waiting.items r.device
some_out s P t f i r at busy =
    let p : CommandRow → Bool = is_out r.device in
    let one : ◌≡◌ {A = ℕ} (cond (p r) 1 0) 1 = rw (busy, same r.device) refl in
    let whole : count_by p (set t.rows.items i (record r { standing = Ended })) + cond (p r) 1 0 ≡ count_by p t.rows.items + 0 = count_set p t.rows.items i r (record r { standing = Ended }) at in
    let counted : out_of t.waiting.items r.device ≡ count_by p t.rows.items = f.out r.device in
    omega (arith, one, whole, counted)
