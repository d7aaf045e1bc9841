-- What the tables say together.
use Rattle.std.proofs.Common.{◌≡◌, ◌∙◌, sym, ap, refl, ℕ, zero, suc, ◌<◌, ◌==◌, Bool, true, false, cond, List, [], ◌∷◌, length, set, Option, None, Some, arith, inl, inr}
use Rattle.std.specs.Prelude.{slice_get, option_map, ◌||◌}
use Rattle.std.specs.List.{list_any}
use Rattle.failure_table.specs.FailuresAgree.{knows, is_aborting, is_out}
use Rattle.std.proofs.lemmas.Bool.{cases_Bool, false≢true, eq-eqb, eqb-true, ne_eqb}
use Rattle.std.proofs.lemmas.Option.{same_Some, none-some}
use Rattle.mid_base.specs.declared.names.CmdId.{CmdId}
use Rattle.mid_base.specs.declared.names.DevAddr.{DevAddr}
use Rattle.mid_base.specs.declared.names.Attempt.{Attempt}
use Rattle.mid_base.specs.declared.names.Tag.{Tag}
use Rattle.mid_base.specs.declared.entries.Entry.{Entry}
use Rattle.mid_base.specs.declared.host_spec.CmdSpec.{CmdSpec}
use Rattle.mid_base.specs.declared.host_spec.LunSpec.{LunSpec}
use Rattle.mid_base.specs.declared.host_spec.HostSpec.{HostSpec}
use Rattle.mid_base.specs.Address.{same_dev}
use Rattle.mid_base.specs.Past.{sent_for}
use Rattle.trace_model.specs.declared.standing.Standing.{Standing}
use Rattle.trace_model.specs.declared.standing.Standing.TheVariants.{New, Waits, Busy, Ended}
use Rattle.trace_model.specs.Commands.{standing, holds, is_busy, failed_since_sent}
use Rattle.trace_model.specs.Tags.{sent_with}
use Rattle.command_table.specs.declared.rows.CommandRow.{CommandRow}
use Rattle.command_table.specs.declared.commands.Commands.{Commands}
use Rattle.command_table.specs.Rows.{row_of as command_row, standing_in, AreFor as AreCommands, home, id_at, standing_at}
use Rattle.command_table.specs.CommandsAgree.{CommandsAgree}
use Rattle.command_table.proofs.Places.{both_at, command_at, get_set}
use Rattle.command_table.proofs.Entries.{reads_at, id_is}
use Rattle.device_table.specs.declared.rows.DeviceRow.{DeviceRow}
use Rattle.device_table.specs.declared.devices.Devices.{Devices}
use Rattle.device_table.specs.Rows.{AreFor as AreDevices}
use Rattle.device_table.specs.DevicesAgree.{DevicesAgree, IsOf, HoldsAlone}
use Rattle.device_table.proofs.Places.{equal_dev}
use Rattle.attempt_table.specs.declared.rows.Row.{Row}
use Rattle.host_state.specs.HostAgrees.{AreUnderWay, AreHeld}

-- the row of a command that has one stands at a place
found_at : (rows : List CommandRow) (c : ℕ) (r : CommandRow) → command_row c rows ≡ Some r → (i : ℕ) × (slice_get rows i ≡ Some r) × (r.id.0 ≡ c)
found_at [] c r at = absurd (none-some r at)
found_at (q ∷ rows) c r at = elim (cases_Bool (q.id.0 == c)) as (λ _. (i : ℕ) × (slice_get (q ∷ rows) i ≡ Some r) × (r.id.0 ≡ c)) [
  | inl is ↦
      let same : q ≡ r = same_Some q r (sym (ap (λ (b : Bool). cond b (Some q) (command_row c rows)) is) ∙ at) in
      (0, ap Some same, ap (λ (x : CommandRow). x.id.0) (sym same) ∙ eqb-true q.id.0 c is)
  | inr isnt ↦
      let rest = found_at rows c r (sym (ap (λ (b : Bool). cond b (Some q) (command_row c rows)) isnt) ∙ at) in
      (suc rest.0, rest.1, rest.2)
]

-- a busy command is one of the spec's
pub busy_at : (s : HostSpec) (P : List Entry) (t : Commands) (c : ℕ) (n : Attempt) (u : Tag) → CommandsAgree s P t → standing c P ≡ Busy n u
    → (i : ℕ) × (k : CmdSpec) × (slice_get s.cmds i ≡ Some k) × (k.id.0 ≡ c)
busy_at s P t c n u f busy = by_row (command_row c t.rows.items) refl (sym (f.reads c).0 ∙ busy)
  where
    by_row : (o : Option CommandRow) → command_row c t.rows.items ≡ o → standing_in o ≡ Busy n u → (i : ℕ) × (k : CmdSpec) × (slice_get s.cmds i ≡ Some k) × (k.id.0 ≡ c)
    by_row None is stands = absurd (not_new stands)
      where
        not_new : New ≡ Busy n u → ⊥
        not_new e = false≢true (ap is_busy e)
    by_row (Some r) is stands =
        let there = found_at t.rows.items c r is in
        let command = command_at s.luns s.cmds t.rows.items f.rows_are there.0 r there.1 in
        let both = both_at s.luns s.cmds t.rows.items f.rows_are there.0 command.0 r command.1 there.1 in
        (there.0, command.0, command.1, ap (λ (x : CmdId). x.0) (sym both.0) ∙ there.2)

-- the tag of a busy command is held by it alone
pub holds_alone : (s : HostSpec) (P : List Entry) (c : CmdId) (n : Attempt) (t : Tag) → AreHeld s P → standing c.0 P ≡ Busy n t → HoldsAlone s P c t.0
holds_alone s P c n t held busy i k at holding = by_standing (standing k.id.0 P) refl holding
  where
    by_standing : (x : Standing) → standing k.id.0 P ≡ x → holds t.0 x ≡ true → k.id.0 ≡ c.0
    by_standing New is h = absurd (false≢true h)
    by_standing Waits is h = absurd (false≢true h)
    by_standing Ended is h = absurd (false≢true h)
    by_standing (Busy m u) is h =
        let mine = held c.0 n t busy in
        let other = held k.id.0 m u is in
        let same_tag : u.0 ≡ t.0 = eqb-true u.0 t.0 h in
        let same_number : m.0 ≡ n.0 = sym other.0 ∙ ap (λ (v : ℕ). sent_with v P) same_tag ∙ mine.0 in
        sym other.1 ∙ ap (λ (v : ℕ). sent_for v P) same_number ∙ mine.1

-- the device of a command
home_at : (luns : List LunSpec) (rows : List DeviceRow) (d : DevAddr) → AreDevices luns rows → home d luns < length luns
    → (r : DeviceRow) × (slice_get rows (home d luns) ≡ Some r) × (r.dev ≡ d)
home_at [] [] d are lt = absurd (omega (arith, lt))
home_at (l ∷ luns) (r ∷ rows) d are lt = elim (cases_Bool (same_dev l.dev d)) as (λ _. (x : DeviceRow) × (slice_get (r ∷ rows) (home d (l ∷ luns)) ≡ Some x) × (x.dev ≡ d)) [
  | inl is ↦ (r, ap (λ (b : Bool). slice_get (r ∷ rows) (cond b 0 (suc (home d luns)))) is, are.0 ∙ equal_dev l.dev d is)
  | inr isnt ↦
      let rest = home_at luns rows d are.1 (within (same_dev l.dev d) (home d luns) (length luns) isnt lt) in
      (rest.0, ap (λ (b : Bool). slice_get (r ∷ rows) (cond b 0 (suc (home d luns)))) isnt ∙ rest.1, rest.2)
]
  where
    within : (b : Bool) (n m : ℕ) → b ≡ false → cond b 0 (suc n) < suc m → n < m
    within true n m isnt h = absurd (false≢true (sym isnt))
    within false n m isnt h = omega (arith, h)
home_at [] (r ∷ rows) d are lt = absurd are
home_at (l ∷ luns) [] d are lt = absurd are

pub of_device : (s : HostSpec) (P : List Entry) (t : Commands) (ds : Devices) → CommandsAgree s P t → DevicesAgree s P ds → (i : ℕ) (r : CommandRow) → slice_get t.rows.items i ≡ Some r → IsOf s ds r.id r.device
of_device s P t ds f k i r at =
    let command = command_at s.luns s.cmds t.rows.items f.rows_are i r at in
    let both = both_at s.luns s.cmds t.rows.items f.rows_are i command.0 r command.1 at in
    let lt : home command.0.dev s.luns < length s.luns = omega (arith, f.housed i r at, both.2, f.set_count) in
    let there = home_at s.luns ds.rows.items command.0.dev k.rows_are lt in
    record {
      command = command.0;
      place = i;
      at = command.1;
      id = sym both.0;
      row = there.0;
      row_at = ap (slice_get ds.rows.items) both.2 ∙ there.1;
      dev = there.2;
    }

pub of_device_at : (s : HostSpec) (P : List Entry) (t : Commands) (ds : Devices) (f : CommandsAgree s P t) (k : DevicesAgree s P ds) (i : ℕ) (r : CommandRow) (at : slice_get t.rows.items i ≡ Some r)
    → slice_get s.cmds i ≡ Some (of_device s P t ds f k i r at).command
unfolding of_device
of_device_at s P t ds f k i r at = (command_at s.luns s.cmds t.rows.items f.rows_are i r at).1

-- ids stay where a row is written
pub id_kept : (rows : List CommandRow) (i : ℕ) (r q : CommandRow) (j : ℕ) → slice_get rows i ≡ Some r → q.id ≡ r.id → id_at j (set rows i q) ≡ id_at j rows
id_kept rows i r q j at id = elim (cases_Bool (i == j)) as (λ _. id_at j (set rows i q) ≡ id_at j rows) [
  | inl is ↦
      ap (option_map (λ (x : CommandRow). x.id)) (get_set rows i j r q at ∙ ap (λ (b : Bool). cond b (Some q) (slice_get rows j)) is)
      ∙ ap Some id ∙ sym (ap (option_map (λ (x : CommandRow). x.id)) (ap (slice_get rows) (sym (eqb-true i j is)) ∙ at))
  | inr isnt ↦ ap (option_map (λ (x : CommandRow). x.id)) (get_set rows i j r q at ∙ ap (λ (b : Bool). cond b (Some q) (slice_get rows j)) isnt)
]

-- a command that stands where it did is out where it was
pub out_alike : (c : ℕ) (P Q : List Entry) → standing c Q ≡ standing c P → failed_since_sent c Q ≡ failed_since_sent c P → is_aborting c Q ≡ is_aborting c P → is_out c Q ≡ is_out c P
out_alike c P Q stands failing aborting = rw (stands, failing, aborting) refl

-- a command that isn't busy has no attempt under way
pub idle_under_way : (P Q : List Entry) (attempts : List Row) (c : ℕ) (x : Standing) → is_busy (standing c P) ≡ false
    → ((d : ℕ) → standing d Q ≡ cond (c == d) x (standing d P)) → ((d : ℕ) → failed_since_sent d Q ≡ failed_since_sent d P) → ((d : ℕ) → is_aborting d Q ≡ is_aborting d P)
    → AreUnderWay P attempts → AreUnderWay Q attempts
idle_under_way P Q attempts c x idle changed failing aborting under n r at live =
    let was = under n r at live in
    let apart : (c == r.command.0) ≡ false = ne_eqb c r.command.0 (λ e. false≢true (sym idle ∙ ap (λ (d : ℕ). is_busy (standing d P)) e ∙ ap is_busy was.0)) in
    let stands : standing r.command.0 Q ≡ standing r.command.0 P = changed r.command.0 ∙ ap (λ (b : Bool). cond b x (standing r.command.0 P)) apart in
    (stands ∙ was.0, out_alike r.command.0 P Q stands (failing r.command.0) (aborting r.command.0) ∙ was.1)

-- a command comes to stand where it isn't busy
pub unheld : (s : HostSpec) (P Q : List Entry) (c : ℕ) (x : Standing) → is_busy x ≡ false → ((d : ℕ) → standing d Q ≡ cond (c == d) x (standing d P))
    → ((u : ℕ) → sent_with u Q ≡ sent_with u P) → ((n : ℕ) → sent_for n Q ≡ sent_for n P) → AreHeld s P → AreHeld s Q
unheld s P Q c x idle changed with_same for_same held d n t busy = elim (cases_Bool (c == d)) as (λ _. (sent_with t.0 Q ≡ n.0) × (sent_for n.0 Q ≡ d) × (t.0 < s.can_queue)) [
  | inl is ↦ absurd (false≢true (sym idle ∙ ap is_busy (sym (changed d ∙ ap (λ (b : Bool). cond b x (standing d P)) is) ∙ busy)))
  | inr isnt ↦
      let was = held d n t (sym (changed d ∙ ap (λ (b : Bool). cond b x (standing d P)) isnt) ∙ busy) in
      (with_same t.0 ∙ was.0, for_same n.0 ∙ was.1, was.2)
]

pub any_at : (p : CmdSpec → Bool) (xs : List CmdSpec) (i : ℕ) (x : CmdSpec) → slice_get xs i ≡ Some x → p x ≡ true → list_any p xs ≡ true
any_at p [] i x at holds = absurd (none-some x at)
any_at p (y ∷ xs) zero x at holds = ap (λ (b : Bool). b || list_any p xs) (ap p (same_Some y x at) ∙ holds)
any_at p (y ∷ xs) (suc i) x at holds = ap (λ (b : Bool). p y || b) (any_at p xs i x at holds) ∙ or_true (p y)
  where
    or_true : (b : Bool) → b || true ≡ true
    or_true true = refl
    or_true false = refl

-- the command of the spec at a place with an id
pub spec_at : (s : HostSpec) (P : List Entry) (t : Commands) → CommandsAgree s P t → (i : ℕ) (c : CmdId) → id_at i t.rows.items ≡ Some c
    → (k : CmdSpec) × (slice_get s.cmds i ≡ Some k) × (k.id ≡ c)
spec_at s P t f i c is = by_row (slice_get t.rows.items i) refl is
  where
    by_row : (o : Option CommandRow) → slice_get t.rows.items i ≡ o → option_map (λ (r : CommandRow). r.id) o ≡ Some c → (k : CmdSpec) × (slice_get s.cmds i ≡ Some k) × (k.id ≡ c)
    by_row None at e = absurd (none-some c e)
    by_row (Some r) at e =
        let command = command_at s.luns s.cmds t.rows.items f.rows_are i r at in
        let both = both_at s.luns s.cmds t.rows.items f.rows_are i command.0 r command.1 at in
        (command.0, command.1, sym both.0 ∙ same_Some r.id c e)

-- a busy command is one of the host's
pub is_known : (s : HostSpec) (P : List Entry) (t : Commands) (c : ℕ) (n : Attempt) (u : Tag) → CommandsAgree s P t → standing c P ≡ Busy n u → knows s c ≡ true
is_known s P t c n u f busy =
    let there = busy_at s P t c n u f busy in
    any_at (λ k. k.id.0 == c) s.cmds there.0 there.1 there.2 (eq-eqb there.1.id.0 c there.3)

-- the row of a command that stands so at a place
pub stands_at : (rows : List CommandRow) (i : ℕ) (x : Standing) → standing_at i rows ≡ Some x → (r : CommandRow) × (slice_get rows i ≡ Some r) × (r.standing ≡ x)
stands_at rows i x is = by_row (slice_get rows i) refl is
  where
    by_row : (o : Option CommandRow) → slice_get rows i ≡ o → option_map (λ (r : CommandRow). r.standing) o ≡ Some x → (r : CommandRow) × (slice_get rows i ≡ Some r) × (r.standing ≡ x)
    by_row None at e = absurd (none-some x e)
    by_row (Some r) at e = (r, at, same_Some r.standing x e)

-- a command stands where its row says
pub command_stands : (s : HostSpec) (P : List Entry) (t : Commands) → CommandsAgree s P t → (i : ℕ) (r : CommandRow) → slice_get t.rows.items i ≡ Some r
    → (c : CmdId) → id_at i t.rows.items ≡ Some c → standing c.0 P ≡ r.standing
command_stands s P t f i r at c is = ap (λ (k : CmdId). standing k.0 P) (sym (id_is i t.rows.items r c at is)) ∙ (reads_at s P t f i r at).0

-- the ids of the rows are those of the spec
ids_as : (luns : List LunSpec) (ks : List CmdSpec) (rs : List CommandRow) → AreCommands luns ks rs → (i : ℕ) → id_at i rs ≡ option_map (λ (k : CmdSpec). k.id) (slice_get ks i)
ids_as luns [] [] are i = refl
ids_as luns (k ∷ ks) (r ∷ rs) are zero = ap Some are.0
ids_as luns (k ∷ ks) (r ∷ rs) are (suc i) = ids_as luns ks rs are.3 i
ids_as luns [] (r ∷ rs) are i = absurd are
ids_as luns (k ∷ ks) [] are i = absurd are

pub same_ids : (s : HostSpec) (P Q : List Entry) (old new : Commands) → CommandsAgree s P old → CommandsAgree s Q new → (i : ℕ) → id_at i new.rows.items ≡ id_at i old.rows.items
same_ids s P Q old new f g i = ids_as s.luns s.cmds new.rows.items g.rows_are i ∙ sym (ids_as s.luns s.cmds old.rows.items f.rows_are i)
