-- Hosts within the limits stay so as lines add to them.
use Rattle.std.proofs.Common.{◌≡◌, ℕ, ◌+◌, ◌≤◌, ◌<◌, Bool, true, false, ◌&&◌, ◌||◌, List, [], ◌∷◌, ◌++◌, length, Some, None, refl, ap, arith, inl, inr, length-append}
use Rattle.std.specs.Prelude.{◌==◌, nat_le}
use Rattle.std.specs.List.{list_any, list_all}
use Rattle.std.specs.Ordering.{nat_cmp}
use Rattle.std.specs.BTreeSet.{insert_key}
use Rattle.std.proofs.lemmas.Bool.{cases_Bool, and_parts, le-leb}
use Rattle.mid_base.specs.Address.{same_dev, has_dev}
use Rattle.mid_base.specs.Limits.{is_between, is_lun, is_command, has_block, is_fault, is_planned, differ_in_address, differ_in_id, KeepsLimits}
use Rattle.mid_base.specs.declared.faults.PlanEntry.{PlanEntry}
use Rattle.mid_base.specs.declared.host_spec.LunSpec.{LunSpec}
use Rattle.mid_base.specs.declared.host_spec.CmdSpec.{CmdSpec}
use Rattle.mid_base.specs.declared.host_spec.HostSpec.{HostSpec}
use Rattle.mid_base.specs.declared.steps.Step.{Step}
use Rattle.script_text.specs.Said.{host_of, is_id, with_unit, with_planned, with_command, on_host}
use Rattle.script_text.specs.Playable.{IsStepOn, IsStepOnSome, differ_in_number}
use Rattle.script_text.proofs.Grown.{all_where, all_more, any_kept, addresses_more, ids_more, unknown_id}
use Rattle.script_text.proofs.Ids.{kept_id, own_id, one_more_id}

-- a host whose commands are among these ids, with no more planned faults than these
pub record HostKeeps (ids : List ℕ) (plans : ℕ) (h : HostSpec) : Type 0 where
  pub number : nat_le h.no.0 63 ≡ true
  pub tags : is_between 1 1024 h.can_queue ≡ true
  pub lun_count : length h.luns ≤ 256
  pub command_count : length h.cmds ≤ length ids
  pub plan_count : length h.plan ≤ plans
  pub luns : list_all is_lun h.luns ≡ true
  pub addresses : differ_in_address h.luns ≡ true
  pub commands : list_all (is_command h.luns) h.cmds ≡ true
  pub differ : differ_in_id h.cmds ≡ true
  pub known : list_all (λ k. is_id ids k.id.0) h.cmds ≡ true
  pub plan : list_all (is_planned h.luns) h.plan ≡ true

-- more ids and planned faults of other hosts
pub more_ids : (ids : List ℕ) (plans i : ℕ) (h : HostSpec) → is_id ids i ≡ false → HostKeeps ids plans h → HostKeeps (insert_key nat_cmp ids i) plans h
more_ids ids plans i h new k =
    record {
      number = k.number;
      tags = k.tags;
      lun_count = k.lun_count;
      command_count = omega (arith, one_more_id ids i new, k.command_count);
      plan_count = k.plan_count;
      luns = k.luns;
      addresses = k.addresses;
      commands = k.commands;
      differ = k.differ;
      known = all_where (λ (c : CmdSpec). is_id ids c.id.0) (λ c. is_id (insert_key nat_cmp ids i) c.id.0) (λ c e. kept_id ids i c.id.0 e) h.cmds k.known;
      plan = k.plan;
    }

pub more_plans : (ids : List ℕ) (plans : ℕ) (h : HostSpec) → HostKeeps ids plans h → HostKeeps ids (plans + 1) h
more_plans ids plans h k =
    record {
      number = k.number;
      tags = k.tags;
      lun_count = k.lun_count;
      command_count = k.command_count;
      plan_count = omega (arith, k.plan_count);
      luns = k.luns;
      addresses = k.addresses;
      commands = k.commands;
      differ = k.differ;
      known = k.known;
      plan = k.plan;
    }

-- what names a unit names one of more units too
command_stays : (luns : List LunSpec) (l : LunSpec) (k : CmdSpec) → is_command luns k ≡ true → is_command (luns ++ l ∷ []) k ≡ true
command_stays luns l k e =
    let z = and_parts (has_dev luns k.dev && is_between 1 4294967295 k.id.0 && nat_le k.lane.0 63 && is_between 1 10000 k.timeout && nat_le k.allowed 20) (has_block k) e in
    let a = and_parts (has_dev luns k.dev && is_between 1 4294967295 k.id.0 && nat_le k.lane.0 63 && is_between 1 10000 k.timeout) (nat_le k.allowed 20) z.0 in
    let b = and_parts (has_dev luns k.dev && is_between 1 4294967295 k.id.0 && nat_le k.lane.0 63) (is_between 1 10000 k.timeout) a.0 in
    let c = and_parts (has_dev luns k.dev && is_between 1 4294967295 k.id.0) (nat_le k.lane.0 63) b.0 in
    let d = and_parts (has_dev luns k.dev) (is_between 1 4294967295 k.id.0) c.0 in
    rw (any_kept (λ m. same_dev m.dev k.dev) luns (l ∷ []) d.0, d.1, c.1, b.1, a.1, z.1) refl

planned_stays : (luns : List LunSpec) (l : LunSpec) (e : PlanEntry) → is_planned luns e ≡ true → is_planned (luns ++ l ∷ []) e ≡ true
planned_stays luns l p e =
    let a = and_parts (has_dev luns p.dev && is_fault p.fault && is_between 1 65535 p.first && is_between 1 65535 p.every) (is_between 1 65535 p.uses) e in
    let b = and_parts (has_dev luns p.dev && is_fault p.fault && is_between 1 65535 p.first) (is_between 1 65535 p.every) a.0 in
    let c = and_parts (has_dev luns p.dev && is_fault p.fault) (is_between 1 65535 p.first) b.0 in
    let d = and_parts (has_dev luns p.dev) (is_fault p.fault) c.0 in
    rw (any_kept (λ m. same_dev m.dev p.dev) luns (l ∷ []) d.0, d.1, c.1, b.1, a.1) refl

pub unit_keeps : (ids : List ℕ) (plans : ℕ) (l : LunSpec) (h : HostSpec) → is_lun l ≡ true → has_dev h.luns l.dev ≡ false → length h.luns < 256 → HostKeeps ids plans h → HostKeeps ids plans (with_unit l h)
unit_keeps ids plans l h good new room k =
    record {
      number = k.number;
      tags = k.tags;
      lun_count = omega (arith, length-append h.luns (l ∷ []), room);
      command_count = k.command_count;
      plan_count = k.plan_count;
      luns = all_more is_lun h.luns l k.luns good;
      addresses = addresses_more h.luns l k.addresses new;
      commands = all_where (is_command h.luns) (is_command (h.luns ++ l ∷ [])) (command_stays h.luns l) h.cmds k.commands;
      differ = k.differ;
      known = k.known;
      plan = all_where (is_planned h.luns) (is_planned (h.luns ++ l ∷ [])) (planned_stays h.luns l) h.plan k.plan;
    }

pub planned_keeps : (ids : List ℕ) (plans : ℕ) (e : PlanEntry) (h : HostSpec) → is_planned h.luns e ≡ true → HostKeeps ids plans h → HostKeeps ids (plans + 1) (with_planned e h)
planned_keeps ids plans e h good k =
    record {
      number = k.number;
      tags = k.tags;
      lun_count = k.lun_count;
      command_count = k.command_count;
      plan_count = omega (arith, length-append h.plan (e ∷ []), k.plan_count);
      luns = k.luns;
      addresses = k.addresses;
      commands = k.commands;
      differ = k.differ;
      known = k.known;
      plan = all_more (is_planned h.luns) h.plan e k.plan good;
    }

pub command_keeps : (ids : List ℕ) (plans : ℕ) (c : CmdSpec) (h : HostSpec) → is_command h.luns c ≡ true → is_id ids c.id.0 ≡ false → HostKeeps ids plans h → HostKeeps (insert_key nat_cmp ids c.id.0) plans (with_command c h)
command_keeps ids plans c h good new k =
    let others = more_ids ids plans c.id.0 h new k in
    record {
      number = k.number;
      tags = k.tags;
      lun_count = k.lun_count;
      command_count = omega (arith, length-append h.cmds (c ∷ []), one_more_id ids c.id.0 new, k.command_count);
      plan_count = k.plan_count;
      luns = k.luns;
      addresses = k.addresses;
      commands = all_more (is_command h.luns) h.cmds c k.commands good;
      differ = ids_more h.cmds c k.differ (unknown_id ids c.id.0 h.cmds k.known new);
      known = all_more (λ (j : CmdSpec). is_id (insert_key nat_cmp ids c.id.0) j.id.0) h.cmds c others.known (own_id ids c.id.0);
      plan = k.plan;
    }

pub host_limits : (ids : List ℕ) (plans : ℕ) (h : HostSpec) → length ids ≤ 65536 → plans ≤ 65536 → HostKeeps ids plans h → KeepsLimits h
host_limits ids plans h few_ids few_plans k =
    record {
      number = k.number;
      tags = k.tags;
      lun_count = le-leb (length h.luns) 256 k.lun_count;
      command_count = le-leb (length h.cmds) 65536 (omega (arith, k.command_count));
      plan_count = le-leb (length h.plan) 65536 (omega (arith, k.plan_count));
      luns = k.luns;
      addresses = k.addresses;
      commands = k.commands;
      ids = k.differ;
      plan = k.plan;
    }

-- each of these hosts
abbrev pub Each : (HostSpec → Type 0) → List HostSpec → Type 0
Each P [] = Unit {0}
Each P (h ∷ hosts) = P h × Each P hosts

pub each_more : (P : HostSpec → Type 0) (hosts : List HostSpec) (h : HostSpec) → Each P hosts → P h → Each P (hosts ++ h ∷ [])
each_more P [] h all one = (one, tt)
each_more P (g ∷ hosts) h all one = (all.0, each_more P hosts h all.1 one)

pub each_where : (P Q : HostSpec → Type 0) → ((h : HostSpec) → P h → Q h) → (hosts : List HostSpec) → Each P hosts → Each Q hosts
each_where P Q w [] all = tt
each_where P Q w (h ∷ hosts) all = (w h all.0, each_where P Q w hosts all.1)

pub each_on : (P Q : HostSpec → Type 0) (n : ℕ) (f : HostSpec → HostSpec) → ((h : HostSpec) → P h → Q h) → (hosts : List HostSpec) → ((h : HostSpec) → host_of hosts n ≡ Some h → P h → Q (f h)) → Each P hosts → Each Q (on_host n f hosts)
each_on P Q n f others [] own all = tt
each_on P Q n f others (x ∷ xs) own all =
    elim (cases_Bool (x.no.0 == n)) [
      | inl t ↦ rw t (own x (rw t refl) all.0, each_where P Q others xs all.1)
      | inr g ↦ rw g (others x all.0, each_on P Q n f others xs (λ h e p. own h (rw g e) p) all.1)
    ]

-- changes keep the numbers of hosts
pub numbers_stay : (n m : ℕ) (f : HostSpec → HostSpec) (hosts : List HostSpec) → ((h : HostSpec) → (f h).no.0 ≡ h.no.0) → list_any (λ g. g.no.0 == m) (on_host n f hosts) ≡ list_any (λ g. g.no.0 == m) hosts
numbers_stay n m f [] same = refl
numbers_stay n m f (x ∷ xs) same =
    elim (cases_Bool (x.no.0 == n)) [
      | inl t ↦ rw (t, same x) refl
      | inr g ↦ rw g (ap (λ (b : Bool). (x.no.0 == m) || b) (numbers_stay n m f xs same))
    ]

pub numbers_differ : (n : ℕ) (f : HostSpec → HostSpec) (hosts : List HostSpec) → ((h : HostSpec) → (f h).no.0 ≡ h.no.0) → differ_in_number (on_host n f hosts) ≡ differ_in_number hosts
numbers_differ n f [] same = refl
numbers_differ n f (x ∷ xs) same =
    elim (cases_Bool (x.no.0 == n)) [
      | inl t ↦ rw (t, same x) refl
      | inr g ↦ rw (g, numbers_stay n x.no.0 f xs same, numbers_differ n f xs same) refl
    ]

-- a host without this number comes behind others that differ
pub none_named : (n : ℕ) (hosts : List HostSpec) → host_of hosts n ≡ None → list_any (λ g. g.no.0 == n) hosts ≡ false
none_named n [] e = refl
none_named n (x ∷ xs) e =
    elim (cases_Bool (x.no.0 == n)) [ inl t ↦ absurd (let h = rw t at e in cc h) | inr g ↦ rw g (none_named n xs (rw g at e)) ]

-- the changes that leave a host's steps possible
abbrev pub Widens : (HostSpec → HostSpec) → Type 0
Widens f = (h : HostSpec) (s : Step) → IsStepOn h s → IsStepOn (f h) s

pub step_stays : (n : ℕ) (f : HostSpec → HostSpec) (hosts : List HostSpec) (m : ℕ) (s : Step) → ((h : HostSpec) → (f h).no.0 ≡ h.no.0) → Widens f → IsStepOnSome (host_of hosts m) s → IsStepOnSome (host_of (on_host n f hosts) m) s
step_stays n f [] m s same wide e = e
step_stays n f (x ∷ xs) m s same wide e =
    elim (cases_Bool (x.no.0 == n)) [
      | inl t ↦
          elim (cases_Bool (x.no.0 == m)) [
            | inl u ↦ rw (t, same x, u) (wide x s (rw u at e))
            | inr v ↦ rw (t, same x, v) (rw v at e)
          ]
      | inr g ↦
          elim (cases_Bool (x.no.0 == m)) [
            | inl u ↦ rw (g, u) (rw u at e)
            | inr v ↦ rw (g, v) (step_stays n f xs m s same wide (rw v at e))
          ]
    ]

pub step_before : (hosts : List HostSpec) (h : HostSpec) (m : ℕ) (s : Step) → IsStepOnSome (host_of hosts m) s → IsStepOnSome (host_of (hosts ++ h ∷ []) m) s
step_before [] h m s e = absurd e
step_before (x ∷ xs) h m s e =
    elim (cases_Bool (x.no.0 == m)) [
      | inl u ↦ rw u (rw u at e)
      | inr v ↦ rw v (step_before xs h m s (rw v at e))
    ]
