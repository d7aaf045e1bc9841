-- What a change of one command's standing changes of the tags.
use Rattle.std.proofs.Common.{◌≡◌, ◌∙◌, sym, ap, refl, ℕ, zero, suc, ◌+◌, ◌<◌, ◌==◌, Bool, true, false, ◌&&◌, cond, List, [], ◌∷◌, length, set, Option, None, Some, arith, inl, inr}
use Rattle.std.specs.Prelude.{find, slice_get, option_map, is_some}
use Rattle.std.proofs.lemmas.Bool.{cases_Bool, false≢true, eq-eqb, eqb-true, ne_eqb}
use Rattle.std.proofs.lemmas.List.{length-set, get_or-set_same, get_or-set_other}
use Rattle.std.proofs.lemmas.List.Sums.{sum_by-set}
use Rattle.std.proofs.lemmas.Option.{same_Some, none-some}
use Rattle.mid_base.specs.declared.names.DevAddr.{DevAddr}
use Rattle.mid_base.specs.declared.names.Attempt.{Attempt}
use Rattle.mid_base.specs.declared.names.Tag.{Tag}
use Rattle.mid_base.specs.declared.entries.Entry.{Entry}
use Rattle.mid_base.specs.declared.host_spec.CmdSpec.{CmdSpec}
use Rattle.mid_base.specs.declared.host_spec.HostSpec.{HostSpec}
use Rattle.mid_base.specs.Address.{same_dev}
use Rattle.mid_base.specs.Limits.{differ_in_id}
use Rattle.tag_pool.specs.Pool.{Pool}
use Rattle.tag_pool.specs.Tags.{Holders, holder, is_out_for, out_of, all_out}
use Rattle.trace_model.specs.declared.standing.Standing.{Standing}
use Rattle.trace_model.specs.declared.standing.Standing.TheVariants.{New, Waits, Busy, Ended}
use Rattle.trace_model.specs.Commands.{standing, holds, is_busy}
use Rattle.trace_model.specs.Counts.{busy_count, busy_on}
use Rattle.device_table.specs.DevicesAgree.{holder_of, TagsAre}
use Rattle.device_table.proofs.Counts.{count_one, count_alike, find_one, find_alike, find_none}

and_true : (b : Bool) → b && true ≡ b
and_true true = refl
and_true false = refl

and_false : (b : Bool) → b && false ≡ false
and_false true = refl
and_false false = refl

-- a command that isn't busy holds no tag
pub idle_holds : (u : ℕ) (x : Standing) → is_busy x ≡ false → holds u x ≡ false
idle_holds u New h = refl
idle_holds u Waits h = refl
idle_holds u (Busy n t) h = absurd (false≢true (sym h))
idle_holds u Ended h = refl

-- a search that found nothing
not_found : (p : CmdSpec → Bool) (ks : List CmdSpec) → option_map (λ k. k.dev) (find p ks) ≡ None → (i : ℕ) (k : CmdSpec) → slice_get ks i ≡ Some k → p k ≡ false
not_found p [] none i k at = absurd (none-some k at)
not_found p (j ∷ ks) none zero k at = elim (cases_Bool (p j)) as (λ _. p k ≡ false) [
  | inl is ↦ absurd (none-some j.dev (sym none ∙ ap (λ (b : Bool). option_map (λ (x : CmdSpec). x.dev) (cond b (Some j) (find p ks))) is))
  | inr isnt ↦ ap p (sym (same_Some j k at)) ∙ isnt
]
not_found p (j ∷ ks) none (suc i) k at = elim (cases_Bool (p j)) as (λ _. p k ≡ false) [
  | inl is ↦ absurd (none-some j.dev (sym none ∙ ap (λ (b : Bool). option_map (λ (x : CmdSpec). x.dev) (cond b (Some j) (find p ks))) is))
  | inr isnt ↦ not_found p ks (sym (ap (λ (b : Bool). option_map (λ (x : CmdSpec). x.dev) (cond b (Some j) (find p ks))) isnt) ∙ none) i k at
]

-- the command k comes to stand at x, and no other command elsewhere
pub record Restood (s : HostSpec) (P Q : List Entry) (k : CmdSpec) (x : Standing) : Type 0 where
  pub ids : differ_in_id s.cmds ≡ true
  pub place : ℕ
  pub at : slice_get s.cmds place ≡ Some k
  pub changed : (d : ℕ) → standing d Q ≡ cond (k.id.0 == d) x (standing d P)

module _ (s : HostSpec) (P Q : List Entry) (k : CmdSpec) (x : Standing) (re : Restood s P Q k x) where
  here : standing k.id.0 Q ≡ x
  here = re.changed k.id.0 ∙ ap (λ (b : Bool). cond b x (standing k.id.0 P)) (eq-eqb k.id.0 k.id.0 refl)

  other : (j : CmdSpec) → (j.id.0 == k.id.0) ≡ false → standing j.id.0 Q ≡ standing j.id.0 P
  other j apart =
      let apart' : (k.id.0 == j.id.0) ≡ false = ne_eqb k.id.0 j.id.0 (λ e. false≢true (sym apart ∙ eq-eqb j.id.0 k.id.0 (sym e))) in
      re.changed j.id.0 ∙ ap (λ (b : Bool). cond b x (standing j.id.0 P)) apart'

  pub busy_now : busy_count s Q + cond (is_busy (standing k.id.0 P)) 1 0 ≡ busy_count s P + cond (is_busy x) 1 0
  busy_now =
      count_one (λ j. is_busy (standing j.id.0 Q)) (λ j. is_busy (standing j.id.0 P)) s.cmds re.ids re.place k re.at (λ j apart. ap is_busy (other j apart))
      ∙ ap (λ (y : Standing). busy_count s P + cond {A = ℕ} (is_busy y) 1 0) here

  pub busy_on_now : (d : DevAddr) → busy_on s Q d + cond (same_dev k.dev d && is_busy (standing k.id.0 P)) 1 0 ≡ busy_on s P d + cond (same_dev k.dev d && is_busy x) 1 0
  busy_on_now d =
      count_one (λ j. same_dev j.dev d && is_busy (standing j.id.0 Q)) (λ j. same_dev j.dev d && is_busy (standing j.id.0 P)) s.cmds re.ids re.place k re.at
      (λ j apart. ap (λ (y : Standing). same_dev j.dev d && is_busy y) (other j apart))
      ∙ ap (λ (y : Standing). busy_on s P d + cond {A = ℕ} (same_dev k.dev d && is_busy y) 1 0) here

  -- what holds a tag that neither standing of k holds
  pub holder_kept : (u : ℕ) → holds u x ≡ holds u (standing k.id.0 P) → holder_of s Q u ≡ holder_of s P u
  holder_kept u same = ap (λ (o : Option CmdSpec). option_map (λ (j : CmdSpec). j.dev) o) (find_alike (λ j. holds u (standing j.id.0 Q)) (λ j. holds u (standing j.id.0 P)) s.cmds alike)
    where
      alike : (i : ℕ) (j : CmdSpec) → slice_get s.cmds i ≡ Some j → holds u (standing j.id.0 Q) ≡ holds u (standing j.id.0 P)
      alike i j at = elim (cases_Bool (j.id.0 == k.id.0)) as (λ _. holds u (standing j.id.0 Q) ≡ holds u (standing j.id.0 P)) [
        | inl is ↦
            let e : j.id.0 ≡ k.id.0 = eqb-true j.id.0 k.id.0 is in
            ap (λ (c : ℕ). holds u (standing c Q)) e ∙ ap (holds u) here ∙ same ∙ ap (λ (c : ℕ). holds u (standing c P)) (sym e)
        | inr apart ↦ ap (holds u) (other j apart)
      ]

-- the holders after a write
out_set : (d : DevAddr) (tags : Holders) (t : ℕ) (new : Option DevAddr) → t < length tags → out_of d (set tags t new) + cond (is_out_for d (holder t tags)) 1 0 ≡ out_of d tags + cond (is_out_for d new) 1 0
out_set d tags t new lt = sum_by-set {X = Option DevAddr} (λ h. cond (is_out_for d h) 1 0) tags t new None lt

all_set : (tags : Holders) (t : ℕ) (new : Option DevAddr) → t < length tags → all_out (set tags t new) + cond (is_some (holder t tags)) 1 0 ≡ all_out tags + cond (is_some new) 1 0
all_set tags t new lt = sum_by-set {X = Option DevAddr} (λ h. cond (is_some h) 1 0) tags t new None lt

holder_set : (tags : Holders) (t u : ℕ) (new : Option DevAddr) → t < length tags → holder u (set tags t new) ≡ cond (t == u) new (holder u tags)
holder_set tags t u new lt = elim (cases_Bool (t == u)) as (λ _. holder u (set tags t new) ≡ cond (t == u) new (holder u tags)) [
  | inl is ↦ ap (λ (v : ℕ). holder v (set tags t new)) (sym (eqb-true t u is)) ∙ get_or-set_same tags t new None lt ∙ sym (ap (λ (b : Bool). cond b new (holder u tags)) is)
  | inr isnt ↦ get_or-set_other tags t u new None (λ e. false≢true (sym isnt ∙ eq-eqb t u (sym e))) ∙ sym (ap (λ (b : Bool). cond b new (holder u tags)) isnt)
]

-- counts that go up together
more_both : (b : Bool) (out out' h h' less idle : ℕ) → out' + less ≡ out + cond b 1 0 → less ≡ 0 → h' + idle ≡ h + cond b 1 0 → idle ≡ 0 → out ≡ h → out' ≡ h'
more_both b out out' h h' less idle e none f zero' same = omega (arith, e, none, f, zero', same)

-- a command that isn't busy is sent with a free tag
pub tags_sent : (s : HostSpec) (P Q : List Entry) (k : CmdSpec) (n : Attempt) (t : Tag) (old new : Pool) → Restood s P Q k (Busy n t) → is_busy (standing k.id.0 P) ≡ false
    → t.0 < s.can_queue → holder t.0 old.tags ≡ None → new.tags ≡ set old.tags t.0 (Some k.dev) → TagsAre s P old → TagsAre s Q new
tags_sent s P Q k n t old new re idle lt free is tags = record {
  count = ap length is ∙ length-set old.tags t.0 (Some k.dev) ∙ tags.count;
  holders = λ u below. ap (holder u) is ∙ holder_set old.tags t.0 u (Some k.dev) within ∙ holders u below;
  of_each = λ d. ap (out_of d) is ∙ of_each d;
  all = ap all_out is ∙ all;
}
  where
    within : t.0 < length old.tags
    within = omega (arith, lt, tags.count)

    free_of : (i : ℕ) (j : CmdSpec) → slice_get s.cmds i ≡ Some j → holds t.0 (standing j.id.0 P) ≡ false
    free_of i j at = not_found (λ x. holds t.0 (standing x.id.0 P)) s.cmds (sym (tags.holders t.0 lt) ∙ free) i j at

    here_held : holder_of s Q t.0 ≡ Some k.dev
    here_held =
        ap (λ (o : Option CmdSpec). option_map (λ (j : CmdSpec). j.dev) o)
        (find_one (λ j. holds t.0 (standing j.id.0 Q)) s.cmds re.ids re.place k re.at
        (λ i j at apart. ap (holds t.0) (other s P Q k (Busy n t) re j apart) ∙ free_of i j at)
        (ap (holds t.0) (here s P Q k (Busy n t) re) ∙ eq-eqb t.0 t.0 refl))

    holders : (u : ℕ) → u < s.can_queue → cond (t.0 == u) (Some k.dev) (holder u old.tags) ≡ holder_of s Q u
    holders u below = elim (cases_Bool (t.0 == u)) as (λ _. cond (t.0 == u) (Some k.dev) (holder u old.tags) ≡ holder_of s Q u) [
      | inl same ↦
          ap (λ (b : Bool). cond b (Some k.dev) (holder u old.tags)) same ∙ sym here_held ∙ ap (holder_of s Q) (eqb-true t.0 u same)
      | inr apart ↦
          ap (λ (b : Bool). cond b (Some k.dev) (holder u old.tags)) apart ∙ tags.holders u below
          ∙ sym (holder_kept s P Q k (Busy n t) re u (apart ∙ sym (idle_holds u (standing k.id.0 P) idle)))
    ]

    of_each : (d : DevAddr) → out_of d (set old.tags t.0 (Some k.dev)) ≡ busy_on s Q d
    of_each d =
        more_both (same_dev k.dev d) (out_of d old.tags) (out_of d (set old.tags t.0 (Some k.dev))) (busy_on s P d) (busy_on s Q d) (cond (is_out_for d (holder t.0 old.tags)) 1 0) (cond (same_dev k.dev d && is_busy (standing k.id.0 P)) 1 0)
        (out_set d old.tags t.0 (Some k.dev) within)
        (ap (λ (h : Option DevAddr). cond {A = ℕ} (is_out_for d h) 1 0) free)
        (busy_on_now s P Q k (Busy n t) re d ∙ ap (λ (b : Bool). busy_on s P d + cond {A = ℕ} b 1 0) (and_true (same_dev k.dev d)))
        (ap (λ (b : Bool). cond {A = ℕ} (same_dev k.dev d && b) 1 0) idle ∙ ap (λ (b : Bool). cond {A = ℕ} b 1 0) (and_false (same_dev k.dev d)))
        (tags.of_each d)

    all : all_out (set old.tags t.0 (Some k.dev)) ≡ busy_count s Q
    all =
        more_both true (all_out old.tags) (all_out (set old.tags t.0 (Some k.dev))) (busy_count s P) (busy_count s Q) (cond (is_some (holder t.0 old.tags)) 1 0) (cond (is_busy (standing k.id.0 P)) 1 0)
        (all_set old.tags t.0 (Some k.dev) within)
        (ap (λ (h : Option DevAddr). cond {A = ℕ} (is_some h) 1 0) free)
        (busy_now s P Q k (Busy n t) re)
        (ap (λ (b : Bool). cond {A = ℕ} b 1 0) idle)
        tags.all

-- counts that go down together
less_both : (b : Bool) (out out' h h' none idle more : ℕ) → out' + more ≡ out + none → none ≡ 0 → h' + idle ≡ h + none → idle ≡ more → out ≡ h → out' ≡ h'
less_both b out out' h h' none idle more e zero' f same_more same = omega (arith, e, zero', f, same_more, same)

-- a busy command is busy no longer, and its tag is given back
pub tags_given : (s : HostSpec) (P Q : List Entry) (k : CmdSpec) (n : Attempt) (t : Tag) (x : Standing) (old new : Pool) → Restood s P Q k x → standing k.id.0 P ≡ Busy n t → is_busy x ≡ false
    → ((i : ℕ) (j : CmdSpec) → slice_get s.cmds i ≡ Some j → holds t.0 (standing j.id.0 P) ≡ true → j.id.0 ≡ k.id.0)
    → t.0 < s.can_queue → new.tags ≡ set old.tags t.0 None → TagsAre s P old → TagsAre s Q new
tags_given s P Q k n t x old new re was idle alone lt is tags = record {
  count = ap length is ∙ length-set old.tags t.0 None ∙ tags.count;
  holders = λ u below. ap (holder u) is ∙ holder_set old.tags t.0 u None within ∙ holders u below;
  of_each = λ d. ap (out_of d) is ∙ of_each d;
  all = ap all_out is ∙ all;
}
  where
    within : t.0 < length old.tags
    within = omega (arith, lt, tags.count)

    others : (i : ℕ) (j : CmdSpec) → slice_get s.cmds i ≡ Some j → (j.id.0 == k.id.0) ≡ false → holds t.0 (standing j.id.0 P) ≡ false
    others i j at apart = elim (cases_Bool (holds t.0 (standing j.id.0 P))) as (λ _. holds t.0 (standing j.id.0 P) ≡ false) [
      | inl held' ↦ absurd (false≢true (sym apart ∙ eq-eqb j.id.0 k.id.0 (alone i j at held')))
      | inr isnt ↦ isnt
    ]

    was_held : holder t.0 old.tags ≡ Some k.dev
    was_held =
        tags.holders t.0 lt
        ∙ ap (λ (o : Option CmdSpec). option_map (λ (j : CmdSpec). j.dev) o)
        (find_one (λ j. holds t.0 (standing j.id.0 P)) s.cmds re.ids re.place k re.at others (ap (holds t.0) was ∙ eq-eqb t.0 t.0 refl))

    none_holds : holder_of s Q t.0 ≡ None
    none_holds = ap (λ (o : Option CmdSpec). option_map (λ (j : CmdSpec). j.dev) o) (find_none (λ j. holds t.0 (standing j.id.0 Q)) s.cmds none_of)
      where
        none_of : (i : ℕ) (j : CmdSpec) → slice_get s.cmds i ≡ Some j → holds t.0 (standing j.id.0 Q) ≡ false
        none_of i j at = elim (cases_Bool (j.id.0 == k.id.0)) as (λ _. holds t.0 (standing j.id.0 Q) ≡ false) [
          | inl same ↦ ap (λ (c : ℕ). holds t.0 (standing c Q)) (eqb-true j.id.0 k.id.0 same) ∙ ap (holds t.0) (here s P Q k x re) ∙ idle_holds t.0 x idle
          | inr apart ↦ ap (holds t.0) (other s P Q k x re j apart) ∙ others i j at apart
        ]

    holders : (u : ℕ) → u < s.can_queue → cond (t.0 == u) None (holder u old.tags) ≡ holder_of s Q u
    holders u below = elim (cases_Bool (t.0 == u)) as (λ _. cond (t.0 == u) None (holder u old.tags) ≡ holder_of s Q u) [
      | inl same ↦ ap (λ (b : Bool). cond b None (holder u old.tags)) same ∙ sym none_holds ∙ ap (holder_of s Q) (eqb-true t.0 u same)
      | inr apart ↦
          ap (λ (b : Bool). cond b None (holder u old.tags)) apart ∙ tags.holders u below
          ∙ sym (holder_kept s P Q k x re u (idle_holds u x idle ∙ sym (ap (holds u) was ∙ apart)))
    ]

    of_each : (d : DevAddr) → out_of d (set old.tags t.0 None) ≡ busy_on s Q d
    of_each d =
        less_both (same_dev k.dev d) (out_of d old.tags) (out_of d (set old.tags t.0 None)) (busy_on s P d) (busy_on s Q d) 0 (cond (same_dev k.dev d && is_busy (standing k.id.0 P)) 1 0) (cond (is_out_for d (holder t.0 old.tags)) 1 0)
        (out_set d old.tags t.0 None within) refl
        (busy_on_now s P Q k x re d ∙ ap (λ (b : Bool). busy_on s P d + cond {A = ℕ} (same_dev k.dev d && b) 1 0) idle ∙ ap (λ (b : Bool). busy_on s P d + cond {A = ℕ} b 1 0) (and_false (same_dev k.dev d)))
        (ap (λ (y : Standing). cond {A = ℕ} (same_dev k.dev d && is_busy y) 1 0) was ∙ ap (λ (b : Bool). cond {A = ℕ} b 1 0) (and_true (same_dev k.dev d)) ∙ sym (ap (λ (h : Option DevAddr). cond {A = ℕ} (is_out_for d h) 1 0) was_held))
        (tags.of_each d)

    all : all_out (set old.tags t.0 None) ≡ busy_count s Q
    all =
        less_both true (all_out old.tags) (all_out (set old.tags t.0 None)) (busy_count s P) (busy_count s Q) 0 (cond (is_busy (standing k.id.0 P)) 1 0) (cond (is_some (holder t.0 old.tags)) 1 0)
        (all_set old.tags t.0 None within) refl
        (busy_now s P Q k x re ∙ ap (λ (b : Bool). busy_count s P + cond {A = ℕ} b 1 0) idle)
        (ap (λ (y : Standing). cond {A = ℕ} (is_busy y) 1 0) was ∙ sym (ap (λ (h : Option DevAddr). cond {A = ℕ} (is_some h) 1 0) was_held))
        tags.all

-- a command that isn't busy comes to stand elsewhere, and isn't busy there
pub tags_kept : (s : HostSpec) (P Q : List Entry) (k : CmdSpec) (x : Standing) (pool : Pool) → Restood s P Q k x → is_busy (standing k.id.0 P) ≡ false → is_busy x ≡ false
    → TagsAre s P pool → TagsAre s Q pool
tags_kept s P Q k x pool re was is tags = record {
  count = tags.count;
  holders = λ u below. tags.holders u below ∙ sym (holder_kept s P Q k x re u (idle_holds u x is ∙ sym (idle_holds u (standing k.id.0 P) was)));
  of_each = λ d. tags.of_each d ∙ alike (busy_on s P d) (busy_on s Q d) (cond (same_dev k.dev d && is_busy (standing k.id.0 P)) 1 0) (cond (same_dev k.dev d && is_busy x) 1 0)
      (busy_on_now s P Q k x re d) (ap (λ (b : Bool). cond {A = ℕ} (same_dev k.dev d && b) 1 0) (was ∙ sym is));
  all = tags.all ∙ alike (busy_count s P) (busy_count s Q) (cond (is_busy (standing k.id.0 P)) 1 0) (cond (is_busy x) 1 0) (busy_now s P Q k x re) (ap (λ (b : Bool). cond {A = ℕ} b 1 0) (was ∙ sym is));
}
  where
    alike : (a b m n : ℕ) → b + m ≡ a + n → m ≡ n → a ≡ b
    alike a b m n e f = omega (arith, e, f)

-- a tag that a command holds alone is out for its device
pub is_held_by : (s : HostSpec) (P : List Entry) (k : CmdSpec) (i : ℕ) (n : Attempt) (t : Tag) (pool : Pool) → differ_in_id s.cmds ≡ true → slice_get s.cmds i ≡ Some k
    → standing k.id.0 P ≡ Busy n t → ((m : ℕ) (j : CmdSpec) → slice_get s.cmds m ≡ Some j → holds t.0 (standing j.id.0 P) ≡ true → j.id.0 ≡ k.id.0)
    → t.0 < s.can_queue → TagsAre s P pool → holder t.0 pool.tags ≡ Some k.dev
is_held_by s P k i n t pool ids at was alone lt tags =
    tags.holders t.0 lt
    ∙ ap (λ (o : Option CmdSpec). option_map (λ (j : CmdSpec). j.dev) o)
    (find_one (λ j. holds t.0 (standing j.id.0 P)) s.cmds ids i k at others (ap (holds t.0) was ∙ eq-eqb t.0 t.0 refl))
  where
    others : (m : ℕ) (j : CmdSpec) → slice_get s.cmds m ≡ Some j → (j.id.0 == k.id.0) ≡ false → holds t.0 (standing j.id.0 P) ≡ false
    others m j get apart = elim (cases_Bool (holds t.0 (standing j.id.0 P))) as (λ _. holds t.0 (standing j.id.0 P) ≡ false) [
      | inl held' ↦ absurd (false≢true (sym apart ∙ eq-eqb j.id.0 k.id.0 (alone m j get held')))
      | inr isnt ↦ isnt
    ]

-- commands are busy with the same tags after both lists of entries
pub tags_alike : (s : HostSpec) (P Q : List Entry) (pool : Pool) → ((d : ℕ) → is_busy (standing d Q) ≡ is_busy (standing d P)) → ((t d : ℕ) → holds t (standing d Q) ≡ holds t (standing d P))
    → TagsAre s P pool → TagsAre s Q pool
tags_alike s P Q pool busy holding tags = record {
  count = tags.count;
  holders = λ u below. tags.holders u below
      ∙ sym (ap (λ (o : Option CmdSpec). option_map (λ (j : CmdSpec). j.dev) o) (find_alike (λ j. holds u (standing j.id.0 Q)) (λ j. holds u (standing j.id.0 P)) s.cmds (λ i j at. holding u j.id.0)));
  of_each = λ d. tags.of_each d ∙ sym (count_alike (λ j. same_dev j.dev d && is_busy (standing j.id.0 Q)) (λ j. same_dev j.dev d && is_busy (standing j.id.0 P)) s.cmds (λ j. ap (λ (b : Bool). same_dev j.dev d && b) (busy j.id.0)));
  all = tags.all ∙ sym (count_alike (λ j. is_busy (standing j.id.0 Q)) (λ j. is_busy (standing j.id.0 P)) s.cmds (λ j. busy j.id.0));
}
