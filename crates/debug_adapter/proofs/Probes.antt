-- Probes: the adapter stands where their entries leave the journal.
use Rattle.std.proofs.Common.{◌≡◌, ◌≢◌, ℕ, ◌&&◌, ◌⊎◌, Bool, true, false, not, is_some, if◌then◌else◌, List, ◌∷◌, map, Option, None, Some, refl, sym, ap, ◌∙◌, subst, inl, inr}
use Rattle.slab.specs.Slab.{Slab}
use Rattle.mid_base.specs.declared.names.CmdId.{CmdId}
use Rattle.mid_base.specs.declared.names.Attempt.{Attempt}
use Rattle.mid_base.specs.declared.names.DevAddr.{DevAddr}
use Rattle.mid_base.specs.declared.bytes.SenseBytes.{SenseBytes}
use Rattle.mid_base.specs.declared.answers.Answer.{Answer as AnswerValue}
use Rattle.mid_base.specs.declared.answers.ProbeSay.{ProbeSay}
use Rattle.mid_base.specs.declared.answers.ProbeSay.TheVariants.{Answered, Silent}
use Rattle.mid_base.specs.declared.answers.Scope.TheVariants.{Cmd, Dev}
use Rattle.mid_base.specs.declared.host_spec.HostSpec.{HostSpec}
use Rattle.mid_base.specs.declared.faults.PlanEntry.{PlanEntry}
use Rattle.mid_base.specs.declared.faults.Fault.{Fault}
use Rattle.mid_base.specs.declared.entries.Entry.{Entry}
use Rattle.mid_base.specs.declared.entries.Entry.TheVariants.{Act, Probe}
use Rattle.mid_base.specs.Answers.{said_good}
use Rattle.mid_base.specs.Bytes.{sense_list}
use Rattle.mid_base.specs.Address.{same_dev, in_scope, has_dev}
use Rattle.sense_data.specs.Grammar.{is_valid_sense}
use Rattle.host_template.specs.Standing.{Before}
use Rattle.mid_base.specs.Codes.{request_sense}
use Rattle.host_template.specs.Probes.{taken}
use Rattle.host_template.specs.Calls.{fetched, StandsProbed}
use Rattle.fault_plan.specs.declared.class.Class.{Class}
use Rattle.fault_plan.specs.declared.class.Class.TheVariants.{Abort, Probe as Probing}
use Rattle.fault_plan.specs.Plan.{planned}
use Rattle.debug_lun.specs.Units.{LogicalUnit, Reply, reply_of, unit_of}
use Rattle.debug_lun.specs.Serving.{Served}
use Rattle.adapter_tables.specs.declared.held.Held.{Held}
use Rattle.adapter_tables.specs.declared.counts.CountRow.{CountRow}
use Rattle.adapter_tables.specs.declared.device_rows.UnitRow.{UnitRow}
use Rattle.adapter_tables.specs.Counted.{counts, counted, hit, device_of}
use Rattle.adapter_tables.specs.Units.{unit, target_luns, probed, served_pair, probe_gives, reply_in, data_in, reply_said, is_good_reply}
use Rattle.adapter_tables.specs.Ties.{count_of, counted_row, has_unit, RowsAre, UnitsAre, ServedAt}
use Rattle.adapter_tables.specs.Answering.{Probes}
use Rattle.adapter_tables.proofs.RowLaws.{touches, same_dev_tells, itself, differ}
use Rattle.adapter_tables.proofs.UnitLaws.{units_set, unit_missing, line_of}
use Rattle.adapter_tables.proofs.ProbeLaws.{sense_fetched}
use Rattle.debug_adapter.specs.Laws.{act_law}
use Rattle.debug_adapter.specs.Stands.{Stands}
use Rattle.debug_adapter.proofs.Calls.{rows_counted, hit_next, at_last}

and_right : (a : Bool) → a && true ≡ a
and_right true = refl
and_right false = refl

and_off : (a : Bool) → a && false ≡ false
and_off true = refl
and_off false = refl

probe_counts : (s : HostSpec) (P : List Entry) (dev d : DevAddr) (code : ℕ) (say : ProbeSay) (x : Class) → counts s (Probe dev code say) P d x ≡ in_scope (Dev dev) d && touches Probing x
probe_counts s P dev d code say Probing = sym (and_right (same_dev dev d))
probe_counts s P dev d code say x = sym (and_off (same_dev dev d))

module _ (plan : List PlanEntry) (t : Slab Held) (rows : List CountRow) (units : List UnitRow) (dev : DevAddr) (code : ℕ) (s : HostSpec) (b : Before) (P : List Entry) (old : Stands plan t rows units s b P) where
  rows_probed : (say : ProbeSay) → RowsAre (counted s b (Probe dev code say ∷ P)) s.luns (map (counted_row (Dev dev) Probing) rows)
  rows_probed say = rows_counted plan t rows units s b P old (Probe dev code say) (Dev dev) Probing tt (λ d x. probe_counts s P dev d code say x)

  hit_probed : has_dev s.luns dev ≡ true → planned plan dev Probing (count_of (map (counted_row (Dev dev) Probing) rows) dev Probing) ≡ hit s b P dev Probing
  hit_probed has = hit_next plan t rows units s b P old (Probe dev code Silent) dev Probing tt refl (λ d x. probe_counts s P dev d code Silent x) has

  gives_none : (u : Bool) → has_dev s.luns dev ≡ u → (u ≡ true → is_some (hit s b P dev Probing) ≡ true) → probe_gives s b P dev code ≡ None
  gives_none false e h = rw e refl
  gives_none true e h = rw (e, h refl) refl

  -- a fault hits, or there is no unit
  pub none_given : ((is_some (planned plan dev Probing (count_of (map (counted_row (Dev dev) Probing) rows) dev Probing)) ≡ true) ⊎ (has_unit units dev ≡ false)) → probe_gives s b P dev code ≡ None
  none_given why = gives_none (has_dev s.luns dev) refl (by why)
    where
      by : (is_some (planned plan dev Probing (count_of (map (counted_row (Dev dev) Probing) rows) dev Probing)) ≡ true) ⊎ (has_unit units dev ≡ false) → has_dev s.luns dev ≡ true → is_some (hit s b P dev Probing) ≡ true
      by (inl h) has = ap (λ (o : Option Fault). is_some o) (sym (hit_probed has)) ∙ h
      by (inr none) has = absurd (cc (sym none ∙ (unit_missing s.luns (unit s b P) dev s.luns units old.4 ∙ has)))

  pub probe_silent : probe_gives s b P dev code ≡ None → Stands plan t (map (counted_row (Dev dev) Probing) rows) units s b (Probe dev code Silent ∷ P)
  probe_silent none = (old.0, old.1, old.2, rows_probed Silent, old.4, (sym (ap reply_in none), old.5))

  module _ (a : AnswerValue) (new : List UnitRow) (i : ℕ) (x y : UnitRow)
      (off : is_some (planned plan dev Probing (count_of (map (counted_row (Dev dev) Probing) rows) dev Probing)) ≡ false)
      (at : ServedAt units new dev (λ luns u. served_pair (probed luns u code)) (reply_of a) i x y) where
    at_dev : x.dev ≡ dev
    at_dev = same_dev_tells x.dev dev at.dev

    line : (has_dev s.luns x.dev ≡ true) × (x.luns.items ≡ target_luns s.luns x.dev) × (unit_of x.lun ≡ unit s b P x.dev)
    line = line_of s.luns (unit s b P) s.luns units i x old.4 at.at

    has : has_dev s.luns dev ≡ true
    has = subst (λ (d : DevAddr). has_dev s.luns d ≡ true) at_dev line.0

    no_hit : is_some (hit s b P dev Probing) ≡ false
    no_hit = ap (λ (o : Option Fault). is_some o) (sym (hit_probed has)) ∙ off

    pub some_given : probe_gives s b P dev code ≡ Some (probed (target_luns s.luns dev) (unit s b P dev) code)
    some_given = rw (has, no_hit) refl

    pub both : probed x.luns.items (unit_of x.lun) code ≡ probed (target_luns s.luns dev) (unit s b P dev) code
    both = ap (λ (u : LogicalUnit). probed x.luns.items u code) (line.2 ∙ ap (unit s b P) at_dev)
        ∙ ap (λ (luns : List ℕ). probed luns (unit s b P dev) code) (line.1 ∙ ap (target_luns s.luns) at_dev)

    after_other : (e : DevAddr) → e ≢ dev → unit s b (Probe dev code (Answered a) ∷ P) e ≡ unit s b P e
    after_other e ne = rw (differ dev e (λ q. ne (sym q))) refl

    after_it : unit s b (Probe dev code (Answered a) ∷ P) dev ≡ (probed (target_luns s.luns dev) (unit s b P dev) code).unit
    after_it = rw (itself dev) refl

    pub probe_answered : Stands plan t (map (counted_row (Dev dev) Probing) rows) new s b (Probe dev code (Answered a) ∷ P)
    probe_answered = (
      old.0,
      old.1,
      old.2,
      rows_probed (Answered a),
      subst (λ (xs : List UnitRow). UnitsAre s.luns (unit s b (Probe dev code (Answered a) ∷ P)) s.luns xs) (sym at.changed)
          (units_set s.luns (unit s b P) (unit s b (Probe dev code (Answered a) ∷ P)) dev after_other s.luns units i x y old.1.differ at.at at_dev at.served.dev at.served.luns
          (at.served.unit ∙ (ap (λ (q : Served). q.unit) both ∙ sym after_it)) old.4),
      (ap (λ (r : Reply). Some r) (at.served.answer ∙ ap (λ (q : Served). q.reply) both) ∙ sym (ap reply_in some_given), old.5),
    )

-- ---- the act of level 1

act_counts : (s : HostSpec) (P : List Entry) (c : CmdId) (u : Bool) (d : DevAddr) (x : Class) → counts s (Act 1 (Cmd c) u) P d x ≡ false
act_counts s P c u d Abort = refl
act_counts s P c u d x = refl

act_fetch : (plan : List PlanEntry) (t : Slab Held) (rows : List CountRow) (units : List UnitRow) (dev : DevAddr) (s : HostSpec) (b : Before) (P : List Entry) (c : CmdId) (u : Bool)
    → Stands plan t rows units s b P → device_of s c.0 ≡ Some dev → u ≡ is_good_reply (reply_in (probe_gives s b P dev request_sense)) → Stands plan t rows units s b (Act 1 (Cmd c) u ∷ P)
act_fetch plan t rows units dev s b P c u old e ok = act_law plan t rows units s b P 1 (Cmd c) u (λ h. and_off u) (act_counts s P c u) (and_off u) (λ _. rw e ok) old

good_same : (say : ProbeSay) → said_good say ≡ is_good_reply (reply_said say)
good_same Silent = refl
good_same (Answered a) = refl

and_same : (a v : Bool) → a ≡ true → v ≡ true → a && v ≡ a
and_same a v e f = rw (e, f) refl

-- what REQUEST SENSE gives where it is GOOD is valid sense
good_valid : (luns : List ℕ) (x : LogicalUnit) (u : Bool)
    → is_good_reply (reply_in (if u then Some (probed luns x request_sense) else None)) && is_valid_sense (data_in (if u then Some (probed luns x request_sense) else None))
    ≡ is_good_reply (reply_in (if u then Some (probed luns x request_sense) else None))
good_valid luns x true = and_same _ _ (sense_fetched luns x).0 (sense_fetched luns x).1
good_valid luns x false = refl

-- ---- a probe, whatever is said

stands_probed : (plan : List PlanEntry) (t : Slab Held) (rows rows' : List CountRow) (units units' : List UnitRow) (dev : DevAddr) (code : ℕ) (say : ProbeSay) (buffer : List ℕ)
    → ((s : HostSpec) (b : Before) (P : List Entry) → Stands plan t rows units s b P → Stands plan t rows' units' s b (Probe dev code say ∷ P))
    → ((s : HostSpec) (b : Before) (P : List Entry) → Stands plan t rows units s b P → taken code say buffer ≡ data_in (probe_gives s b P dev code))
    → StandsProbed (λ s b P. Stands plan t rows units s b P) (λ s b P. Stands plan t rows' units' s b P) (λ s b P d k bytes. bytes ≡ data_in (probe_gives s b P d k)) dev code say buffer
stands_probed plan t rows rows' units units' dev code say buffer probe given = record {
  probe = probe;
  given = λ s b P a e old. given s b P old;
  fetch = λ s b P c k n bytes sensing fits same old.
      let good : said_good say ≡ is_good_reply (reply_in (probe_gives s b P dev request_sense)) =
      good_same say ∙ (ap is_good_reply (probe s b P old).5.0 ∙ ap (λ (m : ℕ). is_good_reply (reply_in (probe_gives s b P dev m))) sensing) in
      let fetch : sense_list bytes ≡ data_in (probe_gives s b P dev request_sense) = same ∙ (given s b P old ∙ ap (λ (m : ℕ). data_in (probe_gives s b P dev m)) sensing) in
      let ok : said_good say && is_valid_sense (sense_list bytes) ≡ is_good_reply (reply_in (probe_gives s b P dev request_sense)) =
      ap (λ (u : Bool). u && is_valid_sense (sense_list bytes)) good
      ∙ (ap (λ (xs : List ℕ). is_good_reply (reply_in (probe_gives s b P dev request_sense)) && is_valid_sense xs) fetch
      ∙ good_valid (target_luns s.luns dev) (unit s b P dev) (has_dev s.luns dev && not (is_some (hit s b P dev Probing)))) in
      let acted = act_fetch plan t rows units dev s b P c (said_good say && is_valid_sense (sense_list bytes)) old (at_last s P c k n.0 dev fits) ok in
      by s b P c n bytes (said_good say && is_valid_sense (sense_list bytes))
      (subst (λ (m : ℕ). Stands plan t rows' units' s b (Probe dev m say ∷ Act 1 (Cmd c) (said_good say && is_valid_sense (sense_list bytes)) ∷ P)) sensing
      (probe s b (Act 1 (Cmd c) (said_good say && is_valid_sense (sense_list bytes)) ∷ P) acted))
      fetch;
}
  where
    by : (s : HostSpec) (b : Before) (P : List Entry) (c : CmdId) (n : Attempt) (bytes : SenseBytes) (u : Bool) → Stands plan t rows' units' s b (Probe dev request_sense say ∷ Act 1 (Cmd c) u ∷ P)
        → sense_list bytes ≡ data_in (probe_gives s b P dev request_sense) → Stands plan t rows' units' s b (fetched c n dev say bytes u P)
    by s b P c n bytes false st d = st
    by s b P c n bytes true st d = (st.0, st.1, st.2, st.3, st.4, (d, st.5))

pub stands_hit : (plan : List PlanEntry) (t : Slab Held) (rows rows' : List CountRow) (units : List UnitRow) (dev : DevAddr) (code number : ℕ) (buffer : List ℕ)
    → rows' ≡ map (counted_row (Dev dev) Probing) rows → number ≡ count_of (map (counted_row (Dev dev) Probing) rows) dev Probing → is_some (planned plan dev Probing number) ≡ true
    → StandsProbed (λ s b P. Stands plan t rows units s b P) (λ s b P. Stands plan t rows' units s b P) (λ s b P d k bytes. bytes ≡ data_in (probe_gives s b P d k)) dev code Silent buffer
stands_hit plan t rows rows' units dev code number buffer r k on = stands_probed plan t rows rows' units units dev code Silent buffer
    (λ s b P old. rw r (probe_silent plan t rows units dev code s b P old (none s b P old)))
    (λ s b P old. sym (ap data_in (none s b P old)))
  where
    none : (s : HostSpec) (b : Before) (P : List Entry) → Stands plan t rows units s b P → probe_gives s b P dev code ≡ None
    none s b P old = none_given plan t rows units dev code s b P old (inl (subst (λ (m : ℕ). is_some (planned plan dev Probing m) ≡ true) k on))

pub stands_reached : (plan : List PlanEntry) (t : Slab Held) (rows rows' : List CountRow) (units units' : List UnitRow) (dev : DevAddr) (code number : ℕ) (say : ProbeSay) (buffer : List ℕ)
    → rows' ≡ map (counted_row (Dev dev) Probing) rows → number ≡ count_of (map (counted_row (Dev dev) Probing) rows) dev Probing → is_some (planned plan dev Probing number) ≡ false
    → Probes units units' dev code buffer say
    → StandsProbed (λ s b P. Stands plan t rows units s b P) (λ s b P. Stands plan t rows' units' s b P) (λ s b P d k bytes. bytes ≡ data_in (probe_gives s b P d k)) dev code say buffer
stands_reached plan t rows rows' units units' dev code number Silent buffer r k off was = stands_probed plan t rows rows' units units' dev code Silent buffer
    (λ s b P old. rw (r, was.1) (probe_silent plan t rows units dev code s b P old (none s b P old)))
    (λ s b P old. sym (ap data_in (none s b P old)))
  where
    none : (s : HostSpec) (b : Before) (P : List Entry) → Stands plan t rows units s b P → probe_gives s b P dev code ≡ None
    none s b P old = none_given plan t rows units dev code s b P old (inr was.0)
stands_reached plan t rows rows' units units' dev code number (Answered a) buffer r k off was = stands_probed plan t rows rows' units units' dev code (Answered a) buffer
    (λ s b P old. rw r (probe_answered plan t rows units dev code s b P old a units' was.0 was.1 was.2 not_hit was.3))
    (λ s b P old. was.4 ∙ (ap (λ (q : Served). q.data_in) (both plan t rows units dev code s b P old a units' was.0 was.1 was.2 not_hit was.3)
    ∙ sym (ap data_in (some_given plan t rows units dev code s b P old a units' was.0 was.1 was.2 not_hit was.3))))
  where
    not_hit : is_some (planned plan dev Probing (count_of (map (counted_row (Dev dev) Probing) rows) dev Probing)) ≡ false
    not_hit = subst (λ (m : ℕ). is_some (planned plan dev Probing m) ≡ false) k off
