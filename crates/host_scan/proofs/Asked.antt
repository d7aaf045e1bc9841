-- What a scan of a target with a unit 0 comes to over the simulated adapter.
use Rattle.std.proofs.Common.{◌≡◌, ℕ, ◌+◌, ◌≤◌, Bool, true, false, not, ◌&&◌, ◌==◌, min, nat_lt, List, [], ◌∷◌, ◌++◌, length, map, take, Option, None, Some, is_some, Result, Ok, Err, refl, sym, ap, ◌∙◌, subst, inl, inr, arith}
use Rattle.std.specs.Prelude.{if◌then◌else◌, All}
use Rattle.std.specs.List.{flat_map}
use Rattle.std.proofs.lemmas.Bool.{cases_Bool, leb-true}
use Rattle.std.proofs.lemmas.Bool.Decides.{nat_tests}
use Rattle.std.proofs.lemmas.List.{append-nil, take_all}
use denote.Bor.{Bor}
use Rattle.mid_base.specs.declared.names.DevAddr.{DevAddr}
use Rattle.mid_base.specs.declared.answers.Answer.{Answer}
use Rattle.mid_base.specs.declared.answers.ProbeSay.{ProbeSay}
use Rattle.mid_base.specs.declared.answers.ProbeSay.TheVariants.{Answered, Silent as Nothing}
use Rattle.mid_base.specs.declared.entries.Entry.{Entry}
use Rattle.mid_base.specs.declared.entries.Entry.TheVariants.{Probe as Probed}
use Rattle.mid_base.specs.declared.faults.Fault.{Fault}
use Rattle.mid_base.specs.declared.host_spec.HostSpec.{HostSpec}
use Rattle.mid_base.specs.Address.{same_dev, has_dev}
use Rattle.mid_base.specs.Answers.{is_good}
use Rattle.mid_base.specs.Codes.{inquiry, report_luns}
use Rattle.mid_base.specs.Limits.{KeepsLimits}
use Rattle.host_template.specs.Standing.{Before, earlier, probes}
use Rattle.host_template.specs.Laws.{OnlyScans}
use Rattle.host_template.specs.Probes.{taken, probe_cdb}
use Rattle.eh_probe.specs.Standings.{StandsAfter}
use Rattle.trace_model.specs.Legal.{onto}
use Rattle.fault_plan.specs.declared.class.Class.TheVariants.{Probe as Probing}
use Rattle.fault_plan.specs.Plan.{planned}
use Rattle.lun_addr.specs.declared.faults.ListFault.{ListFault}
use Rattle.lun_addr.specs.declared.faults.Form.{Form}
use Rattle.lun_addr.specs.Grammar.{lun_list, lun_number, refusal}
use Rattle.lun_addr.specs.Parts.{ReadsBack, entry_parts, list_part}
use Rattle.lun_addr.proofs.Back.{reads_back}
use Rattle.debug_lun.proofs.Lists.{length_list}
use Rattle.lun_scan.specs.declared.fault.ScanFault.{ScanFault}
use Rattle.lun_scan.specs.declared.fault.ScanFault.TheVariants as fault
use Rattle.lun_scan.specs.Numbers.{known, lun_numbers, numbers_in}
use Rattle.lun_scan.specs.Scans.{IsScan, UnlessNoMemory, inquiry_fault, list_answer, or_fault, scan_answer, scan_entries, unless_fault}
use Rattle.lun_scan.proofs.Listed.{numbers_read}
use Rattle.debug_lun.specs.Units.{LogicalUnit, Reply, reply_of}
use Rattle.debug_lun.specs.Pages.{standard_inquiry}
use Rattle.debug_lun.specs.Serving.{Served, data_reply, gives}
use Rattle.adapter_tables.specs.Counted.{hit}
use Rattle.adapter_tables.specs.TablesOf.{plan_of, rows_of, units_of}
use Rattle.adapter_tables.specs.Units.{data_in, data_out, probe_gives, probed, reply_in, reply_said, target_luns, unit}
use Rattle.adapter_tables.proofs.Numbers.{few_numbers, small_numbers}
use Rattle.debug_adapter.specs.LowerRun.{LowerRun}
use Rattle.debug_adapter.specs.Adapter.{AdapterStands}
use Rattle.debug_adapter.specs.Laws.{scan_law}
use Rattle.debug_adapter.specs.declared.adapter.DebugAdapter.{DebugAdapter}
use Rattle.host_scan.specs.declared.target.Target.{Target}
use Rattle.host_scan.specs.Targets.{zero_of}
use Rattle.host_scan.specs.Found.{is_silent, probes_of}
use Rattle.host_scan.specs.declared.finding.Finding.{Finding}
use Rattle.host_scan.specs.Findings.{ScansTo, finding_of, is_listed, probes_until}
use Rattle.host_scan.proofs.Counted.{earlier_more, none_earlier}
use Rattle.host_scan.proofs.Served.{inquiry_served, report_served}

-- what the scan answers
abbrev pub outcome : HostSpec → DevAddr → Result (List ℕ) ScanFault
outcome s z =
    if is_silent s z 1 then Err (fault.Silent inquiry)
    else if is_silent s z 2 then Err (fault.Silent report_luns)
    else Ok (target_luns s.luns z)

-- ---- what a probe says

pub unsaid : (say : ProbeSay) → reply_said say ≡ None → say ≡ Nothing
unsaid Nothing e = refl
unsaid (Answered a) e = absurd (cc)

record Says (r : Reply) (say : ProbeSay) : Type 0 where
  a : Answer
  is : say ≡ Answered a
  reply : reply_of a ≡ r

said : (r : Reply) (say : ProbeSay) → reply_said say ≡ Some r → Says r say
said r Nothing e = absurd (cc)
said r (Answered a) e = record { a = a; is = refl; reply = cc }

good_answer : (a : Answer) (bytes : List ℕ) → reply_of a ≡ data_reply bytes → is_good a ≡ true
good_answer a bytes e =
    let host : a.host.0 ≡ 0 = ap (λ (r : Reply). r.host) e in
    let status : a.status ≡ 0 = ap (λ (r : Reply). r.status) e in
    rw (host, status) refl

moved_all : (a : Answer) (bytes : List ℕ) → reply_of a ≡ data_reply bytes → a.moved ≡ length bytes
moved_all a bytes e = ap (λ (r : Reply). r.moved) e

inquiry_good : (a : Answer) → reply_of a ≡ data_reply (take 36 standard_inquiry) → inquiry_fault (Answered a) ≡ None
inquiry_good a e =
    let whole : a.moved ≡ 36 = moved_all a (take 36 standard_inquiry) e in
    rw (good_answer a (take 36 standard_inquiry) e, whole) refl

-- ---- the list that a target gives is read again

known_all : (ns : List ℕ) → flat_map known (map Ok ns) ≡ ns
known_all [] = refl
known_all (n ∷ ns) = ap (λ (ms : List ℕ). n ∷ ms) (known_all ns)

known_parts : (es : List (Bor (List ℕ))) → numbers_in es ≡ flat_map known (map (λ e. lun_number e.now) es)
known_parts [] = refl
known_parts (e ∷ es) = ap (λ (ns : List ℕ). known (lun_number e.now) ++ ns) (known_parts es)

abbrev lies_anywhere : List ℕ → Bor (List ℕ)
lies_anywhere bytes = record { ref_ptr = (0, 0); now = bytes }

record IsReadAgain (luns bytes : List ℕ) : Type 0 where
  whole : refusal bytes ≡ None
  numbers : lun_numbers bytes ≡ luns

small_list : (luns : List ℕ) → length luns ≤ 256 → take 2056 (lun_list luns) ≡ lun_list luns
small_list luns few = take_all 2056 (lun_list luns) (omega (arith, length_list luns, few))

list_read : (luns bytes : List ℕ) → All (λ n. n ≤ 16383) luns → length luns ≤ 256 → bytes ≡ take 2056 (lun_list luns) → IsReadAgain luns bytes
list_read luns bytes small few e = read_again
  where
    at : Bor (List ℕ)
    at = lies_anywhere bytes

    is : bytes ≡ lun_list luns ++ []
    is = e ∙ (small_list luns few ∙ sym (append-nil (lun_list luns)))

    back : ReadsBack at luns
    back = reads_back at luns [] small few is

    read_again : IsReadAgain luns bytes
    read_again = record {
      whole = back.whole;
      numbers = sym (numbers_read at back.whole) ∙ (known_parts (entry_parts (list_part at)) ∙ (ap (λ (rs : List (Result ℕ Form)). flat_map known rs) back.numbers ∙ known_all luns));
    }

-- ---- what the adapter makes of both probes

told_by : (h q r : Bool) (x : Served) (y : Reply) → h ≡ true → q ≡ r → x.reply ≡ y → reply_in (if h && not q then Some x else None) ≡ (if r then None else Some y)
told_by h q true x y e f g = rw (e, f) refl
told_by h q false x y e f g = rw (e, f) (ap (λ (r : Reply). Some r) g)

given_by : (h q : Bool) (x : Served) (bytes : List ℕ) → h ≡ true → q ≡ false → x.data_in ≡ bytes → data_in (if h && not q then Some x else None) ≡ bytes
given_by h q x bytes e f g = rw (e, f) g

same_self : (d : DevAddr) → same_dev d d ≡ true
same_self d = grind (arith, nat_tests)

first_hit : (s : HostSpec) (b : Before) (z : DevAddr) → is_listed b z ≡ false → is_some (hit s b [] z Probing) ≡ is_silent s z 1
first_hit s b z off = ap (λ (n : ℕ). is_some (planned s.plan z Probing (n + 1))) (none_earlier b z off)

second_hit : (s : HostSpec) (b : Before) (z : DevAddr) (first : ProbeSay) → is_listed b z ≡ false → is_some (hit s b (Probed z inquiry first ∷ []) z Probing) ≡ is_silent s z 2
second_hit s b z first off = rw (same_self z) (ap (λ (n : ℕ). is_some (planned s.plan z Probing (n + 1 + 1))) (none_earlier b z off))

first_told : (s : HostSpec) (b : Before) (z : DevAddr) → has_dev s.luns z ≡ true → is_listed b z ≡ false
    → reply_in (probe_gives s b [] z inquiry) ≡ (if is_silent s z 1 then None else Some (data_reply (take 36 standard_inquiry)))
first_told s b z there off =
    told_by (has_dev s.luns z) (is_some (hit s b [] z Probing)) (is_silent s z 1) (probed (target_luns s.luns z) (unit s b [] z) inquiry) (data_reply (take 36 standard_inquiry))
    there (first_hit s b z off) (ap (λ (x : Served). x.reply) (inquiry_served (unit s b [] z) (target_luns s.luns z) (data_out 0)))

second_told : (s : HostSpec) (b : Before) (z : DevAddr) (first : ProbeSay) → has_dev s.luns z ≡ true → is_listed b z ≡ false
    → reply_in (probe_gives s b (Probed z inquiry first ∷ []) z report_luns) ≡ (if is_silent s z 2 then None else Some (data_reply (take 2056 (lun_list (target_luns s.luns z)))))
second_told s b z first there off =
    told_by (has_dev s.luns z) (is_some (hit s b (Probed z inquiry first ∷ []) z Probing)) (is_silent s z 2) (probed (target_luns s.luns z) (unit s b (Probed z inquiry first ∷ []) z) report_luns)
    (data_reply (take 2056 (lun_list (target_luns s.luns z)))) there (second_hit s b z first off)
    (ap (λ (x : Served). x.reply) (report_served (unit s b (Probed z inquiry first ∷ []) z) (target_luns s.luns z) (data_out 0)))

second_given : (s : HostSpec) (b : Before) (z : DevAddr) (first : ProbeSay) → has_dev s.luns z ≡ true → is_listed b z ≡ false → is_silent s z 2 ≡ false
    → data_in (probe_gives s b (Probed z inquiry first ∷ []) z report_luns) ≡ take 2056 (lun_list (target_luns s.luns z))
second_given s b z first there off loud =
    given_by (has_dev s.luns z) (is_some (hit s b (Probed z inquiry first ∷ []) z Probing)) (probed (target_luns s.luns z) (unit s b (Probed z inquiry first ∷ []) z) report_luns)
    (take 2056 (lun_list (target_luns s.luns z))) there (second_hit s b z first off ∙ loud)
    (ap (λ (x : Served). x.data_in) (report_served (unit s b (Probed z inquiry first ∷ []) z) (target_luns s.luns z) (data_out 0)))

-- ---- where it stands after them

once : (b : Before) (z : DevAddr) (say : ProbeSay) (d : DevAddr) → is_listed b z ≡ false → earlier (b ++ (z, 1) ∷ []) d ≡ earlier b d + probes d (Probed z inquiry say ∷ [])
once b z say d off = earlier_more b z 1 d off

both : (q : Bool) → (if q then 2 else 0) ≡ (if q then (if q then 1 else 0) + 1 else (if q then 1 else 0))
both true = refl
both false = refl

twice : (b : Before) (z : DevAddr) (first second : ProbeSay) (d : DevAddr) → is_listed b z ≡ false
    → earlier (b ++ (z, 2) ∷ []) d ≡ earlier b d + probes d (Probed z report_luns second ∷ Probed z inquiry first ∷ [])
twice b z first second d off = earlier_more b z 2 d off ∙ ap (λ (n : ℕ). earlier b d + n) (both (same_dev z d))

moved : (x : DebugAdapter) (s : HostSpec) (b c : Before) (P : List Entry) → OnlyScans P → ((d : DevAddr) → earlier c d ≡ earlier b d + probes d P) → AdapterStands x s b P → AdapterStands x s c []
moved x s b c P only same old = scan_law (plan_of x.plan) x.held (rows_of x.rows) (units_of x.units) s b c P only same old

pub record IsAsked (s : HostSpec) (b : Before) (t : Target) (new : DebugAdapter) (answer : Result (List ℕ) ScanFault) : Type 0 where
  pub answered : answer ≡ outcome s (zero_of t)
  pub stands : AdapterStands new s (b ++ (zero_of t, probes_of s t) ∷ []) []

if_none : (q : Bool) (r : Reply) → None ≡ (if q then None else Some r) → q ≡ true
if_none true r e = refl
if_none false r e = absurd (cc)

if_some : (q : Bool) (r : Reply) (x : Reply) → Some x ≡ (if q then None else Some r) → (q ≡ false) × (x ≡ r)
if_some true r x e = absurd (cc)
if_some false r x e = (refl, cc)

module _ (s : HostSpec) (b : Before) (t : Target) (limits : KeepsLimits s) (there : has_dev s.luns (zero_of t) ≡ true) (off : is_listed b (zero_of t) ≡ false) (new : DebugAdapter) where
  abbrev z : DevAddr
  z = zero_of t

  -- INQUIRY isn't answered
  unanswered : AdapterStands new s b (Probed z inquiry Nothing ∷ []) → IsAsked s b t new (Err (fault.Silent inquiry))
  unanswered stood =
      let quiet = if_none (is_silent s z 1) (data_reply (take 36 standard_inquiry)) (stood.5.0 ∙ first_told s b z there off) in
      record {
        answered = rw quiet refl;
        stands = rw (there, quiet) (moved new s b (b ++ (z, 1) ∷ []) (Probed z inquiry Nothing ∷ []) (inl refl, tt) (λ d. once b z Nothing d off) stood);
      }

  -- REPORT LUNS isn't
  unlisted : (first : ProbeSay) → is_silent s z 1 ≡ false → AdapterStands new s b (Probed z report_luns Nothing ∷ Probed z inquiry first ∷ [])
      → IsAsked s b t new (Err (fault.Silent report_luns))
  unlisted first loud stood =
      let quiet = if_none (is_silent s z 2) (data_reply (take 2056 (lun_list (target_luns s.luns z)))) (stood.5.0 ∙ second_told s b z first there off) in
      record {
        answered = rw (loud, quiet) refl;
        stands = rw (there, loud) (moved new s b (b ++ (z, 2) ∷ []) (Probed z report_luns Nothing ∷ Probed z inquiry first ∷ []) (inr refl, (inl refl, tt)) (λ d. twice b z first Nothing d off) stood);
      }

  few : length (target_luns s.luns z) ≤ 256
  few = omega (arith, few_numbers s.luns z, leb-true (length s.luns) 256 limits.lun_count)

  -- both are answered
  listed : (first : ProbeSay) (a : Answer) (bytes : List ℕ) → is_silent s z 1 ≡ false → AdapterStands new s b (Probed z report_luns (Answered a) ∷ Probed z inquiry first ∷ [])
      → bytes ≡ data_in (probe_gives s b (Probed z inquiry first ∷ []) z report_luns) → IsAsked s b t new (list_answer (Answered a) bytes)
  listed first a bytes loud stood given =
      let told = if_some (is_silent s z 2) (data_reply (take 2056 (lun_list (target_luns s.luns z)))) (reply_of a) (stood.5.0 ∙ second_told s b z first there off) in
      let read = list_read (target_luns s.luns z) bytes (small_numbers s.luns z limits.luns) few (given ∙ second_given s b z first there off told.0) in
      record {
        answered = rw (good_answer a (take 2056 (lun_list (target_luns s.luns z))) told.1, read.whole, read.numbers, loud, told.0) refl;
        stands = rw (there, loud) (moved new s b (b ++ (z, 2) ∷ []) (Probed z report_luns (Answered a) ∷ Probed z inquiry first ∷ []) (inr refl, (inl refl, tt)) (λ d. twice b z first (Answered a) d off) stood);
      }

  -- what follows INQUIRY where it is answered
  followed : (first second : ProbeSay) (bytes : List ℕ) → is_silent s z 1 ≡ false → AdapterStands new s b (Probed z report_luns second ∷ Probed z inquiry first ∷ [])
      → ((a : Answer) → second ≡ Answered a → bytes ≡ data_in (probe_gives s b (Probed z inquiry first ∷ []) z report_luns)) → IsAsked s b t new (list_answer second bytes)
  followed first Nothing bytes loud stood given = unlisted first loud stood
  followed first (Answered a) bytes loud stood given = listed first a bytes loud stood (given a refl)

  first_said : (o : Option ScanFault) (first second : ProbeSay) → AdapterStands new s b (onto (unless_fault o (Probed z report_luns second ∷ [])) (Probed z inquiry first ∷ []))
      → reply_said first ≡ reply_in (probe_gives s b [] z inquiry)
  first_said None first second stood = stood.5.1.0
  first_said (Some f) first second stood = stood.5.0

  by_first : (first second : ProbeSay) (bytes : List ℕ) → AdapterStands new s b (onto (scan_entries z first second) [])
      → ((a : Answer) → inquiry_fault first ≡ None → second ≡ Answered a → bytes ≡ data_in (probe_gives s b (Probed z inquiry first ∷ []) z report_luns))
      → IsAsked s b t new (scan_answer first second bytes)
  by_first Nothing second bytes stood given = unanswered stood
  by_first (Answered a) second bytes stood given =
      let told = if_some (is_silent s z 1) (data_reply (take 36 standard_inquiry)) (reply_of a) (first_said (inquiry_fault (Answered a)) (Answered a) second stood ∙ first_told s b z there off) in
      let good : inquiry_fault (Answered a) ≡ None = inquiry_good a told.1 in
      subst (λ (o : Option ScanFault). IsAsked s b t new (or_fault o (list_answer second bytes))) (sym good)
      (followed (Answered a) second bytes told.0
      (subst (λ (o : Option ScanFault). AdapterStands new s b (onto (unless_fault o (Probed z report_luns second ∷ [])) (Probed z inquiry (Answered a) ∷ []))) good stood)
      (λ x e. given x good e))

-- the adapter was scanned
abbrev pub Scans : DebugAdapter → DebugAdapter → DevAddr → List ℕ → Result (List ℕ) ScanFault → Type 0
Scans old new d buffer answer = IsScan (AdapterStands old) (AdapterStands new) (λ r c P e code bytes. bytes ≡ data_in (probe_gives r c P e code)) d buffer answer

pub asked : (s : HostSpec) (b : Before) (t : Target) (old new : DebugAdapter) (buffer : List ℕ) (answer : Result (List ℕ) ScanFault) → KeepsLimits s → has_dev s.luns (zero_of t) ≡ true → is_listed b (zero_of t) ≡ false
    → Scans old new (zero_of t) buffer answer → AdapterStands old s b [] → IsAsked s b t new answer
asked s b t old new buffer answer limits there off h stood =
    subst (IsAsked s b t new) (sym h.answered)
    (by_first s b t limits there off new h.first h.second (taken report_luns h.second buffer) (h.stands s b [] stood) (λ a good said. h.brought s b [] a good said stood))

-- ---- the finding that is made of it

asked_ok : (s : HostSpec) (t : Target) (ns : List ℕ) → has_dev s.luns (zero_of t) ≡ true → Ok ns ≡ outcome s (zero_of t)
    → ◌≡◌ {A = Finding} (record { target = t; probes = 2; numbers = ns }) (finding_of s t)
asked_ok s t ns there e = elim (cases_Bool (is_silent s (zero_of t) 1)) [
  | inl quiet ↦ absurd (let no = rw quiet at e in cc no)
  | inr loud ↦ elim (cases_Bool (is_silent s (zero_of t) 2)) [
    | inl quiet ↦ absurd (let no = rw (loud, quiet) at e in cc no)
    | inr told ↦
        let same : ns ≡ target_luns s.luns (zero_of t) = ok_same ns (target_luns s.luns (zero_of t)) (rw (loud, told) at e) in
        rw (there, loud, told) (ap (λ (ms : List ℕ). record { target = t; probes = 2; numbers = ms }) same)
  ]
]
  where
    ok_same : (ms ks : List ℕ) → ◌≡◌ {A = Result (List ℕ) ScanFault} (Ok ms) (Ok ks) → ms ≡ ks
    ok_same ms ks same = cc

asked_err : (s : HostSpec) (t : Target) (f : ScanFault) (k : ℕ) → has_dev s.luns (zero_of t) ≡ true → Err f ≡ outcome s (zero_of t) → probes_until f ≡ Some k
    → ◌≡◌ {A = Finding} (record { target = t; probes = k; numbers = [] }) (finding_of s t)
asked_err s t f k there e sent = elim (cases_Bool (is_silent s (zero_of t) 1)) [
  | inl quiet ↦
      let same : f ≡ fault.Silent inquiry = err_same f (fault.Silent inquiry) (rw quiet at e) in
      let one : k ≡ 1 = some_same k 1 (sym sent ∙ ap probes_until same) in
      rw (there, quiet) (ap (λ (n : ℕ). record { target = t; probes = n; numbers = [] }) one)
  | inr loud ↦ elim (cases_Bool (is_silent s (zero_of t) 2)) [
    | inl quiet ↦
        let same : f ≡ fault.Silent report_luns = err_same f (fault.Silent report_luns) (rw (loud, quiet) at e) in
        let two : k ≡ 2 = some_same k 2 (sym sent ∙ ap probes_until same) in
        rw (there, loud, quiet) (ap (λ (n : ℕ). record { target = t; probes = n; numbers = [] }) two)
    | inr told ↦ absurd (let no = rw (loud, told) at e in cc no)
  ]
]
  where
    err_same : (g h : ScanFault) → ◌≡◌ {A = Result (List ℕ) ScanFault} (Err g) (Err h) → g ≡ h
    err_same g h same = cc

    some_same : (n m : ℕ) → Some n ≡ Some m → n ≡ m
    some_same n m same = cc

-- ---- the scan of a target

pub scanned_ok : (s : HostSpec) (t : Target) (old new : DebugAdapter) (buffer ns : List ℕ) → KeepsLimits s → has_dev s.luns (zero_of t) ≡ true
    → Scans old new (zero_of t) buffer (Ok ns)
    → ScansTo s old new t (record { target = t; probes = 2; numbers = ns })
scanned_ok s t old new buffer ns limits there h b off stood =
    let a = asked s b t old new buffer (Ok ns) limits there off h stood in
    let same = asked_ok s t ns there a.answered in
    (same, subst (λ (k : ℕ). AdapterStands new s (b ++ (zero_of t, k) ∷ []) []) (sym (ap (λ (f : Finding). f.probes) same)) a.stands)

pub scanned_err : (s : HostSpec) (t : Target) (old new : DebugAdapter) (buffer : List ℕ) (f : ScanFault) (k : ℕ) → KeepsLimits s → has_dev s.luns (zero_of t) ≡ true → probes_until f ≡ Some k
    → UnlessNoMemory (Scans old new (zero_of t) buffer) (Err f)
    → ScansTo s old new t (record { target = t; probes = k; numbers = [] })
scanned_err s t old new buffer f k limits there sent h b off stood =
    let a = asked s b t old new buffer (Err f) limits there off (ends f sent h) stood in
    let same = asked_err s t f k there a.answered sent in
    (same, subst (λ (n : ℕ). AdapterStands new s (b ++ (zero_of t, n) ∷ []) []) (sym (ap (λ (x : Finding). x.probes) same)) a.stands)
  where
    ends : (g : ScanFault) → probes_until g ≡ Some k → UnlessNoMemory (Scans old new (zero_of t) buffer) (Err g) → Scans old new (zero_of t) buffer (Err g)
    ends (fault.Silent code) e x = x
    ends (fault.Refused code a) e x = x
    ends (fault.List list) e x = x
    ends (fault.Inquiry moved) e x = x
    ends fault.NoMemory e x = absurd (cc)

-- a target without a unit 0
pub unasked : (s : HostSpec) (t : Target) (x : DebugAdapter) (ns : List ℕ) → has_dev s.luns (zero_of t) ≡ false → ns ≡ [] → ScansTo s x x t (record { target = t; probes = 0; numbers = ns })
unasked s t x ns none e b off stood = (
  rw none (ap (λ (ms : List ℕ). record { target = t; probes = 0; numbers = ms }) e),
  moved x s b (b ++ (zero_of t, 0) ∷ []) [] tt (λ d. earlier_more b (zero_of t) 0 d off ∙ ap (λ (n : ℕ). earlier b d + n) (nothing (same_dev (zero_of t) d))) stood,
)
  where
    nothing : (q : Bool) → ◌≡◌ {A = ℕ} (if q then 0 else 0) 0
    nothing true = refl
    nothing false = refl
