-- What the probes of a scan said, and what comes of it.
use Rattle.std.proofs.Common.{◌≡◌, ℕ, Bool, true, false, cond, List, [], ◌∷◌, Option, None, Some, Result, Ok, Err, refl, sym, ap, ◌∙◌, subst}
use Rattle.std.specs.Prelude.{nat_lt, Vec}
use Rattle.std.specs.declared.alloc.Global.{Global}
use Rattle.mid_base.specs.declared.names.DevAddr.{DevAddr}
use Rattle.mid_base.specs.declared.answers.Answer.{Answer}
use Rattle.mid_base.specs.declared.answers.ProbeSay.{ProbeSay}
use Rattle.mid_base.specs.declared.answers.ProbeSay.TheVariants.{Answered, Silent as Nothing}
use Rattle.mid_base.specs.declared.entries.Entry.TheVariants.{Probe as Probed}
use Rattle.mid_base.specs.Answers.{is_good}
use Rattle.mid_base.specs.Codes.{inquiry, report_luns}
use Rattle.lun_addr.specs.declared.faults.ListFault.{ListFault}
use Rattle.lun_addr.specs.Grammar.{refusal}
use Rattle.host_template.specs.Standing.{Standing, DataIn}
use Rattle.host_template.specs.Probes.{taken}
use Rattle.eh_probe.specs.Standings.{StandsAfter}
use Rattle.lun_scan.specs.declared.fault.ScanFault.{ScanFault}
use Rattle.lun_scan.specs.declared.fault.ScanFault.TheVariants.{Silent, Refused, List as Unlisted, Inquiry, NoMemory}
use Rattle.lun_scan.specs.Numbers.{lun_numbers}
use Rattle.lun_scan.specs.Scans.{probe_fault, short_fault, first_of, inquiry_fault, or_fault, list_fault, list_answer, scan_answer, unless_fault, IsGiven, IsScan, Says, UnlessNoMemory}

-- the scan ends with INQUIRY
pub stopped : (old new : Standing) (di : DataIn) (d : DevAddr) (say : ProbeSay) (buffer : List ℕ) (f : ScanFault)
    → inquiry_fault say ≡ Some f → StandsAfter old new (Probed d inquiry say ∷ []) → IsScan old new di d buffer (Err f)
stopped old new di d say buffer f e h = record {
  first = say;
  second = Nothing;
  stands = subst (λ (o : Option ScanFault). StandsAfter old new (Probed d inquiry say ∷ unless_fault o (Probed d report_luns Nothing ∷ []))) (sym e) h;
  brought = λ s b P a none said stood. absurd (let no : Some f ≡ None = sym e ∙ none in cc);
  answered = subst (λ (o : Option ScanFault). Err f ≡ or_fault o (list_answer Nothing [])) (sym e) refl;
}

-- it goes on with REPORT LUNS
pub heard : (old between new : Standing) (di : DataIn) (d : DevAddr) (first second : ProbeSay) (buffer : List ℕ) (answer : Result (List ℕ) ScanFault)
    → inquiry_fault first ≡ None → StandsAfter old between (Probed d inquiry first ∷ []) → StandsAfter between new (Probed d report_luns second ∷ [])
    → IsGiven between di d second (taken report_luns second buffer) → answer ≡ list_answer second (taken report_luns second buffer)
    → IsScan old new di d buffer answer
heard old between new di d first second buffer answer e h k given answer_is = record {
  first = first;
  second = second;
  stands = subst (λ (o : Option ScanFault). StandsAfter old new (Probed d inquiry first ∷ unless_fault o (Probed d report_luns second ∷ []))) (sym e)
      (λ s b P stood. k s b (Probed d inquiry first ∷ P) (h s b P stood));
  brought = λ s b P a none said stood. given s b (Probed d inquiry first ∷ P) a said (h s b P stood);
  answered = answer_is ∙ ap (λ (o : Option ScanFault). or_fault o (list_answer second (taken report_luns second buffer))) (sym e);
}

pub says_heard : (old between new : Standing) (di : DataIn) (d : DevAddr) (first second : ProbeSay) (buffer bytes : List ℕ) (r : Result (Vec ℕ Global) ScanFault)
    → inquiry_fault first ≡ None → StandsAfter old between (Probed d inquiry first ∷ []) → StandsAfter between new (Probed d report_luns second ∷ [])
    → IsGiven between di d second (taken report_luns second buffer) → bytes ≡ taken report_luns second buffer
    → Says (λ a. a ≡ list_answer second bytes) r → Says (IsScan old new di d buffer) r
says_heard old between new di d first second buffer bytes (Ok numbers) e h k given are says =
    heard old between new di d first second buffer (Ok numbers.items) e h k given (says ∙ ap (λ (b : List ℕ). list_answer second b) are)
says_heard old between new di d first second buffer bytes (Err f) e h k given are says =
    heard old between new di d first second buffer (Err f) e h k given (says ∙ ap (λ (b : List ℕ). list_answer second b) are)

pub list_refused : (say : ProbeSay) (bytes : List ℕ) (f : ScanFault) → probe_fault report_luns say ≡ Some f → Err f ≡ list_answer say bytes
list_refused say bytes f e = sym (ap (λ (o : Option ScanFault). or_fault (first_of o (list_fault (refusal bytes))) (Ok (lun_numbers bytes))) e)

pub list_read : (say : ProbeSay) (bytes numbers : List ℕ) → probe_fault report_luns say ≡ None → refusal bytes ≡ None → numbers ≡ lun_numbers bytes
    → Ok numbers ≡ list_answer say bytes
list_read say bytes numbers e whole is =
    ap (λ (ns : List ℕ). Ok ns) is
    ∙ sym (ap (λ (o : Option ScanFault). or_fault (first_of o (list_fault (refusal bytes))) (Ok (lun_numbers bytes))) e
    ∙ ap (λ (o : Option ListFault). or_fault (list_fault o) (Ok (lun_numbers bytes))) whole)

pub list_bad : (say : ProbeSay) (bytes : List ℕ) (f : ListFault) → probe_fault report_luns say ≡ None → refusal bytes ≡ Some f
    → Err (Unlisted f) ≡ list_answer say bytes
list_bad say bytes f e bad =
    sym (ap (λ (o : Option ScanFault). or_fault (first_of o (list_fault (refusal bytes))) (Ok (lun_numbers bytes))) e
    ∙ ap (λ (o : Option ListFault). or_fault (list_fault o) (Ok (lun_numbers bytes))) bad)

-- ---- no probe says that memory is wanted

refused_not : (code : ℕ) (a : Answer) (good : Bool) → cond good None (Some (Refused code a)) ≡ Some NoMemory → ⊥
refused_not code a true e = cc
refused_not code a false e = cc

probe_not : (code : ℕ) (say : ProbeSay) → probe_fault code say ≡ Some NoMemory → ⊥
probe_not code Nothing e = cc
probe_not code (Answered a) e = refused_not code a (is_good a) e

short_data_not : (moved : ℕ) (short : Bool) → cond short (Some (Inquiry moved)) None ≡ Some NoMemory → ⊥
short_data_not moved true e = cc
short_data_not moved false e = cc

short_not : (say : ProbeSay) → short_fault say ≡ Some NoMemory → ⊥
short_not Nothing e = cc
short_not (Answered a) e = short_data_not a.moved (nat_lt a.moved 36) e

list_not : (o : Option ListFault) → list_fault o ≡ Some NoMemory → ⊥
list_not None e = cc
list_not (Some f) e = cc

first_not : (o p : Option ScanFault) → (o ≡ Some NoMemory → ⊥) → (p ≡ Some NoMemory → ⊥) → first_of o p ≡ Some NoMemory → ⊥
first_not None p bars bars' e = bars' e
first_not (Some f) p bars bars' e = bars e

answer_not : (o : Option ScanFault) (r : Result (List ℕ) ScanFault) → (o ≡ Some NoMemory → ⊥) → (r ≡ Err NoMemory → ⊥) → or_fault o r ≡ Err NoMemory → ⊥
answer_not None r bars bars' e = bars' e
answer_not (Some f) r bars bars' e = bars (let same : f ≡ NoMemory = cc in ap (λ (x : ScanFault). Some x) same)

ok_not : (numbers : List ℕ) → Ok numbers ≡ Err NoMemory → ⊥
ok_not numbers e = cc

list_answer_not : (say : ProbeSay) (bytes : List ℕ) → list_answer say bytes ≡ Err NoMemory → ⊥
list_answer_not say bytes =
    answer_not (first_of (probe_fault report_luns say) (list_fault (refusal bytes))) (Ok (lun_numbers bytes))
    (first_not (probe_fault report_luns say) (list_fault (refusal bytes)) (probe_not report_luns say) (list_not (refusal bytes))) (ok_not (lun_numbers bytes))

scan_answer_not : (first second : ProbeSay) (bytes : List ℕ) → scan_answer first second bytes ≡ Err NoMemory → ⊥
scan_answer_not first second bytes =
    answer_not (inquiry_fault first) (list_answer second bytes)
    (first_not (probe_fault inquiry first) (short_fault first) (probe_not inquiry first) (short_not first)) (list_answer_not second bytes)

no_memory : (old new : Standing) (di : DataIn) (d : DevAddr) (buffer : List ℕ) → IsScan old new di d buffer (Err NoMemory) → ⊥
no_memory old new di d buffer h = scan_answer_not h.first h.second (taken report_luns h.second buffer) (sym h.answered)

pub probed_says_no_memory : (old new : Standing) (di : DataIn) (d : DevAddr) (buffer : List ℕ) (r : Result (Vec ℕ Global) ScanFault)
    → Says (IsScan old new di d buffer) r → r ≡ Err NoMemory → ⊥
probed_says_no_memory old new di d buffer r h e =
    no_memory old new di d buffer (subst (λ (x : Result (Vec ℕ Global) ScanFault). Says (IsScan old new di d buffer) x) e h)

pub unless_says : (P : Result (List ℕ) ScanFault → Type 0) (r : Result (Vec ℕ Global) ScanFault) → Says P r → UnlessNoMemory P r
unless_says P (Ok numbers) h = h
unless_says P (Err NoMemory) h = tt
unless_says P (Err fault) h = h
