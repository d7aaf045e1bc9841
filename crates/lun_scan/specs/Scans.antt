-- What a scan of a target comes to, by what INQUIRY and REPORT LUNS said and brought (SPC-4, 6.6 and 6.33; scsi_scan.c).
use Rattle.std.specs.Prelude.{◌≡◌, ℕ, Bool, if◌then◌else◌, nat_lt, List, [], ◌∷◌, Option, None, Some, Result, Ok, Err, Vec}
use Rattle.std.specs.declared.alloc.Global.{Global}
use Rattle.mid_base.specs.declared.names.DevAddr.{DevAddr}
use Rattle.mid_base.specs.declared.answers.Answer.{Answer}
use Rattle.mid_base.specs.declared.answers.ProbeSay.{ProbeSay}
use Rattle.mid_base.specs.declared.answers.ProbeSay.TheVariants.{Answered, Silent as Nothing}
use Rattle.mid_base.specs.declared.entries.Entry.{Entry}
use Rattle.mid_base.specs.declared.entries.Entry.TheVariants.{Probe as Probed}
use Rattle.mid_base.specs.declared.host_spec.HostSpec.{HostSpec}
use Rattle.mid_base.specs.Answers.{is_good}
use Rattle.mid_base.specs.Codes.{inquiry, report_luns}
use Rattle.lun_addr.specs.declared.faults.ListFault.{ListFault}
use Rattle.lun_addr.specs.Grammar.{refusal}
use Rattle.host_template.specs.Standing.{Before, Standing, DataIn}
use Rattle.host_template.specs.Probes.{taken}
use Rattle.eh_probe.specs.Standings.{StandsAfter}
use Rattle.lun_scan.specs.declared.fault.ScanFault.{ScanFault}
use Rattle.lun_scan.specs.declared.fault.ScanFault.TheVariants.{Silent, Refused, List as Unlisted, Inquiry, NoMemory}
use Rattle.lun_scan.specs.Numbers.{lun_numbers}

-- logical unit 0 of a target is the one that is asked
abbrev pub unit_zero : ℕ → ℕ → DevAddr
unit_zero channel target = record { channel = channel; target = target; lun = 0 }

-- ---- what the probes say

-- the fault of a probe: it isn't answered, or not with DID_OK and GOOD
abbrev pub probe_fault : ℕ → ProbeSay → Option ScanFault
probe_fault code Nothing = Some (Silent code)
probe_fault code (Answered a) = if is_good a then None else Some (Refused code a)

-- standard INQUIRY data has 36 bytes at least
abbrev pub short_fault : ProbeSay → Option ScanFault
short_fault Nothing = None
short_fault (Answered a) = if nat_lt a.moved 36 then Some (Inquiry a.moved) else None

abbrev pub first_of : Option ScanFault → Option ScanFault → Option ScanFault
first_of (Some f) g = Some f
first_of None g = g

abbrev pub inquiry_fault : ProbeSay → Option ScanFault
inquiry_fault say = first_of (probe_fault inquiry say) (short_fault say)

-- the answer where these are the faults
abbrev pub or_fault : Option ScanFault → Result (List ℕ) ScanFault → Result (List ℕ) ScanFault
or_fault (Some f) answer = Err f
or_fault None answer = answer

-- what a list of logical units comes to
abbrev pub list_fault : Option ListFault → Option ScanFault
list_fault (Some f) = Some (Unlisted f)
list_fault None = None

abbrev pub list_answer : ProbeSay → List ℕ → Result (List ℕ) ScanFault
list_answer say bytes = or_fault (first_of (probe_fault report_luns say) (list_fault (refusal bytes))) (Ok (lun_numbers bytes))

-- the answer of a scan: INQUIRY said `first`, REPORT LUNS, which is sent where that has no fault, `second`, with these bytes
abbrev pub scan_answer : ProbeSay → ProbeSay → List ℕ → Result (List ℕ) ScanFault
scan_answer first second bytes = or_fault (inquiry_fault first) (list_answer second bytes)

-- ---- where the probes leave a lower layer

abbrev pub unless_fault : Option ScanFault → List Entry → List Entry
unless_fault (Some f) es = []
unless_fault None es = es

-- the entries of a scan, in the order of sending
abbrev pub scan_entries : DevAddr → ProbeSay → ProbeSay → List Entry
scan_entries d first second = Probed d inquiry first ∷ unless_fault (inquiry_fault first) (Probed d report_luns second ∷ [])

-- where REPORT LUNS is answered, these bytes are its data-in
abbrev pub IsGiven : Standing → DataIn → DevAddr → ProbeSay → List ℕ → Type 0
IsGiven old data_in d say bytes =
    (s : HostSpec) (b : Before) (P : List Entry) (a : Answer) → say ≡ Answered a → old s b P → data_in s b P d report_luns bytes

-- where it is sent and answered, they are its data-in behind the entry of INQUIRY
abbrev pub IsBrought : Standing → DataIn → DevAddr → ProbeSay → ProbeSay → List ℕ → Type 0
IsBrought old data_in d first second bytes =
    (s : HostSpec) (b : Before) (P : List Entry) (a : Answer) → inquiry_fault first ≡ None → second ≡ Answered a → old s b P
    → data_in s b (Probed d inquiry first ∷ P) d report_luns bytes

-- the probes of a scan of this unit said so: they leave the lower layer there, what they brought stands in the buffer, and
-- the answer is theirs
pub record IsScan (old new : Standing) (data_in : DataIn) (d : DevAddr) (buffer : List ℕ) (answer : Result (List ℕ) ScanFault) : Type 0 where
  pub first : ProbeSay
  pub second : ProbeSay
  pub stands : StandsAfter old new (scan_entries d first second)
  pub brought : IsBrought old data_in d first second (taken report_luns second buffer)
  pub answered : answer ≡ scan_answer first second (taken report_luns second buffer)

-- this holds of an answer
abbrev pub Says : (Result (List ℕ) ScanFault → Type 0) → Result (Vec ℕ Global) ScanFault → Type 0
Says P (Ok numbers) = P (Ok numbers.items)
Says P (Err fault) = P (Err fault)

-- this holds of an answer that isn't want of memory
abbrev pub UnlessNoMemory : (Result (List ℕ) ScanFault → Type 0) → Result (Vec ℕ Global) ScanFault → Type 0
UnlessNoMemory P (Ok numbers) = P (Ok numbers.items)
UnlessNoMemory P (Err NoMemory) = Unit {0}
UnlessNoMemory P (Err fault) = P (Err fault)
