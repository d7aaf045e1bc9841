-- The units of the adapter: the state of each after the entries of a journal, and what it says to a command.
use Rattle.std.specs.Prelude.{ℕ, ◌==◌, ◌%◌, ◌&&◌, Bool, true, false, not, is_some, nat_le, replicate, if◌then◌else◌, List, [], ◌∷◌, Option, None, Some}
use Rattle.mid_base.specs.declared.names.DevAddr.{DevAddr}
use Rattle.mid_base.specs.declared.host_spec.LunSpec.{LunSpec}
use Rattle.mid_base.specs.declared.host_spec.HostSpec.{HostSpec}
use Rattle.mid_base.specs.declared.faults.Fault.{Fault}
use Rattle.mid_base.specs.declared.faults.Fault.TheVariants.{Check, NoSense, Raw, Status}
use Rattle.mid_base.specs.declared.answers.ProbeSay.{ProbeSay}
use Rattle.mid_base.specs.declared.answers.ProbeSay.TheVariants.{Answered, Silent}
use Rattle.mid_base.specs.declared.entries.Entry.{Entry}
use Rattle.mid_base.specs.declared.entries.Entry.TheVariants.{Ready, Act, Probe}
use Rattle.mid_base.specs.Bytes.{cdb_list, sense_list}
use Rattle.mid_base.specs.Address.{same_dev, in_scope, has_dev}
use Rattle.mid_base.specs.Codes.{did_ok, good, check_condition}
use Rattle.host_template.specs.Standing.{Before}
use Rattle.host_template.specs.Probes.{probe_cdb}
use Rattle.fault_plan.specs.declared.class.Class.TheVariants.{Probe as Probing}
use Rattle.block_store.specs.Blocks.{zero_block}
use Rattle.debug_lun.specs.Units.{LogicalUnit, Reply, reply_of, unit_for, with_pending, after_reset}
use Rattle.debug_lun.specs.Commands.{sense}
use Rattle.debug_lun.specs.Serving.{Served, serve, refusal_reply}
use Rattle.adapter_tables.specs.declared.held.Held.{Held}
use Rattle.adapter_tables.specs.Counted.{hit}
use Rattle.adapter_tables.specs.Held.{held, is_reset}

-- ---- what a unit is given

-- a number among others, in its place
abbrev pub with_number : ℕ → List ℕ → List ℕ
with_number n [] = n ∷ []
with_number n (m ∷ ms) = if nat_le n m then n ∷ m ∷ ms else m ∷ with_number n ms

-- the numbers of the units of d's target, ascending
abbrev pub target_luns : List LunSpec → DevAddr → List ℕ
target_luns [] d = []
target_luns (l ∷ ls) d =
    if (l.dev.channel == d.channel) && (l.dev.target == d.target) then with_number l.dev.lun (target_luns ls d)
    else target_luns ls d

-- the data of a write: 256 blocks of 512 bytes, each byte the same
abbrev pub data_out : ℕ → List ℕ
data_out fill = replicate 131072 fill

-- ---- what it says

abbrev pub status_reply : ℕ → ℕ → List ℕ → Reply
status_reply host status sense = record { host = host; status = status; sense = sense; moved = 0; sum = 0 }

abbrev pub served_pair : Served → LogicalUnit × Reply
served_pair x = (x.unit, x.reply)

-- a unit after a held attempt is answered, and the answer: where a fault hits (a sense key has four bits) the command doesn't reach the unit, but
-- that sense which doesn't come with its answer stays pending
abbrev pub answer_by : List ℕ → Held → LogicalUnit → Option Fault → LogicalUnit × Reply
answer_by luns h u (Some (Check key asc ascq)) = (u, refusal_reply (sense (key % 16) (asc, ascq)))
answer_by luns h u (Some (NoSense key asc ascq)) = (with_pending (sense (key % 16) (asc, ascq)) u, status_reply did_ok check_condition [])
answer_by luns h u (Some (Raw bytes)) = (u, status_reply did_ok check_condition (sense_list bytes))
answer_by luns h u (Some (Status host status)) = (u, status_reply host.0 status [])
answer_by luns h u fault = served_pair (serve u (cdb_list h.cdb) luns (data_out h.fill))

abbrev pub outcome : List ℕ → Held → LogicalUnit → LogicalUnit × Reply
outcome luns h u = answer_by luns h u h.fault

-- a unit after a probe that reached it, the answer, and the data-in
abbrev pub probed : List ℕ → LogicalUnit → ℕ → Served
probed luns u code = serve u (probe_cdb code) luns (data_out 0)

-- ---- its state

-- what stands for the unit of a device without one
abbrev pub no_unit : DevAddr → LogicalUnit
no_unit d = record { dev = d; blocks = 0; contents = λ k. zero_block; write_protected = false; started = true; attention = false; pending = None }

abbrev pub first_unit : List LunSpec → DevAddr → LogicalUnit
first_unit [] d = no_unit d
first_unit (l ∷ ls) d = if same_dev l.dev d then unit_for l else first_unit ls d

abbrev pub after_answer : List ℕ → Option Held → DevAddr → LogicalUnit → LogicalUnit
after_answer luns None d u = u
after_answer luns (Some h) d u = if same_dev h.dev d then (outcome luns h u).0 else u

abbrev pub is_answered : ProbeSay → Bool
is_answered (Answered a) = true
is_answered Silent = false

-- the unit of device d: answers, probes and resets change it
abbrev pub unit : HostSpec → Before → List Entry → DevAddr → LogicalUnit
unit s b [] d = first_unit s.luns d
unit s b (Ready n a ∷ P) d = after_answer (target_luns s.luns d) (held s b P n.0) d (unit s b P d)
unit s b (Probe e code say ∷ P) d =
    if is_answered say && same_dev e d then (probed (target_luns s.luns d) (unit s b P d) code).unit else unit s b P d
unit s b (Act level scope ok ∷ P) d = if ok && is_reset level && in_scope scope d then after_reset (unit s b P d) else unit s b P d
unit s b (_ ∷ P) d = unit s b P d

-- ---- probes

-- what a probe gives after P: none where a fault makes it silent, or where the device has no unit
abbrev pub probe_gives : HostSpec → Before → List Entry → DevAddr → ℕ → Option Served
probe_gives s b P d code =
    if has_dev s.luns d && not (is_some (hit s b P d Probing)) then Some (probed (target_luns s.luns d) (unit s b P d) code) else None

abbrev pub reply_in : Option Served → Option Reply
reply_in None = None
reply_in (Some x) = Some x.reply

abbrev pub data_in : Option Served → List ℕ
data_in None = []
data_in (Some x) = x.data_in

abbrev pub reply_said : ProbeSay → Option Reply
reply_said (Answered a) = Some (reply_of a)
reply_said Silent = None

abbrev pub is_good_reply : Option Reply → Bool
is_good_reply None = false
is_good_reply (Some r) = (r.host == did_ok) && (r.status == good)
