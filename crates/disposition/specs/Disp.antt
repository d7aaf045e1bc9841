-- The disposition of an answer: finished, retried, queued again, or given to the error handler (scsi_eh.rst, "Completing a
-- scmd w/ scsi_done"). The tables are this project's own, in outline after Linux.
use Rattle.std.specs.Prelude.{ℕ, ◌==◌, Bool, true, false, not, ◌&&◌, ◌||◌, List, [], ◌∷◌, if◌then◌else◌, nat_lt}
use Rattle.mid_base.specs.Bytes.{sense_list}
use Rattle.mid_base.specs.Codes.{did_ok, did_no_connect, did_bus_busy, did_bad_target, did_abort, did_parity, did_error, did_reset, did_soft_error, did_imm_retry, did_requeue, good, check_condition, condition_met, busy, reservation_conflict, task_set_full, aca_active, task_aborted}
use Rattle.sense_data.specs.Grammar.{is_valid_sense, sense_key, sense_asc, sense_ascq, is_deferred}
use Rattle.sense_data.specs.Codes.{no_sense_key, recovered_error, not_ready, medium_error, unit_attention, aborted_command, becoming_ready, initializing_command_required, reset_occurred, unrecovered_read_error, address_mark_not_found, recorded_entity_not_found}
use Rattle.mid_base.specs.declared.answers.Answer.{Answer}
use Rattle.mid_base.specs.declared.answers.Disp.{Disp}
use Rattle.mid_base.specs.declared.answers.Disp.TheVariants.{Success, Retry, Requeue, Fail}

abbrev pub among : ℕ → List ℕ → Bool
among n [] = false
among n (m ∷ ms) = (n == m) || among n ms

-- the disposition in the first row that has n, or d where none has
abbrev pub row_of : ℕ → List (List ℕ × Disp) → Disp → Disp
row_of n [] d = d
row_of n (r ∷ rows) d = if among n r.0 then r.1 else row_of n rows d

-- What each host byte leads to, but DID_OK; every other one fails.
abbrev pub host_rows : List (List ℕ × Disp)
host_rows =
    (did_no_connect ∷ did_bad_target ∷ did_abort ∷ did_reset ∷ [], Success)
    ∷ (did_bus_busy ∷ did_parity ∷ did_error ∷ did_soft_error ∷ [], Retry)
    ∷ (did_imm_retry ∷ did_requeue ∷ [], Requeue)
    ∷ []

-- What each status leads to where the host byte is DID_OK, but CHECK CONDITION with valid sense; every other one fails.
abbrev pub status_rows : List (List ℕ × Disp)
status_rows =
    (good ∷ condition_met ∷ reservation_conflict ∷ aca_active ∷ [], Success)
    ∷ (busy ∷ task_set_full ∷ [], Requeue)
    ∷ (task_aborted ∷ [], Retry)
    ∷ []

-- Which additional codes a row of the sense table is for.
pub data Codes : Type 0 where
  any_code : Codes
  asc_among : List ℕ → Codes
  code_is : ℕ × ℕ → Codes

abbrev pub has_code : Codes → (asc ascq : ℕ) → Bool
has_code any_code asc ascq = true
has_code (asc_among codes) asc ascq = among asc codes
has_code (code_is code) asc ascq = (asc == code.0) && (ascq == code.1)

-- What sense data that isn't deferred leads to, by its key and additional code; every other key is a success.
abbrev pub sense_rows : List (List ℕ × Codes × Disp)
sense_rows =
    (no_sense_key ∷ recovered_error ∷ [], any_code, Success)
    ∷ (aborted_command ∷ [], any_code, Retry)
    ∷ (not_ready ∷ unit_attention ∷ [], code_is becoming_ready, Retry)
    ∷ (not_ready ∷ unit_attention ∷ [], code_is initializing_command_required, Fail)
    ∷ (not_ready ∷ unit_attention ∷ [], asc_among (reset_occurred.0 ∷ []), Retry)
    ∷ (not_ready ∷ unit_attention ∷ [], any_code, Success)
    ∷ (medium_error ∷ [], asc_among (unrecovered_read_error ∷ address_mark_not_found ∷ recorded_entity_not_found ∷ []), Success)
    ∷ (medium_error ∷ [], any_code, Retry)
    ∷ []

abbrev pub sense_row_of : (key asc ascq : ℕ) → List (List ℕ × Codes × Disp) → Disp
sense_row_of key asc ascq [] = Success
sense_row_of key asc ascq (r ∷ rows) = if among key r.0 && has_code r.1 asc ascq then r.2 else sense_row_of key asc ascq rows

abbrev pub check_sense : List ℕ → Disp
check_sense b = if is_deferred b then Retry else sense_row_of (sense_key b) (sense_asc b) (sense_ascq b) sense_rows

abbrev pub by_status : ℕ → List ℕ → Disp
by_status status sense =
    if (status == check_condition) && is_valid_sense sense then check_sense sense
    else row_of status status_rows Fail

abbrev pub by_host_byte : Answer → Disp
by_host_byte a =
    if a.host.0 == did_ok then by_status a.status (sense_list a.sense)
    else row_of a.host.0 host_rows Fail

-- the last rule: a retry that may not be made is a success
abbrev pub last_rule : Bool → Disp → Disp
last_rule may Retry = if may then Retry else Success
last_rule may d = d

-- the disposition of an answer to a command that was retried so often, has so many retries allowed, fails at the first
-- error or not, and whose device is online or not
abbrev pub disp : Answer → (retries allowed : ℕ) → (failfast online : Bool) → Disp
disp a retries allowed failfast online =
    if online then last_rule (nat_lt retries allowed && not failfast) (by_host_byte a) else Success

abbrev pub is_success : Disp → Bool
is_success Success = true
is_success d = false

abbrev pub is_retry : Disp → Bool
is_retry Retry = true
is_retry d = false

abbrev pub is_fail : Disp → Bool
is_fail Fail = true
is_fail d = false
