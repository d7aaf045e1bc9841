-- Host bytes, status bytes and operation codes by their names.
use Rattle.std.specs.Prelude.{ℕ}

-- Host bytes, as the Linux kernel's scsi_status.h names and numbers them.
abbrev pub did_ok : ℕ
did_ok = 0

abbrev pub did_no_connect : ℕ
did_no_connect = 1

abbrev pub did_bus_busy : ℕ
did_bus_busy = 2

abbrev pub did_time_out : ℕ
did_time_out = 3

abbrev pub did_bad_target : ℕ
did_bad_target = 4

abbrev pub did_abort : ℕ
did_abort = 5

abbrev pub did_parity : ℕ
did_parity = 6

abbrev pub did_error : ℕ
did_error = 7

abbrev pub did_reset : ℕ
did_reset = 8

abbrev pub did_soft_error : ℕ
did_soft_error = 11

abbrev pub did_imm_retry : ℕ
did_imm_retry = 12

abbrev pub did_requeue : ℕ
did_requeue = 13

-- Status bytes (SAM-5, 5.3).
abbrev pub good : ℕ
good = 0

abbrev pub check_condition : ℕ
check_condition = 2

abbrev pub condition_met : ℕ
condition_met = 4

abbrev pub busy : ℕ
busy = 8

abbrev pub reservation_conflict : ℕ
reservation_conflict = 24

abbrev pub task_set_full : ℕ
task_set_full = 40

abbrev pub aca_active : ℕ
aca_active = 48

abbrev pub task_aborted : ℕ
task_aborted = 64

-- Operation codes of the commands that recovery and scanning send (SPC-4 clause 6; START STOP UNIT: SBC-3, 5.25).
abbrev pub test_unit_ready : ℕ
test_unit_ready = 0

abbrev pub request_sense : ℕ
request_sense = 3

abbrev pub inquiry : ℕ
inquiry = 18

abbrev pub start_stop_unit : ℕ
start_stop_unit = 27

abbrev pub report_luns : ℕ
report_luns = 160
