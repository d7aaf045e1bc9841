-- Sense keys and additional sense codes by their names.
use Rattle.std.specs.Prelude.{ℕ}

-- Sense keys (SPC-4, 4.5.6).
abbrev pub no_sense_key : ℕ
no_sense_key = 0

abbrev pub recovered_error : ℕ
recovered_error = 1

abbrev pub not_ready : ℕ
not_ready = 2

abbrev pub medium_error : ℕ
medium_error = 3

abbrev pub hardware_error : ℕ
hardware_error = 4

abbrev pub illegal_request : ℕ
illegal_request = 5

abbrev pub unit_attention : ℕ
unit_attention = 6

abbrev pub data_protect : ℕ
data_protect = 7

abbrev pub blank_check : ℕ
blank_check = 8

abbrev pub vendor_specific : ℕ
vendor_specific = 9

abbrev pub copy_aborted : ℕ
copy_aborted = 10

abbrev pub aborted_command : ℕ
aborted_command = 11

abbrev pub volume_overflow : ℕ
volume_overflow = 13

abbrev pub miscompare : ℕ
miscompare = 14

abbrev pub completed : ℕ
completed = 15

-- Additional sense codes with their qualifiers (SPC-4, 4.5.6).
abbrev pub no_additional_sense : ℕ × ℕ
no_additional_sense = (0, 0)

abbrev pub becoming_ready : ℕ × ℕ
becoming_ready = (4, 1)

abbrev pub initializing_command_required : ℕ × ℕ
initializing_command_required = (4, 2)

abbrev pub invalid_command_operation_code : ℕ × ℕ
invalid_command_operation_code = (32, 0)

abbrev pub block_address_out_of_range : ℕ × ℕ
block_address_out_of_range = (33, 0)

abbrev pub invalid_field_in_cdb : ℕ × ℕ
invalid_field_in_cdb = (36, 0)

abbrev pub write_protected : ℕ × ℕ
write_protected = (39, 0)

abbrev pub reset_occurred : ℕ × ℕ
reset_occurred = (41, 0)

-- Additional sense codes that stand for themselves and their qualifiers.
abbrev pub unrecovered_read_error : ℕ
unrecovered_read_error = 17

abbrev pub address_mark_not_found : ℕ
address_mark_not_found = 19

abbrev pub recorded_entity_not_found : ℕ
recorded_entity_not_found = 20
