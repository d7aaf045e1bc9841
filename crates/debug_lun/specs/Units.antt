-- A logical unit, as commands meet it, and what one of them answers.
use Rattle.std.specs.Prelude.{ℕ, List, Option, None, Some, Bool, true, false, not}
use Rattle.mid_base.specs.declared.names.DevAddr.{DevAddr}
use Rattle.mid_base.specs.declared.answers.Answer.{Answer}
use Rattle.mid_base.specs.declared.host_spec.LunSpec.{LunSpec}
use Rattle.mid_base.specs.Bytes.{sense_list}
use Rattle.block_store.specs.Blocks.{size, contents, zero_block}
use Rattle.debug_lun.specs.declared.lun.DebugLun.{DebugLun}
use Rattle.debug_lun.specs.declared.sense_code.Sense.{Sense}

pub record LogicalUnit : Type 0 where
  pub dev : DevAddr
  pub blocks : ℕ
  -- each block, by its number
  pub contents : ℕ → List ℕ
  pub write_protected : Bool
  pub started : Bool
  -- a unit attention condition stands (SAM-5, unit attention conditions): the unit was reset
  pub attention : Bool
  -- sense data that a command left behind, which REQUEST SENSE is to fetch
  pub pending : Option Sense

-- what the code's unit is
unfoldable pub unit_of : DebugLun → LogicalUnit
unit_of l = record {
  dev = l.dev;
  blocks = size l.store;
  contents = contents l.store;
  write_protected = l.write_protected;
  started = l.started;
  attention = l.attention;
  pending = l.pending;
}

-- at the start its blocks are zeros
abbrev pub unit_for : LunSpec → LogicalUnit
unit_for l = record {
  dev = l.dev;
  blocks = l.blocks;
  contents = λ k. zero_block;
  write_protected = l.read_only;
  started = not l.stopped;
  attention = false;
  pending = None;
}

-- a reset starts the unit, forgets the pending sense and leaves a unit attention
abbrev pub after_reset : LogicalUnit → LogicalUnit
after_reset u = record u { started = true; attention = true; pending = None }

abbrev pub after_start : LogicalUnit → LogicalUnit
after_start u = record u { started = true }

abbrev pub with_pending : Sense → LogicalUnit → LogicalUnit
with_pending s u = record u { pending = Some s }

-- what an answer says, its sense data as a list of bytes
pub record Reply : Type 0 where
  pub host : ℕ
  pub status : ℕ
  pub sense : List ℕ
  pub moved : ℕ
  pub sum : ℕ

abbrev pub reply_of : Answer → Reply
reply_of a = record { host = a.host.0; status = a.status; sense = sense_list a.sense; moved = a.moved; sum = a.sum }
