-- Of the data-out a command looks at the front alone that it needs.
use Rattle.std.proofs.Common.{◌≡◌, ℕ, ◌+◌, ◌*◌, List, [], ◌∷◌, Bool, true, false, Option, Some, None, Result, Ok, Err, refl, sym, ap, ◌∙◌, take}
use Rattle.std.specs.Prelude.{◌&&◌, not, nat_lt, if◌then◌else◌}
use Rattle.cdb_codec.specs.declared.cdb.Cdb.{Cdb}
use Rattle.cdb_codec.specs.declared.cdb.Cdb.TheVariants.{Write6, Write10, Write16}
use Rattle.sense_data.specs.Codes.{not_ready, illegal_request, unit_attention, data_protect, initializing_command_required, block_address_out_of_range, invalid_field_in_cdb, write_protected, reset_occurred}
use Rattle.debug_lun.specs.declared.sense_code.Sense.{Sense}
use Rattle.debug_lun.specs.Units.{LogicalUnit}
use Rattle.debug_lun.specs.Commands.{sense, read_command, passes_attention, needs_start, is_write, moves_blocks, first_block, block_count, short_count, needed_by, needed_for, data_needed}
use Rattle.debug_lun.specs.Pages.{is_unknown_page}
use Rattle.debug_lun.specs.Serving.{Served, takes, tried, run, run_read, serve, first_refusal, refusals}

-- where nothing refuses, the fourth reason doesn't hold
fourth_off : (a b c d : Bool) (s t u v : Sense) (others : List (Bool × Sense)) → first_refusal ((a, s) ∷ (b, t) ∷ (c, u) ∷ (d, v) ∷ others) ≡ None → d ≡ false
fourth_off true b c d s t u v others e = absurd (cc e)
fourth_off false true c d s t u v others e = absurd (cc e)
fourth_off false false true d s t u v others e = absurd (cc e)
fourth_off false false false true s t u v others e = absurd (cc e)
fourth_off false false false false s t u v others e = refl

few_blocks : (u : LogicalUnit) (c : Cdb) → moves_blocks c ≡ true → first_refusal (refusals u c) ≡ None → nat_lt 256 (block_count c) ≡ false
few_blocks u c moves e = sym (ap (λ (t : Bool). t && nat_lt 256 (block_count c)) moves) ∙ fourth_off
    (u.attention && not (passes_attention c))
    (not u.started && needs_start c)
    (u.write_protected && is_write c)
    (moves_blocks c && nat_lt 256 (block_count c))
    (sense unit_attention reset_occurred)
    (sense not_ready initializing_command_required)
    (sense data_protect write_protected)
    (sense illegal_request invalid_field_in_cdb)
    ((nat_lt u.blocks (first_block c + block_count c), sense illegal_request block_address_out_of_range) ∷ (is_unknown_page c, sense illegal_request invalid_field_in_cdb) ∷ [])
    e

-- a write that isn't for too many blocks needs the bytes of its blocks
front_same : (k : ℕ) (out other : List ℕ) → nat_lt 256 k ≡ false
    → take (if true && not (nat_lt 256 k) then 512 * k else 0) out ≡ take (if true && not (nat_lt 256 k) then 512 * k else 0) other
    → take (512 * k) out ≡ take (512 * k) other
front_same k out other small same = rw small at same

written_same : (u : LogicalUnit) (first k : ℕ) (out other : List ℕ) → nat_lt 256 k ≡ false
    → take (if true && not (nat_lt 256 k) then 512 * k else 0) out ≡ take (if true && not (nat_lt 256 k) then 512 * k else 0) other
    → takes u first (take (512 * k) out) ≡ takes u first (take (512 * k) other)
written_same u first k out other small same = ap (λ (bytes : List ℕ). takes u first bytes) (front_same k out other small same)

tried_looks : (u : LogicalUnit) (c : Cdb) (luns out other : List ℕ) (o : Option Sense) → first_refusal (refusals u c) ≡ o → take (needed_by c) out ≡ take (needed_by c) other
    → tried u c luns out o ≡ tried u c luns other o
tried_looks u c luns out other (Some s) e same = refl
tried_looks u (Write6 lba len control) luns out other None e same = written_same u lba (short_count len) out other (few_blocks u (Write6 lba len control) refl e) same
tried_looks u (Write10 flags lba group len control) luns out other None e same = written_same u lba len out other (few_blocks u (Write10 flags lba group len control) refl e) same
tried_looks u (Write16 flags lba len group control) luns out other None e same = written_same u lba len out other (few_blocks u (Write16 flags lba len group control) refl e) same
tried_looks u _ luns out other None e same = refl

read_looks : (u : LogicalUnit) (luns out other : List ℕ) (r : Result Cdb Sense) → take (needed_for r) out ≡ take (needed_for r) other → run_read u luns out r ≡ run_read u luns other r
unfolding run
read_looks u luns out other (Err s) same = refl
read_looks u luns out other (Ok c) same = tried_looks u c luns out other (first_refusal (refusals u c)) refl same

pub serve_looks : (u : LogicalUnit) (block luns out other : List ℕ) → take (data_needed block) out ≡ take (data_needed block) other → serve u block luns out ≡ serve u block luns other
unfolding serve data_needed
serve_looks u block luns out other same = read_looks u luns out other (read_command block) same
