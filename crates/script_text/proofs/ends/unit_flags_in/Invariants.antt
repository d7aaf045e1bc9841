use Rattle.std.proofs.Common.{◌≡◌, ◌∷◌, [], Option, false, length}
use Rattle.std.specs.Prelude.{◌||◌}
use Rattle.std.specs.List.{list_any}
use Rattle.mid_base.specs.declared.host_spec.HostSpec.{HostSpec}
use Rattle.script_words.specs.Pieces.{words}
use Rattle.script_text.specs.Said.{Said}
use Rattle.script_text.specs.Slots.{UnitFlags, first_fault, is_read_only, is_stopped, is_scan}
use Rattle.script_text.proofs.ends.unit_flags_in.Given as goal

abbrev pub invariant-loop-word : goal.invariant-loop-word
invariant-loop-word l = record {
  faults : (said : Said) (host : Option HostSpec) → first_fault said host (UnitFlags l.flags.read_only l.flags.stopped l.flags.scan ∷ []) (words l.words.rest.now) ≡ first_fault said host (UnitFlags false false false ∷ []) (words l.fn.rest.rest.now);
  read_only : (l.flags.read_only || list_any is_read_only (words l.words.rest.now)) ≡ list_any is_read_only (words l.fn.rest.rest.now);
  stopped : (l.flags.stopped || list_any is_stopped (words l.words.rest.now)) ≡ list_any is_stopped (words l.fn.rest.rest.now);
  scan : (l.flags.scan || list_any is_scan (words l.words.rest.now)) ≡ list_any is_scan (words l.fn.rest.rest.now);
}

abbrev pub decreases-loop-word : goal.decreases-loop-word
decreases-loop-word l = length (words l.words.rest.now)
