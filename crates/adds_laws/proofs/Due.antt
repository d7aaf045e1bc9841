-- Whether an answer is due is determined.
use Rattle.std.proofs.Common.{◌≡◌, Bool, true, false, List, refl, sym, ◌∙◌}
use Rattle.mid_base.specs.declared.host_spec.HostSpec.{HostSpec}
use Rattle.mid_base.specs.declared.entries.Entry.{Entry}
use Rattle.host_template.specs.Standing.{Before}
use Rattle.drain_rounds.specs.Making.{IsDueAfter}

pub due_once : (s : HostSpec) (b : Before) (P : List Entry) (x y : Bool) → IsDueAfter s b P x → IsDueAfter s b P y → x ≡ y
due_once s b P true true d e = refl
due_once s b P false false d e = refl
due_once s b P true false d e = absurd (cc (sym d.1 ∙ e d.0))
due_once s b P false true d e = absurd (cc (sym e.1 ∙ d e.0))
