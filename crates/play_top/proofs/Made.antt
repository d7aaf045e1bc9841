-- What was written of a summary where writing ended early.
use Rattle.std.proofs.Common.{ℕ, Bool, List, Option, Err, inl}
use Rattle.mid_base.specs.declared.steps.Why.{Why}
use Rattle.mid_io.specs.Whole.{IsCutShort}
use Rattle.report_text.specs.declared.lines.WriteEnd.{WriteEnd}
use Rattle.report_text.specs.declared.lines.WriteEnd.TheVariants.{Fault, NoMemory}
use Rattle.report_text.specs.Ends.{WritesText}
use Rattle.made_script.specs.Made.{made}
use Rattle.drain_rounds.specs.Making.{HostRun}
use Rattle.play_sched.specs.Played.{Ran}
use Rattle.play_top.specs.Play.{IsMadeCut}
use Rattle.play_top.specs.Texts.{made_text}

cut_short : (old new : Option (List ℕ)) (text : List ℕ) (before now : ℕ) (end : WriteEnd) → WritesText old new text before now (Err end) → IsCutShort old new text
cut_short old new text before now Fault written = written.1
cut_short old new text before now NoMemory written = written

pub made_cut : (count : ℕ) (runs : List HostRun) (skips : List (ℕ × Why)) (short : Bool) (old new : Option (List ℕ)) (before now : ℕ) (end : WriteEnd)
    → Ran (made count) runs skips short → WritesText old new (made_text count runs) before now (Err end) → IsMadeCut count old new
made_cut count runs skips short old new before now end ran written =
    inl (runs, skips, short, ran, cut_short old new (made_text count runs) before now end written)
