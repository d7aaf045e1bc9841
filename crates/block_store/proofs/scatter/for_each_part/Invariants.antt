use Rattle.std.proofs.Common.{◌≡◌, sum, take}
use denote.Param.Always.{always_mut}
use Rattle.block_store.specs.Parts.{VisitsParts}
use Rattle.block_store.proofs.scatter.for_each_part.Given as goal

abbrev pub invariant-loop-len : goal.invariant-loop-len
invariant-loop-len g l = always_mut g.F.FnMut l.visit × (l.at ≡ sum (take l.len-index l.fn.lens)) × VisitsParts g.F.FnMut l.initial.visit l.fn.buf (take l.len-index l.fn.lens) l.visit l.buf
