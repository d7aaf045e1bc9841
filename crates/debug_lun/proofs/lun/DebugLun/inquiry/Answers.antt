use Rattle.debug_lun.proofs.lun.DebugLun.inquiry.Goals as goal

pub returns-then-not-evpd-clause-reply : goal.returns-then-not-evpd-clause-reply
returns-then-not-evpd-clause-reply c = rw c.if-not-evpd.true c.give.ensures.reply

pub returns-then-not-evpd-clause-buffer : goal.returns-then-not-evpd-clause-buffer
returns-then-not-evpd-clause-buffer c = rw c.if-not-evpd.true c.give.ensures.front
