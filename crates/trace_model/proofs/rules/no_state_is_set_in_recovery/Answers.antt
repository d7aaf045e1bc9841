use Rattle.trace_model.proofs.rules.no_state_is_set_in_recovery.Goals as goal

pub returns : goal.returns
returns c = λ s P d x e h. cc (rw e at h)
