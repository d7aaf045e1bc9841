use Rattle.host_state.proofs.running.Running.device_at.Goals as goal

pub returns : goal.returns
returns c s P r = c.place_of.ensures s P r.devices
