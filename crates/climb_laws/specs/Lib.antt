pub mod LadderOf
