use Rattle.lun_addr.proofs.Back.{reads_back}
use Rattle.lun_addr.proofs.laws.written_lists_read_back.Goals as goal

pub returns : goal.returns
returns c b luns rest small few e = reads_back b luns rest small few e
