use Rattle.smq_scratch.proofs.BlankedPdus.{pdus-keep}
use Rattle.smq_scratch.proofs.blanked.pdus_read_alike_keep_the_same.Goals as goal

pub returns : goal.returns
returns c = pdus-keep
