use Rattle.smq_group.specs.Known.{on_two_links, received}
use Rattle.smq_group.proofs.KnownGroups.{chosen-listed}
use Rattle.smq_group.proofs.laws.known_links.Goals as goal

pub returns : goal.returns
returns c = record {
  submits = chosen-listed _ on_two_links tt;
  other_submits = chosen-listed _ on_two_links tt;
  receipts = chosen-listed _ received tt;
  other_receipts = chosen-listed _ received tt;
  no_submits = chosen-listed _ on_two_links tt;
  no_receipts = chosen-listed _ received tt;
}
