use Rattle.std.proofs.Common.{[]}
use Rattle.smq_group.specs.Known.{both_links, centre_at, client_at, decided_late, elsewhere, late, late_and_early, none, one, tied, two, undecided}
use Rattle.smq_group.proofs.KnownGroups.{submit-listed, receipt-listed}
use Rattle.smq_group.proofs.laws.known_standings.Goals as goal

pub returns : goal.returns
returns c = record {
  stray = receipt-listed none late tt tt (centre_at 18);
  deciding = receipt-listed one late tt tt (centre_at 18);
  several = receipt-listed two late tt tt (centre_at 18);
  alone = submit-listed one [] tt tt (client_at 0);
  decided = submit-listed one late tt tt (client_at 0);
  shared = submit-listed two late tt tt (client_at 0);
  shared_too = submit-listed two late tt tt (client_at 49);
  earliest = submit-listed one late_and_early tt tt (client_at 0);
  earliest_decides = receipt-listed one late_and_early tt tt (centre_at 90);
  later_is_extra = receipt-listed one late_and_early tt tt (centre_at 18);
  tie = submit-listed one tied tt tt (client_at 0);
  tie_decides = receipt-listed one tied tt tt (centre_at 18);
  tie_is_extra = receipt-listed one tied tt tt (centre_at 90);
  undecided = submit-listed one undecided tt tt (client_at 0);
  noted = receipt-listed one undecided tt tt (centre_at 18);
  later_decides = submit-listed one decided_late tt tt (client_at 0);
  noted_still = receipt-listed one decided_late tt tt (centre_at 18);
  other_link = receipt-listed elsewhere late tt tt (centre_at 18);
  not_theirs = submit-listed elsewhere late tt tt (client_at 49);
  not_shared = submit-listed both_links late tt tt (client_at 0);
  nowhere = submit-listed one late tt tt (client_at 7);
}
