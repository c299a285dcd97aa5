use Rattle.std.proofs.Common.{ap}
use Rattle.smq_pair.specs.within.Kept.{entries_from, entries_in}
use Rattle.smq_pair.proofs.Nexts.{all-below}
use Rattle.smq_pair.proofs.streams.Streams.add.Goals as goal

pub join-requires-clause-above : goal.join-requires-clause-above
join-requires-clause-above c =
    all-below (entries_in c.args.self.now) c.args.place _ (ap (λ d. entries_from d (entries_in c.args.self.now)) c.in-FromClient.is) c.requires.below

pub join-requires-in-FromCentre-clause-above : goal.join-requires-in-FromCentre-clause-above
join-requires-in-FromCentre-clause-above c =
    all-below (entries_in c.args.self.now) c.args.place _ (ap (λ d. entries_from d (entries_in c.args.self.now)) c.in-FromCentre.is) c.requires.below
