use Rattle.std.proofs.Common.{◌≡◌, None, length, arith}
use Rattle.std.proofs.lemmas.Slice.Zip.{AllZip-long}
use Rattle.smq_present.specs.within.Lists.{receipts_of, submits_of}
use Rattle.smq_scratch.specs.within.Groups.{HasGroup}
use Rattle.smq_scratch.proofs.Grouped.{message-at}
use Rattle.smq_scratch.proofs.submitted.facts_of.Goals as goal

pub bounds-numbers-at : goal.bounds-numbers-at
bounds-numbers-at c =
    let p = c.args.present.now in
    let long : length c.args.numbers.now ≡ length c.args.submits.now =
    AllZip-long (λ m n. HasGroup c.args.groups.now (submits_of p) (receipts_of p) m.key n) c.args.submits.now c.args.numbers.now c.requires.numbers in
    omega (arith, long, c.loop-at-test.true)

pub known_of-requires : goal.known_of-requires
known_of-requires c =
    let p = c.args.present.now in
    message-at c.args.groups.now (submits_of p) (receipts_of p) c.args.submits.now c.args.numbers.now c.loop-at.at c.index-submits-at.result None
    c.requires.numbers c.loop-at-test.true c.index-submits-at.is
