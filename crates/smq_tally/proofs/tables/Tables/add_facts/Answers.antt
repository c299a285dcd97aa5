use Rattle.std.proofs.Common.{◌<◌, ◌^◌, length, arith}
use Rattle.smq_tally.proofs.Gathered.{gathering-room}
use Rattle.smq_tally.proofs.tables.Tables.add_facts.Goals as goal

pub add_fact-requires : goal.add_fact-requires
add_fact-requires c =
    let small : length c.args.facts.now < 2 ^ 64 = omega arith in
    record { room = gathering-room c.requires.apart c.loop-fact.invariant c.in-Some.before.now c.in-Some.fact.now c.in-Some.ensures.cases.0 small }
