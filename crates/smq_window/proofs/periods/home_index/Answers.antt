use Rattle.std.proofs.Common.{List}
use Rattle.smq_window.specs.Homes.{Homed}
use Rattle.smq_window.specs.within.Kept.{Homes, IsKept, Opens}
use Rattle.smq_window.proofs.Keeps.{home-found, home-opened}
use Rattle.smq_window.proofs.Results.{ok-from}
use Rattle.smq_window.proofs.periods.home_index.Goals as goal

pub returns-in-Some-clause-home : goal.returns-in-Some-clause-home
returns-in-Some-clause-home c pdus kept =
    let within = rw c.as_slice.ensures.value at c.in-Some.ensures.within in
    let first = rw c.as_slice.ensures.value at c.in-Some.ensures.first in
    home-found pdus c.args.span.oldest c.args.span.present c.args.periods.now.items c.args.exchange c.in-Some.index within first c.in-Some.ensures.none kept

pub returns-in-None-clause-home : goal.returns-in-None-clause-home
returns-in-None-clause-home c =
    let first = rw c.as_slice.ensures.value at c.in-None.ensures.first in
    ok-from (Opens c.args.span.present c.args.periods.now.items c.open.new.periods.items)
    (λ index. (pdus : List Homed) → IsKept pdus c.args.span.oldest c.args.span.present c.args.periods.now.items
    → Homes pdus c.args.span.oldest c.args.span.present c.args.exchange c.args.periods.now.items c.open.new.periods.items index)
    c.open.result c.open.ensures
    (λ index opens pdus kept.
    home-opened pdus c.args.span.oldest c.args.span.present c.args.periods.now.items c.open.new.periods.items c.args.exchange index first opens kept)
