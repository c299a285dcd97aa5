use Rattle.std.proofs.Common.{arith, refl, ap, subst, sym, ◌∙◌}
use Rattle.std.specs.Option.{option_copied}
use Rattle.smq_tally.specs.within.Kept.{counts_in, AreLogged}
use Rattle.smq_tally.proofs.Recounts.{room-here, counted-later, room-later, moved-on, moved-last}
use Rattle.smq_tally.proofs.Runs.{fewer_left}
use Rattle.smq_tally.proofs.ViewRanges.{view_parts}
use Rattle.smq_tally.proofs.counts.+recount_from.Goals as goal

pub recount_in_view-requires-clause-room : goal.recount_in_view-requires-clause-room
recount_in_view-requires-clause-room t c =
    room-here c.args.view (counts_in c.args.counts.now.content) (option_copied c.args.after) c.requires.room

pub recount_from-requires : goal.recount_from-requires
recount_from-requires t c =
    let m = counts_in c.args.counts.now.content in
    let mid = counts_in c.recount_in_view.new.counts.content in
    let before = option_copied c.args.before in
    let after = option_copied c.args.after in (
      omega (arith, c.decreases, fewer_left view_parts c.args.view c.in-Some.next c.in-Some.ensures.next),
      (
        counted-later c.args.view c.in-Some.next m mid before after c.requires.counted c.requires.room c.in_ok-are_logged.ensures.ok
            c.in-Some.ensures.next,
        room-later c.args.view c.in-Some.next m mid before after c.requires.counted c.requires.room c.in_ok-are_logged.ensures.ok
            c.in-Some.ensures.next,
      ),
    )

pub returns-clause-ok : goal.returns-clause-ok
returns-clause-ok t c =
    moved-on c.args.view c.in-Some.next (counts_in c.args.counts.now.content) (counts_in c.recount_in_view.new.counts.content)
    (option_copied c.args.before) (option_copied c.args.after) c.requires.counted c.requires.room c.in_ok-are_logged.ensures.ok
    c.in-Some.ensures.next (counts_in c.recount_from.new.counts.content) c.in_default-recount_from.ensures.ok

pub returns-in_default-clause-ok : goal.returns-in_default-clause-ok
returns-in_default-clause-ok t c =
    moved-last c.args.view (counts_in c.args.counts.now.content) (counts_in c.recount_in_view.new.counts.content) (option_copied c.args.before)
    (option_copied c.args.after) (c.in_default.ensures.last refl) (c.in_default.ensures.last_after refl) c.in_ok-are_logged.ensures.ok

pub returns-in-Err-clause-err : goal.returns-in-Err-clause-err
returns-in-Err-clause-err t c =
    c.take_back_both.ensures c.args.counts.now
    (subst (AreLogged c.in_ok-are_logged.are_logged c.args.counts.now) (sym c.in-Err.ensures.err) c.in_ok-are_logged.ensures.logged)
    (c.in-Err.ensures.settled ∙ c.in_ok-are_logged.ensures.settled)

pub returns-in-Err-clause-settled : goal.returns-in-Err-clause-settled
returns-in-Err-clause-settled t c = ap (λ m. m.settled) (returns-in-Err-clause-err t c)
