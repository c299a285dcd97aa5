use Rattle.std.proofs.Common.{◌≡◌, ◌≤◌, ◌++◌, ◌∷◌, [], length, arith, ap, length-append}
use Rattle.smq_desk.specs.History.{entry_of}
use Rattle.smq_desk.proofs.Histories.{one_more}
use Rattle.smq_desk.proofs.BoardSteps.{starts_longer}
use Rattle.smq_desk.proofs.ledger.Ledger.commit.Goals as goal

pub invariant_of-self-2 : goal.invariant_of-self-2
invariant_of-self-2 c =
    let old = c.self.inside in
    let e = entry_of c.args.seat c.args.edit c.in-Some.reply in
    let more : c.push_reserved.new.self.entries ≡ old.history.entries ++ e ∷ [] = cc in
    let told = c.in-Some.ensures.some in
    let kept = c.self.invariant in
    let k = one_more old.history.entries old.book.present e c.in-Ok.theirs c.reply_of.new.book.present c.push_reserved.new.self.entries kept.legal kept.replayed c.in-Ok.ensures told.0 told.1 more in
    let within : length old.history.entries ≤ old.limit = kept.in_limit in
    record {
      legal = k.0;
      replayed = k.1;
      in_limit = omega (arith, ap length more, length-append old.history.entries (e ∷ []));
      published = starts_longer old.history.entries c.push_reserved.new.self.entries (e ∷ []) _ more kept.published;
      limit_in_range = kept.limit_in_range;
      seats_in_range = kept.seats_in_range;
    }
