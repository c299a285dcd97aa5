use Rattle.std.proofs.Common.{◌≡◌, true, false, subst, ap}
use Rattle.smq_streams.specs.Direction.{Direction}
use Rattle.smq_streams.specs.Search.{Finds}
use Rattle.smq_streams.proofs.Places.{searches}
use Rattle.smq_streams.proofs.stream.Stream.search.Goals as goal

pub returns-then-not-find-clause-searches : goal.returns-then-not-find-clause-searches
returns-then-not-find-clause-searches c pieces start given g =
    let h = c.in_ok-hold_all.ensures.holds pieces start given g in
    searches c.args.is_end false pieces start given c.args.self.now c.hold_all.new.self _
    (ap (λ (x : Direction). x.order) c.self.view_is) c.in_ok-hold_all.ensures.passed c.in_ok-hold_all.ensures.most h.0 h.1
    (subst (λ (x : Direction). Finds c.args.is_end x.held c.find.new.self false) c.self.view_is c.if-not-find.ensures)

pub returns-clause-searches : goal.returns-clause-searches
returns-clause-searches c pieces start given g =
    let h = c.in_ok-hold_all.ensures.holds pieces start given g in
    searches c.args.is_end true pieces start given c.args.self.now c.hold_all.new.self _
    (ap (λ (x : Direction). x.order) c.self.view_is) c.in_ok-hold_all.ensures.passed c.in_ok-hold_all.ensures.most h.0 h.1
    (subst (λ (x : Direction). Finds c.args.is_end x.held c.find.new.self true) c.self.view_is c.if-not-find.ensures)
