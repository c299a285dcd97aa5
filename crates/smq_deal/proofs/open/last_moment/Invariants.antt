-- The last moment so far, and those of the sessions that are left, come to that of all.
use Rattle.std.proofs.Common.{◌≡◌, ℕ, max}
use Rattle.std.specs.Prelude.{fold}
use Rattle.smq_present.specs.declared.present.session.Session.{Session}
use Rattle.smq_present.specs.present.Stream.{last_moment}
use Rattle.smq_deal.specs.Open.{last_known}
use Rattle.smq_deal.proofs.open.last_moment.Given as goal

abbrev pub invariant-loop-session : goal.invariant-loop-session
invariant-loop-session l =
    fold (λ (last : ℕ) (e : ℕ × Session). max last (max (last_moment e.1.client) (last_moment e.1.centre))) l.last l.session-iterator
    ≡ last_known l.present
