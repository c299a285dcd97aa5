use Rattle.std.proofs.Common.{◌+◌, ◌-◌, ◌^◌, ◌∙◌, ℕ, List, length, min, take, drop, refl, sym, ap}
use Rattle.smq_capture.specs.Rows.{Row}
use Rattle.smq_capture.proofs.Runs.{dealt-by, settle-by-one, settle-by-two}
use Rattle.smq_capture.proofs.waiting.Waiting.settle.Goals as goal

pub returns-in_err-extend-2-clause-settles : goal.returns-in_err-extend-2-clause-settles
returns-in_err-extend-2-clause-settles c =
    settle-by-one _ _ _ _ _ c.settle-settled.ensures.before (c.in_err-extend-2.ensures.err ∙ c.in_ok-extend.ensures.ok)

pub returns-clause-settles : goal.returns-clause-settles
returns-clause-settles c =
    settle-by-two _ _ _ _ _ _ _ _ _ c.settle-settled.ensures.goes c.settle-settled.ensures.before c.settle-settled.ensures.after
    c.in_ok-extend.ensures.ok c.in_ok-extend-2.ensures.ok

pub returns-clause-dealt : goal.returns-clause-dealt
returns-clause-dealt c =
    let k = c.match-until.limit - c.self.inside.settled in
    dealt-by _ _ _ _ _ _ _ _ _ c.self.inside.settled _ k _ c.settle-settled.ensures.before c.settle-settled.ensures.after
    c.in_ok-extend.ensures.ok c.in_ok-extend-2.ensures.ok
    (ap (λ (r : Row). length r.sessions) (sym c.self.view_is) ∙ c.self.invariant.count)
    (c.saturating_add-place.ensures ∙ ap (λ (r : Row). min (r.place + c.self.inside.settled) (2 ^ 64 - 1)) c.self.view_is)
    (ap (λ (xs : List ℕ). take k (drop c.self.inside.settled xs)) (c.deref.ensures.value ∙ ap (λ (r : Row). r.octets) c.self.view_is))
    refl c.settle-settled.ensures.place c.settle-settled.ensures.deals
