use Rattle.std.proofs.Common.{length, ap, arith}
use Rattle.smq_desk.proofs.Chunking.{all_long}
use Rattle.smq_desk.proofs.history.History.len.Goals as goal

pub overflow_mul-result : goal.overflow_mul-result
overflow_mul-result c =
    let all = all_long c.self.inside.sealed.items c.self.inside.rest.items c.self.invariant.0 in
    omega (arith, c.self.invariant.2, c.len.ensures, c.self.inside.sealed.ok)

pub overflow_add-result : goal.overflow_add-result
overflow_add-result c =
    let all = all_long c.self.inside.sealed.items c.self.inside.rest.items c.self.invariant.0 in
    omega (arith, c.self.invariant.2, c.len.ensures, c.len-2.ensures, c.self.inside.sealed.ok, c.self.inside.rest.ok)

pub returns-clause-value : goal.returns-clause-value
returns-clause-value c =
    let all = all_long c.self.inside.sealed.items c.self.inside.rest.items c.self.invariant.0 in
    omega (arith, c.len.ensures, c.len-2.ensures, c.self.inside.sealed.ok, c.self.inside.rest.ok, ap (λ h. length h.entries) c.self.view_is)
