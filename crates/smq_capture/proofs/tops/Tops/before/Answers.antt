use Rattle.std.proofs.Common.{◌<◌, refl, ◌∙◌, ltb, ltb-true, ltb-false, arith, rules}
use Rattle.std.specs.VecDeque.{deque_len}
use Rattle.std.proofs.lemmas.List.Sorted.{IsPartitionPoint-from_clause, IsPartitionedBy-ltb}
use Rattle.smq_capture.specs.declared.tops.Top.{Top}
use Rattle.smq_capture.proofs.Watched.{early, found, none, tells}
use Rattle.smq_capture.proofs.tops.Tops.before.Goals as goal

pub returns-in-Some-clause-value : goal.returns-in-Some-clause-value
returns-in-Some-clause-value c =
    let parted = IsPartitionedBy-ltb (λ (t : Top). t.number) c.self.inside.tops.items c.args.number c.self.invariant in
    let point = IsPartitionPoint-from_clause (λ (t : Top). ltb t.number c.args.number) c.self.inside.tops.items _
    c.partition_point-first.ensures.partitioned parted (λ a r q k. search rules) in
    let some = c.in-Some.ensures.variant.0 refl in
    rw (← c.self.view_is)
    (found _ _ c.partition_point-first.result c.self.inside.tops.items _ (λ k d h. ltb-true _ _ (point.0 k d (omega arith) h))
    (λ k d g h. ltb-false _ _ (point.1 k d g h)) (omega (arith, some, c.self.inside.tops.ok.0)) c.in-Some.ensures.lookup)

pub returns-in-Some-clause-tells : goal.returns-in-Some-clause-tells
returns-in-Some-clause-tells c =
    λ from packets s e l. returns-in-Some-clause-value c ∙ tells c.args.number from c.args.top packets c.args.self.now s e l

pub returns-in-Some-clause-early : goal.returns-in-Some-clause-early
returns-in-Some-clause-early c =
    λ from packets s e l. rw (returns-in-Some-clause-value c) (early c.args.number from c.args.top packets c.args.self.now s e l)

pub returns-in-None-clause-value : goal.returns-in-None-clause-value
returns-in-None-clause-value c =
    let parted = IsPartitionedBy-ltb (λ (t : Top). t.number) c.self.inside.tops.items c.args.number c.self.invariant in
    let point = IsPartitionPoint-from_clause (λ (t : Top). ltb t.number c.args.number) c.self.inside.tops.items _
    c.partition_point-first.ensures.partitioned parted (λ a r q k. search rules) in
    let no_more : c.partition_point-first.result < deque_len c.self.inside.tops → ⊥ =
    λ h. let e = c.in-None.ensures.variant.1 h in absurd cc in
    rw (← c.self.view_is)
    (none _ _ c.self.inside.tops.items (λ k d h. ltb-true _ _ (point.0 k d (omega arith)
    (omega (arith, no_more, c.self.inside.tops.ok.0)))))

pub returns-in-None-clause-tells : goal.returns-in-None-clause-tells
returns-in-None-clause-tells c =
    λ from packets s e l. returns-in-None-clause-value c ∙ tells c.args.number from c.args.top packets c.args.self.now s e l

pub returns-in-None-clause-early : goal.returns-in-None-clause-early
returns-in-None-clause-early c =
    λ from packets s e l. rw (returns-in-None-clause-value c) (early c.args.number from c.args.top packets c.args.self.now s e l)
