use Rattle.std.proofs.Common.{◌≡◌, ◌∷◌, ◌++◌, List, [], ◌∙◌, ap, sym, subst, length, append-nil, append_assoc, arith}
use Rattle.std.proofs.lemmas.List.{nil_from_length}
use Rattle.std.specs.Vec.Iter.{into_iter_items}
use Rattle.smq_load.specs.declared.record.Row.{Row}
use Rattle.smq_engine.specs.Workers.{edits_of_calls}
use Rattle.smq_engine.specs.within.Jobs.{AreJobsOf}
use Rattle.smq_engine.proofs.WorkerLemmas.{plain_taken}
use Rattle.smq_engine.proofs.desk_play.take_rows.Goals as goal

pub loop-row-init : goal.loop-row-init
loop-row-init g c = record {
  taken = [];
  all = c.into_iter-row-iterator.ensures.into_iter_gives.0;
  ready = c.requires;
  plain = sym (append-nil (edits_of_calls c.args.first.now.calls));
  pieces = λ before jobs_of. subst (λ (rows : List Row). AreJobsOf rows c.args.jobs.items) (sym (append-nil before)) jobs_of;
}

pub loop-row-preserved : goal.loop-row-preserved
loop-row-preserved g c =
    let taken = c.loop-row.invariant.taken in
    let row = c.in-Some.row in
    let edits = edits_of_calls c.args.first.now.calls in
    record {
      taken = taken ++ row ∷ [];
      all = append_assoc taken (row ∷ []) (into_iter_items c.next.new.self)
          ∙ ap (λ (left : List Row). taken ++ left) (sym c.in-Some.ensures.steps.0) ∙ c.loop-row.invariant.all;
      ready = c.in_ok-jobs.ensures.ready;
      plain = plain_taken edits (edits_of_calls c.loop-row.first.calls) (edits_of_calls c.take_row.new.first.calls) taken row
          c.in_ok-jobs.ensures.plain c.loop-row.invariant.plain;
      pieces = λ before jobs_of. subst (λ (rows : List Row). AreJobsOf rows c.in_ok-jobs.jobs.items) (append_assoc before taken (row ∷ []))
          (c.in_ok-jobs.ensures.pieces (before ++ taken) (c.loop-row.invariant.pieces before jobs_of));
    }

pub returns-clause-pieces : goal.returns-clause-pieces
returns-clause-pieces g c before jobs_of =
    let taken = c.loop-row.invariant.taken in
    let zero : length (into_iter_items c.loop-row.row-iterator) ≡ 0 = omega (arith, c.loop-row.row-iterator.rest.ok, c.in-None.ensures.steps.0) in
    let none : into_iter_items c.loop-row.row-iterator ≡ [] = nil_from_length (into_iter_items c.loop-row.row-iterator) zero in
    let all : taken ≡ c.args.rows.items =
    sym (append-nil taken) ∙ ap (λ (left : List Row). taken ++ left) (sym none) ∙ c.loop-row.invariant.all in
    subst (λ (rows : List Row). AreJobsOf (before ++ rows) c.loop-row.jobs.items) all (c.loop-row.invariant.pieces before jobs_of)
