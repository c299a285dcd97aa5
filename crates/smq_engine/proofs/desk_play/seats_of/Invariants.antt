-- The seats so far, and then those of what is left, are all.
use Rattle.std.proofs.Common.{◌≡◌, ◌∷◌, ◌++◌, map}
use Rattle.std.specs.Vec.Iter.{into_iter_items}
use Rattle.smq_engine.proofs.desk_play.seats_of.Given as goal

abbrev pub invariant-loop-job : goal.invariant-loop-job
invariant-loop-job l =
    l.seats.items ++ map (λ job. job.seat) (into_iter_items l.job-iterator)
    ≡ l.fn.first ∷ map (λ job. job.seat) l.fn.jobs.items
