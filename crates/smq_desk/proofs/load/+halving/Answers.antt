use Rattle.std.proofs.Common.{◌≡◌, ◌/◌, ◌++◌, subst}
use Rattle.std.proofs.lemmas.List.{take-append-drop}
use Rattle.std.specs.List.{AllZip}
use Rattle.smq_desk.specs.Jobs.{Worked}
use Rattle.smq_desk.proofs.JobsInTurn.{zip_append}
use Rattle.smq_desk.proofs.load.+halving.Goals as goal

pub spread-returns-clause-worked : goal.spread-returns-clause-worked
spread-returns-clause-worked g t c =
    let w = c.both-front.ensures.worked in
    let front = c.split_off.new.self.items in
    let back = c.in-Ok.back.items in
    let whole : front ++ back ≡ c.args.jobs.items = rw (c.in-Ok.ensures.items, c.in-Ok.ensures.tail) (take-append-drop (c.len-half.result / 2) c.args.jobs.items) in
    let both = zip_append Worked front c.both-front.result.0.items back c.both-front.result.1.items w.0 w.1 in
    rw c.glued.ensures.items (subst (λ xs. AllZip Worked xs (c.both-front.result.0.items ++ c.both-front.result.1.items)) whole both)
