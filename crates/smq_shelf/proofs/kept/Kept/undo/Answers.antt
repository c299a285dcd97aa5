use Rattle.std.proofs.Common.{◌≡◌, [], arith}
use Rattle.std.proofs.lemmas.Grind.{common_steps}
use Rattle.smq_shelf.proofs.Occupied.{places-settled}
use Rattle.smq_shelf.proofs.Vacancies.{IsKeptBy-none, IsKept-empty}
use Rattle.smq_shelf.proofs.kept.Kept.undo.Goals as goal

pub returns-clause-places : goal.returns-clause-places
returns-clause-places g c =
    let all : c.loop-change.self-inside.log.items ≡ [] = grind (arith, common_steps) in
    places-settled _ _ all c.loop-change.invariant.steps.kept

pub invariant_of-self : goal.invariant_of-self
invariant_of-self g c =
    let all : c.loop-change.self-inside.log.items ≡ [] = grind (arith, common_steps) in
    let left : c.give_back_room.new.log.items ≡ [] = grind (arith, common_steps) in
    IsKeptBy-none _ _ _ left (IsKept-empty _ _ _ all left c.loop-change.invariant.steps.kept)
