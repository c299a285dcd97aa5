use Rattle.std.proofs.Common.{◌≡◌, ◌≤◌, List, [], sym, subst, ◌∙◌, arith}
use Rattle.std.specs.Int.{from_bool}
use Rattle.std.proofs.lemmas.Grind.{common_steps}
use Rattle.smq_shelf.specs.within.Undoing.{Logged, vacancies}
use Rattle.smq_shelf.proofs.Occupied.{places-settled}
use Rattle.smq_shelf.proofs.Changes.{IsSettling, IsSettling-from_kept, IsSettling-pop}
use Rattle.smq_shelf.proofs.Vacancies.{IsKeptBy-none, IsKept-settled-by, vacancies-cleared, vacancies-settled}
use Rattle.smq_shelf.proofs.kept.Kept.settle.Goals as goal

pub loop-self-init : goal.loop-self-init
loop-self-init g c = record {
  steps = IsSettling-from_kept g.met.K.Ord.total _ _ c.self.invariant.kept;
  vacant = c.self.invariant.vacant.0;
  touches = omega arith;
  counted = omega arith;
}

pub loop-self-preserved-in-Some : goal.loop-self-preserved-in-Some
loop-self-preserved-in-Some g c =
    let cleared = vacancies-cleared g.met.K.Ord.total c.in-Some.change c.loop-self.self-inside.shelf.entries c.clear_vacant.new.shelf.entries c.clear_vacant.result c.clear_vacant.ensures.was_vacant c.clear_vacant.ensures.entries in
    let told : c.from.result ≡ from_bool c.clear_vacant.result = c.from.ensures in
    record {
      steps = IsSettling-pop g.met.K.Ord.total c.self.inside.shelf.entries c.loop-self.self-inside.log.items c.pop.new.self.items c.in-Some.change c.loop-self.self-inside.shelf.entries c.clear_vacant.new.shelf.entries c.in-Some.ensures.items c.clear_vacant.ensures.entries (c.clear_vacant.ensures.ordered c.loop-self.invariant.steps.ordered) c.loop-self.invariant.steps;
      vacant = omega (arith, cleared, told, c.loop-self.invariant.vacant);
      touches = omega (arith, c.in-Some.ensures.len, c.clear_vacant.ensures.touches, c.loop-self.invariant.touches);
      counted = omega (arith, c.clear_vacant.ensures.counted, c.loop-self.invariant.counted);
    }

pub loop-self-preserved : goal.loop-self-preserved
loop-self-preserved g c =
    let all : c.loop-self.self-inside.log.items ≡ [] = grind (arith, common_steps) in
    let left : c.pop.new.self.items ≡ [] = grind (arith, common_steps) in
    let none = vacancies-settled g.met.K.Ord.total _ _ _ all c.loop-self.invariant.steps in
    record {
      steps = subst (λ (log : List (Logged g.row.K.Denot g.row.V.Denot)). IsSettling g.met.K.Ord.total c.self.inside.shelf.entries log c.loop-self.self-inside.shelf.entries) (all ∙ sym left) c.loop-self.invariant.steps;
      vacant = omega (arith, none);
      touches = omega (arith, c.in-None.ensures.len, c.loop-self.invariant.touches);
      counted = c.loop-self.invariant.counted;
    }

pub invariant_of-self : goal.invariant_of-self
invariant_of-self g c =
    let zero : c.loop-self.self-inside.most_vacant ≡ 0 = grind (arith, common_steps) in
    let none : vacancies c.loop-self.self-inside.shelf.entries ≤ 0 = omega (arith, zero, c.loop-self.invariant.vacant) in
    let left : c.give_back_room.new.log.items ≡ [] = grind (arith, common_steps) in
    IsKeptBy-none _ _ _ left (IsKept-settled-by g.met.K.Ord.total _ _ _ _ none left c.loop-self.invariant.steps)

pub returns-clause-places : goal.returns-clause-places
returns-clause-places g c =
    let left : c.give_back_room.new.log.items ≡ [] = grind (arith, common_steps) in
    places-settled _ _ left (invariant_of-self g c).kept

pub returns-then-is_empty-clause-places : goal.returns-then-is_empty-clause-places
returns-then-is_empty-clause-places g c =
    let left : c.self.inside.log.items ≡ [] = grind (arith, common_steps) in
    rw (← c.self.view_is) (places-settled _ _ left c.self.invariant.kept)
