use Rattle.std.proofs.Common.{◌≡◌, ◌<◌, [], ◌∷◌, ◌++◌, length, sym, ◌∙◌}
use Rattle.smq_shelf.specs.Places.{content_of}
use Rattle.smq_shelf.proofs.Nearest.{last-value, last-vacant, one-less}
use Rattle.smq_shelf.proofs.kept_map.EntriesDoubleEndedIterator.next_back.Goals as goal

steps : (g : _) (c : goal.In-Some-place g) → c.args.self.now ≡ content_of c.next_back.new.self ++ (c.in-Some.key.now, c.in-Some-place.value) ∷ []
steps g c =
    sym c.self.view_is ∙ sym c.loop-key.invariant
    ∙ last-value c.loop-key.self-inside.left c.next_back.new.self c.in-Some.key.now c.in-Some.place.now c.in-Some-place.value c.in-Some.ensures.steps c.in-Some-place.is

pub returns-in-Some-place-clause-steps : goal.returns-in-Some-place-clause-steps
returns-in-Some-place-clause-steps g c = steps g c

pub returns-in-Some-place-clause-goes : goal.returns-in-Some-place-clause-goes
returns-in-Some-place-clause-goes g c =
    let less : length (content_of c.next_back.new.self) < length c.args.self.now = one-less c.args.self.now (content_of c.next_back.new.self) _ (steps g c) in
    record { on = λ f. (tt, tt, less); keeps = tt; rests = λ f. tt }

pub loop-key-preserved : goal.loop-key-preserved
loop-key-preserved g c =
    sym (last-vacant c.loop-key.self-inside.left c.next_back.new.self c.in-Some.key.now c.in-Some.place.now c.in-Some.ensures.steps c.in_default-place.is)
    ∙ c.loop-key.invariant
