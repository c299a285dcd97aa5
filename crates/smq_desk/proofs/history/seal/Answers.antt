use Rattle.std.proofs.Common.{◌≡◌, [], ◌∷◌, ◌++◌, ap, ◌∙◌}
use Rattle.std.specs.Arc.{arc_value}
use Rattle.smq_desk.proofs.Chunking.{seals}
use Rattle.smq_desk.proofs.history.seal.Goals as goal

pub returns-in-Ok-clause-ok : goal.returns-in-Ok-clause-ok
returns-in-Ok-clause-ok c =
    let more : c.push_reserved.new.self.items ≡ c.args.sealed.now.items ++ c.in-Ok.chunk ∷ [] = cc in
    let is : arc_value c.in-Ok.chunk ≡ c.args.rest.now.items = c.in-Ok.ensures.ok ∙ ap (λ v. v.items) c.replace-full.ensures.value in
    seals c.args.sealed.now.items c.push_reserved.new.self.items c.in-Ok.chunk c.args.rest.now.items more is c.requires.full
