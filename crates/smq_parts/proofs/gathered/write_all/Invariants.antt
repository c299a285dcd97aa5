use Rattle.std.specs.Prelude.{take}
use Rattle.smq_parts.specs.within.Waiting.{PutsAll}
use Rattle.smq_parts.proofs.gathered.write_all.Given as goal

abbrev pub invariant-loop-it : goal.invariant-loop-it
invariant-loop-it g l = PutsAll (take l.it-index l.waiting) (g.F.Folder.contents l.initial.folder) (g.F.Folder.contents l.folder)
