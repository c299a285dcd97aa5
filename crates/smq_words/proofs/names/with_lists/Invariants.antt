use Rattle.std.proofs.Common.{◌≡◌, ◌++◌, map, take}
use Rattle.smq_tally.specs.Names.{list_name}
use Rattle.smq_words.specs.Words.{texts_of}
use Rattle.smq_words.proofs.names.with_lists.Given as goal

abbrev pub invariant-loop-list : goal.invariant-loop-list
invariant-loop-list l = texts_of l.names.items ≡ texts_of l.initial.names.items ++ map list_name (take l.list-index l.lists)
