use Rattle.std.proofs.Common.{◌≡◌, ◌++◌, map, take}
use Rattle.smq_tally.specs.Names.{view_name}
use Rattle.smq_words.specs.Words.{texts_of}
use Rattle.smq_words.proofs.names.with_views.Given as goal

abbrev pub invariant-loop-view : goal.invariant-loop-view
invariant-loop-view l = texts_of l.names.items ≡ texts_of l.initial.names.items ++ map view_name (take l.view-index l.views)
