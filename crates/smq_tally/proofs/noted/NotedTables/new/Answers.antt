use Rattle.std.proofs.Common.{◌≡◌, [], refl, sym, ap, ◌∙◌}
use Rattle.std.specs.FinMap.{empty}
use Rattle.smq_tally.specs.Tables.{TablesValue, tables_of}
use Rattle.smq_tally.specs.within.Kept.{places_in}
use Rattle.smq_tally.specs.within.Noted.{notes_among}
use Rattle.smq_tally.proofs.Stored.{nothing_seen}
use Rattle.smq_tally.proofs.NotesAmong.{none-noted}
use Rattle.smq_tally.proofs.noted.NotedTables.new.Goals as goal

clear : notes_among empty (tables_of empty empty).places ≡ empty
clear = ap (λ (t : TablesValue). notes_among empty t.places) (sym (nothing_seen [] [] refl refl)) ∙ none-noted

pub returns-clause-notes : goal.returns-clause-notes
returns-clause-notes c = (λ i. notes_among (places_in (c.new.ensures.content i)) (c.new-2.ensures.shown i).places) ∙ clear

pub returns-clause-settled_notes : goal.returns-clause-settled_notes
returns-clause-settled_notes c = (λ i. notes_among (places_in (c.new.ensures.settled i)) (c.new-2.ensures.settled i).places) ∙ clear
