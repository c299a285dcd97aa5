use Rattle.std.proofs.Common.{◌∙◌, sym, refl}
use Rattle.std.proofs.lemmas.Map.Steps.{set_value_same}
use Rattle.smq_shelf.proofs.Replacing.{set_value-none, set_value-insert_entry}
use Rattle.smq_shelf.proofs.logged.vacate.Goals as goal

pub returns-in-Some-Some-clause-entries : goal.returns-in-Some-Some-clause-entries
returns-in-Some-Some-clause-entries g c =
    c.replace.ensures.entries ∙ set_value-insert_entry g.met.K.Ord.total _ _ _ c.replace.ensures.was_ordered (rw (← c.in-Some-Some.ensures.old) refl)

pub returns-in-Some-None-clause-entries : goal.returns-in-Some-None-clause-entries
returns-in-Some-None-clause-entries g c = c.replace.ensures.entries ∙ set_value_same _ _ _ (sym (rw c.in-Some-None.field-0-is at c.in-Some-None.ensures.old))

pub returns-in-None-clause-entries : goal.returns-in-None-clause-entries
returns-in-None-clause-entries g c = c.replace.ensures.entries ∙ set_value-none _ _ _ (sym c.in-None.ensures.old)
