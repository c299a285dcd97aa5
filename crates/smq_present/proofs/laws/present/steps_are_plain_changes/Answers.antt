use Rattle.smq_present.proofs.lemmas.present.Changes.{appends-change, appends-alone, withdraws-change, withdraws-alone, sets-change, sets-alone, window-change, window-alone, adds-change, adds-alone, ends-change, ends-alone, corrects-change, corrects-alone, advances-change, advances-alone, step-made, step-refused}
use Rattle.smq_present.proofs.laws.present.steps_are_plain_changes.Goals as goal

pub returns : goal.returns
returns c = record {
  appends = appends-change;
  alone = appends-alone;
  withdraws = withdraws-change;
  alone_withdrawn = withdraws-alone;
  sets_form = sets-change;
  alone_form = sets-alone;
  sets_window = window-change;
  alone_window = window-alone;
  adds_route = adds-change;
  alone_added = adds-alone;
  ends_route = ends-change;
  alone_ended = ends-alone;
  corrects_route = corrects-change;
  alone_corrected = corrects-alone;
  advances = advances-change;
  alone_advanced = advances-alone;
  made = step-made;
  refused = step-refused;
}
