use Rattle.std.proofs.Common.{◌≡◌, ◌+◌, ◌++◌, [], ◌∷◌, take, ap, sym, ◌∙◌}
use Rattle.std.proofs.lemmas.List.{take_more}
use Rattle.smq_present.specs.within.Said.{Says}
use Rattle.std.proofs.lemmas.Slice.Zip.{all_zipped_more}
use Rattle.smq_present.proofs.pairing.traffic.read_sessions.Goals as goal

pub loop-view-preserved : goal.loop-view-preserved
loop-view-preserved c =
    let xs = c.args.sessions.now in
    let i = c.loop-view.view-index in
    let x = c.view-item.result in
    let grown : take (i + 1) xs ≡ take i xs ++ x ∷ [] =
    take_more xs i x c.loop-view-test.true ∙ ap (λ y. take i xs ++ y ∷ []) (sym c.view-item.is) in
    rw (grown, c.in_ok-push.ensures.items)
    (all_zipped_more Says (take i xs) c.loop-view.read.items x c.in_ok-read_session.field-0
    c.loop-view.invariant c.in_ok-read_session.ensures)
