use Rattle.std.proofs.Common.{◌≡◌, List, ◌++◌, sym, subst, ◌∙◌}
use Rattle.smq_present.specs.declared.present.kept.StoredPdu.{StoredPdu}
use Rattle.smq_present.specs.present.Kept.{kept_pdus}
use Rattle.smq_present.specs.present.Present.{direction}
use Rattle.smq_book.specs.index.Pushed.{origin_at, pairing_with}
use Rattle.smq_present.specs.within.Pairs.{Rises, SubmitsAreRequests}
use Rattle.smq_book.proofs.lemmas.index.Appending.{batch-asks, batch-pairs, batch-rises}
use Rattle.smq_book.proofs.index.append.append_to.Goals as goal

pub push_all-requires-clause-rises : goal.push_all-requires-clause-rises
push_all-requires-clause-rises c =
    let s = c.args.session.now in
    let b = c.args.batch.now in
    subst (λ (ps : List StoredPdu). Rises 0 ps)
    (λ i. kept_pdus (direction (sym c.dir-dir.ensures i) s) ++ sym c.pdus.ensures i)
    (batch-rises (direction b.dir s) b c.requires.in_step)

pub push_all-requires-clause-asks : goal.push_all-requires-clause-asks
push_all-requires-clause-asks c =
    let s = c.args.session.now in
    let b = c.args.batch.now in
    subst SubmitsAreRequests
    (λ i. kept_pdus (direction (sym c.dir-dir.ensures i) s) ++ sym c.pdus.ensures i)
    (batch-asks (direction b.dir s) b c.requires.in_step)

pub returns-clause-pairs : goal.returns-clause-pairs
returns-clause-pairs c =
    let s = c.args.session.now in
    let b = c.args.batch.now in
    c.in_ok-push_all.ensures.pairs
    ∙ (λ i. pairing_with (origin_at (c.session-number.ensures i) s.link) (c.dir-dir.ensures i) (kept_pdus s.client) (kept_pdus s.centre)
    (c.pdus.ensures i))
    ∙ batch-pairs s b c.requires.in_step
