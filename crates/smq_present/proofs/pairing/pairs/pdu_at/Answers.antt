use Rattle.std.proofs.Common.{Some, ap, sym, ◌∙◌, rules}
use Rattle.std.proofs.lemmas.List.Sorted.{answers_always}
use Rattle.smq_present.specs.declared.present.kept.StoredPdu.{StoredPdu}
use Rattle.smq_present.proofs.lemmas.pairing.Searched.{found, not_found}
use Rattle.smq_present.proofs.pairing.pairs.pdu_at.Goals as goal

pub returns-in-Ok : goal.returns-in-Ok
returns-in-Ok c =
    sym (found c.args.offset c.args.pdus.now c.in-Ok.index c.index-pdus-index.result c.requires c.in-Ok.ensures.bound
    (c.in-Ok.ensures.position (λ (p : StoredPdu). p.offset) (answers_always _ _ _ (λ f a r g called. search rules)))
    ∙ ap Some (sym c.index-pdus-index.is))

pub returns-in-Err : goal.returns-in-Err
returns-in-Err c =
    sym (not_found c.args.offset c.args.pdus.now c.in-Err.field-0 c.requires
    (c.in-Err.ensures.position (λ (p : StoredPdu). p.offset) (answers_always _ _ _ (λ f a r g called. search rules))))
