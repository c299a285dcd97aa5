use Rattle.std.proofs.Common.{List, sym, subst}
use Rattle.smq_present.specs.declared.present.kept.StoredPdu.{StoredPdu}
use Rattle.smq_present.specs.within.Pairs.{Rises}
use Rattle.smq_present.proofs.lemmas.pairing.PlacesRise.{kept-rise}
use Rattle.smq_present.proofs.pairing.sides.sides_of.Goals as goal

pub of-requires : goal.of-requires
of-requires c = subst (λ (ps : List StoredPdu). Rises 0 ps) (sym c.pdus-client.ensures) (kept-rise c.args.session.now.client)

pub of-requires-2 : goal.of-requires-2
of-requires-2 c = subst (λ (ps : List StoredPdu). Rises 0 ps) (sym c.pdus-centre.ensures) (kept-rise c.args.session.now.centre)
