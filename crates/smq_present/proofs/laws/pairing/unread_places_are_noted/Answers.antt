use Rattle.smq_present.proofs.lemmas.pairing.UnreadPlaces.{unreadable-places, undecodable-places, broken-places, broken-stays}
use Rattle.smq_present.proofs.laws.pairing.unread_places_are_noted.Goals as goal

pub returns-clause-unreadable : goal.returns-clause-unreadable
returns-clause-unreadable c = unreadable-places

pub returns-clause-undecodable : goal.returns-clause-undecodable
returns-clause-undecodable c = undecodable-places

pub returns-clause-broken : goal.returns-clause-broken
returns-clause-broken c = broken-places

pub returns-clause-stays : goal.returns-clause-stays
returns-clause-stays c = broken-stays
