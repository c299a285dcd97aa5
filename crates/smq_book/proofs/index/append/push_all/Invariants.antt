-- What is held and paired is what the PDUs so far leave of it.
use Rattle.std.proofs.Common.{◌≡◌, ◌≤◌, ◌+◌, take}
use Rattle.std.specs.List.{sum_by}
use Rattle.smq_book.specs.index.Held.{held_now, held_settled, traffic_held}
use Rattle.smq_book.specs.index.Touches.{HasNoneVacant, MembersCome, RisesWithFacts, index_cost, pairing_cost, pdu_load}
use Rattle.smq_book.specs.index.Pushed.{IsHeldAfter, IsSaidBy, centre_with, client_with, origin_at, pairing_with, pushed_moves}
use Rattle.smq_present.specs.present.Kept.{kept_pdus}
use Rattle.smq_present.specs.within.Pairs.{from_session}
use Rattle.smq_book.proofs.index.append.push_all.Given as goal

abbrev pub invariant-loop-pdu : goal.invariant-loop-pdu
invariant-loop-pdu l = record {
  held : IsHeldAfter l.settings (held_now l.initial.index)
      (pushed_moves (origin_at l.number l.session.link) l.dir (kept_pdus l.session.client) (kept_pdus l.session.centre) (take l.pdu-index l.pdus))
      (held_now l.index);
  said : IsSaidBy (origin_at l.number l.session.link) (client_with l.dir (kept_pdus l.session.client) (take l.pdu-index l.pdus))
      (centre_with l.dir (kept_pdus l.session.centre) (take l.pdu-index l.pdus)) (traffic_held (held_now l.index));
  pairs : l.pairing.pdus ≡ pairing_with (origin_at l.number l.session.link) l.dir (kept_pdus l.session.client) (kept_pdus l.session.centre)
      (take l.pdu-index l.pdus);
  settled : held_settled l.index ≡ held_settled l.initial.index;
  settled_pairs : l.pairing.settled ≡ l.initial.pairing.settled;
  came : MembersCome l.initial.index.groups l.index.groups;
  touches : HasNoneVacant l.initial.index.groups
      → index_cost l.index + pairing_cost l.pairing ≤ index_cost l.initial.index + pairing_cost l.initial.pairing
      + sum_by (pdu_load l.index.groups.members l.pairing.pdus (from_session l.number) l.dir) (take l.pdu-index l.pdus);
  rises : RisesWithFacts l.initial.index l.index;
  pairs_counted : l.initial.pairing.touches ≤ l.pairing.touches;
}
