use Rattle.std.proofs.Common.{[], ◌∷◌}
use Rattle.smq_kit.specs.declared.place.Dir.TheVariants.{FromClient, FromCentre}
use Rattle.smq_frame.specs.Framing.{rest_of, rest_within}
use Rattle.smq_frame.specs.Tail.{tail_from}
use Rattle.smq_present.specs.known.Present.{waiting}
use Rattle.smq_present.specs.present.Stream.{last_moment}
use Rattle.smq_present.proofs.lemmas.present.OneOctet.{reply_at_ten, reply_at_eleven}
use Rattle.smq_present.proofs.laws.present.replies_stand_in_order.Goals as goal

pub returns : goal.returns
unfolding tail_from rest_of rest_within last_moment
returns c = record {
  other_link = reply_at_ten 2 FromClient (waiting 0 []) 999;
  out_of_step = reply_at_ten 1 FromClient (waiting 0 []) 999;
  other_rest = reply_at_ten 1 FromClient (waiting 1 (1 ∷ [])) 1000;
  backward = reply_at_ten 1 FromClient (waiting 1 (0 ∷ [])) 999;
  in_order = reply_at_ten 1 FromClient (waiting 1 (0 ∷ [])) 1000;
  other_direction = reply_at_ten 1 FromCentre (waiting 0 []) 0;
  other_session = reply_at_eleven 2 FromClient (waiting 0 []) 0;
  other_session_stale = reply_at_eleven 2 FromClient (waiting 1 (0 ∷ [])) 0;
}
