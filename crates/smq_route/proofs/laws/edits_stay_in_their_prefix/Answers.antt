use Rattle.smq_route.proofs.Elsewhere.{put-elsewhere, changed-elsewhere}
use Rattle.smq_route.proofs.laws.edits_stay_in_their_prefix.Goals as goal

pub returns : goal.returns
returns c = record {
  adds = λ m p f route network number t other. put-elsewhere m p f _ number t other;
  changes = changed-elsewhere;
}
