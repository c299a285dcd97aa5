use Rattle.std.proofs.Common.{◌≡◌, [], ◌∷◌, ◌++◌, Option, ap, ◌∙◌, refl}
use Rattle.smq_kit.specs.declared.place.Dir.TheVariants.{FromClient, FromCentre}
use Rattle.smq_kit.specs.declared.refusal.Refusal.TheVariants.{OutOfStep}
use Rattle.smq_frame.specs.Framing.{rest_of, rest_within}
use Rattle.smq_frame.specs.Stream.{handed_in}
use Rattle.smq_frame.specs.Tail.{tail_from}
use Rattle.smq_present.specs.declared.present.edit.Edit.{Edit}
use Rattle.smq_present.specs.declared.present.session.Session.{Session}
use Rattle.smq_present.specs.known.Present.{one_octet, waiting, one_more}
use Rattle.smq_present.specs.present.Present.{PresentValue, octets_in, octets_of}
use Rattle.smq_present.specs.present.Steps.{step, change}
use Rattle.smq_present.specs.present.Stream.{last_moment}
use Rattle.smq_present.proofs.lemmas.present.Changes.{appends-change, step-made, step-refused}
use Rattle.smq_present.proofs.lemmas.present.OneOctet.{batch, at_ten, reply_at_ten}
use Rattle.smq_present.proofs.laws.present.octets_are_put_after_their_direction.Goals as goal

more : Edit
more = one_more 1 10 FromClient (waiting 1 (0 ∷ [])) 2000

made : step one_octet more ≡ change one_octet more
unfolding more tail_from rest_of rest_within last_moment
made = step-made one_octet more (reply_at_ten 1 FromClient (waiting 1 (0 ∷ [])) 2000)

pub returns : goal.returns
unfolding more tail_from rest_of rest_within last_moment
returns c =
    let appends = appends-change one_octet (batch 1 10 FromClient (waiting 1 (0 ∷ [])) 2000) in
    record {
      grown = ap (λ (p : PresentValue). octets_of p 10 FromClient) made ∙ appends.grown
          ∙ ap (λ (o : Option Session). octets_in FromClient o ++ handed_in 2000 (0 ∷ [])) at_ten;
      other_direction = ap (λ (p : PresentValue). octets_of p 10 FromCentre) made ∙ appends.other_direction FromCentre (λ h. cc)
          ∙ ap (octets_in FromCentre) at_ten;
      stale = step-refused one_octet (one_more 1 10 FromClient (waiting 0 []) 2000) (OutOfStep 1) (reply_at_ten 1 FromClient (waiting 0 []) 2000);
      last = refl;
      no_last = refl;
    }
