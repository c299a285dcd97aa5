-- A change that is taken back leaves what was before.
use Rattle.std.proofs.Common.{◌≡◌, List, Option, ◌∷◌, sym, ◌∙◌}
use Rattle.smq_shelf.specs.Keeping.{Keeping}
use Rattle.smq_shelf.specs.Places.{content_of}

-- the same of a map that counts touches
pub content-back : {K V : Type 0} (old mid new : Keeping K V) → old.content ≡ content_of old.places
    → mid.past ≡ old.places ∷ old.past
    → ((p : List (K × Option V)) (ps : List (List (K × Option V))) → mid.past ≡ p ∷ ps → new.content ≡ content_of p)
    → ((p : List (K × Option V)) (ps : List (List (K × Option V))) → mid.past ≡ p ∷ ps → new.past ≡ ps)
    → (new.content ≡ old.content) × (new.past ≡ old.past)
content-back old mid new shown changed content past =
    (content old.places old.past changed ∙ sym shown, past old.places old.past changed)
