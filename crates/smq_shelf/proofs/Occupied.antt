-- Places of which none is vacant are those of their content.
use Rattle.std.proofs.Common.{◌≡◌, List, [], ◌∷◌, Option, Some, None, refl, ap, Ordering}
use Rattle.std.specs.Prelude.{IsSome}
use Rattle.std.proofs.lemmas.Bool.{false≢true}
use Rattle.std.specs.List.{AllByRecursion}
use Rattle.smq_shelf.specs.Places.{content_of, places_of, with_place}
use Rattle.smq_shelf.specs.within.Undoing.{IsKept, Logged}

places_of-content_of : {K V : Type 0} (es : List (K × Option V)) → AllByRecursion (λ e. IsSome e.1) es → es ≡ places_of (content_of es)
places_of-content_of [] h = refl
places_of-content_of {K} {V} (e ∷ es) h = at e.1 h.0 (places_of-content_of es h.1)
  where
    at : (x : Option V) → IsSome x → es ≡ places_of (content_of es) → (e.0, x) ∷ es ≡ places_of (with_place e.0 x (content_of es))
    at None s i = absurd (false≢true s)
    at (Some v) s i = ap (λ (t : List (K × Option V)). (e.0, Some v) ∷ t) i

-- with no change in the log, no place is vacant
pub places-settled : {K V : Type 0} {cmp : K → K → Ordering} (log : List (Logged K V)) (es : List (K × Option V)) → log ≡ [] → IsKept cmp log es → es ≡ places_of (content_of es)
places-settled log es n k = places_of-content_of es (rw n at k.undoable)
