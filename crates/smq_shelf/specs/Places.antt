-- Entries of which some are vacant: their key was taken out since the map was last settled.
use Rattle.std.specs.Prelude.{List, [], ◌∷◌, Option, Some, None}

-- es, after k with its value where it has one
abbrev pub with_place : {K V : Type 0} → K → Option V → List (K × V) → List (K × V)
with_place k None es = es
with_place k (Some v) es = (k, v) ∷ es

-- the entries whose place is not vacant
abbrev pub content_of : {K V : Type 0} → List (K × Option V) → List (K × V)
content_of [] = []
content_of (e ∷ es) = with_place e.0 e.1 (content_of es)

-- the places of entries, of which none is vacant
abbrev pub places_of : {K V : Type 0} → List (K × V) → List (K × Option V)
places_of [] = []
places_of (e ∷ es) = (e.0, Some e.1) ∷ places_of es
