-- What a record says, by its fields' places and the test of its first.
use Rattle.std.proofs.Common.{◌≡◌, List, [], ◌∷◌, ℕ, true, false, refl}
use Rattle.std.specs.Prelude.{codes, drop, find, option_map}
use Rattle.std.specs.Str.{bytes_eq}
use Rattle.csv.specs.Records.{field_at}
use Rattle.smq_load.specs.Row.{row_of}
use Rattle.smq_report.specs.Picks.{is_named, picks}
use Rattle.smq_engine.specs.Record.{SaysRow, lost_of, pick_of, question_of, record_of}
use Rattle.smq_engine.specs.within.Words.{begins_with}

-- a name that isn't `report` is a view's or a list's
pub pick_of-other : (name : List ℕ) → bytes_eq name (codes "report") ≡ false → find (is_named name) picks ≡ pick_of name
pick_of-other name h = rw h refl

pub record_of-ask : (fields : List (List ℕ)) → begins_with (codes "ask") fields ≡ true
    → record_of fields ≡ question_of (drop 1 fields)
unfolding field_at
record_of-ask [] h = cc
record_of-ask (first ∷ fields) h = rw h refl

pub record_of-lost : (fields : List (List ℕ)) → begins_with (codes "ask") fields ≡ false → begins_with (codes "lost") fields ≡ true
    → record_of fields ≡ lost_of (drop 1 fields)
unfolding field_at
record_of-lost [] h l = cc
record_of-lost (first ∷ fields) h l = rw (h, l) refl

pub record_of-row : (fields : List (List ℕ)) → begins_with (codes "ask") fields ≡ false → begins_with (codes "lost") fields ≡ false
    → record_of fields ≡ option_map SaysRow (row_of fields)
unfolding field_at
record_of-row [] h l = refl
record_of-row (first ∷ fields) h l = rw (h, l) refl
