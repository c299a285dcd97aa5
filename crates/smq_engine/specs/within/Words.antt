-- The word with which a record begins.
use Rattle.std.specs.Prelude.{ℕ, Bool, List, false}
use Rattle.std.specs.Option.{option_map_or}
use Rattle.std.specs.Str.{bytes_eq}
use Rattle.csv.specs.Records.{field_at}

-- whether a record's first field is this word
abbrev pub begins_with : List ℕ → List (List ℕ) → Bool
begins_with word fields = option_map_or (λ first. bytes_eq first word) (field_at fields 0) false
