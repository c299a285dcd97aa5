-- The names by which views and lists are asked for.
use Rattle.std.specs.Prelude.{Bool, ℕ, List, ◌++◌, map, false, Option, Some, None}
use Rattle.std.specs.Option.{option_map_or}
use Rattle.std.specs.Str.{bytes_eq}
use Rattle.smq_tally.specs.Lists.{lists}
use Rattle.smq_tally.specs.Names.{list_name, view_name}
use Rattle.smq_tally.specs.Rows.{views}
use Rattle.smq_report.specs.declared.pick.Pick.{Pick}
use Rattle.smq_report.specs.declared.pick.Pick.TheVariants as pick

-- the views and lists, in the order of reports
abbrev pub picks : List Pick
picks = map pick.View views ++ map pick.List lists

-- the name of a view or a list; the whole report has none
abbrev pub pick_name : Pick → Option (List ℕ)
pick_name pick.All = None
pick_name (pick.View view) = Some (view_name view)
pick_name (pick.List list) = Some (list_name list)

-- the names of views and lists
abbrev pub pick_names : List (List ℕ)
pick_names = map view_name views ++ map list_name lists

-- whether a pick has this name
abbrev pub is_named : List ℕ → Pick → Bool
is_named text pick = option_map_or (λ name. bytes_eq name text) (pick_name pick) false
