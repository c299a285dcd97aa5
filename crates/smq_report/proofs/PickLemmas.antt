-- The pick of a name: a view's, or else a list's.
use Rattle.std.proofs.Common.{ℕ, ◌≡◌, ◌∙◌, ◌++◌, [], ◌∷◌, Bool, List, Option, Some, None, ap, cond, false, map, refl, sym, true}
use Rattle.std.specs.Prelude.{find, option_map}
use Rattle.std.specs.Option.{option_or}
use Rattle.std.specs.Str.{bytes_eq}
use Rattle.smq_tally.specs.Lists.{lists}
use Rattle.smq_tally.specs.Names.{list_name, view_name}
use Rattle.smq_tally.specs.Rows.{views}
use Rattle.smq_tally.specs.declared.list.List as l
use Rattle.smq_tally.specs.declared.view.View.{View}
use Rattle.smq_report.specs.declared.pick.Pick.{Pick}
use Rattle.smq_report.specs.declared.pick.Pick.TheVariants as pick
use Rattle.smq_report.specs.Picks.{is_named, picks}

abbrev pub view_of : List ℕ → List View → Option View
view_of text = find (λ view. bytes_eq (view_name view) text)

abbrev pub list_of : List ℕ → List l.List → Option l.List
list_of text = find (λ list. bytes_eq (list_name list) text)

-- among views, and then other picks
find-views : (text : List ℕ) (all : List View) (others : List Pick) → find (is_named text) (map pick.View all ++ others)
    ≡ option_or (option_map pick.View (view_of text all)) (find (is_named text) others)
find-views text [] others = refl
find-views text (view ∷ all) others = by (bytes_eq (view_name view) text) (find-views text all others)
  where
    by : (b : Bool) → find (is_named text) (map pick.View all ++ others)
        ≡ option_or (option_map pick.View (view_of text all)) (find (is_named text) others)
        → cond b (Some (pick.View view)) (find (is_named text) (map pick.View all ++ others))
        ≡ option_or (option_map pick.View (cond b (Some view) (view_of text all))) (find (is_named text) others)
    by true more = refl
    by false more = more

-- among lists
find-lists : (text : List ℕ) (all : List l.List) → find (is_named text) (map pick.List all) ≡ option_map pick.List (list_of text all)
find-lists text [] = refl
find-lists text (list ∷ all) = by (bytes_eq (list_name list) text) (find-lists text all)
  where
    by : (b : Bool) → find (is_named text) (map pick.List all) ≡ option_map pick.List (list_of text all)
        → cond b (Some (pick.List list)) (find (is_named text) (map pick.List all)) ≡ option_map pick.List (cond b (Some list) (list_of text all))
    by true more = refl
    by false more = more

-- where a view has the name
pub pick-of-view : (text : List ℕ) (found : Option View) (view : View) → found ≡ view_of text views → found ≡ Some view
    → Some (pick.View view) ≡ find (is_named text) picks
pick-of-view text found view is found_is =
    sym (find-views text views (map pick.List lists)
    ∙ ap (λ o. option_or (option_map pick.View o) (find (is_named text) (map pick.List lists))) (sym is ∙ found_is))

-- where none has it
pub pick-of-list : (text : List ℕ) (found : Option View) (listed : Option l.List) → found ≡ view_of text views → found ≡ None
    → listed ≡ list_of text lists → option_map pick.List listed ≡ find (is_named text) picks
pick-of-list text found listed is found_is listed_is =
    ap (option_map pick.List) listed_is ∙ sym (find-lists text lists)
    ∙ sym (find-views text views (map pick.List lists)
    ∙ ap (λ o. option_or (option_map pick.View o) (find (is_named text) (map pick.List lists))) (sym is ∙ found_is))
