-- What stands in tables of facts and notes that are written out.
use Rattle.std.proofs.Common.{◌≡◌, List, [], ◌∷◌, ◌++◌, ap, ◌∙◌}
use Rattle.std.specs.Prelude.{map, filter, count_by}
use Rattle.std.specs.List.{flat_map}
use Rattle.std.specs.declared.cmp.Ordering.{Ordering}
use Rattle.std.specs.Cmp.{IsTotalOrder}
use Rattle.std.specs.FinMap.{entries, values, from_entries, entries-insert}
use Rattle.std.specs.FinMap.Entries.{put}
use Rattle.smq_kit.specs.declared.place.Place.{Place}
use Rattle.smq_kit.specs.Orders.{place_cmp}
use Rattle.smq_kit.proofs.PlaceOrders.{places_total}
use Rattle.smq_tally.specs.declared.fact.CountKey.{CountKey}
use Rattle.smq_tally.specs.declared.fact.Fact.{Fact}
use Rattle.smq_tally.specs.declared.list.List as l
use Rattle.smq_tally.specs.declared.list.Listed.{Listed}
use Rattle.smq_tally.specs.Lists.{listed_cmp, listed_set, listings_of_fact, in_list}
use Rattle.smq_tally.specs.Rows.{stands_in}
use Rattle.smq_tally.specs.Tables.{tables_of, listed_in}
use Rattle.smq_tally.specs.within.Counting.{count_of}
use Rattle.smq_tally.specs.within.ListOrder.{listed_total}
use Rattle.smq_tally.proofs.Tallies.{count-tables}
use Rattle.smq_tally.proofs.Undone.{no-entries}

-- entries, each put into its place
abbrev pub in_order : {K X : Type 0} → (K → K → Ordering) → List (K × X) → List (K × X)
in_order R [] = []
in_order R (e ∷ es) = put R e.0 e.1 (in_order R es)

entries-in_order : {K X : Type 0} {R : K → K → Ordering} (o : IsTotalOrder R) (es : List (K × X)) → entries (from_entries {R = R} es) ≡ in_order R es
entries-in_order {K} {X} {R} o [] = no-entries R X
entries-in_order {K} {X} {R} o (e ∷ es) = entries-insert o (from_entries {R = R} es) e.0 e.1 ∙ ap (put R e.0 e.1) (entries-in_order o es)

-- the listed places, each put into its place
abbrev pub places_in_order : List Listed → List Listed
places_in_order es = map (λ x. x.0) (in_order {X = Unit {0}} listed_cmp (map (λ e. (e, tt)) es))

module _ (es : List (Place × Fact)) (notes : List Listed) where
  -- the facts, in the order of their places
  abbrev facts : List Fact
  facts = map (λ e. e.1) (in_order place_cmp es)

  have : values (from_entries {R = place_cmp} es) ≡ facts
  have = ap (λ xs. map (λ e. e.1) xs) (entries-in_order places_total es)

  -- a count is that of the facts
  pub counted-at : (key : CountKey) → count_of (tables_of (from_entries es) (listed_set notes)) key ≡ count_by (stands_in key) facts
  counted-at key = count-tables (from_entries es) (listed_set notes) key ∙ ap (count_by (stands_in key)) have

  -- a list has its places
  pub listed-at : (list : l.List) → listed_in (tables_of (from_entries es) (listed_set notes)) list
      ≡ map (λ e. e.place) (filter (in_list list) (places_in_order (places_in_order notes ++ flat_map listings_of_fact facts)))
  listed-at list =
      ap (λ xs. map (λ e. e.place) (filter (in_list list) (map (λ x. x.0) xs)))
      (entries-in_order listed_total (map (λ e. (e, tt)) (map (λ x. x.0) (entries (listed_set notes))
      ++ flat_map listings_of_fact (values (from_entries {R = place_cmp} es)))))
      ∙ (λ i. map (λ e. e.place) (filter (in_list list)
      (places_in_order (map (λ x. x.0) (entries-in_order listed_total (map (λ (e : Listed). (e, tt)) notes) i)
      ++ flat_map listings_of_fact (have i)))))
