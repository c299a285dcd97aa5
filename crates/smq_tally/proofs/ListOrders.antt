-- The derived order of listed places is that of the definitions, and the places of a list stand in it, next to each other.
use Rattle.std.proofs.Common.{◌≡◌, true, false, cond, List, [], ◌∷◌, refl, subst, sym, ap, ◌∙◌, rules}
use Rattle.std.specs.Prelude.{map, filter}
use Rattle.std.specs.List.Sorted.{IsStrictlySortedBy}
use Rattle.std.specs.declared.cmp.Ordering.TheVariants.{Equal}
use Rattle.std.specs.Ordering.{nat_cmp, ordering_then, is_eq, is_le}
use Rattle.std.specs.Cmp.{nat_cmp_is}
use Rattle.std.specs.Map.{keys_of}
use Rattle.std.specs.FinMap.{IsAntisymmetric, from_entries, entries, keys}
use Rattle.std.specs.FinSet.{FinSet}
use Rattle.smq_kit.specs.declared.place.Place.{Place}
use Rattle.smq_kit.specs.Orders.{least_place, place_cmp}
use Rattle.smq_kit.proofs.Ordered as ordered
use Rattle.smq_kit.proofs.PlaceOrders.{least-le, place-order}
use Rattle.smq_kit.proofs.Comparisons.{then_least}
use Rattle.smq_tally.specs.declared.list.List as l
use Rattle.smq_tally.specs.declared.list.List.TheVariants as v
use Rattle.smq_tally.specs.declared.list.Listed.{Listed}
use Rattle.smq_tally.specs.contracts.list.ListOrd.TheImpl as list_ord
use Rattle.smq_tally.specs.contracts.list.ListOrd.TheImpl.Laws as list_laws
use Rattle.smq_tally.specs.Lists.{lists, list_rank, listed_cmp, in_list}
use Rattle.smq_tally.specs.Tables.{TablesValue, listed_in}
use Rattle.smq_tally.specs.within.Keys.{in_lists, listed_key_exact}
use Rattle.smq_tally.specs.within.ListOrder.{kept_listed_cmp, listed_total, first_in}
use Rattle.smq_tally.proofs.Parts.{part-sorted, then_next}
use Rattle.smq_tally.proofs.Runs.{Parted}

-- ---- the derived orders are those of the definitions, and what compares equal is one

list-order : (a b : l.List) → (list_ord.ghosts).cmp a b ≡ nat_cmp (list_rank a) (list_rank b)
list-order v.Waiting b = search rules
list-order a b = search rules

pub listed-order : kept_listed_cmp ≡ listed_cmp
listed-order = λ i a b. ordering_then (list-order a.list b.list i) (place-order i a.place b.place)

pub same_list : (a b : l.List) → list_rank a ≡ list_rank b → a ≡ b
same_list a b e = (in_lists a b).0 (list_laws.matches_eq-law a b ∙ ap is_eq (list-order a b ∙ sym (nat_cmp_is _ _ Equal e)))

pub listed_exact : IsAntisymmetric listed_cmp
listed_exact a b e = listed_key_exact a b ((λ i. listed-order i a b) ∙ e)

-- ---- the places of a list

-- a set's entries: a listed place with nothing
abbrev pub Entries : Type 0
Entries = List (Listed × Unit {0})

-- they are those of the entries of the list
pub places-of : (list : l.List) (es : Entries)
    → map (λ e. e.0.place) (filter (λ e. in_list list e.0) es) ≡ map (λ e. e.place) (filter (in_list list) (keys_of es))
places-of list [] = refl
places-of list (e ∷ es) =
    elim (in_list list e.0) as (λ b. map (λ x. x.0.place) (cond b (e ∷ filter (λ x. in_list list x.0) es)
    (filter (λ x. in_list list x.0) es))
    ≡ map (λ x. x.place) (cond b (e.0 ∷ filter (in_list list) (keys_of es)) (filter (in_list list) (keys_of es)))) [
      | true ↦ ap (λ (ps : List Place). e.0.place ∷ ps) (places-of list es)
      | false ↦ places-of list es
    ]

pub places_sorted : (t : TablesValue) (list : l.List) → IsStrictlySortedBy place_cmp (listed_in t list)
places_sorted t list =
    subst (λ (ps : List Place). IsStrictlySortedBy place_cmp ps) (places-of list (entries t.places))
    (part-sorted listed_cmp (λ e. in_list list e.0) (λ e. e.0.place) place_cmp
    (λ d e. then_next (list_rank d.0.list) (list_rank e.0.list) (list_rank list) (place_cmp d.0.place e.0.place)) t.places)

-- entries in order are those of the set that they make
pub places-seen : (es : Entries) → IsStrictlySortedBy kept_listed_cmp (keys_of es) → entries (from_entries {R = listed_cmp} es) ≡ es
places-seen es s = ordered.entries-kept listed_total listed_exact listed-order es s

-- ---- where a list begins and ends in the code's set

pub list_parts : Parted kept_listed_cmp lists list_rank (λ q. q.list) first_in
list_parts = record {
  counted = search rules;
  placed = λ list. search rules;
  begins = λ list q. (λ i. is_le (listed-order i (first_in list) q))
      ∙ then_least (nat_cmp (list_rank list) (list_rank q.list)) (place_cmp least_place q.place) (least-le q.place);
  own = λ list. refl;
}

-- the code's places of a list are those of the tables
pub list-whole : (t : TablesValue) (list : l.List) (es : Entries) → from_entries es ≡ t.places
    → IsStrictlySortedBy kept_listed_cmp (keys_of es)
    → map (λ e. e.0.place) (filter (λ e. in_list list e.0) es) ≡ listed_in t list
list-whole t list es is sorted =
    places-of list es
    ∙ (λ i. map (λ e. e.place) (filter (in_list list) (keys_of (sym (places-seen es sorted) i))))
    ∙ ap (λ (s : FinSet listed_cmp). map (λ e. e.place) (filter (in_list list) (keys s))) is
