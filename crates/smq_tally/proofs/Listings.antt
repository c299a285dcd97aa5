-- The places that a list shows are those that are listed there; and what a set of listed places has.
use Rattle.std.proofs.Common.{◌≡◌, Bool, ◌||◌, true, false, cond, List, [], ◌∷◌, Option, Some, None, subst, refl, sym, ap, ◌∙◌}
use Rattle.std.specs.Prelude.{◌↔◌, Contains, IsTrue, is_some}
use Rattle.std.specs.List.{list_any}
use Rattle.std.specs.FinMap.{entries, get, contains_key, get-empty, get-insert}
use Rattle.std.proofs.lemmas.Bool.{eq-eqb, eqb-true}
use Rattle.smq_kit.specs.declared.place.Place.{Place}
use Rattle.smq_tally.specs.declared.list.List as l
use Rattle.smq_tally.specs.declared.list.Listed.{Listed}
use Rattle.smq_tally.specs.Lists.{listed, listed_cmp, list_rank, in_list, listed_set}
use Rattle.smq_tally.specs.Tables.{TablesValue, listed_in}
use Rattle.smq_tally.specs.within.ListOrder.{listed_total, same_listed}
use Rattle.smq_tally.proofs.ListOrders.{listed_exact, same_list, places-of}
use Rattle.smq_tally.proofs.Parts.{part-iff}

-- what a set may have at a key is nothing
pub same_some : (x y : Option (Unit {0})) → is_some x ≡ is_some y → x ≡ y
same_some None None e = refl
same_some None (Some v) e = absurd cc
same_some (Some u) None e = absurd cc
same_some (Some u) (Some v) e = refl

-- a listed place of a list is the one that the list has at its place
listed-shown : (list : l.List) (e : Listed × Unit {0}) → in_list list e.0 ≡ true → ◌≡◌ {A = Listed × Unit {0}} (listed list e.0.place, tt) e
listed-shown list e h = λ i. (listed (same_list list e.0.list (sym (eqb-true _ _ h)) i) e.0.place, tt)

pub listed-iff : (t : TablesValue) (list : l.List) (place : Place)
    → Contains (listed_in t list) place ↔ IsTrue (contains_key t.places (listed list place))
listed-iff t list place =
    let one = part-iff listed_cmp (λ e. in_list list e.0) (λ e. e.0.place) listed_total listed_exact (λ p. (listed list p, tt))
    (listed-shown list) t.places (listed list place) tt (eq-eqb (list_rank list) (list_rank list) refl) in
    let same = places-of list (entries t.places) in (
      λ h. ap is_some (one.0 (subst (λ (ps : List Place). Contains ps place) (sym same) h)),
      λ h. subst (λ (ps : List Place). Contains ps place) same (one.1 (same_some (get t.places (listed list place)) (Some tt) h)),
    )

-- ---- what a set of listed places has

-- nothing, where a test passes
abbrev pub marked : Bool → Option (Unit {0})
marked b = cond b (Some tt) None

-- what a set of a list has at a listed place
pub get-listed : (es : List Listed) (q : Listed) → get (listed_set es) q ≡ marked (list_any (same_listed q) es)
get-listed [] q = get-empty listed_cmp q
get-listed (e ∷ es) q =
    get-insert listed_total (listed_set es) e tt q
    ∙ elim (same_listed q e) as (λ b. cond b (Some tt) (get (listed_set es) q) ≡ marked (b || list_any (same_listed q) es)) [
      | true ↦ refl
      | false ↦ get-listed es q
    ]
