-- Numbers at places in a shelf, seen as a finite set, and how many places of a prefix are vacant as they come and go.
use Rattle.std.proofs.Common.{◌≡◌, ◌≤◌, ◌+◌, ℕ, arith, Bool, cond, List, [], ◌∷◌, Option, Some, None, refl, ap, ◌∙◌}
use Rattle.std.specs.Prelude.{IsSome, count_by, is_some}
use Rattle.std.specs.declared.cmp.Ordering.TheVariants.{Equal}
use Rattle.std.specs.List.Sorted.{IsStrictlySortedBy}
use Rattle.std.specs.Map.{keys_of, lookup, remove_entry}
use Rattle.std.specs.BTreeMap.{is_at, insert_entry}
use Rattle.std.specs.FinMap.{insert, remove}
use Rattle.std.proofs.lemmas.List.Sums.{sum_by-cons}
use Rattle.smq_shelf.specs.Places.{places_of}
use Rattle.smq_shelf.proofs.Seen as seen
use Rattle.smq_route.specs.declared.numbers.NumberAt.{NumberAt}
use Rattle.smq_route.specs.Numbers.{number_cmp}
use Rattle.smq_route.specs.Versions.{begins}
use Rattle.smq_route.specs.within.NumberKeys.{numbers_in}
use Rattle.smq_route.specs.within.NumberWalks.{Spot, vacant_numbers}
use Rattle.smq_route.proofs.NumberOrders.{numbers_exact, numbers_total}

abbrev pub Entries : Type 0
Entries = List (NumberAt × Unit {0})

pub number-put : (es fs : Entries) (k : NumberAt) (u : Unit {0}) → fs ≡ insert_entry number_cmp es k u → numbers_in fs ≡ insert (numbers_in es) k tt
number-put es fs k u put = ap numbers_in put ∙ seen.inserted numbers_total numbers_exact refl es k tt

pub number-taken : (es fs : Entries) (k : NumberAt) → IsStrictlySortedBy number_cmp (keys_of es) → fs ≡ remove_entry (is_at (number_cmp k)) es → numbers_in fs ≡ remove (numbers_in es) k
number-taken es fs k sorted took = ap numbers_in took ∙ seen.removed numbers_total numbers_exact refl es k sorted

-- ---- vacant places

module _ (prefix : List ℕ) where
  abbrev begun : List ℕ → Bool
  begun number = begins number prefix

  -- how many places of the prefix are vacant
  abbrev pub vacant : List Spot → ℕ
  vacant es = count_by begun (vacant_numbers es)

  -- what a number adds to that
  abbrev pub share : List ℕ → ℕ
  share number = cond (begun number) 1 0

  vacant_first : (k : NumberAt) (es : List Spot) → vacant ((k, None) ∷ es) ≡ share k.number + vacant es
  vacant_first k es = sum_by-cons (λ n. cond (begun n) 1 0) k.number (vacant_numbers es)

  -- one place more adds itself where it is vacant
  more : (e : Spot) (es fs : List Spot) (n : ℕ) → vacant es ≤ vacant fs + n → vacant (e ∷ es) ≤ vacant (e ∷ fs) + n
  more (k, None) es fs n h = let a = vacant_first k es in let b = vacant_first k fs in omega (arith, a, b, h)
  more (k, Some u) es fs n h = h

  less : (e : Spot) (es : List Spot) → vacant es ≤ vacant (e ∷ es)
  less (k, None) es = let a = vacant_first k es in omega (arith, a)
  less (k, Some u) es = omega arith

  -- a place that holds a number isn't vacant
  pub vacant-filled : (k : NumberAt) (u : Unit {0}) (es : List Spot) → vacant (insert_entry number_cmp es k (Some u)) ≤ vacant es
  vacant-filled k u [] = omega arith
  vacant-filled k u (e ∷ es) =
      let later = more e (insert_entry number_cmp es k (Some u)) es 0 (omega (arith, vacant-filled k u es)) in grind (arith, less e es, later)

  -- one that is taken out leaves one vacant place more at most
  pub vacant-more : (k : NumberAt) (es : List Spot) → vacant (insert_entry number_cmp es k None) ≤ vacant es + share k.number
  vacant-more k [] = let a = vacant_first k [] in omega (arith, a)
  vacant-more k (e ∷ es) =
      let same = λ (r : number_cmp k e.0 ≡ Equal). ap (λ (j : NumberAt). share j.number) (numbers_exact k e.0 r) in
      let later = more e (insert_entry number_cmp es k None) es (share k.number) (vacant-more k es) in
      grind (arith, vacant_first k (e ∷ es), vacant_first e.0 es, less e es, same, later)

  -- where it wasn't there, none is vacant that wasn't
  pub vacant-taken : (k : NumberAt) (es : Entries) (spots later : List Spot)
      → (IsSome (lookup (is_at (number_cmp k)) es) → later ≡ insert_entry number_cmp spots k None)
      → (lookup (is_at (number_cmp k)) es ≡ None → later ≡ spots)
      → vacant later ≤ vacant spots + share k.number
  vacant-taken k es spots later taken absent = by (lookup (is_at (number_cmp k)) es) refl
    where
      by : (x : Option (Unit {0})) → lookup (is_at (number_cmp k)) es ≡ x → vacant later ≤ vacant spots + share k.number
      by None is = let same = ap vacant (absent is) in omega (arith, same)
      by (Some u) is = let same = ap vacant (taken (ap is_some is)) in let more = vacant-more k spots in omega (arith, same, more)

-- where each place holds a number, none is vacant
none_vacant : (es : Entries) → vacant_numbers (places_of es) ≡ []
none_vacant [] = refl
none_vacant (e ∷ es) = none_vacant es

pub vacant-none : (spots : List Spot) (es : Entries) → spots ≡ places_of es → vacant_numbers spots ≡ []
vacant-none spots es is = ap vacant_numbers is ∙ none_vacant es
