-- `==` of tables.
use Rattle.std.proofs.Common.{◌≡◌, ℕ, ◌+◌, ◌<◌, Bool, true, false, List, [], ◌∷◌, Option, Some, None, subst, get_or, refl, sym, ap, ◌∙◌, arith, rules}
use Rattle.std.proofs.Math.Bool.{and-true}
use Rattle.std.specs.Prelude.{◌&&◌, ◌==◌, Contains, map, filter, Decides, IsTrue, ◌↔◌, nat_eq}
use Rattle.std.specs.declared.cmp.Ordering.{Ordering}
use Rattle.std.specs.Ordering.{eq_by_cmp, is_eq}
use Rattle.std.specs.Cmp.{IsTotalOrder, unsigned_Decides}
use Rattle.std.specs.List.{list_any}
use Rattle.std.specs.Cmp.Lexicographic.{pointwise}
use Rattle.std.specs.FinMap.{FinMap, IsAntisymmetric, contains_key-keys, entries, get, keys, same_entries_map, same_map}
use Rattle.std.specs.FinSet.{FinSet}
use Rattle.std.specs.List.Sorted.{IsStrictlySortedBy}
use Rattle.std.specs.Map.{keys_of}
use Rattle.std.proofs.lemmas.Cmp.{eq_by_cmp_equiv}
use Rattle.std.proofs.lemmas.Bool.{eqb-true}
use Rattle.std.proofs.lemmas.Bool.Decides.{Decides-and, Decides-like, nat_tests, same_from_decides}
use Rattle.std.proofs.lemmas.Map.Views.{tells_apart}
use Rattle.std.proofs.lemmas.Slice.Eq.{slice_eq-Decides}
use Rattle.smq_tally.specs.declared.fact.CountKey.{CountKey}
use Rattle.smq_tally.specs.declared.view.View.{View}
use Rattle.smq_tally.specs.declared.list.Listed.{Listed}
use Rattle.smq_tally.specs.contracts.list.ListedOrd.TheImpl.Laws as listed_laws
use Rattle.smq_tally.specs.contracts.list.ListedPartialEq.TheImpl as listed_eq
use Rattle.smq_tally.specs.Lists.{listed_cmp}
use Rattle.smq_tally.specs.Rows.{count_cmp, same_count_key, view_rank, views}
use Rattle.smq_tally.specs.Tables.{TablesValue, ShownRow, in_view, shown_row, rows_of}
use Rattle.smq_tally.specs.within.Equal.{tables_eq, same_shown, both_eq}
use Rattle.smq_tally.specs.within.Keys.{outcomes, values}
use Rattle.smq_tally.specs.within.Kept.{places_in}
use Rattle.smq_tally.specs.within.CountOrder.{count_keys_total}
use Rattle.smq_tally.proofs.CountOrders.{count_keys_exact}
use Rattle.smq_tally.specs.within.ListOrder.{kept_listed_cmp, listed_total, same_listed}
use Rattle.smq_tally.proofs.ListOrders.{Entries, listed-order, listed_exact, places-seen}
use Rattle.smq_tally.proofs.ListedFacts.{sets-one}
use Rattle.smq_tally.proofs.Shown.{shown-iff}

listed-equal : (x y : Listed) → (listed_eq.ghosts).eq x y ≡ same_listed x y
listed-equal x y = listed_laws.matches_eq-law x y ∙ (λ i. is_eq (listed-order i x y))

-- entries of a set, compared by their keys alone
pointwise-keys : (same : Listed → Listed → Bool) (nothing : Unit {0} → Unit {0} → Bool) → ((u v : Unit {0}) → nothing u v ≡ true) → (es fs : Entries)
    → pointwise (both_eq same nothing) es fs ≡ pointwise same (keys_of es) (keys_of fs)
pointwise-keys same nothing always [] [] = refl
pointwise-keys same nothing always [] (f ∷ fs) = refl
pointwise-keys same nothing always (e ∷ es) [] = refl
pointwise-keys same nothing always (e ∷ es) (f ∷ fs) =
    (λ i. (same e.0 f.0 && always e.1 f.1 i) && pointwise-keys same nothing always es fs i)
    ∙ (λ i. and-true (same e.0 f.0) i && pointwise same (keys_of es) (keys_of fs))

-- entries of listed places that are compared one by one
pub places-told : {nothing : Unit {0} → Unit {0} → Bool} (r : Bool) (ps rs : Entries)
    → r ≡ pointwise (both_eq (listed_eq.ghosts).eq nothing) ps rs → ((u v : Unit {0}) → nothing u v ≡ true)
    → IsStrictlySortedBy kept_listed_cmp (keys_of ps) → IsStrictlySortedBy kept_listed_cmp (keys_of rs)
    → r ≡ pointwise same_listed (keys (places_in ps)) (keys (places_in rs))
places-told {nothing = nothing} r ps rs told always s t =
    told
    ∙ pointwise-keys (listed_eq.ghosts).eq nothing always ps rs
    ∙ (λ i. pointwise (λ (p q : Listed). listed-equal p q i) (keys_of ps) (keys_of rs))
    ∙ (λ i. pointwise same_listed (keys_of (sym (places-seen ps s) i)) (keys_of (sym (places-seen rs t) i)))

-- keys that compare equal are one
told_apart : {K : Type 0} {R : K → K → Ordering} → IsTotalOrder R → IsAntisymmetric R → (a b : K) → Decides (eq_by_cmp R a b) (a ≡ b)
told_apart {R = R} o exact a b = (tells_apart exact a b, λ e. ap (eq_by_cmp R a) (sym e) ∙ (eq_by_cmp_equiv o).refl a)

one_entry : (p q : CountKey × ℕ) → Decides (both_eq same_count_key nat_eq p q) (p ≡ q)
one_entry p q = Decides-like (both_eq same_count_key nat_eq p q) (λ e. λ i. (e.0 i, e.1 i)) (λ e. (ap (λ x. x.0) e, ap (λ x. x.1) e))
    (Decides-and _ _ (told_apart count_keys_total count_keys_exact p.0 q.0) (unsigned_Decides p.1 q.1))

-- rows that compare equal one by one are the same
one_shown : (p q : ShownRow) → Decides (same_shown p q) (p ≡ q)
one_shown p q = Decides-like (same_shown p q) (λ e. λ i. (e.0.0 i, e.0.1 i, e.1 i)) (λ e. ((ap (λ r. r.0) e, ap (λ r. r.1) e), ap (λ r. r.2) e))
    (Decides-and _ _ (Decides-and _ _ (values p.0 q.0) (outcomes p.1 q.1)) (unsigned_Decides p.2 q.2))

pub same-rows : (xs ys : List ShownRow) → IsTrue (pointwise same_shown xs ys) ↔ (xs ≡ ys)
same-rows xs ys = slice_eq-Decides one_shown xs ys (pointwise same_shown xs ys) refl

-- where rows of one view differ, tables don't show the same in each
pub shown_apart : (r : Bool) (t u : TablesValue) (view : View) (left right : List ShownRow) → r ≡ pointwise same_shown left right → r ≡ false
    → left ≡ rows_of t view → right ≡ rows_of u view → ((view : View) → rows_of t view ≡ rows_of u view) → false ≡ true
shown_apart r t u view left right told fails is is_other alike =
    sym fails ∙ told ∙ (same-rows left right).1 (is ∙ alike view ∙ sym is_other)

-- where they are the same in the views before one, and in that one, they are so in those before the next
pub shown_alike : (t u : TablesValue) (vs : List View) (n : ℕ) (d : View) (left right : List ShownRow) → vs ≡ views
    → ((view : View) → view_rank view < n → rows_of t view ≡ rows_of u view) → true ≡ pointwise same_shown left right
    → left ≡ rows_of t (get_or vs n d) → right ≡ rows_of u (get_or vs n d) → (view : View) → view_rank view < n + 1 → rows_of t view ≡ rows_of u view
shown_alike t u vs n d left right all before told is is_other view below =
    elim (view_rank view == n) as (λ b. (view_rank view == n) ≡ b → rows_of t view ≡ rows_of u view) [
      | true ↦ λ e.
          let here : get_or vs n d ≡ view = (λ i. get_or (all i) (sym (eqb-true (view_rank view) n e) i) d) ∙ again view in
          subst (λ (w : View). rows_of t w ≡ rows_of u w) here (sym is ∙ (same-rows left right).0 (sym told) ∙ is_other)
      | false ↦ λ e. before view (earlier (view_rank view) e below)
    ] refl
  where
    again : (w : View) → get_or views (view_rank w) d ≡ w
    again w = search rules

    earlier : (m : ℕ) → (m == n) ≡ false → m < n + 1 → m < n
    earlier m e below = grind (arith, nat_tests)

same_options : (a b : Option ℕ) → ((n : ℕ) → a ≡ Some n → b ≡ Some n) → ((n : ℕ) → b ≡ Some n → a ≡ Some n) → a ≡ b
same_options None None f g = refl
same_options None (Some n) f g = g n refl
same_options (Some n) b f g = sym (f n refl)

-- counts that show the same rows in each view are the same
same_counts : (t u : TablesValue) → ((view : View) → rows_of t view ≡ rows_of u view) → t.counts ≡ u.counts
same_counts t u alike = same_map count_keys_total count_keys_exact t.counts u.counts (λ q. same_options (get t.counts q) (get u.counts q)
    (λ n has. over t u q n (alike q.view) has) (λ n has. over u t q n (sym (alike q.view)) has))
  where
    over : (t u : TablesValue) (q : CountKey) (n : ℕ) → rows_of t q.view ≡ rows_of u q.view → get t.counts q ≡ Some n → get u.counts q ≡ Some n
    over t u q n e has = (shown-iff u q.view q.value q.outcome n).0
        (subst (λ (rows : List ShownRow). Contains rows (q.value, q.outcome, n)) e ((shown-iff t q.view q.value q.outcome n).1 has))

-- whether tables show the same rows says whether they have the same counts
pub counts-told : (r : Bool) (t u : TablesValue) → (IsTrue r ↔ ((view : View) → rows_of t view ≡ rows_of u view))
    → r ≡ pointwise (both_eq same_count_key nat_eq) (entries t.counts) (entries u.counts)
counts-told r t u told =
    same_from_decides r (pointwise (both_eq same_count_key nat_eq) (entries t.counts) (entries u.counts)) told
    (Decides-like (pointwise (both_eq same_count_key nat_eq) (entries t.counts) (entries u.counts))
    (λ e view. ap (λ es. map shown_row (filter (in_view view) es)) e)
    (λ alike. ap (λ (m : FinMap count_cmp ℕ). entries m) (same_counts t u alike))
    (slice_eq-Decides one_entry (entries t.counts) (entries u.counts) _ refl))

-- sets with the same listed places are one
same_places : (s t : FinSet listed_cmp) → keys s ≡ keys t → s ≡ t
same_places s t e = sets-one s t (λ q. contains_key-keys s q ∙ ap (list_any (same_listed q)) e ∙ sym (contains_key-keys t q))

pub equal-same : (t u : TablesValue) → IsTrue (tables_eq t u) ↔ (t ≡ u)
equal-same t u =
    Decides-like (tables_eq t u)
    (λ h. λ i. record { counts = same_entries_map t.counts u.counts h.0 i; places = same_places t.places u.places h.1 i })
    (λ e. (ap (λ (x : TablesValue). entries x.counts) e, ap (λ (x : TablesValue). keys x.places) e))
    (Decides-and _ _ (slice_eq-Decides one_entry (entries t.counts) (entries u.counts) _ refl)
    (slice_eq-Decides (told_apart listed_total listed_exact) (keys t.places) (keys u.places) _ refl))
