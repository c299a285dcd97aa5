-- At which keys a message stands, and in which lists.
use Rattle.std.proofs.Common.{◌≡◌, ◌≢◌, suc, Bool, ◌||◌, true, false, ◌⊎◌, inl, inr, List, [], ◌∷◌, ◌++◌, Option, Some, None, subst, refl, sym, ap, ◌∙◌, rules}
use Rattle.std.specs.Prelude.{◌↔◌, take, drop, Contains, IsTrue, option_map, option_to_list}
use Rattle.std.specs.List.{list_any}
use Rattle.std.specs.Cmp.{eq_by_cmp_equiv}
use Rattle.std.specs.FinMap.{FinMap, contains_key, values}
use Rattle.std.specs.FinSet.{FinSet}
use Rattle.std.proofs.Math.Bool.{or-false, or-true}
use Rattle.std.proofs.lemmas.Bool.{false≢true}
use Rattle.std.proofs.lemmas.List.Folds.{Any-from_list_any, list_any-append, list_any_at}
use Rattle.std.proofs.lemmas.Map.Views.{tells_apart}
use Rattle.smq_kit.specs.declared.place.Place.{Place}
use Rattle.smq_kit.specs.Orders.{place_cmp}
use Rattle.smq_tally.specs.declared.fact.CountKey.{CountKey}
use Rattle.smq_tally.specs.declared.fact.Fact.{Fact}
use Rattle.smq_tally.specs.declared.list.List as l
use Rattle.smq_tally.specs.declared.list.List.TheVariants as lists_of
use Rattle.smq_tally.specs.declared.outcome.Outcome.{Outcome}
use Rattle.smq_tally.specs.declared.outcome.Outcome.TheVariants as o
use Rattle.smq_tally.specs.declared.value.Value.{Value}
use Rattle.smq_tally.specs.declared.view.View.{View}
use Rattle.smq_tally.specs.declared.view.View.TheVariants as v
use Rattle.smq_tally.specs.Lists.{listed, listed_cmp, listings_by, HasOutcomeAt}
use Rattle.smq_tally.specs.Rows.{views, view_rank, value_in, count_key, same_count_key, key_in, stands_in}
use Rattle.smq_tally.specs.Tables.{tables_of, listed_in}
use Rattle.smq_tally.specs.within.CountOrder.{count_keys_total}
use Rattle.smq_tally.specs.within.ListOrder.{lists, listed_total, same_listed}
use Rattle.smq_tally.proofs.CountOrders.{count_keys_exact}
use Rattle.smq_tally.proofs.ListOrders.{listed_exact}
use Rattle.smq_tally.proofs.Listings.{listed-iff}
use Rattle.smq_tally.proofs.ListedFacts.{places-have}
use Rattle.smq_tally.proofs.Tallies.{Others, keys_in, others-none}

-- ---- keys

-- a key is among those of its own view, or of none
at-own : (q : CountKey) (f : Fact) (before : List View) (view : View) (after : List View) → Others q before → Others q after
    → list_any (same_count_key q) (keys_in f (before ++ view ∷ after)) ≡ list_any (same_count_key q) (option_to_list (key_in view f))
at-own q f [] view after h k =
    list_any-append (same_count_key q) (option_to_list (key_in view f)) (keys_in f after)
    ∙ ap (λ b. list_any (same_count_key q) (option_to_list (key_in view f)) || b) ((others-none q f after k).1)
    ∙ or-false (list_any (same_count_key q) (option_to_list (key_in view f)))
at-own q f (w ∷ ws) view after h k =
    list_any-append (same_count_key q) (option_to_list (key_in w f)) (keys_in f (ws ++ view ∷ after))
    ∙ (λ i. none i || at-own q f ws view after h.1 k i)
  where
    none : list_any (same_count_key q) (option_to_list (key_in w f)) ≡ false
    none = sym (list_any-append (same_count_key q) (option_to_list (key_in w f)) []
        ∙ or-false (list_any (same_count_key q) (option_to_list (key_in w f)))) ∙ (others-none q f (w ∷ []) (h.0, tt)).1

stands-own : (f : Fact) (view : View) (value : Value) (outcome : Outcome) → stands_in (count_key view value outcome) f
    ≡ list_any (same_count_key (count_key view value outcome)) (option_to_list (key_in view f))
stands-own f v.Link value outcome = at-own (count_key v.Link value outcome) f [] v.Link (drop 1 views) (search rules) (search rules)
stands-own f view value outcome =
    at-own (count_key view value outcome) f (take (view_rank view) views) view (drop (suc (view_rank view)) views)
    (search rules) (search rules)

-- a test of one key, where there is one
by-value : (view : View) (own : Option Value) (at : Outcome) (value : Value) (outcome : Outcome)
    → IsTrue (list_any (same_count_key (count_key view value outcome)) (option_to_list (option_map (λ x. count_key view x at) own)))
    ↔ ((own ≡ Some value) × (at ≡ outcome))
by-value view None at value outcome = (λ h. absurd (false≢true h), λ e. absurd (let none : None ≡ Some value = e.0 in cc))
by-value view (Some x) at value outcome = (
  λ h.
      let same : count_key view value outcome ≡ count_key view x at =
      tells_apart count_keys_exact _ _ (sym (or-false (same_count_key (count_key view value outcome) (count_key view x at)))
      ∙ h) in
      (λ i. Some ((sym same i).value), λ i. (sym same i).outcome),
  λ e.
      let own : x ≡ value = let s : Some x ≡ Some value = e.0 in cc in
      or-false (same_count_key (count_key view value outcome) (count_key view x at))
      ∙ (λ i. same_count_key (count_key view value outcome) (count_key view (own i) (e.1 i)))
      ∙ (eq_by_cmp_equiv count_keys_total).refl (count_key view value outcome),
)

-- a message stands at the key of its own value in a view and its own outcome
pub stands_once : (f : Fact) (view : View) (value : Value) (outcome : Outcome) → IsTrue (stands_in (count_key view value outcome) f)
    ↔ ((value_in view f ≡ Some value) × (f.outcome ≡ outcome))
stands_once f view value outcome =
    let one = by-value view (value_in view f) f.outcome value outcome in
    (λ h. one.0 (sym (stands-own f view value outcome) ∙ h), λ e. stands-own f view value outcome ∙ one.1 e)

-- ---- lists

-- what passes a test is in the list
some-passes : (p : Fact → Bool) (fs : List Fact) → list_any p fs ≡ true → (f : Fact) × (Contains fs f × (p f ≡ true))
some-passes p fs h = let one = Any-from_list_any p fs h in (one.1, ((one.0, one.2, one.3), one.4))

-- the outcome for which a message stands in a list
abbrev Fits : l.List → Outcome → Type 0
Fits list outcome = ((list ≡ lists_of.Open) × (outcome ≡ o.Open)) ⊎ ((list ≡ lists_of.Lapsed) × (outcome ≡ o.Lapsed))

one-place : (list : l.List) (place : Place) (own : l.List) (at : Place)
    → list_any (same_listed (listed list place)) (listed own at ∷ []) ≡ true → (list ≡ own) × (at ≡ place)
one-place list place own at h =
    let same : listed list place ≡ listed own at =
    tells_apart listed_exact _ _ (sym (or-false (same_listed (listed list place) (listed own at))) ∙ h) in
    (λ i. (same i).list, λ i. (sym same i).place)

by-outcome : (list : l.List) (place : Place) (outcome : Outcome) (at : Place)
    → list_any (same_listed (listed list place)) (listings_by outcome at) ≡ true → Fits list outcome × (at ≡ place)
by-outcome list place o.Open at h = let e = one-place list place lists_of.Open at h in (inl (e.0, refl), e.1)
by-outcome list place o.Lapsed at h = let e = one-place list place lists_of.Lapsed at h in (inr (e.0, refl), e.1)
by-outcome list place _ at h = absurd (false≢true h)

is-open : (outcome : Outcome) → Fits lists_of.Open outcome → outcome ≡ o.Open
is-open outcome (inl h) = h.1
is-open outcome (inr h) = absurd (let clash : lists_of.Open ≡ lists_of.Lapsed = h.0 in cc)

is-lapsed : (outcome : Outcome) → Fits lists_of.Lapsed outcome → outcome ≡ o.Lapsed
is-lapsed outcome (inl h) = absurd (let clash : lists_of.Lapsed ≡ lists_of.Open = h.0 in cc)
is-lapsed outcome (inr h) = h.1

is-neither : {A : Type 0} (list : l.List) (outcome : Outcome) → list ≢ lists_of.Open → list ≢ lists_of.Lapsed → Fits list outcome → A
is-neither list outcome other never (inl h) = absurd (other h.0)
is-neither list outcome other never (inr h) = absurd (never h.0)

-- a place in a list is noted there, or a message's
in-list : (facts : FinMap place_cmp Fact) (notes : FinSet listed_cmp) (list : l.List) (place : Place)
    → Contains (listed_in (tables_of facts notes) list) place
    → IsTrue (contains_key notes (listed list place)) ⊎ ((f : Fact) × (Contains (values facts) f × (Fits list f.outcome × (f.place ≡ place))))
in-list facts notes list place h =
    let either : (contains_key notes (listed list place) || list_any (lists (listed list place)) (values facts)) ≡ true =
    sym (places-have facts notes (listed list place)) ∙ (listed-iff (tables_of facts notes) list place).0 h in
    elim (contains_key notes (listed list place)) as (λ b. (b || list_any (lists (listed list place)) (values facts)) ≡ true
    → IsTrue b ⊎ ((f : Fact) × (Contains (values facts) f × (Fits list f.outcome × (f.place ≡ place))))) [
      | true ↦ λ _. inl refl
      | false ↦ λ some.
          let one = some-passes (lists (listed list place)) (values facts) some in
          inr (one.0, (one.1.0, by-outcome list place one.0.outcome one.0.place one.1.1))
    ] either

-- what is noted is in its list
pub noted-in : (facts : FinMap place_cmp Fact) (notes : FinSet listed_cmp) (list : l.List) (place : Place)
    → IsTrue (contains_key notes (listed list place)) → Contains (listed_in (tables_of facts notes) list) place
noted-in facts notes list place h =
    (listed-iff (tables_of facts notes) list place).1 (places-have facts notes (listed list place)
    ∙ ap (λ b. b || list_any (lists (listed list place)) (values facts)) h)

-- a message's place is in the list of its outcome
message-in : (facts : FinMap place_cmp Fact) (notes : FinSet listed_cmp) (list : l.List) (f : Fact) → Contains (values facts) f
    → lists (listed list f.place) f ≡ true → Contains (listed_in (tables_of facts notes) list) f.place
message-in facts notes list f h e =
    (listed-iff (tables_of facts notes) list f.place).1
    (places-have facts notes (listed list f.place)
    ∙ ap (λ b. contains_key notes (listed list f.place) || b)
    (list_any_at (lists (listed list f.place)) (values facts) h.0 f h.1 (ap (lists (listed list f.place)) h.2 ∙ e))
    ∙ or-true (contains_key notes (listed list f.place)))

-- one of an outcome stands at its place
stands-at : (list : l.List) (outcome : Outcome) → (f : Fact) → f.outcome ≡ outcome
    → list_any (same_listed (listed list f.place)) (listings_by outcome f.place) ≡ true → lists (listed list f.place) f ≡ true
stands-at list outcome f e h = ap (λ (x : Outcome). list_any (same_listed (listed list f.place)) (listings_by x f.place)) e ∙ h

found-in : (facts : FinMap place_cmp Fact) (notes : FinSet listed_cmp) (list : l.List) (outcome : Outcome) (place : Place)
    → ((at : Place) → list_any (same_listed (listed list at)) (listings_by outcome at) ≡ true) → HasOutcomeAt facts outcome place
    → Contains (listed_in (tables_of facts notes) list) place
found-in facts notes list outcome place h has =
    let f = has.0 in
    subst (λ (p : Place). Contains (listed_in (tables_of facts notes) list) p) has.2
    (message-in facts notes list f has.1 (stands-at list outcome f has.3 (h f.place)))

itself : (list : l.List) (place : Place) → list_any (same_listed (listed list place)) (listed list place ∷ []) ≡ true
itself list place = or-false (same_listed (listed list place) (listed list place)) ∙ (eq_by_cmp_equiv listed_total).refl (listed list place)

-- a place is in the list of an outcome where it is noted there or a message's
by-either : (facts : FinMap place_cmp Fact) (notes : FinSet listed_cmp) (place : Place) (list : l.List) (outcome : Outcome)
    → ((at : Place) → list_any (same_listed (listed list at)) (listings_by outcome at) ≡ true) → ((x : Outcome) → Fits list x → x ≡ outcome)
    → Contains (listed_in (tables_of facts notes) list) place
    ↔ (IsTrue (contains_key notes (listed list place)) ⊎ HasOutcomeAt facts outcome place)
by-either facts notes place list outcome own fits = (λ h. to (in-list facts notes list place h), from)
  where
    to : IsTrue (contains_key notes (listed list place))
        ⊎ ((f : Fact) × (Contains (values facts) f × (Fits list f.outcome × (f.place ≡ place))))
        → IsTrue (contains_key notes (listed list place)) ⊎ HasOutcomeAt facts outcome place
    to (inl h) = inl h
    to (inr h) = inr (h.0, h.1.0, h.1.1.1, fits h.0.outcome h.1.1.0)

    from : IsTrue (contains_key notes (listed list place)) ⊎ HasOutcomeAt facts outcome place
        → Contains (listed_in (tables_of facts notes) list) place
    from (inl h) = noted-in facts notes list place h
    from (inr h) = found-in facts notes list outcome place own h

pub open-listed : (facts : FinMap place_cmp Fact) (notes : FinSet listed_cmp) (place : Place)
    → Contains (listed_in (tables_of facts notes) lists_of.Open) place
    ↔ (IsTrue (contains_key notes (listed lists_of.Open place)) ⊎ HasOutcomeAt facts o.Open place)
open-listed facts notes place = by-either facts notes place lists_of.Open o.Open (itself lists_of.Open) is-open

pub lapsed-listed : (facts : FinMap place_cmp Fact) (notes : FinSet listed_cmp) (place : Place)
    → Contains (listed_in (tables_of facts notes) lists_of.Lapsed) place
    ↔ (IsTrue (contains_key notes (listed lists_of.Lapsed place)) ⊎ HasOutcomeAt facts o.Lapsed place)
lapsed-listed facts notes place = by-either facts notes place lists_of.Lapsed o.Lapsed (itself lists_of.Lapsed) is-lapsed

pub others-listed : (facts : FinMap place_cmp Fact) (notes : FinSet listed_cmp) (list : l.List) (place : Place)
    → list ≢ lists_of.Open → list ≢ lists_of.Lapsed
    → Contains (listed_in (tables_of facts notes) list) place ↔ IsTrue (contains_key notes (listed list place))
others-listed facts notes list place other never = (λ h. to (in-list facts notes list place h), noted-in facts notes list place)
  where
    to : IsTrue (contains_key notes (listed list place))
        ⊎ ((f : Fact) × (Contains (values facts) f × (Fits list f.outcome × (f.place ≡ place))))
        → IsTrue (contains_key notes (listed list place))
    to (inl h) = h
    to (inr h) = is-neither list h.0.outcome other never h.1.1.0
