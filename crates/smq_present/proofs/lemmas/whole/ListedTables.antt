-- The lists of receipts in the tables of what is present have the listed receipts alone.
use Rattle.std.proofs.Common.{◌≡◌, inl, inr, ℕ, zero, suc, Bool, true, false, ◌||◌, List, [], ◌∷◌, ◌++◌, refl, sym, ap, ◌∙◌, arith}
use Rattle.std.specs.Prelude.{◌↔◌, Contains, is_some}
use Rattle.std.specs.List.{flat_map, list_any}
use Rattle.std.specs.FinMap.{contains_key, contains_key-keys, entries, keys, values}
use Rattle.std.specs.Cmp.{tied_itself}
use Rattle.std.specs.Ordering.{is_eq}
use Rattle.std.proofs.lemmas.Bool.{false≢true}
use Rattle.std.proofs.lemmas.List.Elements.{Contains-append_right, Contains-append_cases}
use Rattle.smq_kit.proofs.MapLemmas as maps
use Rattle.smq_kit.specs.declared.place.Place.{Place}
use Rattle.smq_tally.specs.declared.fact.Fact.{Fact}
use Rattle.smq_tally.specs.declared.list.List as l
use Rattle.smq_tally.specs.declared.list.List.TheVariants.{StrayReceipts, AmbiguousReceipts, ExtraReceipts}
use Rattle.smq_tally.specs.declared.list.Listed.{Listed}
use Rattle.smq_tally.specs.declared.outcome.Outcome.{Outcome}
use Rattle.smq_tally.specs.declared.outcome.Outcome.TheVariants as o
use Rattle.smq_tally.specs.Lists.{listed, listed_set, listings_by, listings_of_fact}
use Rattle.smq_tally.specs.Tables.{listed_in}
use Rattle.smq_tally.specs.within.ListOrder.{listed_total, same_listed}
use Rattle.smq_tally.proofs.ListOrders.{listed_exact}
use Rattle.smq_tally.proofs.Listings.{get-listed, listed-iff}
use Rattle.smq_present.specs.declared.present.session.Session.{Session}
use Rattle.smq_present.specs.present.Present.{PresentValue}
use Rattle.smq_present.specs.pairing.Traffic.{session_notes, traffic_of}
use Rattle.smq_present.specs.join.Facts.{facts_of}
use Rattle.smq_present.specs.join.Keyed.{grouping_of}
use Rattle.smq_present.specs.join.Listings.{AllTraffic, notes_of, receipt_notes, is_traffic_list}
use Rattle.smq_group.specs.Matching.{IsStray, HasSharedKey, IsExtra}
use Rattle.smq_present.specs.whole.Scratch.{scratch}
use Rattle.smq_present.proofs.lemmas.join.ListedReceipts.{listed-stray, listed-several, listed-extra}
use Rattle.smq_present.proofs.lemmas.join.SessionLists.{both, session-lists}
use Rattle.smq_present.proofs.lemmas.whole.Tallied.{any-append, is-marked}

have-listed : (es : List Listed) (q : Listed) → contains_key (listed_set es) q ≡ list_any (same_listed q) es
have-listed es q = ap is_some (get-listed es q) ∙ is-marked (list_any (same_listed q) es)

keys-listed : (es : List Listed) (q : Listed) → list_any (same_listed q) (keys (listed_set es)) ≡ list_any (same_listed q) es
keys-listed es q = sym (contains_key-keys (listed_set es) q) ∙ have-listed es q

-- ---- one of a list

any-among : (q : Listed) (es : List Listed) → list_any (same_listed q) es ≡ true → Contains es q
any-among q [] h = absurd (false≢true h)
any-among q (e ∷ es) h = by_test (same_listed q e) refl h (any-among q es)
  where
    by_test : (b : Bool) → same_listed q e ≡ b → (b || list_any (same_listed q) es) ≡ true
        → (list_any (same_listed q) es ≡ true → Contains es q) → Contains (e ∷ es) q
    by_test true t h later = (0, omega arith, sym (maps.same_key listed_total listed_exact q e t))
    by_test false t h later = Contains-append_right (e ∷ []) es q (later h)

own : (q : Listed) → same_listed q q ≡ true
own q = ap is_eq (tied_itself listed_total q)

or_true : (a b : Bool) → b ≡ true → (a || b) ≡ true
or_true true b e = refl
or_true false b e = e

among-any : (q : Listed) (es : List Listed) → Contains es q → list_any (same_listed q) es ≡ true
among-any q [] h = absurd (omega (arith, h.1))
among-any q (e ∷ es) h =
    elim (Contains-append_cases (e ∷ []) es q h) [
      | inl here ↦ ap (λ b. b || list_any (same_listed q) es) (ap (same_listed q) (one here) ∙ own q)
      | inr later ↦ or_true (same_listed q e) (list_any (same_listed q) es) (among-any q es later)
    ]
  where
    one : Contains (e ∷ []) q → e ≡ q
    one (zero, h, is) = is
    one (suc k, h, is) = absurd (omega (arith, h))

-- ---- other lists

sessions-lists : (es : List (ℕ × Session)) → AllTraffic (flat_map session_notes es)
sessions-lists [] = tt
sessions-lists (e ∷ es) = both (session_notes e) (flat_map session_notes es) (session-lists e) (sessions-lists es)

outcome-lists : (outcome : Outcome) (q : Place) → AllTraffic (listings_by outcome q)
outcome-lists o.Open q = (refl, tt)
outcome-lists o.Lapsed q = (refl, tt)
outcome-lists _ q = tt

facts-lists : (fs : List Fact) → AllTraffic (flat_map listings_of_fact fs)
facts-lists [] = tt
facts-lists (f ∷ fs) = both (listings_of_fact f) (flat_map listings_of_fact fs) (outcome-lists f.outcome f.place) (facts-lists fs)

module _ (a : l.List) (one : is_traffic_list a ≡ false) (place : Place) where
  -- what is in other lists isn't in one of receipts
  none-there : (es : List Listed) → AllTraffic es → list_any (same_listed (listed a place)) es ≡ false
  none-there [] all = refl
  none-there (e ∷ es) all = λ i. apart (same_listed (listed a place) e) refl i || none-there es all.1 i
    where
      apart : (b : Bool) → same_listed (listed a place) e ≡ b → b ≡ false
      apart true same = absurd (false≢true (sym one
          ∙ ap (λ (x : Listed). is_traffic_list x.list) (maps.same_key listed_total listed_exact (listed a place) e same) ∙ all.0))
      apart false other = refl

  or_false : (b : Bool) → (b || false) ≡ b
  or_false true = refl
  or_false false = refl

  receipts-alone : (p : PresentValue) → contains_key (scratch p).places (listed a place)
      ≡ list_any (same_listed (listed a place)) (receipt_notes (grouping_of p.settings (traffic_of p.sessions)))
  receipts-alone p =
      let x : Listed = listed a place in
      let facts : List Fact = values (facts_of p.settings (traffic_of p.sessions)) in
      let notes : List Listed = flat_map session_notes (entries p.sessions) in
      let receipts : List Listed = receipt_notes (grouping_of p.settings (traffic_of p.sessions)) in
      have-listed (keys (notes_of p.settings (traffic_of p.sessions)) ++ flat_map listings_of_fact facts) x
      ∙ any-append (same_listed x) (keys (notes_of p.settings (traffic_of p.sessions))) (flat_map listings_of_fact facts)
      ∙ (λ i. keys-listed (keys (listed_set notes) ++ receipts) x i || none-there (flat_map listings_of_fact facts) (facts-lists facts) i)
      ∙ or_false (list_any (same_listed x) (keys (listed_set notes) ++ receipts))
      ∙ any-append (same_listed x) (keys (listed_set notes)) receipts
      ∙ ap (λ b. b || list_any (same_listed x) receipts) (keys-listed notes x ∙ none-there notes (sessions-lists (entries p.sessions)))

  -- the list has the receipts that are noted there
  shown-as : {X : Type 0} (p : PresentValue) → (Contains (receipt_notes (grouping_of p.settings (traffic_of p.sessions))) (listed a place) ↔ X)
      → Contains (listed_in (scratch p) a) place ↔ X
  shown-as p iff =
      let receipts : List Listed = receipt_notes (grouping_of p.settings (traffic_of p.sessions)) in (
        λ c. iff.0 (any-among (listed a place) receipts (sym (receipts-alone p) ∙ (listed-iff (scratch p) a place).0 c)),
        λ x. (listed-iff (scratch p) a place).1 (receipts-alone p ∙ among-any (listed a place) receipts (iff.1 x)),
      )

pub shown-stray : (p : PresentValue) (place : Place) → Contains (listed_in (scratch p) StrayReceipts) place
    ↔ IsStray (grouping_of p.settings (traffic_of p.sessions)) place
shown-stray p place = shown-as StrayReceipts refl place p (listed-stray (grouping_of p.settings (traffic_of p.sessions)) place)

pub shown-several : (p : PresentValue) (place : Place) → Contains (listed_in (scratch p) AmbiguousReceipts) place
    ↔ HasSharedKey (grouping_of p.settings (traffic_of p.sessions)) place
shown-several p place = shown-as AmbiguousReceipts refl place p (listed-several (grouping_of p.settings (traffic_of p.sessions)) place)

pub shown-extra : (p : PresentValue) (place : Place) → Contains (listed_in (scratch p) ExtraReceipts) place
    ↔ IsExtra (grouping_of p.settings (traffic_of p.sessions)) place
shown-extra p place = shown-as ExtraReceipts refl place p (listed-extra (grouping_of p.settings (traffic_of p.sessions)) place)
