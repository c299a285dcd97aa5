-- What a tally holds, in maps that can be undone, and its tables.
use Rattle.std.proofs.Common.{◌≡◌, ℕ, ◌+◌, ◌<◌, ◌≤◌, ◌^◌, Bool, true, false, cond, List, [], ◌∷◌, length, Option, Some, None, subst, refl, sym, ap, ◌∙◌, arith}
use Rattle.std.proofs.lemmas.Map.Entries.{length-values_of}
use Rattle.std.proofs.lemmas.List.{length-map}
use Rattle.std.specs.Prelude.{IsSome, map, option_map, option_to_list}
use Rattle.std.specs.List.{list_any}
use Rattle.std.specs.List.Sorted.{IsStrictlySortedBy}
use Rattle.std.specs.Map.{keys_of, lookup, remove_entry}
use Rattle.std.specs.BTreeMap.{is_at, insert_entry}
use Rattle.std.specs.FinMap.{FinMap, from_entries, get, insert, remove, contains_key, values, get-insert, get-remove, same_map}
use Rattle.std.specs.Ordering.{eq_by_cmp}
use Rattle.std.specs.FinSet.{FinSet}
use Rattle.smq_kit.specs.declared.place.Place.{Place}
use Rattle.smq_kit.specs.Orders.{kept_place_cmp, place_cmp}
use Rattle.smq_kit.proofs.Comparisons.{is_equal}
use Rattle.smq_kit.proofs.PlaceOrders.{place-order, places_total, places_exact}
use Rattle.smq_kit.proofs.Ordered as ordered
use Rattle.smq_shelf.specs.Places.{content_of, with_place}
use Rattle.smq_shelf.proofs.Seen as seen
use Rattle.smq_tally.specs.declared.fact.CountKey.{CountKey}
use Rattle.smq_tally.specs.declared.fact.Fact.{Fact}
use Rattle.smq_tally.specs.declared.list.Listed.{Listed}
use Rattle.smq_tally.specs.Lists.{listed_cmp, listings_of_fact}
use Rattle.smq_tally.specs.Rows.{keys_of_fact}
use Rattle.smq_tally.specs.Tables.{TablesValue, tables_of}
use Rattle.smq_tally.specs.within.Counting.{AreCounted, count_of, one_more, one_less}
use Rattle.smq_tally.specs.within.Kept.{Known, fact_at, facts_in, known_of, StandAtTheirPlaces, Tallies}
use Rattle.smq_tally.specs.within.ListOrder.{lists}
use Rattle.smq_tally.proofs.ListedFacts.{note-listed, note-stays, note-unlisted}
use Rattle.smq_tally.proofs.Tallies.{number-bound, stands-counted, added-tables, removed-tables, replaced-tables}

abbrev Facts : Type 0
Facts = FinMap place_cmp Fact

abbrev Notes : Type 0
Notes = FinSet listed_cmp

abbrev pub Entries : Type 0
Entries = List (Place × Known)

same_place : (q p : Place) → eq_by_cmp place_cmp q p ≡ true → q ≡ p
same_place q p e = places_exact q p (is_equal (place_cmp q p) e)

-- the entries as facts with their places
abbrev placed : Entries → List (Place × Fact)
placed es = map (λ e. (e.0, fact_at e.0 e.1)) es

placed-at : (q : Place) (e : Place × Known) (b : Bool) → is_at (kept_place_cmp q) e.0 ≡ b → (x : Option Known) (y : Option Fact) → y ≡ option_map (fact_at q) x
    → cond b (Some (fact_at e.0 e.1)) y ≡ option_map (fact_at q) (cond b (Some e.1) x)
placed-at q e true at x y same = ap (λ p. Some (fact_at p e.1)) (sym (same_place q e.0 ((λ i. is_at (sym place-order i q) e.0) ∙ at)))
placed-at q e false at x y same = same

-- a look-up among the facts is one among what is known, with the place
found-placed : (es : Entries) (q : Place) → lookup (is_at (kept_place_cmp q)) (placed es) ≡ option_map (fact_at q) (lookup (is_at (kept_place_cmp q)) es)
found-placed [] q = refl
found-placed (e ∷ es) q = placed-at q e (is_at (kept_place_cmp q) e.0) refl _ _ (found-placed es q)

-- the fact that a look-up gives
pub fact_found : (es : Entries) (q : Place) → get (facts_in es) q ≡ option_map (fact_at q) (lookup (is_at (kept_place_cmp q)) es)
fact_found es q = seen.looked_up places_total places_exact place-order (placed es) q ∙ found-placed es q

-- each stands at its place
pub stands : (es : Entries) → StandAtTheirPlaces (facts_in es)
stands es = record { own = λ q f has. own q f (lookup (is_at (kept_place_cmp q)) es) (sym (fact_found es q) ∙ has) }
  where
    own : (q : Place) (f : Fact) (x : Option Known) → option_map (fact_at q) x ≡ Some f → f.place ≡ q
    own q f None e = absurd cc
    own q f (Some k) e = let same : f ≡ fact_at q k = cc in ap (λ (g : Fact). g.place) same

-- a fact is found by what is known of its place
found-known : (es : Entries) (q : Place) → get (facts_in es) q ≡ option_map (fact_at q) (get (from_entries {R = place_cmp} es) q)
found-known es q = fact_found es q ∙ ap (option_map (fact_at q)) (sym (seen.looked_up places_total places_exact place-order es q))

-- what is kept of a fact that is put at its place
pub kept_put : (es fs : Entries) (f : Fact) (kept : Known) → kept ≡ known_of f → fs ≡ insert_entry kept_place_cmp es f.place kept
    → facts_in fs ≡ insert (facts_in es) f.place f
kept_put es fs f kept same put = same_map places_total places_exact _ _ (λ q.
    found-known fs q
    ∙ ap (λ m. option_map (fact_at q) (get m q)) (ap from_entries put ∙ seen.inserted places_total places_exact place-order es f.place kept)
    ∙ ap (option_map (fact_at q)) (get-insert places_total (from_entries es) f.place kept q)
    ∙ by q (eq_by_cmp place_cmp q f.place) refl
    ∙ sym (get-insert places_total (facts_in es) f.place f q))
  where
    by : (q : Place) (b : Bool) → eq_by_cmp place_cmp q f.place ≡ b
        → option_map (fact_at q) (cond b (Some kept) (get (from_entries {R = place_cmp} es) q)) ≡ cond b (Some f) (get (facts_in es) q)
    by q true at = (λ i. Some (fact_at (same_place q f.place at i) (same i)))
    by q false at = sym (found-known es q)

pub fact_taken : (es fs : Entries) (k : Place) → IsStrictlySortedBy kept_place_cmp (keys_of es) → fs ≡ remove_entry (is_at (kept_place_cmp k)) es
    → facts_in fs ≡ remove (facts_in es) k
fact_taken es fs k sorted took = same_map places_total places_exact _ _ (λ q.
    found-known fs q
    ∙ ap (λ m. option_map (fact_at q) (get m q)) (ap from_entries took ∙ seen.removed places_total places_exact place-order es k sorted)
    ∙ ap (option_map (fact_at q)) (get-remove places_total (from_entries es) k q)
    ∙ by q (eq_by_cmp place_cmp q k)
    ∙ sym (get-remove places_total (facts_in es) k q))
  where
    by : (q : Place) (b : Bool) → option_map (fact_at q) (cond b None (get (from_entries {R = place_cmp} es) q)) ≡ cond b None (get (facts_in es) q)
    by q true = refl
    by q false = sym (found-known es q)

-- a fact that is found has an entry
pub has-entry : (es fs : Entries) (q : Place) (f : Fact) → fs ≡ es → Some f ≡ get (facts_in es) q → IsSome (lookup (is_at (kept_place_cmp q)) fs)
has-entry es fs q f same found =
    subst (λ (xs : Entries). IsSome (lookup (is_at (kept_place_cmp q)) xs)) (sym same) (some (lookup (is_at (kept_place_cmp q)) es) (found ∙ fact_found es q))
  where
    some : (x : Option Known) → Some f ≡ option_map (fact_at q) x → IsSome x
    some None e = absurd cc
    some (Some k) e = refl

with_place-fewer : {K V : Type 0} (k : K) (x : Option V) (cs : List (K × V)) → length (with_place k x cs) ≤ length cs + 1
with_place-fewer k None cs = omega arith
with_place-fewer k (Some v) cs = omega arith

content_of-fewer : {K V : Type 0} (es : List (K × Option V)) → length (content_of es) ≤ length es
content_of-fewer [] = omega arith
content_of-fewer (e ∷ es) = let one = with_place-fewer e.0 e.1 (content_of es) in let rest = content_of-fewer es in omega (arith, one, rest)

keys-placed : (es : Entries) → keys_of (placed es) ≡ keys_of es
keys-placed [] = refl
keys-placed (e ∷ es) = ap (λ ks. e.0 ∷ ks) (keys-placed es)

-- counts have room for one fact more
pub has-room : (es : Entries) (ps : List (Place × Option Known)) (most : ℕ) (notes : Notes) (t : TablesValue) → t ≡ tables_of (facts_in es) notes
    → IsStrictlySortedBy kept_place_cmp (keys_of es) → es ≡ content_of ps → most ≡ length ps → most < 2 ^ 63
    → (key : CountKey) → count_of t key + 1 < 2 ^ 64
has-room es ps most notes t is sorted shown count small key =
    let fewer : length (content_of ps) ≤ length ps = content_of-fewer ps in
    let told : length es ≡ length (content_of ps) = ap (λ (xs : Entries). length xs) shown in
    let bound : count_of (tables_of (facts_in es) notes) key ≤ length (values (facts_in es)) = number-bound (facts_in es) notes key in
    let same : length (values (facts_in es)) ≡ length es = ap (λ xs. length (map (λ e. e.1) xs))
    (ordered.entries-kept places_total places_exact place-order (placed es) (subst (IsStrictlySortedBy kept_place_cmp) (sym (keys-placed es)) sorted))
    ∙ length-values_of (placed es) ∙ length-map es _ in
    let there : count_of t key ≡ count_of (tables_of (facts_in es) notes) key = ap (λ (u : TablesValue). count_of u key) is in
    omega (arith, bound, same, there, fewer, told, count, small)

-- a fact that is there is counted
pub is_counted : (facts : Facts) (notes : Notes) {shown : TablesValue} (is : shown ≡ tables_of facts notes) (place : Place) (f : Fact)
    → get facts place ≡ Some f → AreCounted (keys_of_fact f) shown.counts
is_counted facts notes is place f has =
    subst (λ (t : TablesValue). AreCounted (keys_of_fact f) t.counts) (sym is) (stands-counted facts notes place f has)

-- tables that are those of facts and notes, and the tables and facts after a change
module _ (facts : Facts) (notes : Notes) {now : Facts} {shown new : TablesValue} (is : shown ≡ tables_of facts notes) where
  -- a fact was added
  pub shown-added : (f : Fact) → get facts f.place ≡ None → now ≡ insert facts f.place f → new ≡ one_more shown f → new ≡ tables_of now notes
  shown-added f none put counted =
      counted ∙ ap (λ (t : TablesValue). one_more t f) is ∙ added-tables facts notes f none ∙ ap (λ (m : Facts). tables_of m notes) (sym put)

  -- a fact was put in the place of another
  pub shown-replaced : (there f : Fact) (stays : Bool) → StandAtTheirPlaces facts → get facts f.place ≡ Some there
      → stays ≡ list_any (contains_key notes) (listings_of_fact there)
      → now ≡ insert facts f.place f → new ≡ one_more (one_less shown there stays) f → new ≡ tables_of now notes
  shown-replaced there f stays own has noted put counted =
      counted ∙ (λ i. one_more (one_less (is i) there (noted i)) f) ∙ replaced-tables facts notes there f own has
      ∙ ap (λ (m : Facts). tables_of m notes) (sym put)

-- a fact that is there, put in again, changes nothing
pub fact_same : (facts : Facts) (k : Place) (f : Fact) → get facts k ≡ Some f → facts ≡ insert facts k f
fact_same facts k f has = sym (ordered.insert-same places_total places_exact refl facts k f has)

module _ {facts settled : Facts} {notes settled_notes : Notes} {shown before : TablesValue}
    (holds : Tallies facts settled notes settled_notes shown before) where
  -- where what was settled stays and the tables are those of what is there, a tally holds
  pub still : {now later : Facts} {now_notes later_notes : Notes} {new later_shown : TablesValue} → new ≡ tables_of now now_notes
      → later ≡ settled → later_notes ≡ settled_notes → later_shown ≡ before
      → Tallies now later now_notes later_notes new later_shown
  still made same same_notes same_shown = record {
    now = made;
    before = same_shown ∙ holds.before ∙ (λ i. tables_of (sym same i) (sym same_notes i));
  }

  -- a fact was taken out
  pub fact-removed : {now : Facts} {new : TablesValue} (place : Place) (f : Fact) (stays : Bool) → StandAtTheirPlaces facts → get facts place ≡ Some f
      → stays ≡ list_any (contains_key notes) (listings_of_fact f)
      → now ≡ remove facts place → new ≡ one_less shown f stays → new ≡ tables_of now notes
  fact-removed place f stays own has noted took counted =
      counted ∙ (λ i. one_less (holds.now i) f (noted i)) ∙ removed-tables facts notes place f own has
      ∙ ap (λ (m : Facts). tables_of m notes) (sym took)

  -- a place was noted
  pub note-added : {now : Notes} {new : TablesValue} (note : Listed) → now ≡ insert notes note tt
      → new ≡ record shown { places = insert shown.places note tt } → new ≡ tables_of facts now
  note-added note put listed =
      listed ∙ ap (λ (t : TablesValue). record t { places = insert t.places note tt }) holds.now
      ∙ (λ i. record { counts = (tables_of facts notes).counts; places = note-listed facts notes note i })
      ∙ ap (λ (n : Notes). tables_of facts n) (sym put)

  -- a note was taken out, if it was there, and its place stays listed where the fact there lists it
  pub note-taken : {now : Notes} {new : TablesValue} (note : Listed) (stays : Bool) → StandAtTheirPlaces facts → now ≡ remove notes note
      → stays ≡ list_any (lists note) (option_to_list (get facts note.place))
      → new ≡ record shown { places = cond stays shown.places (remove shown.places note) } → new ≡ tables_of facts now
  note-taken note true own took there listed =
      listed ∙ holds.now
      ∙ (λ i. record { counts = (tables_of facts notes).counts; places = note-stays facts notes note own (sym there) i })
      ∙ ap (λ (n : Notes). tables_of facts n) (sym took)
  note-taken note false own took none listed =
      listed
      ∙ ap (λ (t : TablesValue). record t { places = remove t.places note }) holds.now
      ∙ (λ i. record { counts = (tables_of facts notes).counts; places = note-unlisted facts notes note own (sym none) i })
      ∙ ap (λ (n : Notes). tables_of facts n) (sym took)
