-- The places that tables list: notes, and open and lapsed messages.
use Rattle.std.proofs.Common.{◌≡◌, ℕ, zero, suc, ◌+◌, Bool, ◌||◌, true, false, cond, ◌⊎◌, inl, inr, List, [], ◌∷◌, ◌++◌, Option, Some, None, refl, sym, ap, ◌∙◌, arith}
use Rattle.std.specs.Prelude.{count_by, is_some, map, option_to_list}
use Rattle.std.specs.List.{AllByRecursion, flat_map, list_any}
use Rattle.std.specs.Ordering.{eq_by_cmp}
use Rattle.std.specs.FinMap.{FinMap, get, insert, remove, empty, entries, values, keys, contains_key, contains_key-keys, get-empty, get-insert, get-remove, same_map}
use Rattle.std.proofs.Math.Bool.{or-false, or-true, or_assoc, or_self_left}
use Rattle.std.proofs.lemmas.Bool.{false≢true, false_from_ne_true}
use Rattle.std.proofs.lemmas.List.Folds.{list_any-append}
use Rattle.std.proofs.lemmas.Map.Views.{tells_apart}
use Rattle.std.specs.FinSet.{FinSet}
use Rattle.std.proofs.lemmas.List.Sums.{sum_by-cons}
use Rattle.smq_kit.specs.Maps.{share}
use Rattle.smq_kit.specs.declared.place.Place.{Place}
use Rattle.smq_kit.specs.Orders.{place_cmp}
use Rattle.smq_kit.proofs.PlaceOrders.{places_total, places_exact}
use Rattle.smq_kit.proofs.MapLemmas as maps
use Rattle.smq_kit.proofs.Ordered as ordered
use Rattle.smq_tally.specs.declared.fact.Fact.{Fact}
use Rattle.smq_tally.specs.declared.list.Listed.{Listed}
use Rattle.smq_tally.specs.declared.list.List.TheVariants as l
use Rattle.smq_tally.specs.declared.outcome.Outcome.{Outcome}
use Rattle.smq_tally.specs.declared.outcome.Outcome.TheVariants as o
use Rattle.smq_tally.specs.Lists.{listed, listed_cmp, listed_set, listings_by, listings_of_fact}
use Rattle.smq_tally.specs.Tables.{tables_of}
use Rattle.smq_tally.specs.within.Counting.{with_listed, without}
use Rattle.smq_tally.specs.within.Kept.{StandAtTheirPlaces}
use Rattle.smq_tally.specs.within.ListOrder.{lists, listed_total, same_listed, takes_facts}
use Rattle.smq_tally.proofs.ListOrders.{listed_exact}
use Rattle.smq_tally.proofs.Listings.{same_some}
use Rattle.smq_tally.proofs.Undone.{take-out, put-again}

-- ---- sets by what they have

some-or : (b : Bool) (x : Option (Unit {0})) → is_some (cond b (Some tt) x) ≡ (b || is_some x)
some-or true x = refl
some-or false x = refl

-- sets that have the same are one
pub sets-one : (s t : FinSet listed_cmp) → ((q : Listed) → contains_key s q ≡ contains_key t q) → s ≡ t
sets-one s t same = same_map listed_total listed_exact s t (λ q. same_some (get s q) (get t q) (same q))

pub have-insert : (s : FinSet listed_cmp) (e q : Listed) → contains_key (insert s e tt) q ≡ (same_listed q e || contains_key s q)
have-insert s e q = ap is_some (get-insert listed_total s e tt q) ∙ some-or (same_listed q e) (get s q)

pub have-remove : (s : FinSet listed_cmp) (e q : Listed) → contains_key (remove s e) q ≡ cond (same_listed q e) false (contains_key s q)
have-remove s e q =
    ap is_some (get-remove listed_total s e q)
    ∙ elim (same_listed q e) as (λ b. is_some (cond b None (get s q)) ≡ cond b false (contains_key s q)) [ true ↦ refl | false ↦ refl ]

pub have-listed : (es : List Listed) (q : Listed) → contains_key (listed_set es) q ≡ list_any (same_listed q) es
have-listed [] q = ap is_some (get-empty listed_cmp q)
have-listed (e ∷ es) q = have-insert (listed_set es) e q ∙ ap (λ b. same_listed q e || b) (have-listed es q)

-- ---- what tables list

or-swap : (a b c : Bool) → (a || (b || c)) ≡ (b || (a || c))
or-swap true true c = refl
or-swap true false c = refl
or-swap false b c = refl

any-flat : (q : Listed) (fs : List Fact) → list_any (same_listed q) (flat_map listings_of_fact fs) ≡ list_any (lists q) fs
any-flat q [] = refl
any-flat q (f ∷ fs) =
    list_any-append (same_listed q) (listings_of_fact f) (flat_map listings_of_fact fs) ∙ ap (λ b. lists q f || b) (any-flat q fs)

-- listed are the notes, and what a fact lists
pub places-have : (facts : FinMap place_cmp Fact) (notes : FinSet listed_cmp) (q : Listed)
    → contains_key (tables_of facts notes).places q ≡ (contains_key notes q || list_any (lists q) (values facts))
places-have facts notes q =
    have-listed (keys notes ++ flat_map listings_of_fact (values facts)) q
    ∙ list_any-append (same_listed q) (keys notes) (flat_map listings_of_fact (values facts))
    ∙ (λ i. sym (contains_key-keys notes q) i || any-flat q (values facts) i)

pub with-have : (places : FinSet listed_cmp) (es : List Listed) (q : Listed)
    → contains_key (with_listed places es) q ≡ (list_any (same_listed q) es || contains_key places q)
with-have places [] q = refl
with-have places (e ∷ es) q =
    with-have (insert places e tt) es q
    ∙ ap (λ b. list_any (same_listed q) es || b) (have-insert places e q)
    ∙ or-swap (list_any (same_listed q) es) (same_listed q e) (contains_key places q)
    ∙ sym (or_assoc (same_listed q e) (list_any (same_listed q) es) (contains_key places q))

-- ---- one fact more

abbrev above_zero : ℕ → Bool
above_zero zero = false
above_zero (suc n) = true

above-one : (b : Bool) (n m : ℕ) → m ≡ n + cond b 1 0 → above_zero m ≡ (b || above_zero n)
above-one true n m e = let next : m ≡ suc n = omega (arith, e) in ap above_zero next
above-one false n m e = let same : m ≡ n = omega (arith, e) in ap above_zero same

any-count : (p : Fact → Bool) (fs : List Fact) → list_any p fs ≡ above_zero (count_by p fs)
any-count p [] = refl
any-count p (f ∷ fs) =
    ap (λ b. p f || b) (any-count p fs)
    ∙ sym (above-one (p f) (count_by p fs) (count_by p (f ∷ fs)) (let e = sum_by-cons (λ g. cond (p g) 1 0) f fs in omega (arith, e)))

any-more : (p : Fact → Bool) (facts : FinMap place_cmp Fact) (f : Fact) → get facts f.place ≡ None
    → list_any p (values (insert facts f.place f)) ≡ (p f || list_any p (values facts))
any-more p facts f none =
    let moved = maps.count-set places_total places_exact p facts f.place (Some f) in
    let one = sum_by-cons (λ g. cond (p g) 1 0) f [] in
    let nothing : share p (get facts f.place) ≡ 0 = ap (share p) none in
    any-count p (values (insert facts f.place f))
    ∙ above-one (p f) (count_by p (values facts)) (count_by p (values (insert facts f.place f))) (omega (arith, moved, one, nothing))
    ∙ ap (λ b. p f || b) (sym (any-count p (values facts)))

-- where one fact more is listed, the tables list what they do with the fact
pub fact-listed : (facts : FinMap place_cmp Fact) (notes : FinSet listed_cmp) (f : Fact) → get facts f.place ≡ None
    → with_listed (tables_of facts notes).places (listings_of_fact f) ≡ (tables_of (insert facts f.place f) notes).places
fact-listed facts notes f none = sets-one _ _ (λ q.
    with-have (tables_of facts notes).places (listings_of_fact f) q
    ∙ ap (λ b. lists q f || b) (places-have facts notes q)
    ∙ or-swap (lists q f) (contains_key notes q) (list_any (lists q) (values facts))
    ∙ ap (λ b. contains_key notes q || b) (sym (any-more (lists q) facts f none))
    ∙ sym (places-have (insert facts f.place f) notes q))

-- where notes are listed too, one after the other, the tables list what they do with them
pub notes_listed : (facts : FinMap place_cmp Fact) (notes : List Listed)
    → with_listed (tables_of facts empty).places notes ≡ (tables_of facts (listed_set notes)).places
notes_listed facts notes = sets-one _ _ (λ q.
    with-have (tables_of facts empty).places notes q
    ∙ ap (λ b. list_any (same_listed q) notes || b) (places-have facts empty q)
    ∙ (λ i. list_any (same_listed q) notes || (is_some (get-empty {X = Unit {0}} listed_cmp q i) || list_any (lists q) (values facts)))
    ∙ (λ i. sym (have-listed notes q) i || list_any (lists q) (values facts))
    ∙ sym (places-have facts (listed_set notes) q))

-- the same of a note
pub note-listed : (facts : FinMap place_cmp Fact) (notes : FinSet listed_cmp) (note : Listed)
    → insert (tables_of facts notes).places note tt ≡ (tables_of facts (insert notes note tt)).places
note-listed facts notes note = sets-one _ _ (λ q.
    have-insert (tables_of facts notes).places note q
    ∙ ap (λ b. same_listed q note || b) (places-have facts notes q)
    ∙ sym (or_assoc (same_listed q note) (contains_key notes q) (list_any (lists q) (values facts)))
    ∙ ap (λ b. b || list_any (lists q) (values facts)) (sym (have-insert notes note q))
    ∙ sym (places-have facts (insert notes note tt) q))

-- ---- one fact less

-- a message is listed once at most, by its place, in a list that takes messages
abbrev pub Once : List Listed → Place → Type 0
Once ls place = (ls ≡ []) ⊎ ((e : Listed) × ((ls ≡ e ∷ []) × ((e.place ≡ place) × (takes_facts e.list ≡ true))))

pub listed-once : (outcome : Outcome) (place : Place) → Once (listings_by outcome place) place
listed-once o.Open place = inr (listed l.Open place, (refl, (refl, refl)))
listed-once o.Lapsed place = inr (listed l.Lapsed place, (refl, (refl, refl)))
listed-once _ place = inl refl

-- a message that is listed somewhere has that place
own-place : (q : Listed) (f : Fact) → lists q f ≡ true → q.place ≡ f.place
own-place q f h = by-once (listings_of_fact f) (listed-once f.outcome f.place) h
  where
    by-once : (ls : List Listed) → Once ls f.place → list_any (same_listed q) ls ≡ true → q.place ≡ f.place
    by-once ls (inl none) t = absurd (false≢true (ap (list_any (same_listed q)) (sym none) ∙ t))
    by-once ls (inr one) t =
        let same : q ≡ one.0 = tells_apart listed_exact q one.0 (sym (or-false (same_listed q one.0))
        ∙ ap (list_any (same_listed q)) (sym one.1.0) ∙ t) in
        ap (λ (e : Listed). e.place) same ∙ one.1.1.0

-- no message is listed in a list that takes none
pub none-taken : (q : Listed) (f : Fact) → takes_facts q.list ≡ false → lists q f ≡ false
none-taken q f none = by-once (listings_of_fact f) (listed-once f.outcome f.place)
  where
    by-once : (ls : List Listed) → Once ls f.place → list_any (same_listed q) ls ≡ false
    by-once ls (inl e) = ap (list_any (same_listed q)) e
    by-once ls (inr one) =
        ap (list_any (same_listed q)) one.1.0 ∙ or-false (same_listed q one.0) ∙ false_from_ne_true (same_listed q one.0) (λ h.
        false≢true (sym none ∙ ap (λ (x : Listed). takes_facts x.list) (tells_apart listed_exact q one.0 h) ∙ one.1.1.1))

-- no other fact is listed at a place that has no fact
none-lists : (facts : FinMap place_cmp Fact) (q : Listed) → StandAtTheirPlaces facts → get facts q.place ≡ None
    → list_any (lists q) (values facts) ≡ false
none-lists facts q own none = among (entries facts) (maps.get-entry places_total places_exact facts)
  where
    passes : (e : Place × Fact) → get facts e.0 ≡ Some e.1 → lists q e.1 ≡ false
    passes e has = false_from_ne_true (lists q e.1) (λ h.
        let at : q.place ≡ e.0 = own-place q e.1 h ∙ own.own e.0 e.1 has in
        let clash : Some e.1 ≡ None = sym has ∙ ap (get facts) (sym at) ∙ none in cc)

    among : (es : List (Place × Fact)) → AllByRecursion (λ e. get facts e.0 ≡ Some e.1) es → list_any (lists q) (map (λ e. e.1) es) ≡ false
    among [] a = refl
    among (e ∷ es) a = (λ i. passes e a.0 i || list_any (lists q) (map (λ x. x.1) es)) ∙ among es a.1

-- facts that stand at their places still do without one of them
stand-without : (facts : FinMap place_cmp Fact) (place : Place) → StandAtTheirPlaces facts → StandAtTheirPlaces (remove facts place)
stand-without facts place own =
    record { own = λ q f has. there q f (eq_by_cmp place_cmp q place) (sym (get-remove places_total facts place q) ∙ has) }
  where
    there : (q : Place) (f : Fact) (b : Bool) → cond b None (get facts q) ≡ Some f → f.place ≡ q
    there q f true has = absurd cc
    there q f false has = own.own q f has

-- a place that is listed already, or is listed anew and then taken out
listed-more : (places : FinSet listed_cmp) (e : Listed) → contains_key places e ≡ true → insert places e tt ≡ places
listed-more places e has = ordered.insert-same listed_total listed_exact refl places e tt (same_some (get places e) (Some tt) has)

listed-again : (places : FinSet listed_cmp) (e : Listed) → contains_key places e ≡ false → remove (insert places e tt) e ≡ places
listed-again places e none = take-out listed_total listed_exact places e tt (same_some (get places e) None none)

-- the tables list what they do without a fact that is there, and what it lists
listed-over : (facts : FinMap place_cmp Fact) (notes : FinSet listed_cmp) (place : Place) (f : Fact) → StandAtTheirPlaces facts
    → get facts place ≡ Some f
    → (tables_of facts notes).places ≡ with_listed (tables_of (remove facts place) notes).places (listings_of_fact f)
listed-over facts notes place f own has =
    let left : FinMap place_cmp Fact = remove facts place in
    let at : f.place ≡ place = own.own place f has in
    ap (λ (m : FinMap place_cmp Fact). (tables_of m notes).places) (sym (put-again places_total places_exact facts place f has)
    ∙ ap (λ (p : Place). insert left p f) (sym at))
    ∙ sym (fact-listed left notes f (ap (get left) at ∙ maps.get-removed places_total places_exact facts place))

-- what is listed twice is listed once
listed-twice : (places : FinSet listed_cmp) (es : List Listed) → with_listed (with_listed places es) es ≡ with_listed places es
listed-twice places es = sets-one _ _ (λ q.
    with-have (with_listed places es) es q
    ∙ ap (λ b. list_any (same_listed q) es || b) (with-have places es q)
    ∙ or_self_left (list_any (same_listed q) es) (contains_key places q)
    ∙ sym (with-have places es q))

-- what a fact that is there lists is listed
pub fact_covered : (facts : FinMap place_cmp Fact) (notes : FinSet listed_cmp) (place : Place) (f : Fact) → StandAtTheirPlaces facts
    → get facts place ≡ Some f → with_listed (tables_of facts notes).places (listings_of_fact f) ≡ (tables_of facts notes).places
fact_covered facts notes place f own has =
    let over = listed-over facts notes place f own has in
    ap (λ (p : FinSet listed_cmp). with_listed p (listings_of_fact f)) over
    ∙ listed-twice (tables_of (remove facts place) notes).places (listings_of_fact f)
    ∙ sym over

pub left-have : (places : FinSet listed_cmp) (es : List Listed) (q : Listed)
    → (list_any (same_listed q) es || contains_key (without places es) q) ≡ (list_any (same_listed q) es || contains_key places q)
left-have places [] q = refl
left-have places (e ∷ es) q =
    elim (same_listed q e) as (λ b. same_listed q e ≡ b
    → ((b || list_any (same_listed q) es) || contains_key (without (remove places e) es) q) ≡ ((b || list_any (same_listed q) es)
    || contains_key places q)) [
      | true ↦ λ h. refl
      | false ↦ λ h. left-have (remove places e) es q
          ∙ ap (λ b. list_any (same_listed q) es || b)
          (ap is_some (get-remove listed_total places e q) ∙ ap (λ b. is_some (cond b None (get places q))) h)
    ] refl

-- what is listed, and is listed again where it was taken out or stayed, is what it was
pub relisted : (places : FinSet listed_cmp) (es : List Listed) (stays : Bool) → with_listed places es ≡ places
    → places ≡ with_listed (cond stays places (without places es)) es
relisted places es true covered = sym covered
relisted places es false covered = sets-one _ _ (λ q.
    ap (λ (p : FinSet listed_cmp). contains_key p q) (sym covered)
    ∙ with-have places es q
    ∙ sym (left-have places es q)
    ∙ sym (with-have (without places es) es q))

-- where a fact is listed no more unless its place is noted, the tables list what they do without the fact
pub fact-unlisted : (facts : FinMap place_cmp Fact) (notes : FinSet listed_cmp) (place : Place) (f : Fact) → StandAtTheirPlaces facts
    → get facts place ≡ Some f
    → cond (list_any (contains_key notes) (listings_of_fact f)) (tables_of facts notes).places
    (without (tables_of facts notes).places (listings_of_fact f)) ≡ (tables_of (remove facts place) notes).places
fact-unlisted facts notes place f own has =
    ap (λ (p : FinSet listed_cmp). cond (list_any (contains_key notes) (listings_of_fact f)) p (without p (listings_of_fact f)))
    (listed-over facts notes place f own has)
    ∙ by-once (listings_of_fact f) (listed-once f.outcome f.place)
  where
    left : FinMap place_cmp Fact
    left = remove facts place

    rest : FinSet listed_cmp
    rest = (tables_of left notes).places

    at : f.place ≡ place
    at = own.own place f has

    one : (e : Listed) → e.place ≡ f.place → (b : Bool) → contains_key notes e ≡ b → cond b (insert rest e tt) (remove (insert rest e tt) e) ≡ rest
    one e own-e true noted = listed-more rest e (places-have left notes e ∙ ap (λ b. b || list_any (lists e) (values left)) noted)
    one e own-e false noted =
        let none : list_any (lists e) (values left) ≡ false =
        none-lists left e (stand-without facts place own) (ap (get left) (own-e ∙ at) ∙ maps.get-removed places_total places_exact facts place) in
        listed-again rest e (places-have left notes e ∙ (λ i. noted i || none i))

    by-once : (ls : List Listed) → Once ls f.place
        → cond (list_any (contains_key notes) ls) (with_listed rest ls) (without (with_listed rest ls) ls) ≡ rest
    by-once ls (inl none) = ap (λ (es : List Listed). cond (list_any (contains_key notes) es) (with_listed rest es)
        (without (with_listed rest es) es)) none
    by-once ls (inr e) =
        ap (λ (es : List Listed). cond (list_any (contains_key notes) es) (with_listed rest es) (without (with_listed rest es) es)) e.1.0
        ∙ ap (λ b. cond b (insert rest e.0 tt) (remove (insert rest e.0 tt) e.0)) (or-false (contains_key notes e.0))
        ∙ one e.0 e.1.1.0 (contains_key notes e.0) refl

-- ---- one note less

-- a place is listed for a fact exactly where that of the place is
listed-by-own : (facts : FinMap place_cmp Fact) (q : Listed) → StandAtTheirPlaces facts
    → list_any (lists q) (values facts) ≡ list_any (lists q) (option_to_list (get facts q.place))
listed-by-own facts q own = by-fact (get facts q.place) refl
  where
    by-fact : (x : Option Fact) → get facts q.place ≡ x → list_any (lists q) (values facts) ≡ list_any (lists q) (option_to_list x)
    by-fact None none = none-lists facts q own none
    by-fact (Some f) has =
        let at : f.place ≡ q.place = own.own q.place f has in
        let left : FinMap place_cmp Fact = remove facts q.place in
        let gone : get left q.place ≡ None = maps.get-removed places_total places_exact facts q.place in
        ap (λ (m : FinMap place_cmp Fact). list_any (lists q) (values m)) (sym (put-again places_total places_exact facts q.place f has)
        ∙ ap (λ (p : Place). insert left p f) (sym at))
        ∙ any-more (lists q) left f (ap (get left) at ∙ gone)
        ∙ ap (λ b. lists q f || b) (none-lists left q (stand-without facts q.place own) gone)

module _ (facts : FinMap place_cmp Fact) (notes : FinSet listed_cmp) (note : Listed) (own : StandAtTheirPlaces facts) where
  -- at the note's place is listed what the fact there lists
  there : (q : Listed) → same_listed q note ≡ true
      → list_any (lists q) (values facts) ≡ list_any (lists note) (option_to_list (get facts note.place))
  there q e = ap (λ (x : Listed). list_any (lists x) (values facts)) (tells_apart listed_exact q note e) ∙ listed-by-own facts note own

  -- what the tables without the note have
  without-note : (q : Listed) → (cond (same_listed q note) false (contains_key notes q) || list_any (lists q) (values facts))
      ≡ contains_key (tables_of facts (remove notes note)).places q
  without-note q =
      ap (λ b. b || list_any (lists q) (values facts)) (sym (have-remove notes note q)) ∙ sym (places-have facts (remove notes note) q)

  -- what the fact of the place lists too stays listed
  pub note-stays : list_any (lists note) (option_to_list (get facts note.place)) ≡ true
      → (tables_of facts notes).places ≡ (tables_of facts (remove notes note)).places
  note-stays stays = sets-one _ _ (λ q. places-have facts notes q ∙ by q (same_listed q note) refl ∙ without-note q)
    where
      by : (q : Listed) (b : Bool) → same_listed q note ≡ b → (contains_key notes q || list_any (lists q) (values facts))
          ≡ (cond b false (contains_key notes q) || list_any (lists q) (values facts))
      by q true e = ap (λ b. contains_key notes q || b) (there q e ∙ stays) ∙ or-true (contains_key notes q) ∙ sym (there q e ∙ stays)
      by q false e = refl

  -- and else it is listed no more
  pub note-unlisted : list_any (lists note) (option_to_list (get facts note.place)) ≡ false
      → remove (tables_of facts notes).places note ≡ (tables_of facts (remove notes note)).places
  note-unlisted none = sets-one _ _ (λ q.
      have-remove (tables_of facts notes).places note q
      ∙ ap (cond (same_listed q note) false) (places-have facts notes q)
      ∙ by q (same_listed q note) refl
      ∙ without-note q)
    where
      by : (q : Listed) (b : Bool) → same_listed q note ≡ b → cond b false (contains_key notes q || list_any (lists q) (values facts))
          ≡ (cond b false (contains_key notes q) || list_any (lists q) (values facts))
      by q true e = sym (there q e ∙ none)
      by q false e = refl
