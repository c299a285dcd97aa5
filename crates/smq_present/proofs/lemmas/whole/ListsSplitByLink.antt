-- What is listed of what is present of some links and of the others is what is listed of the whole.
use Rattle.std.proofs.Common.{◌≡◌, ◌⊎◌, inl, inr, ℕ, Bool, true, false, ◌||◌, List, [], ◌∷◌, ◌++◌, refl, sym, ap, ◌∙◌, subst}
use Rattle.std.specs.Prelude.{◌↔◌, Contains, not, is_some, map}
use Rattle.std.specs.List.{AllByRecursion, flat_map, list_any}
use Rattle.std.specs.FinMap.{contains_key, contains_key-keys, entries, keys, nat_cmp-IsAntisymmetric}
use Rattle.std.specs.Cmp.{nat_cmp_total}
use Rattle.std.proofs.lemmas.List.{map-append}
use Rattle.std.proofs.lemmas.List.Concat.{flat_map-append}
use Rattle.smq_kit.specs.declared.names.LinkId.{LinkId}
use Rattle.smq_kit.specs.declared.place.Place.{Place}
use Rattle.smq_kit.proofs.MapLemmas as maps
use Rattle.smq_tally.specs.declared.fact.Fact.{Fact}
use Rattle.smq_tally.specs.declared.list.List as l
use Rattle.smq_tally.specs.declared.list.Listed.{Listed}
use Rattle.smq_tally.specs.Lists.{listed, listed_set, listings_of_fact}
use Rattle.smq_tally.specs.Tables.{listed_in}
use Rattle.smq_tally.specs.within.ListOrder.{same_listed}
use Rattle.smq_tally.proofs.Listings.{get-listed, listed-iff}
use Rattle.smq_present.specs.declared.present.session.Session.{Session}
use Rattle.smq_present.specs.present.Present.{PresentValue}
use Rattle.smq_present.specs.present.Settings.{SettingsValue}
use Rattle.smq_present.specs.pairing.Traffic.{session_notes, traffic_of}
use Rattle.smq_present.specs.join.Listings as listings
use Rattle.smq_present.specs.whole.Links.{of_links, other_links, session_there}
use Rattle.smq_present.specs.whole.Scratch.{scratch}
use Rattle.smq_present.specs.within.Listings.{note_by, note_of}
use Rattle.smq_present.specs.within.Lists.{facts_listed, notes_of, receipt_notes_listed, session_receipts, session_submits}
use Rattle.smq_present.specs.within.Messages.{SubmittedMessage}
use Rattle.smq_present.specs.within.Outcomes.{fact_among}
use Rattle.smq_present.specs.within.Receipts.{KeyedReceipt, least_receipt}
use Rattle.smq_present.proofs.lemmas.whole.AgreePresent.{facts-are, notes-are}
use Rattle.smq_present.proofs.lemmas.whole.SplitByLink.{ReceiptOfLink, all-append, all-weaker, candidates-part, facts-there, number-part, part, parted, receipts-of}
use Rattle.smq_present.proofs.lemmas.whole.Tallied.{any-append, is-marked}

have-listed : (es : List Listed) (q : Listed) → contains_key (listed_set es) q ≡ list_any (same_listed q) es
have-listed es q = ap is_some (get-listed es q) ∙ is-marked (list_any (same_listed q) es)

keys-listed : (es : List Listed) (q : Listed) → list_any (same_listed q) (keys (listed_set es)) ≡ list_any (same_listed q) es
keys-listed es q = sym (contains_key-keys (listed_set es) q) ∙ have-listed es q

-- ---- what stands in sessions stands in those of some links or of the others

or-first : (a b c : Bool) → (a || (b || c)) ≡ ((a || b) || c)
or-first true b c = refl
or-first false b c = refl

or-second : (a b c : Bool) → (a || (b || c)) ≡ (b || (a || c))
or-second true true c = refl
or-second true false c = refl
or-second false b c = refl

or-pairs : (a d b e c f : Bool) → ((a || d) || ((b || e) || (c || f))) ≡ ((a || (b || c)) || (d || (e || f)))
or-pairs true d b e c f = refl
or-pairs false true true e c f = refl
or-pairs false true false e true f = refl
or-pairs false true false e false f = refl
or-pairs false false true e c f = refl
or-pairs false false false true true f = refl
or-pairs false false false true false f = refl
or-pairs false false false false true f = refl
or-pairs false false false false false f = refl

module _ {A : Type 0} (s : SettingsValue) (here : LinkId → Bool) (g : ℕ × Session → List A) (h : List A → Bool) (nil : h [] ≡ false)
    (append : (xs ys : List A) → h (xs ++ ys) ≡ (h xs || h ys)) where
  either : (es : List (ℕ × Session)) → h (flat_map g es) ≡ (h (flat_map g (part s here es)) || h (flat_map g (part s (other_links here) es)))
  either [] = nil ∙ (λ i. sym nil i || sym nil i)
  either (e ∷ es) = by (either es) (here e.1.link) refl
    where
      these : List A
      these = flat_map g (part s here es)

      those : List A
      those = flat_map g (part s (other_links here) es)

      by : h (flat_map g es) ≡ (h these || h those) → (b : Bool) → here e.1.link ≡ b → h (g e ++ flat_map g es)
          ≡ (h (flat_map g (part s here (e ∷ es))) || h (flat_map g (part s (other_links here) (e ∷ es))))
      by ih true k =
          append (g e) (flat_map g es) ∙ ap (λ b. h (g e) || b) ih ∙ or-first (h (g e)) (h these) (h those)
          ∙ (λ i. sym (ap h (parted s here g e es true k) ∙ append (g e) these) i
          || sym (ap h (parted s (other_links here) g e es false (ap not k))) i)
      by ih false k =
          append (g e) (flat_map g es) ∙ ap (λ b. h (g e) || b) ih ∙ or-second (h (g e)) (h these) (h those)
          ∙ (λ i. sym (ap h (parted s here g e es false k)) i
          || sym (ap h (parted s (other_links here) g e es true (ap not k)) ∙ append (g e) those) i)

-- ---- the receipts of some links

flat-alike : {A B : Type 0} (f g : A → List B) (xs : List A) → AllByRecursion (λ x. f x ≡ g x) xs → flat_map f xs ≡ flat_map g xs
flat-alike f g [] h = refl
flat-alike f g (x ∷ xs) h = λ i. h.0 i ++ flat-alike f g xs h.1 i

module _ (s : SettingsValue) (here : LinkId → Bool) (all : List (ℕ × Session)) where
  abbrev note_there : KeyedReceipt → List Listed
  note_there e = note_of (flat_map (session_submits s) (part s here all)) (flat_map (session_receipts s) (part s here all)) e

  abbrev note_in_all : KeyedReceipt → List Listed
  note_in_all e = note_of (flat_map (session_submits s) all) (flat_map (session_receipts s) all) e

  abbrev Same : KeyedReceipt → Type 0
  Same e = note_there e ≡ note_in_all e

  note-same : (e : KeyedReceipt) → here e.0.link ≡ true → Same e
  note-same e h = λ i. note_by (number-part s here e.0 h all i) (least_receipt (map (λ r. r.1) (candidates-part s here e.0 h all i))) e

  all-here : (es : List (ℕ × Session)) → AllByRecursion Same (flat_map (session_receipts s) (part s here es))
  all-here [] = tt
  all-here (e ∷ es) = by (all-here es) (here e.1.link) refl
    where
      by : AllByRecursion Same (flat_map (session_receipts s) (part s here es)) → (b : Bool) → here e.1.link ≡ b
          → AllByRecursion Same (flat_map (session_receipts s) (part s here (e ∷ es)))
      by ih true h = subst (AllByRecursion Same) (sym (parted s here (session_receipts s) e es true h))
          (all-append Same (session_receipts s e) (flat_map (session_receipts s) (part s here es))
          (all-weaker (ReceiptOfLink e.1.link) Same (session_receipts s e) (λ r of. note-same r (ap here of ∙ h)) (receipts-of s e)) ih)
      by ih false h = subst (AllByRecursion Same) (sym (parted s here (session_receipts s) e es false h)) ih

  notes-there : flat_map note_there (flat_map (session_receipts s) (part s here all)) ≡ flat_map note_in_all (flat_map (session_receipts s) (part s here all))
  notes-there = flat-alike note_there note_in_all (flat_map (session_receipts s) (part s here all)) (all-here all)

-- ---- all that is listed

module _ (x : Listed) where
  abbrev any : List Listed → Bool
  any es = list_any (same_listed x) es

  listed-by : (p : PresentValue) → contains_key (scratch p).places x
      ≡ (any (notes_of p) || (any (receipt_notes_listed p) || any (flat_map listings_of_fact (facts_listed p))))
  listed-by p =
      have-listed _ x ∙ any-append (same_listed x) (keys (listings.notes_of p.settings (traffic_of p.sessions))) _
      ∙ (λ i. any (keys (notes-are p i)) || any (flat_map listings_of_fact (facts-are p i)))
      ∙ ap (λ b. b || any (flat_map listings_of_fact (facts_listed p)))
      (keys-listed (notes_of p ++ receipt_notes_listed p) x ∙ any-append (same_listed x) (notes_of p) (receipt_notes_listed p))
      ∙ sym (or-first (any (notes_of p)) (any (receipt_notes_listed p)) (any (flat_map listings_of_fact (facts_listed p))))

  module _ (p : PresentValue) where
    abbrev sessions : List (ℕ × Session)
    sessions = entries p.sessions

    abbrev fact_in : SubmittedMessage → Fact
    fact_in m = fact_among p.settings (flat_map (session_submits p.settings) sessions) (flat_map (session_receipts p.settings) sessions) m

    abbrev any_fact : List SubmittedMessage → Bool
    any_fact ms = any (flat_map listings_of_fact (map fact_in ms))

    abbrev any_receipt : List KeyedReceipt → Bool
    any_receipt rs = any (flat_map (note_in_all p.settings (λ _. true) sessions) rs)

    listed-there : (here : LinkId → Bool) → contains_key (scratch (of_links here p)).places x
        ≡ (any (flat_map session_notes (part p.settings here sessions))
        || (any_receipt (flat_map (session_receipts p.settings) (part p.settings here sessions))
        || any_fact (flat_map (session_submits p.settings) (part p.settings here sessions))))
    listed-there here =
        listed-by (of_links here p)
        ∙ ap (λ (es : List (ℕ × Session)). any (flat_map session_notes es)
        || (any (flat_map (note_of (flat_map (session_submits p.settings) es) (flat_map (session_receipts p.settings) es))
        (flat_map (session_receipts p.settings) es))
        || any (flat_map listings_of_fact (map
        (fact_among p.settings (flat_map (session_submits p.settings) es) (flat_map (session_receipts p.settings) es))
        (flat_map (session_submits p.settings) es)))))
        (maps.entries-chosen nat_cmp_total nat_cmp-IsAntisymmetric (session_there here) p.sessions)
        ∙ (λ i. any (flat_map session_notes (part p.settings here sessions))
        || (any (notes-there p.settings here sessions i)
        || any (flat_map listings_of_fact (facts-there p.settings here sessions i))))

    either-listed : (here : LinkId → Bool) → contains_key (scratch p).places x
        ≡ (contains_key (scratch (of_links here p)).places x || contains_key (scratch (of_links (other_links here) p)).places x)
    either-listed here =
        listed-by p
        ∙ (λ i. either p.settings here session_notes any refl (any-append (same_listed x)) sessions i
        || (either p.settings here (session_receipts p.settings) any_receipt refl
        (λ rs qs. ap any (flat_map-append (note_in_all p.settings (λ _. true) sessions) rs qs)
        ∙ any-append (same_listed x) (flat_map (note_in_all p.settings (λ _. true) sessions) rs)
        (flat_map (note_in_all p.settings (λ _. true) sessions) qs)) sessions i
        || either p.settings here (session_submits p.settings) any_fact refl
        (λ ms ns. ap (λ fs. any (flat_map listings_of_fact fs)) (map-append fact_in ms ns)
        ∙ ap any (flat_map-append listings_of_fact (map fact_in ms) (map fact_in ns))
        ∙ any-append (same_listed x) (flat_map listings_of_fact (map fact_in ms)) (flat_map listings_of_fact (map fact_in ns))) sessions i))
        ∙ or-pairs (any (flat_map session_notes (part p.settings here sessions)))
        (any (flat_map session_notes (part p.settings (other_links here) sessions)))
        (any_receipt (flat_map (session_receipts p.settings) (part p.settings here sessions)))
        (any_receipt (flat_map (session_receipts p.settings) (part p.settings (other_links here) sessions)))
        (any_fact (flat_map (session_submits p.settings) (part p.settings here sessions)))
        (any_fact (flat_map (session_submits p.settings) (part p.settings (other_links here) sessions)))
        ∙ (λ i. sym (listed-there here) i || sym (listed-there (other_links here)) i)

either-of : (a b : Bool) → (a || b) ≡ true → (a ≡ true) ⊎ (b ≡ true)
either-of true b e = inl refl
either-of false b e = inr e

or-right : (a b : Bool) → b ≡ true → (a || b) ≡ true
or-right true b e = refl
or-right false b e = e

pub lists-split : (p : PresentValue) (here : LinkId → Bool) (list : l.List) (place : Place)
    → Contains (listed_in (scratch p) list) place
    ↔ (Contains (listed_in (scratch (of_links here p)) list) place ⊎ Contains (listed_in (scratch (of_links (other_links here) p)) list) place)
lists-split p here list place =
    let these : PresentValue = of_links here p in
    let those : PresentValue = of_links (other_links here) p in
    let x : Listed = listed list place in
    let both = either-listed x p here in (
      λ c. elim (either-of (contains_key (scratch these).places x) (contains_key (scratch those).places x)
          (sym both ∙ (listed-iff (scratch p) list place).0 c))
          as (λ _. Contains (listed_in (scratch these) list) place ⊎ Contains (listed_in (scratch those) list) place) [
            | inl a ↦ inl ((listed-iff (scratch these) list place).1 a)
            | inr b ↦ inr ((listed-iff (scratch those) list place).1 b)
          ],
      λ c. (listed-iff (scratch p) list place).1 (both ∙ elim c
          as (λ _. (contains_key (scratch these).places x || contains_key (scratch those).places x) ≡ true) [
            | inl a ↦ ap (λ b. b || contains_key (scratch those).places x) ((listed-iff (scratch these) list place).0 a)
            | inr b ↦ or-right (contains_key (scratch these).places x) (contains_key (scratch those).places x)
                ((listed-iff (scratch those) list place).0 b)
          ]),
    )
