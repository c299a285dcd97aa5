-- What the lines have in common with the tables of what is present.
use Rattle.std.proofs.Common.{◌≡◌, ℕ, zero, suc, ◌+◌, Bool, true, false, ◌||◌, ◌⊎◌, inl, inr, cond, List, [], ◌∷◌, ◌++◌, Option, Some, None, refl, sym, ap, ◌∙◌, subst}
use Rattle.std.specs.Prelude.{◌↔◌, Contains, IsTrue, count_by, is_some, map, option_and_then, option_map, option_to_list}
use Rattle.std.specs.FinMap.{contains_key, get, values}
use Rattle.std.specs.List.{flat_map}
use mathlib.Core.List.{map-map}
use Rattle.std.proofs.lemmas.Bool.{false≢true, or_from}
use Rattle.std.proofs.lemmas.List.Sums.{sum_by-cons}
use Rattle.smq_kit.specs.declared.place.Place.{Place}
use Rattle.smq_tally.specs.declared.fact.CountKey.{CountKey}
use Rattle.smq_tally.specs.declared.fact.Fact.{Fact}
use Rattle.smq_tally.specs.declared.list.List as l
use Rattle.smq_tally.specs.declared.list.List.TheVariants as list
use Rattle.smq_tally.specs.declared.list.Listed.{Listed}
use Rattle.smq_tally.specs.declared.outcome.Outcome.{Outcome}
use Rattle.smq_tally.specs.declared.outcome.Outcome.TheVariants as o
use Rattle.smq_tally.specs.Lists.{HasOutcomeAt, listed}
use Rattle.smq_tally.specs.Rows.{stands_in}
use Rattle.smq_tally.specs.Tables.{listed_in}
use Rattle.smq_tally.specs.within.Counting.{count_of}
use Rattle.smq_tally.proofs.Listings.{marked}
use Rattle.smq_tally.proofs.Standing.{lapsed-listed, open-listed}
use Rattle.smq_tally.proofs.Tallies.{count-tables}
use Rattle.smq_present.specs.join.Lines.{MessageLineValue}
use Rattle.smq_present.specs.declared.present.session.Session.{Session}
use Rattle.smq_present.specs.present.Present.{PresentValue}
use Rattle.smq_present.specs.pairing.Traffic.{traffic_of}
use Rattle.smq_present.specs.join.Facts.{facts_of}
use Rattle.smq_present.specs.join.Keyed.{can_decide, grouping_of}
use Rattle.smq_present.specs.join.Listings as listings
use Rattle.smq_present.specs.join.Listings.{is_traffic_list, receipt_notes}
use Rattle.smq_present.specs.join.Moves.{receipt_standings_of}
use Rattle.smq_present.specs.whole.Scratch.{scratch}
use Rattle.smq_present.specs.within.Accepted.{number_accepted}
use Rattle.smq_present.specs.within.Listings.{is_extra, list_by, note_of, stands_at}
use Rattle.smq_present.specs.within.Lists.{receipts_of, submits_of}
use Rattle.smq_present.specs.within.Messages.{SubmittedMessage}
use Rattle.smq_present.specs.within.Receipts.{KeyedReceipt, PlacedReceipt, candidates, least_receipt}
use Rattle.smq_present.proofs.lemmas.join.NotedTraffic.{said-noted, session_noted}
use Rattle.smq_present.proofs.lemmas.join.ReceiptNotes.{note-by}
use Rattle.smq_present.proofs.lemmas.join.ReceiptLists.{never-in, of-standing}
use Rattle.smq_present.proofs.lemmas.pairing.Members.{has-map, map-has}
use Rattle.smq_present.proofs.lemmas.whole.AgreePresent.{facts-are, receipts-listed}
use Rattle.smq_present.proofs.lemmas.whole.Tallied.{is-marked}
use Rattle.smq_scratch.specs.Lines.{HasLineAt, list_of, listing_of, message_line, message_lines, receipt_line, receipt_lines, standing_by}

-- ---- messages

count-map : {A B : Type 0} (test : B → Bool) (f : A → B) (xs : List A) → count_by test (map f xs) ≡ count_by (λ x. test (f x)) xs
count-map test f [] = refl
count-map test f (x ∷ xs) =
    sum_by-cons (λ y. cond (test y) 1 0) (f x) (map f xs)
    ∙ ap (λ n. cond (test (f x)) 1 0 + n) (count-map test f xs)
    ∙ sym (sum_by-cons (λ y. cond (test (f y)) 1 0) x xs)

module _ (p : PresentValue) where
  -- the facts of the lines are those by place
  pub facts-of-lines : map (λ (line : MessageLineValue). line.fact) (message_lines p) ≡ values (facts_of p.settings (traffic_of p.sessions))
  facts-of-lines =
      map-map (λ (line : MessageLineValue). line.fact) (message_line p.settings (submits_of p) (receipts_of p)) (submits_of p)
      ∙ sym (facts-are p)

  -- a count of the tables is the number of the lines whose facts stand there
  pub lines-counted : (key : CountKey) → count_of (scratch p) key ≡ count_by (λ (line : MessageLineValue). stands_in key line.fact) (message_lines p)
  lines-counted key =
      count-tables (facts_of p.settings (traffic_of p.sessions)) (listings.notes_of p.settings (traffic_of p.sessions)) key
      ∙ ap (count_by (stands_in key)) (sym facts-of-lines)
      ∙ count-map (stands_in key) (λ (line : MessageLineValue). line.fact) (message_lines p)

-- ---- receipts

-- a receipt's line gives the list in which it is
list-is : (n : ℕ) (decider : Option PlacedReceipt) (r : PlacedReceipt) → list_of (standing_by n decider r) ≡ list_by n (is_extra decider r)
list-is zero decider r = refl
list-is (suc zero) decider r = by (stands_at decider r.place) (can_decide r.receipt) refl refl
  where
    by : (stands can : Bool) → stands_at decider r.place ≡ stands → can_decide r.receipt ≡ can
        → list_of (standing_by 1 decider r) ≡ list_by 1 (is_extra decider r)
    by true true s c = rw (s, c) refl
    by true false s c = rw (s, c) refl
    by false true s c = rw (s, c) refl
    by false false s c = rw (s, c) refl
list-is (suc (suc n)) decider r = refl

pub lists-are : (submits : List SubmittedMessage) (receipts es : List KeyedReceipt)
    → flat_map listing_of (map (receipt_line submits receipts) es) ≡ flat_map (note_of submits receipts) es
lists-are submits receipts [] = refl
lists-are submits receipts (e ∷ es) =
    λ i. option_to_list (option_map (λ which. listed which e.1.place)
    (list-is (number_accepted e.0 submits) (least_receipt (candidates e.0 receipts)) e.1 i)) ++ lists-are submits receipts es i

-- the lines give the receipts that are listed
pub receipts-of-lines : (p : PresentValue) → flat_map listing_of (receipt_lines p) ≡ receipt_notes (grouping_of p.settings (traffic_of p.sessions))
receipts-of-lines p = lists-are (submits_of p) (receipts_of p) (receipts_of p) ∙ sym (receipts-listed p)

-- ---- open and lapsed messages

-- A list that has nothing that a session notes, and no receipts.
record IsOfMessages (which : l.List) (place : Place) : Type 0 where
  session : (n : ℕ) (s : Session) → session_noted n s (listed which place) ≡ false
  other : is_traffic_list which ≡ true

of-open : (place : Place) → IsOfMessages list.Open place
of-open place = record { session = λ n s. refl; other = refl }

of-lapsed : (place : Place) → IsOfMessages list.Lapsed place
of-lapsed place = record { session = λ n s. refl; other = refl }

module _ (p : PresentValue) (which : l.List) (place : Place) (h : IsOfMessages which place) where
  abbrev it : Listed
  it = listed which place

  session-none : (s : Option Session) → option_and_then (λ s. marked (session_noted place.session.0 s it)) s ≡ None
  session-none None = refl
  session-none (Some s) = ap marked (h.session place.session.0 s)

  -- nothing is noted in it
  unnoted : contains_key (listings.notes_of p.settings (traffic_of p.sessions)) it ≡ false
  unnoted =
      let t = traffic_of p.sessions in
      let x = get (receipt_standings_of (grouping_of p.settings t)) place in
      ap is_some (note-by p.settings t which place x refl)
      ∙ is-marked (contains_key t.notes it || listings.is_named which (option_and_then listings.list_of_standing x))
      ∙ or_from _ _ (ap is_some (said-noted p.sessions it ∙ session-none (get p.sessions place.session.0)))
      (never-in which (option_and_then listings.list_of_standing x) (of-standing x) h.other)

module _ (p : PresentValue) (place : Place) where
  -- a fact there is that of a line, and that of a line is there
  line-of : (outcome : Outcome) → HasOutcomeAt (facts_of p.settings (traffic_of p.sessions)) outcome place
      → HasLineAt (message_lines p) outcome place
  line-of outcome h =
      let found = map-has (λ (line : MessageLineValue). line.fact) (message_lines p) h.0
      (subst (λ (fs : List Fact). Contains fs h.0) (sym (facts-of-lines p)) h.1) in
      (found.0, found.1, ap (λ (f : Fact). f.place) found.2 ∙ h.2, ap (λ (f : Fact). f.outcome) found.2 ∙ h.3)

  fact-of : (outcome : Outcome) → HasLineAt (message_lines p) outcome place
      → HasOutcomeAt (facts_of p.settings (traffic_of p.sessions)) outcome place
  fact-of outcome h = (
    h.0.fact,
    subst (λ (fs : List Fact). Contains fs h.0.fact) (facts-of-lines p)
        (has-map (λ (line : MessageLineValue). line.fact) (message_lines p) h.0 h.1),
    h.2,
    h.3,
  )

  lines-at : (which : l.List) (outcome : Outcome) → IsOfMessages which place
      → IsTrue (contains_key (listings.notes_of p.settings (traffic_of p.sessions)) (listed which place))
      ⊎ HasOutcomeAt (facts_of p.settings (traffic_of p.sessions)) outcome place → HasLineAt (message_lines p) outcome place
  lines-at which outcome of (inl h) = absurd (false≢true (sym (unnoted p which place of) ∙ h))
  lines-at which outcome of (inr h) = line-of outcome h

  -- the open messages that are listed are those of lines
  pub open-lines : Contains (listed_in (scratch p) list.Open) place ↔ HasLineAt (message_lines p) o.Open place
  open-lines =
      let listing = open-listed (facts_of p.settings (traffic_of p.sessions)) (listings.notes_of p.settings (traffic_of p.sessions)) place in
      (λ h. lines-at list.Open o.Open (of-open place) (listing.0 h), λ h. listing.1 (inr (fact-of o.Open h)))

  pub lapsed-lines : Contains (listed_in (scratch p) list.Lapsed) place ↔ HasLineAt (message_lines p) o.Lapsed place
  lapsed-lines =
      let listing = lapsed-listed (facts_of p.settings (traffic_of p.sessions)) (listings.notes_of p.settings (traffic_of p.sessions)) place in
      (λ h. lines-at list.Lapsed o.Lapsed (of-lapsed place) (listing.0 h), λ h. listing.1 (inr (fact-of o.Lapsed h)))
