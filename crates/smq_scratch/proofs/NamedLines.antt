-- Lines for messages and lines for delivery receipts name each other.
use Rattle.std.proofs.Common.{◌≡◌, ◌⊎◌, inl, inr, ℕ, zero, suc, Bool, true, false, cond, length, List, [], ◌∷◌, Option, Some, None, refl, sym, ap, ◌∙◌, subst, arith}
use Rattle.std.specs.Prelude.{◌&&◌, Contains, filter, fold, map, option_map, option_to_list}
use Rattle.std.specs.declared.cmp.Ordering.{Ordering}
use Rattle.std.specs.declared.cmp.Ordering.TheVariants.{Less, Equal, Greater}
use Rattle.std.specs.Cmp.{tied_itself}
use Rattle.std.specs.List.{list_any}
use Rattle.std.specs.Ordering.{is_eq, min_by_ordering}
use mathlib.Core.Bool.{or-false}
use Rattle.std.proofs.lemmas.Bool.{and_parts, eqb-true}
use Rattle.std.proofs.lemmas.List.Sums.{length-filter}
use Rattle.smq_kit.specs.LinkKeys.{same_key}
use Rattle.smq_kit.specs.declared.link_key.LinkKey.{LinkKey}
use Rattle.smq_kit.specs.declared.place.Place.{Place}
use Rattle.smq_kit.proofs.MapLemmas as maps
use Rattle.smq_kit.proofs.PlaceOrders.{places_exact, places_total}
use Rattle.smq_present.specs.join.Lines.{MessageLineValue, ReceiptLineValue}
use Rattle.smq_present.specs.declared.join.lines.DecidingReceipt.{DecidingReceipt}
use Rattle.smq_present.specs.declared.join.lines.ReceiptStanding.TheVariants.{Deciding, Extra, Noted}
use Rattle.smq_group.proofs.Earliest.{one_key, own_key}
use Rattle.smq_present.specs.present.Present.{PresentValue}
use Rattle.smq_present.specs.present.Settings.{SettingsValue}
use Rattle.smq_present.specs.join.Keyed.{can_decide}
use Rattle.smq_present.specs.within.Accepted.{accepted_with, decider_of, is_single, number_accepted}
use Rattle.smq_present.specs.within.Listings.{stands_at}
use Rattle.smq_present.specs.within.Lists.{receipts_of, submits_of}
use Rattle.smq_present.specs.within.Messages.{SubmittedMessage}
use Rattle.smq_present.specs.within.Receipts.{KeyedReceipt, PlacedReceipt, candidates, earlier, least_receipt, receipt_cmp}
use Rattle.smq_present.proofs.lemmas.pairing.Members.{filter-has, first-one, has-filter, has-map, later-one, map-has, none-in, one-is}
use Rattle.smq_scratch.specs.Lines.{HasDecidingLine, HasLineNaming, accepted_among, deciding_receipt, message_line, message_lines, only_place, receipt_line, receipt_lines, standing_by}

-- ---- the least receipt is one of them

one-of-two : (o : Ordering) (a b : PlacedReceipt) → (a ≡ min_by_ordering o a b) ⊎ (b ≡ min_by_ordering o a b)
one-of-two Less a b = inl refl
one-of-two Equal a b = inl refl
one-of-two Greater a b = inr refl

fold-has : (all : List PlacedReceipt) (first : PlacedReceipt) (rest : List PlacedReceipt) → Contains all first
    → ((r : PlacedReceipt) → Contains rest r → Contains all r) → Contains all (fold earlier first rest)
fold-has all first [] h more = h
fold-has all first (next ∷ rest) h more = fold-has all (earlier first next) rest
    (elim (one-of-two (receipt_cmp first next) first next) as (λ _. Contains all (earlier first next)) [
      | inl is ↦ subst (λ r. Contains all r) is h
      | inr is ↦ subst (λ r. Contains all r) is (more next (first-one next rest))
    ]) (λ r there. more r (later-one next rest r there))

least-has : (rs : List PlacedReceipt) (r : PlacedReceipt) → least_receipt rs ≡ Some r → Contains rs r
least-has [] r e = absurd cc
least-has (first ∷ rest) r e = let is : fold earlier first rest ≡ r = cc in
    subst (λ x. Contains (first ∷ rest) x) is (fold-has (first ∷ rest) first rest (first-one first rest) (later-one first rest))

-- ---- a receipt at a place

stands-itself : (r : PlacedReceipt) → stands_at (Some r) r.place ≡ true
stands-itself r = ap is_eq (tied_itself places_total r.place)

stands-as : (o : Option PlacedReceipt) (place : Place) → stands_at o place ≡ true → (r : PlacedReceipt) × (o ≡ Some r) × (r.place ≡ place)
stands-as None place e = absurd cc
stands-as (Some r) place e = (r, refl, maps.same_key places_total places_exact r.place place e)

-- ---- the one message of a key

only-one : (ms : List SubmittedMessage) (m : SubmittedMessage) → length ms ≡ 1 → Contains ms m → only_place ms ≡ Some m.place
only-one [] m n h = none-in m h
only-one (x ∷ []) m n h = ap (λ (y : SubmittedMessage). Some y.place) (one-is x m h)
only-one (x ∷ y ∷ ms) m n h = absurd (omega (arith, n))

one-there : (ms : List SubmittedMessage) → length ms ≡ 1 → (m : SubmittedMessage) × Contains ms m × (only_place ms ≡ Some m.place)
one-there [] n = absurd (omega (arith, n))
one-there (x ∷ []) n = (x, first-one x [], refl)
one-there (x ∷ y ∷ ms) n = absurd (omega (arith, n))

accepted-own : (key : LinkKey) (k : Option LinkKey) → k ≡ Some key → list_any (same_key key) (option_to_list k) ≡ true
accepted-own key k is = rw (is, own_key key) refl

accepted-key : (key : LinkKey) (k : Option LinkKey) → list_any (same_key key) (option_to_list k) ≡ true → k ≡ Some key
accepted-key key None e = absurd cc
accepted-key key (Some k) e = ap Some (sym (one_key key k (sym (or-false (same_key key k)) ∙ e)))

-- ---- lines

module _ (s : SettingsValue) (ms : List SubmittedMessage) (rs : List KeyedReceipt) where
  -- what a message's key gives, where a receipt decides it
  decided : (k : Option LinkKey) (r : PlacedReceipt) → decider_of ms rs k ≡ Some r
      → (key : LinkKey) × (k ≡ Some key) × (number_accepted key ms ≡ 1) × (least_receipt (candidates key rs) ≡ Some r)
  decided None r d = absurd cc
  decided (Some key) r d = by (is_single ms key) refl d
    where
      by : (b : Bool) → is_single ms key ≡ b → cond b (least_receipt (candidates key rs)) None ≡ Some r
          → (k : LinkKey) × (Some key ≡ Some k) × (number_accepted k ms ≡ 1) × (least_receipt (candidates k rs) ≡ Some r)
      by true e d = (key, refl, eqb-true (number_accepted key ms) 1 e, d)
      by false e d = absurd cc

  named : (o : Option PlacedReceipt) (d : DecidingReceipt) → option_map deciding_receipt o ≡ Some d
      → (r : PlacedReceipt) × (o ≡ Some r) × (deciding_receipt r ≡ d)
  named None d e = absurd cc
  named (Some r) d e = let is : deciding_receipt r ≡ d = cc in (r, refl, is)

  standing-decides : (n : ℕ) (decider : Option PlacedReceipt) (r : PlacedReceipt) → n ≡ 1 → decider ≡ Some r → standing_by n decider r ≡ Deciding
  standing-decides n decider r one is = rw (one, is, stands-itself r) refl

  -- the receipt that a message's line names has its line
  pub receipt-named : (m : SubmittedMessage) (d : DecidingReceipt) → Contains ms m → (message_line s ms rs m).receipt ≡ Some d
      → HasDecidingLine (map (receipt_line ms rs) rs) m.place d
  receipt-named m d there e =
      let (r, decider, is) = named (decider_of ms rs m.key) d e in
      let (key, keyed, one, least) = decided m.key r decider in
      let (x, kept, same) = map-has (λ (e : KeyedReceipt). e.1) (filter (λ (e : KeyedReceipt). same_key key e.0 && can_decide e.1.receipt) rs) r
      (least-has (candidates key rs) r least) in
      let (among, passes) = filter-has (λ (e : KeyedReceipt). same_key key e.0 && can_decide e.1.receipt) rs x kept in
      let own : key ≡ x.0 = one_key key x.0 (and_parts (same_key key x.0) (can_decide x.1.receipt) passes).0 in
      let one' : number_accepted x.0 ms ≡ 1 = subst (λ k. number_accepted k ms ≡ 1) own one in
      let least' : least_receipt (candidates x.0 rs) ≡ Some x.1 =
      subst (λ k. least_receipt (candidates k rs) ≡ Some x.1) own (least ∙ ap Some (sym same)) in
      let mine : Contains (accepted_among x.0 ms) m =
      has-filter (accepted_with x.0) ms m there (accepted-own x.0 m.key (keyed ∙ ap Some own)) in
      record {
        line = receipt_line ms rs x;
        among = has-map (receipt_line ms rs) rs x among;
        place = ap (λ (y : PlacedReceipt). y.place) same ∙ ap (λ (y : DecidingReceipt). y.place) is;
        moment = ap (λ (y : PlacedReceipt). y.moment) same ∙ ap (λ (y : DecidingReceipt). y.moment) is;
        decides = standing-decides (number_accepted x.0 ms) (least_receipt (candidates x.0 rs)) x.1 one' least';
        matches = only-one (accepted_among x.0 ms) m (length-filter (accepted_with x.0) ms ∙ one') mine;
      }

  -- what a receipt's standing says where it decides
  deciding : (n : ℕ) (decider : Option PlacedReceipt) (r : PlacedReceipt) → standing_by n decider r ≡ Deciding
      → (n ≡ 1) × (stands_at decider r.place ≡ true)
  deciding zero decider r e = absurd cc
  deciding (suc zero) decider r e = by (stands_at decider r.place) (can_decide r.receipt) refl e
    where
      by : (stands can : Bool) → stands_at decider r.place ≡ stands → cond stands Deciding (cond can Extra Noted) ≡ Deciding
          → ◌≡◌ {A = ℕ} 1 1 × (stands_at decider r.place ≡ true)
      by true can s e = (refl, s)
      by false true s e = absurd cc
      by false false s e = absurd cc
  deciding (suc (suc n)) decider r e = absurd cc

  single-decider : (key : LinkKey) → number_accepted key ms ≡ 1 → decider_of ms rs (Some key) ≡ least_receipt (candidates key rs)
  single-decider key one = rw one refl

  -- the message that a receipt's line names, where it decides, has its line
  pub message-named : (x : KeyedReceipt) → (receipt_line ms rs x).standing ≡ Deciding
      → HasLineNaming (map (message_line s ms rs) ms) (receipt_line ms rs x)
  message-named x e =
      let (one, stands) = deciding (number_accepted x.0 ms) (least_receipt (candidates x.0 rs)) x.1 e in
      let (r, least, at) = stands-as (least_receipt (candidates x.0 rs)) x.1.place stands in
      let (m, kept, only) = one-there (accepted_among x.0 ms) (length-filter (accepted_with x.0) ms ∙ one) in
      let (among, passes) = filter-has (accepted_with x.0) ms m kept in
      let keyed : m.key ≡ Some x.0 = accepted-key x.0 m.key passes in
      record {
        line = message_line s ms rs m;
        among = has-map (message_line s ms rs) ms m among;
        matches = only;
        names =
            ap (λ k. option_map (λ (d : DecidingReceipt). d.place) (option_map deciding_receipt (decider_of ms rs k))) keyed
            ∙ ap (λ o. option_map (λ (d : DecidingReceipt). d.place) (option_map deciding_receipt o)) (single-decider x.0 one ∙ least)
            ∙ ap Some at;
      }

module _ (p : PresentValue) where
  pub receipts-named : (line : MessageLineValue) (d : DecidingReceipt) → Contains (message_lines p) line → line.receipt ≡ Some d
      → HasDecidingLine (receipt_lines p) line.fact.place d
  receipts-named line d among e =
      let (m, there, is) = map-has (message_line p.settings (submits_of p) (receipts_of p)) (submits_of p) line among in
      subst (λ (l : MessageLineValue). HasDecidingLine (receipt_lines p) l.fact.place d) is
      (receipt-named p.settings (submits_of p) (receipts_of p) m d there (ap (λ (l : MessageLineValue). l.receipt) is ∙ e))

  pub messages-named : (line : ReceiptLineValue) → Contains (receipt_lines p) line → line.standing ≡ Deciding
      → HasLineNaming (message_lines p) line
  messages-named line among e =
      let (x, there, is) = map-has (receipt_line (submits_of p) (receipts_of p)) (receipts_of p) line among in
      subst (λ (l : ReceiptLineValue). HasLineNaming (message_lines p) l) is
      (message-named p.settings (submits_of p) (receipts_of p) x (ap (λ (l : ReceiptLineValue). l.standing) is ∙ e))
