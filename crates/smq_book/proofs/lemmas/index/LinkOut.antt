-- What has a key on a link is taken out of traffic, and put in again.
use Rattle.std.proofs.Common.{◌≡◌, ◌≢◌, ℕ, Bool, true, false, cond, ◌+◌, List, [], ◌∷◌, ◌++◌, length, Option, Some, None, refl, sym, ap, ◌∙◌, subst, arith}
use Rattle.std.specs.Prelude.{T, ◌==◌, ◌&&◌, not, map, is_some, option_map, option_to_list}
use Rattle.std.specs.List.{AllByRecursion}
use Rattle.std.specs.Cmp.{tied_itself}
use Rattle.std.specs.declared.cmp.Ordering.TheVariants.{Equal, Less}
use Rattle.std.specs.Ordering.{eq_by_cmp}
use Rattle.std.specs.FinMap.{FinMap, entries, entries_sorted, get, get-remove, is_sorted, keys, remove}
use Rattle.std.specs.FinMap.Entries.{below_all}
use Rattle.std.proofs.lemmas.Bool.{eq-eqb, false≢true}
use Rattle.smq_kit.specs.declared.names.LinkId.{LinkId}
use Rattle.smq_kit.specs.declared.place.Dir.{Dir}
use Rattle.smq_kit.specs.declared.place.Dir.TheVariants.{FromClient, FromCentre}
use Rattle.smq_kit.specs.declared.place.Place.{Place}
use Rattle.smq_kit.specs.Orders.{place_cmp}
use Rattle.smq_kit.proofs.Comparisons.{first_test, is_less, second_test}
use Rattle.smq_kit.proofs.MapLemmas as maps
use Rattle.smq_kit.proofs.PlaceOrders.{places_total, places_exact}
use Rattle.smq_tally.specs.Lists.{listed_set}
use Rattle.smq_book.specs.declared.index.stored.Item.{Item}
use Rattle.smq_book.specs.declared.index.stored.Item.TheVariants as said
use Rattle.smq_present.specs.present.Settings.{SettingsValue, forms_of}
use Rattle.smq_present.specs.pairing.Traffic.{Message, ReceivedReceipt, TrafficValue}
use Rattle.smq_book.specs.edits.Reached.{link_receipts, passing}
use Rattle.smq_present.specs.join.Keyed.{accepted_id}
use Rattle.smq_present.specs.join.Listings.{receipt_notes}
use Rattle.smq_present.specs.join.Moves.{Move, PutMessage, PutReceipt, TakeMessage, TakeReceipt, moved, moved_by}
use Rattle.smq_book.specs.index.Coming.{AreNew}
use Rattle.smq_book.specs.index.Due.{due_in}
use Rattle.smq_book.specs.index.Ends.{ends_by}
use Rattle.smq_book.specs.index.Held.{Holding, IsHeld, IsTraffic, KeepsTraffic, traffic_held}
use Rattle.smq_book.specs.index.LinkOut.{accepted_on, all_said, found_in_turn, is_accepted, keyed_on, keyed_places, put_of, item_at, item_in, take_at, take_in}
use Rattle.smq_book.specs.index.Numbered.{numbers_of}
use Rattle.smq_book.proofs.lemmas.edits.LinkMoves.{passing-again, passing-taken}
use Rattle.smq_book.proofs.lemmas.edits.Passing.{entries-passing, passing-does}
use Rattle.smq_book.proofs.lemmas.index.Coming.{puts-back-new}
use Rattle.smq_present.proofs.lemmas.join.OtherForms.{facts-ignore, grouping-ignores}

-- one move more is made, and the others are left
pub moves-more : (g h : TrafficValue) (move : Move) (left rest : List Move) (all : TrafficValue) → h ≡ moved_by g (move ∷ []) → left ≡ move ∷ rest
    → moved_by g left ≡ all → moved_by h rest ≡ all
moves-more g h move left rest all is next so = ap (λ (t : TrafficValue). moved_by t rest) is ∙ sym (ap (moved_by g) next) ∙ so

-- ---- messages at their places, then delivery receipts

abbrev pub IsThere : TrafficValue → Place × Item → Type 0
IsThere t e = item_at t e.0 ≡ Some e.1

-- what holds of all messages and of all receipts holds of all
pub all-of : (P : Place × Item → Type 0) (ms : List (Place × Message)) (rs : List (Place × ReceivedReceipt))
    → AllByRecursion (λ (e : Place × Message). P (e.0, said.Message e.1)) ms
    → AllByRecursion (λ (e : Place × ReceivedReceipt). P (e.0, said.Receipt e.1)) rs → AllByRecursion P (all_said ms rs)
all-of P [] [] a b = tt
all-of P [] (r ∷ rs) a b = (b.0, all-of P [] rs a b.1)
all-of P (m ∷ ms) rs a b = (a.0, all-of P ms rs a.1 b)

-- what holds of each, where one statement gives the other
pub weaker : {X : Type 0} (P Q : X → Type 0) → ((x : X) → P x → Q x) → (xs : List X) → AllByRecursion P xs → AllByRecursion Q xs
weaker P Q f [] a = tt
weaker P Q f (x ∷ xs) a = (f x a.0, weaker P Q f xs a.1)

-- their places
pub places-of : (ms : List (Place × Message)) (rs : List (Place × ReceivedReceipt))
    → map (λ (e : Place × Item). e.0) (all_said ms rs) ≡ map (λ e. e.0) ms ++ map (λ e. e.0) rs
places-of [] [] = refl
places-of [] (r ∷ rs) = ap (λ (qs : List Place). r.0 ∷ qs) (places-of [] rs)
places-of (m ∷ ms) rs = ap (λ (qs : List Place). m.0 ∷ qs) (places-of ms rs)

pub length-all : (ms : List (Place × Message)) (rs : List (Place × ReceivedReceipt)) → length (all_said ms rs) ≡ length ms + length rs
length-all [] [] = refl
length-all [] (r ∷ rs) = let rest = length-all [] rs in omega (arith, rest)
length-all (m ∷ ms) rs = let rest = length-all ms rs in omega (arith, rest)

-- they are put in
puts-of : (ms : List (Place × Message)) (rs : List (Place × ReceivedReceipt)) → map put_of (all_said ms rs) ≡ map PutMessage ms ++ map PutReceipt rs
puts-of [] [] = refl
puts-of [] (r ∷ rs) = ap (λ (ms : List Move). PutReceipt r ∷ ms) (puts-of [] rs)
puts-of (m ∷ ms) rs = ap (λ (ms : List Move). PutMessage m ∷ ms) (puts-of ms rs)

-- and taken out, in their directions
takes-of : (ms : List (Place × Message)) (rs : List (Place × ReceivedReceipt))
    → AllByRecursion (λ (e : Place × Message). e.0.dir ≡ FromClient) ms → AllByRecursion (λ (e : Place × ReceivedReceipt). e.0.dir ≡ FromCentre) rs
    → map take_at (map (λ e. e.0) ms ++ map (λ e. e.0) rs) ≡ map (λ e. TakeMessage e.0) ms ++ map (λ e. TakeReceipt e.0) rs
takes-of [] [] a b = refl
takes-of [] (r ∷ rs) a b = λ i. take_in (b.0 i) r.0 ∷ takes-of [] rs a b.1 i
takes-of (m ∷ ms) rs a b = λ i. take_in (a.0 i) m.0 ∷ takes-of ms rs a.1 b i

-- ---- what is found where each is taken out in turn

not-tied : (k q : Place) → place_cmp k q ≡ Less → (b : Bool) → eq_by_cmp place_cmp q k ≡ b → b ≡ false
not-tied k q less true t =
    let same : q ≡ k = maps.same_key places_total places_exact q k t in
    absurd (less-not-equal (sym less ∙ ap (place_cmp k) same ∙ tied_itself places_total k))
  where
    less-not-equal : Less ≡ Equal → ⊥
    less-not-equal e = absurd cc
not-tied k q less false t = refl

still-there : {X : Type 0} (m : FinMap place_cmp X) (k : Place) (es : List (Place × X)) → T (below_all place_cmp k es)
    → AllByRecursion (λ e. get m e.0 ≡ Some e.1) es → AllByRecursion (λ e. get (remove m k) e.0 ≡ Some e.1) es
still-there m k [] h a = tt
still-there m k (e ∷ es) h a =
    let apart = not-tied k e.0 (is_less (place_cmp k e.0) (first_test _ _ h)) (eq_by_cmp place_cmp e.0 k) refl in (
      get-remove places_total m k e.0 ∙ ap (λ b. cond b None (get m e.0)) apart ∙ a.0,
      still-there m k es (second_test _ _ h) a.1,
    )

-- the first of them
found-first : (t : TrafficValue) (e : Place × Item) (d : Dir) (qs : List Place) (es : List (Place × Item)) → e.0.dir ≡ d → item_in d t e.0 ≡ Some e.1
    → found_in_turn (moved t (take_in d e.0)) qs ≡ es → found_in_turn t (e.0 ∷ qs) ≡ e ∷ es
found-first t e d qs es at there later =
    (λ i. option_to_list (option_map (λ x. (e.0, x)) (item_in (at i) t e.0)) ++ found_in_turn (moved t (take_in (at i) e.0)) qs)
    ∙ (λ i. option_to_list (option_map (λ x. (e.0, x)) (there i)) ++ later i)

found : (t : TrafficValue) (ms : List (Place × Message)) (rs : List (Place × ReceivedReceipt)) → T (is_sorted place_cmp ms) → T (is_sorted place_cmp rs)
    → AllByRecursion (λ (e : Place × Message). e.0.dir ≡ FromClient) ms → AllByRecursion (λ (e : Place × ReceivedReceipt). e.0.dir ≡ FromCentre) rs
    → AllByRecursion (λ (e : Place × Message). get t.messages e.0 ≡ Some e.1) ms
    → AllByRecursion (λ (e : Place × ReceivedReceipt). get t.receipts e.0 ≡ Some e.1) rs
    → found_in_turn t (map (λ e. e.0) ms ++ map (λ e. e.0) rs) ≡ all_said ms rs
found t [] [] h k a b c d = refl
found t [] (r ∷ rs) h k a b c d =
    found-first t (r.0, said.Receipt r.1) FromCentre (map (λ (e : Place × ReceivedReceipt). e.0) rs) (all_said [] rs) b.0 (ap (option_map said.Receipt) d.0)
    (found (moved t (TakeReceipt r.0)) [] rs h (second_test _ _ k) a b.1 c (still-there t.receipts r.0 rs (first_test _ _ k) d.1))
found t (m ∷ ms) rs h k a b c d =
    found-first t (m.0, said.Message m.1) FromClient (map (λ (e : Place × Message). e.0) ms ++ map (λ (e : Place × ReceivedReceipt). e.0) rs) (all_said ms rs)
    a.0 (ap (option_map said.Message) c.0)
    (found (moved t (TakeMessage m.0)) ms rs (second_test _ _ h) k a.1 b (still-there t.messages m.0 ms (first_test _ _ h) c.1) d)

-- ---- what passes a test in traffic as sessions say it

module _ (t : TrafficValue) (is : IsTraffic t) (f : Place → Message → Bool) (g : Place → ReceivedReceipt → Bool) where
  abbrev messages : List (Place × Message)
  messages = entries (passing f t.messages)

  abbrev receipts : List (Place × ReceivedReceipt)
  receipts = entries (passing g t.receipts)

  from-client : AllByRecursion (λ (e : Place × Message). e.0.dir ≡ FromClient) messages
  from-client = weaker (λ (e : Place × Message). get t.messages e.0 ≡ Some e.1) (λ (e : Place × Message). e.0.dir ≡ FromClient)
      (λ e there. is.messages e.0 e.1 there) messages (entries-passing f t.messages)

  from-centre : AllByRecursion (λ (e : Place × ReceivedReceipt). e.0.dir ≡ FromCentre) receipts
  from-centre = weaker (λ (e : Place × ReceivedReceipt). get t.receipts e.0 ≡ Some e.1) (λ (e : Place × ReceivedReceipt). e.0.dir ≡ FromCentre)
      (λ e there. is.receipts e.0 e.1 there) receipts (entries-passing g t.receipts)

  -- it stands where it is said to
  pub all-there : AllByRecursion (IsThere t) (all_said messages receipts)
  all-there = all-of (IsThere t) messages receipts
      (weaker (λ (e : Place × Message). get t.messages e.0 ≡ Some e.1) (λ (e : Place × Message). IsThere t (e.0, said.Message e.1))
      (λ e there. ap (λ (d : Dir). item_in d t e.0) (is.messages e.0 e.1 there) ∙ ap (option_map said.Message) there) messages (entries-passing f t.messages))
      (weaker (λ (e : Place × ReceivedReceipt). get t.receipts e.0 ≡ Some e.1) (λ (e : Place × ReceivedReceipt). IsThere t (e.0, said.Receipt e.1))
      (λ e there. ap (λ (d : Dir). item_in d t e.0) (is.receipts e.0 e.1 there) ∙ ap (option_map said.Receipt) there) receipts (entries-passing g t.receipts))

-- ---- what has a key on a link is out, and put in again

unaccepted : (link : LinkId) (m : Message) → not (m.link.0 == link.0 && is_accepted m) ≡ true → m.link ≡ link → accepted_id m.response ≡ None
unaccepted link m passes is =
    by (accepted_id m.response) (ap (λ b. not (b && is_accepted m)) (sym (ap (λ (l : LinkId). l.0 == link.0) is ∙ eq-eqb link.0 link.0 refl)) ∙ passes)
  where
    by : (id : Option (List ℕ)) → not (is_some id) ≡ true → id ≡ None
    by None e = refl
    by (Some x) e = absurd (false≢true e)

not_on : (link : LinkId) (r : ReceivedReceipt) → not (r.link.0 == link.0) ≡ true → r.link ≢ link
not_on link r passes is =
    false≢true (ap not (sym (ap (λ (l : LinkId). l.0 == link.0) is ∙ eq-eqb link.0 link.0 refl)) ∙ passes)

module _ (link : LinkId) (t : TrafficValue) (is : IsTraffic t) where
  abbrev accepted : Place → Message → Bool
  accepted q m = m.link.0 == link.0 && is_accepted m

  abbrev on_link : Place → ReceivedReceipt → Bool
  on_link q r = r.link.0 == link.0

  -- the traffic without it
  abbrev without : TrafficValue
  without = record t { messages = passing (λ q m. not (accepted q m)) t.messages; receipts = passing (λ q r. not (on_link q r)) t.receipts }

  pub keyed-found : found_in_turn t (keyed_places link t) ≡ keyed_on link t
  keyed-found = found t (messages t is accepted on_link) (receipts t is accepted on_link)
      (entries_sorted (accepted_on link t)) (entries_sorted (link_receipts link t))
      (from-client t is accepted on_link) (from-centre t is accepted on_link) (entries-passing accepted t.messages) (entries-passing on_link t.receipts)

  -- each stands in its direction
  pub keyed-stand : AllByRecursion (λ (e : Place × Item). KeepsTraffic (put_of e)) (keyed_on link t)
  keyed-stand = all-of (λ (e : Place × Item). KeepsTraffic (put_of e)) (messages t is accepted on_link) (receipts t is accepted on_link)
      (from-client t is accepted on_link) (from-centre t is accepted on_link)

  module _ (u : TrafficValue) (out : u ≡ moved_by t (map take_at (keyed_places link t))) where
    left : u ≡ without
    left = out
        ∙ ap (moved_by t) (takes-of (messages t is accepted on_link) (receipts t is accepted on_link)
        (from-client t is accepted on_link) (from-centre t is accepted on_link))
        ∙ passing-taken accepted on_link t

    -- nothing of the link has a key then
    pub no-message-left : (q : Place) (m : Message) → get u.messages q ≡ Some m → m.link ≡ link → accepted_id m.response ≡ None
    no-message-left q m there = unaccepted link m
        (passing-does (λ q m. not (accepted q m)) t.messages q m (ap (λ (u : TrafficValue). get u.messages q) (sym left) ∙ there))

    pub no-receipt-left : (q : Place) (r : ReceivedReceipt) → get u.receipts q ≡ Some r → r.link ≢ link
    no-receipt-left q r there = not_on link r
        (passing-does (λ q r. not (on_link q r)) t.receipts q r (ap (λ (u : TrafficValue). get u.receipts q) (sym left) ∙ there))

    -- what is put in again is new
    pub keyed-new : AreNew u (map put_of (keyed_on link t))
    keyed-new = subst (λ moves. AreNew u moves) (sym (puts-of (messages t is accepted on_link) (receipts t is accepted on_link)))
        (puts-back-new accepted on_link t u (ap (λ (u : TrafficValue). u.messages) left) (ap (λ (u : TrafficValue). u.receipts) left))

    -- and the traffic is as it was after it
    pub in-again : moved_by u (map put_of (keyed_on link t)) ≡ t
    in-again =
        ap (moved_by u) (puts-of (messages t is accepted on_link) (receipts t is accepted on_link))
        ∙ ap (λ (u : TrafficValue). moved_by u (map PutMessage (messages t is accepted on_link) ++ map PutReceipt (receipts t is accepted on_link))) left
        ∙ passing-again accepted on_link t

-- while it is out, its forms are idle
module _ (s z : SettingsValue) (link : LinkId) (h : Holding)
    (windows : s.windows ≡ z.windows) (versions : s.versions ≡ z.versions) (clock : s.clock ≡ z.clock)
    (others : (l : LinkId) → l ≢ link → forms_of s l ≡ forms_of z l) (is : IsHeld s h)
    (no_message : (q : Place) (m : Message) → get (traffic_held h).messages q ≡ Some m → m.link ≡ link → accepted_id m.response ≡ None)
    (no_receipt : (q : Place) (r : ReceivedReceipt) → get (traffic_held h).receipts q ≡ Some r → r.link ≢ link) where
  pub held-idle : IsHeld z h
  held-idle =
      let u = traffic_held h in
      let groups = grouping-ignores s z u link windows versions clock others no_message no_receipt in
      let facts = facts-ignore s z u link windows versions clock others no_message no_receipt in
      record {
        held = is.held ∙ (λ i. record {
          messages = u.messages;
          receipts = u.receipts;
          members = groups i;
          facts = facts i;
          notes = listed_set (keys u.notes ++ receipt_notes (groups i));
          due = due_in u.messages (facts i);
          ends = ends_by (windows i) u.messages (facts i);
          numbers = numbers_of u;
        });
        traffic = is.traffic;
      }
