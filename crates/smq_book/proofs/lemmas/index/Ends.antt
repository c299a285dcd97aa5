-- The messages whose receipts are due, by the ends of their windows, change with what stands at a place and with its fact. Those
-- whose windows end after the clock and by another are the open ones that it lapses.
use Rattle.std.proofs.Common.{◌≡◌, ◌≢◌, ℕ, ◌+◌, Bool, true, false, cond, ◌||◌, List, [], ◌∷◌, Option, Some, None, refl, sym, ap, ◌∙◌, arith}
use Rattle.std.specs.Prelude.{◌==◌, ◌&&◌, not, nat_le, map, filter, option_and_then}
use Rattle.std.specs.List.{list_any}
use Rattle.std.specs.declared.cmp.Ordering.{Ordering}
use Rattle.std.specs.Ordering.{eq_by_cmp, is_eq, nat_cmp, ordering_then}
use Rattle.std.specs.Cmp.{IsTotalOrder, tied_itself}
use Rattle.std.specs.FinMap.{FinMap, IsAntisymmetric, get, insert, remove, keys, get-insert, get-remove, same_map}
use Rattle.std.specs.BTreeMap.{insert_entry, is_at}
use Rattle.std.specs.FinSet.{FinSet}
use Rattle.std.specs.List.Sorted.{IsStrictlySortedBy}
use Rattle.std.specs.Map.{keys_of, remove_entry}
use Rattle.std.proofs.lemmas.Bool.{false≢true, eqb-true}
use Rattle.std.proofs.lemmas.Bool.Decides.{nat_tests}
use Rattle.std.proofs.lemmas.Cmp.{on_total, then_total, nat_cmp_total}
use Rattle.smq_kit.specs.declared.names.LinkId.{LinkId}
use Rattle.smq_kit.specs.declared.place.Place.{Place}
use Rattle.smq_kit.specs.Maps.{set_at}
use Rattle.smq_kit.specs.Orders.{place_cmp}
use Rattle.smq_kit.proofs.MapLemmas as maps
use Rattle.smq_kit.proofs.PlaceOrders.{place-order, places_total, places_exact}
use Rattle.smq_shelf.proofs.Seen.{inserted, removed}
use Rattle.smq_tally.specs.declared.fact.Fact.{Fact}
use Rattle.smq_tally.proofs.Listings.{marked}
use Rattle.smq_book.specs.declared.index.end_at.EndAt.{EndAt}
use Rattle.smq_present.specs.present.Settings.{SettingsValue, window_in}
use Rattle.smq_present.specs.pairing.Traffic.{Message, TrafficValue}
use Rattle.smq_present.specs.join.Circumstances.{lapsed_in, window_of}
use Rattle.smq_present.specs.join.Facts.{facts_of}
use Rattle.smq_book.specs.edits.Reached.{due_by, is_due, is_open, outcome_in}
use Rattle.smq_book.specs.declared.index.due_at.DueAt.{DueAt}
use Rattle.smq_book.specs.index.Due.{due_at, due_by_fact, due_in, is_due_fact, keys_on}
use Rattle.smq_book.specs.index.Ends.{Windows, end_at, end_by_fact, end_cmp, ends_by, ends_of, ends_put, ends_taken, is_between, places_ending}
use Rattle.smq_book.specs.index.EndKeys.{kept_end_cmp, one_end}
use Rattle.smq_book.specs.index.Held.{ends_in}
use Rattle.smq_book.specs.index.PlacedKeys.{passes, with_key, without_key}
use Rattle.smq_book.proofs.lemmas.edits.Passing.{passing-at, passing-none}
use Rattle.smq_book.proofs.lemmas.index.Due.{due-open, due-placed, due_exact, due_total, place_of_due, told-due}
use Rattle.smq_book.proofs.lemmas.index.PlacedKeys as made

-- ---- their order

-- the shelf's order is that of the definitions
pub end-order : kept_end_cmp ≡ end_cmp
end-order = λ i a b. ordering_then (nat_cmp a.end b.end) (place-order i a.place b.place)

pub end_total : IsTotalOrder end_cmp
end_total = then_total (on_total (λ k. k.end) nat_cmp_total) (on_total (λ k. k.place) places_total)

pub end_exact : IsAntisymmetric end_cmp
end_exact a b e = one_end a b (ap (λ (R : EndAt → EndAt → Ordering). R a b) end-order ∙ e)

-- ---- as they are stored

-- a key that is put in or taken out
pub end-stored : (es : List (EndAt × Unit {0})) (k : EndAt) → ends_in (insert_entry kept_end_cmp es k tt) ≡ insert (ends_in es) k tt
end-stored es k = inserted end_total end_exact end-order es k tt

pub end-gone : (es : List (EndAt × Unit {0})) (k : EndAt) → IsStrictlySortedBy kept_end_cmp (keys_of es)
    → ends_in (remove_entry (is_at (kept_end_cmp k)) es) ≡ remove (ends_in es) k
end-gone es k sorted = removed end_total end_exact end-order es k sorted

-- ---- their places

abbrev pub place_of_end : EndAt → Place
place_of_end k = k.place

own_end : (q : Place) (end : ℕ) (b : Bool) (k : EndAt) → cond b (Some (end_at end q)) None ≡ Some k → k.place ≡ q
own_end q end true k e = let one : end_at end q ≡ k = cc in ap place_of_end (sym one)
own_end q end false k e = absurd cc

pub ends-placed : (windows : Windows) (facts : FinMap place_cmp Fact) → made.HasItsPlace end_total end_exact place_of_end (end_by_fact windows facts)
ends-placed windows facts = record { own = λ q m k e. own_end q (m.moment + window_in windows m.link) (is_due_fact (get facts q)) k e }

-- ---- a place whose fact or whose message is set anew

put-again : (ends : FinSet end_cmp) (k : EndAt) → insert (remove ends k) k tt ≡ insert ends k tt
put-again ends k = same_map end_total end_exact _ _ (λ j.
    get-insert end_total (remove ends k) k tt j
    ∙ ap (cond (eq_by_cmp end_cmp j k) (Some tt)) (get-remove end_total ends k j)
    ∙ hidden (eq_by_cmp end_cmp j k) (get ends j)
    ∙ sym (get-insert end_total ends k tt j))
  where
    hidden : (b : Bool) (x : Option (Unit {0})) → cond b (Some tt) (cond b None x) ≡ cond b (Some tt) x
    hidden true x = refl
    hidden false x = refl

-- a key that is set by whether it is to be there, and was there by whether it is taken out
set-by : (ends : FinSet end_cmp) (k : EndAt) (now was : Bool) → (was ≡ false → get ends k ≡ None)
    → with_key (cond now (Some k) None) (without_key (cond was (Some k) None) ends) ≡ set_at ends k (marked now)
set-by ends k true true absent = put-again ends k
set-by ends k true false absent = refl
set-by ends k false true absent = refl
set-by ends k false false absent = sym (maps.set-same end_total end_exact ends k) ∙ ap (set_at ends k) (absent refl)

module _ (windows : Windows) (messages : FinMap place_cmp Message) (facts : FinMap place_cmp Fact) (q : Place) where
  -- nothing is there of a place whose fact doesn't say that its message's receipt is due
  end-idle : (end : ℕ) (m : Message) → get messages q ≡ Some m → is_due_fact (get facts q) ≡ false
      → get (ends_by windows messages facts) (end_at end q) ≡ None
  end-idle end m is idle =
      made.get-made end_total end_exact place_of_end (end_by_fact windows facts) (ends-placed windows facts) messages (end_at end q)
      ∙ ap (λ x. marked (passes (eq_by_cmp end_cmp (end_at end q)) (option_and_then (end_by_fact windows facts q) x))) is
      ∙ ap (λ b. marked (passes (eq_by_cmp end_cmp (end_at end q)) (cond b (Some (end_at (m.moment + window_in windows m.link) q)) None))) idle

  fact-changed : (fact : Option Fact) → ends_by windows messages (set_at facts q fact)
      ≡ with_key (option_and_then (end_by_fact windows (set_at facts q fact) q) (get messages q))
      (without_key (option_and_then (end_by_fact windows facts q) (get messages q)) (ends_by windows messages facts))
  fact-changed fact =
      made.made-changed end_total end_exact place_of_end (end_by_fact windows facts) (end_by_fact windows (set_at facts q fact))
      (ends-placed windows facts) (ends-placed windows (set_at facts q fact)) messages messages q (λ p apart i.
      option_and_then (λ m. cond (is_due_fact (sym (elsewhere p apart) i)) (Some (end_at (m.moment + window_in windows m.link) p)) None) (get messages p))
    where
      elsewhere : (p : Place) → eq_by_cmp place_cmp p q ≡ false → get (set_at facts q fact) p ≡ get facts p
      elsewhere p apart = maps.get-set_at places_total places_exact facts q fact p ∙ ap (λ b. cond b fact (get facts p)) apart

  -- where a message stands, its key is there exactly where the fact that is set says that its receipt is due
  pub end-fact : (fact : Option Fact) (m : Message) → get messages q ≡ Some m
      → ends_by windows messages (set_at facts q fact)
      ≡ set_at (ends_by windows messages facts) (end_at (m.moment + window_in windows m.link) q) (marked (is_due_fact fact))
  end-fact fact m is =
      let end : ℕ = m.moment + window_in windows m.link in
      fact-changed fact
      ∙ (λ i. with_key (option_and_then (end_by_fact windows (set_at facts q fact) q) (is i))
      (without_key (option_and_then (end_by_fact windows facts q) (is i)) (ends_by windows messages facts)))
      ∙ ap (λ x. with_key (cond (is_due_fact x) (Some (end_at end q)) None) (without_key (end_by_fact windows facts q m) (ends_by windows messages facts)))
      (here fact)
      ∙ set-by (ends_by windows messages facts) (end_at end q) (is_due_fact fact) (is_due_fact (get facts q)) (end-idle end m is)
    where
      here : (fact : Option Fact) → get (set_at facts q fact) q ≡ fact
      here fact =
          maps.get-set_at places_total places_exact facts q fact q
          ∙ ap (λ r. cond (is_eq r) fact (get facts q)) (tied_itself places_total q)

  -- a fact that says of the receipt what the one before said leaves what is there
  pub end-still : (fact : Option Fact) (m : Message) → get messages q ≡ Some m → is_due_fact fact ≡ is_due_fact (get facts q)
      → ends_by windows messages (set_at facts q fact) ≡ ends_by windows messages facts
  end-still fact m is same =
      end-fact fact m is
      ∙ ap (λ b. set_at (ends_by windows messages facts) (end_at (m.moment + window_in windows m.link) q) (marked b)) same
      ∙ sym (end-fact (get facts q) m is)
      ∙ ap (ends_by windows messages) (maps.set-same places_total places_exact facts q)

  -- where none stands, the fact is idle
  pub end-fact-absent : (fact : Option Fact) → get messages q ≡ None → ends_by windows messages (set_at facts q fact) ≡ ends_by windows messages facts
  end-fact-absent fact none =
      fact-changed fact
      ∙ (λ i. with_key (option_and_then (end_by_fact windows (set_at facts q fact) q) (none i))
      (without_key (option_and_then (end_by_fact windows facts q) (none i)) (ends_by windows messages facts)))

  message-changed : (x : Option Message) → ends_by windows (set_at messages q x) facts
      ≡ with_key (option_and_then (end_by_fact windows facts q) x)
      (without_key (option_and_then (end_by_fact windows facts q) (get messages q)) (ends_by windows messages facts))
  message-changed x = made.made-set end_total end_exact place_of_end (end_by_fact windows facts) (ends-placed windows facts) messages q x

  -- a message that is put in where no fact is yet leaves what is there
  pub end-put : (m : Message) → get messages q ≡ None → get facts q ≡ None → ends_by windows (insert messages q m) facts ≡ ends_by windows messages facts
  end-put m none unknown =
      message-changed (Some m)
      ∙ (λ i. with_key (cond (is_due_fact (unknown i)) (Some (end_at (m.moment + window_in windows m.link) q)) None)
      (without_key (option_and_then (end_by_fact windows facts q) (none i)) (ends_by windows messages facts)))

  -- one of the same link and moment in its place leaves it, too
  pub end-again : (old m : Message) → get messages q ≡ Some old → old.link ≡ m.link → old.moment ≡ m.moment
      → ends_by windows (insert messages q m) facts ≡ ends_by windows messages facts
  end-again old m is link moment =
      made.made-again end_total end_exact place_of_end (end_by_fact windows facts) (ends-placed windows facts) messages q old m is
      (λ i. cond (is_due_fact (get facts q)) (Some (end_at (moment i + window_in windows (link i)) q)) None)

  -- one that is taken out takes its key with it, if that is there
  pub end-taken : (m : Message) → get messages q ≡ Some m
      → ends_by windows (remove messages q) facts ≡ remove (ends_by windows messages facts) (end_at (m.moment + window_in windows m.link) q)
  end-taken m is =
      message-changed None
      ∙ ap (λ x. without_key (option_and_then (end_by_fact windows facts q) x) (ends_by windows messages facts)) is
      ∙ set-by (ends_by windows messages facts) (end_at (m.moment + window_in windows m.link) q) false (is_due_fact (get facts q))
      (end-idle (m.moment + window_in windows m.link) m is)

-- ---- the places of those whose windows end

and_joined : (a b c : Bool) → (a && (b && c)) ≡ ((a && b) && c)
and_joined true b c = refl
and_joined false b c = refl

later_is : (end clock : ℕ) → nat_le (clock + 1) end ≡ not (nat_le end clock)
later_is end clock = grind (arith, nat_tests)

module _ (s : SettingsValue) (t : TrafficValue) (q : Place) where
  passes-end : (test : EndAt → Bool) (m : Message) (b : Bool)
      → passes test (cond b (Some (end_at (m.moment + window_in s.windows m.link) q)) None) ≡ (b && test (end_at (m.moment + window_in s.windows m.link) q))
  passes-end test m true = refl
  passes-end test m false = refl

  -- the places of the keys that pass a test
  end-passing : (test : EndAt → Bool) → list_any (eq_by_cmp place_cmp q) (map (λ k. k.place) (filter test (keys (ends_of s t))))
      ≡ passes test (option_and_then (end_by_fact s.windows (facts_of s t) q) (get t.messages q))
  end-passing test =
      made.places-made end_total end_exact place_of_end (end_by_fact s.windows (facts_of s t)) (ends-placed s.windows (facts_of s t)) t.messages test q

  module _ (clock : ℕ) where
    abbrev test_ended : Place → Message → Bool
    test_ended place m = is_open (outcome_in s t m) && nat_le (m.moment + window_of s m.link) clock

    -- the key of a message that stands there passes exactly where it is open and its window has ended by the other clock
    pub ending-there : (m : Message) → get t.messages q ≡ Some m
        → passes (is_between s.clock clock) (end_by_fact s.windows (facts_of s t) q m)
        ≡ (is_open (outcome_in s t m) && nat_le (m.moment + window_of s m.link) clock)
    ending-there m is =
        let ends : Bool = nat_le (m.moment + window_of s m.link) clock in
        passes-end (is_between s.clock clock) m (is_due_fact (get (facts_of s t) q))
        ∙ ap (λ b. b && (nat_le (s.clock + 1) (m.moment + window_of s m.link) && ends)) (told-due s t q m is)
        ∙ ap (λ b. is_due (outcome_in s t m) && (b && ends)) (later_is (m.moment + window_of s m.link) s.clock)
        ∙ and_joined (is_due (outcome_in s t m)) (not (lapsed_in s m)) ends
        ∙ ap (λ b. b && ends) (due-open s t q m)

    ending-by : (x : Option Message) → get t.messages q ≡ x
        → passes (is_between s.clock clock) (option_and_then (end_by_fact s.windows (facts_of s t) q) x)
        ≡ list_any (eq_by_cmp place_cmp q) (keys (due_by s t clock))
    ending-by None is = sym (passing-none test_ended t.messages q is)
    ending-by (Some m) is = ending-there m is ∙ sym (passing-at test_ended t.messages q m is)

    -- those whose windows end after the clock and by another are the open messages whose windows have ended by that
    pub end-ending : list_any (eq_by_cmp place_cmp q) (places_ending s.clock clock (ends_of s t))
        ≡ list_any (eq_by_cmp place_cmp q) (keys (due_by s t clock))
    end-ending = end-passing (is_between s.clock clock) ∙ ending-by (get t.messages q) refl

-- ---- ends by other windows, that differ in a link's

itself : (p q : Place) → p ≡ q → eq_by_cmp place_cmp p q ≡ true
itself p q same = ap (λ (r : Place). eq_by_cmp place_cmp p r) (sym same) ∙ ap is_eq (tied_itself places_total p)

itself_number : (n : ℕ) → (n == n) ≡ true
itself_number n = grind (arith, nat_tests)

-- whether a key passes of a list, by place
module _ (test : DueAt → Bool) (e : EndAt) (end : DueAt → EndAt) (placed : (k : DueAt) → (end k).place ≡ k.place) where
  any-placed : (ks : List DueAt) → list_any (λ k. eq_by_cmp end_cmp e (end k)) (filter test ks)
      ≡ list_any (eq_by_cmp place_cmp e.place) (map (λ k. k.place) (filter (λ k. test k && eq_by_cmp end_cmp e (end k)) ks))
  any-placed [] = refl
  any-placed (k ∷ ks) = by (any-placed ks) (test k) (eq_by_cmp end_cmp e (end k)) refl
    where
      later : List DueAt
      later = filter (λ k. test k && eq_by_cmp end_cmp e (end k)) ks

      by : list_any (λ k. eq_by_cmp end_cmp e (end k)) (filter test ks)
          ≡ list_any (eq_by_cmp place_cmp e.place) (map (λ k. k.place) (filter (λ k. test k && eq_by_cmp end_cmp e (end k)) ks))
          → (t is : Bool) → eq_by_cmp end_cmp e (end k) ≡ is
          → list_any (λ k. eq_by_cmp end_cmp e (end k)) (cond t (k ∷ filter test ks) (filter test ks))
          ≡ list_any (eq_by_cmp place_cmp e.place) (map (λ k. k.place) (cond (t && is) (k ∷ later) later))
      by rest true true same =
          let here : e.place ≡ k.place = ap place_of_end (maps.same_key end_total end_exact e (end k) same) ∙ placed k in
          ap (λ b. b || list_any (λ k. eq_by_cmp end_cmp e (end k)) (filter test ks)) same
          ∙ ap (λ b. b || list_any (eq_by_cmp place_cmp e.place) (map (λ k. k.place) later)) (sym (itself e.place k.place here))
      by rest true false same = ap (λ b. b || list_any (λ k. eq_by_cmp end_cmp e (end k)) (filter test ks)) same ∙ rest
      by rest false true same = rest
      by rest false false same = rest

-- what taking and putting leave at a key
get-taken : (window : ℕ) (ks : List DueAt) (ends : FinSet end_cmp) (e : EndAt)
    → get (ends_taken window ends ks) e ≡ cond (list_any (λ k. eq_by_cmp end_cmp e (end_at (k.moment + window) k.place)) ks) None (get ends e)
get-taken window [] ends e = refl
get-taken window (k ∷ ks) ends e =
    let here : EndAt = end_at (k.moment + window) k.place in
    get-taken window ks (remove ends here) e
    ∙ ap (cond (list_any (λ k. eq_by_cmp end_cmp e (end_at (k.moment + window) k.place)) ks) None) (get-remove end_total ends here e)
    ∙ gone (list_any (λ k. eq_by_cmp end_cmp e (end_at (k.moment + window) k.place)) ks) (eq_by_cmp end_cmp e here) (get ends e)
  where
    gone : (a b : Bool) (x : Option (Unit {0})) → cond a None (cond b None x) ≡ cond (b || a) None x
    gone true true x = refl
    gone true false x = refl
    gone false true x = refl
    gone false false x = refl

get-put : (window : ℕ) (ks : List DueAt) (ends : FinSet end_cmp) (e : EndAt)
    → get (ends_put window ends ks) e ≡ cond (list_any (λ k. eq_by_cmp end_cmp e (end_at (k.moment + window) k.place)) ks) (Some tt) (get ends e)
get-put window [] ends e = refl
get-put window (k ∷ ks) ends e =
    let here : EndAt = end_at (k.moment + window) k.place in
    get-put window ks (insert ends here tt) e
    ∙ ap (cond (list_any (λ k. eq_by_cmp end_cmp e (end_at (k.moment + window) k.place)) ks) (Some tt)) (get-insert end_total ends here tt e)
    ∙ there (list_any (λ k. eq_by_cmp end_cmp e (end_at (k.moment + window) k.place)) ks) (eq_by_cmp end_cmp e here) (get ends e)
  where
    there : (a b : Bool) (x : Option (Unit {0})) → cond a (Some tt) (cond b (Some tt) x) ≡ cond (b || a) (Some tt) x
    there true true x = refl
    there true false x = refl
    there false true x = refl
    there false false x = refl

module _ (messages : FinMap place_cmp Message) (facts : FinMap place_cmp Fact) (link : LinkId) (before after : Windows)
    (others : (l : LinkId) → l ≢ link → window_in before l ≡ window_in after l) where
  abbrev ks : List DueAt
  ks = keys_on link (due_in messages facts)

  -- which of the link's keys has an end by a window
  any-on : (window : ℕ) (e : EndAt) → list_any (λ k. eq_by_cmp end_cmp e (end_at (k.moment + window) k.place)) ks
      ≡ passes (λ k. k.link.0 == link.0 && eq_by_cmp end_cmp e (end_at (k.moment + window) k.place))
      (option_and_then (due_by_fact facts e.place) (get messages e.place))
  any-on window e =
      any-placed (λ k. k.link.0 == link.0) e (λ k. end_at (k.moment + window) k.place) (λ k. refl) (keys (due_in messages facts))
      ∙ made.places-made due_total due_exact place_of_due (due_by_fact facts) (due-placed facts) messages
      (λ k. k.link.0 == link.0 && eq_by_cmp end_cmp e (end_at (k.moment + window) k.place)) e.place

  get-ends : (windows : Windows) (e : EndAt) → get (ends_by windows messages facts) e
      ≡ marked (passes (eq_by_cmp end_cmp e) (option_and_then (end_by_fact windows facts e.place) (get messages e.place)))
  get-ends windows e = made.get-made end_total end_exact place_of_end (end_by_fact windows facts) (ends-placed windows facts) messages e

  -- of one message
  moved-by : (e : EndAt) (m : Message) (due on : Bool) → (m.link.0 == link.0) ≡ on
      → cond (passes (λ k. k.link.0 == link.0 && eq_by_cmp end_cmp e (end_at (k.moment + window_in after link) k.place))
      (cond due (Some (due_at m.link m.moment e.place)) None)) (Some tt)
      (cond (passes (λ k. k.link.0 == link.0 && eq_by_cmp end_cmp e (end_at (k.moment + window_in before link) k.place))
      (cond due (Some (due_at m.link m.moment e.place)) None)) None
      (marked (passes (eq_by_cmp end_cmp e) (cond due (Some (end_at (m.moment + window_in before m.link) e.place)) None))))
      ≡ marked (passes (eq_by_cmp end_cmp e) (cond due (Some (end_at (m.moment + window_in after m.link) e.place)) None))
  moved-by e m false on is = refl
  moved-by e m true true is =
      let same : m.link ≡ link = (let n = eqb-true m.link.0 link.0 is in λ i. record { 0 = n i }) in
      (λ i. cond (is i && eq_by_cmp end_cmp e (end_at (m.moment + window_in after link) e.place)) (Some tt)
      (cond (is i && eq_by_cmp end_cmp e (end_at (m.moment + window_in before link) e.place)) None
      (marked (eq_by_cmp end_cmp e (end_at (m.moment + window_in before (same i)) e.place)))))
      ∙ either (eq_by_cmp end_cmp e (end_at (m.moment + window_in after link) e.place))
      (eq_by_cmp end_cmp e (end_at (m.moment + window_in before link) e.place))
      ∙ ap (λ (l : LinkId). marked (eq_by_cmp end_cmp e (end_at (m.moment + window_in after l) e.place))) (sym same)
    where
      either : (a b : Bool) → cond a (Some tt) (cond b None (marked b)) ≡ marked a
      either true b = refl
      either false true = refl
      either false false = refl
  moved-by e m true false is =
      let apart : m.link ≢ link = λ same. false≢true (sym is ∙ ap (λ (l : LinkId). l.0 == link.0) same ∙ itself_number link.0) in
      (λ i. cond (is i && eq_by_cmp end_cmp e (end_at (m.moment + window_in after link) e.place)) (Some tt)
      (cond (is i && eq_by_cmp end_cmp e (end_at (m.moment + window_in before link) e.place)) None
      (marked (eq_by_cmp end_cmp e (end_at (m.moment + others m.link apart i) e.place)))))

  moved-at : (e : EndAt) (x : Option Message)
      → cond (passes (λ k. k.link.0 == link.0 && eq_by_cmp end_cmp e (end_at (k.moment + window_in after link) k.place))
      (option_and_then (due_by_fact facts e.place) x)) (Some tt)
      (cond (passes (λ k. k.link.0 == link.0 && eq_by_cmp end_cmp e (end_at (k.moment + window_in before link) k.place))
      (option_and_then (due_by_fact facts e.place) x)) None
      (marked (passes (eq_by_cmp end_cmp e) (option_and_then (end_by_fact before facts e.place) x))))
      ≡ marked (passes (eq_by_cmp end_cmp e) (option_and_then (end_by_fact after facts e.place) x))
  moved-at e None = refl
  moved-at e (Some m) = moved-by e m (is_due_fact (get facts e.place)) (m.link.0 == link.0) refl

  -- those of the link's messages are taken out by the one and put in by the other
  pub ends-moved : ends_put (window_in after link) (ends_taken (window_in before link) (ends_by before messages facts) ks) ks
      ≡ ends_by after messages facts
  ends-moved = same_map end_total end_exact _ _ (λ e.
      get-put (window_in after link) ks (ends_taken (window_in before link) (ends_by before messages facts) ks) e
      ∙ ap (cond (list_any (λ k. eq_by_cmp end_cmp e (end_at (k.moment + window_in after link) k.place)) ks) (Some tt))
      (get-taken (window_in before link) ks (ends_by before messages facts) e)
      ∙ (λ i. cond (any-on (window_in after link) e i) (Some tt) (cond (any-on (window_in before link) e i) None (get-ends before e i)))
      ∙ moved-at e (get messages e.place)
      ∙ sym (get-ends after e))
