-- The messages whose receipts are due, by link and moment, change with what stands at a place and with its fact. Those whose windows
-- end by a clock are the open ones that it lapses, and those of a link are its open and lapsed ones.
use Rattle.std.proofs.Common.{◌≡◌, ℕ, Bool, true, false, cond, List, Option, Some, None, refl, sym, ap, ◌∙◌, arith}
use Rattle.std.specs.Prelude.{◌==◌, ◌&&◌, not, map, filter, is_none, is_some, option_and_then, option_map}
use Rattle.std.specs.List.{list_any}
use Rattle.std.specs.declared.cmp.Ordering.{Ordering}
use Rattle.std.specs.declared.cmp.Ordering.TheVariants.{Less, Equal, Greater}
use Rattle.std.specs.Ordering.{eq_by_cmp, is_eq, nat_cmp, ordering_then}
use Rattle.std.specs.Cmp.{IsTotalOrder, tied_itself}
use Rattle.std.specs.FinMap.{FinMap, IsAntisymmetric, get, insert, remove, keys, get-insert, get-remove, same_map}
use Rattle.std.specs.BTreeMap.{insert_entry, is_at}
use Rattle.std.specs.FinSet.{FinSet}
use Rattle.std.specs.List.Sorted.{IsStrictlySortedBy}
use Rattle.std.specs.Map.{keys_of, remove_entry}
use Rattle.std.proofs.lemmas.Bool.Decides.{nat_tests}
use Rattle.std.proofs.lemmas.Cmp.{on_total, then_total, nat_cmp_total}
use Rattle.smq_kit.specs.declared.names.LinkId.{LinkId}
use Rattle.smq_kit.specs.declared.place.Place.{Place}
use Rattle.smq_kit.specs.Maps.{SameOutside, set_at}
use Rattle.smq_kit.specs.Orders.{place_cmp}
use Rattle.smq_kit.proofs.Comparisons.{then_equal}
use Rattle.smq_kit.proofs.MapLemmas as maps
use Rattle.smq_kit.proofs.PlaceOrders.{place-order, places_total, places_exact}
use Rattle.smq_shelf.proofs.Seen.{inserted, removed}
use Rattle.smq_tally.specs.declared.fact.Fact.{Fact}
use Rattle.smq_tally.proofs.Listings.{marked}
use Rattle.smq_book.specs.declared.index.due_at.DueAt.{DueAt}
use Rattle.smq_present.specs.present.Settings.{SettingsValue}
use Rattle.smq_present.specs.pairing.Traffic.{Message, TrafficValue}
use Rattle.smq_present.specs.join.Circumstances.{circumstances, lapsed_in}
use Rattle.smq_present.specs.join.Facts.{fact_in_circumstances, facts_of}
use Rattle.smq_present.specs.join.Outcomes.{is_shared, responded, says_delivered}
use Rattle.smq_book.specs.edits.Reached.{is_due, is_open, messages_due_on, outcome_in}
use Rattle.smq_book.specs.index.Due.{due_at, due_by_fact, due_cmp, due_in, due_of, is_due_fact, places_due_on}
use Rattle.smq_book.specs.index.DueKeys.{kept_due_cmp, one_due}
use Rattle.smq_book.specs.index.Held.{dues_in, noted}
use Rattle.smq_book.specs.index.PlacedKeys.{passes, with_key, without_key}
use Rattle.smq_book.proofs.lemmas.edits.Passing.{passing-at, passing-none}
use Rattle.smq_present.proofs.lemmas.join.Lapsing.{outcome_of}
use Rattle.smq_present.proofs.lemmas.join.MoveLemmas.{fact-at}
use Rattle.smq_book.proofs.lemmas.index.PlacedKeys as made

-- ---- their order

-- the shelf's order is that of the definitions
pub due-order : kept_due_cmp ≡ due_cmp
due-order =
    λ i a b. ordering_then (nat_cmp a.link.0 b.link.0) (ordering_then (nat_cmp a.moment b.moment) (place-order i a.place b.place))

pub due_total : IsTotalOrder due_cmp
due_total = then_total (on_total (λ k. k.link.0) nat_cmp_total)
    (then_total (on_total (λ k. k.moment) nat_cmp_total) (on_total (λ k. k.place) places_total))

pub due_exact : IsAntisymmetric due_cmp
due_exact a b e = one_due a b (ap (λ (R : DueAt → DueAt → Ordering). R a b) due-order ∙ e)

-- ---- as they are stored

-- a key that is put in or taken out
pub due-stored : (es : List (DueAt × Unit {0})) (k : DueAt) → dues_in (insert_entry kept_due_cmp es k tt) ≡ insert (dues_in es) k tt
due-stored es k = inserted due_total due_exact due-order es k tt

pub due-gone : (es : List (DueAt × Unit {0})) (k : DueAt) → IsStrictlySortedBy kept_due_cmp (keys_of es)
    → dues_in (remove_entry (is_at (kept_due_cmp k)) es) ≡ remove (dues_in es) k
due-gone es k sorted = removed due_total due_exact due-order es k sorted

-- what a set has at what is noted is what it has at what is marked
pub noted-marked : (b : Bool) → noted b ≡ marked b
noted-marked true = refl
noted-marked false = refl

-- ---- their places

abbrev pub place_of_due : DueAt → Place
place_of_due k = k.place

own_due : (q : Place) (link : LinkId) (moment : ℕ) (b : Bool) (k : DueAt) → cond b (Some (due_at link moment q)) None ≡ Some k → k.place ≡ q
own_due q link moment true k e = let one : due_at link moment q ≡ k = cc in ap place_of_due (sym one)
own_due q link moment false k e = absurd cc

pub due-placed : (facts : FinMap place_cmp Fact) → made.HasItsPlace due_total due_exact place_of_due (due_by_fact facts)
due-placed facts = record { own = λ q m k e. own_due q m.link m.moment (is_due_fact (get facts q)) k e }

-- ---- what is there

-- whether a message of a link and a moment stands there, and its fact says that its receipt is due
abbrev pub stands_due : LinkId → ℕ → Option Message → Option Fact → Bool
stands_due link moment None fact = false
stands_due link moment (Some m) fact = m.link.0 == link.0 && (m.moment == moment && is_due_fact fact)

numbers_equal : (a b : ℕ) → is_eq (nat_cmp a b) ≡ (b == a)
numbers_equal a b = grind (arith, nat_tests)

then_both : (p r : Ordering) → is_eq (ordering_then p r) ≡ (is_eq p && is_eq r)
then_both Less r = refl
then_both Equal r = refl
then_both Greater r = refl

one-key : (link other : LinkId) (moment later : ℕ) (q : Place)
    → eq_by_cmp due_cmp (due_at link moment q) (due_at other later q) ≡ (other.0 == link.0 && later == moment)
one-key link other moment later q =
    ap (λ r. is_eq (ordering_then (nat_cmp link.0 other.0) (ordering_then (nat_cmp moment later) r))) (tied_itself places_total q)
    ∙ ap (λ r. is_eq (ordering_then (nat_cmp link.0 other.0) r)) (then_equal (nat_cmp moment later))
    ∙ then_both (nat_cmp link.0 other.0) (nat_cmp moment later)
    ∙ (λ i. numbers_equal link.0 other.0 i && numbers_equal moment later i)

and_true : (b : Bool) → b ≡ (b && true)
and_true true = refl
and_true false = refl

and_false : (b : Bool) → false ≡ (b && false)
and_false true = refl
and_false false = refl

neither : (a b : Bool) → false ≡ (a && (b && false))
neither a b = and_false a ∙ ap (λ c. a && c) (and_false b)

module _ (messages : FinMap place_cmp Message) (facts : FinMap place_cmp Fact) where
  due-in-at : (link : LinkId) (moment : ℕ) (q : Place)
      → get (due_in messages facts) (due_at link moment q) ≡ marked (stands_due link moment (get messages q) (get facts q))
  due-in-at link moment q =
      made.get-made due_total due_exact place_of_due (due_by_fact facts) (due-placed facts) messages (due_at link moment q)
      ∙ ap marked (by (get messages q))
    where
      by_due : (m : Message) (b : Bool) → passes (eq_by_cmp due_cmp (due_at link moment q)) (cond b (Some (due_at m.link m.moment q)) None)
          ≡ (m.link.0 == link.0 && (m.moment == moment && b))
      by_due m true = one-key link m.link moment m.moment q ∙ ap (λ b. m.link.0 == link.0 && b) (and_true (m.moment == moment))
      by_due m false = neither (m.link.0 == link.0) (m.moment == moment)

      by : (x : Option Message)
          → passes (eq_by_cmp due_cmp (due_at link moment q)) (option_and_then (due_by_fact facts q) x) ≡ stands_due link moment x (get facts q)
      by None = refl
      by (Some m) = by_due m (is_due_fact (get facts q))

-- a message is there under its link and its moment where its fact says that its receipt is due, and nothing else is
pub due-at : (s : SettingsValue) (t : TrafficValue) (link : LinkId) (moment : ℕ) (q : Place)
    → get (due_of s t) (due_at link moment q) ≡ marked (stands_due link moment (get t.messages q) (get (facts_of s t) q))
due-at s t link moment q = due-in-at t.messages (facts_of s t) link moment q

-- where messages and facts are the same outside of places, the same are there
pub due-same : (s z : SettingsValue) (t u : TrafficValue) (ks : List Place) → SameOutside ks t.messages u.messages
    → SameOutside ks (facts_of s t) (facts_of z u)
    → (k : DueAt) → list_any (eq_by_cmp place_cmp k.place) ks ≡ false → get (due_of s t) k ≡ get (due_of z u) k
due-same s z t u ks messages facts k out =
    due-at s t k.link k.moment k.place
    ∙ (λ i. marked (stands_due k.link k.moment (messages.at k.place out i) (facts.at k.place out i)))
    ∙ sym (due-at z u k.link k.moment k.place)

-- ---- a place whose fact or whose message is set anew

put-again : (due : FinSet due_cmp) (k : DueAt) → insert (remove due k) k tt ≡ insert due k tt
put-again due k = same_map due_total due_exact _ _ (λ j.
    get-insert due_total (remove due k) k tt j
    ∙ ap (cond (eq_by_cmp due_cmp j k) (Some tt)) (get-remove due_total due k j)
    ∙ hidden (eq_by_cmp due_cmp j k) (get due j)
    ∙ sym (get-insert due_total due k tt j))
  where
    hidden : (b : Bool) (x : Option (Unit {0})) → cond b (Some tt) (cond b None x) ≡ cond b (Some tt) x
    hidden true x = refl
    hidden false x = refl

-- a key that is set by whether it is to be there, and was there by whether it is taken out
set-by : (due : FinSet due_cmp) (k : DueAt) (now was : Bool) → (was ≡ false → get due k ≡ None)
    → with_key (cond now (Some k) None) (without_key (cond was (Some k) None) due) ≡ set_at due k (marked now)
set-by due k true true absent = put-again due k
set-by due k true false absent = refl
set-by due k false true absent = refl
set-by due k false false absent = sym (maps.set-same due_total due_exact due k) ∙ ap (set_at due k) (absent refl)

module _ (messages : FinMap place_cmp Message) (facts : FinMap place_cmp Fact) (q : Place) where
  -- nothing is there of a place whose fact doesn't say that its message's receipt is due
  due-idle : (link : LinkId) (moment : ℕ) (x : Option Message) → get messages q ≡ x → is_due_fact (get facts q) ≡ false
      → get (due_in messages facts) (due_at link moment q) ≡ None
  due-idle link moment None is idle =
      due-in-at messages facts link moment q ∙ ap (λ x. marked (stands_due link moment x (get facts q))) is
  due-idle link moment (Some m) is idle =
      due-in-at messages facts link moment q
      ∙ ap (λ x. marked (stands_due link moment x (get facts q))) is
      ∙ ap (λ b. marked (m.link.0 == link.0 && (m.moment == moment && b))) idle
      ∙ ap marked (sym (neither (m.link.0 == link.0) (m.moment == moment)))

  fact-changed : (fact : Option Fact) → due_in messages (set_at facts q fact)
      ≡ with_key (option_and_then (due_by_fact (set_at facts q fact) q) (get messages q))
      (without_key (option_and_then (due_by_fact facts q) (get messages q)) (due_in messages facts))
  fact-changed fact =
      made.made-changed due_total due_exact place_of_due (due_by_fact facts) (due_by_fact (set_at facts q fact))
      (due-placed facts) (due-placed (set_at facts q fact)) messages messages q (λ p apart i.
      option_and_then (λ m. cond (is_due_fact (sym (elsewhere p apart) i)) (Some (due_at m.link m.moment p)) None) (get messages p))
    where
      elsewhere : (p : Place) → eq_by_cmp place_cmp p q ≡ false → get (set_at facts q fact) p ≡ get facts p
      elsewhere p apart = maps.get-set_at places_total places_exact facts q fact p ∙ ap (λ b. cond b fact (get facts p)) apart

  -- where a message stands, its key is there exactly where the fact that is set says that its receipt is due
  pub due-fact : (fact : Option Fact) (m : Message) → get messages q ≡ Some m
      → due_in messages (set_at facts q fact) ≡ set_at (due_in messages facts) (due_at m.link m.moment q) (marked (is_due_fact fact))
  due-fact fact m is =
      fact-changed fact
      ∙ (λ i. with_key (option_and_then (due_by_fact (set_at facts q fact) q) (is i))
      (without_key (option_and_then (due_by_fact facts q) (is i)) (due_in messages facts)))
      ∙ ap (λ x. with_key (cond (is_due_fact x) (Some (due_at m.link m.moment q)) None) (without_key (due_by_fact facts q m) (due_in messages facts)))
      (here fact)
      ∙ set-by (due_in messages facts) (due_at m.link m.moment q) (is_due_fact fact) (is_due_fact (get facts q)) (due-idle m.link m.moment (Some m) is)
    where
      here : (fact : Option Fact) → get (set_at facts q fact) q ≡ fact
      here fact =
          maps.get-set_at places_total places_exact facts q fact q
          ∙ ap (λ r. cond (is_eq r) fact (get facts q)) (tied_itself places_total q)

  -- a fact that says of the receipt what the one before said leaves what is there
  pub due-still : (fact : Option Fact) (m : Message) → get messages q ≡ Some m → is_due_fact fact ≡ is_due_fact (get facts q)
      → due_in messages (set_at facts q fact) ≡ due_in messages facts
  due-still fact m is same =
      due-fact fact m is
      ∙ ap (λ b. set_at (due_in messages facts) (due_at m.link m.moment q) (marked b)) same
      ∙ sym (due-fact (get facts q) m is)
      ∙ ap (due_in messages) (maps.set-same places_total places_exact facts q)

  -- where none stands, the fact is idle
  pub due-fact-absent : (fact : Option Fact) → get messages q ≡ None → due_in messages (set_at facts q fact) ≡ due_in messages facts
  due-fact-absent fact none =
      fact-changed fact
      ∙ (λ i. with_key (option_and_then (due_by_fact (set_at facts q fact) q) (none i))
      (without_key (option_and_then (due_by_fact facts q) (none i)) (due_in messages facts)))

  message-changed : (x : Option Message) → due_in (set_at messages q x) facts
      ≡ with_key (option_and_then (due_by_fact facts q) x)
      (without_key (option_and_then (due_by_fact facts q) (get messages q)) (due_in messages facts))
  message-changed x = made.made-set due_total due_exact place_of_due (due_by_fact facts) (due-placed facts) messages q x

  -- a message that is put in where no fact is yet leaves what is there
  pub due-put : (m : Message) → get messages q ≡ None → get facts q ≡ None → due_in (insert messages q m) facts ≡ due_in messages facts
  due-put m none unknown =
      message-changed (Some m)
      ∙ (λ i. with_key (cond (is_due_fact (unknown i)) (Some (due_at m.link m.moment q)) None)
      (without_key (option_and_then (due_by_fact facts q) (none i)) (due_in messages facts)))

  -- one of the same link and moment in its place leaves it, too
  pub due-again : (old m : Message) → get messages q ≡ Some old → old.link ≡ m.link → old.moment ≡ m.moment
      → due_in (insert messages q m) facts ≡ due_in messages facts
  due-again old m is link moment =
      made.made-again due_total due_exact place_of_due (due_by_fact facts) (due-placed facts) messages q old m is
      (λ i. cond (is_due_fact (get facts q)) (Some (due_at (link i) (moment i) q)) None)

  -- one that is taken out takes its key with it, if that is there
  pub due-taken : (m : Message) → get messages q ≡ Some m → due_in (remove messages q) facts ≡ remove (due_in messages facts) (due_at m.link m.moment q)
  due-taken m is =
      message-changed None
      ∙ ap (λ x. without_key (option_and_then (due_by_fact facts q) x) (due_in messages facts)) is
      ∙ set-by (due_in messages facts) (due_at m.link m.moment q) false (is_due_fact (get facts q)) (due-idle m.link m.moment (Some m) is)

-- ---- the places of those whose windows end, and of those of a link

due_open_of : (w mi r n a d f u l : Bool) → (is_due (outcome_of w mi r n a d f u l) && not l) ≡ is_open (outcome_of w mi r n a d f u l)
due_open_of true mi r n a d f u l = refl
due_open_of false true r n a d f u l = refl
due_open_of false false true n a d f u l = refl
due_open_of false false false true a d f u l = refl
due_open_of false false false false true d f u l = refl
due_open_of false false false false false true f u l = refl
due_open_of false false false false false false true u l = refl
due_open_of false false false false false false false true l = refl
due_open_of false false false false false false false false true = refl
due_open_of false false false false false false false false false = refl

and_turned : (a b : Bool) → (a && b) ≡ (b && a)
and_turned true b = and_true b
and_turned false b = and_false b

module _ (s : SettingsValue) (t : TrafficValue) (q : Place) where
  -- a message whose receipt is due and whose window hasn't ended is open
  pub due-open : (m : Message) → (is_due (outcome_in s t m) && not (lapsed_in s m)) ≡ is_open (outcome_in s t m)
  due-open m =
      let c = circumstances s t m in
      due_open_of (is_none m.response) (responded (λ r. not r.agrees) m.response) (responded (λ r. not (r.status == 0)) m.response)
      (responded (λ r. is_none r.id) m.response)
      (is_shared c.standing) (says_delivered c.decider) (is_some c.decider) (not m.asks_receipt) c.lapsed

  pub told-due : (m : Message) → get t.messages q ≡ Some m → is_due_fact (get (facts_of s t) q) ≡ is_due (outcome_in s t m)
  told-due m is = ap is_due_fact (fact-at s t q ∙ ap (option_map (λ m. fact_in_circumstances q m (circumstances s t m))) is)

  passes-due : (test : DueAt → Bool) (m : Message) (b : Bool)
      → passes test (cond b (Some (due_at m.link m.moment q)) None) ≡ (b && test (due_at m.link m.moment q))
  passes-due test m true = refl
  passes-due test m false = refl

  -- the places of the keys that pass a test
  due-passing : (test : DueAt → Bool) → list_any (eq_by_cmp place_cmp q) (map (λ k. k.place) (filter test (keys (due_of s t))))
      ≡ passes test (option_and_then (due_by_fact (facts_of s t) q) (get t.messages q))
  due-passing test =
      made.places-made due_total due_exact place_of_due (due_by_fact (facts_of s t)) (due-placed (facts_of s t)) t.messages test q

  module _ (link : LinkId) where
    abbrev test_on : Place → Message → Bool
    test_on place m = m.link.0 == link.0 && is_due (outcome_in s t m)

    -- the key of a message that stands there is of the link exactly where the message is, and its receipt is due
    pub on-link-there : (m : Message) → get t.messages q ≡ Some m
        → passes (λ (k : DueAt). k.link.0 == link.0) (due_by_fact (facts_of s t) q m)
        ≡ (m.link.0 == link.0 && is_due (outcome_in s t m))
    on-link-there m is =
        passes-due (λ (k : DueAt). k.link.0 == link.0) m (is_due_fact (get (facts_of s t) q))
        ∙ ap (λ b. b && m.link.0 == link.0) (told-due m is)
        ∙ and_turned (is_due (outcome_in s t m)) (m.link.0 == link.0)

    on-link-by : (x : Option Message) → get t.messages q ≡ x
        → passes (λ (k : DueAt). k.link.0 == link.0) (option_and_then (due_by_fact (facts_of s t) q) x)
        ≡ list_any (eq_by_cmp place_cmp q) (keys (messages_due_on link s t))
    on-link-by None is = sym (passing-none test_on t.messages q is)
    on-link-by (Some m) is = on-link-there m is ∙ sym (passing-at test_on t.messages q m is)

    -- those of a link are its messages whose receipts are due
    pub due-on-link : list_any (eq_by_cmp place_cmp q) (places_due_on link (due_of s t))
        ≡ list_any (eq_by_cmp place_cmp q) (keys (messages_due_on link s t))
    due-on-link = due-passing (λ k. k.link.0 == link.0) ∙ on-link-by (get t.messages q) refl
