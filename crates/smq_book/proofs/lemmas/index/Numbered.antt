-- The numbers of messages change where a message is put in or taken out. Those under a prefix are of the messages under it.
use Rattle.std.proofs.Common.{◌≡◌, ℕ, false, List, Option, Some, None, refl, sym, ap, ◌∙◌}
use Rattle.std.specs.Prelude.{option_and_then, option_map, unwrap_or}
use Rattle.std.specs.List.{list_any}
use Rattle.std.specs.Ordering.{eq_by_cmp}
use Rattle.std.specs.FinMap.{get, keys}
use Rattle.smq_kit.specs.declared.place.Place.{Place}
use Rattle.smq_kit.specs.Orders.{place_cmp}
use Rattle.smq_route.specs.declared.numbers.NumberAt.{NumberAt}
use Rattle.smq_route.specs.Numbers.{number_at, places_under}
use Rattle.smq_route.specs.Versions.{begins}
use Rattle.smq_route.proofs.NumberOrders.{numbers_exact, numbers_total}
use Rattle.smq_present.specs.pairing.Traffic.{Message, TrafficValue}
use Rattle.smq_present.specs.join.Moves.{put_message, take_message}
use Rattle.smq_book.specs.edits.Reached.{is_under, messages_under}
use Rattle.smq_book.specs.index.Numbered.{numbered, numbers_of}
use Rattle.smq_book.specs.index.PlacedKeys.{passes, with_key, without_key}
use Rattle.smq_book.proofs.lemmas.edits.Passing.{passing-at, passing-none}
use Rattle.smq_book.proofs.lemmas.index.PlacedKeys as made

abbrev place_of_number : NumberAt → Place
place_of_number k = k.place

own_number : (q : Place) (number : Option (List ℕ)) (k : NumberAt) → option_map (λ n. number_at n q) number ≡ Some k → k.place ≡ q
own_number q None k e = absurd cc
own_number q (Some n) k e = let one : number_at n q ≡ k = cc in ap place_of_number (sym one)

numbers-placed : made.HasItsPlace numbers_total numbers_exact place_of_number numbered
numbers-placed = record { own = λ q m k e. own_number q m.number k e }

-- ---- a message that is put in

module _ (q : Place) (m : Message) (t : TrafficValue) (none : get t.messages q ≡ None) where
  pub number-comes : numbers_of (put_message q m t) ≡ with_key (numbered q m) (numbers_of t)
  number-comes =
      made.made-set numbers_total numbers_exact place_of_number numbered numbers-placed t.messages q (Some m)
      ∙ ap (λ x. with_key (numbered q m) (without_key (option_and_then (numbered q) x) (numbers_of t))) none

-- ---- a message of the same number in its place

pub number-again : (q : Place) (old m : Message) (t : TrafficValue) → get t.messages q ≡ Some old → old.number ≡ m.number
    → numbers_of (put_message q m t) ≡ numbers_of t
number-again q old m t is number =
    made.made-again numbers_total numbers_exact place_of_number numbered numbers-placed t.messages q old m is
    (ap (option_map (λ n. number_at n q)) number)

-- ---- a message that is taken out

module _ (q : Place) (t : TrafficValue) where
  pub number-goes : numbers_of (take_message q t) ≡ without_key (option_and_then (numbered q) (get t.messages q)) (numbers_of t)
  number-goes = made.made-set numbers_total numbers_exact place_of_number numbered numbers-placed t.messages q None

-- ---- the messages under a prefix

module _ (t : TrafficValue) (prefix : List ℕ) (q : Place) where
  pub begun : (number : Option (List ℕ))
      → passes (λ (k : NumberAt). begins k.number prefix) (option_map (λ n. number_at n q) number)
      ≡ unwrap_or (option_map (λ n. begins n prefix) number) false
  begun None = refl
  begun (Some n) = refl

  under-by : (x : Option Message) → get t.messages q ≡ x
      → passes (λ (k : NumberAt). begins k.number prefix) (option_and_then (numbered q) x)
      ≡ list_any (eq_by_cmp place_cmp q) (keys (messages_under prefix t))
  under-by None is = sym (passing-none (λ place m. is_under prefix m) t.messages q is)
  under-by (Some m) is = begun m.number ∙ sym (passing-at (λ place m. is_under prefix m) t.messages q m is)

  -- the places of the numbers under a prefix are those of the messages under it
  pub under-is : list_any (eq_by_cmp place_cmp q) (places_under (numbers_of t) prefix)
      ≡ list_any (eq_by_cmp place_cmp q) (keys (messages_under prefix t))
  under-is =
      made.places-made numbers_total numbers_exact place_of_number numbered numbers-placed t.messages (λ k. begins k.number prefix) q
      ∙ under-by (get t.messages q) refl
