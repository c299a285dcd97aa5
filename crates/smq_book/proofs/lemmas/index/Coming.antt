-- Forms that are set once their link is out put messages and delivery receipts in where none stands.
use Rattle.std.proofs.Common.{◌≡◌, Bool, true, false, cond, List, [], ◌∷◌, ◌++◌, Some, None, refl, sym, ap, ◌∙◌, subst}
use Rattle.std.specs.Prelude.{T, map, not, option_and_then}
use Rattle.std.specs.List.{AllByRecursion}
use Rattle.std.specs.Cmp.{tied_itself}
use Rattle.std.specs.declared.cmp.Ordering.TheVariants.{Less, Equal}
use Rattle.std.specs.Ordering.{eq_by_cmp}
use Rattle.std.specs.FinMap.{FinMap, entries, entries_sorted, get, insert, is_sorted, get-insert}
use Rattle.std.specs.FinMap.Entries.{below_all}
use Rattle.smq_kit.specs.declared.place.Place.{Place}
use Rattle.smq_kit.specs.Orders.{place_cmp}
use Rattle.smq_kit.proofs.Comparisons.{first_test, second_test, is_less}
use Rattle.smq_kit.proofs.MapLemmas as maps
use Rattle.smq_kit.proofs.PlaceOrders.{places_total, places_exact}
use Rattle.smq_present.specs.pairing.Traffic.{Message, ReceivedReceipt, TrafficValue}
use Rattle.smq_present.specs.join.Moves.{Move, PutMessage, PutReceipt, moved, moved_by}
use Rattle.smq_book.specs.edits.Reached.{passing}
use Rattle.smq_book.specs.index.Coming.{AreNew}
use Rattle.smq_book.proofs.lemmas.edits.Passing.{get-passing, passing-does, passing-is}

new-both : (t : TrafficValue) (xs ys : List Move) → AreNew t xs → AreNew (moved_by t xs) ys → AreNew t (xs ++ ys)
new-both t [] ys a b = b
new-both t (x ∷ xs) ys a b = (a.0, new-both (moved t x) xs ys a.1 b)

not_less : Less ≡ Equal → ⊥
not_less e = absurd cc

not_tied : (k q : Place) → place_cmp k q ≡ Less → (b : Bool) → eq_by_cmp place_cmp q k ≡ b → b ≡ false
not_tied k q less true t =
    absurd (not_less (sym less ∙ ap (place_cmp k) (maps.same_key places_total places_exact q k t) ∙ tied_itself places_total k))
not_tied k q less false t = refl

module _ {X : Type 0} where
  -- nothing stands at the places of these entries
  abbrev AllAbsent : FinMap place_cmp X → List (Place × X) → Type 0
  AllAbsent m es = AllByRecursion (λ e. get m e.0 ≡ None) es

  still-absent : (m : FinMap place_cmp X) (k : Place) (v : X) (es : List (Place × X)) → T (below_all place_cmp k es) → AllAbsent m es
      → AllAbsent (insert m k v) es
  still-absent m k v [] h a = tt
  still-absent m k v (e ∷ es) h a =
      let apart = not_tied k e.0 (is_less (place_cmp k e.0) (first_test _ _ h)) (eq_by_cmp place_cmp e.0 k) refl in (
        get-insert places_total m k v e.0 ∙ ap (λ b. cond b (Some v) (get m e.0)) apart ∙ a.0,
        still-absent m k v es (second_test _ _ h) a.1,
      )

  module _ (test : Place → X → Bool) (m : FinMap place_cmp X) where
    without-these : (es : List (Place × X)) → AllByRecursion (λ e. get (passing test m) e.0 ≡ Some e.1) es
        → AllAbsent (passing (λ q v. not (test q v)) m) es
    without-these [] a = tt
    without-these (e ∷ es) a = (
      get-passing (λ q v. not (test q v)) m e.0
          ∙ ap (option_and_then (λ v. cond (not (test e.0 v)) (Some v) None)) (passing-is test m e.0 e.1 a.0)
          ∙ ap (λ b. cond (not b) (Some e.1) None) (passing-does test m e.0 e.1 a.0),
      without-these es a.1,
    )

    passed-out : AllAbsent (passing (λ q v. not (test q v)) m) (entries (passing test m))
    passed-out = without-these (entries (passing test m)) (maps.get-entry places_total places_exact (passing test m))

puts-new : (t : TrafficValue) (es : List (Place × Message)) → T (is_sorted place_cmp es) → AllAbsent t.messages es → AreNew t (map PutMessage es)
puts-new t [] h a = tt
puts-new t (e ∷ es) h a =
    (a.0, puts-new (moved t (PutMessage e)) es (second_test _ _ h) (still-absent t.messages e.0 e.1 es (first_test _ _ h) a.1))

receives-new : (t : TrafficValue) (es : List (Place × ReceivedReceipt)) → T (is_sorted place_cmp es) → AllAbsent t.receipts es
    → AreNew t (map PutReceipt es)
receives-new t [] h a = tt
receives-new t (e ∷ es) h a =
    (a.0, receives-new (moved t (PutReceipt e)) es (second_test _ _ h) (still-absent t.receipts e.0 e.1 es (first_test _ _ h) a.1))

puts-leave : (t : TrafficValue) (es : List (Place × Message)) → (moved_by t (map PutMessage es)).receipts ≡ t.receipts
puts-leave t [] = refl
puts-leave t (e ∷ es) = puts-leave (moved t (PutMessage e)) es

-- what passes is new in traffic that is without it
pub puts-back-new : (f : Place → Message → Bool) (g : Place → ReceivedReceipt → Bool) (t u : TrafficValue)
    → u.messages ≡ passing (λ q m. not (f q m)) t.messages → u.receipts ≡ passing (λ q r. not (g q r)) t.receipts
    → AreNew u (map PutMessage (entries (passing f t.messages)) ++ map PutReceipt (entries (passing g t.receipts)))
puts-back-new f g t u messages_left receipts_left =
    let messages = entries (passing f t.messages) in
    let receipts = entries (passing g t.receipts) in
    new-both u (map PutMessage messages) (map PutReceipt receipts)
    (puts-new u messages (entries_sorted (passing f t.messages))
    (subst (λ (m : FinMap place_cmp Message). AllAbsent m messages) (sym messages_left) (passed-out f t.messages)))
    (receives-new (moved_by u (map PutMessage messages)) receipts (entries_sorted (passing g t.receipts))
    (subst (λ (m : FinMap place_cmp ReceivedReceipt). AllAbsent m receipts) (sym (puts-leave u messages ∙ receipts_left)) (passed-out g t.receipts)))
