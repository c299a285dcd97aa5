-- Traffic after moves: what each kind of them puts in and takes out, whatever the others do.
use Rattle.std.proofs.Common.{◌≡◌, Bool, true, false, cond, List, [], ◌∷◌, ◌++◌, Option, Some, None, refl, sym, ap, ◌∙◌}
use Rattle.std.specs.Prelude.{map, option_to_list}
use Rattle.std.specs.List.{AllByRecursion, flat_map}
use Rattle.std.specs.Ordering.{eq_by_cmp}
use Rattle.std.specs.FinMap.{FinMap, get, insert, remove, get-insert, get-remove, same_map}
use Rattle.smq_kit.specs.declared.place.Place.{Place}
use Rattle.smq_kit.specs.Maps.{patched, set_at}
use Rattle.smq_kit.specs.Orders.{place_cmp}
use Rattle.smq_kit.proofs.PlaceOrders.{places_total, places_exact}
use Rattle.smq_tally.specs.declared.list.Listed.{Listed}
use Rattle.smq_present.specs.pairing.Traffic.{TrafficValue, Message, ReceivedReceipt}
use Rattle.smq_present.specs.join.Moves.{Move, PutMessage, TakeMessage, PutReceipt, TakeReceipt, TakeNote, moved, moved_by}
use Rattle.smq_book.specs.edits.Appended.{anew}

-- moves one list after the other
pub moved-both : (t : TrafficValue) (xs ys : List Move) → moved_by t (xs ++ ys) ≡ moved_by (moved_by t xs) ys
moved-both t [] ys = refl
moved-both t (x ∷ xs) ys = moved-both (moved t x) xs ys

-- ---- what is taken out

pub takes-messages : {X : Type 0} (t : TrafficValue) (es : List (Place × X)) → moved_by t (map (λ e. TakeMessage e.0) es) ≡ record t { messages = patched t.messages (λ q. None) (map (λ e. e.0) es) }
takes-messages t [] = refl
takes-messages t (e ∷ es) = takes-messages (moved t (TakeMessage e.0)) es

pub takes-receipts : {X : Type 0} (t : TrafficValue) (es : List (Place × X)) → moved_by t (map (λ e. TakeReceipt e.0) es) ≡ record t { receipts = patched t.receipts (λ q. None) (map (λ e. e.0) es) }
takes-receipts t [] = refl
takes-receipts t (e ∷ es) = takes-receipts (moved t (TakeReceipt e.0)) es

pub takes-notes : (t : TrafficValue) (es : List Listed) → moved_by t (map TakeNote es) ≡ record t { notes = patched t.notes (λ q. None) es }
takes-notes t [] = refl
takes-notes t (e ∷ es) = takes-notes (moved t (TakeNote e)) es

-- ---- what is put in anew

put-anew : {X : Type 0} (m : FinMap place_cmp X) (q : Place) (v : X) → insert (remove m q) q v ≡ insert m q v
put-anew {X} m q v = same_map places_total places_exact _ _ (λ p.
    get-insert places_total (remove m q) q v p
    ∙ ap (cond (eq_by_cmp place_cmp p q) (Some v)) (get-remove places_total m q p)
    ∙ hidden (eq_by_cmp place_cmp p q) (get m p)
    ∙ sym (get-insert places_total m q v p))
  where
    hidden : (b : Bool) (x : Option X) → cond b (Some v) (cond b None x) ≡ cond b (Some v) x
    hidden true x = refl
    hidden false x = refl

set-anew : {X : Type 0} (m : FinMap place_cmp X) (g : Place → Option X) (q : Place) (v : X) → g q ≡ Some v → insert (remove m q) q v ≡ set_at m q (g q)
set-anew m g q v e = put-anew m q v ∙ ap (set_at m q) (sym e)

pub puts-anew : (g : Place → Option Message) (t : TrafficValue) (es : List (Place × Message)) → AllByRecursion (λ e. g e.0 ≡ Some e.1) es
    → moved_by t (flat_map anew es) ≡ record t { messages = patched t.messages g (map (λ e. e.0) es) }
puts-anew g t [] a = refl
puts-anew g t (e ∷ es) a =
    ap (λ m. moved_by (record t { messages = m }) (flat_map anew es)) (set-anew t.messages g e.0 e.1 a.0)
    ∙ puts-anew g (record t { messages = set_at t.messages e.0 (g e.0) }) es a.1

-- ---- what is put in

-- a map with an entry more, if any
abbrev pub put_in : {X : Type 0} → FinMap place_cmp X → Option (Place × X) → FinMap place_cmp X
put_in m None = m
put_in m (Some e) = insert m e.0 e.1

pub puts-message : (t : TrafficValue) (e : Option (Place × Message)) → moved_by t (map PutMessage (option_to_list e)) ≡ record t { messages = put_in t.messages e }
puts-message t None = refl
puts-message t (Some e) = refl

pub puts-receipt : (t : TrafficValue) (e : Option (Place × ReceivedReceipt)) → moved_by t (map PutReceipt (option_to_list e)) ≡ record t { receipts = put_in t.receipts e }
puts-receipt t None = refl
puts-receipt t (Some e) = refl

-- ---- what is put in where it was

pub puts-messages : (g : Place → Option Message) (t : TrafficValue) (es : List (Place × Message)) → AllByRecursion (λ e. g e.0 ≡ Some e.1) es
    → moved_by t (map PutMessage es) ≡ record t { messages = patched t.messages g (map (λ e. e.0) es) }
puts-messages g t [] a = refl
puts-messages g t (e ∷ es) a =
    ap (λ v. moved_by (record t { messages = set_at t.messages e.0 v }) (map PutMessage es)) (sym a.0)
    ∙ puts-messages g (record t { messages = set_at t.messages e.0 (g e.0) }) es a.1

pub puts-receipts : (g : Place → Option ReceivedReceipt) (t : TrafficValue) (es : List (Place × ReceivedReceipt)) → AllByRecursion (λ e. g e.0 ≡ Some e.1) es
    → moved_by t (map PutReceipt es) ≡ record t { receipts = patched t.receipts g (map (λ e. e.0) es) }
puts-receipts g t [] a = refl
puts-receipts g t (e ∷ es) a =
    ap (λ v. moved_by (record t { receipts = set_at t.receipts e.0 v }) (map PutReceipt es)) (sym a.0)
    ∙ puts-receipts g (record t { receipts = set_at t.receipts e.0 (g e.0) }) es a.1
