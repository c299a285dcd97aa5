-- What is put in or taken out at one place changes the members of groups there alone, and traffic stays as sessions say it.
use Rattle.std.proofs.Common.{◌≡◌, Bool, true, false, cond, Option, Some, None, refl, sym, ap, ◌∙◌, subst}
use Rattle.std.specs.Prelude.{option_and_then}
use Rattle.std.specs.Ordering.{eq_by_cmp}
use Rattle.std.specs.FinMap.{FinMap, get, insert, remove, get-insert, get-remove}
use Rattle.std.specs.FinSet.{FinSet}
use Rattle.std.proofs.lemmas.Bool.{false≢true}
use Rattle.smq_kit.specs.declared.link_key.LinkKey.{LinkKey}
use Rattle.smq_kit.specs.declared.place.Dir.TheVariants.{FromClient, FromCentre}
use Rattle.smq_kit.specs.declared.place.Place.{Place}
use Rattle.smq_kit.specs.Maps.{chosen, set_at}
use Rattle.smq_kit.specs.Orders.{place_cmp}
use Rattle.smq_kit.proofs.MapLemmas as maps
use Rattle.smq_kit.proofs.PlaceOrders.{places_total, places_exact}
use Rattle.smq_tally.specs.declared.list.List as l
use Rattle.smq_tally.specs.declared.list.Listed.{Listed}
use Rattle.smq_tally.specs.Lists.{listed, listed_cmp}
use Rattle.smq_tally.specs.within.ListOrder.{listed_total}
use Rattle.smq_tally.proofs.ListOrders.{listed_exact}
use Rattle.smq_group.specs.Groups.{with_receipt, with_submit, without_receipt, without_submit}
use Rattle.smq_present.specs.join.Listings.{is_traffic_list}
use Rattle.smq_present.specs.present.Settings.{SettingsValue}
use Rattle.smq_present.specs.pairing.Traffic.{Message, ReceivedReceipt, TrafficValue}
use Rattle.smq_present.specs.join.Keyed.{accepted_key, grouping_of, keyed_receipt}
use Rattle.smq_present.specs.join.Moves.{Move, PutMessage, TakeMessage, PutReceipt, TakeReceipt, PutNote, TakeNote, moved, put_message, take_message, put_receipt, take_receipt}
use Rattle.smq_book.specs.index.Held.{AreOf, IsTraffic, KeepsTraffic}

-- ---- members

-- a map stays where nothing is set and there was nothing
pub stays-none : {X : Type 0} (m : FinMap place_cmp X) (q : Place) → get m q ≡ None → set_at m q None ≡ m
stays-none m q none = ap (set_at m q) (sym none) ∙ maps.set-same places_total places_exact m q

module _ (s : SettingsValue) (q : Place) (t : TrafficValue) where
  -- the key with which a message is accepted is that of its place
  pub submit-there : (m : Message) → get t.messages q ≡ Some m → get (grouping_of s t).submits q ≡ accepted_key s m
  submit-there m there =
      maps.get-chosen places_total places_exact (λ place m. accepted_key s m) t.messages q ∙ ap (option_and_then (accepted_key s)) there

  pub submit-absent : get t.messages q ≡ None → get (grouping_of s t).submits q ≡ None
  submit-absent none =
      maps.get-chosen places_total places_exact (λ place m. accepted_key s m) t.messages q ∙ ap (option_and_then (accepted_key s)) none

  -- and so is a receipt with its key
  pub receipt-there : (r : ReceivedReceipt) → get t.receipts q ≡ Some r → get (grouping_of s t).receipts q ≡ Some (keyed_receipt s r)
  receipt-there r there =
      maps.get-chosen places_total places_exact (λ place r. Some (keyed_receipt s r)) t.receipts q
      ∙ ap (option_and_then (λ (r : ReceivedReceipt). Some (keyed_receipt s r))) there

  pub receipt-absent : get t.receipts q ≡ None → get (grouping_of s t).receipts q ≡ None
  receipt-absent none =
      maps.get-chosen places_total places_exact (λ place r. Some (keyed_receipt s r)) t.receipts q
      ∙ ap (option_and_then (λ (r : ReceivedReceipt). Some (keyed_receipt s r))) none

  submits-set : (v : Option Message) → chosen (λ place m. accepted_key s m) (set_at t.messages q v)
      ≡ set_at (grouping_of s t).submits q (option_and_then (accepted_key s) v)
  submits-set v = maps.chosen-set places_total places_exact (λ place m. accepted_key s m) t.messages q v

  received-set : (v : Option ReceivedReceipt) → chosen (λ place r. Some (keyed_receipt s r)) (set_at t.receipts q v)
      ≡ set_at (grouping_of s t).receipts q (option_and_then (λ r. Some (keyed_receipt s r)) v)
  received-set v = maps.chosen-set places_total places_exact (λ place r. Some (keyed_receipt s r)) t.receipts q v

  -- a message that is put in is a submit more where it is accepted
  pub members-put : (m : Message) (key : LinkKey) → accepted_key s m ≡ Some key
      → grouping_of s (put_message q m t) ≡ with_submit (grouping_of s t) key q
  members-put m key is = λ i. record {
    submits = (submits-set (Some m) ∙ ap (set_at (grouping_of s t).submits q) is) i;
    receipts = (grouping_of s t).receipts;
  }

  -- and else none
  pub members-unmoved : (m : Message) → accepted_key s m ≡ None → get (grouping_of s t).submits q ≡ None
      → grouping_of s (put_message q m t) ≡ grouping_of s t
  members-unmoved m unkeyed none = λ i. record {
    submits = (submits-set (Some m) ∙ ap (set_at (grouping_of s t).submits q) unkeyed
        ∙ stays-none (grouping_of s t).submits q none) i;
    receipts = (grouping_of s t).receipts;
  }

  pub members-unput : (m : Message) → accepted_key s m ≡ None → get t.messages q ≡ None → grouping_of s (put_message q m t) ≡ grouping_of s t
  members-unput m unkeyed none = members-unmoved m unkeyed (submit-absent none)

  -- a message that is taken out is a submit less
  pub members-taken : grouping_of s (take_message q t) ≡ without_submit (grouping_of s t) q
  members-taken = λ i. record { submits = submits-set None i; receipts = (grouping_of s t).receipts }

  -- where it was accepted
  pub members-untaken : get (grouping_of s t).submits q ≡ None → grouping_of s (take_message q t) ≡ grouping_of s t
  members-untaken none = λ i. record {
    submits = (submits-set None ∙ stays-none (grouping_of s t).submits q none) i;
    receipts = (grouping_of s t).receipts;
  }

  -- a receipt that is put in or taken out is one more or less
  pub received-put : (r : ReceivedReceipt) → grouping_of s (put_receipt q r t) ≡ with_receipt (grouping_of s t) q (keyed_receipt s r)
  received-put r = λ i. record { submits = (grouping_of s t).submits; receipts = received-set (Some r) i }

  pub received-taken : grouping_of s (take_receipt q t) ≡ without_receipt (grouping_of s t) q
  received-taken = λ i. record { submits = (grouping_of s t).submits; receipts = received-set None i }

-- ---- traffic as sessions say it

module _ (t : TrafficValue) (traffic : IsTraffic t) (q : Place) where
  -- where messages stand no receipt does, and the other way round
  pub no-receipt : q.dir ≡ FromClient → get t.receipts q ≡ None
  no-receipt client = by (get t.receipts q) refl
    where
      by : (x : Option ReceivedReceipt) → get t.receipts q ≡ x → x ≡ None
      by None is = refl
      by (Some r) is = let centre : q.dir ≡ FromCentre = traffic.receipts q r is in absurd cc

  pub no-message : q.dir ≡ FromCentre → get t.messages q ≡ None
  no-message centre = by (get t.messages q) refl
    where
      by : (x : Option Message) → get t.messages q ≡ x → x ≡ None
      by None is = refl
      by (Some m) is = let client : q.dir ≡ FromClient = traffic.messages q m is in absurd cc

-- so its members are those of an index
pub traffic-apart : (s : SettingsValue) (t : TrafficValue) → IsTraffic t → AreOf s t (grouping_of s t)
traffic-apart s t traffic = record { grouped = refl; apart = λ place m there. no-receipt t traffic place (traffic.messages place m there) }

module _ {X : Type 0} (m : FinMap place_cmp X) (P : Place → Type 0) (all : (p : Place) (x : X) → get m p ≡ Some x → P p) (q : Place) where
  all-put : (v : X) → P q → (p : Place) (x : X) → get (insert m q v) p ≡ Some x → P p
  all-put v here p x e = by (eq_by_cmp place_cmp p q) refl (sym (get-insert places_total m q v p) ∙ e)
    where
      by : (b : Bool) → eq_by_cmp place_cmp p q ≡ b → cond b (Some v) (get m p) ≡ Some x → P p
      by true same e = subst P (sym (maps.same_key places_total places_exact p q same)) here
      by false same e = all p x e

  all-taken : (p : Place) (x : X) → get (remove m q) p ≡ Some x → P p
  all-taken p x e = by (eq_by_cmp place_cmp p q) (sym (get-remove places_total m q p) ∙ e)
    where
      by : (b : Bool) → cond b None (get m p) ≡ Some x → P p
      by true e = absurd cc
      by false e = all p x e

-- what isn't noted isn't where another note is put in, or one is taken out
module _ (notes : FinSet listed_cmp) (note : Listed) (list : l.List) (p : Place) (none : get notes (listed list p) ≡ None) where
  unnoted-put : is_traffic_list note.list ≡ true → is_traffic_list list ≡ false → get (insert notes note tt) (listed list p) ≡ None
  unnoted-put one other = get-insert listed_total notes note tt (listed list p) ∙ by (eq_by_cmp listed_cmp (listed list p) note) refl
    where
      by : (b : Bool) → eq_by_cmp listed_cmp (listed list p) note ≡ b → cond b (Some tt) (get notes (listed list p)) ≡ None
      by true same = absurd (false≢true (sym other
          ∙ ap (λ (x : Listed). is_traffic_list x.list) (maps.same_key listed_total listed_exact (listed list p) note same) ∙ one))
      by false same = none

  unnoted-taken : get (remove notes note) (listed list p) ≡ None
  unnoted-taken = get-remove listed_total notes note (listed list p) ∙ by (eq_by_cmp listed_cmp (listed list p) note)
    where
      by : (b : Bool) → cond b None (get notes (listed list p)) ≡ None
      by true = refl
      by false = none

module _ (t : TrafficValue) (traffic : IsTraffic t) where
  abbrev client : Place → Type 0
  client p = p.dir ≡ FromClient

  abbrev centre : Place → Type 0
  centre p = p.dir ≡ FromCentre

  -- a move that keeps to its direction and its lists leaves it so
  pub kept-traffic : (move : Move) → KeepsTraffic move → IsTraffic (moved t move)
  kept-traffic (PutMessage e) keeps = record {
    messages = all-put t.messages client traffic.messages e.0 e.1 keeps;
    receipts = traffic.receipts;
    unlisted = traffic.unlisted;
  }
  kept-traffic (TakeMessage q) keeps = record {
    messages = all-taken t.messages client traffic.messages q;
    receipts = traffic.receipts;
    unlisted = traffic.unlisted;
  }
  kept-traffic (PutReceipt e) keeps = record {
    messages = traffic.messages;
    receipts = all-put t.receipts centre traffic.receipts e.0 e.1 keeps;
    unlisted = traffic.unlisted;
  }
  kept-traffic (TakeReceipt q) keeps = record {
    messages = traffic.messages;
    receipts = all-taken t.receipts centre traffic.receipts q;
    unlisted = traffic.unlisted;
  }
  kept-traffic (PutNote note) keeps = record {
    messages = traffic.messages;
    receipts = traffic.receipts;
    unlisted = λ p. record { none = λ list one. unnoted-put t.notes note list p ((traffic.unlisted p).none list one) keeps one };
  }
  kept-traffic (TakeNote note) keeps = record {
    messages = traffic.messages;
    receipts = traffic.receipts;
    unlisted = λ p. record { none = λ list one. unnoted-taken t.notes note list p ((traffic.unlisted p).none list one) };
  }
