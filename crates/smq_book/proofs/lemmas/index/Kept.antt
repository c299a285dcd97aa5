-- What is held of traffic tells that traffic again: its notes are those in no list of receipts.
use Rattle.std.proofs.Common.{◌≡◌, Bool, true, false, ◌||◌, Option, Some, None, refl, sym, ap, ◌∙◌, subst}
use Rattle.std.specs.Prelude.{⊤, if◌then◌else◌, is_some, option_and_then}
use Rattle.std.specs.FinMap.{contains_key, get, same_map}
use Rattle.smq_kit.specs.declared.place.Place.{Place}
use Rattle.smq_group.specs.Matching.{ReceiptStanding}
use Rattle.smq_kit.proofs.MapLemmas.{get-chosen}
use Rattle.smq_tally.specs.declared.list.List as l
use Rattle.smq_tally.specs.declared.list.Listed.{Listed}
use Rattle.smq_tally.specs.Lists.{listed}
use Rattle.smq_tally.specs.within.ListOrder.{listed_total}
use Rattle.smq_tally.proofs.ListOrders.{listed_exact}
use Rattle.smq_tally.proofs.Listings.{marked}
use Rattle.smq_present.specs.present.Settings.{SettingsValue}
use Rattle.smq_present.specs.pairing.Traffic.{TrafficValue}
use Rattle.smq_present.specs.join.Keyed.{grouping_of}
use Rattle.smq_present.specs.join.Listings.{is_traffic_list, list_of_standing, notes_of}
use Rattle.smq_present.specs.join.Moves.{Move, moved, receipt_standings_of}
use Rattle.smq_book.specs.index.Held.{Holding, IsHeld, IsTraffic, KeepsTraffic, held_of, traffic_held, traffic_notes}
use Rattle.smq_present.proofs.lemmas.join.ReceiptLists.{never-in, of-standing}
use Rattle.smq_present.proofs.lemmas.join.ReceiptNotes.{note-by}
use Rattle.smq_book.proofs.lemmas.index.Members.{kept-traffic}

abbrev chosen_note : Listed → ⊤ → Option ⊤
chosen_note note _ = if is_traffic_list note.list then Some tt else None

or_none : (o : Option ⊤) → marked (is_some o || false) ≡ o
or_none None = refl
or_none (Some tt) = refl

all_chosen : (o : Option ⊤) → option_and_then (λ _. Some tt) o ≡ o
all_chosen None = refl
all_chosen (Some tt) = refl

abbrev no_note : ⊤ → Option ⊤
no_note _ = None

none_chosen : (o : Option ⊤) → option_and_then no_note o ≡ None
none_chosen None = refl
none_chosen (Some tt) = refl

module _ (s : SettingsValue) (t : TrafficValue) (traffic : IsTraffic t) where
  module _ (q : Place) where
    abbrev stands : Option ReceiptStanding
    stands = get (receipt_standings_of (grouping_of s t)) q

    -- a note in another list is the traffic's, and in those of receipts it has none
    note-held : (name : l.List) (b : Bool) → is_traffic_list name ≡ b
        → option_and_then (λ _. if b then Some tt else None) (get (notes_of s t) (listed name q)) ≡ get t.notes (listed name q)
    note-held name true other =
        all_chosen (get (notes_of s t) (listed name q))
        ∙ note-by s t name q stands refl
        ∙ ap (λ b. marked (contains_key t.notes (listed name q) || b))
        (never-in name (option_and_then list_of_standing stands) (of-standing stands) other)
        ∙ or_none (get t.notes (listed name q))
    note-held name false one = none_chosen (get (notes_of s t) (listed name q)) ∙ sym ((traffic.unlisted q).none name one)

  notes-held : traffic_notes (notes_of s t) ≡ t.notes
  notes-held = same_map listed_total listed_exact _ _
      (λ e. get-chosen listed_total listed_exact chosen_note (notes_of s t) e ∙ note-held e.place e.list (is_traffic_list e.list) refl)

  pub traffic-again : traffic_held (held_of s t) ≡ t
  traffic-again = λ i. record { messages = t.messages; receipts = t.receipts; notes = notes-held i }

-- so what is held of traffic is held of the traffic that it tells
pub kept-is : (s : SettingsValue) (t : TrafficValue) (h : Holding) → IsTraffic t → h ≡ held_of s t → traffic_held h ≡ t
kept-is s t h traffic held = ap traffic_held held ∙ traffic-again s t traffic

pub kept : (s : SettingsValue) (t : TrafficValue) (h : Holding) → IsTraffic t → h ≡ held_of s t → IsHeld s h
kept s t h traffic held = record {
  held = held ∙ ap (held_of s) (sym (kept-is s t h traffic held));
  traffic = subst IsTraffic (sym (kept-is s t h traffic held)) traffic;
}

-- after a move that keeps traffic as sessions say it, too
module _ (s : SettingsValue) (g h : Holding) (is : IsHeld s g) (move : Move) (keeps : KeepsTraffic move)
    (held : h ≡ held_of s (moved (traffic_held g) move)) where
  pub moved-is : traffic_held h ≡ moved (traffic_held g) move
  moved-is = kept-is s (moved (traffic_held g) move) h (kept-traffic (traffic_held g) is.traffic move keeps) held

  pub moved-held : IsHeld s h
  moved-held = kept s (moved (traffic_held g) move) h (kept-traffic (traffic_held g) is.traffic move keeps) held
