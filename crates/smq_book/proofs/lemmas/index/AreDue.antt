-- Keys and ends of the messages whose receipts are due, as facts and messages change at a place.
use Rattle.std.proofs.Common.{◌≡◌, ◌+◌, Option, Some, None, sym, ap, ◌∙◌}
use Rattle.std.specs.FinMap.{FinMap, get, insert, remove}
use Rattle.std.specs.FinSet.{FinSet}
use Rattle.smq_kit.specs.declared.place.Place.{Place}
use Rattle.smq_kit.specs.Maps.{set_at}
use Rattle.smq_kit.specs.Orders.{place_cmp}
use Rattle.smq_tally.specs.declared.fact.Fact.{Fact}
use Rattle.smq_book.specs.declared.index.index.Index.{Index}
use Rattle.smq_present.specs.present.Settings.{SettingsValue, window_in}
use Rattle.smq_present.specs.pairing.Traffic.{Message, TrafficValue}
use Rattle.smq_book.specs.index.Anew.{AreDue}
use Rattle.smq_book.specs.index.Due.{due_at, due_cmp, due_in, is_due_fact}
use Rattle.smq_book.specs.index.Ends.{Windows, end_at, end_cmp, ends_by}
use Rattle.smq_book.specs.index.Held.{Holding, dues_in, ends_in, held_now, held_of, noted}
use Rattle.smq_book.proofs.lemmas.index.Due.{due-again, due-fact, due-fact-absent, due-put, due-still, due-taken, noted-marked}
use Rattle.smq_book.proofs.lemmas.index.Ends.{end-again, end-fact, end-fact-absent, end-put, end-still, end-taken}

-- an index that holds what is set of traffic has them
pub due-held : (s : SettingsValue) (t : TrafficValue) (i : Index) → held_now i ≡ held_of s t
    → AreDue s.windows t.messages i.tally.facts (dues_in i.due.content) (ends_in i.ends.content)
due-held s t i held = record {
  keys = ap (λ (h : Holding). h.due) held ∙ ap (due_in t.messages) (sym (ap (λ (h : Holding). h.facts) held));
  ended = ap (λ (h : Holding). h.ends) held ∙ ap (ends_by s.windows t.messages) (sym (ap (λ (h : Holding). h.facts) held));
}

module _ {windows : Windows} {messages : FinMap place_cmp Message} {facts : FinMap place_cmp Fact} {due : FinSet due_cmp} {ends : FinSet end_cmp}
    (are : AreDue windows messages facts due ends) where
  -- the same messages
  pub due-same : {later : FinMap place_cmp Message} → later ≡ messages → AreDue windows later facts due ends
  due-same same = record {
    keys = are.keys ∙ ap (λ m. due_in m facts) (sym same);
    ended = are.ended ∙ ap (λ m. ends_by windows m facts) (sym same);
  }

  -- the same facts
  pub due-known : {later : FinMap place_cmp Fact} → later ≡ facts → AreDue windows messages later due ends
  due-known same = record {
    keys = are.keys ∙ ap (due_in messages) (sym same);
    ended = are.ended ∙ ap (ends_by windows messages) (sym same);
  }

  module _ (q : Place) where
    -- ---- a fact is set

    module _ {later : FinMap place_cmp Fact} (fact : Option Fact) (sets : later ≡ set_at facts q fact) where
      -- where no message stands
      pub due-absent : get messages q ≡ None → AreDue windows messages later due ends
      due-absent none = record {
        keys = are.keys ∙ sym (due-fact-absent messages facts q fact none) ∙ ap (due_in messages) (sym sets);
        ended = are.ended ∙ sym (end-fact-absent windows messages facts q fact none) ∙ ap (ends_by windows messages) (sym sets);
      }

      module _ (m : Message) (there : get messages q ≡ Some m) where
        -- it says of the receipt what the one before said
        pub due-stays : is_due_fact fact ≡ is_due_fact (get facts q) → AreDue windows messages later due ends
        due-stays still = record {
          keys = are.keys ∙ sym (due-still messages facts q fact m there still) ∙ ap (due_in messages) (sym sets);
          ended = are.ended ∙ sym (end-still windows messages facts q fact m there still) ∙ ap (ends_by windows messages) (sym sets);
        }

        -- the key and the end are set by what it says
        pub due-set : {later_due : FinSet due_cmp} {later_ends : FinSet end_cmp}
            → later_due ≡ set_at due (due_at m.link m.moment q) (noted (is_due_fact fact))
            → later_ends ≡ set_at ends (end_at (m.moment + window_in windows m.link) q) (noted (is_due_fact fact))
            → AreDue windows messages later later_due later_ends
        due-set set_due set_end = record {
          keys = set_due
              ∙ (λ j. set_at (are.keys j) (due_at m.link m.moment q) (noted-marked (is_due_fact fact) j))
              ∙ sym (due-fact messages facts q fact m there)
              ∙ ap (due_in messages) (sym sets);
          ended = set_end
              ∙ (λ j. set_at (are.ended j) (end_at (m.moment + window_in windows m.link) q) (noted-marked (is_due_fact fact) j))
              ∙ sym (end-fact windows messages facts q fact m there)
              ∙ ap (ends_by windows messages) (sym sets);
        }

    -- ---- a message is put in, or taken out

    module _ {later : FinMap place_cmp Message} where
      -- it has no fact yet
      pub due-came : (m : Message) → get messages q ≡ None → get facts q ≡ None → later ≡ insert messages q m → AreDue windows later facts due ends
      due-came m none unknown put = record {
        keys = are.keys ∙ sym (due-put messages facts q m none unknown) ∙ ap (λ m. due_in m facts) (sym put);
        ended = are.ended ∙ sym (end-put windows messages facts q m none unknown) ∙ ap (λ m. ends_by windows m facts) (sym put);
      }

      -- it comes in the place of one of the same link and moment
      pub due-answered : (old m : Message) → get messages q ≡ Some old → old.link ≡ m.link → old.moment ≡ m.moment → later ≡ insert messages q m
          → AreDue windows later facts due ends
      due-answered old m there link moment put = record {
        keys = are.keys ∙ sym (due-again messages facts q old m there link moment) ∙ ap (λ m. due_in m facts) (sym put);
        ended = are.ended ∙ sym (end-again windows messages facts q old m there link moment) ∙ ap (λ m. ends_by windows m facts) (sym put);
      }

      -- it takes its key and its end with it
      pub due-went : {later_due : FinSet due_cmp} {later_ends : FinSet end_cmp} (m : Message) → get messages q ≡ Some m → later ≡ remove messages q
          → later_due ≡ remove due (due_at m.link m.moment q) → later_ends ≡ remove ends (end_at (m.moment + window_in windows m.link) q)
          → AreDue windows later facts later_due later_ends
      due-went m there took gone_due gone_end = record {
        keys = gone_due ∙ ap (λ (d : FinSet due_cmp). remove d (due_at m.link m.moment q)) are.keys
            ∙ sym (due-taken messages facts q m there) ∙ ap (λ m. due_in m facts) (sym took);
        ended = gone_end ∙ ap (λ (e : FinSet end_cmp). remove e (end_at (m.moment + window_in windows m.link) q)) are.ended
            ∙ sym (end-taken windows messages facts q m there) ∙ ap (λ m. ends_by windows m facts) (sym took);
      }
