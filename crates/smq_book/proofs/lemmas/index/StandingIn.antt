-- What stands at a place among the members of what is stored.
use Rattle.std.proofs.Common.{◌≡◌, Some, None, ap, ◌∙◌}
use Rattle.std.specs.FinMap.{get}
use Rattle.smq_kit.specs.declared.place.Place.{Place}
use Rattle.smq_group.specs.Matching.{Grouping}
use Rattle.smq_present.specs.present.Settings.{SettingsValue}
use Rattle.smq_present.specs.pairing.Traffic.{Message, ReceivedReceipt, TrafficValue}
use Rattle.smq_present.specs.join.Keyed.{accepted_key, keyed_receipt}
use Rattle.smq_book.specs.index.Held.{AreOf}
use Rattle.smq_book.proofs.lemmas.index.Members.{receipt-absent, receipt-there, submit-absent, submit-there}

module _ {s : SettingsValue} {t : TrafficValue} {g : Grouping} (are : AreOf s t g) (q : Place) where
  pub submit-in : (m : Message) → get t.messages q ≡ Some m → get g.submits q ≡ accepted_key s m
  submit-in m there = ap (λ (x : Grouping). get x.submits q) are.grouped ∙ submit-there s q t m there

  pub no-submit-in : get t.messages q ≡ None → get g.submits q ≡ None
  no-submit-in none = ap (λ (x : Grouping). get x.submits q) are.grouped ∙ submit-absent s q t none

  pub receipt-in : (r : ReceivedReceipt) → get t.receipts q ≡ Some r → get g.receipts q ≡ Some (keyed_receipt s r)
  receipt-in r there = ap (λ (x : Grouping). get x.receipts q) are.grouped ∙ receipt-there s q t r there

  pub no-receipt-in : get t.receipts q ≡ None → get g.receipts q ≡ None
  no-receipt-in none = ap (λ (x : Grouping). get x.receipts q) are.grouped ∙ receipt-absent s q t none
