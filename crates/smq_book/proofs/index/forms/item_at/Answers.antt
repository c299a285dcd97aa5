use Rattle.std.proofs.Common.{◌≡◌, Option, Some, None, sym, ap, ◌∙◌, rules}
use Rattle.std.specs.Option.{option_copied}
use Rattle.std.specs.Prelude.{option_map}
use Rattle.smq_kit.specs.declared.place.Dir.{Dir}
use Rattle.smq_book.specs.declared.index.stored.Item.TheVariants as said
use Rattle.smq_book.specs.index.Held.{held_now, traffic_held}
use Rattle.smq_book.specs.index.LinkOut.{item_in}
use Rattle.smq_present.specs.pairing.Traffic.{Message, ReceivedReceipt}
use Rattle.smq_book.proofs.lemmas.index.Stored.{stored-at}
use Rattle.smq_book.proofs.index.forms.item_at.Goals as goal

pub returns-in-None : goal.returns-in-None
returns-in-None c =
    let q = c.args.place in
    let there : ◌≡◌ {A = Option Message} None (option_copied c.get.result) = search rules in
    ap (option_map said.Message) (there ∙ c.get.ensures ∙ stored-at c.args.index.now.messages.content q)
    ∙ sym (ap (λ (d : Dir). item_in d (traffic_held (held_now c.args.index.now)) q) c.in-FromClient.is)

pub returns-in_ok-copy-in-Some : goal.returns-in_ok-copy-in-Some
returns-in_ok-copy-in-Some c =
    let q = c.args.place in
    let there : ◌≡◌ {A = Option Message} (Some c.in-Some.message.now) (option_copied c.get.result) = search rules in
    ap (λ (m : Message). Some (said.Message m)) c.in_ok-copy-in-Some.ensures
    ∙ ap (option_map said.Message) (there ∙ c.get.ensures ∙ stored-at c.args.index.now.messages.content q)
    ∙ sym (ap (λ (d : Dir). item_in d (traffic_held (held_now c.args.index.now)) q) c.in-FromClient.is)

pub returns-in-None-get : goal.returns-in-None-get
returns-in-None-get c =
    let q = c.args.place in
    let there : ◌≡◌ {A = Option ReceivedReceipt} None (option_copied c.get-in-FromCentre.result) = search rules in
    ap (option_map said.Receipt) (there ∙ c.get-in-FromCentre.ensures ∙ stored-at c.args.index.now.receipts.content q)
    ∙ sym (ap (λ (d : Dir). item_in d (traffic_held (held_now c.args.index.now)) q) c.in-FromCentre.is)

pub returns-in_ok-copy-in-Some-get : goal.returns-in_ok-copy-in-Some-get
returns-in_ok-copy-in-Some-get c =
    let q = c.args.place in
    let there : ◌≡◌ {A = Option ReceivedReceipt} (Some c.in-Some-get.receipt.now) (option_copied c.get-in-FromCentre.result) = search rules in
    ap (λ (r : ReceivedReceipt). Some (said.Receipt r)) c.in_ok-copy-in-Some-get.ensures
    ∙ ap (option_map said.Receipt) (there ∙ c.get-in-FromCentre.ensures ∙ stored-at c.args.index.now.receipts.content q)
    ∙ sym (ap (λ (d : Dir). item_in d (traffic_held (held_now c.args.index.now)) q) c.in-FromCentre.is)
