use Rattle.std.proofs.Common.{ap, sym, ◌∙◌}
use Rattle.std.specs.Option.{option_copied}
use Rattle.smq_kit.specs.Orders.{place_cmp}
use Rattle.std.specs.FinMap.{FinMap}
use Rattle.smq_book.specs.index.Held.{decider_held}
use Rattle.smq_book.specs.index.Stored.{is_told_shared}
use Rattle.smq_present.specs.join.Circumstances.{circumstances_by, has_ended, standing_in}
use Rattle.smq_present.specs.join.Facts.{fact_in_circumstances}
use Rattle.smq_present.specs.pairing.Traffic.{Message, ReceivedReceipt}
use Rattle.smq_present.specs.present.Settings.{window_in}
use Rattle.smq_book.proofs.lemmas.index.Stored.{fact-is, shared-there}
use Rattle.smq_book.proofs.index.index.fact_at.Goals as goal

pub returns-clause-value : goal.returns-clause-value
returns-clause-value c = λ t g are told same there routed.
    let z = c.args.settings.now in
    let m = c.args.message.now in
    let said = c.message-said.ensures in
    let shared = shared-there z t g are c.args.place m there ∙ sym (ap is_told_shared told) ∙ sym c.is_shared.ensures in
    fact-is z t g are c.args.place m c.args.standing
    (option_copied c.as_ref.result) c.args.route c.has_lapsed-lapsed.result c.fact_from_parts.result
    there told
    (c.as_ref.ensures.value ∙ c.received_in-decider.ensures ∙ c.decider_of.ensures
    ∙ ap (λ (r : FinMap place_cmp ReceivedReceipt). decider_held r c.args.standing) same)
    routed
    (c.has_lapsed-lapsed.ensures ∙ (λ i. has_ended (c.clock.ensures i) (said i).moment (window_in (c.link_windows.ensures i) (said i).link)))
    (c.fact_from_parts.ensures.value (standing_in g z m) shared
    ∙ ap (λ (x : Message). fact_in_circumstances c.args.place x
    (circumstances_by (standing_in g z m) (option_copied c.as_ref.result) c.args.route c.has_lapsed-lapsed.result)) said)
