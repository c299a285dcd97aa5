use Rattle.std.proofs.Common.{◌≡◌, ◌+◌, Option, Some, None, refl, ap, sym, ◌∙◌, rules}
use Rattle.std.specs.FinMap.{get, insert}
use Rattle.std.specs.Option.{option_copied}
use Rattle.std.specs.Prelude.{option_map}
use Rattle.smq_kit.specs.Maps.{set_at}
use Rattle.smq_tally.specs.declared.fact.Fact.{Fact}
use Rattle.smq_book.specs.index.Due.{due_at, is_due_fact}
use Rattle.smq_book.specs.index.Ends.{end_at}
use Rattle.smq_route.specs.Versions.{Versions}
use Rattle.smq_present.specs.join.Circumstances.{route_in}
use Rattle.smq_present.specs.present.Settings.{window_in}
use Rattle.smq_book.specs.index.Anew.{stored_in}
use Rattle.smq_book.specs.index.Held.{dues_in, ends_in, messages_in, noted}
use Rattle.smq_present.specs.pairing.Traffic.{Message}
use Rattle.smq_book.proofs.lemmas.index.AreDue.{due-absent, due-set, due-stays}
use Rattle.smq_book.proofs.lemmas.index.Stored.{fact-absent, stored-at}
use Rattle.smq_book.proofs.index.index.Index.set_fact.Goals as goal

pub returns-in_default-clause-facts : goal.returns-in_default-clause-facts
returns-in_default-clause-facts c = λ new told may.
    let i = c.args.self.now in
    let q = c.args.place in
    let gone : ◌≡◌ {A = Option Message} None (option_copied c.get.result) = search rules in
    let none : get (messages_in i.messages.content) q ≡ None = sym (gone ∙ c.get.ensures ∙ stored-at i.messages.content q) in
    c.in_ok-take_fact.ensures.facts
    ∙ ap (set_at i.tally.facts q) (sym (fact-absent c.args.settings.now (stored_in i) i.groups.members may.are q none))

pub returns-in_default-clause-due : goal.returns-in_default-clause-due
returns-in_default-clause-due c = λ same.
    let gone : ◌≡◌ {A = Option Message} None (option_copied c.get.result) = search rules in
    due-absent same c.args.place None c.in_ok-take_fact.ensures.facts
    (sym (gone ∙ c.get.ensures ∙ stored-at c.args.self.now.messages.content c.args.place))

pub returns-in_ok-set_end-clause-facts : goal.returns-in_ok-set_end-clause-facts
returns-in_ok-set_end-clause-facts c = λ new told may.
    let i = c.args.self.now in
    let q = c.args.place in
    let m = c.in-Some.message.now in
    let some : ◌≡◌ {A = Option Message} (Some m) (option_copied c.get.result) = search rules in
    let there : get (messages_in i.messages.content) q ≡ Some m = sym (some ∙ c.get.ensures ∙ stored-at i.messages.content q) in
    c.in_ok-replace.ensures.ok
    ∙ (λ j. insert (c.look_up-there.ensures.held j).facts (c.fact_at-fact.ensures.place j) c.fact_at-fact.result)
    ∙ ap (set_at i.tally.facts q) (c.fact_at-fact.ensures.value (stored_in i) i.groups.members may.are told refl there
    (c.route_by-route.ensures (λ f is. may.routed q m f there (sym c.look_up-there.ensures.value ∙ is) ∙ ap (λ (v : Versions). route_in v m) (sym c.routes.ensures))
    ∙ ap (λ (v : Versions). route_in v m) c.routes.ensures))

pub returns-else-is_now-is_due-clause-facts : goal.returns-else-is_now-is_due-clause-facts
returns-else-is_now-is_due-clause-facts c = λ new told may.
    let i = c.args.self.now in
    let q = c.args.place in
    let m = c.in-Some.message.now in
    let some : ◌≡◌ {A = Option Message} (Some m) (option_copied c.get.result) = search rules in
    let there : get (messages_in i.messages.content) q ≡ Some m = sym (some ∙ c.get.ensures ∙ stored-at i.messages.content q) in
    c.in_ok-replace.ensures.ok
    ∙ (λ j. insert (c.look_up-there.ensures.held j).facts (c.fact_at-fact.ensures.place j) c.fact_at-fact.result)
    ∙ ap (set_at i.tally.facts q) (c.fact_at-fact.ensures.value (stored_in i) i.groups.members may.are told refl there
    (c.route_by-route.ensures (λ f is. may.routed q m f there (sym c.look_up-there.ensures.value ∙ is) ∙ ap (λ (v : Versions). route_in v m) (sym c.routes.ensures))
    ∙ ap (λ (v : Versions). route_in v m) c.routes.ensures))

pub returns-in_ok-set_end-clause-due : goal.returns-in_ok-set_end-clause-due
returns-in_ok-set_end-clause-due c = λ same.
    let i = c.args.self.now in
    let q = c.args.place in
    let m = c.in-Some.message.now in
    let some : ◌≡◌ {A = Option Message} (Some m) (option_copied c.get.result) = search rules in
    let fact : Fact = c.fact_at-fact.result in
    let is_now = c.is_due-is_now.ensures (Some fact) refl in
    due-set same q (Some fact)
    (c.in_ok-replace.ensures.ok ∙ (λ j. insert (c.look_up-there.ensures.held j).facts (c.fact_at-fact.ensures.place j) fact))
    m (sym (some ∙ c.get.ensures ∙ stored-at i.messages.content q))
    (c.in_ok-set_due.ensures.value
    ∙ (λ j. set_at (dues_in i.due.content) (due_at (c.message.view_is j).link (c.message.view_is j).moment q) (noted (is_now j))))
    (c.in_ok-set_end.ensures.value
    ∙ (λ j. set_at (ends_in i.ends.content) (c.of-end.ensures j) (noted (is_now j)))
    ∙ (λ j. set_at (ends_in i.ends.content) (end_at ((c.message.view_is j).moment
    + (c.of.ensures ∙ (λ k. window_in (c.link_windows.ensures k) (c.message.view_is k).link)) j) q) (noted (is_due_fact (Some fact)))))

pub returns-else-is_now-is_due-clause-due : goal.returns-else-is_now-is_due-clause-due
returns-else-is_now-is_due-clause-due c = λ same.
    let i = c.args.self.now in
    let q = c.args.place in
    let m = c.in-Some.message.now in
    let some : ◌≡◌ {A = Option Message} (Some m) (option_copied c.get.result) = search rules in
    let fact : Fact = c.fact_at-fact.result in
    let equal : c.is_due-is_now.result ≡ c.is_due.result = search rules in
    let before = c.outcome_of-before.ensures ∙ ap (option_map (λ (f : Fact). f.outcome)) c.look_up-there.ensures.value in
    due-stays same q (Some fact)
    (c.in_ok-replace.ensures.ok ∙ (λ j. insert (c.look_up-there.ensures.held j).facts (c.fact_at-fact.ensures.place j) fact))
    m (sym (some ∙ c.get.ensures ∙ stored-at i.messages.content q))
    (sym (c.is_due-is_now.ensures (Some fact) refl) ∙ equal ∙ c.is_due.ensures (get i.tally.facts q) before)
