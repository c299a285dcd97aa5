use Rattle.std.proofs.Common.{◌≡◌, Option, Some, None, ap, sym, ◌∙◌, rules}
use Rattle.std.specs.FinMap.{get, insert}
use Rattle.std.specs.Option.{option_copied}
use Rattle.std.specs.Prelude.{option_map}
use Rattle.smq_kit.specs.Maps.{set_at}
use Rattle.smq_tally.specs.declared.fact.Fact.{Fact}
use Rattle.smq_tally.specs.Tally.{Held}
use Rattle.smq_book.specs.index.Held.{Holding}
use Rattle.smq_present.specs.join.Circumstances.{circumstances, has_ended, route_in}
use Rattle.smq_present.specs.join.Facts.{fact_in_circumstances, facts_of}
use Rattle.smq_present.specs.pairing.Traffic.{Message}
use Rattle.smq_present.specs.present.Settings.{window_in}
use Rattle.smq_book.proofs.lemmas.index.Due.{due-fact-absent, due-still}
use Rattle.smq_book.proofs.lemmas.index.Ends.{end-fact-absent, end-still}
use Rattle.smq_book.proofs.lemmas.index.Restated.{due-restated, held-restated, none-known, none-set, restated-known}
use Rattle.smq_book.proofs.lemmas.index.Stored.{stored-at}
use Rattle.smq_present.proofs.lemmas.join.MoveLemmas.{fact-at}
use Rattle.smq_book.proofs.index.index.Index.restate_at.Goals as goal

pub returns-in_default-clause-held : goal.returns-in_default-clause-held
returns-in_default-clause-held c = λ z t facts traffic versions windows clock may held.
    let i = c.args.self.now in
    let q = c.args.place in
    let gone : ◌≡◌ {A = Option Message} None (option_copied c.get.result) = search rules in
    let none : get t.messages q ≡ None =
    ap (λ (h : Holding). get h.messages q) (sym held) ∙ sym (gone ∙ c.get.ensures ∙ stored-at i.messages.content q) in
    let unknown : get (facts_of z t) q ≡ None = fact-at z t q ∙ ap (option_map (λ (m : Message). fact_in_circumstances q m (circumstances z t m))) none in
    held-restated z t facts i held c.take_fact.new.tally q c.take_fact.ensures.notes
    (c.in_ok-take_fact.ensures.facts ∙ ap (set_at i.tally.facts q) (sym unknown))
    (due-fact-absent t.messages facts q (get (facts_of z t) q) none)
    (end-fact-absent z.windows t.messages facts q (get (facts_of z t) q) none)

pub returns-in_default-there-clause-held : goal.returns-in_default-there-clause-held
returns-in_default-there-clause-held c = λ z t facts traffic versions windows clock may held.
    let i = c.args.self.now in
    let q = c.args.place in
    let m = c.in-Some.message.now in
    let some : ◌≡◌ {A = Option Message} (Some m) (option_copied c.get.result) = search rules in
    let there : get t.messages q ≡ Some m =
    ap (λ (h : Holding). get h.messages q) (sym held) ∙ sym (some ∙ c.get.ensures ∙ stored-at i.messages.content q) in
    let unknown : ◌≡◌ {A = Option Fact} None c.look_up-there.result = search rules in
    let none : get i.tally.facts q ≡ None = sym c.look_up-there.ensures.value ∙ sym unknown in
    let known : get (facts_of z t) q ≡ None = none-known z t facts may q m there (ap (λ (h : Holding). get h.facts q) (sym held) ∙ none) in
    held-restated z t facts i held c.look_up-there.new.self q (ap (λ (h : Held). h.notes) c.look_up-there.ensures.held)
    (ap (λ (h : Held). h.facts) c.look_up-there.ensures.held ∙ sym (none-set i.tally.facts q none) ∙ ap (set_at i.tally.facts q) (sym known))
    (due-still t.messages facts q (get (facts_of z t) q) m there (due-restated z t facts may q m there))
    (end-still z.windows t.messages facts q (get (facts_of z t) q) m there (due-restated z t facts may q m there))

pub returns-clause-held : goal.returns-clause-held
returns-clause-held c = λ z t facts traffic versions windows clock may held.
    let i = c.args.self.now in
    let q = c.args.place in
    let m = c.in-Some.message.now in
    let some : ◌≡◌ {A = Option Message} (Some m) (option_copied c.get.result) = search rules in
    let there : get t.messages q ≡ Some m =
    ap (λ (h : Holding). get h.messages q) (sym held) ∙ sym (some ∙ c.get.ensures ∙ stored-at i.messages.content q) in
    let f = c.in-Some-there.fact in
    let is : get facts q ≡ Some f = ap (λ (h : Holding). get h.facts q) (sym held) ∙ sym c.look_up-there.ensures.value ∙ c.in-Some-there.is in
    let said = c.message-said.ensures in
    let known = restated-known z t facts may q m there f is c.route-route.result c.has_lapsed-lapsed.result
    (c.route-route.ensures ∙ (λ j. route_in (sym versions j) (said j)))
    (c.has_lapsed-lapsed.ensures ∙ (λ j. has_ended (sym clock j) (said j).moment (window_in (sym windows j) (said j).link))) in
    held-restated z t facts i held c.replace.new.self q (c.in_ok-replace.ensures.notes ∙ ap (λ (h : Held). h.notes) c.look_up-there.ensures.held)
    (c.in_ok-replace.ensures.ok
    ∙ (λ j. insert (c.look_up-there.ensures.held j).facts (c.restated-fact.ensures j).place (c.restated-fact.ensures j))
    ∙ ap (set_at i.tally.facts q) known)
    (due-still t.messages facts q (get (facts_of z t) q) m there (due-restated z t facts may q m there))
    (end-still z.windows t.messages facts q (get (facts_of z t) q) m there (due-restated z t facts may q m there))
