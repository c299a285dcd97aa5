use Rattle.std.proofs.Common.{◌≡◌, ◌+◌, ℕ, if◌then◌else◌, Option, List, Some, None, length, subst, refl, ap, sym, ◌∙◌, rules, arith}
use Rattle.std.specs.FinMap.{FinMap, get, remove}
use Rattle.std.specs.Option.{option_copied}
use Rattle.smq_shelf.specs.Keeping.{KeepingMap}
use Rattle.smq_kit.specs.Orders.{place_cmp}
use Rattle.smq_kit.specs.declared.place.Place.{Place}
use Rattle.smq_kit.proofs.MapLemmas.{get-removed}
use Rattle.smq_kit.proofs.PlaceOrders.{places_total, places_exact}
use Rattle.smq_tally.proofs.Undone.{remove-none}
use Rattle.smq_group.specs.declared.change.Change.{Change}
use Rattle.smq_group.specs.Changes.{TellsChanges}
use Rattle.smq_group.specs.Groups.{GroupsValue, vacancies}
use Rattle.smq_group.specs.Matching.{Grouping}
use Rattle.smq_book.specs.index.Due.{due_at}
use Rattle.smq_book.specs.index.Ends.{end_at}
use Rattle.smq_present.specs.present.Settings.{window_in}
use Rattle.smq_book.specs.index.Held.{Holding, dues_in, ends_in, held_of, messages_in}
use Rattle.smq_present.specs.join.Moves.{TakeMessage, take_message}
use Rattle.smq_present.specs.pairing.Traffic.{Message}
use Rattle.smq_book.proofs.lemmas.index.AreDue.{due-absent, due-held, due-went}
use Rattle.smq_book.proofs.lemmas.index.Following.{said-itself}
use Rattle.smq_book.proofs.lemmas.index.Followed.{facts-gone, facts-left, holds-said, may-follow, notes-gone, notes-left, numbers-went, stored-dropped, stored-held, stored-withdrawn, nobody, one-none, told}
use Rattle.smq_book.proofs.lemmas.index.Members.{kept-traffic, members-untaken, submit-there}
use Rattle.smq_book.proofs.lemmas.index.Stored.{stored-at}
use Rattle.smq_present.proofs.lemmas.join.MoveLemmas.{take_message-moves}
use Rattle.smq_book.specs.index.Touches.{is_key, taken_of}
use Rattle.smq_kit.specs.declared.link_key.LinkKey.{LinkKey}
use Rattle.smq_book.specs.edits.Reached.{IsMoveOf}
use Rattle.smq_book.proofs.lemmas.index.StandingIn.{no-receipt-in, submit-in}
use Rattle.smq_book.proofs.lemmas.index.Weights.{few-changes, submit-counts, submit-taken}
use Rattle.smq_book.proofs.index.index.Index.take_message.Goals as goal

pub returns-in_default-clause-held : goal.returns-in_default-clause-held
returns-in_default-clause-held c = λ t traffic held.
    let q = c.args.place in
    let gone : ◌≡◌ {A = Option Message} None (option_copied c.get.result) = search rules in
    let none : get t.messages q ≡ None =
    sym (gone ∙ c.get.ensures ∙ stored-at c.args.self.now.messages.content q ∙ ap (λ (h : Holding). get h.messages q) held) in
    held
    ∙ (λ i. held_of c.args.settings.now (record {
      messages = sym (remove-none places_total places_exact t.messages q none) i;
      receipts = t.receipts;
      notes = t.notes;
    }))

pub remove_submit-requires : goal.remove_submit-requires
remove_submit-requires c =
    let i = c.args.self.now in
    let s = c.args.settings.now in
    let q = c.args.place in
    let m = c.in-Some.message.now in
    let some : ◌≡◌ {A = Option Message} (Some m) (option_copied c.get.result) = search rules in
    let there : get (messages_in i.messages.content) q ≡ Some m = sym (some ∙ c.get.ensures ∙ stored-at i.messages.content q) in
    record {
      there = submit-in c.requires.are q m there ∙ sym c.key-key.ensures ∙ c.in-Some-key.is;
    }

pub returns-in_default-key-clause-held : goal.returns-in_default-key-clause-held
returns-in_default-key-clause-held c = λ t traffic held.
    let s = c.args.settings.now in
    let i = c.args.self.now in
    let q = c.args.place in
    let m = c.in-Some.message.now in
    let u = take_message q t in
    let some : ◌≡◌ {A = Option Message} (Some m) (option_copied c.get.result) = search rules in
    let there : get t.messages q ≡ Some m =
    sym (ap (λ (h : Holding). get h.messages q) held) ∙ sym (some ∙ c.get.ensures ∙ stored-at i.messages.content q) in
    let gone : c.key-key.result ≡ None = search rules in
    let gone-due = c.in_ok-set_due.ensures.value
    ∙ (λ j. remove (dues_in i.due.content) (due_at (c.message.view_is j).link (c.message.view_is j).moment q)) in
    let gone-end = c.in_ok-set_end.ensures.value
    ∙ ap (remove (ends_in i.ends.content)) (c.of-end.ensures
    ∙ (λ j. end_at ((c.message.view_is j).moment + (c.of-window.ensures ∙ (λ k. window_in (c.link_windows.ensures k) (c.message.view_is k).link)) j) q)) in
    let none = submit-there s q t m there ∙ sym c.key-key.ensures ∙ gone in
    let stores = stored-dropped (stored-held s t i traffic held) q traffic none c.in_ok-remove.ensures.ordered c.in_ok-remove.ensures.content in
    let apart = (stored-held s t i traffic held).stands.apart q m there in
    let free : get u.messages q ≡ None = get-removed places_total places_exact t.messages q in
    let move = take_message-moves q t apart in
    let alike = sym (members-untaken s q t none) in
    let taken = c.in_ok-take_fact.ensures.facts in
    holds-said s t u i held stores traffic q move refl
    (record i { messages = c.remove.new.self; due = c.set_due.new.due; ends = c.set_end.new.ends; numbers = c.take_number.new.numbers })
    said-itself refl refl refl c.take_fact.new.tally
    (taken ∙ facts-left s t u i held stores traffic q move refl apart apart free alike)
    (c.take_fact.ensures.notes ∙ notes-left s t u i held stores traffic q move refl apart apart alike)
    (due-absent (due-went (due-held s t i held) q m there stores.messages gone-due gone-end) q None taken
    (ap (λ (x : FinMap place_cmp Message). get x q) stores.messages ∙ free))
    (numbers-went s t i held q m there c.in_ok-take_number.ensures.value)

pub returns-clause-held : goal.returns-clause-held
returns-clause-held c = λ t traffic held.
    let s = c.args.settings.now in
    let i = c.args.self.now in
    let q = c.args.place in
    let m = c.in-Some.message.now in
    let u = take_message q t in
    let g = i.groups.members in
    let h = c.remove_submit.new.self.members in
    let some : ◌≡◌ {A = Option Message} (Some m) (option_copied c.get.result) = search rules in
    let there : get t.messages q ≡ Some m =
    sym (ap (λ (h : Holding). get h.messages q) held) ∙ sym (some ∙ c.get.ensures ∙ stored-at i.messages.content q) in
    let stores = stored-withdrawn
    (stored-held s t i traffic held) q traffic c.in_ok-remove.ensures.ordered c.in_ok-remove.ensures.content c.in_ok-changes.ensures.ok in
    let apart = (stored-held s t i traffic held).stands.apart q m there in
    let free : get u.messages q ≡ None = get-removed places_total places_exact t.messages q in
    let move = take_message-moves q t apart in
    let cs = c.as_slice.result.now in
    let tells : TellsChanges g h cs =
    subst (λ (l : List Change). TellsChanges g h l) (sym c.as_slice.ensures.value) c.in_ok-changes.ensures.changes in
    let gone-due = c.in_ok-set_due.ensures.value
    ∙ (λ j. remove (dues_in i.due.content) (due_at (c.message.view_is j).link (c.message.view_is j).moment q)) in
    let gone-end = c.in_ok-set_end.ensures.value
    ∙ ap (remove (ends_in i.ends.content)) (c.of-end.ensures
    ∙ (λ j. end_at ((c.message.view_is j).moment + (c.of-window.ensures ∙ (λ k. window_in (c.link_windows.ensures k) (c.message.view_is k).link)) j) q)) in
    let taken = c.in_ok-take_fact-2.ensures.facts in
    let now = told s t u i held stores traffic q move refl cs tells in
    let may = may-follow s t u i held stores traffic q move refl None (λ p e. nobody p e)
    (λ x y was is. one-none (get u.messages q) y free is) (kept-traffic t traffic (TakeMessage q) tt) in
    let set = c.in_ok-follow.ensures.anew now may in
    holds-said s t u i held stores traffic q move refl c.follow.new.self c.follow.ensures.said refl refl refl c.take_fact-2.new.tally
    (taken
    ∙ (λ j. remove (set.facts j) q)
    ∙ facts-gone s t u i held stores traffic q move refl apart apart free cs tells)
    (c.take_fact-2.ensures.notes
    ∙ set.notes
    ∙ notes-gone s t u i held stores traffic q move refl apart apart free cs tells)
    (due-absent (c.in_ok-follow.ensures.due (due-went (due-held s t i held) q m there stores.messages gone-due gone-end)) q None taken
    (ap (λ (k : KeepingMap Place Message). get (messages_in k.content) q) c.follow.ensures.said.messages
    ∙ ap (λ (x : FinMap place_cmp Message). get x q) stores.messages ∙ free))
    (numbers-went s t i held q m there c.in_ok-take_number.ensures.value)

pub returns-clause-vacant : goal.returns-clause-vacant
returns-clause-vacant c = λ k.
    let i = c.args.self.now in
    let s = c.args.settings.now in
    let q = c.args.place in
    let m = c.in-Some.message.now in
    let some : ◌≡◌ {A = Option Message} (Some m) (option_copied c.get.result) = search rules in
    let there : get (messages_in i.messages.content) q ≡ Some m = sym (some ∙ c.get.ensures ∙ stored-at i.messages.content q) in
    let keyed = submit-in c.requires.are q m there ∙ sym c.key-key.ensures in
    let taken = ap {B = ℕ} (λ (key : Option LinkKey). if is_key k key then 1 else 0) (keyed ∙ c.in-Some-key.is) in
    let same = ap (λ (v : GroupsValue). vacancies v k) c.follow.ensures.said.groups in
    omega (arith, taken, same, c.in_ok-changes.ensures.vacant k)

pub returns-clause-weighs : goal.returns-clause-weighs
returns-clause-weighs c =
    let i = c.args.self.now in
    let s = c.args.settings.now in
    let q = c.args.place in
    let m = c.in-Some.message.now in
    let g = i.groups.members in
    let h = c.remove_submit.new.self.members in
    let key = c.in-Some-key.key in
    let some : ◌≡◌ {A = Option Message} (Some m) (option_copied c.get.result) = search rules in
    let there : get (messages_in i.messages.content) q ≡ Some m = sym (some ∙ c.get.ensures ∙ stored-at i.messages.content q) in
    let keyed : get g.submits q ≡ Some key = submit-in c.requires.are q m there ∙ sym c.key-key.ensures ∙ c.in-Some-key.is in
    let free = no-receipt-in c.requires.are q (c.requires.are.apart q m there) in
    let move = subst (λ (x : Grouping). IsMoveOf key q g x) (sym c.in_ok-changes.ensures.ok) (submit-taken g q key keyed free) in
    let told = few-changes g h c.in_ok-changes.changes.items c.in_ok-changes.ensures.changes key q move in
    let loaded = ap (taken_of i.groups) keyed in
    let one = submit-counts g q key keyed in
    let as-many = ap (length {A = Change}) c.as_slice.ensures.value in
    omega (
      arith,
      loaded,
      one,
      told,
      as-many,
      c.take_number.ensures.touches,
      c.in_ok-set_due.ensures.touches,
      c.in_ok-set_end.ensures.touches,
      c.in_ok-changes.ensures.touches,
      c.in_ok-changes.ensures.pending,
      c.in_ok-follow.ensures.touches,
      c.in_ok-take_fact-2.ensures.touches,
    )
