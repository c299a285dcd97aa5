use Rattle.std.proofs.Common.{◌≡◌, ◌≤◌, List, None, length, subst, refl, ap, sym, ◌∙◌, rules, arith}
use Rattle.std.specs.FinMap.{get, insert}
use Rattle.smq_kit.specs.declared.place.Place.{Place}
use Rattle.smq_group.specs.declared.change.Change.{Change}
use Rattle.smq_group.specs.Changes.{TellsChanges}
use Rattle.smq_group.specs.Groups.{GroupsValue, vacancies}
use Rattle.smq_group.specs.Matching.{Grouping}
use Rattle.smq_book.specs.index.Held.{Holding}
use Rattle.smq_present.specs.join.Keyed.{accepted_key}
use Rattle.smq_present.specs.join.Moves.{PutMessage, put_message}
use Rattle.smq_book.proofs.lemmas.index.AreDue.{due-came, due-held}
use Rattle.smq_book.proofs.lemmas.index.Followed.{holds-told, holds-unaccepted, may-follow, numbers-came, unknown-before, put-there, stored-accepted, stored-held, stored-refused, nobody, one-none, told}
use Rattle.smq_book.proofs.lemmas.index.Members.{kept-traffic, members-unput}
use Rattle.smq_book.proofs.lemmas.index.Moves.{came-submit}
use Rattle.smq_present.proofs.lemmas.join.MoveLemmas.{put_message-moves}
use Rattle.smq_book.specs.index.Touches.{load_of}
use Rattle.smq_book.specs.edits.Reached.{IsMoveOf}
use Rattle.smq_book.proofs.lemmas.index.StandingIn.{no-receipt-in, no-submit-in}
use Rattle.smq_book.proofs.lemmas.index.Weights.{few-changes, submit-put}
use Rattle.smq_book.specs.index.Due.{is_due_fact}
use Rattle.smq_book.proofs.index.index.Index.put_message.Goals as goal

pub add_submit-requires : goal.add_submit-requires
add_submit-requires c = record { absent = no-submit-in c.requires.are c.args.place c.requires.absent }

pub returns-in_default-clause-held : goal.returns-in_default-clause-held
returns-in_default-clause-held c = λ t traffic held.
    let s = c.args.settings.now in
    let i = c.args.self.now in
    let q = c.args.place in
    let m = c.args.message in
    let u = put_message q m t in
    let none : get t.messages q ≡ None = sym (ap (λ (h : Holding). get h.messages q) held) ∙ c.requires.absent in
    let free : get t.receipts q ≡ None = sym (ap (λ (h : Holding). get h.receipts q) held) ∙ c.requires.apart in
    let gone : c.key-key.result ≡ None = search rules in
    let refused : accepted_key s m ≡ None = sym c.key-key.ensures ∙ gone in
    let numbered = c.in_ok-put_number.ensures.value in
    let stores = stored-refused (stored-held s t i traffic held) q m refused none free c.in_ok-set.ensures.content in
    let move = put_message-moves q m t free in
    let fact = c.fact_of_unaccepted-fact in
    let there = put-there t.messages q m in
    holds-unaccepted s t u i held stores traffic q move refl free free (sym (members-unput s q t m refused none)) m fact.result
    (record i { messages = c.set.new.self; tally = c.add.new.self; numbers = c.put_number.new.numbers }) there
    (fact.ensures.value s u (sym c.routes.ensures) refused there)
    (fact.ensures.due s refused ∙ sym (ap is_due_fact c.requires.unknown)) refl refl refl
    (c.in_ok-add.ensures.ok ∙ ap (λ (p : Place). insert i.tally.facts p fact.result) fact.ensures.place) c.add.ensures.notes
    (due-came (due-held s t i held) q m none (unknown-before s t i held q none) stores.messages) (numbers-came s t i held q m none numbered)

pub returns-clause-held : goal.returns-clause-held
returns-clause-held c = λ t traffic held.
    let s = c.args.settings.now in
    let i = c.args.self.now in
    let q = c.args.place in
    let m = c.args.message in
    let key = c.in-Some.key in
    let u = put_message q m t in
    let g = i.groups.members in
    let h = c.add_submit.new.self.members in
    let none : get t.messages q ≡ None = sym (ap (λ (h : Holding). get h.messages q) held) ∙ c.requires.absent in
    let numbered = c.in_ok-put_number.ensures.value in
    let free : get t.receipts q ≡ None = sym (ap (λ (h : Holding). get h.receipts q) held) ∙ c.requires.apart in
    let is = sym c.key-key.ensures ∙ c.in-Some.is in
    let stores = stored-accepted (stored-held s t i traffic held) q m key is free c.in_ok-set-2.ensures.content c.in_ok-changes.ensures.ok in
    let move = put_message-moves q m t free in
    let cs = c.as_slice.result.now in
    let tells : TellsChanges g h cs =
    subst (λ (l : List Change). TellsChanges g h l) (sym c.as_slice.ensures.value) c.in_ok-changes.ensures.changes in
    let absent = no-submit-in c.requires.are q c.requires.absent in
    let there = came-submit g h cs tells q key absent
    (ap (λ (x : Grouping). get x.submits q) c.in_ok-changes.ensures.ok ∙ put-there g.submits q key) in
    let now = told s t u i held stores traffic q move refl cs tells in
    let may = may-follow s t u i held stores traffic q move refl None (λ p e. nobody p e)
    (λ x y was is. one-none (get t.messages q) x none was) (kept-traffic t traffic (PutMessage (q, m)) c.requires.dir) in
    holds-told s t u i held stores traffic q move refl cs tells c.follow.new.self c.follow.ensures.said refl refl refl
    (c.in_ok-follow.ensures.anew now may) there
    (c.in_ok-follow.ensures.due (due-came (due-held s t i held) q m none (unknown-before s t i held q none) stores.messages))
    (numbers-came s t i held q m none numbered)

pub returns-clause-vacant : goal.returns-clause-vacant
returns-clause-vacant c = λ k.
    subst (λ (v : GroupsValue). vacancies v k ≤ vacancies c.args.self.now.groups k) (sym c.follow.ensures.said.groups)
    (c.in_ok-changes.ensures.vacant k)

pub returns-clause-weighs : goal.returns-clause-weighs
returns-clause-weighs c =
    let i = c.args.self.now in
    let s = c.args.settings.now in
    let q = c.args.place in
    let g = i.groups.members in
    let h = c.add_submit.new.self.members in
    let key = c.in-Some.key in
    let absent = no-submit-in c.requires.are q c.requires.absent in
    let free = no-receipt-in c.requires.are q c.requires.apart in
    let move = subst (λ (x : Grouping). IsMoveOf key q g x) (sym c.in_ok-changes.ensures.ok) (submit-put g q key absent free) in
    let told = few-changes g h c.in_ok-changes.changes.items c.in_ok-changes.ensures.changes key q move in
    let loaded = ap (load_of i.groups) (sym c.key-key.ensures ∙ c.in-Some.is) in
    let as-many = ap (length {A = Change}) c.as_slice.ensures.value in
    omega (arith, loaded, told, as-many, c.put_number.ensures.touches, c.in_ok-changes.ensures.touches, c.in_ok-changes.ensures.pending, c.in_ok-follow.ensures.touches)
