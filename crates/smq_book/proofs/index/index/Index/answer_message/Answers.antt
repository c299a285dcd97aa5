use Rattle.std.proofs.Common.{◌≡◌, ◌≤◌, List, Some, None, length, subst, refl, ap, sym, ◌∙◌, rules, arith}
use Rattle.std.specs.FinMap.{get}
use Rattle.smq_group.specs.declared.change.Change.{Change}
use Rattle.smq_group.specs.Changes.{TellsChanges}
use Rattle.smq_group.specs.Groups.{GroupsValue, vacancies}
use Rattle.smq_group.specs.Matching.{Grouping}
use Rattle.smq_book.specs.index.Held.{Holding}
use Rattle.smq_book.specs.index.Pushed.{without_response}
use Rattle.smq_present.specs.join.Keyed.{accepted_key, grouping_of}
use Rattle.smq_present.specs.join.Moves.{PutMessage, put_message}
use Rattle.smq_book.proofs.lemmas.index.AreDue.{due-answered, due-held}
use Rattle.smq_book.proofs.lemmas.index.Followed.{facts-alone, holds-said, holds-told, may-follow, notes-alone, numbers-stay, put-there, stored-accepted, stored-held, stored-unmoved, nobody, one-route, told}
use Rattle.smq_book.proofs.lemmas.index.Members.{kept-traffic, members-unmoved, submit-there}
use Rattle.smq_book.proofs.lemmas.index.Moves.{came-submit}
use Rattle.smq_present.proofs.lemmas.join.MoveLemmas.{put_message-moves}
use Rattle.smq_book.specs.index.Touches.{load_of}
use Rattle.smq_book.specs.edits.Reached.{IsMoveOf}
use Rattle.smq_book.proofs.lemmas.index.StandingIn.{no-receipt-in, submit-in}
use Rattle.smq_book.proofs.lemmas.index.Weights.{few-changes, submit-put}
use Rattle.smq_book.proofs.lemmas.index.Stored.{stands-none}
use Rattle.smq_book.proofs.index.index.Index.answer_message.Goals as goal

pub add_submit-requires : goal.add_submit-requires
add_submit-requires c = record {
  absent = submit-in c.requires.are c.args.place (without_response c.args.answered) c.requires.unanswered;
}

pub returns-in_default-clause-held : goal.returns-in_default-clause-held
returns-in_default-clause-held c = λ t traffic held.
    let s = c.args.settings.now in
    let i = c.args.self.now in
    let q = c.args.place in
    let m = c.args.answered in
    let old = without_response m in
    let u = put_message q m t in
    let is_before : get t.messages q ≡ Some old = sym (ap (λ (h : Holding). get h.messages q) held) ∙ c.requires.unanswered in
    let stored = stored-held s t i traffic held in
    let free : get t.receipts q ≡ None = stored.stands.apart q old is_before in
    let gone : c.key-key.result ≡ None = search rules in
    let refused : accepted_key s m ≡ None = sym c.key-key.ensures ∙ gone in
    let none : get (grouping_of s t).submits q ≡ None = submit-there s q t old is_before in
    let stores = stored-unmoved stored q m refused none free c.in_ok-set.ensures.content in
    let move = put_message-moves q m t free in
    let alike = sym (members-unmoved s q t m refused none) in
    let now = stands-none i.groups.members q (submit-in c.requires.are q old c.requires.unanswered)
    (no-receipt-in c.requires.are q (c.requires.are.apart q old c.requires.unanswered)) in
    let may = may-follow s t u i held stores traffic q move refl None (λ p e. nobody p e)
    (λ x y was is. one-route s.versions (get t.messages q) x old was is_before
    ∙ one-route s.versions (get u.messages q) m y (put-there t.messages q m) is) (kept-traffic t traffic (PutMessage (q, m)) (traffic.messages q old is_before)) in
    let set = c.in_ok-recompute_at.ensures.anew now may in
    holds-said s t u i held stores traffic q move refl c.recompute_at.new.self c.recompute_at.ensures.said refl refl refl c.recompute_at.new.self.tally
    (set.facts ∙ facts-alone s t u i held stores traffic q move refl alike)
    (set.notes ∙ notes-alone s t u i held stores traffic q move refl alike)
    (c.in_ok-recompute_at.ensures.due (due-answered (due-held s t i held) q old m is_before refl refl stores.messages))
    (numbers-stay s t i held q old m is_before refl)

pub returns-clause-held : goal.returns-clause-held
returns-clause-held c = λ t traffic held.
    let s = c.args.settings.now in
    let i = c.args.self.now in
    let q = c.args.place in
    let m = c.args.answered in
    let old = without_response m in
    let key = c.in-Some.accepted in
    let u = put_message q m t in
    let g = i.groups.members in
    let h = c.add_submit.new.self.members in
    let is_before : get t.messages q ≡ Some old = sym (ap (λ (h : Holding). get h.messages q) held) ∙ c.requires.unanswered in
    let stored = stored-held s t i traffic held in
    let free : get t.receipts q ≡ None = stored.stands.apart q old is_before in
    let keyed = sym c.key-key.ensures ∙ c.in-Some.is in
    let stores = stored-accepted stored q m key keyed free c.in_ok-set.ensures.content c.in_ok-changes.ensures.ok in
    let move = put_message-moves q m t free in
    let cs = c.as_slice.result.now in
    let tells : TellsChanges g h cs =
    subst (λ (l : List Change). TellsChanges g h l) (sym c.as_slice.ensures.value) c.in_ok-changes.ensures.changes in
    let absent = submit-in c.requires.are q old c.requires.unanswered in
    let there = came-submit g h cs tells q key absent
    (ap (λ (x : Grouping). get x.submits q) c.in_ok-changes.ensures.ok ∙ put-there g.submits q key) in
    let now = told s t u i held stores traffic q move refl cs tells in
    let may = may-follow s t u i held stores traffic q move refl None (λ p e. nobody p e)
    (λ x y was is. one-route s.versions (get t.messages q) x old was is_before
    ∙ one-route s.versions (get u.messages q) m y (put-there t.messages q m) is) (kept-traffic t traffic (PutMessage (q, m)) (traffic.messages q old is_before)) in
    holds-told s t u i held stores traffic q move refl cs tells c.follow.new.self c.follow.ensures.said refl refl refl
    (c.in_ok-follow.ensures.anew now may) there
    (c.in_ok-follow.ensures.due (due-answered (due-held s t i held) q old m is_before refl refl stores.messages))
    (numbers-stay s t i held q old m is_before refl)

pub returns-clause-vacant : goal.returns-clause-vacant
returns-clause-vacant c = λ k.
    subst (λ (v : GroupsValue). vacancies v k ≤ vacancies c.args.self.now.groups k) (sym c.follow.ensures.said.groups)
    (c.in_ok-changes.ensures.vacant k)

pub returns-clause-weighs : goal.returns-clause-weighs
returns-clause-weighs c =
    let i = c.args.self.now in
    let s = c.args.settings.now in
    let q = c.args.place in
    let old = without_response c.args.answered in
    let g = i.groups.members in
    let h = c.add_submit.new.self.members in
    let key = c.in-Some.accepted in
    let absent = submit-in c.requires.are q old c.requires.unanswered in
    let free = no-receipt-in c.requires.are q (c.requires.are.apart q old c.requires.unanswered) in
    let move = subst (λ (x : Grouping). IsMoveOf key q g x) (sym c.in_ok-changes.ensures.ok) (submit-put g q key absent free) in
    let told = few-changes g h c.in_ok-changes.changes.items c.in_ok-changes.ensures.changes key q move in
    let loaded = ap (load_of i.groups) (sym c.key-key.ensures ∙ c.in-Some.is) in
    let as-many = ap (length {A = Change}) c.as_slice.ensures.value in
    omega (arith, loaded, told, as-many, c.in_ok-changes.ensures.touches, c.in_ok-changes.ensures.pending, c.in_ok-follow.ensures.touches)
