use Rattle.std.proofs.Common.{◌≡◌, ◌≤◌, List, None, length, subst, refl, ap, sym, ◌∙◌, arith, Some}
use Rattle.std.specs.FinMap.{get}
use Rattle.smq_group.specs.declared.change.Change.{Change}
use Rattle.smq_group.specs.Changes.{TellsChanges}
use Rattle.smq_group.specs.Groups.{GroupsValue, with_receipt, vacancies}
use Rattle.smq_group.specs.Matching.{Grouping, GroupedReceipt}
use Rattle.smq_book.specs.index.Held.{Holding}
use Rattle.smq_present.specs.join.Keyed.{keyed_receipt}
use Rattle.smq_present.specs.join.Moves.{PutReceipt, put_receipt}
use Rattle.smq_present.specs.pairing.Traffic.{ReceivedReceipt}
use Rattle.smq_book.proofs.lemmas.index.AreDue.{due-held, due-same}
use Rattle.smq_book.proofs.lemmas.index.Followed.{holds-told, may-follow, put-there, stored-held, stored-received, one-route, only, told}
use Rattle.smq_book.proofs.lemmas.index.Members.{kept-traffic}
use Rattle.smq_book.proofs.lemmas.index.Moves.{came-receipt}
use Rattle.smq_present.proofs.lemmas.join.MoveLemmas.{put_receipt-moves}
use Rattle.smq_kit.specs.declared.link_key.LinkKey.{LinkKey}
use Rattle.smq_book.specs.edits.Reached.{IsMoveOf}
use Rattle.smq_book.specs.index.Touches.{load_of}
use Rattle.smq_book.proofs.lemmas.index.StandingIn.{no-receipt-in, no-submit-in}
use Rattle.smq_book.proofs.lemmas.index.Weights.{few-changes, receipt-put}
use Rattle.smq_book.proofs.index.index.Index.put_receipt.Goals as goal

pub add_receipt-requires : goal.add_receipt-requires
add_receipt-requires c = record { absent = no-receipt-in c.requires.are c.args.place c.requires.absent }

pub returns-clause-held : goal.returns-clause-held
returns-clause-held c = λ t traffic held.
    let s = c.args.settings.now in
    let i = c.args.self.now in
    let q = c.args.place in
    let r : ReceivedReceipt = c.args.receipt in
    let u = put_receipt q r t in
    let g = i.groups.members in
    let h = c.add_receipt.new.self.members in
    let none : get t.receipts q ≡ None = sym (ap (λ (h : Holding). get h.receipts q) held) ∙ c.requires.absent in
    let free : get t.messages q ≡ None = sym (ap (λ (h : Holding). get h.messages q) held) ∙ c.requires.apart in
    let came : h ≡ with_receipt g q (keyed_receipt s r) = c.in_ok-changes.ensures.ok
    ∙ (λ j. with_receipt g q (record {
      key = c.key-key.ensures j;
      moment = (ap (λ (x : ReceivedReceipt). x.moment) c.receipt.view_is) j;
      decides = c.can_decide-decides.ensures j;
    })) in
    let stores = stored-received (stored-held s t i traffic held) q r free c.in_ok-set.ensures.content came in
    let move = put_receipt-moves q r t none in
    let cs = c.as_slice.result.now in
    let tells : TellsChanges g h cs =
    subst (λ (l : List Change). TellsChanges g h l) (sym c.as_slice.ensures.value) c.in_ok-changes.ensures.changes in
    let absent = no-receipt-in c.requires.are q c.requires.absent in
    let there = came-receipt g h cs tells q (keyed_receipt s r) absent
    (ap (λ (x : Grouping). get x.receipts q) came ∙ put-there g.receipts q (keyed_receipt s r)) in
    let now = told s t u i held stores traffic q move refl cs tells in
    let may = may-follow s t u i held stores traffic q move refl (Some q) (λ p e. ap (get t.receipts) (only q p e) ∙ none)
    (λ x y was is. one-route s.versions (get t.messages q) x y was is) (kept-traffic t traffic (PutReceipt (q, r)) c.requires.dir) in
    holds-told s t u i held stores traffic q move refl cs tells c.follow.new.self c.follow.ensures.said refl refl refl
    (c.in_ok-follow.ensures.anew now may) there (c.in_ok-follow.ensures.due (due-same (due-held s t i held) stores.messages))
    (ap (λ (h : Holding). h.numbers) held)

pub returns-clause-vacant : goal.returns-clause-vacant
returns-clause-vacant c = λ k.
    subst (λ (v : GroupsValue). vacancies v k ≤ vacancies c.args.self.now.groups k) (sym c.follow.ensures.said.groups)
    (c.in_ok-changes.ensures.vacant k)

pub returns-clause-weighs : goal.returns-clause-weighs
returns-clause-weighs c =
    let i = c.args.self.now in
    let s = c.args.settings.now in
    let q = c.args.place in
    let g = i.groups.members in
    let h = c.add_receipt.new.self.members in
    let key = c.key-key.result in
    let r : GroupedReceipt = record { key = key; moment = c.receipt.inside.moment; decides = c.can_decide-decides.result } in
    let absent = no-receipt-in c.requires.are q c.requires.absent in
    let free = no-submit-in c.requires.are q c.requires.apart in
    let move = subst (λ (x : Grouping). IsMoveOf key q g x) (sym c.in_ok-changes.ensures.ok) (receipt-put g q r absent free) in
    let told = few-changes g h c.in_ok-changes.changes.items c.in_ok-changes.ensures.changes key q move in
    let loaded = ap (λ (k : LinkKey). load_of i.groups (Some k)) c.key-key.ensures in
    let as-many = ap (length {A = Change}) c.as_slice.ensures.value in
    omega (arith, loaded, told, as-many, c.in_ok-changes.ensures.touches, c.in_ok-changes.ensures.pending, c.in_ok-follow.ensures.touches)
