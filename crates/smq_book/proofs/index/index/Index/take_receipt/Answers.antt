use Rattle.std.proofs.Common.{◌≡◌, ℕ, if◌then◌else◌, Option, List, Some, None, length, subst, refl, ap, sym, ◌∙◌, rules, arith}
use Rattle.std.specs.FinMap.{get}
use Rattle.std.specs.Option.{option_copied}
use Rattle.std.specs.Prelude.{option_map}
use Rattle.smq_kit.specs.Maps.{set_at}
use Rattle.smq_kit.proofs.MapLemmas.{get-removed}
use Rattle.smq_kit.proofs.PlaceOrders.{places_total, places_exact}
use Rattle.smq_tally.proofs.Undone.{remove-none}
use Rattle.smq_group.specs.declared.change.Change.{Change}
use Rattle.smq_group.specs.Changes.{TellsChanges}
use Rattle.smq_group.specs.Groups.{GroupsValue, vacancies}
use Rattle.smq_group.specs.Standings.{standing_at}
use Rattle.smq_group.specs.Matching.{Grouping, GroupedReceipt}
use Rattle.smq_book.specs.index.Anew.{stored_in}
use Rattle.smq_book.specs.index.Held.{Holding, held_of, list_held, receipts_in, stored_traffic, with_listing}
use Rattle.smq_present.specs.join.Facts.{facts_of}
use Rattle.smq_present.specs.join.Moves.{TakeReceipt, take_receipt}
use Rattle.smq_present.specs.pairing.Traffic.{ReceivedReceipt}
use Rattle.smq_book.proofs.lemmas.index.AreDue.{due-held, due-same}
use Rattle.smq_book.proofs.lemmas.index.Following.{both-keep}
use Rattle.smq_book.proofs.lemmas.index.Followed.{facts-taken, holds-said, may-follow, notes-taken, stored-forgotten, stored-held, nobody, one-route, told}
use Rattle.smq_book.proofs.lemmas.index.Members.{kept-traffic}
use Rattle.smq_book.proofs.lemmas.index.Stored.{stands-none, stored-at}
use Rattle.smq_present.proofs.lemmas.join.MoveLemmas.{take_receipt-moves}
use Rattle.smq_book.specs.index.Touches.{is_key, receipt_key_at, taken_of}
use Rattle.smq_kit.specs.declared.link_key.LinkKey.{LinkKey}
use Rattle.smq_present.specs.join.Keyed.{keyed_receipt, receipt_key}
use Rattle.smq_book.specs.edits.Reached.{IsMoveOf}
use Rattle.smq_book.proofs.lemmas.index.StandingIn.{no-submit-in, receipt-in}
use Rattle.smq_book.proofs.lemmas.index.Weights.{few-changes, no-message-there, receipt-taken, receipt-counts}
use Rattle.smq_book.proofs.index.index.Index.take_receipt.Goals as goal

pub returns-in_default-clause-held : goal.returns-in_default-clause-held
returns-in_default-clause-held c = λ t traffic held.
    let q = c.args.place in
    let gone : ◌≡◌ {A = Option ReceivedReceipt} None (option_copied c.get.result) = search rules in
    let none : get t.receipts q ≡ None =
    sym (gone ∙ c.get.ensures ∙ stored-at c.args.self.now.receipts.content q ∙ ap (λ (h : Holding). get h.receipts q) held) in
    held
    ∙ (λ i. held_of c.args.settings.now (record {
      messages = t.messages;
      receipts = sym (remove-none places_total places_exact t.receipts q none) i;
      notes = t.notes;
    }))

pub remove_receipt-requires : goal.remove_receipt-requires
remove_receipt-requires c =
    let i = c.args.self.now in
    let s = c.args.settings.now in
    let q = c.args.place in
    let r = c.in-Some.receipt.now in
    let some : ◌≡◌ {A = Option ReceivedReceipt} (Some r) (option_copied c.get.result) = search rules in
    let there : get (receipts_in i.receipts.content) q ≡ Some r = sym (some ∙ c.get.ensures ∙ stored-at i.receipts.content q) in
    record {
      there = ap (option_map (λ (x : GroupedReceipt). x.key)) (receipt-in c.requires.are q r there) ∙ ap Some (sym c.key-key.ensures);
    }

pub returns-clause-held : goal.returns-clause-held
returns-clause-held c = λ t traffic held.
    let s = c.args.settings.now in
    let i = c.args.self.now in
    let q = c.args.place in
    let u = take_receipt q t in
    let g = i.groups.members in
    let h = c.remove_receipt.new.self.members in
    let stores = stored-forgotten
    (stored-held s t i traffic held) q traffic c.in_ok-remove.ensures.ordered c.in_ok-remove.ensures.content c.in_ok-changes.ensures.ok in
    let move = take_receipt-moves q t in
    let cs = c.as_slice.result.now in
    let tells : TellsChanges g h cs =
    subst (λ (l : List Change). TellsChanges g h l) (sym c.as_slice.ensures.value) c.in_ok-changes.ensures.changes in
    let now = told s t u i held stores traffic q move refl cs tells in
    let may = may-follow s t u i held stores traffic q move refl None (λ p e. nobody p e)
    (λ x y was is. one-route s.versions (get t.messages q) x y was is) (kept-traffic t traffic (TakeReceipt q) tt) in
    let set = c.in_ok-follow.ensures.anew now may in
    let said = c.follow.ensures.said in
    let gs = ap (λ (v : GroupsValue). v.members) said.groups in
    let r = c.in-Some.receipt.now in
    let some : ◌≡◌ {A = Option ReceivedReceipt} (Some r) (option_copied c.get.result) = search rules in
    let there : get (receipts_in i.receipts.content) q ≡ Some r = sym (some ∙ c.get.ensures ∙ stored-at i.receipts.content q) in
    let gone = stands-none h q
    (ap (λ (x : Grouping). get x.submits q) c.in_ok-changes.ensures.ok
    ∙ no-submit-in c.requires.are q (no-message-there (stored_in i) q r (c.requires.are.apart q) there))
    (ap (λ (x : Grouping). get x.receipts q) c.in_ok-changes.ensures.ok ∙ get-removed places_total places_exact g.receipts q)
    ∙ (λ j. standing_at (sym gs j) q) in
    let last = c.in_ok-recompute_at.ensures.anew gone set.follows in
    holds-said s t u i held stores traffic q move refl c.recompute_at.new.self (both-keep said c.recompute_at.ensures.said) refl refl refl c.recompute_at.new.self.tally
    (last.facts
    ∙ (λ j. set_at (set.facts j) q (get (facts_of s (stored_traffic (said.messages j).content (said.receipts j).content)) q))
    ∙ facts-taken s t u i held stores traffic q move refl cs tells)
    (last.notes
    ∙ (λ j. with_listing (set.notes j) q (list_held (gs j) q))
    ∙ notes-taken s t u i held stores traffic q move refl cs tells)
    (c.in_ok-recompute_at.ensures.due (c.in_ok-follow.ensures.due (due-same (due-held s t i held) stores.messages)))
    (ap (λ (h : Holding). h.numbers) held)

pub returns-clause-vacant : goal.returns-clause-vacant
returns-clause-vacant c = λ k.
    let i = c.args.self.now in
    let s = c.args.settings.now in
    let q = c.args.place in
    let r = c.in-Some.receipt.now in
    let some : ◌≡◌ {A = Option ReceivedReceipt} (Some r) (option_copied c.get.result) = search rules in
    let there : get (receipts_in i.receipts.content) q ≡ Some r = sym (some ∙ c.get.ensures ∙ stored-at i.receipts.content q) in
    let keyed = ap (option_map (λ (x : GroupedReceipt). x.key)) (receipt-in c.requires.are q r there) ∙ ap Some (sym c.key-key.ensures) in
    let taken = ap {B = ℕ} (λ (key : Option LinkKey). if is_key k key then 2 else 0) keyed in
    let same = ap (λ (v : GroupsValue). vacancies v k) (c.recompute_at.ensures.said.groups ∙ c.follow.ensures.said.groups) in
    omega (arith, taken, same, c.in_ok-changes.ensures.vacant k)

pub returns-clause-weighs : goal.returns-clause-weighs
returns-clause-weighs c =
    let i = c.args.self.now in
    let s = c.args.settings.now in
    let q = c.args.place in
    let r = c.in-Some.receipt.now in
    let g = i.groups.members in
    let h = c.remove_receipt.new.self.members in
    let t = stored_in i in
    let some : ◌≡◌ {A = Option ReceivedReceipt} (Some r) (option_copied c.get.result) = search rules in
    let there : get (receipts_in i.receipts.content) q ≡ Some r = sym (some ∙ c.get.ensures ∙ stored-at i.receipts.content q) in
    let keyed = receipt-in c.requires.are q r there in
    let free = no-submit-in c.requires.are q (no-message-there t q r (c.requires.are.apart q) there) in
    let move = subst (λ (x : Grouping). IsMoveOf (receipt_key s r) q g x) (sym c.in_ok-changes.ensures.ok) (receipt-taken g q (keyed_receipt s r) keyed free) in
    let told = few-changes g h c.in_ok-changes.changes.items c.in_ok-changes.ensures.changes (receipt_key s r) q move in
    let walked = ap (vacancies i.groups) c.key-key.ensures in
    let loaded : taken_of i.groups (receipt_key_at g q) ≡ taken_of i.groups (Some (receipt_key s r)) =
    ap (λ (x : Option GroupedReceipt). taken_of i.groups (option_map (λ (x : GroupedReceipt). x.key) x)) keyed in
    let as-many = ap (length {A = Change}) c.as_slice.ensures.value in
    let one = receipt-counts g q (keyed_receipt s r) keyed in
    omega (
      arith,
      loaded,
      one,
      walked,
      told,
      as-many,
      c.in_ok-changes.ensures.touches,
      c.in_ok-changes.ensures.pending,
      c.in_ok-follow.ensures.touches,
      c.in_ok-recompute_at.ensures.touches,
    )
