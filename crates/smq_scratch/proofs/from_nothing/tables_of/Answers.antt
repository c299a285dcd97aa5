use Rattle.std.proofs.Common.{◌≡◌, ℕ, List, Option, sym, ◌∙◌, subst}
use Rattle.std.specs.FinMap.{values}
use Rattle.smq_present.specs.pairing.Traffic.{traffic_of}
use Rattle.smq_present.specs.join.Facts.{facts_of}
use Rattle.smq_present.specs.within.Lists.{receipts_of, submits_of}
use Rattle.smq_present.specs.within.Messages.{SubmittedMessage}
use Rattle.smq_present.proofs.lemmas.whole.AgreePresent.{facts-are}
use Rattle.smq_scratch.specs.declared.groups.Group.{Group}
use Rattle.smq_scratch.specs.declared.receipts.NumberedReceipt.{NumberedReceipt}
use Rattle.smq_scratch.specs.within.Groups.{AreOfMessages}
use Rattle.smq_scratch.specs.within.Joined.{HasReceipts}
use Rattle.smq_scratch.proofs.JoinedLemmas.{apart, notes-made, tables-are}
use Rattle.smq_scratch.proofs.from_nothing.tables_of.Goals as goal

pub facts_of-requires-clause-numbers : goal.facts_of-requires-clause-numbers
facts_of-requires-clause-numbers c =
    let p = c.args.present.now in
    let submits = c.as_slice-2.result.now in
    let numbers = c.as_slice-3.result.now in
    subst (λ (gs : List Group). AreOfMessages gs (submits_of p) (receipts_of p) submits numbers) (sym c.as_slice-groups.ensures.value)
    (subst (λ (ms : List SubmittedMessage). AreOfMessages c.args.joined.groups.items (submits_of p) (receipts_of p) ms numbers)
    (sym (c.as_slice-2.ensures.value ∙ c.requires.submits))
    (subst (λ (ns : List (Option ℕ)). AreOfMessages c.args.joined.groups.items (submits_of p) (receipts_of p) (submits_of p) ns)
    (sym c.as_slice-3.ensures.value) c.requires.numbers))

pub of-requires : goal.of-requires
of-requires c = record {
  apart = apart c.args.present.now c.as_slice-4.result.now
      (c.as_slice-4.ensures.value ∙ c.in_ok-facts.ensures ∙ sym (facts-are c.args.present.now));
}

pub returns : goal.returns
returns c =
    let p = c.args.present.now in
    let facts : c.as_slice-4.result.now ≡ values (facts_of p.settings (traffic_of p.sessions)) =
    c.as_slice-4.ensures.value ∙ c.in_ok-facts.ensures ∙ sym (facts-are p) in
    let groups = c.as_slice-groups.result.now in
    let receipts = c.as_slice.result.now in
    let has : HasReceipts p groups receipts =
    subst (λ (gs : List Group). HasReceipts p gs receipts) (sym c.as_slice-groups.ensures.value)
    (subst (λ (rs : List NumberedReceipt). HasReceipts p c.args.joined.groups.items rs) (sym c.as_slice.ensures.value) c.requires.receipts) in
    let noted = notes-made p groups receipts c.args.joined.notes.items c.push_receipt_notes.new.notes.items has c.requires.notes
    c.in_ok-push_receipt_notes.ensures in
    c.in_ok-tables.ensures.shown ∙ tables-are p c.as_slice-4.result.now c.as_slice-5.result.now facts (c.as_slice-5.ensures.value ∙ noted)
