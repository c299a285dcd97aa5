-- What is made of messages and receipts one by one is what is made of all.
use Rattle.std.proofs.Common.{◌≡◌, ◌++◌, List, sym, ap, ◌∙◌, subst}
use Rattle.std.specs.Prelude.{T}
use Rattle.std.specs.FinMap.{from_entries, values}
use Rattle.std.specs.List.{flat_map}
use Rattle.smq_tally.specs.declared.fact.Fact.{Fact}
use Rattle.smq_tally.specs.declared.list.Listed.{Listed}
use Rattle.smq_tally.specs.Lists.{listed_set}
use Rattle.smq_tally.specs.Tables.{AreOfDifferentPlaces, facts_at, tables_of}
use Rattle.smq_present.specs.present.Present.{PresentValue}
use Rattle.smq_present.specs.pairing.Traffic.{traffic_of}
use Rattle.smq_present.specs.join.Facts.{facts_of}
use Rattle.smq_present.specs.whole.Scratch.{scratch}
use Rattle.smq_present.specs.within.Lists.{notes_of, receipt_notes_listed, receipts_of, submits_of}
use Rattle.smq_present.proofs.lemmas.whole.AgreePresent.{notes-are}
use Rattle.smq_present.proofs.lemmas.join.MoveLemmas.{fact-place}
use Rattle.smq_present.proofs.lemmas.whole.Tallied.{facts-apart, facts-rise, made-of-entries, values-placed}
use Rattle.smq_scratch.specs.declared.groups.Group.{Group}
use Rattle.smq_scratch.specs.declared.receipts.NumberedReceipt.{NumberedReceipt}
use Rattle.smq_scratch.specs.within.Groups.{lines_kept}
use Rattle.smq_scratch.specs.within.Joined.{HasReceipts}
use Rattle.smq_scratch.specs.Lines.{listing_of}
use Rattle.smq_scratch.proofs.Grouped.{lines-kept}
use Rattle.smq_scratch.proofs.LineLaws.{lists-are}

-- facts of what is present are of different places
pub apart : (p : PresentValue) (fs : List Fact) → fs ≡ values (facts_of p.settings (traffic_of p.sessions)) → AreOfDifferentPlaces fs
apart p fs is =
    facts-apart fs (subst T (sym (facts-rise fs (facts_of p.settings (traffic_of p.sessions)) is (fact-place p.settings (traffic_of p.sessions)))) tt)

-- the tables of these facts and notes are those of what is present
pub tables-are : (p : PresentValue) (fs : List Fact) (ns : List Listed) → fs ≡ values (facts_of p.settings (traffic_of p.sessions))
    → ns ≡ notes_of p ++ receipt_notes_listed p → tables_of (facts_at fs) (listed_set ns) ≡ scratch p
tables-are p fs ns is noted =
    let facts = facts_of p.settings (traffic_of p.sessions) in
    let counted : facts_at fs ≡ facts =
    ap facts_at is ∙ ap from_entries (values-placed facts (fact-place p.settings (traffic_of p.sessions))) ∙ made-of-entries facts in
    λ i. tables_of (counted i) ((ap listed_set noted ∙ sym (notes-are p)) i)

-- the notes of sessions and their listed receipts are those of what is present
pub notes-made : (p : PresentValue) (groups : List Group) (rs : List NumberedReceipt) (old new : List Listed) → HasReceipts p groups rs
    → old ≡ notes_of p → new ≡ old ++ flat_map listing_of (lines_kept groups rs) → new ≡ notes_of p ++ receipt_notes_listed p
notes-made p groups rs old new has noted is =
    is ∙ (λ i. noted i ++ flat_map listing_of (lines-kept groups (submits_of p) (receipts_of p) (receipts_of p) rs has i))
    ∙ ap (λ ys. notes_of p ++ ys) (lists-are (submits_of p) (receipts_of p) (receipts_of p))
