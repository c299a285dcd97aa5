-- Where a count of a view differs after an edit, touches rise.
use Rattle.std.proofs.Common.{◌≡◌, ℕ, zero, suc, ◌+◌, ◌-◌, ◌^◌, ◌<◌, ◌≤◌, ◌≢◌, Option, Some, None, Result, Ok, Err, refl, sym, ap, ◌∙◌, arith}
use Rattle.std.specs.Prelude.{OnOk}
use Rattle.std.specs.FinMap.{FinMap}
use Rattle.std.specs.FinSet as set
use Rattle.smq_kit.specs.Orders.{place_cmp}
use Rattle.smq_kit.specs.Replies.{IsReply}
use Rattle.smq_kit.specs.declared.refusal.Refusal.{Refusal}
use Rattle.smq_tally.specs.Rows.{count_cmp}
use Rattle.smq_tally.specs.Tables.{tables_of}
use Rattle.smq_tally.specs.declared.fact.Fact.{Fact}
use Rattle.smq_book.specs.declared.index.index.Index.{Index}
use Rattle.smq_book.specs.declared.index.pairings.Pairings.{Pairings}
use Rattle.smq_book.specs.index.Held.{Holding}
use Rattle.smq_book.specs.index.Kept.{IsIndexed}
use Rattle.smq_book.specs.index.Touches.{RisesWithFacts, pairs_touches, touches_of}
use Rattle.smq_present.specs.join.Facts.{facts_of}
use Rattle.smq_present.specs.pairing.Traffic.{traffic_of}
use Rattle.smq_present.specs.present.Book.{BookValue}
use Rattle.smq_present.specs.declared.present.edit.Edit.{Edit}
use Rattle.smq_present.specs.present.Present.{PresentValue}
use Rattle.smq_present.specs.present.Replies.{reply}
use Rattle.smq_present.specs.present.Steps.{change}
use Rattle.smq_present.specs.whole.Scratch.{scratch}

-- the facts that are stored are those of what is present
facts-kept : (p : PresentValue) (i : Index) → IsIndexed p i → i.tally.facts ≡ facts_of p.settings (traffic_of p.sessions)
facts-kept p i is = ap (λ (h : Holding). h.facts) is.held.held ∙ ap (facts_of p.settings) is.traffic

-- the counts of facts
abbrev counts_of : FinMap place_cmp Fact → FinMap count_cmp ℕ
counts_of facts = (tables_of facts set.empty).counts

module _ (now : BookValue) (p q : PresentValue) (i j : Index) (k l : Pairings) (seen : record { present = p; touches = touches_of i k } ≡ now)
    (before : IsIndexed p i) (after : IsIndexed q j) where
  whole : p ≡ now.present
  whole = ap (λ (b : BookValue). b.present) seen

  touched : touches_of i k ≡ now.touches
  touched = ap (λ (b : BookValue). b.touches) seen

  counts-same : j.tally.facts ≡ i.tally.facts → (scratch q).counts ≡ (scratch now.present).counts
  counts-same same =
      ap counts_of (sym (facts-kept q j after) ∙ same ∙ facts-kept p i before) ∙ ap (λ (r : PresentValue). (scratch r).counts) whole

  below : (d : ℕ) → d ≡ 2 ^ 64 - 1 - now.touches → now.touches ≢ 2 ^ 64 - 1 → now.touches < 2 ^ 64 - 1
  below zero is low = absurd (low (omega (arith, is, touched)))
  below (suc d) is low = omega (arith, is)

  risen : (d : ℕ) → d ≡ touches_of j l - now.touches → RisesWithFacts i j → pairs_touches k ≤ pairs_touches l
      → (scratch q).counts ≢ (scratch now.present).counts → now.touches < 2 ^ 64 - 1 → 1 + now.touches ≤ touches_of j l
  risen zero is rises more differ low =
      let counted = rises.counted in
      absurd (differ (counts-same (rises.facts (omega (arith, is, touched, counted, more, low)) (omega (arith, touched, low)))))
  risen (suc d) is rises more differ low = omega (arith, is)

  -- what was made rises; what was refused changes no count
  pub rise-bound : (refusal : Option Refusal) (s : Result (Unit {0}) Refusal) (Made : Type 0) → IsReply refusal s Made (q ≡ p)
      → OnOk s (RisesWithFacts i j) → pairs_touches k ≤ pairs_touches l
      → (scratch q).counts ≢ (scratch now.present).counts → now.touches ≢ 2 ^ 64 - 1 → 1 + now.touches ≤ touches_of j l
  rise-bound None (Ok x) Made is rises more differ low =
      risen (touches_of j l - now.touches) refl rises more differ (below (2 ^ 64 - 1 - now.touches) refl low)
  rise-bound (Some r) (Ok x) Made is rises more differ low = absurd is
  rise-bound None (Err e) Made is rises more differ low = absurd (differ (ap (λ (r : PresentValue). (scratch r).counts) (is.1 ∙ whole)))
  rise-bound (Some r) (Err e) Made is rises more differ low = absurd (differ (ap (λ (r : PresentValue). (scratch r).counts) (is.1 ∙ whole)))

-- where pairs stay
pub settings-rise : (now : BookValue) (p q : PresentValue) (i j : Index) (k : Pairings) → record { present = p; touches = touches_of i k } ≡ now
    → IsIndexed p i → IsIndexed q j → (edit e : Edit) → edit ≡ e → (s : Result (Unit {0}) Refusal) → IsReply (reply p e) s (q ≡ change p e) (q ≡ p)
    → OnOk s (RisesWithFacts i j) → (scratch q).counts ≢ (scratch now.present).counts → now.touches ≢ 2 ^ 64 - 1 → 1 + now.touches ≤ touches_of j k
settings-rise now p q i j k seen before after edit e same s is rises =
    rise-bound now p q i j k k seen before after (reply p e) s (q ≡ change p e) is rises (omega arith)
