-- The mark stands at no place that was passed, and the offsets are those of labels up to here.
use Rattle.std.proofs.Common.{◌≡◌, ℕ, ◌+◌, ◌<◌, false}
use Rattle.smq_receipt.specs.Texts.{stands_at, text_mark}
use Rattle.smq_receipt.specs.within.Offsets.{offsets_below}
use Rattle.smq_receipt.proofs.text.values_in.Given as goal

abbrev pub invariant-loop-end : goal.invariant-loop-end
invariant-loop-end l = ((k : ℕ) → k < l.end → stands_at text_mark l.text k ≡ false) × (l.offsets ≡ offsets_below l.text (l.end + 1))
