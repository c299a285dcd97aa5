-- The least offsets of the labels that are looked for.
use Rattle.std.specs.Prelude.{◌≡◌, ℕ, List, codes}
use Rattle.std.specs.Option.{option_copied}
use Rattle.smq_receipt.specs.Places.{least_below}
use Rattle.smq_receipt.specs.Texts.{labels_at, value_of}
use Rattle.smq_receipt.specs.declared.text.Offsets.{Offsets}
use Rattle.smq_receipt.specs.declared.text.Values.{Values}

-- the least offset of each label in a text below a bound
abbrev pub offsets_below : List ℕ → ℕ → Offsets
offsets_below text bound = record {
  id = least_below (labels_at (codes "id:") text) bound;
  stat = least_below (labels_at (codes "stat:") text) bound;
  err = least_below (labels_at (codes "err:") text) bound;
  submit_date = least_below (labels_at (codes "submit date:") text) bound;
  done_date = least_below (labels_at (codes "done date:") text) bound;
}

-- These are the values of the labels in a header part.
pub record IsReadFrom (header : List ℕ) (values : Values) : Type 0 where
  pub id : option_copied values.id ≡ value_of (codes "id:") header
  pub stat : option_copied values.stat ≡ value_of (codes "stat:") header
  pub err : option_copied values.err ≡ value_of (codes "err:") header
  pub submit_date : option_copied values.submit_date ≡ value_of (codes "submit date:") header
  pub done_date : option_copied values.done_date ≡ value_of (codes "done date:") header
