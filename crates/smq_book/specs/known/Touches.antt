-- How many touches edits of small books add at most, worked out by hand: 64 for each that an edit reaches, and 64 more.
use Rattle.std.specs.Prelude.{◌≡◌}
use Rattle.smq_kit.specs.declared.message_id.Form.TheVariants.{Decimal}
use Rattle.smq_present.specs.declared.present.edit.Edit.TheVariants.{Advance, SetForm, SetWindow, Withdraw}
use Rattle.smq_book.specs.edits.Reach.{most_touches}
use Rattle.smq_book.specs.known.Reach.{accepted_book, accepting, decided_book, submitted_book, submitting}
use Rattle.smq_present.specs.present.Present.{empty}

pub record KnownTouches : Type 0 where
  pub submits : most_touches empty submitting ≡ 128
  pub accepts : most_touches submitted_book accepting ≡ 192
  pub before_the_end : most_touches accepted_book (Advance 172800999) ≡ 64
  pub at_the_end : most_touches accepted_book (Advance 172801000) ≡ 128
  pub windows_of_its_link : most_touches accepted_book (SetWindow (record { 0 = 1 }) 1000) ≡ 128
  pub forms_of_its_link : most_touches decided_book (SetForm (record { 0 = 1 }) Decimal Decimal) ≡ 1600
  pub forms_of_no_link : most_touches decided_book (SetForm (record { 0 = 2 }) Decimal Decimal) ≡ 64
  pub withdraws : most_touches accepted_book (Withdraw (record { 0 = 10 })) ≡ 320
