-- The definitions compute what known receipts say.
use Rattle.std.proofs.Common.{refl}
use Rattle.jiff_core.specs.Calendar.{days_from_civil, day_count, days_of_years, days_of_months}
use Rattle.smq_receipt.specs.Places.{least_below}
use Rattle.smq_receipt.specs.Texts.{same_letters, stands_at, labels_at, header_of, value_at, value_of}
use Rattle.smq_receipt.specs.States.{state_of_number, state_of_word}
use Rattle.smq_receipt.specs.Errors.{network_code_in, text_code_in}
use Rattle.smq_receipt.specs.Dates.{two_digits_at, is_date, day_number_of, second_of_day_of, moment_of, centre_delay_of}
use Rattle.smq_receipt.specs.Readings.{text_of, usable_id, receipted_id, state_in, id_of, state_of, error_of, receipt_of, reading_of}
use Rattle.smq_receipt.specs.Known.{KnownLimits, ReadingsOfKnownReceipts}

pub known : ReadingsOfKnownReceipts
unfolding least_below same_letters stands_at labels_at header_of value_at value_of state_of_number state_of_word network_code_in
    text_code_in two_digits_at is_date day_number_of second_of_day_of moment_of centre_delay_of text_of usable_id receipted_id
    state_in id_of state_of error_of receipt_of reading_of days_from_civil day_count days_of_years days_of_months
known = record {
  typical = refl;
  short = refl;
  no_such_day = refl;
  backward = refl;
  first_of_two = refl;
  message_state = refl;
  network_error_code = refl;
  receipted_message_id = refl;
  message_payload = refl;
  data_sm = refl;
  interim = refl;
  other_word = refl;
  space_first = refl;
  empty = refl;
  unmarked = refl;
  own_text = refl;
  a_tab = refl;
  a_comma = refl;
  a_line_feed = refl;
  id_beside = refl;
  code_beside = refl;
  payload_beside = refl;
  unusable_id = refl;
  unusable_state = refl;
  unusable_code = refl;
}

pub limits : KnownLimits
unfolding least_below same_letters state_of_number network_code_in two_digits_at is_date day_number_of second_of_day_of moment_of
    usable_id receipted_id state_in days_from_civil day_count days_of_years days_of_months
limits = record {
  receipts = refl;
  interims = refl;
  both_marks = refl;
  an_id = refl;
  no_id = refl;
  id_1 = refl;
  id_64 = refl;
  id_65 = refl;
  id_to_zero = refl;
  zero_first = refl;
  numbers = refl;
  words = refl;
  by_number = refl;
  final = refl;
  two_octets = refl;
  code = refl;
  code_of_2 = refl;
  code_of_4 = refl;
  midnight = refl;
  parts = refl;
  last_second = refl;
  hour_24 = refl;
  minute_60 = refl;
  second_60 = refl;
  leap_day = refl;
  no_leap_day = refl;
  month_0 = refl;
  month_13 = refl;
  day_0 = refl;
  day_31 = refl;
  day_32 = refl;
  minutes = refl;
  seconds = refl;
  digits_11 = refl;
  digits_14 = refl;
  a_letter = refl;
}
