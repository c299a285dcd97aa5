use Rattle.std.proofs.Common.{refl}
use Rattle.smq_pdu.specs.Numbers.{digits_of, number_of}
use Rattle.smq_pdu.proofs.laws.known_numbers.Goals as goal

pub returns-clause-unknown : goal.returns-clause-unknown
unfolding number_of digits_of
returns-clause-unknown c = refl

pub returns-clause-unknown_with_plus : goal.returns-clause-unknown_with_plus
unfolding number_of digits_of
returns-clause-unknown_with_plus c = refl

pub returns-clause-international : goal.returns-clause-international
unfolding number_of digits_of
returns-clause-international c = refl

pub returns-clause-international_with_plus : goal.returns-clause-international_with_plus
unfolding number_of digits_of
returns-clause-international_with_plus c = refl

pub returns-clause-national : goal.returns-clause-national
unfolding number_of digits_of
returns-clause-national c = refl

pub returns-clause-network_specific : goal.returns-clause-network_specific
unfolding number_of digits_of
returns-clause-network_specific c = refl

pub returns-clause-subscriber : goal.returns-clause-subscriber
unfolding number_of digits_of
returns-clause-subscriber c = refl

pub returns-clause-alphanumeric : goal.returns-clause-alphanumeric
unfolding number_of digits_of
returns-clause-alphanumeric c = refl

pub returns-clause-abbreviated : goal.returns-clause-abbreviated
unfolding number_of digits_of
returns-clause-abbreviated c = refl

pub returns-clause-empty : goal.returns-clause-empty
unfolding number_of digits_of
returns-clause-empty c = refl

pub returns-clause-plus_alone : goal.returns-clause-plus_alone
unfolding number_of digits_of
returns-clause-plus_alone c = refl

pub returns-clause-two_plus : goal.returns-clause-two_plus
unfolding number_of digits_of
returns-clause-two_plus c = refl

pub returns-clause-plus_within : goal.returns-clause-plus_within
unfolding number_of digits_of
returns-clause-plus_within c = refl

pub returns-clause-before_the_digits : goal.returns-clause-before_the_digits
unfolding number_of digits_of
returns-clause-before_the_digits c = refl

pub returns-clause-first_digit : goal.returns-clause-first_digit
unfolding number_of digits_of
returns-clause-first_digit c = refl

pub returns-clause-last_digit : goal.returns-clause-last_digit
unfolding number_of digits_of
returns-clause-last_digit c = refl

pub returns-clause-after_the_digits : goal.returns-clause-after_the_digits
unfolding number_of digits_of
returns-clause-after_the_digits c = refl

pub returns-clause-longest : goal.returns-clause-longest
unfolding number_of digits_of
returns-clause-longest c = refl

pub returns-clause-too_long : goal.returns-clause-too_long
unfolding number_of digits_of
returns-clause-too_long c = refl
