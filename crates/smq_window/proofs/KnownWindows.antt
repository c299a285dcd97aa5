-- The definitions computed on known PDUs and moments.
use Rattle.std.proofs.Common.{refl}
use Rattle.smq_frame.specs.Framing.{stated_length, frames_of, frames_within, rest_of, rest_within}
use Rattle.smq_frame.specs.Stream.{placed, frames_after}
use Rattle.smq_frame.specs.Tail.{tail_from, tail_after}
use Rattle.smq_pdu.specs.Header.{word_at}
use Rattle.smq_window.specs.Connection.{homed, with_homes}
use Rattle.smq_window.specs.Exchange.{exchange_of}
use Rattle.smq_window.specs.Homes.{least_from}
use Rattle.smq_window.specs.Known.{KnownBeliefs, KnownBroken, KnownExchanges, KnownHomes, KnownRows}
use Rattle.smq_window.specs.Window.{known_passed, made_passed, rows_passed}

pub known_exchanges : KnownExchanges
unfolding word_at exchange_of
known_exchanges = record { request = refl; response = refl; neither = refl }

pub known_homes : KnownHomes
unfolding word_at exchange_of least_from
known_homes =
    record { two_periods = refl; late = refl; paired = refl; first_of_two = refl; other_number = refl; early_response = refl }

pub known_rows : KnownRows
unfolding stated_length frames_of frames_within rest_of rest_within placed frames_after tail_from tail_after word_at homed with_homes exchange_of least_from known_passed made_passed rows_passed
known_rows = record { request = refl; response = refl; later = refl }

pub known_beliefs : KnownBeliefs
known_beliefs = record { doubted = refl; day_ahead = refl; confirmed = refl; elsewhere = refl; forgotten = refl }

pub known_broken : KnownBroken
unfolding stated_length frames_of frames_within rest_of rest_within placed frames_after tail_from tail_after
known_broken = refl

pub ruleset known = (known_exchanges, known_homes, known_rows, known_beliefs, known_broken)
