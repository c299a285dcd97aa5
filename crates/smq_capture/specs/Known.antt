-- What the definitions give for some known moments.
use Rattle.std.specs.Prelude.{◌≡◌, true, false, Some, None}
use Rattle.smq_capture.specs.declared.ended.Span.{Span}
use Rattle.smq_capture.specs.declared.half_open.Answer.{Answer}
use Rattle.smq_capture.specs.declared.numbers.Heard.{Heard}
use Rattle.smq_capture.specs.Beginning.{Answers, IsConfirmed}
use Rattle.smq_capture.specs.Clock.{is_believed, newest_settled, newest_with, settled}
use Rattle.smq_capture.specs.Ended.{IsOf}
use Rattle.smq_capture.specs.Ending.{HasAllUpTo}
use Rattle.smq_capture.specs.Moments.{least_of}
use Rattle.smq_capture.specs.Numbers.{AreNear, Follows, Reaches, number_behind}
use Rattle.smq_capture.specs.Probe.{MayBeProbe}

pub record KnowsMoments : Type 0 where
  -- an hour ahead is believed, and a ms more isn't; nor is the first moment of all, or one past 2099
  pub hour : is_believed (Some 1000) 3601000 ≡ true
  pub more : is_believed (Some 1000) 3601001 ≡ false
  pub first : is_believed None 1000 ≡ false
  pub last : is_believed (Some 4102444800000) 4102444800000 ≡ true
  pub beyond : is_believed (Some 4102444800000) 4102444800001 ≡ false
  -- one that was set back is believed, and isn't the newest then
  pub back : is_believed (Some 1000) 7 ≡ true
  pub newest : newest_with (Some 1000) 7 ≡ Some 1000
  -- what is far ahead counts where the next packet's moment isn't more than an hour before it, and else the newest before does
  pub confirmed : settled (Some 1000) 9000000 (Some 5400000) ≡ Some 9000000
  pub refuted : settled (Some 1000) 9000000 (Some 5399999) ≡ Some 1000
  pub alone : settled (Some 1000) 9000000 None ≡ Some 1000
  pub then : newest_settled (Some 1000) 9000000 (Some 5400000) ≡ Some 9000000
  pub still : newest_settled (Some 1000) 9000000 None ≡ Some 1000
  -- so it is with the first packet of all, which has the next one's moment then, or its own where it is the only one
  pub begins : settled None 9000000 (Some 9000001) ≡ Some 9000000
  pub misleads : settled None 9000000 (Some 5) ≡ Some 5
  pub only : settled None 9000000 None ≡ Some 9000000
  -- a moment past 2099 is none
  pub past : settled None 4102444800001 None ≡ None
  pub both : settled None 4102444800001 (Some 4102444800002) ≡ None

pub record KnowsNumbers : Type 0 where
  -- numbers pass 2^32
  pub wraps : number_behind 0xFFFF_FFFE 3 ≡ 1
  pub same : Reaches 7 7 0
  pub ahead : Reaches 0xFFFF_FFFF 1 2
  pub no_further : Reaches 0xFFFF_FFFF 1 1 → ⊥
  pub no_back : Reaches 1 0 16777216 → ⊥
  -- a window is near in either direction, and a number more isn't
  pub near : AreNear 0 16777216
  pub near_back : AreNear 16777216 0
  pub far : AreNear 0 16777217 → ⊥

-- octets up to number 110, and what their segment acknowledged
abbrev pub heard : Heard
heard = record { behind = 110; acknowledged = 500 }

-- ten octets from number 100 on; and an answer to a SYN with number 99
abbrev pub ten : Span
ten = record { first = 100; length = 10 }

abbrev pub answer : Answer
answer = record { number = 1; sequence = 499; acknowledged = 100 }

pub record KnowsConnections : Type 0 where
  -- an acknowledgment of the octets follows them, and so does the next segment; one of an octet less doesn't, nor one of far numbers
  pub acknowledged : Follows heard 110 500
  pub next : Follows heard 113 520
  pub less : Follows heard 109 500 → ⊥
  pub other : Follows heard 110 500000000 → ⊥
  -- a SYN is answered by the number behind it, or behind some of its octets
  pub answers : Answers 99 0 100
  pub octets : Answers 99 2 102
  pub no_octet : Answers 99 2 103 → ⊥
  pub not_yet : Answers 99 2 99 → ⊥
  -- the caller's next segment confirms its answer
  pub confirmed : IsConfirmed answer 100 500
  pub unconfirmed : IsConfirmed answer 100 499 → ⊥
  -- of ten octets are their SYN, a probe before them, and a FIN behind them; not the number behind that
  pub syn : IsOf ten 99 0 true
  pub no_syn : IsOf ten 100 0 true → ⊥
  pub probe : IsOf ten 99 1 false
  pub fin : IsOf ten 110 0 false
  pub behind_fin : IsOf ten 111 1 false → ⊥
  pub before : IsOf ten 98 1 false → ⊥
  -- an octet is aside where one is missing before it, and the other end had it
  pub aside : MayBeProbe 3 2 4
  pub no_gap : MayBeProbe 2 2 4 → ⊥
  pub not_had : MayBeProbe 3 2 3 → ⊥
  -- a direction has ended where all octets up to its FIN came
  pub ended : HasAllUpTo (Some 10) 10 false
  pub waits : HasAllUpTo (Some 10) 10 true → ⊥
  pub no_fin : HasAllUpTo None 10 false → ⊥
  -- what is given up first counts
  pub first : least_of (Some 5) (Some 3) ≡ Some 3
  pub alone : least_of None (Some 3) ≡ Some 3
