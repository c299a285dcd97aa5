-- What the definitions say of known numbers and octets.
use Rattle.std.specs.Prelude.{◌≡◌, ℕ, true, false, List, [], ◌∷◌, ◌++◌, take, Option, Some, None}
use Rattle.smq_streams.specs.declared.framer.Framer.TheVariants.{Length, Left, Broken}
use Rattle.smq_streams.specs.Command.{IsCommand}
use Rattle.smq_streams.specs.Header.{AreHeader, IsHeaderAt, IsPartAt, number_at}
use Rattle.smq_streams.specs.Sight.{IsFirstPdu, IsSeen, IsUnclear}
use Rattle.smq_streams.specs.Framing.{Cuts, EndsBefore, IsFramed, IsNextPdu}

-- command_ids (SMPP 3.4, 5.1.2.1; SMPP 5.0, 4.7.5), and numbers that are none
pub record KnownCommands : Type 0 where
  pub generic_nack : IsCommand 0x8000_0000
  pub bind_receiver : IsCommand 0x1
  pub bind_transceiver : IsCommand 0x9
  pub bind_transceiver_resp : IsCommand 0x8000_0009
  pub outbind : IsCommand 0x0B
  pub enquire_link : IsCommand 0x15
  pub submit_multi_resp : IsCommand 0x8000_0021
  pub alert_notification : IsCommand 0x102
  pub data_sm : IsCommand 0x103
  pub cancel_broadcast_sm_resp : IsCommand 0x8000_0113
  pub vendors_first : IsCommand 0x1_0200
  pub vendors_last_resp : IsCommand 0x8001_02FF
  -- a generic_nack is a response, outbind and alert_notification have none, and 10 is reserved
  pub no_zero : IsCommand 0 → ⊥
  pub no_ten : IsCommand 0x0A → ⊥
  pub no_outbind_resp : IsCommand 0x8000_000B → ⊥
  pub no_alert_notification_resp : IsCommand 0x8000_0102 → ⊥
  pub no_broadcast : IsCommand 0x114 → ⊥
  pub before_vendors : IsCommand 0x1_01FF → ⊥
  pub behind_vendors : IsCommand 0x1_0300 → ⊥

-- an enquire_link, its response with this command_status, and octets that are no header
abbrev pub enquire_link : List ℕ
enquire_link = 0 ∷ 0 ∷ 0 ∷ 16 ∷ 0 ∷ 0 ∷ 0 ∷ 0x15 ∷ 0 ∷ 0 ∷ 0 ∷ 0 ∷ 0 ∷ 0 ∷ 0 ∷ 1 ∷ []

abbrev pub response : ℕ → List ℕ
response status = 0 ∷ 0 ∷ 0 ∷ 16 ∷ 128 ∷ 0 ∷ 0 ∷ 0x15 ∷ 0 ∷ 0 ∷ 0 ∷ status ∷ 0 ∷ 0 ∷ 0 ∷ 1 ∷ []

abbrev pub request : ℕ → List ℕ
request status = 0 ∷ 0 ∷ 0 ∷ 16 ∷ 0 ∷ 0 ∷ 0 ∷ 0x15 ∷ 0 ∷ 0 ∷ 0 ∷ status ∷ 0 ∷ 0 ∷ 0 ∷ 1 ∷ []

pub record KnownHeaders : Type 0 where
  -- the first octet of a number counts most
  pub weights : number_at 1 (9 ∷ 1 ∷ 2 ∷ 3 ∷ 4 ∷ 9 ∷ []) ≡ 0x0102_0304
  pub shortest : AreHeader 16 0x15 0
  pub longest : AreHeader 131072 0x15 0
  pub too_short : AreHeader 15 0x15 0 → ⊥
  pub too_long : AreHeader 131073 0x15 0 → ⊥
  -- a response has a status, and a request none
  pub status : IsHeaderAt (response 8) 0
  pub no_status : IsHeaderAt (request 8) 0 → ⊥
  pub behind_octets : IsHeaderAt (7 ∷ 7 ∷ enquire_link) 2
  -- 15 octets of a header are a part of one, and so are 4, 3 and none; 4 that state a length of 15 aren't
  pub fifteen : IsPartAt (take 15 enquire_link) 0
  pub no_fifteen : IsHeaderAt (take 15 enquire_link) 0 → ⊥
  pub four : IsPartAt (0 ∷ 0 ∷ 0 ∷ 16 ∷ []) 0
  pub three : IsPartAt (255 ∷ 255 ∷ 255 ∷ []) 0
  pub none : IsPartAt (7 ∷ []) 1
  pub no_four : IsPartAt (0 ∷ 0 ∷ 0 ∷ 15 ∷ []) 0 → ⊥

pub record KnownSights : Type 0 where
  -- two headers that follow one another
  pub two : IsSeen (enquire_link ++ response 0) 0 false
  pub two_behind : IsFirstPdu (7 ∷ enquire_link ++ response 0) (Some 1)
  -- one header and nothing behind it is a PDU at a segment's start alone
  pub one_at_start : IsFirstPdu enquire_link (Some 0)
  pub one_later : IsFirstPdu (7 ∷ enquire_link) None
  pub unclear : IsUnclear enquire_link 0 false
  -- behind it stand octets that are no header
  pub no_next : IsSeen (enquire_link ++ request 8) 0 true → ⊥

pub record KnownFrames : Type 0 where
  -- before the first octet, and behind a PDU, no octet of a length is known
  pub start : IsFramed [] (Length 0 0)
  pub behind_one : IsFramed enquire_link (Length 0 0)
  -- two octets of a length; a PDU of 16 of which 4 came, so that 12 are left; a length of 15
  pub two : IsFramed (enquire_link ++ 1 ∷ 2 ∷ []) (Length 2 258)
  pub four : IsFramed (enquire_link ++ 0 ∷ 0 ∷ 0 ∷ 16 ∷ []) (Left 11)
  pub broken : IsFramed (enquire_link ++ 0 ∷ 0 ∷ 0 ∷ 15 ∷ []) Broken
  -- with 4 octets of a PDU of 16 before them, the 13th of those that follow is behind it
  pub next : IsNextPdu (take 4 enquire_link) (take 13 enquire_link) (Some 12)
  pub next_at_once : IsNextPdu [] (7 ∷ []) (Some 0)
  pub no_next : IsNextPdu (take 4 enquire_link) (take 12 enquire_link) None
