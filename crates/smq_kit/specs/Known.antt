-- Values that are written out, which the laws of src/known.rt state of the definitions.
use Rattle.std.specs.Prelude.{◌≡◌, ◌-◌, ◌^◌, ℕ, zero, suc, ◌+◌, List, [], ◌∷◌, codes}
use Rattle.smq_kit.specs.declared.message_id.Form.TheVariants.{Verbatim, Decimal, Hexadecimal}
use Rattle.smq_kit.specs.declared.message_id.Key.TheVariants.{Number, Text}
use Rattle.smq_kit.specs.Keys.{key_under}
use Rattle.smq_kit.specs.declared.refusal.Refusal.{Refusal}
use Rattle.smq_kit.specs.declared.refusal.Refusal.TheVariants.{EmptyPiece, BadMoment, Backward, OtherLink, OutOfStep, NoSession, Overlap, NoRoute, Ended, BadEnd, ClockBack, HistoryFull, Memory, StreamFull, NoThread, NoSeat, NoWatcher, BadWindow, TornSeat, BadPrefix, BadNetwork, BadId}

-- so many numbers, from this one on
abbrev pub numbers_from : ℕ → ℕ → List ℕ
numbers_from first zero = []
numbers_from first (suc more) = first ∷ numbers_from (first + 1) more

-- one of each refusal, in the order of their numbers
abbrev pub every_refusal : List Refusal
every_refusal =
    EmptyPiece
    ∷ BadMoment
    ∷ Backward 20000
    ∷ OtherLink (record { 0 = 7 })
    ∷ OutOfStep 49
    ∷ NoSession
    ∷ Overlap 20000
    ∷ NoRoute
    ∷ Ended 20000
    ∷ BadEnd
    ∷ ClockBack 20000
    ∷ HistoryFull
    ∷ Memory
    ∷ StreamFull
    ∷ NoThread
    ∷ NoSeat
    ∷ NoWatcher
    ∷ BadWindow
    ∷ TornSeat 3
    ∷ BadPrefix
    ∷ BadNetwork
    ∷ BadId
    ∷ []

-- the number and the text of each of these
abbrev pub printed_refusals : List (ℕ × List ℕ)
printed_refusals =
    (1, codes "1 EmptyPiece")
    ∷ (2, codes "2 BadMoment")
    ∷ (3, codes "3 Backward 20000")
    ∷ (4, codes "4 OtherLink 7")
    ∷ (5, codes "5 OutOfStep 49")
    ∷ (6, codes "6 NoSession")
    ∷ (7, codes "7 Overlap 20000")
    ∷ (8, codes "8 NoRoute")
    ∷ (9, codes "9 Ended 20000")
    ∷ (10, codes "10 BadEnd")
    ∷ (11, codes "11 ClockBack 20000")
    ∷ (12, codes "12 HistoryFull")
    ∷ (13, codes "13 Memory")
    ∷ (14, codes "14 StreamFull")
    ∷ (15, codes "15 NoThread")
    ∷ (16, codes "16 NoSeat")
    ∷ (17, codes "17 NoWatcher")
    ∷ (18, codes "18 BadWindow")
    ∷ (19, codes "19 TornSeat 3")
    ∷ (20, codes "20 BadPrefix")
    ∷ (21, codes "21 BadNetwork")
    ∷ (22, codes "22 BadId")
    ∷ []

-- The keys of some ids.
pub record KnownKeys : Type 0 where
  pub verbatim : key_under Verbatim (codes "007") ≡ Text (codes "007")
  pub either_case : key_under Verbatim (codes "A1b2") ≡ Text (codes "A1b2")
  pub zeros : key_under Decimal (codes "007") ≡ Number 7
  pub decimal : key_under Decimal (codes "0000041394") ≡ Number 41394
  pub letters : key_under Decimal (codes "A1B2") ≡ Text (codes "A1B2")
  pub hexadecimal : key_under Hexadecimal (codes "0000A1B2") ≡ Number 41394
  pub lower_case : key_under Hexadecimal (codes "a1b2") ≡ Number 41394
  pub prefixed : key_under Hexadecimal (codes "0xA1B2") ≡ Text (codes "0xA1B2")
  pub digits_10 : key_under Decimal (codes "1234567890") ≡ Number 1234567890
  pub digits_22 : key_under Hexadecimal (codes "0123456789abcdefABCDEF") ≡ Number 1375488932539311409843695
  pub greatest : key_under Decimal (codes "340282366920938463463374607431768211455") ≡ Number (2 ^ 128 - 1)
  pub above :
      key_under Decimal (codes "340282366920938463463374607431768211456")
      ≡ Text (codes "340282366920938463463374607431768211456")
  pub octets_45 : key_under Decimal (codes "000000340282366920938463463374607431768211455") ≡ Number (2 ^ 128 - 1)
  pub octets_32 : key_under Hexadecimal (codes "ffffffffffffffffffffffffffffffff") ≡ Number (2 ^ 128 - 1)
  pub octets_33 :
      key_under Hexadecimal (codes "100000000000000000000000000000000")
      ≡ Text (codes "100000000000000000000000000000000")
  pub a_zero : key_under Decimal (codes "0") ≡ Number 0
  pub a_zero_text : key_under Verbatim (codes "0") ≡ Text (codes "0")
  pub zeros_32 : key_under Decimal (codes "00000000000000000000000000000000") ≡ Number 0
  pub zeros_32_text :
      key_under Verbatim (codes "00000000000000000000000000000000")
      ≡ Text (codes "00000000000000000000000000000000")
