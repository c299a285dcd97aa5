-- Lists of edits that laws pin: which edits are of a session, and what edits, answers and what they leave come to.
use Rattle.std.specs.Prelude.{◌≡◌, ℕ, List, [], ◌∷◌, Some, None}
use Rattle.smq_kit.specs.declared.message_id.Form.TheVariants.{Decimal, Hexadecimal}
use Rattle.smq_kit.specs.declared.place.Dir.TheVariants.{FromClient}
use Rattle.smq_kit.specs.declared.refusal.Refusal.TheVariants.{ClockBack, Memory, NoSession}
use Rattle.smq_present.specs.declared.present.edit.Edit.{Edit}
use Rattle.smq_present.specs.declared.present.edit.Edit.TheVariants.{Append, Withdraw, SetForm, SetWindow, AddRoute, EndRoute, CorrectRoute, Advance}
use Rattle.smq_present.specs.present.Batch.{batch_of}
use Rattle.smq_present.specs.present.Judged.{judged, AreAnswers}
use Rattle.smq_present.specs.present.Present.{empty}
use Rattle.smq_present.specs.present.Settings.{forms_of}
use Rattle.smq_present.specs.present.Steps.{edits_without, steps}

-- one octet of a client for a session, which waits for nothing
abbrev pub octet_for : ℕ → Edit
octet_for session =
    Append (batch_of (record { 0 = 1 }) (record { 0 = session }) FromClient (record { offset = 0; rest = []; broken = None }) 1000 (0 ∷ []))

-- the session of a number is taken back
abbrev pub withdrawal_of : ℕ → Edit
withdrawal_of session = Withdraw (record { 0 = session })

-- edits of no session
abbrev pub forms_set : Edit
forms_set = SetForm (record { 0 = 10 }) Hexadecimal Decimal

abbrev pub window_set : Edit
window_set = SetWindow (record { 0 = 10 }) 10

abbrev pub route_added : Edit
route_added = AddRoute (49 ∷ []) 10 (record { 0 = 10 }) []

abbrev pub route_ended : Edit
route_ended = EndRoute (49 ∷ []) 10 20

abbrev pub route_corrected : Edit
route_corrected = CorrectRoute (49 ∷ []) 10 (record { 0 = 20 }) []

-- Appends to session 10 and its withdrawal are its edits. Those of session 9 aren't, nor is any other, whatever has the
-- number 10 in it.
pub record KnownEditsWithout : Type 0 where
  pub its_octets : edits_without (record { 0 = 10 }) (octet_for 10 ∷ []) ≡ []
  pub its_withdrawal : edits_without (record { 0 = 10 }) (withdrawal_of 10 ∷ []) ≡ []
  pub other_octets : edits_without (record { 0 = 10 }) (octet_for 9 ∷ []) ≡ octet_for 9 ∷ []
  pub other_withdrawal : edits_without (record { 0 = 10 }) (withdrawal_of 9 ∷ []) ≡ withdrawal_of 9 ∷ []
  pub far_withdrawal : edits_without (record { 0 = 10 }) (withdrawal_of 65546 ∷ []) ≡ withdrawal_of 65546 ∷ []
  pub of_none :
      edits_without (record { 0 = 10 })
      (forms_set ∷ window_set ∷ octet_for 10 ∷ route_added ∷ route_ended ∷ withdrawal_of 10 ∷ route_corrected ∷ Advance 10 ∷ [])
      ≡ forms_set ∷ window_set ∷ route_added ∷ route_ended ∷ route_corrected ∷ Advance 10 ∷ []

-- the clock is advanced to 1000, then back to 500, which is refused, and forms are set
abbrev pub three : List Edit
three = Advance 1000 ∷ Advance 500 ∷ forms_set ∷ []

-- What three edits come to on a new book, of which the second is refused, and the first may be for lack of memory.
pub record KnownFolds : Type 0 where
  pub answers : AreAnswers empty three (None ∷ Some (ClockBack 1000) ∷ None ∷ [])
  pub clock : (steps empty (judged three (None ∷ Some (ClockBack 1000) ∷ None ∷ []))).settings.clock ≡ 1000
  pub forms :
      forms_of (steps empty (judged three (None ∷ Some (ClockBack 1000) ∷ None ∷ []))).settings (record { 0 = 10 })
      ≡ record { response = Hexadecimal; receipt = Decimal }
  pub all_judged : judged three (None ∷ Some (ClockBack 1000) ∷ None ∷ []) ≡ three
  -- Without the first, the clock goes from 0 to 500.
  pub answers_then : AreAnswers empty three (Some Memory ∷ None ∷ None ∷ [])
  pub judged_then : judged three (Some Memory ∷ None ∷ None ∷ []) ≡ Advance 500 ∷ forms_set ∷ []
  pub clock_then : (steps empty (judged three (Some Memory ∷ None ∷ None ∷ []))).settings.clock ≡ 500
  -- An edit that has a reply doesn't answer lack of memory, none is made against its reply, and none is left out.
  pub no_memory : AreAnswers empty three (None ∷ Some Memory ∷ None ∷ []) → ⊥
  pub not_made : AreAnswers empty three (None ∷ None ∷ None ∷ []) → ⊥
  pub no_other : AreAnswers empty three (None ∷ Some NoSession ∷ None ∷ []) → ⊥
  pub none_left_out : AreAnswers empty three (None ∷ Some (ClockBack 1000) ∷ []) → ⊥
