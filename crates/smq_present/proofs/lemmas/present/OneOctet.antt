-- The book of one octet.
use Rattle.std.proofs.Common.{◌≡◌, ℕ, [], ◌∷◌, Option, Some, None, ap, ◌∙◌}
use Rattle.std.specs.Cmp.{nat_cmp_total}
use Rattle.std.specs.FinMap.{empty, get-insert, get-empty}
use Rattle.std.specs.Ordering.{nat_cmp}
use Rattle.smq_kit.specs.declared.place.Dir.{Dir}
use Rattle.smq_kit.specs.declared.refusal.Refusal.{Refusal}
use Rattle.smq_frame.specs.Stream.{handed_in}
use Rattle.smq_frame.specs.Tail.{TailValue}
use Rattle.smq_present.specs.declared.present.session.Session.{Session}
use Rattle.smq_present.specs.present.Batch.{BatchValue, batch_of}
use Rattle.smq_present.specs.known.Present.{one_octet, one_more}
use Rattle.smq_present.specs.present.Present.{session_of}
use Rattle.smq_kit.specs.Replies.{first_of}
use Rattle.smq_present.specs.present.Replies.{append_refusals, reply}

abbrev pub ten : Session
ten = record { link = record { 0 = 1 }; client = handed_in 1000 (0 ∷ []); centre = [] }

pub at_ten : session_of one_octet 10 ≡ Some ten
at_ten = get-insert nat_cmp_total empty 10 ten 10

pub at_eleven : session_of one_octet 11 ≡ None
at_eleven = get-insert nat_cmp_total empty 10 ten 11 ∙ get-empty nat_cmp 11

abbrev pub batch : ℕ → ℕ → Dir → TailValue → ℕ → BatchValue
batch link session dir tail moment = batch_of (record { 0 = link }) (record { 0 = session }) dir tail moment (0 ∷ [])

abbrev pub refusal : Option Session → BatchValue → Option Refusal
refusal session b = first_of (append_refusals session b)

pub reply_at_ten : (link : ℕ) (dir : Dir) (tail : TailValue) (moment : ℕ) → reply one_octet (one_more link 10 dir tail moment)
    ≡ refusal (Some ten) (batch link 10 dir tail moment)
reply_at_ten link dir tail moment = ap (λ (o : Option Session). refusal o (batch link 10 dir tail moment)) at_ten

pub reply_at_eleven : (link : ℕ) (dir : Dir) (tail : TailValue) (moment : ℕ) → reply one_octet (one_more link 11 dir tail moment)
    ≡ refusal None (batch link 11 dir tail moment)
reply_at_eleven link dir tail moment = ap (λ (o : Option Session). refusal o (batch link 11 dir tail moment)) at_eleven
