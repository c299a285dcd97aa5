-- What `==` calls one is one: of each part of a receipt, and so of receipts and readings.
use Rattle.std.proofs.Common.{◌≡◌, ℤ, Bool, true, false, Option, Some, None, refl, ap, rules}
use Rattle.std.specs.Bool.{Decides}
use Rattle.std.specs.Option.{option_eq}
use Rattle.std.specs.contracts.prelude.BoolPartialEq.TheImpl as bool_eq
use Rattle.std.specs.Ordering.{int_eq}
use Rattle.std.proofs.lemmas.Bool.Decides.{Decides-and, Decides-like, Decides-int_eq}
use Rattle.smq_kit.specs.declared.error_code.ErrorCode.{ErrorCode}
use Rattle.smq_kit.specs.contracts.error_code.ErrorCodePartialEq.TheImpl as error_eq
use Rattle.smq_kit.specs.contracts.message_id.MessageIdPartialEq.TheImpl as id_eq
use Rattle.smq_kit.specs.declared.message_id.MessageId.{MessageId}
use Rattle.smq_receipt.specs.declared.message_state.MessageState.{MessageState}
use Rattle.smq_receipt.specs.contracts.message_state.MessageStatePartialEq.TheImpl as state_eq
use Rattle.smq_receipt.specs.declared.reading.Receipt.{Receipt}
use Rattle.smq_receipt.specs.declared.reading.Reading.{Reading}
use Rattle.smq_receipt.specs.declared.reading.Reading.TheVariants as v
use Rattle.smq_receipt.specs.Equalities.{is_same_receipt, is_same_reading}

-- ---- each part of a receipt

ids : (a b : MessageId) → Decides (id_eq.ghosts.eq a b) (a ≡ b)
ids a b = search rules

states : (a b : MessageState) → Decides (state_eq.ghosts.eq a b) (a ≡ b)
states a b = search rules

errors : (a b : ErrorCode) → Decides (error_eq.ghosts.eq a b) (a ≡ b)
errors a b = search rules

flags : (a b : Bool) → Decides (bool_eq.ghosts.eq a b) (a ≡ b)
flags true true = (λ h. refl, λ e. refl)
flags true false = (λ h. absurd cc, λ e. absurd cc)
flags false true = (λ h. absurd cc, λ e. absurd cc)
flags false false = (λ h. refl, λ e. refl)

delays : (a b : Option ℤ) → Decides (option_eq int_eq a b) (a ≡ b)
delays None None = (λ h. refl, λ e. refl)
delays None (Some y) = (λ h. absurd cc, λ e. absurd cc)
delays (Some x) None = (λ h. absurd cc, λ e. absurd cc)
delays (Some x) (Some y) = (λ h. ap (λ (z : ℤ). Some z) ((Decides-int_eq x y).0 h), λ e. (Decides-int_eq x y).1 (let same : x ≡ y = cc in same))

-- ---- receipts, part by part

-- each part of two receipts is one
abbrev Parts : Receipt → Receipt → Type 0
Parts a b = (a.id ≡ b.id) × ((a.state ≡ b.state) × ((a.interim ≡ b.interim) × ((a.error ≡ b.error) × (a.centre_delay ≡ b.centre_delay))))

parts_decide : (a b : Receipt) → Decides (is_same_receipt a b) (Parts a b)
parts_decide a b =
    Decides-and _ _ (ids a.id b.id) (Decides-and _ _ (states a.state b.state)
    (Decides-and {P = a.interim ≡ b.interim} {Q = (a.error ≡ b.error) × (a.centre_delay ≡ b.centre_delay)} _ _
    (flags a.interim b.interim) (Decides-and {Q = a.centre_delay ≡ b.centre_delay} _ _ (errors a.error b.error)
    (delays a.centre_delay b.centre_delay))))

one : (a b : Receipt) → Parts a b → a ≡ b
one a b p = λ i. record { id = p.0 i; state = p.1.0 i; interim = p.1.1.0 i; error = p.1.1.1.0 i; centre_delay = p.1.1.1.1 i }

parts : (a b : Receipt) → a ≡ b → Parts a b
parts a b e = (ap (λ r. r.id) e, (ap (λ r. r.state) e, (ap (λ r. r.interim) e, (ap (λ r. r.error) e, ap (λ r. r.centre_delay) e))))

pub receipts_decide : (a b : Receipt) → Decides (is_same_receipt a b) (a ≡ b)
receipts_decide a b = Decides-like (is_same_receipt a b) (one a b) (parts a b) (parts_decide a b)

-- ---- readings, kind by kind

pub readings_decide : (a b : Reading) → Decides (is_same_reading a b) (a ≡ b)
readings_decide (v.Receipt r) (v.Receipt s) =
    Decides-like (is_same_receipt r s) (λ e. ap v.Receipt e) (λ e. let same : r ≡ s = cc in same) (receipts_decide r s)
readings_decide (v.Receipt r) v.NoId = (λ h. absurd cc, λ e. absurd cc)
readings_decide (v.Receipt r) v.NoState = (λ h. absurd cc, λ e. absurd cc)
readings_decide (v.Receipt r) v.NotReceipt = (λ h. absurd cc, λ e. absurd cc)
readings_decide v.NoId (v.Receipt s) = (λ h. absurd cc, λ e. absurd cc)
readings_decide v.NoId v.NoId = (λ h. refl, λ e. refl)
readings_decide v.NoId v.NoState = (λ h. absurd cc, λ e. absurd cc)
readings_decide v.NoId v.NotReceipt = (λ h. absurd cc, λ e. absurd cc)
readings_decide v.NoState (v.Receipt s) = (λ h. absurd cc, λ e. absurd cc)
readings_decide v.NoState v.NoId = (λ h. absurd cc, λ e. absurd cc)
readings_decide v.NoState v.NoState = (λ h. refl, λ e. refl)
readings_decide v.NoState v.NotReceipt = (λ h. absurd cc, λ e. absurd cc)
readings_decide v.NotReceipt (v.Receipt s) = (λ h. absurd cc, λ e. absurd cc)
readings_decide v.NotReceipt v.NoId = (λ h. absurd cc, λ e. absurd cc)
readings_decide v.NotReceipt v.NoState = (λ h. absurd cc, λ e. absurd cc)
readings_decide v.NotReceipt v.NotReceipt = (λ h. refl, λ e. refl)
