-- A message has delays where its deciding receipt says that it was delivered or failed.
use Rattle.std.proofs.Common.{◌≡◌, ℕ, ◌⊎◌, inl, inr, Bool, true, false, cond, Option, Some, None, refl, subst}
use Rattle.std.specs.Prelude.{◌==◌, ◌↔◌, IsTrue, not, is_none, is_some, option_map, option_and_then, pos, ◌-ℤ◌}
use Rattle.smq_tally.specs.Bands.{band_of}
use Rattle.smq_tally.specs.declared.outcome.Outcome.{Outcome}
use Rattle.smq_tally.specs.declared.outcome.Outcome.TheVariants as o
use Rattle.smq_present.specs.pairing.Traffic.{Message, ReceivedReceipt}
use Rattle.smq_present.specs.join.Circumstances.{Circumstances}
use Rattle.smq_present.specs.join.Outcomes.{responded, is_shared, is_decided, says_delivered, outcome_by, link_delay_by, centre_delay_by}
use Rattle.smq_present.proofs.lemmas.join.Lapsing.{outcome_of}

decider_from : (w mi r n a u l : Bool) (d : Option ReceivedReceipt)
    → is_decided (outcome_of w mi r n a (says_delivered d) (is_some d) u l) ≡ true → is_some d ≡ true
decider_from w mi r n a u l (Some x) e = refl
decider_from true mi r n a u l None e = absurd cc
decider_from false true r n a u l None e = absurd cc
decider_from false false true n a u l None e = absurd cc
decider_from false false false true a u l None e = absurd cc
decider_from false false false false true u l None e = absurd cc
decider_from false false false false false true l None e = absurd cc
decider_from false false false false false false true None e = absurd cc
decider_from false false false false false false false None e = absurd cc

-- a delivered or failed message has a deciding receipt
has-decider : (m : Message) (c : Circumstances) → is_decided (outcome_by m c) ≡ true → is_some c.decider ≡ true
has-decider m c e =
    decider_from (is_none m.response) (responded (λ r. not r.agrees) m.response) (responded (λ r. not (r.status == 0)) m.response)
    (responded (λ r. is_none r.id) m.response)
    (is_shared c.standing) (not m.asks_receipt) c.lapsed c.decider e

exactly_by : (x : Outcome) (moment : ℕ) (d : Option ReceivedReceipt) → (is_decided x ≡ true → is_some d ≡ true)
    → IsTrue (is_some (link_delay_by x moment d)) ↔ ((x ≡ o.Delivered) ⊎ (x ≡ o.Failed))
exactly_by o.Delivered moment None h = (λ e. absurd cc, λ e. h refl)
exactly_by o.Delivered moment (Some r) h = (λ e. inl refl, λ e. refl)
exactly_by o.Failed moment None h = (λ e. absurd cc, λ e. h refl)
exactly_by o.Failed moment (Some r) h = (λ e. inr refl, λ e. refl)
exactly_by _ moment d h = (λ e. absurd cc, λ e. elim e [ inl a ↦ absurd cc | inr b ↦ absurd cc ])

pub exactly : (m : Message) (c : Circumstances) → IsTrue (is_some (link_delay_by (outcome_by m c) m.moment c.decider))
    ↔ ((outcome_by m c ≡ o.Delivered) ⊎ (outcome_by m c ≡ o.Failed))
exactly m c = exactly_by (outcome_by m c) m.moment c.decider (has-decider m c)

link_if : (b : Bool) (moment : ℕ) (r : ReceivedReceipt) → is_some (cond b (Some (band_of (pos r.moment -ℤ pos moment))) None) ≡ true
    → (cond b (Some (band_of (pos r.moment -ℤ pos moment))) None ≡ Some (band_of (pos r.moment -ℤ pos moment)))
    × (cond b (option_map band_of r.receipt.centre_delay) None ≡ option_map band_of r.receipt.centre_delay)
link_if true moment r e = (refl, refl)
link_if false moment r e = absurd cc

values_by : (x : Outcome) (moment : ℕ) (d : Option ReceivedReceipt) (r : ReceivedReceipt) → d ≡ Some r → IsTrue (is_some (link_delay_by x moment d))
    → (link_delay_by x moment d ≡ Some (band_of (pos r.moment -ℤ pos moment))) × (centre_delay_by x d ≡ option_map band_of r.receipt.centre_delay)
values_by x moment None r is e = absurd cc
values_by x moment (Some y) r is e =
    let one : y ≡ r = cc in
    subst (λ r. (link_delay_by x moment (Some y) ≡ Some (band_of (pos r.moment -ℤ pos moment)))
    × (centre_delay_by x (Some y) ≡ option_map band_of r.receipt.centre_delay)) one
    (link_if (is_decided x) moment y e)

pub values : (m : Message) (c : Circumstances) (r : ReceivedReceipt) → c.decider ≡ Some r
    → IsTrue (is_some (link_delay_by (outcome_by m c) m.moment c.decider))
    → (link_delay_by (outcome_by m c) m.moment c.decider ≡ Some (band_of (pos r.moment -ℤ pos m.moment)))
    × (centre_delay_by (outcome_by m c) c.decider ≡ option_map band_of r.receipt.centre_delay)
values m c r is e = values_by (outcome_by m c) m.moment c.decider r is e

centre_if : (b : Bool) (moment : ℕ) (d : Option ReceivedReceipt)
    → is_some (cond b (option_map band_of (option_and_then (λ r. r.receipt.centre_delay) d)) None) ≡ true
    → is_some (cond b (option_map (λ r. band_of (pos r.moment -ℤ pos moment)) d) None) ≡ true
centre_if false moment d e = absurd cc
centre_if true moment None e = absurd cc
centre_if true moment (Some r) e = refl

pub centre : (m : Message) (c : Circumstances) → IsTrue (is_some (centre_delay_by (outcome_by m c) c.decider))
    → IsTrue (is_some (link_delay_by (outcome_by m c) m.moment c.decider))
centre m c e = centre_if (is_decided (outcome_by m c)) m.moment c.decider e
