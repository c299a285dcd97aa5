-- Forms of a link that are set while all of it is out, and forms that are brought back.
use Rattle.std.proofs.Common.{◌≡◌, ◌≢◌, Bool, true, false, cond, Option, Some, refl, sym, ap, ◌∙◌, subst}
use Rattle.std.specs.Prelude.{map, unwrap_or}
use Rattle.std.specs.Option.{IsSome}
use Rattle.std.specs.Cmp.{nat_cmp_total}
use Rattle.std.specs.Ordering.{eq_by_cmp, nat_cmp}
use Rattle.std.specs.FinMap.{FinMap, get, get-insert, nat_cmp-IsAntisymmetric}
use Rattle.smq_kit.specs.declared.names.LinkId.{LinkId}
use Rattle.smq_kit.specs.Maps.{set_at}
use Rattle.smq_kit.proofs.MapLemmas as maps
use Rattle.smq_present.specs.declared.present.forms.Forms.{Forms}
use Rattle.smq_present.specs.present.Settings.{SettingsValue, forms_of, opening_forms, forms_if_set}
use Rattle.smq_present.specs.present.Steps.{with_forms}
use Rattle.smq_present.specs.join.Moves.{moved_by}
use Rattle.smq_present.specs.pairing.Traffic.{TrafficValue}
use Rattle.smq_book.specs.index.Held.{Holding, IsHeld, IsTraffic, traffic_held}
use Rattle.smq_book.specs.index.LinkOut.{keyed_places, take_at}
use Rattle.smq_book.proofs.lemmas.index.LinkOut.{held-idle, no-message-left, no-receipt-left}
use Rattle.smq_present.proofs.lemmas.present.NumberMaps.{set-back, set-there}

module _ (s : SettingsValue) (link : LinkId) (f : Forms) (z : SettingsValue) (set : z ≡ with_forms s link f) where
  -- the forms of other links stay
  others-stay : (other : LinkId) → other ≢ link → forms_of s other ≡ forms_of (with_forms s link f) other
  others-stay other apart =
      ap (λ (x : Option Forms). unwrap_or x opening_forms)
      (sym (get-insert nat_cmp_total s.forms link.0 f other.0 ∙ by (eq_by_cmp nat_cmp other.0 link.0) refl))
    where
      by : (b : Bool) → eq_by_cmp nat_cmp other.0 link.0 ≡ b → cond b (Some f) (get s.forms other.0) ≡ get s.forms other.0
      by true t = absurd (apart (λ i. record { 0 = maps.same_key nat_cmp_total nat_cmp-IsAntisymmetric other.0 link.0 t i }))
      by false t = refl

  -- what is held while nothing of the link has a key is held under its new forms
  pub held-set : (t : TrafficValue) → IsTraffic t → (h : Holding) → IsHeld s h → traffic_held h ≡ moved_by t (map take_at (keyed_places link t)) → IsHeld z h
  held-set t is h held out =
      subst (λ (z : SettingsValue). IsHeld z h) (sym set)
      (held-idle s (with_forms s link f) link h refl refl refl others-stay held
      (no-message-left link t is (traffic_held h) out) (no-receipt-left link t is (traffic_held h) out))

  -- the link has forms
  pub forms-there : IsSome (forms_if_set z link.0)
  forms-there = subst IsSome (sym (ap (λ (z : SettingsValue). get z.forms link.0) set ∙ set-there s.forms link.0 f)) refl

  -- where those before are brought back, all that is set is as it was
  pub forms-back : (before : Option Forms) (w : SettingsValue) → before ≡ forms_if_set s link.0
      → w ≡ record z { forms = set_at z.forms link.0 before } → w ≡ s
  forms-back before w was is =
      is ∙ (λ i. record (set i) { forms = set_at (set i).forms link.0 (was i) })
      ∙ ap (λ (m : FinMap nat_cmp Forms). record s { forms = m }) (set-back s.forms link.0 f)
