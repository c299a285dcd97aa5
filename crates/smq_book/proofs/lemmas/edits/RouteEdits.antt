-- An edit of routes leaves the facts of messages whose numbers its prefix doesn't begin, and all notes.
use Rattle.std.proofs.Common.{◌≡◌, ℕ, false, List, Option, Some, None, refl, sym, ◌∙◌}
use Rattle.std.specs.Prelude.{option_and_then, option_map, unwrap_or}
use Rattle.std.specs.FinMap.{keys}
use Rattle.smq_kit.specs.Maps.{SameOutside}
use Rattle.smq_kit.specs.declared.names.RouteId.{RouteId}
use Rattle.smq_route.specs.declared.version.Version.{Version}
use Rattle.smq_route.specs.Versions.{Versions, begins, route_at}
use Rattle.smq_route.specs.Edits.{added, changed}
use Rattle.smq_route.proofs.Elsewhere.{put-elsewhere, changed-elsewhere}
use Rattle.smq_present.specs.present.Settings.{SettingsValue, with_versions}
use Rattle.smq_present.specs.pairing.Traffic.{TrafficValue, Message}
use Rattle.smq_present.specs.join.Circumstances.{route_in}
use Rattle.smq_present.specs.join.Facts.{facts_of}
use Rattle.smq_book.specs.edits.Reached.{is_under, messages_under}
use Rattle.smq_book.proofs.lemmas.edits.Passing.{passing-at}
use Rattle.smq_present.proofs.lemmas.join.Routed.{same}

module _ (versions others : Versions) (prefix : List ℕ) (elsewhere : (number : List ℕ) (t : ℕ) → begins number prefix ≡ false → route_at others number t ≡ route_at versions number t) where
  by_number : (number : Option (List ℕ)) (moment : ℕ) → unwrap_or (option_map (λ (n : List ℕ). begins n prefix) number) false ≡ false
      → option_and_then (λ n. route_at others n moment) number ≡ option_and_then (λ n. route_at versions n moment) number
  by_number None moment h = refl
  by_number (Some number) moment h = elsewhere number moment h

  -- a message that isn't under the prefix has the route that it had
  route-stays : (m : Message) → is_under prefix m ≡ false → route_in others m ≡ route_in versions m
  route-stays m h = by_number m.number m.moment h

-- versions that differ in the routes of numbers that the prefix begins alone
pub routes-outside : (s : SettingsValue) (t : TrafficValue) (others : Versions) (prefix : List ℕ)
    → ((number : List ℕ) (moment : ℕ) → begins number prefix ≡ false → route_at others number moment ≡ route_at s.versions number moment)
    → SameOutside (keys (messages_under prefix t)) (facts_of s t) (facts_of (with_versions s others) t)
routes-outside s t others prefix elsewhere = record {
  at = λ q out. sym (same s others t q (λ m is.
      route-stays s.versions others prefix elsewhere m (sym (passing-at (λ place m. is_under prefix m) t.messages q m is) ∙ out)));
}

pub added-outside : (s : SettingsValue) (t : TrafficValue) (prefix : List ℕ) (from : ℕ) (route : RouteId) (network : List ℕ)
    → SameOutside (keys (messages_under prefix t)) (facts_of s t) (facts_of (with_versions s (added s.versions prefix from route network)) t)
added-outside s t prefix from route network =
    routes-outside s t (added s.versions prefix from route network) prefix (λ number moment other.
    put-elsewhere s.versions prefix from (record { until = None; route = route; network = network }) number moment other)

pub changed-outside : (s : SettingsValue) (t : TrafficValue) (prefix : List ℕ) (from : ℕ) (f : Version → Version)
    → SameOutside (keys (messages_under prefix t)) (facts_of s t) (facts_of (with_versions s (changed s.versions prefix from f)) t)
changed-outside s t prefix from f =
    routes-outside s t (changed s.versions prefix from f) prefix (λ number moment other. changed-elsewhere s.versions prefix from f number moment other)
