-- What was made, and the facts that an edit of routes leaves.
use Rattle.std.proofs.Common.{◌≡◌, ℕ, List, Option, Some, None, Ok, sym, subst}
use Rattle.smq_kit.specs.declared.names.RouteId.{RouteId}
use Rattle.smq_kit.specs.declared.refusal.Refusal.{Refusal}
use Rattle.smq_kit.specs.Replies.{IsReply}
use Rattle.smq_route.specs.declared.version.Version.{Version}
use Rattle.smq_route.specs.Edits.{added, changed}
use Rattle.smq_route.specs.Versions.{Versions}
use Rattle.smq_book.specs.index.Recomputed.{LeaveOthers}
use Rattle.smq_present.specs.pairing.Traffic.{TrafficValue}
use Rattle.smq_present.specs.present.Settings.{SettingsValue}
use Rattle.smq_book.proofs.lemmas.edits.RouteEdits.{added-outside, changed-outside}

-- what was made is what its reply says
pub made : {T : Type 0} (reply : Option Refusal) (x : T) (Made Unchanged : Type 0) → IsReply {T = T} reply (Ok x) Made Unchanged → Made
made None x Made Unchanged is = is
made (Some refusal) x Made Unchanged is = absurd is

module _ (s : SettingsValue) (t : TrafficValue) (prefix : List ℕ) (versions : Versions) where
  pub others-added : (from : ℕ) (route : RouteId) (network : List ℕ) → versions ≡ added s.versions prefix from route network
      → LeaveOthers s t prefix versions
  others-added from route network is = subst (LeaveOthers s t prefix) (sym is) (added-outside s t prefix from route network)

  pub others-changed : (from : ℕ) (f : Version → Version) → versions ≡ changed s.versions prefix from f → LeaveOthers s t prefix versions
  others-changed from f is = subst (LeaveOthers s t prefix) (sym is) (changed-outside s t prefix from f)
