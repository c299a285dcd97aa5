use Rattle.std.proofs.Common.{◌≡◌, ◌∙◌, ◌<◌, ◌-◌, length, get_or, sym, ap, rules}
use Rattle.std.specs.List.{last_or}
use Rattle.std.specs.Prelude.{None}
use Rattle.smq_capture.specs.Rows.{Row}
use Rattle.smq_capture.proofs.Runs.{last-is, tells-last}
use Rattle.smq_capture.proofs.waiting.Waiting.ends_in.Goals as goal

pub returns-in-Some : goal.returns-in-Some
returns-in-Some c =
    let runs = c.self.inside.runs.items in
    let some : 0 < length runs = search rules in
    let last : c.in-Some.run'.now ≡ get_or runs (length runs - 1) c.in-Some.run'.now = search rules in
    tells-last _ c.in-Some.run'.now.session c.args.session
    (ap (λ (r : Row). last_or None r.sessions) (sym c.self.view_is) ∙ last-is runs c.in-Some.run'.now some c.self.invariant.runs_are last)
