-- What a closed desk shows, and what is made there.
use Rattle.std.proofs.Common.{◌≡◌, ◌↔◌, IsTrue}
use Rattle.smq_tally.specs.Tables.{TablesKept}
use Rattle.smq_tally.specs.within.Equal.{shown_eq}
use Rattle.smq_tally.proofs.Equals.{equal-same}

-- `==` of tables tells whether they show the same
pub same_shown : (t u : TablesKept) → IsTrue (shown_eq t u) ↔ (t.shown ≡ u.shown)
same_shown t u = equal-same t.shown u.shown
