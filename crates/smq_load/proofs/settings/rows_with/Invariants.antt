use Rattle.std.proofs.Common.{◌≡◌, take}
use Rattle.std.specs.List.{flat_map}
use Rattle.smq_load.specs.Settings.{link_rows}
use Rattle.smq_load.proofs.settings.rows_with.Given as goal

abbrev pub invariant-loop-link : goal.invariant-loop-link
invariant-loop-link l = l.rows.items ≡ flat_map link_rows (take l.link-index l.links)
