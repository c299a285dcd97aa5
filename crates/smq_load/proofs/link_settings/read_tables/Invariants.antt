use Rattle.std.proofs.Common.{◌≡◌, drop}
use Rattle.toml.specs.View.{items_view}
use Rattle.smq_load.specs.Settings.{links_in}
use Rattle.smq_load.proofs.LinkLemmas.{after}
use Rattle.smq_load.proofs.link_settings.read_tables.Given as goal

-- the links so far, and those of the tables that are left, are the links of all tables
abbrev pub invariant-loop-value : goal.invariant-loop-value
invariant-loop-value l = after l.links.items (links_in (items_view (drop l.value-index l.value-items))) ≡ links_in (items_view l.value-items)
