use Rattle.std.proofs.Common.{◌≡◌}
use Rattle.toml.specs.View.{members_view}
use Rattle.smq_load.specs.Settings.{all_known, names_key}
use Rattle.smq_load.proofs.table.has_known_keys.Given as goal

-- what is left of the keys decides
abbrev pub invariant-loop-key : goal.invariant-loop-key
invariant-loop-key l = all_known (names_key l.keys) (members_view l.key-iterator) ≡ all_known (names_key l.keys) (members_view l.table.entries)
