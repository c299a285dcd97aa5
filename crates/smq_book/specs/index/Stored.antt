-- What is told of the standing of a stored message.
use Rattle.std.specs.Prelude.{Bool, true, false, Option, Some}
use Rattle.smq_group.specs.declared.change.Standing as told
use Rattle.smq_group.specs.declared.change.Standing.TheVariants as t

-- whether a standing that is told is shared
abbrev pub is_told_shared : Option told.Standing → Bool
is_told_shared (Some t.Shared) = true
is_told_shared _ = false
