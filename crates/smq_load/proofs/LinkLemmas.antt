-- Links that are read table by table.
use Rattle.std.proofs.Common.{◌≡◌, List, [], ◌∷◌, ◌++◌, Option, Some, None, refl, append_assoc}
use Rattle.smq_load.specs.Settings.{link_before}
use Rattle.smq_load.specs.declared.link_settings.LinkSettings.{LinkSettings}

-- links after others, where none is missing
abbrev pub after : List LinkSettings → Option (List LinkSettings) → Option (List LinkSettings)
after done None = None
after done (Some links) = Some (done ++ links)

-- one more link
pub after-more : (done : List LinkSettings) (link : LinkSettings) (rest : Option (List LinkSettings)) → after (done ++ link ∷ []) rest
    ≡ after done (link_before (Some link) rest)
after-more done link None = refl
after-more done link (Some links) = rw append_assoc refl
