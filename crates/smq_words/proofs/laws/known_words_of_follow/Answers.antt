use Rattle.std.proofs.Common.{[], ◌∷◌, codes, refl}
use Rattle.clap.proofs.OnLiterals.{clap_on_literals}
use Rattle.smq_words.specs.Known.{KnowsFollow}
use Rattle.smq_words.proofs.KnownLemmas.{asks, given, named, no_flags}
use Rattle.smq_words.proofs.laws.known_words_of_follow.Goals as goal

known : KnowsFollow
unfolding clap_on_literals
known = record {
  alone = λ names formats. refl;
  alone_follows = λ names formats. asks no_flags refl refl refl;
  settings_follows = λ names formats. asks (given (codes "settings") (codes "p" ∷ []) ∷ no_flags) refl refl refl;
  table_follows = λ names formats. asks (named formats (codes "format") (codes "table" ∷ []) ∷ no_flags) refl refl refl;
  window_follows = λ names formats. asks (given (codes "window") (codes "15m" ∷ []) ∷ no_flags) refl refl refl;
  window_twice = λ names formats. refl;
  name = λ names formats. refl;
}

pub returns : goal.returns
returns c = known
