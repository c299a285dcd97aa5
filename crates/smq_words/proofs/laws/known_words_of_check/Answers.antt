use Rattle.std.proofs.Common.{[], ◌∷◌, codes, refl}
use Rattle.clap.proofs.OnLiterals.{clap_on_literals}
use Rattle.smq_words.specs.Known.{KnowsCheck}
use Rattle.smq_words.proofs.KnownLemmas.{asks, given, no_flags}
use Rattle.smq_words.proofs.laws.known_words_of_check.Goals as goal

known : KnowsCheck
unfolding clap_on_literals
known = record {
  alone = λ names formats. refl;
  alone_checks = λ names formats. asks no_flags tt refl refl;
  settings = λ names formats. refl;
  settings_checks = λ names formats. asks (given (codes "settings") (codes "p" ∷ []) ∷ no_flags) tt refl refl;
  format = λ names formats. refl;
  name = λ names formats. refl;
}

pub returns : goal.returns
returns c = known
