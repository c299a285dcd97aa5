use Rattle.std.proofs.Common.{[], ◌∷◌, codes, refl}
use Rattle.clap.proofs.OnLiterals.{clap_on_literals}
use Rattle.smq_words.specs.Known.{KnowsLines}
use Rattle.smq_words.proofs.KnownLemmas.{asks, given, no_flags}
use Rattle.smq_words.proofs.laws.known_words_of_lines.Goals as goal

known : KnowsLines
unfolding clap_on_literals
known = record {
  messages = λ names formats. refl;
  messages_asked = λ names formats. asks no_flags tt refl refl;
  receipts_asked = λ names formats. asks no_flags tt refl refl;
  settings_asked = λ names formats. asks (given (codes "settings") (codes "p" ∷ []) ∷ no_flags) tt refl refl;
  format = λ names formats. refl;
  name = λ names formats. refl;
}

pub returns : goal.returns
returns c = known
