use Rattle.std.proofs.Common.{[], ◌∷◌, codes, refl}
use Rattle.clap.proofs.OnLiterals.{clap_on_literals}
use Rattle.smq_words.specs.Known.{KnowsWindow}
use Rattle.smq_words.proofs.KnownLemmas.{asks, given}
use Rattle.smq_words.proofs.laws.known_words_of_window.Goals as goal

known : KnowsWindow
unfolding clap_on_literals
known = record {
  length = λ names formats. refl;
  length_asked = λ names formats. asks (given (codes "window") (codes "15m" ∷ []) ∷ []) (_, refl) refl refl;
  no_length = λ names formats. refl;
  two = λ names formats. refl;
  option = λ names formats. refl;
  settings = λ names formats. refl;
  quiet = λ names formats. refl;
  check = λ names formats. refl;
}

pub returns : goal.returns
returns c = known
