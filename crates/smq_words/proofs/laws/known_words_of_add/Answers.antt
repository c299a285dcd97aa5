use Rattle.std.proofs.Common.{[], ◌∷◌, codes, refl}
use Rattle.clap.proofs.OnLiterals.{clap_on_literals}
use Rattle.smq_words.specs.Known.{KnowsAdd}
use Rattle.smq_words.proofs.KnownLemmas.{asks, given, not_given}
use Rattle.smq_words.proofs.laws.known_words_of_add.Goals as goal

known : KnowsAdd
unfolding clap_on_literals
known = record {
  two = λ names formats. refl;
  two_asked = λ names formats. asks (given (codes "FILE") (codes "a" ∷ codes "b" ∷ []) ∷ not_given (codes "periods") ∷ []) (refl, (_, refl)) refl refl;
  periods = λ names formats. refl;
  periods_asked = λ names formats. asks (given (codes "periods") (codes "true" ∷ []) ∷ given (codes "FILE") (codes "a" ∷ []) ∷ []) (refl, (_, refl)) refl refl;
  no_report = λ names formats. refl;
  settings = λ names formats. refl;
  report = λ names formats. refl;
}

pub returns : goal.returns
returns c = known
