use Rattle.std.proofs.Common.{[], ◌∷◌, codes, refl}
use Rattle.clap.proofs.OnLiterals.{clap_on_literals}
use Rattle.smq_words.specs.Known.{KnowsDeal}
use Rattle.smq_words.proofs.KnownLemmas.{asks, given, not_given}
use Rattle.smq_words.proofs.laws.known_words_of_deal.Goals as goal

known : KnowsDeal
unfolding clap_on_literals
known = record {
  periods = λ names formats. refl;
  periods_asked = λ names formats. asks (given (codes "settled") (codes "d" ∷ []) ∷ given (codes "rest") (codes "c" ∷ []) ∷ not_given (codes "quiet") ∷ []) tt refl refl;
  parts = λ names formats. refl;
  parts_asked = λ names formats. asks (given (codes "count") (codes "4" ∷ []) ∷ given (codes "folder") (codes "f" ∷ []) ∷ not_given (codes "quiet") ∷ []) tt refl refl;
  settings = λ names formats. asks (given (codes "settings") (codes "p" ∷ []) ∷ given (codes "rest") (codes "c" ∷ []) ∷ given (codes "settled") (codes "d" ∷ []) ∷ not_given (codes "quiet") ∷ []) tt refl refl;
  quiet = λ names formats. asks (given (codes "folder") (codes "f" ∷ []) ∷ given (codes "quiet") (codes "true" ∷ []) ∷ given (codes "count") (codes "4" ∷ []) ∷ []) tt refl refl;
  alone = λ names formats. refl;
  alone_asked = λ names formats. asks (not_given (codes "quiet") ∷ []) tt refl refl;
  no_value = λ names formats. refl;
  settled_twice = λ names formats. refl;
  parts_twice = λ names formats. refl;
  name = λ names formats. refl;
  captures = λ names formats. refl;
  total = λ names formats. refl;
  capture = λ names formats. refl;
}

pub returns : goal.returns
returns c = known
