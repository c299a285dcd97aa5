use Rattle.std.proofs.Common.{[], ◌∷◌, codes, refl}
use Rattle.clap.proofs.OnLiterals.{clap_on_literals}
use Rattle.smq_words.specs.Known.{KnowsCount}
use Rattle.smq_words.proofs.KnownLemmas.{asks, given, no_flags, not_given}
use Rattle.smq_words.proofs.laws.known_words_of_count.Goals as goal

known : KnowsCount
unfolding clap_on_literals
known = record {
  columns = λ names formats. refl;
  columns_count = λ names formats. asks (given (codes "by") (codes "link,day" ∷ []) ∷ no_flags) (_, refl) refl refl;
  conditions = λ names formats. refl;
  conditions_count = λ names formats. asks (given (codes "where") (codes "link=1" ∷ codes "outcome=open" ∷ []) ∷ given (codes "by") (codes "day" ∷ []) ∷ no_flags) (_, refl) refl refl;
  joined = λ names formats. asks (given (codes "by") (codes "day" ∷ []) ∷ given (codes "where") (codes "error=" ∷ []) ∷ no_flags) (_, refl) refl refl;
  zone = λ names formats. asks (given (codes "by") (codes "day" ∷ []) ∷ given (codes "zone") (codes "p" ∷ []) ∷ given (codes "settings") (codes "q" ∷ []) ∷ no_flags) (_, refl) refl refl;
  settings = λ names formats. asks (given (codes "settings") (codes "p" ∷ []) ∷ given (codes "by") (codes "hour" ∷ []) ∷ no_flags) (_, refl) refl refl;
  captures = λ names formats. asks (given (codes "by") (codes "route" ∷ []) ∷ given (codes "capture") (codes "f" ∷ []) ∷ given (codes "link") (codes "2775=1" ∷ []) ∷ given (codes "strict") (codes "true" ∷ []) ∷ not_given (codes "quiet") ∷ []) (_, refl) refl refl;
  no_columns = λ names formats. refl;
  conditions_alone = λ names formats. refl;
  twice = λ names formats. refl;
  format = λ names formats. refl;
  name = λ names formats. refl;
  messages = λ names formats. refl;
  total = λ names formats. refl;
  zones = λ names formats. refl;
  zone_of_messages = λ names formats. refl;
}

pub returns : goal.returns
returns c = known
