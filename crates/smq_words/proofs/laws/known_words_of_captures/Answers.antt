use Rattle.std.proofs.Common.{[], ◌∷◌, codes, refl}
use Rattle.clap.proofs.OnLiterals.{clap_on_literals}
use Rattle.smq_words.specs.Known.{KnowsCaptures}
use Rattle.smq_words.proofs.KnownLemmas.{asks, given, no_flags, not_given}
use Rattle.smq_words.proofs.laws.known_words_of_captures.Goals as goal

known : KnowsCaptures
unfolding clap_on_literals
known = record {
  report = λ names formats. asks (given (codes "capture") (codes "f" ∷ []) ∷ given (codes "link") (codes "2775=1" ∷ []) ∷ no_flags) (refl, refl) refl refl;
  report_taken = λ names formats. refl;
  check = λ names formats. asks (given (codes "capture") (codes "f" ∷ codes "g" ∷ []) ∷ given (codes "strict") (codes "true" ∷ []) ∷ not_given (codes "quiet") ∷ []) tt refl refl;
  messages = λ names formats. asks (given (codes "index") (codes "i" ∷ []) ∷ given (codes "losses") (codes "l" ∷ []) ∷ no_flags) tt refl refl;
  follow = λ names formats. asks (given (codes "every") (codes "5" ∷ []) ∷ given (codes "first-session") (codes "2" ∷ []) ∷ no_flags) refl refl refl;
  quiet = λ names formats. asks (given (codes "quiet") (codes "true" ∷ []) ∷ not_given (codes "strict") ∷ []) (refl, refl) refl refl;
  quiet_twice = λ names formats. refl;
  every = λ names formats. refl;
  ask = λ names formats. refl;
  file = λ names formats. refl;
}

pub returns : goal.returns
returns c = known
