use Rattle.std.proofs.Common.{[], ◌∷◌, codes, refl}
use Rattle.clap.proofs.OnLiterals.{clap_on_literals}
use Rattle.smq_words.specs.Known.{KnowsCapture}
use Rattle.smq_words.proofs.KnownLemmas.{asks, given, no_flags, not_given}
use Rattle.smq_words.proofs.laws.known_words_of_capture.Goals as goal

known : KnowsCapture
unfolding clap_on_literals
known = record {
  captures = λ names formats. asks (given (codes "link") (codes "2775=1" ∷ []) ∷ given (codes "FILE") (codes "a.pcap" ∷ []) ∷ no_flags) tt refl refl;
  taken = λ names formats. refl;
  two = λ names formats. asks (given (codes "FILE") (codes "a" ∷ codes "-" ∷ []) ∷ given (codes "link") (codes "1=1" ∷ codes "2=2" ∷ []) ∷ no_flags) tt refl refl;
  options = λ names formats. asks (given (codes "link") (codes "1=1" ∷ []) ∷ given (codes "strict") (codes "true" ∷ []) ∷ given (codes "index") (codes "i" ∷ []) ∷ given (codes "losses") (codes "l" ∷ []) ∷ given (codes "first-session") (codes "7" ∷ []) ∷ not_given (codes "quiet") ∷ []) tt refl refl;
  live = λ names formats. asks (given (codes "link") (codes "1=1" ∷ []) ∷ given (codes "every") (codes "60" ∷ []) ∷ given (codes "ask") (codes "link" ∷ codes "count link,network" ∷ []) ∷ no_flags) tt refl refl;
  quiet = λ names formats. asks (given (codes "link") (codes "1=1" ∷ []) ∷ given (codes "quiet") (codes "true" ∷ []) ∷ not_given (codes "strict") ∷ []) tt refl refl;
  into = λ names formats. asks (given (codes "link") (codes "1=1" ∷ []) ∷ given (codes "into") (codes "f" ∷ []) ∷ no_flags) tt refl refl;
  parts = λ names formats. asks (given (codes "link") (codes "1=1" ∷ []) ∷ given (codes "parts") (codes "day" ∷ []) ∷ given (codes "into") (codes "f" ∷ []) ∷ given (codes "FILE") (codes "a" ∷ []) ∷ no_flags) tt refl refl;
  parts_twice = λ names formats. refl;
  parts_of_report = λ names formats. refl;
  no_link = λ names formats. refl;
  settings = λ names formats. refl;
}

pub returns : goal.returns
returns c = known
