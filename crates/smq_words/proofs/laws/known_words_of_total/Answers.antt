use Rattle.std.proofs.Common.{[], ◌∷◌, codes, refl}
use Rattle.clap.proofs.OnLiterals.{clap_on_literals}
use Rattle.smq_words.specs.Known.{KnowsTotal}
use Rattle.smq_words.proofs.KnownLemmas.{asks, given, named, no_flags}
use Rattle.smq_words.proofs.laws.known_words_of_total.Goals as goal

known : KnowsTotal
unfolding clap_on_literals
known = record {
  alone = λ names formats. refl;
  alone_totals = λ names formats. asks no_flags (refl, refl) refl refl;
  settings_totals = λ names formats. asks (given (codes "settings") (codes "p" ∷ []) ∷ no_flags) (refl, refl) refl refl;
  table_totals = λ names formats. asks (named formats (codes "format") (codes "table" ∷ []) ∷ no_flags) (refl, refl) refl refl;
  name_totals = λ names formats. asks (named names (codes "NAME") (codes "link" ∷ []) ∷ no_flags) (refl, refl) refl refl;
}

pub returns : goal.returns
returns c = known
