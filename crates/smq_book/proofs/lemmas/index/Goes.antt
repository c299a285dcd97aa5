-- Calls that change what is stored, one after the other.
use Rattle.std.proofs.Common.{◌+◌, List, [], ◌++◌}
use Rattle.smq_book.specs.declared.index.index.Index.{Index}
use Rattle.smq_book.specs.index.Goes.{Goes}
use Rattle.smq_book.specs.index.Held.{held_now}
pub use Rattle.smq_book.proofs.lemmas.index.Pushed.{after-both, after-none, after-same, noted-centre, noted-client}
use Rattle.smq_book.proofs.lemmas.index.Rises.{both-rise}
use Rattle.smq_present.specs.join.Moves.{Move}

module _ (i j k : Index) where
  pub goes_both : {xs ys : List Move} → Goes xs i j → Goes ys j k → Goes (xs ++ ys) i k
  goes_both f g = record {
    held = λ s is.
        let first = f.held s is in
        after-both s (held_now i) (held_now j) (held_now k) first (g.held s first.held);
    rises = both-rise i j k f.rises g.rises;
  }

-- what a PDU's notes go by
pub ruleset client_notes = (goes_both, noted-client)

pub ruleset centre_notes = (goes_both, noted-centre)
