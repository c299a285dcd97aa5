-- What the book stores is that of what is present.
use Rattle.std.specs.Prelude.{◌≡◌, ℕ}
use Rattle.smq_book.specs.declared.index.index.Index.{Index}
use Rattle.smq_book.specs.declared.index.pairings.Pairings.{Pairings}
use Rattle.smq_book.specs.index.Held.{IsHeld, held_now, held_settled, traffic_held}
use Rattle.smq_book.specs.index.Pairs.{pairing_in, pairs_now, pairs_pending, pairs_settled}
use Rattle.smq_book.specs.index.Touches.{HasNothingPending}
use Rattle.smq_present.specs.pairing.Traffic.{traffic_of}
use Rattle.smq_present.specs.present.Present.{PresentValue}

-- What an index holds is that of the traffic of the sessions that are present, under what is set, and it is settled, so that no
-- change is pending and no place is vacant.
pub record IsIndexed (p : PresentValue) (index : Index) : Type 0 where
  pub held : IsHeld p.settings (held_now index)
  pub traffic : traffic_held (held_now index) ≡ traffic_of p.sessions
  pub settled : held_settled index ≡ held_now index
  pub pending : HasNothingPending index

-- The same of a book, and the pairs are those of each session, which are settled too.
pub record IsKept (p : PresentValue) (index : Index) (pairings : Pairings) : Type 0 where
  pub held : IsHeld p.settings (held_now index)
  pub traffic : traffic_held (held_now index) ≡ traffic_of p.sessions
  pub settled : held_settled index ≡ held_now index
  pub pairs : (number : ℕ) → pairs_now pairings number ≡ pairing_in p.sessions number
  pub settled_pairs : (number : ℕ) → pairs_settled pairings number ≡ pairing_in p.sessions number
  pub pending : HasNothingPending index
  pub pending_pairs : (number : ℕ) → pairs_pending pairings number ≡ 0
