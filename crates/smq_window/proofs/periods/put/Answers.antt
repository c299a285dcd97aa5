use Rattle.std.proofs.Common.{◌≡◌, ℕ, List, [], ◌∷◌, ◌++◌, slice_index}
use Rattle.smq_kit.specs.declared.place.Dir.{Dir}
use Rattle.smq_window.specs.Exchange.{exchange_of}
use Rattle.smq_window.specs.Homes.{Homed, home_of, with_period}
use Rattle.smq_window.specs.within.Kept.{IsKept, MovesAt, numbers}
use Rattle.smq_window.proofs.Keeps.{home-put}
use Rattle.smq_window.proofs.Results.{ok-from_three}
use Rattle.smq_window.proofs.periods.put.Goals as goal

pub returns : goal.returns
returns c =
    ok-from_three
    (λ home. slice_index (numbers c.home_index.new.periods.items) c.in_ok-index.index ≡ home)
    (λ _. numbers c.put_at.new.periods.items ≡ numbers c.home_index.new.periods.items)
    (λ home. MovesAt home c.args.exchange c.home_index.new.periods.items c.put_at.new.periods.items)
    (λ home. (pdus : List Homed) (sender : Dir) (octets : List ℕ)
    → exchange_of sender octets ≡ c.args.exchange → IsKept pdus c.args.span.oldest c.args.span.present c.args.periods.now.items
    → (home ≡ home_of pdus c.args.span.oldest c.args.span.present c.args.exchange)
    × IsKept (pdus ++ record { home = home; sender = sender; octets = octets } ∷ []) c.args.span.oldest c.args.span.present c.put_at.new.periods.items
    × (numbers c.put_at.new.periods.items ≡ with_period (numbers c.args.periods.now.items) home))
    c.put_at.result c.put_at.ensures.number c.put_at.ensures.numbers c.put_at.ensures.moves
    (λ home number same moves pdus sender octets is kept.
    home-put pdus c.args.span.oldest c.args.span.present c.args.periods.now.items c.home_index.new.periods.items c.put_at.new.periods.items
    c.args.exchange c.in_ok-index.index home sender octets is (c.in_ok-index.ensures.home pdus kept) number same moves)
