-- How a direction ends (RFC 9293, 3.6 and 3.10.7.4). A reset counts where it has exactly the number of the next octet.
use Rattle.std.specs.Prelude.{◌≡◌, ℕ, Bool, false, Option, Some}

-- all octets up to a FIN came, which has the number behind the last octet, and none wait behind a gap
abbrev pub HasAllUpTo : Option ℕ → ℕ → Bool → Type 0
HasAllUpTo fin next has_gap = (fin ≡ Some next) × (has_gap ≡ false)
