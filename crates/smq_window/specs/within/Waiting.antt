-- Halves of exchanges that wait, as they are kept.
use Rattle.std.specs.Prelude.{◌≡◌, ℕ, ◌+◌, ◌&&◌, if◌then◌else◌, Bool, Option, Some, None}
use Rattle.std.specs.Ordering.{nat_cmp}
use Rattle.std.specs.BTreeMap.{BTreeMap, get}
use Rattle.smq_kit.specs.declared.place.Dir.{Dir}
use Rattle.smq_kit.specs.declared.place.Dir.TheVariants.{FromClient, FromCentre}
use Rattle.smq_window.specs.declared.balance.Balance.{Balance}
use Rattle.smq_window.specs.declared.balance.Waiting.{Waiting}
use Rattle.smq_window.specs.declared.exchange.Half.{Half}
use Rattle.smq_window.specs.declared.exchange.Half.TheVariants.{Request, Response}
use Rattle.smq_window.specs.Exchange.{same_half}

-- how many of a half wait
abbrev pub number_of : Half → Option Waiting → ℕ
number_of half None = 0
number_of half (Some w) = if same_half half w.half then w.number else 0

abbrev pub one_if : Bool → ℕ
one_if b = if b then 1 else 0

-- One more half comes, or none: what waits of the requests and the responses differs by as much more.
abbrev pub Moves : Bool → Half → Option Waiting → Option Waiting → Type 0
Moves comes half before after =
    number_of Request after + number_of Response before + one_if (comes && same_half half Response)
    ≡ number_of Response after + number_of Request before + one_if (comes && same_half half Request)

-- what waits of an asker's exchanges
abbrev pub of_asker : Dir → Balance → BTreeMap ℕ Waiting
of_asker FromClient balance = balance.client
of_asker FromCentre balance = balance.centre

-- what waits of an exchange
abbrev pub waiting_of : Balance → Dir → ℕ → Option Waiting
waiting_of balance asker number = get nat_cmp (of_asker asker balance) number
