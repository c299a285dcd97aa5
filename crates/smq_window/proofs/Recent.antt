-- Homes, and the sessions that were made, are of periods that are kept.
use Rattle.std.proofs.Common.{◌≡◌, ℕ, ◌+◌, ◌-◌, ◌≤◌, ◌&&◌, not, Bool, true, false, cond, List, [], ◌∷◌, ◌++◌, Option, Some, None, unwrap_or, refl, ap, arith, ltb, nat_eq}
use Rattle.std.proofs.lemmas.Bool.{ltb-false}
use Rattle.std.specs.List.{AllByRecursion, list_any}
use Rattle.smq_window.specs.declared.exchange.Exchange.{Exchange}
use Rattle.smq_window.specs.declared.made.Made.{Made}
use Rattle.smq_window.specs.Belief.{belief_after}
use Rattle.smq_window.specs.Connection.{ConnectionValue, at_home, connection_after, homed}
use Rattle.smq_window.specs.Exchange.{exchange_of}
use Rattle.smq_window.specs.Homes.{Homed, awaits, home_of}
use Rattle.smq_window.specs.Laws.{AreInOrder, FindsItsPair, HomesAreKept, RecentAfterAPiece, RecentAfterTheClock, RecentAtFirst, RecentWithout, WaitsItself}
use Rattle.smq_window.specs.Window.{WindowValue, connection_of, made_passed, oldest_of, origin_taken, present_of, window_at}
use Rattle.smq_window.proofs.Homes.{least-none, least-passes, least-within}
use Rattle.smq_window.proofs.Windows.{present-rises}

-- ---- homes

pub finds_its_pair : FindsItsPair
finds_its_pair pdus oldest present period e low high there =
    least-passes (present + 1 - oldest) oldest period present (awaits pdus e) low (omega arith) there

pub waits_itself : WaitsItself
waits_itself pdus oldest present e none =
    ap (λ (o : Option ℕ). unwrap_or o present) (least-none (present + 1 - oldest) oldest (awaits pdus e) (λ p l h. none p l (omega arith)))

home-kept : (pdus : List Homed) (oldest present : ℕ) (exchange : Option Exchange) → oldest ≤ present
    → (oldest ≤ home_of pdus oldest present exchange) × (home_of pdus oldest present exchange ≤ present)
home-kept pdus oldest present None order = (order, omega arith)
home-kept pdus oldest present (Some e) order =
    let h = least-within (present + 1 - oldest) oldest present (awaits pdus e) order (omega arith) in (h.0, omega (arith, h.1, order))

pub homes_are_kept : HomesAreKept
unfolding homed
homes_are_kept pdus oldest present sender [] order = tt
homes_are_kept pdus oldest present sender (f ∷ fs) order = (
  home-kept pdus oldest present (exchange_of sender f) order,
  homes_are_kept (pdus ++ at_home pdus oldest present sender f ∷ []) oldest present sender fs order,
)

-- ---- lists

weaker : {X : Type 0} (P Q : X → Type 0) (xs : List X) → ((x : X) → P x → Q x) → AllByRecursion P xs → AllByRecursion Q xs
weaker P Q [] f all = tt
weaker P Q (x ∷ xs) f all = (f x all.0, weaker P Q xs f all.1)

both : {X : Type 0} (P Q : X → Type 0) (xs : List X) → AllByRecursion P xs → AllByRecursion Q xs → AllByRecursion (λ x. P x × Q x) xs
both P Q [] p q = tt
both P Q (x ∷ xs) p q = ((p.0, q.0), both P Q xs p.1 q.1)

pushed : {X : Type 0} (P : X → Type 0) (xs : List X) (y : X) → AllByRecursion P xs → P y → AllByRecursion P (xs ++ y ∷ [])
pushed P [] y all here = (here, tt)
pushed P (x ∷ xs) y all here = (all.0, pushed P xs y all.1 here)

-- what holds of both holds of either
either : {X : Type 0} (P : X → Type 0) (b : Bool) (x y : X) → P x → P y → P (cond b x y)
either P true x y p q = p
either P false x y p q = q

-- ---- sessions that were made

passed-order : (oldest : ℕ) (ms : List Made) → AreInOrder ms → AreInOrder (made_passed oldest ms)
unfolding made_passed
passed-order oldest [] order = tt
passed-order oldest (m ∷ ms) order =
    either AreInOrder (ltb m.period oldest) (made_passed oldest ms) (m ∷ ms) (passed-order oldest ms order.1) order

passed-all : (P : Made → Type 0) (oldest : ℕ) (ms : List Made) → AllByRecursion P ms → AllByRecursion P (made_passed oldest ms)
unfolding made_passed
passed-all P oldest [] all = tt
passed-all P oldest (m ∷ ms) all =
    either (λ (xs : List Made). AllByRecursion P xs) (ltb m.period oldest) (made_passed oldest ms) (m ∷ ms) (passed-all P oldest ms all.1) all

from-step : (oldest : ℕ) (m : Made) (ms left : List Made) → AreInOrder (m ∷ ms) → AllByRecursion (λ n. oldest ≤ n.period) left
    → (b : Bool) → ltb m.period oldest ≡ b → AllByRecursion (λ n. oldest ≤ n.period) (cond b left (m ∷ ms))
from-step oldest m ms left order later true e = later
from-step oldest m ms left order later false e =
    let low : oldest ≤ m.period = ltb-false m.period oldest e in
    (low, weaker (λ (n : Made). m.period ≤ n.period) (λ (n : Made). oldest ≤ n.period) ms (λ n h. omega (arith, low, h)) order.0)

passed-from : (oldest : ℕ) (ms : List Made) → AreInOrder ms → AllByRecursion (λ m. oldest ≤ m.period) (made_passed oldest ms)
unfolding made_passed
passed-from oldest [] order = tt
passed-from oldest (m ∷ ms) order =
    from-step oldest m ms (made_passed oldest ms) order (passed-from oldest ms order.1) (ltb m.period oldest) refl

order-push : (ms : List Made) (m : Made) → AreInOrder ms → AllByRecursion (λ n. n.period ≤ m.period) ms → AreInOrder (ms ++ m ∷ [])
order-push [] m order all = (tt, tt)
order-push (n ∷ ms) m order all =
    (pushed (λ (x : Made). n.period ≤ x.period) ms m order.0 all.0, order-push ms m order.1 all.1)

pub recent_at_first : RecentAtFirst
recent_at_first l = record { order = tt; kept = tt }

pub recent_after_the_clock : RecentAfterTheClock
recent_after_the_clock l moment w some recent =
    let rises : present_of l w.belief ≤ present_of l (belief_after w.belief moment) = present-rises l w.belief moment some in
    record {
      order = passed-order (oldest_of l (belief_after w.belief moment)) w.made recent.order;
      kept = both (λ (m : Made). oldest_of l (belief_after w.belief moment) ≤ m.period) (λ (m : Made). m.period ≤ present_of l (belief_after w.belief moment))
          (made_passed (oldest_of l (belief_after w.belief moment)) w.made)
          (passed-from (oldest_of l (belief_after w.belief moment)) w.made recent.order)
          (passed-all (λ (m : Made). m.period ≤ present_of l (belief_after w.belief moment)) (oldest_of l (belief_after w.belief moment)) w.made
          (weaker (λ (m : Made). (oldest_of l w.belief ≤ m.period) × (m.period ≤ present_of l w.belief))
          (λ (m : Made). m.period ≤ present_of l (belief_after w.belief moment)) w.made (λ m h. low m.period (present_of l w.belief) (present_of l (belief_after w.belief moment)) h.1 rises) recent.kept));
    }
  where
    low : (a b c : ℕ) → a ≤ b → b ≤ c → a ≤ c
    low a b c h i = omega arith

-- a session that is made for the present period is the newest
recent-with : (oldest present session : ℕ) (b : Bool) (ms : List Made) → oldest ≤ present → AreInOrder ms
    → AllByRecursion (λ m. (oldest ≤ m.period) × (m.period ≤ present)) ms
    → AreInOrder (cond b (ms ++ record { period = present; session = session } ∷ []) ms)
    × AllByRecursion (λ m. (oldest ≤ m.period) × (m.period ≤ present)) (cond b (ms ++ record { period = present; session = session } ∷ []) ms)
recent-with oldest present session true ms low order kept = (
  order-push ms (record { period = present; session = session }) order
      (weaker (λ (m : Made). (oldest ≤ m.period) × (m.period ≤ present)) (λ (m : Made). m.period ≤ present) ms (λ m h. h.1) kept),
  pushed (λ (m : Made). (oldest ≤ m.period) × (m.period ≤ present)) ms (record { period = present; session = session }) kept (low, omega arith),
)
recent-with oldest present session false ms low order kept = (order, kept)

pub recent_after_a_piece : RecentAfterAPiece
recent_after_a_piece l at octets w some recent =
    let p : WindowValue = window_at l at.moment w in
    let r = recent_after_the_clock l at.moment w some recent in
    let c : ConnectionValue = connection_of at p.known in
    let d : ConnectionValue = connection_after (origin_taken w.belief at c) (oldest_of l p.belief) (present_of l p.belief) octets c in
    let k = recent-with (oldest_of l p.belief) (present_of l p.belief) at.session
    (list_any (nat_eq (present_of l p.belief)) d.periods && not (list_any (nat_eq (present_of l p.belief)) c.periods)) p.made
    (below (present_of l p.belief) l.1) r.order r.kept in
    record { order = k.0; kept = k.1 }
  where
    below : (a k : ℕ) → a - k ≤ a
    below a k = omega arith

pub recent_without : RecentWithout
recent_without l session w recent = record { order = recent.order; kept = recent.kept }

pub ruleset home_laws = (waits_itself, homes_are_kept)

pub ruleset made_laws = (recent_at_first, recent_after_the_clock, recent_after_a_piece, recent_without)
