-- The test of two tails says whether they are one.
use Rattle.std.proofs.Common.{◌≡◌, ℕ, Bool, true, false, Option, Some, None, refl, sym, ap}
use Rattle.std.specs.Prelude.{nat_eq, ◌&&◌}
use Rattle.std.specs.Cmp.Lexicographic.{pointwise, same_text, bytes_decides}
use Rattle.std.specs.Option.{option_eq}
use Rattle.std.proofs.lemmas.Bool.{eqb-true, eq-eqb}
use Rattle.smq_frame.specs.Tail.{TailValue, tails_equal}

both_hold : (a b : Bool) → (a && b) ≡ true → (a ≡ true) × (b ≡ true)
both_hold true b e = (refl, e)
both_hold false b e = cc

option_eq-true : (x y : Option ℕ) → option_eq nat_eq x y ≡ true → x ≡ y
option_eq-true None None e = refl
option_eq-true None (Some y) e = cc
option_eq-true (Some x) None e = cc
option_eq-true (Some x) (Some y) e = ap Some (eqb-true x y e)

option_eq-same : (x : Option ℕ) → option_eq nat_eq x x ≡ true
option_eq-same None = refl
option_eq-same (Some x) = eq-eqb x x refl

pub tails_equal-true : (t u : TailValue) → tails_equal t u ≡ true → t ≡ u
tails_equal-true t u e =
    let first = both_hold (nat_eq t.offset u.offset && pointwise nat_eq t.rest u.rest) (option_eq nat_eq t.broken u.broken) e in
    let second = both_hold (nat_eq t.offset u.offset) (pointwise nat_eq t.rest u.rest) first.0 in
    let offset : t.offset ≡ u.offset = eqb-true t.offset u.offset second.0 in
    let rest : t.rest ≡ u.rest = same_text t.rest u.rest (sym second.1) in
    let broken : t.broken ≡ u.broken = option_eq-true t.broken u.broken first.1 in
    λ i. record { offset = offset i; rest = rest i; broken = broken i }

tails_equal-itself : (t : TailValue) → tails_equal t t ≡ true
tails_equal-itself t =
    rw (eq-eqb t.offset t.offset refl, (bytes_decides t.rest t.rest).1 refl, option_eq-same t.broken) refl

pub tails_equal-same : (t u : TailValue) → t ≡ u → tails_equal t u ≡ true
tails_equal-same t u e = rw (← e) (tails_equal-itself t)

pub ruleset equal_tails = (tails_equal-true, tails_equal-same)
