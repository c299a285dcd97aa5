-- A sequence number stands at one place.
use Rattle.std.proofs.Common.{◌≡◌, ℕ, ap, arith}
use Rattle.smq_reassembly.specs.declared.sequence.Place.{Place}
use Rattle.smq_reassembly.specs.declared.sequence.Place.TheVariants.{Ahead, Behind}
use Rattle.smq_reassembly.specs.Sequence.{IsAhead, IsBehind, IsOnePlace}

ahead : (first next sequence a b : ℕ) → IsAhead first next sequence a → IsAhead first next sequence b → a ≡ b
ahead first next sequence a b p q = omega (arith, p.near, p.same, q.near, q.same)

behind : (first next sequence a b : ℕ) → IsBehind first next sequence a → IsBehind first next sequence b → a ≡ b
behind first next sequence a b p q = omega (arith, p.near, p.same, q.near, q.same)

never : (first next sequence a b : ℕ) → IsAhead first next sequence a → IsBehind first next sequence b → ⊥
never first next sequence a b p q = omega (arith, p.near, p.same, q.some, q.near, q.same)

pub one_place : (first next sequence : ℕ) (place other : Place) → IsOnePlace first next sequence place other
one_place first next sequence (Ahead a) (Ahead b) p q = ap (λ (n : ℕ). Ahead n) (ahead first next sequence a b p q)
one_place first next sequence (Ahead a) (Behind b) p q = absurd (never first next sequence a b p q)
one_place first next sequence (Behind a) (Ahead b) p q = absurd (never first next sequence b a q p)
one_place first next sequence (Behind a) (Behind b) p q = ap (λ (n : ℕ). Behind n) (behind first next sequence a b p q)
