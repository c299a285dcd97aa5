-- Patterns at places, and what stands before the first octet of a kind.
use Rattle.std.proofs.Common.{◌≡◌, ℕ, ◌-◌, ◌<◌, ◌≤◌, Bool, true, false, cond, List, length, take, drop, map, Some, None, refl, sym, ap, ◌∙◌, arith, ltb}
use Rattle.std.specs.Prelude.{position}
use Rattle.std.specs.List.{position_or_len, before_first}
use Rattle.std.specs.Char.{to_ascii_lowercase}
use Rattle.std.proofs.lemmas.Bool.{ltb-true, ltb-false}
use Rattle.std.proofs.lemmas.List.{take_all, length-take, length-drop, length-map}
use lib.Pointwise.{pointwise_long}
use Rattle.std.proofs.Common.{eqb}
use Rattle.smq_receipt.specs.Texts.{same_letters, stands_at}

-- texts that are the same are as long
same_letters-long : (xs ys : List ℕ) → same_letters xs ys ≡ true → length xs ≡ length ys
unfolding same_letters
same_letters-long xs ys h = sym (length-map xs to_ascii_lowercase)
    ∙ pointwise_long eqb (map to_ascii_lowercase xs) (map to_ascii_lowercase ys) h ∙ length-map ys to_ascii_lowercase

unless_true : (b : Bool) → (b ≡ true → ⊥) → b ≡ false
unless_true true h = absurd (h refl)
unless_true false h = refl

-- a pattern doesn't stand where fewer octets follow than it has
pub stands_at_past : (pattern text : List ℕ) (place : ℕ) → length text - place < length pattern → stands_at pattern text place ≡ false
unfolding stands_at
stands_at_past pattern text place h =
    unless_true _ (λ t. let e : length (take (length pattern) (drop place text)) ≡ length pattern = same_letters-long _ _ t in
    omega (arith, e, length-take (length pattern) (drop place text), length-drop place text))

before_from : (p : ℕ → Bool) (o : List ℕ) (n : ℕ) (b : Bool) → ltb (position_or_len p o) (length o) ≡ b
    → cond b (Some (position_or_len p o)) None ≡ Some n → (n ≤ length o) × (before_first p o ≡ take n o)
before_from p o n true t h = let is : position_or_len p o ≡ n = cc in
    (rw (← is) (omega (arith, ltb-true (position_or_len p o) (length o) t)), ap (λ (k : ℕ). take k o) is)
before_from p o n false t h = absurd cc

before_none : (p : ℕ → Bool) (o : List ℕ) (b : Bool) → ltb (position_or_len p o) (length o) ≡ b
    → cond b (Some (position_or_len p o)) None ≡ None → before_first p o ≡ o
before_none p o true t h = absurd cc
before_none p o false t h = take_all (position_or_len p o) o (ltb-false (position_or_len p o) (length o) t)

pub before_first-at : (p : ℕ → Bool) (o : List ℕ) (n : ℕ) → position p o ≡ Some n → before_first p o ≡ take n o
before_first-at p o n e = (before_from p o n (ltb (position_or_len p o) (length o)) refl e).1

pub position-within : (p : ℕ → Bool) (o : List ℕ) (n : ℕ) → position p o ≡ Some n → n ≤ length o
position-within p o n e = (before_from p o n (ltb (position_or_len p o) (length o)) refl e).0

pub before_first-none : (p : ℕ → Bool) (o : List ℕ) → position p o ≡ None → before_first p o ≡ o
before_first-none p o e = before_none p o (ltb (position_or_len p o) (length o)) refl e

pub ruleset before_facts = (before_first-at, position-within, before_first-none)
