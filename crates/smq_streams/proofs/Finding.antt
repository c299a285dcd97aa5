-- The search, octet by octet.
use Rattle.std.proofs.Common.{◌≡◌, ℕ, zero, suc, ◌+◌, ◌-◌, ◌<◌, ◌≤◌, ◌⊎◌, inl, inr, Bool, List, [], ◌∷◌, ◌++◌, length, drop, refl, sym, ap, subst, ◌∙◌, arith}
use Rattle.std.specs.Prelude.{◌^◌, min, slice_get, Option, Some, None}
use Rattle.std.specs.Option.{option_map}
use Rattle.std.proofs.lemmas.Bool.{cases_lt}
use Rattle.std.proofs.lemmas.List.{drop-append-le}
use Rattle.smq_reassembly.specs.Octet.{Octet}
use Rattle.smq_reassembly.specs.Moment.{values}
use Rattle.smq_streams.specs.declared.headers.Sight.TheVariants.{Other}
use Rattle.smq_streams.specs.Sight.{IsSeen}
use Rattle.smq_streams.specs.Search.{BeginNone, IsSeenAt, Search, Shows, beyond, counted, is_begin}
use Rattle.smq_streams.proofs.Octets.{begin_is, drop-drop, get-drop, get-front, values-append, values-drop, within}
use Rattle.smq_streams.proofs.Marks.{same_search}
use Rattle.smq_streams.proofs.Sights.{not-later, seen-drop}

-- the octet at a place, seen at the front of those from there on
front : (octets : List Octet) (n : ℕ) (b : Bool) → is_begin (slice_get octets n) ≡ b → IsSeenAt octets n → IsSeen (values (drop n octets)) 0 b
front octets n b flag s =
    subst (λ (o : List ℕ). IsSeen o 0 b) (sym (values-drop n octets))
    (seen-drop n (values octets) b (subst (λ (x : Bool). IsSeen (values octets) n x) flag s))

there : (octets : List Octet) (n : ℕ) (b : Bool) → option_map (λ (o : Octet). o.begins) (slice_get octets n) ≡ Some b → n < length octets
there [] n b h = absurd (cc)
there (o ∷ os) zero b h = omega arith
there (o ∷ os) (suc n) b h = let l : n < length os = there os n b h in omega arith

pub one-more : (is_end : Bool) (octets : List Octet) (n : ℕ) (b : Bool) → BeginNone is_end octets n
    → option_map (λ (o : Octet). o.begins) (slice_get (drop n octets) 0) ≡ Some b
    → Shows is_end (values (drop n octets)) b Other → BeginNone is_end octets (n + 1)
one-more is_end octets n b before is shows =
    let flag : is_begin (slice_get octets n) ≡ b = ap is_begin (sym (get-drop n octets)) ∙ begin_is (slice_get (drop n octets) 0) b is in
    let less : n < length octets = there octets n b (ap (λ (o : Option Octet). option_map (λ (x : Octet). x.begins) o) (sym (get-drop n octets)) ∙ is) in
    record {
      within = omega arith;
      none = λ m l s.
          elim (cases_lt m n) [
            | inl h ↦ before.none m h s
            | inr h ↦
                let e : m ≡ n = omega arith in
                shows.0 (front octets n b flag (subst (λ (k : ℕ). IsSeenAt octets k) e s))
          ];
      never = λ open_end m l more s.
          elim (cases_lt m n) [
            | inl h ↦ before.never open_end m h more s
            | inr h ↦
                let e : m ≡ n = omega arith in
                let flag_more : is_begin (slice_get (octets ++ more) n) ≡ b = ap is_begin (get-front octets more n less) ∙ flag in
                let seen : IsSeen (values (drop n (octets ++ more))) 0 b = front (octets ++ more) n b flag_more (subst (λ (k : ℕ). IsSeenAt (octets ++ more) k) e s) in
                let same : values (drop n (octets ++ more)) ≡ values (drop n octets) ++ values more =
                ap values (drop-append-le n octets more (omega arith)) ∙ values-append (drop n octets) more in
                not-later (values (drop n octets)) (values more) b shows.0 (shows.1 open_end)
                (subst (λ (o : List ℕ). IsSeen o 0 b) same seen)
          ];
    }

least-more : (a m : ℕ) → min (min a m + 1) m ≡ min (a + 1) m
least-more a m = omega arith

counted-more : (p n : ℕ) → counted (counted p n) 1 ≡ counted p (n + 1)
counted-more p zero = refl
counted-more p (suc n) =
    let e : suc (suc n) ≡ suc n + 1 = omega arith in
    let f : p + suc n + 1 ≡ p + suc (suc n) = omega arith in
    least-more (p + suc n) (2 ^ 64 - 1) ∙ ap (λ (k : ℕ). min k (2 ^ 64 - 1)) f ∙ ap (λ (k : ℕ). counted p k) e

pub beyond-more : (n : ℕ) (s t : Search) → t ≡ beyond n s → beyond 1 t ≡ beyond (n + 1) s
beyond-more n s t e =
    ap (λ (x : Search). beyond 1 x) e
    ∙ same_search _ _ _ _ _ _ _ _ (counted-more s.place n) (drop-drop n 1 s.octets) (counted-more s.passed n) (omega arith)

-- where no octet is at the front there is none
pub none-left : (octets : List Octet) → option_map (λ (o : Octet). o.begins) (slice_get octets 0) ≡ None → octets ≡ []
none-left [] h = refl
none-left (o ∷ os) h = absurd (cc)
