-- Rests that are parted in two ways are compared part by part.
use Rattle.std.proofs.Common.{◌≡◌, ℕ, Bool, true, false, List, [], ◌∷◌, ◌++◌, length, refl, sym, ap, ◌∙◌, append_assoc, arith}
use Rattle.std.specs.Prelude.{nat_eq, ◌&&◌}
use Rattle.std.specs.Cmp.Lexicographic.{pointwise}

and-assoc : (a b c : Bool) → ((a && b) && c) ≡ (a && (b && c))
and-assoc true b c = refl
and-assoc false b c = refl

-- where fronts are as long, lists are compared front by front
pointwise-append : (a b c d : List ℕ) → length a ≡ length b
    → pointwise nat_eq (a ++ c) (b ++ d) ≡ (pointwise nat_eq a b && pointwise nat_eq c d)
pointwise-append [] [] c d e = refl
pointwise-append [] (y ∷ b) c d e = absurd (omega (arith, e))
pointwise-append (x ∷ a) [] c d e = absurd (omega (arith, e))
pointwise-append (x ∷ a) (y ∷ b) c d e =
    ap (λ (t : Bool). nat_eq x y && t) (pointwise-append a b c d (omega (arith, e)))
    ∙ sym (and-assoc (nat_eq x y) (pointwise nat_eq a b) (pointwise nat_eq c d))

-- the first parts of two rests are compared, then what the longer has beyond it, and then the ends
pub pointwise-parts : (a b c d front middle centre end : List ℕ) → c ≡ front ++ middle → b ≡ centre ++ end
    → length front ≡ length a → length centre ≡ length middle → pointwise nat_eq (a ++ b) (c ++ d)
    ≡ ((pointwise nat_eq a front && pointwise nat_eq centre middle) && pointwise nat_eq end d)
pointwise-parts a b c d front middle centre end longer own f m =
    rw (longer, own, append_assoc front middle d) (pointwise-append a front (centre ++ end) (middle ++ d) (sym f)
    ∙ ap (λ (t : Bool). pointwise nat_eq a front && t) (pointwise-append centre middle end d m)
    ∙ sym (and-assoc (pointwise nat_eq a front) (pointwise nat_eq centre middle) (pointwise nat_eq end d)))
