-- What the definitions give for known packets.
use Rattle.std.proofs.Common.{inl, inr, ◌≡◌, ℕ, ◌<◌, List, [], ◌∷◌, refl, ap, arith, lit≤, lit<}
use Rattle.smq_capture.specs.declared.tops.Top.{Top}
use Rattle.smq_capture.specs.KnownTops.{KnowsTops, came, top, tops}
use Rattle.smq_capture.specs.Tops.{AreNoted, noted_before}

not_all : AreNoted 4 0 (came 4 10 ∷ []) [] → ⊥
not_all (inl (inl h, n)) = omega (arith, h)
not_all (inl (inr h, n)) = omega (arith, h)
not_all (inr (rest, some, is, n)) = absurd cc

no_place : AreNoted 0 0 (came 4 10 ∷ []) (top 4 10 ∷ []) → ⊥
no_place (inl (h, n)) = absurd cc
no_place (inr (rest, some, is, n)) = let e = ap (λ (ts : List Top). noted_before 0 0 ts) is in omega (arith, e)

nothing : AreNoted 0 10 (came 4 10 ∷ []) (top 4 10 ∷ []) → ⊥
nothing (inl (h, n)) = absurd cc
nothing (inr (rest, some, is, n)) = omega (arith, some)

pub known_tops : KnowsTops
known_tops = record {
  all = refl;
  greatest = refl;
  first = refl;
  second = refl;
  behind_second = refl;
  last = refl;
  behind_last = refl;
  order = (
    (lit≤ tt, (lit≤ tt, (lit≤ tt, (lit≤ tt, tt)))),
    ((lit≤ tt, (lit≤ tt, (lit≤ tt, tt))), ((lit≤ tt, (lit≤ tt, tt)), ((lit≤ tt, tt), (tt, tt)))),
  );
  no_order = λ o. omega (arith, o.0.0);
  noted = inr (
    top 6 10 ∷ top 6 30 ∷ top 11 40 ∷ [],
    lit< tt,
    refl,
    inr (top 6 30 ∷ top 11 40 ∷ [], lit< tt, refl, inr (top 11 40 ∷ [], lit< tt, refl, inl (inl (lit≤ tt), inr ([], lit< tt, refl, refl)))),
  );
  not_all = not_all;
  before_all = inl (inr (lit< tt), refl);
  no_place = no_place;
  nothing = nothing;
  tells = refl;
  tells_itself = refl;
  tells_early = refl;
  tells_top = refl;
  tells_none = refl;
  adds = refl;
  adds_none = refl;
  adds_late = refl;
  by = refl;
  put = refl;
  keeps = (lit< tt, ((lit< tt, (lit< tt, tt)), tt));
  forgets = λ k. omega (arith, k.1.0.1.0);
  passes = λ k. omega (arith, k.0);
}
