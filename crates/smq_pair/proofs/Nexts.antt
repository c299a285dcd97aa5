-- Which place is next, by the session that is kept and by the last of a direction.
use Rattle.std.proofs.Common.{◌≡◌, ℕ, ◌+◌, ◌-◌, ◌<◌, true, false, List, [], ◌∷◌, ◌++◌, length, take, Some, refl, sym, ap, ◌∙◌, subst, arith}
use Rattle.std.specs.Prelude.{◌==◌, ◌&&◌, nat_lt, map, slice_get}
use Rattle.std.specs.List.{All, list_all}
use Rattle.std.proofs.lemmas.List.{take_all, take_more}
use Rattle.std.proofs.lemmas.List.Sums.{AllPass-from_list_all}
use Rattle.std.proofs.lemmas.Option.{slice_get_within, get_or_from_slice_get}
use Rattle.std.specs.declared.cmp.Ordering.TheVariants.{Less}
use Rattle.std.specs.Ordering.{nat_cmp}
use Rattle.std.specs.Cmp.{ranked}
use Rattle.std.specs.Map.{keys_of}
use Rattle.std.proofs.lemmas.Bool.Decides.{nat_tests}
use Rattle.std.proofs.lemmas.List.Folds.{list_all-append, list_all-map}
use Rattle.std.proofs.lemmas.Map.Keys.{sorted_tail}
use Rattle.smq_kit.specs.declared.names.SessionId.{SessionId}
use Rattle.smq_kit.specs.declared.place.Dir.{Dir}
use Rattle.smq_kit.specs.declared.place.Dir.TheVariants.{FromClient, FromCentre}
use Rattle.smq_kit.specs.declared.place.Place.{Place}
use Rattle.smq_pair.specs.Pairing.{PlacedHeader}
use Rattle.smq_pair.specs.within.Stream.{Ascend, Held}
use Rattle.smq_pair.specs.within.Kept.{Entries, are_below, are_of_session, entries_from, pdus_in, placed}
use Rattle.smq_pair.proofs.Lists.{get-last}
use Rattle.std.proofs.lemmas.Bool.{and_from}
use Rattle.smq_pair.proofs.Held.{above-head}
use Rattle.smq_pair.proofs.Entries.{pdus-kept}

-- what is below the last is below what the last is below
below-both : (x b o : ℕ) → x < b → nat_lt b o ≡ (nat_lt x o && nat_lt b o)
below-both x b o less = grind (arith, nat_tests, less)

below-all : (o : ℕ) (front : List Held) (b : Held) → Ascend (front ++ b ∷ []) → nat_lt b.0 o ≡ list_all (λ (e : Held). nat_lt e.0 o) (front ++ b ∷ [])
below-all o [] b s = grind (arith, nat_tests)
below-all o (x ∷ xs) b s =
    let less = above-head x (xs ++ b ∷ []) (length xs) b s (get-last xs b) in
    below-both x.0 b.0 o (ranked x.0 b.0 Less (sym less))
    ∙ ap (λ t. nat_lt x.0 o && t) (below-all o xs b (sorted_tail nat_cmp x.0 (keys_of (xs ++ b ∷ [])) s))

-- the last, after those before it
last-of : (xs : List Held) (b : Held) → slice_get xs (length xs - 1) ≡ Some b → xs ≡ take (length xs - 1) xs ++ b ∷ []
last-of xs b at =
    let lt = slice_get_within xs (length xs - 1) b at in
    sym (take_all (length xs - 1 + 1) xs (omega arith)) ∙ take_more xs (length xs - 1) b lt
    ∙ ap (λ x. take (length xs - 1) xs ++ x ∷ []) (get_or_from_slice_get xs (length xs - 1) b b at)

below-is : (es : Entries) (place : Place) → are_below place (pdus_in es) ≡ list_all (λ (e : Held). nat_lt e.0 place.offset) (entries_from place.dir es)
below-is es place =
    ap (list_all (λ (p : PlacedHeader). nat_lt p.place.offset place.offset)) (pdus-kept place.dir es)
    ∙ list_all-map (λ (p : PlacedHeader). nat_lt p.place.offset place.offset) (placed es.session place.dir) (entries_from place.dir es)

-- where the last of a direction is below a place, all are
pub below-by-last : (es : Entries) (place : Place) (b : Held) → Ascend (entries_from place.dir es)
    → slice_get (entries_from place.dir es) (length (entries_from place.dir es) - 1) ≡ Some b → nat_lt b.0 place.offset ≡ are_below place (pdus_in es)
below-by-last es place b s at =
    let last = last-of (entries_from place.dir es) b at in
    below-all place.offset (take (length (entries_from place.dir es) - 1) (entries_from place.dir es)) b (subst Ascend last s)
    ∙ ap (list_all (λ (e : Held). nat_lt e.0 place.offset)) (sym last) ∙ sym (below-is es place)

-- and what is below it is so by its offset
pub all-below : (es : Entries) (place : Place) (xs : List Held) → entries_from place.dir es ≡ xs → are_below place (pdus_in es) ≡ true
    → All (λ (e : Held). e.0 < place.offset) xs
all-below es place xs is below = λ k d lt.
    let t = AllPass-from_list_all (λ (e : Held). nat_lt e.0 place.offset) xs (ap (list_all (λ (e : Held). nat_lt e.0 place.offset)) (sym is) ∙ sym (below-is es place) ∙ below) k d lt in
    grind (arith, nat_tests, t)

all-said : (s t : SessionId) (d : Dir) (xs : List Held) → (s.0 == t.0) ≡ true
    → list_all (λ (p : PlacedHeader). p.place.session.0 == t.0) (map (placed s d) xs) ≡ true
all-said s t d [] same = refl
all-said s t d (x ∷ xs) same = and_from _ _ same (all-said s t d xs same)

-- PDUs are of the session that is kept
pub of-session : (es : Entries) (session : SessionId) → es.session.0 ≡ session.0
    → (es.session.0 == session.0) ≡ are_of_session session (pdus_in es)
of-session es session one =
    let same : (es.session.0 == session.0) ≡ true = grind (arith, nat_tests, one) in
    same
    ∙ sym (list_all-append (λ (p : PlacedHeader). p.place.session.0 == session.0) (pdus_in es).client (pdus_in es).centre
    ∙ and_from _ _ (all-said es.session session FromClient es.client same) (all-said es.session session FromCentre es.centre same))

-- and of another where there are none
pub of-another : (es : Entries) (session : SessionId) → (es.session.0 ≡ session.0 → ⊥)
    → are_of_session session (pdus_in es) ≡ (length es.client == 0 && length es.centre == 0)
of-another es session apart = by_lists es.client es.centre
  where
    other : (es.session.0 == session.0) ≡ false
    other = grind (arith, nat_tests, apart)

    none : {X : Type 0} (x : X) (xs : List X) → (length (x ∷ xs) == 0) ≡ false
    none x xs = grind (arith, nat_tests)

    by_lists : (xs ys : List Held) → list_all (λ (p : PlacedHeader). p.place.session.0 == session.0)
        (map (placed es.session FromClient) xs ++ map (placed es.session FromCentre) ys) ≡ (length xs == 0 && length ys == 0)
    by_lists [] [] = refl
    by_lists [] (y ∷ ys) = rw (other, none y ys) refl
    by_lists (x ∷ xs) ys = rw (other, none x xs) refl
