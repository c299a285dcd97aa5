-- Tables of facts in a list, which are counted one after the other, the last first.
use Rattle.std.proofs.Common.{◌≡◌, ◌+◌, ◌<◌, ◌≤◌, ◌^◌, List, [], ◌∷◌, ◌++◌, length, subst, sym, ap, ◌∙◌, arith}
use Rattle.std.proofs.lemmas.List.{append_assoc, length-append, nil_from_length}
use Rattle.std.specs.Prelude.{count_by, map}
use Rattle.std.specs.FinMap.{empty}
use Rattle.smq_kit.specs.declared.place.Place.{Place}
use Rattle.smq_kit.specs.Orders.{place_cmp}
use Rattle.smq_tally.specs.declared.fact.CountKey.{CountKey}
use Rattle.smq_tally.specs.declared.fact.Fact.{Fact}
use Rattle.smq_tally.specs.Rows.{stands_in}
use Rattle.smq_tally.specs.Tables.{TablesValue, AreOfDifferentPlaces, facts_at, tables_of}
use Rattle.smq_tally.specs.within.Counting.{count_of, one_more}
use Rattle.smq_tally.proofs.Tallies.{count-tables, number-more, one_most, added-tables}
use Rattle.smq_tally.proofs.Undone.{no-entries}

-- what is shown is of the facts after those that are left
pub record IsGathering (all left : List Fact) (shown : TablesValue) : Type 0 where
  pub counted : List Fact
  pub split : all ≡ left ++ counted
  pub made : shown ≡ tables_of (facts_at counted) empty

apart-after : (xs ys : List Fact) → AreOfDifferentPlaces (xs ++ ys) → AreOfDifferentPlaces ys
apart-after [] ys h = h
apart-after (x ∷ xs) ys h = apart-after xs ys h.1

few : (fs : List Fact) (q : CountKey) → AreOfDifferentPlaces fs → count_of (tables_of (facts_at fs) empty) q ≤ length fs
few [] q h =
    let none = count-tables (facts_at []) empty q in
    let zero = ap (λ (es : List (Place × Fact)). count_by (stands_in q) (map (λ e. e.1) es)) (no-entries place_cmp Fact) in
    omega (arith, none, zero)
few (f ∷ fs) q h =
    let now = count-tables (facts_at (f ∷ fs)) empty q in
    let before = count-tables (facts_at fs) empty q in
    let more = number-more (facts_at fs) f q h.0 in
    let rest = few fs q h.1 in
    let most = one_most (stands_in q f) in
    omega (arith, now, before, more, rest, most)

module _ {all left : List Fact} {shown : TablesValue} (apart : AreOfDifferentPlaces all) (g : IsGathering all left shown) where
  split_at : (before : List Fact) (f : Fact) → left ≡ before ++ f ∷ [] → all ≡ before ++ f ∷ g.counted
  split_at before f last = g.split ∙ ap (λ (fs : List Fact). fs ++ g.counted) last ∙ append_assoc before (f ∷ []) g.counted

  -- counts have room for the last of those that are left
  pub gathering-room : (before : List Fact) (f : Fact) → left ≡ before ++ f ∷ [] → length all < 2 ^ 64 → (key : CountKey) → count_of shown key + 1 < 2 ^ 64
  gathering-room before f last small key =
      let here = apart-after before (f ∷ g.counted) (subst (λ (fs : List Fact). AreOfDifferentPlaces fs) (split_at before f last) apart) in
      let bound = few g.counted key here.1 in
      let most = length-append before (f ∷ g.counted) in
      let same : length all ≡ length (before ++ f ∷ g.counted) = ap (λ (fs : List Fact). length fs) (split_at before f last) in
      let there : count_of shown key ≡ count_of (tables_of (facts_at g.counted) empty) key = ap (λ (t : TablesValue). count_of t key) g.made in
      omega (arith, bound, most, same, there, small)

  -- it is counted
  pub gathered_one : (before : List Fact) (f : Fact) (new : TablesValue) → left ≡ before ++ f ∷ [] → new ≡ one_more shown f → IsGathering all before new
  gathered_one before f new last counted =
      let here = apart-after before (f ∷ g.counted) (subst (λ (fs : List Fact). AreOfDifferentPlaces fs) (split_at before f last) apart) in
      record {
        counted = f ∷ g.counted;
        split = split_at before f last;
        made = counted ∙ ap (λ (t : TablesValue). one_more t f) g.made ∙ added-tables (facts_at g.counted) empty f here.0;
      }

-- in the end all are
pub gathered : {all left : List Fact} {shown : TablesValue} → IsGathering all left shown → length left ≡ 0 → shown ≡ tables_of (facts_at all) empty
gathered {all} {left} g none =
    g.made ∙ ap (λ (fs : List Fact). tables_of (facts_at fs) empty)
    (sym (g.split ∙ ap (λ (fs : List Fact). fs ++ g.counted) (nil_from_length left none)))
