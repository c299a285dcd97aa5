-- Counts that an ordered map keeps by tuples are those that the definitions give.
use Rattle.std.proofs.Common.{◌≡◌, ℕ, ◌+◌, ◌≤◌, Bool, true, false, cond, ◌||◌, zero-add, List, [], ◌∷◌, ◌++◌, length, Option, Some, refl, rules, sym, ap, ◌∙◌, arith}
use Rattle.std.proofs.lemmas.List.{append-nil, length-map, map-append, nil_from_length}
use Rattle.std.proofs.lemmas.List.Elements.{filter-append}
use Rattle.std.proofs.lemmas.List.Sums.{count_by-le-length, length-filter, sum_by-append}
use Rattle.std.specs.Prelude.{map, count_by, unwrap_or}
use Rattle.std.specs.List.{filter, flat_map}
use Rattle.std.specs.declared.cmp.Ordering.{Ordering}
use Rattle.std.specs.declared.cmp.Ordering.TheVariants.{Less, Equal, Greater}
use Rattle.std.specs.Ordering.{eq_by_cmp, is_eq, match_ordering}
use Rattle.std.specs.Cmp.{IsTotalOrder}
use Rattle.std.specs.BTreeMap.{insert_entry, is_at}
use Rattle.std.specs.Map.{lookup}
use Rattle.std.specs.FinMap.{FinMap, IsAntisymmetric, empty, entries, entries-insert, find, get, get-entries, len-entries, len-empty, from_entries, insert, put}
use Rattle.std.specs.FinMap.Entries.{by_order}
use Rattle.std.specs.Bool.{Decides}
use Rattle.std.specs.FinMap.{slice_cmp-IsAntisymmetric}
use Rattle.std.proofs.lemmas.Cmp.{lists_total}
use Rattle.smq_kit.specs.Maps.{positive}
use Rattle.smq_count.specs.declared.cell.Cell.{Cell}
use Rattle.smq_count.specs.contracts.cell.CellOrd.TheImpl.Laws as cell_laws
use Rattle.smq_count.specs.contracts.cell.CellPartialEq.TheImpl as cell_eq
use Rattle.smq_count.specs.Cells.{cell_cmp, tuple_cmp}
use Rattle.smq_kit.proofs.Counted as counted

-- ---- a map by values that lie in memory, seen without where they lie

abbrev pub seen : {V K X : Type 0} → (V → K) → List (V × X) → List (K × X)
seen f es = map (λ e. (f e.0, e.1)) es

placed : {V K X : Type 0} (f : V → K) (o : Ordering) (k : V) (x : X) (e : V × X) (es more : List (V × X)) (rest : List (K × X)) → seen f more ≡ rest
    → seen f (match_ordering o ((k, x) ∷ e ∷ es) ((e.0, x) ∷ es) (e ∷ more)) ≡ by_order o ((f k, x) ∷ seen f (e ∷ es)) ((f e.0, x) ∷ seen f es) ((f e.0, e.1) ∷ rest)
placed f Less k x e es more rest h = refl
placed f Equal k x e es more rest h = refl
placed {K = K} {X = X} f Greater k x e es more rest h = ap (λ (r : List (K × X)). (f e.0, e.1) ∷ r) h

module _ {V K X : Type 0} (f : V → K) (C : V → V → Ordering) (R : K → K → Ordering) (agree : (a b : V) → C a b ≡ R (f a) (f b)) where
  pub seen-insert : (es : List (V × X)) (k : V) (x : X) → seen f (insert_entry C es k x) ≡ put R (f k) x (seen f es)
  seen-insert [] k x = refl
  seen-insert (e ∷ es) k x = rw (agree k e.0) (placed f (R (f k) (f e.0)) k x e es _ _ (seen-insert es k x))

  pub seen-find : (es : List (V × X)) (k : V) → lookup (is_at (C k)) es ≡ find R (f k) (seen f es)
  seen-find [] k = refl
  seen-find (e ∷ es) k = (λ i. cond (is_eq (agree k e.0 i)) (Some e.1) (seen-find es k i))

-- ---- counts of tuples

or_false : (b : Bool) → (b || false) ≡ b
or_false true = refl
or_false false = refl

module _ {K : Type 0} {R : K → K → Ordering} (o : IsTotalOrder R) (exact : IsAntisymmetric R) where
  abbrev pub among : List K → K → ℕ
  among ks k = count_by (eq_by_cmp R k) ks

  abbrev pub counts : List K → FinMap R ℕ
  counts ks = from_entries (map (λ k. (k, among ks k)) ks)

  abbrev itself : K → List K
  itself k = k ∷ []

  singles : (ks : List K) → flat_map itself ks ≡ ks
  singles [] = refl
  singles (k ∷ ks) = ap (λ (r : List K). k ∷ r) (singles ks)

  counts-counted : (ks : List K) → counted.counted o exact itself ks ≡ counts ks
  counts-counted ks = λ i. from_entries (map (λ k. (k, count_by (λ x. or_false (eq_by_cmp R k x) i) ks)) (singles ks i))

  has-counts : (ks : List K) → counted.Has o exact itself (counts ks) (λ q. among ks q)
  has-counts ks = record {
    at = λ q.
        (λ i. get (sym (counts-counted ks) i) q)
        ∙ counted.get-counted o exact itself ks q
        ∙ (λ i. positive (count_by (λ x. or_false (eq_by_cmp R q x) i) ks));
  }

  pub get-counts : (ks : List K) (k : K) → get (counts ks) k ≡ positive (among ks k)
  get-counts ks k = (has-counts ks).at k

  -- what is read off the map is a number, and no more than all
  pub read_number : (ks : List K) (k : K) → unwrap_or (find R k (entries (counts ks))) 0 ≡ among ks k
  read_number ks k = ap (λ (c : Option ℕ). unwrap_or c 0) (sym (get-entries (counts ks) k)) ∙ counted.has-count o exact itself (counts ks) (λ q. among ks q) (has-counts ks) k

  -- one more of a tuple is put in where it stands
  pub counts-more : (ks : List K) (k : K) → put R k (among ks k + 1) (entries (counts ks)) ≡ entries (counts (ks ++ k ∷ []))
  counts-more ks k =
      let m = counts ks in
      let number = counted.has-count o exact itself m (λ q. among ks q) (has-counts ks) k in
      let more = counted.has-more o exact itself m (λ q. among ks q) k (has-counts ks) in
      let same = counted.has-same o exact itself _ _ (λ q. among (ks ++ k ∷ []) q) more (λ q.
      ap (λ (n : ℕ). among ks q + n) (sym (zero-add (cond (eq_by_cmp R q k) 1 0))) ∙ sym (sum_by-append (λ x. cond (eq_by_cmp R q x) 1 0) ks (k ∷ []))) in
      sym (entries-insert o m k (among ks k + 1)) ∙ ap entries ((λ i. insert m k (sym number i + 1)) ∙ counted.has-one o exact itself _ _ _ same (has-counts (ks ++ k ∷ [])))

  -- at first there is none
  pub counts-none : entries (counts []) ≡ []
  counts-none = nil_from_length (entries (empty {X = ℕ} {R = R})) (sym (len-entries (empty {X = ℕ} {R = R})) ∙ len-empty R ℕ)

  pub among-most : (ks : List K) (k : K) → among ks k ≤ length ks
  among-most ks k = count_by-le-length (eq_by_cmp R k) ks

-- ---- counts of what is counted

module _ {A K : Type 0} {R : K → K → Ordering} (o : IsTotalOrder R) (exact : IsAntisymmetric R) (is_counted : A → Bool) (key : A → K) where
  -- the keys of what is counted
  abbrev pub keys : List A → List K
  keys xs = map key (filter is_counted xs)

  keys-more : (xs : List A) (x : A) → is_counted x ≡ true → keys (xs ++ x ∷ []) ≡ keys xs ++ key x ∷ []
  keys-more xs x e =
      ap (map key) (filter-append is_counted xs (x ∷ []) ∙ (λ i. filter is_counted xs ++ cond (e i) (x ∷ []) []))
      ∙ map-append key (filter is_counted xs) (x ∷ [])

  keys-same : (xs : List A) (x : A) → is_counted x ≡ false → keys (xs ++ x ∷ []) ≡ keys xs
  keys-same xs x e =
      ap (map key) (filter-append is_counted xs (x ∷ []) ∙ (λ i. filter is_counted xs ++ cond (e i) (x ∷ []) []) ∙ append-nil (filter is_counted xs))

  -- one more that is counted is put in where it stands
  pub put-counted : (xs : List A) (x : A) (k : K) → is_counted x ≡ true → k ≡ key x
      → put R k (among o exact (keys xs) k + 1) (entries (counts o exact (keys xs))) ≡ entries (counts o exact (keys (xs ++ x ∷ [])))
  put-counted xs x k e same =
      counts-more o exact (keys xs) k ∙ ap (λ (q : K). entries (counts o exact (keys xs ++ q ∷ []))) same
      ∙ ap (λ (ks : List K). entries (counts o exact ks)) (sym (keys-more xs x e))

  -- one that isn't counted changes nothing
  pub same-counted : (xs : List A) (x : A) → is_counted x ≡ false → entries (counts o exact (keys xs)) ≡ entries (counts o exact (keys (xs ++ x ∷ [])))
  same-counted xs x e = ap (λ (ks : List K). entries (counts o exact ks)) (sym (keys-same xs x e))

  pub keys-most : (xs : List A) (k : K) → among o exact (keys xs) k ≤ length xs
  keys-most xs k = omega (arith, among-most o exact (keys xs) k, length-map (filter is_counted xs) key, length-filter is_counted xs, count_by-le-length is_counted xs)

-- ---- counts by tuples

cells : (a b : Cell) → Decides (cell_eq.ghosts.eq a b) (a ≡ b)
cells a b = search rules

cells_exact : IsAntisymmetric cell_cmp
cells_exact a b e = (cells a b).0 (cell_laws.matches_eq-law a b ∙ ap is_eq e)

pub tuples_exact : IsAntisymmetric tuple_cmp
tuples_exact = slice_cmp-IsAntisymmetric cells_exact

pub tuples_total : IsTotalOrder tuple_cmp
tuples_total = lists_total cell_laws.total-law
