-- Chunks that are sealed, shared and looked into.
use Rattle.std.proofs.Common.{◌≡◌, ℕ, zero, suc, ◌+◌, ◌-◌, ◌*◌, ◌<◌, ◌≤◌, List, [], ◌∷◌, ◌++◌, ◌⊎◌, inl, inr, Option, Some, None, MatchOption, Bor, length, take, get_or, refl, sym, ◌∙◌, ap, subst, arith, append_assoc, append-nil, length-append}
use Rattle.std.specs.List.{slice_get}
use Rattle.std.specs.Arc.{arc_value}
use Rattle.std.specs.declared.sync.Arc.{Arc}
use Rattle.std.proofs.lemmas.List.{take_more}
use Rattle.std.specs.Slice.{IsItemAt}
use Rattle.std.proofs.lemmas.Option.{slice_get_within, slice_get_past, slice_get_read, slice_get_cases}
use Rattle.smq_desk.specs.declared.entry.Entry.{Entry}
use Rattle.smq_desk.specs.within.Chunks.{joined, AreFull, AreShared, Seals}

module _ {Z : Type 0} where
  joined-snoc : (cs : List (Arc (List Entry) Z)) (c : Arc (List Entry) Z) → joined (cs ++ c ∷ []) ≡ joined cs ++ arc_value c
  joined-snoc [] c = append-nil (arc_value c)
  joined-snoc (d ∷ cs) c = ap (λ (es : List Entry). arc_value d ++ es) (joined-snoc cs c) ∙ sym (append_assoc (arc_value d) (joined cs) (arc_value c))

  full-snoc : (cs : List (Arc (List Entry) Z)) (c : Arc (List Entry) Z) → AreFull cs → length (arc_value c) ≡ 1024 → AreFull (cs ++ c ∷ [])
  full-snoc [] c h e = (e, tt)
  full-snoc (d ∷ cs) c h e = (h.0, full-snoc cs c h.1 e)

  -- as many entries as a chunk has become one
  pub seals : (old new : List (Arc (List Entry) Z)) (c : Arc (List Entry) Z) (entries : List Entry) → new ≡ old ++ c ∷ [] → arc_value c ≡ entries → length entries ≡ 1024 → Seals old new entries
  seals old new c entries more is long = record {
    full = λ h. rw more (full-snoc old c h (ap length is ∙ long));
    all = rw more (joined-snoc old c ∙ ap (λ (es : List Entry). joined old ++ es) is);
  }

  shared-snoc : (cs ds : List (Arc (List Entry) Z)) (c d : Arc (List Entry) Z) → AreShared cs ds → arc_value d ≡ arc_value c → AreShared (cs ++ c ∷ []) (ds ++ d ∷ [])
  shared-snoc [] [] c d h e = (e, tt)
  shared-snoc [] (y ∷ ds) c d h e = elim h [ ]
  shared-snoc (x ∷ cs) [] c d h e = elim h [ ]
  shared-snoc (x ∷ cs) (y ∷ ds) c d h e = (h.0, shared-snoc cs ds c d h.1 e)

  -- one owner more
  pub shares : (chunks shared new : List (Arc (List Entry) Z)) (i : ℕ) (c d : Arc (List Entry) Z) → i < length chunks → c ≡ get_or chunks i c → arc_value d ≡ arc_value c → new ≡ shared ++ d ∷ []
      → AreShared (take i chunks) shared → AreShared (take (i + 1) chunks) new
  shares chunks shared new i c d lt at is more h =
      rw (take_more chunks i c lt, more) (subst (λ (x : Arc (List Entry) Z). AreShared (take i chunks ++ x ∷ []) (shared ++ d ∷ [])) at (shared-snoc (take i chunks) shared c d h is))

  pub shared_joined : (cs ds : List (Arc (List Entry) Z)) → AreShared cs ds → joined ds ≡ joined cs
  shared_joined [] [] h = refl
  shared_joined [] (y ∷ ds) h = elim h [ ]
  shared_joined (x ∷ cs) [] h = elim h [ ]
  shared_joined (x ∷ cs) (y ∷ ds) h = ap (λ (es : List Entry). es ++ joined ds) h.0 ∙ ap (λ (es : List Entry). arc_value x ++ es) (shared_joined cs ds h.1)

  pub shared_full : (cs ds : List (Arc (List Entry) Z)) → AreShared cs ds → AreFull cs → AreFull ds
  shared_full [] [] h f = f
  shared_full [] (y ∷ ds) h f = elim h [ ]
  shared_full (x ∷ cs) [] h f = elim h [ ]
  shared_full (x ∷ cs) (y ∷ ds) h f = (ap length h.0 ∙ f.0, shared_full cs ds h.1 f.1)

  -- how many entries chunks have
  pub joined-long : (cs : List (Arc (List Entry) Z)) → AreFull cs → length (joined cs) ≡ 1024 * length cs
  joined-long [] f = refl
  joined-long (c ∷ cs) f =
      let rest = joined-long cs f.1 in
      let all = length-append (arc_value c) (joined cs) in
      let one = f.0 in
      omega arith

at_front : {X : Type 0} (xs ys : List X) (i : ℕ) → i < length xs → slice_get (xs ++ ys) i ≡ slice_get xs i
at_front [] ys i lt = absurd (omega arith)
at_front (x ∷ xs) ys zero lt = refl
at_front (x ∷ xs) ys (suc i) lt = at_front xs ys i (omega arith)

at_back : {X : Type 0} (xs ys : List X) (k i : ℕ) → k ≡ length xs + i → slice_get (xs ++ ys) k ≡ slice_get ys i
at_back {X} [] ys k i e = let none : length {A = X} [] ≡ 0 = refl in ap (slice_get ys) (omega arith)
at_back (x ∷ xs) ys zero i e = absurd (omega arith)
at_back (x ∷ xs) ys (suc k) i e = at_back xs ys k i (omega arith)

module _ {Z : Type 0} where
  -- an entry of a chunk
  pub in_chunk : (cs : List (Arc (List Entry) Z)) (rest : List Entry) (k r n : ℕ) (c : Arc (List Entry) Z) → AreFull cs → slice_get cs k ≡ Some c → r < 1024 → n ≡ 1024 * k + r
      → slice_get (joined cs ++ rest) n ≡ slice_get (arc_value c) r
  in_chunk [] rest k r n c full at lt is = absurd cc
  in_chunk (d ∷ cs) rest zero r n c full at lt is =
      let one = full.0 in
      let same : d ≡ c = cc in
      let here : n ≡ r = omega arith in
      ap (λ (es : List Entry). slice_get es n) (append_assoc (arc_value d) (joined cs) rest)
      ∙ at_front (arc_value d) (joined cs ++ rest) n (omega arith)
      ∙ ap (slice_get (arc_value d)) here
      ∙ ap (λ (x : Arc (List Entry) Z). slice_get (arc_value x) r) same
  in_chunk (d ∷ cs) rest (suc k) r n c full at lt is =
      let one = full.0 in
      ap (λ (es : List Entry). slice_get es n) (append_assoc (arc_value d) (joined cs) rest)
      ∙ at_back (arc_value d) (joined cs ++ rest) n (1024 * k + r) (omega arith)
      ∙ in_chunk cs rest k r (1024 * k + r) c full.1 at lt refl

  -- an entry after the chunks
  pub after_chunks : (cs : List (Arc (List Entry) Z)) (rest : List Entry) (n i : ℕ) → AreFull cs → n ≡ 1024 * length cs + i → slice_get (joined cs ++ rest) n ≡ slice_get rest i
  after_chunks cs rest n i full is = let long = joined-long cs full in at_back (joined cs) rest n i (omega arith)

  -- the length of a history
  pub all_long : (cs : List (Arc (List Entry) Z)) (rest : List Entry) → AreFull cs → length (joined cs ++ rest) ≡ 1024 * length cs + length rest
  all_long cs rest full =
      let long = joined-long cs full in
      let all = length-append (joined cs) rest in
      omega arith

past_end : (es : List Entry) (n : ℕ) → slice_get es n ≡ None → length es ≤ n
past_end es n none = by (slice_get_cases es n).1
  where
    by : ((e : Entry) × (n < length es) × (slice_get es n ≡ Some e) × (get_or es n e ≡ e)) ⊎ ((length es ≤ n) × (slice_get es n ≡ None)) → length es ≤ n
    by (inl h) = absurd cc
    by (inr h) = h.0

-- the entry of a number is that at a place of a part
pub found : (all part : List Entry) (number n r : ℕ) (o : Option (Bor Entry)) → number ≡ n + 1 → slice_get all n ≡ slice_get part r → IsItemAt part r o
    → MatchOption o ((number ≡ 0) ⊎ (length all < number)) (λ e. (0 < number) × (number ≤ length all) × (slice_get all (number - 1) ≡ Some e.now))
found all part number n r None is same item =
    let end : length all ≤ n = past_end all n (same ∙ slice_get_past part r item.3) in
    inr (omega arith)
found all part number n r (Some e) is same item =
    let here : slice_get all n ≡ Some e.now = same ∙ slice_get_read part (length part) r e.now refl item.3.0 item.1 in
    let within = slice_get_within all n e.now here in
    let place : n ≡ number - 1 = omega arith in
    (omega arith, omega arith, subst (λ (k : ℕ). slice_get all k ≡ Some e.now) place here)
