-- Counts and what is found by turns, with one PDU more.
use Rattle.std.proofs.Common.{◌≡◌, ◌≢◌, ℕ, ◌+◌, Bool, true, false, cond, List, [], ◌∷◌, ◌++◌, length, Option, Some, None, refl, sym, ap, ◌∙◌, arith}
use Rattle.std.specs.Prelude.{count_by, option_and_then, slice_get}
use Rattle.std.proofs.lemmas.List.Sums.{sum_by_push}
use Rattle.smq_kit.specs.declared.place.Dir.{Dir}
use Rattle.smq_pdu.specs.Header.{Header}
use Rattle.smq_pair.specs.declared.paired_pdu.Series.{Series}
use Rattle.smq_pair.specs.within.Turns.{Turn}
use Rattle.smq_pair.specs.Pairing.{PlacedHeader, PairingValue, pdus_from, opposite, headers}
use Rattle.smq_pair.specs.Growth.{pushed}
use Rattle.smq_pair.specs.within.Turns.{is_of, headers_from, count_in, index_at, later, next_of, partner, series_of, turn_of, partner_of}
use Rattle.smq_pair.proofs.Lists.{none-beyond, some-is}
use Rattle.smq_pair.proofs.Turned
use Rattle.smq_pair.proofs.Turned.{by_dir, partner-back, partner-apart, pushed-apart, headers-by, series-of, turn-there, next_turn, next-dir, index-next, index-others, next-rank, turn_parts, turn-stays, turn-last}

-- ---- counts

pub count-last : {X : Type 0} (p : X → Bool) (xs : List X) (x : X) → count_by p (xs ++ x ∷ []) ≡ count_by p xs + cond (p x) 1 0
count-last p xs x = sum_by_push (λ y. cond (p y) 1 0) xs x

module _ (v : PairingValue) (p : PlacedHeader) where
  pub count_by_dir : (s : Series) → s.dir ≡ p.place.dir → count_in (pushed v p) s ≡ count_in v s + cond (is_of s.side s.seq p.header) 1 0
  count_by_dir s e = ap (count_by (is_of s.side s.seq)) (headers-by s.dir v p e) ∙ count-last (is_of s.side s.seq) (headers_from s.dir v) p.header

  pub count-next : (s : Series) → series_of p.place.dir p.header ≡ Some s → count_in (pushed v p) s ≡ count_in v s + 1
  count-next s e =
      let has = Turned.series-has p.place.dir p.header s e in
      count_by_dir s has.dir ∙ ap (λ b. count_in v s + cond b 1 0) has.passes

  pub count-others : (s : Series) → series_of p.place.dir p.header ≢ Some s → count_in (pushed v p) s ≡ count_in v s
  count-others s h = by_dir s.dir p.place.dir
      (λ same. count_by_dir s same ∙ left same (is_of s.side s.seq p.header) refl)
      (λ apart. ap (λ ps. count_by (is_of s.side s.seq) (headers ps)) (pushed-apart s.dir p.place.dir v p apart))
    where
      left : s.dir ≡ p.place.dir → (b : Bool) → is_of s.side s.seq p.header ≡ b → count_in v s + cond b 1 0 ≡ count_in v s
      left same true e = absurd (h (series-of p.place.dir s.side s.seq p.header e
          ∙ (λ i. Some (record { dir = sym same i; side = s.side; seq = s.seq }))))
      left same false e = omega arith

  -- ---- partners

  -- what is found by the turn of what was there stays, where it isn't the new one
  pub found-stays : (f : Turn → Turn) (d : Dir) (i : ℕ) (h : Header) → slice_get (headers_from d v) i ≡ Some h
      → ((u : Turn) → turn_of v d i h ≡ Some u → next_turn v p ≢ Some (f u))
      → option_and_then (λ t. index_at (pushed v p) (f t)) (turn_of (pushed v p) d i h) ≡ option_and_then (λ t. index_at v (f t)) (turn_of v d i h)
  found-stays f d i h at apart =
      ap (option_and_then (λ t. index_at (pushed v p) (f t))) (turn-stays v p d i h at)
      ∙ by_turn (turn_of v d i h) apart
    where
      by_turn : (o : Option Turn) → ((u : Turn) → o ≡ Some u → next_turn v p ≢ Some (f u))
          → option_and_then (λ t. index_at (pushed v p) (f t)) o ≡ option_and_then (λ t. index_at v (f t)) o
      by_turn None h = refl
      by_turn (Some u) h = index-others v p (f u) (h u refl)

  -- none comes after the new one
  pub later-none : (t : Turn) → next_turn v p ≡ Some t → next_of (pushed v p) p.place.dir (length (pdus_from p.place.dir v)) p.header ≡ None
  later-none t e =
      let s = t.series in
      let more = count-next s (turn_parts (headers_from p.place.dir v) (series_of p.place.dir p.header) t e).0 in
      let rank = next-rank v p t e in
      ap (option_and_then (λ t. index_at (pushed v p) (later t))) (turn-last v p ∙ e)
      ∙ none-beyond (is_of s.side s.seq) (headers_from s.dir (pushed v p)) (t.rank + 1) (omega (arith, more, rank))

  pub nothing-found : (f : Turn → Turn) → next_turn v p ≡ None
      → option_and_then (λ t. index_at (pushed v p) (f t)) (turn_of (pushed v p) p.place.dir (length (pdus_from p.place.dir v)) p.header) ≡ None
  nothing-found f e = ap (option_and_then (λ t. index_at (pushed v p) (f t))) (turn-last v p ∙ e)

  -- the new one's is the one of its partner's turn
  pub partner-next : (t : Turn) → next_turn v p ≡ Some t
      → partner_of (pushed v p) p.place.dir (length (pdus_from p.place.dir v)) p.header ≡ index_at v (partner t)
  partner-next t e =
      ap (option_and_then (λ t. index_at (pushed v p) (partner t))) (turn-last v p ∙ e)
      ∙ index-others v p (partner t) (λ same. partner-apart t (sym (some-is t (partner t) (sym e ∙ same))))

  -- and it is the partner of that one
  pub partner-linked : (t : Turn) (j : ℕ) (h : Header) → next_turn v p ≡ Some t → index_at v (partner t) ≡ Some j
      → slice_get (headers_from (opposite p.place.dir) v) j ≡ Some h
      → partner_of (pushed v p) (opposite p.place.dir) j h ≡ Some (length (pdus_from p.place.dir v))
  partner-linked t j h e at there =
      ap (option_and_then (λ t. index_at (pushed v p) (partner t))) (turn-stays v p (opposite p.place.dir) j h there
      ∙ turn-there v (partner t) (opposite p.place.dir) j h (ap opposite (next-dir v p t e)) at there)
      ∙ ap (index_at (pushed v p)) (partner-back t)
      ∙ index-next v p t e
