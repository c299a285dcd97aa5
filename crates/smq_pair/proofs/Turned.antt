-- The turns of PDUs, and the index of the PDU of a turn, with one PDU more.
use Rattle.std.proofs.Common.{◌≡◌, ◌≢◌, ℕ, Bool, true, false, cond, List, [], ◌∷◌, ◌++◌, length, take, Option, Some, None, refl, sym, ap, ◌∙◌, subst, arith}
use Rattle.std.specs.Prelude.{◌==◌, ◌&&◌, not, count_by, option_map, slice_get}
use Rattle.std.proofs.lemmas.Bool.{and_from, and_parts, eq-eqb, eqb-true}
use Rattle.std.proofs.lemmas.List.{map-append, length-map, take-append-le, take_at}
use Rattle.std.proofs.lemmas.Option.{slice_get_within}
use Rattle.smq_kit.specs.declared.place.Dir.{Dir}
use Rattle.smq_kit.specs.declared.place.Dir.TheVariants.{FromClient, FromCentre}
use Rattle.smq_pdu.specs.Header.{Header}
use Rattle.smq_pdu.specs.Pairing.{is_request, is_response, nth_index}
use Rattle.smq_pdu.proofs.Pairs.{stands, found}
use Rattle.smq_pair.specs.declared.paired_pdu.Role.{Role}
use Rattle.smq_pair.specs.declared.paired_pdu.Role.TheVariants.{Request, Response}
use Rattle.smq_pair.specs.declared.paired_pdu.Series.{Series}
use Rattle.smq_pair.specs.within.Turns.{Turn}
use Rattle.smq_pair.specs.Pairing.{PlacedHeader, PairingValue, pdus_from, opposite, headers}
use Rattle.smq_pair.specs.Growth.{pushed, pushed_in}
use Rattle.smq_pair.specs.within.Turns.{other_side, is_of, headers_from, count_in, index_at, partner, side_of, series_of, turn_after, turn_of}
use Rattle.smq_pair.proofs.Lists.{one_of, place-last, place-none, some-is}

-- ---- directions and sides

pub opposite-back : (d : Dir) → opposite (opposite d) ≡ d
opposite-back FromClient = refl
opposite-back FromCentre = refl

pub other_side-back : (s : Role) → other_side (other_side s) ≡ s
other_side-back Request = refl
other_side-back Response = refl

pub partner-back : (t : Turn) → partner (partner t) ≡ t
partner-back t = λ i. record {
  series = record { dir = opposite-back t.series.dir i; side = other_side-back t.series.side i; seq = t.series.seq };
  rank = t.rank;
}

pub opposite-apart : (d : Dir) → opposite d ≢ d
opposite-apart FromClient e = absurd cc
opposite-apart FromCentre e = absurd cc

pub partner-apart : (t : Turn) → partner t ≢ t
partner-apart t e = opposite-apart t.series.dir (ap (λ (u : Turn). u.series.dir) e)

pub by_dir : {A : Type 0} (d e : Dir) → (d ≡ e → A) → (d ≢ e → A) → A
by_dir FromClient FromClient f g = f refl
by_dir FromCentre FromCentre f g = f refl
by_dir _ _ f g = g (λ e. absurd cc)

pub pushed-apart : (d e : Dir) (v : PairingValue) (p : PlacedHeader) → d ≢ e → pdus_from d (pushed_in e v p) ≡ pdus_from d v
pushed-apart FromClient FromClient v p h = absurd (h refl)
pushed-apart FromCentre FromCentre v p h = absurd (h refl)
pushed-apart _ _ v p h = refl

pub pushed-same : (d : Dir) (v : PairingValue) (p : PlacedHeader) → pdus_from d (pushed_in d v p) ≡ pdus_from d v ++ p ∷ []
pushed-same FromClient v p = refl
pushed-same FromCentre v p = refl

pub pushed-by : (d : Dir) (v : PairingValue) (p : PlacedHeader) → d ≡ p.place.dir → pdus_from d (pushed v p) ≡ pdus_from d v ++ p ∷ []
pushed-by d v p e = subst (λ (d : Dir). pdus_from d (pushed v p) ≡ pdus_from d v ++ p ∷ []) (sym e) (pushed-same p.place.dir v p)

pub headers-by : (d : Dir) (v : PairingValue) (p : PlacedHeader) → d ≡ p.place.dir → headers_from d (pushed v p) ≡ headers_from d v ++ p.header ∷ []
headers-by d v p e = ap headers (pushed-by d v p e) ∙ map-append (λ (x : PlacedHeader). x.header) (pdus_from d v) (p ∷ [])

-- ---- tests, as lemmas of smq_book name them

pub and_first : (a b : Bool) → (a && b) ≡ true → a ≡ true
and_first a b e = (and_parts a b e).0

pub and_second : (a b : Bool) → (a && b) ≡ true → b ≡ true
and_second a b e = (and_parts a b e).1

pub and_both : (a b : Bool) → a ≡ true → b ≡ true → (a && b) ≡ true
and_both = and_from

pub equal_is : (m n : ℕ) → (m == n) ≡ true → m ≡ n
equal_is = eqb-true

-- ---- the series of a header

-- a response is no request
pub not-request : (h : Header) → is_response h ≡ true → is_request h ≡ false
not-request h e = ap (λ b. (not b && not (h.command == 0x0000_000b)) && not (h.command == 0x0000_0102)) e

series_by : (d : Dir) (h : Header) (side : Role) → side_of h ≡ Some side → (seq : ℕ) → h.seq ≡ seq
    → series_of d h ≡ Some (record { dir = d; side = side; seq = seq })
series_by d h side e seq s = ap (option_map (λ side. record { dir = d; side = side; seq = h.seq })) e
    ∙ ap (λ n. Some (record { dir = d; side = side; seq = n })) s

pub side-request : (h : Header) → is_request h ≡ true → side_of h ≡ Some Request
side-request h e = ap (λ b. cond b (Some Request) (cond (is_response h) (Some Response) None)) e

pub side-response : (h : Header) → is_response h ≡ true → side_of h ≡ Some Response
side-response h e =
    ap (λ b. cond b (Some Request) (cond (is_response h) (Some Response) None)) (not-request h e)
    ∙ ap (λ b. cond b (Some Response) None) e

-- a header of a side and a sequence number is of that series
pub series-of : (d : Dir) (side : Role) (seq : ℕ) (h : Header) → is_of side seq h ≡ true
    → series_of d h ≡ Some (record { dir = d; side = side; seq = seq })
series-of d Request seq h e =
    let both = and_parts (is_request h) (h.seq == seq) e in series_by d h Request (side-request h both.0) seq (eqb-true h.seq seq both.1)
series-of d Response seq h e =
    let both = and_parts (is_response h) (h.seq == seq) e in series_by d h Response (side-response h both.0) seq (eqb-true h.seq seq both.1)

-- The other way round: a series is that of a header.
pub record IsOfSeries (d : Dir) (h : Header) (s : Series) : Type 0 where
  pub dir : s.dir ≡ d
  pub passes : is_of s.side s.seq h ≡ true

sided : (d : Dir) (h : Header) (a b : Bool) → is_request h ≡ a → is_response h ≡ b → (s : Series)
    → option_map (λ side. record { dir = d; side = side; seq = h.seq }) (cond a (Some Request) (cond b (Some Response) None))
    ≡ Some s → IsOfSeries d h s
sided d h true b e f s is = subst (IsOfSeries d h) (some-is _ s is) (record { dir = refl; passes = and_from _ _ e (eq-eqb _ _ refl) })
sided d h false true e f s is = subst (IsOfSeries d h) (some-is _ s is) (record { dir = refl; passes = and_from _ _ f (eq-eqb _ _ refl) })
sided d h false false e f s is = absurd cc

pub series-has : (d : Dir) (h : Header) (s : Series) → series_of d h ≡ Some s → IsOfSeries d h s
series-has d h s e = sided d h (is_request h) (is_response h) refl refl s e

pub turn_parts : (earlier : List Header) (o : Option Series) (t : Turn) → option_map (turn_after earlier) o ≡ Some t
    → (o ≡ Some t.series) × (t.rank ≡ count_by (is_of t.series.side t.series.seq) earlier)
turn_parts earlier None t e = absurd cc
turn_parts earlier (Some s) t e =
    let same : turn_after earlier s ≡ t = some-is _ t e in
    (ap (λ (x : Turn). Some x.series) same, subst (λ (x : Turn). x.rank ≡ count_by (is_of x.series.side x.series.seq) earlier) same refl)

-- ---- the PDU of a turn

-- the PDU at an index is the one of its turn
pub turn-found : (v : PairingValue) (d : Dir) (i : ℕ) (h : Header) (t : Turn) → slice_get (headers_from d v) i ≡ Some h
    → turn_of v d i h ≡ Some t → (t.series.dir ≡ d) × (index_at v t ≡ Some i)
turn-found v d i h t at e =
    let parts = turn_parts (take i (headers_from d v)) (series_of d h) t e in
    let has = series-has d h t.series parts.0 in (
      has.dir,
      ap (λ n. nth_index (is_of t.series.side t.series.seq) (headers_from t.series.dir v) n) parts.1
          ∙ ap (λ (d' : Dir). nth_index (is_of t.series.side t.series.seq) (headers_from d' v)
          (count_by (is_of t.series.side t.series.seq) (take i (headers_from d v)))) has.dir
          ∙ found (is_of t.series.side t.series.seq) (headers_from d v) i h at has.passes,
    )

-- The PDU of a turn stands at its index.
pub record StandsAt (v : PairingValue) (t : Turn) (i : ℕ) : Type 0 where
  pub header : Header
  pub at : slice_get (headers_from t.series.dir v) i ≡ Some header
  pub turn : turn_of v t.series.dir i header ≡ Some t
  pub passes : is_of t.series.side t.series.seq header ≡ true

pub turn-stands : (v : PairingValue) (t : Turn) (i : ℕ) → index_at v t ≡ Some i → StandsAt v t i
turn-stands v t i e =
    let s = stands (is_of t.series.side t.series.seq) (headers_from t.series.dir v) t.rank i e in
    record {
      header = s.element;
      at = s.there;
      turn =
          ap (option_map (turn_after (take i (headers_from t.series.dir v)))) (series-of t.series.dir t.series.side t.series.seq s.element s.passes)
          ∙ ap (λ n. Some (record { series = t.series; rank = n })) s.before;
      passes = s.passes;
    }

-- and a PDU at the index of a turn has that turn
pub turn-there : (v : PairingValue) (t : Turn) (d : Dir) (i : ℕ) (h : Header) → t.series.dir ≡ d → index_at v t ≡ Some i
    → slice_get (headers_from d v) i ≡ Some h → turn_of v d i h ≡ Some t
turn-there v t d i h dir at there =
    let s = turn-stands v t i at in
    let same : s.header ≡ h = one_of (slice_get (headers_from d v) i) s.header h (ap (λ (e : Dir). slice_get (headers_from e v) i) (sym dir) ∙ s.at) there in
    (λ i'. turn_of v (sym dir i') i (sym same i')) ∙ s.turn

-- ---- one PDU more

module _ (v : PairingValue) (p : PlacedHeader) where
  -- its turn
  abbrev pub next_turn : Option Turn
  next_turn = option_map (turn_after (headers_from p.place.dir v)) (series_of p.place.dir p.header)

  -- where there is one more in a direction, the index of a turn is as before or is the new one's
  index_by : (t : Turn) → t.series.dir ≡ p.place.dir
      → index_at (pushed v p) t ≡ cond (is_of t.series.side t.series.seq p.header && t.rank == count_in v t.series)
      (Some (length (headers_from t.series.dir v))) (index_at v t)
  index_by t e =
      ap (λ hs. nth_index (is_of t.series.side t.series.seq) hs t.rank) (headers-by t.series.dir v p e)
      ∙ place-last (is_of t.series.side t.series.seq) (headers_from t.series.dir v) p.header t.rank

  next_parts : (t : Turn) → next_turn ≡ Some t → IsOfSeries p.place.dir p.header t.series × (t.rank ≡ count_in v t.series)
  next_parts t e =
      let parts = turn_parts (headers_from p.place.dir v) (series_of p.place.dir p.header) t e in
      let has = series-has p.place.dir p.header t.series parts.0 in
      (has, parts.1 ∙ ap (λ (d : Dir). count_by (is_of t.series.side t.series.seq) (headers_from d v)) (sym has.dir))

  pub next-dir : (t : Turn) → next_turn ≡ Some t → t.series.dir ≡ p.place.dir
  next-dir t e = (next_parts t e).0.dir

  pub next-rank : (t : Turn) → next_turn ≡ Some t → t.rank ≡ count_in v t.series
  next-rank t e = (next_parts t e).1

  -- nothing had its turn before
  pub index-free : (t : Turn) → next_turn ≡ Some t → index_at v t ≡ None
  index-free t e =
      ap (λ n. nth_index (is_of t.series.side t.series.seq) (headers_from t.series.dir v) n) (next-rank t e)
      ∙ place-none (is_of t.series.side t.series.seq) (headers_from t.series.dir v)

  -- it is the last of its direction
  pub index-next : (t : Turn) → next_turn ≡ Some t → index_at (pushed v p) t ≡ Some (length (pdus_from p.place.dir v))
  index-next t e =
      let parts = next_parts t e in
      index_by t parts.0.dir
      ∙ ap (λ b. cond b (Some (length (headers_from t.series.dir v))) (index_at v t)) (and_from _ _ parts.0.passes (eq-eqb _ _ parts.1))
      ∙ ap (λ (d : Dir). Some (length (headers_from d v))) parts.0.dir
      ∙ ap Some (length-map (pdus_from p.place.dir v) (λ (x : PlacedHeader). x.header))

  -- no other turn is touched
  pub index-others : (u : Turn) → next_turn ≢ Some u → index_at (pushed v p) u ≡ index_at v u
  index-others u h = by_dir u.series.dir p.place.dir
      (λ same. index_by u same ∙ left same (is_of u.series.side u.series.seq p.header && u.rank == count_in v u.series) refl)
      (λ apart. ap (λ ps. nth_index (is_of u.series.side u.series.seq) (headers ps) u.rank) (pushed-apart u.series.dir p.place.dir v p apart))
    where
      left : u.series.dir ≡ p.place.dir → (b : Bool) → (is_of u.series.side u.series.seq p.header && u.rank == count_in v u.series) ≡ b
          → cond b (Some (length (headers_from u.series.dir v))) (index_at v u) ≡ index_at v u
      left same false e = refl
      left same true e =
          let both = and_parts (is_of u.series.side u.series.seq p.header) (u.rank == count_in v u.series) e in
          absurd (h (
          ap (option_map (turn_after (headers_from p.place.dir v))) (series-of p.place.dir u.series.side u.series.seq p.header both.0)
          ∙ (λ i. Some (record {
            series = record { dir = sym same i; side = u.series.side; seq = u.series.seq };
            rank = (ap (λ (d : Dir). count_by (is_of u.series.side u.series.seq) (headers_from d v)) (sym same)
                ∙ sym (eqb-true _ _ both.1)) i;
          }))))

  -- the turn of a PDU that was there stays
  pub turn-stays : (d : Dir) (i : ℕ) (h : Header) → slice_get (headers_from d v) i ≡ Some h → turn_of (pushed v p) d i h ≡ turn_of v d i h
  turn-stays d i h at = by_dir d p.place.dir
      (λ same. ap (λ hs. option_map (turn_after (take i hs)) (series_of d h)) (headers-by d v p same)
      ∙ ap (λ hs. option_map (turn_after hs) (series_of d h)) (take-append-le i (headers_from d v) (p.header ∷ [])
      (let within = slice_get_within (headers_from d v) i h at in omega (arith, within))))
      (λ apart. ap (λ ps. option_map (turn_after (take i (headers ps))) (series_of d h)) (pushed-apart d p.place.dir v p apart))

  -- and the new one has the next
  pub turn-last : turn_of (pushed v p) p.place.dir (length (pdus_from p.place.dir v)) p.header ≡ next_turn
  turn-last =
      let hs = headers_from p.place.dir v in
      ap (λ n. option_map (turn_after (take n (headers_from p.place.dir (pushed v p)))) (series_of p.place.dir p.header))
      (sym (length-map (pdus_from p.place.dir v) (λ (x : PlacedHeader). x.header)))
      ∙ ap (λ hs'. option_map (turn_after (take (length hs) hs')) (series_of p.place.dir p.header)) (headers-by p.place.dir v p refl)
      ∙ ap (λ hs'. option_map (turn_after hs') (series_of p.place.dir p.header)) (take_at hs (p.header ∷ []) (length hs) refl)
