-- What the definitions give for known rows.
use Rattle.std.proofs.Common.{inl, inr, ◌≡◌, ℕ, zero, suc, ◌++◌, List, [], ◌∷◌, length, replicate, refl, sym, ap, ◌∙◌, arith, lit≤, lit<}
use Rattle.std.specs.Prelude.{Option, Some, None}
use Rattle.smq_capture.specs.declared.direction.Direction.{Direction}
use Rattle.smq_capture.specs.declared.direction.Following.{Following}
use Rattle.smq_capture.specs.KnownRows.{KnowsRows, five, two}
use Rattle.smq_capture.specs.Rows.{Row, Settles, SomeEndsIn}
use Rattle.smq_capture.specs.Sessions.{next_session, session_behind}

next-is : (d : Direction) (session : ℕ) (f : Option Following) → d.session ≡ session → d.following ≡ f
    → next_session d ≡ session_behind session f
next-is d session f e g =
    ap (λ (n : ℕ). session_behind n d.following) e ∙ ap (λ (x : Option Following). session_behind session x) g

settles : (d : Direction) → d.session ≡ 8 → d.following ≡ Some (record { session = 9; place = 12 })
    → Settles d (five (8 ∷ [])) (five (8 ∷ 8 ∷ 9 ∷ []))
settles d e f = record {
  one = 1;
  other = 1;
  after_is = ap (λ (n : ℕ). five (8 ∷ n ∷ 9 ∷ [])) (sym e)
      ∙ ap (λ (n : ℕ). five (8 ∷ d.session ∷ n ∷ [])) (sym (next-is d 8 (Some (record { session = 9; place = 12 })) e f));
}

-- octets of one session are of no other
none_of : (s t : ℕ) (n m : ℕ) → s ≡ 8 → t ≡ 8 → 9 ∷ [] ≡ replicate n s ++ replicate m t → ⊥
none_of s t zero zero e f h = cc
none_of s t zero (suc m) e f h = let g : 9 ≡ t = cc in omega (arith, g, f)
none_of s t (suc n) m e f h = let g : 9 ≡ s = cc in omega (arith, g, e)

no_end : SomeEndsIn 8 (two ∷ five (8 ∷ []) ∷ []) (two ∷ five (8 ∷ 8 ∷ 9 ∷ []) ∷ []) → ⊥
no_end (inl e) = omega (arith, e.0)
no_end (inr (inl e)) =
    let nine : ℕ = 9 in
    let eight : ℕ = 8 in
    let last : Some nine ≡ Some eight = e.1 in
    let same : nine ≡ eight = cc in omega (arith, same)
no_end (inr (inr h)) = h

ended : SomeEndsIn 8 (five (8 ∷ []) ∷ []) (five (8 ∷ []) ∷ []) → ⊥
ended (inl e) = omega (arith, e.0)
ended (inr h) = h

pub known_rows : KnowsRows
known_rows = record {
  client = refl;
  centre = refl;
  parts = record { octets = refl; sessions = refl; apart = (lit< tt, λ e. omega (arith, e), (lit< tt, tt, tt)) };
  once = λ p. p.apart.1 refl;
  no_more = λ p. let e = ap (λ (xs : List ℕ). length xs) p.octets in omega (arith, e);
  up_to = refl;
  too_few = λ e. omega (arith, e);
  too_many = λ e. omega (arith, e);
  already = refl;
  behind = refl;
  all = refl;
  not_all = λ e. omega (arith, e);
  before = lit≤ tt;
  not_before = λ e. omega (arith, e);
  ends = inr (inl (lit< tt, refl));
  no_end = no_end;
  ended = ended;
  weight = refl;
  settles = settles;
  no_other = λ d e f s.
      none_of d.session (next_session d) s.one s.other e (next-is d 8 None e f) (ap (λ (r : Row). r.sessions) s.after_is);
  stays = λ d s. let e = ap (λ (r : Row). r.sessions) s.after_is in absurd cc;
}
