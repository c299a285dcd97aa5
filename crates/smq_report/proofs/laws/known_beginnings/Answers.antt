use Rattle.std.proofs.Common.{◌≡◌, ℕ, zero, suc, List, [], ◌∷◌, take, refl}
use Rattle.smq_report.proofs.laws.known_beginnings.Goals as goal

another : (count : ℕ) → ◌≡◌ {A = List ℕ} (7 ∷ 2 ∷ []) (7 ∷ take count (1 ∷ 2 ∷ [])) → ⊥
another zero is = absurd cc
another (suc count) is = absurd cc

more : (count : ℕ) → ◌≡◌ {A = List ℕ} (7 ∷ 1 ∷ 2 ∷ 3 ∷ []) (7 ∷ take count (1 ∷ 2 ∷ [])) → ⊥
more zero is = absurd cc
more (suc zero) is = absurd cc
more (suc (suc zero)) is = absurd cc
more (suc (suc (suc count))) is = absurd cc

lost : (count : ℕ) → ◌≡◌ {A = List ℕ} (1 ∷ []) (7 ∷ take count (1 ∷ 2 ∷ [])) → ⊥
lost count is = absurd cc

pub returns : goal.returns
returns c = record {
  nothing = (0, refl);
  first = (1, refl);
  all = (2, refl);
  another = λ (count, is). another count is;
  more = λ (count, is). more count is;
  lost = λ (count, is). lost count is;
}
