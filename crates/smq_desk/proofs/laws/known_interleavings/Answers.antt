use Rattle.std.proofs.Common.{◌≡◌, ◌==◌, ℕ, Bool, true, false, cond, List, [], ◌∷◌, refl, sym, ap, ◌∙◌, arith}
use Rattle.std.proofs.lemmas.Bool.{eqb-true}
use Rattle.smq_kit.specs.declared.names.SessionId.{SessionId}
use Rattle.smq_present.specs.declared.present.edit.Edit.{Edit}
use Rattle.smq_present.specs.declared.present.edit.Edit.TheVariants.{Append}
use Rattle.smq_desk.specs.KnownLoads.{first_call, second_call}
use Rattle.smq_desk.proofs.laws.known_interleavings.Goals as goal

either_way : (u v : Bool) (a b : Edit) → (u ≡ true → v ≡ true → ⊥)
    → cond u (a ∷ cond v (b ∷ []) []) (cond v (b ∷ []) []) ≡ cond v (b ∷ cond u (a ∷ []) []) (cond u (a ∷ []) [])
either_way true true a b h = absurd (h refl refl)
either_way true false a b h = refl
either_way false true a b h = refl
either_way false false a b h = refl

not_both : (s : SessionId) → (10 == s.0) ≡ true → (20 == s.0) ≡ true → ⊥
not_both s a b = let same : 10 ≡ 20 = eqb-true 10 s.0 a ∙ sym (eqb-true 20 s.0 b) in omega (arith, same)

first_moment : List Edit → ℕ
first_moment (Append batch ∷ edits) = batch.moment
first_moment edits = 0

pub returns : goal.returns
unfolding first_moment
returns c = record {
  others = record {
    sessions = λ s. either_way (10 == s.0) (20 == s.0) first_call.edit second_call.edit (not_both s);
    settings = refl;
  };
  one_session = λ h. let e : 1000 ≡ 999 = ap first_moment (h.sessions (record { 0 = 10 })) in omega (arith, e);
  withdrawal = λ h. let e = h.sessions (record { 0 = 10 }) in absurd cc;
  clock = λ h. let e = h.settings in absurd cc;
}
