use Rattle.std.proofs.Common.{◌≡◌, ◌∙◌, ℕ, [], ◌∷◌, ap, arith, inl, inr, refl, sym}
use Rattle.smq_report.specs.declared.pick.Section.TheVariants as section
use Rattle.smq_tally.specs.declared.view.View.TheVariants as v
use Rattle.smq_add.specs.declared.checks.Owner.{Owner}
use Rattle.smq_add.specs.declared.checks.Owner.TheVariants.{Link, Session}
use Rattle.smq_add.specs.Apart.{IsAmong}
use Rattle.smq_add.proofs.laws.known_apart.Goals as goal

abbrev link_in : Owner → ℕ
link_in (Link link) = link.0
link_in (Session session) = 0

apart : (owner : Owner) → Link (record { 0 = 1 }) ≡ owner → Link (record { 0 = 2 }) ≡ owner → ⊥
apart owner one other = let same : 1 ≡ 2 = ap link_in (one ∙ sym other) in omega (arith, same)

-- reports of one view, of two links
only : (owner : Owner) (one other : ℕ) → IsAmong {A = Owner × ℕ} (owner, one) ((Link (record { 0 = 1 }), 0) ∷ (Link (record { 0 = 2 }), 1) ∷ [])
    → IsAmong {A = Owner × ℕ} (owner, other) ((Link (record { 0 = 1 }), 0) ∷ (Link (record { 0 = 2 }), 1) ∷ []) → one ≡ other
only owner one other (inl a) (inl b) = sym (ap (λ (x : Owner × ℕ). x.1) a) ∙ ap (λ (x : Owner × ℕ). x.1) b
only owner one other (inl a) (inr (inl b)) =
    absurd (apart owner (ap (λ (x : Owner × ℕ). x.0) a) (ap (λ (x : Owner × ℕ). x.0) b))
only owner one other (inl a) (inr (inr b)) = absurd b
only owner one other (inr (inl a)) (inl b) =
    absurd (apart owner (ap (λ (x : Owner × ℕ). x.0) b) (ap (λ (x : Owner × ℕ). x.0) a))
only owner one other (inr (inl a)) (inr (inl b)) = sym (ap (λ (x : Owner × ℕ). x.1) a) ∙ ap (λ (x : Owner × ℕ). x.1) b
only owner one other (inr (inl a)) (inr (inr b)) = absurd b
only owner one other (inr (inr a)) b = absurd a

pub returns : goal.returns
returns c = record {
  owners = refl;
  sections = refl;
  links = λ may. let same = may.owners refl (Link (record { 0 = 1 })) 0 1 (inl refl) (inr (inr (inl refl))) in absurd (omega (arith, same));
  periods = record { parts = inl (refl, (refl, tt)); owners = λ links. absurd (cc) };
  views = record { parts = inr (section.View v.Link, (refl, (refl, tt))); owners = λ links owner one other a b. only owner one other a b };
  part = λ may. elim may.parts [
    | inl whole ↦ let first = whole.0 in absurd (cc)
    | inr one ↦ let first = one.1.0 in let second = one.1.1.0 in absurd (cc)
  ];
}
