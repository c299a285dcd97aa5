use Rattle.std.proofs.Common.{inl, inr, Option, refl, ap}
use Rattle.std.specs.Prelude.{unwrap_or}
use Rattle.std.specs.Cmp.{nat_cmp_total}
use Rattle.std.specs.FinMap.{empty, get-insert}
use Rattle.smq_kit.specs.declared.message_id.Form.TheVariants.{Decimal, Hexadecimal}
use Rattle.smq_present.specs.declared.present.forms.Forms.{Forms}
use Rattle.smq_present.specs.present.Settings.{opening_forms}
use Rattle.smq_present.proofs.laws.present.known_edits_fold.Goals as goal

set : Forms
set = record { response = Hexadecimal; receipt = Decimal }

pub returns : goal.returns
unfolding set
returns c = record {
  answers = (inl refl, (inl refl, (inl refl, tt)));
  clock = refl;
  forms = ap (λ (o : Option Forms). unwrap_or o opening_forms) (get-insert nat_cmp_total empty 10 set 10);
  all_judged = refl;
  answers_then = (inr (refl, refl), (inl refl, (inl refl, tt)));
  judged_then = refl;
  clock_then = refl;
  no_memory = λ h. elim h.1.0 [ inl e ↦ absurd cc | inr e ↦ let none = e.0 in absurd cc ];
  not_made = λ h. elim h.1.0 [ inl e ↦ absurd cc | inr e ↦ let none = e.0 in absurd cc ];
  no_other = λ h. elim h.1.0 [ inl e ↦ absurd cc | inr e ↦ let none = e.0 in absurd cc ];
  none_left_out = λ h. h.1.1;
}
