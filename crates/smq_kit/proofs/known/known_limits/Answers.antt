use Rattle.std.proofs.Common.{refl, arith}
use Rattle.std.specs.Prelude.{codes}
use Rattle.std.specs.Char.{is_ascii_digit}
use Rattle.std.proofs.lemmas.List.Sums.{AllPass-from_list_all}
use Rattle.smq_kit.proofs.known.known_limits.Goals as goal

pub returns-clause-digits_15 : goal.returns-clause-digits_15
returns-clause-digits_15 c = record {
  not_empty = omega arith;
  in_range = omega arith;
  digits = AllPass-from_list_all is_ascii_digit (codes "447700900123456") refl;
}
