use Rattle.std.proofs.Common.{ap}
use Rattle.smq_kit.specs.declared.message_id.Key.TheVariants.{Number, Text}
use Rattle.smq_report.specs.Lines.{key_text}
use Rattle.smq_report.proofs.KeyLemmas.{numbers-apart}
use Rattle.smq_report.proofs.laws.keys_of_a_kind_are_printed_apart.Goals as goal

pub returns-clause-numbers : goal.returns-clause-numbers
returns-clause-numbers c = λ a b small other. (λ alike. ap Number (numbers-apart a b small other alike), λ same. ap key_text same)

pub returns-clause-texts : goal.returns-clause-texts
returns-clause-texts c = λ a b. (λ alike. ap Text alike, λ same. ap key_text same)
