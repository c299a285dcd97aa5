use Rattle.smq_present.proofs.lemmas.join.OtherForms.{facts-ignore}
use Rattle.smq_present.proofs.laws.join.forms_of_other_links_are_idle.Goals as goal

pub returns : goal.returns
returns c = λ s z t link windows versions clock others no_message no_receipt.
    facts-ignore s z t link windows versions clock others (λ q m e is. absurd (no_message q m e is)) no_receipt
