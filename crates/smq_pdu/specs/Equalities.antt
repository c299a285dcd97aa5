-- What `==` says of PDUs and of what a submit_sm, a deliver_sm and a data_sm say.
use Rattle.std.specs.Prelude.{Bool}
use Rattle.smq_pdu.specs.declared.body.Submit.{Submit}
use Rattle.smq_pdu.specs.declared.body.Deliver.{Deliver}
use Rattle.smq_pdu.specs.declared.data_sm.DataSm.{DataSm}
use Rattle.smq_pdu.specs.declared.body.Body.{Body}
use Rattle.smq_pdu.specs.declared.pdu.Pdu.{Pdu}
use Rattle.smq_pdu.specs.contracts.body.SubmitPartialEq.TheImpl as submit_eq
use Rattle.smq_pdu.specs.contracts.body.DeliverPartialEq.TheImpl as deliver_eq
use Rattle.smq_pdu.specs.contracts.data_sm.DataSmPartialEq.TheImpl as data_sm_eq
use Rattle.smq_pdu.specs.contracts.body.BodyPartialEq.TheImpl as body_eq
use Rattle.smq_pdu.specs.contracts.pdu.PduPartialEq.TheImpl as pdu_eq

-- whether two submit_sm say the same by `==`
abbrev pub is_same_submit : Submit → Submit → Bool
is_same_submit a b = submit_eq.ghosts.eq a b

-- whether two deliver_sm say the same by `==`
abbrev pub is_same_deliver : Deliver → Deliver → Bool
is_same_deliver a b = deliver_eq.ghosts.eq a b

-- whether two data_sm say the same by `==`
abbrev pub is_same_data_sm : DataSm → DataSm → Bool
is_same_data_sm a b = data_sm_eq.ghosts.eq a b

-- whether two bodies are equal by `==`
abbrev pub is_same_body : Body → Body → Bool
is_same_body a b = body_eq.ghosts.eq a b

-- whether two PDUs are equal by `==`
abbrev pub is_same_pdu : Pdu → Pdu → Bool
is_same_pdu a b = pdu_eq.ghosts.eq a b
