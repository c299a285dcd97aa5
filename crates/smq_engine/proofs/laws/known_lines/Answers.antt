use Rattle.std.proofs.Common.{◌≡◌, ◌∙◌, ◌++◌, ◌∷◌, [], ap, codes, refl}
use Rattle.csv.specs.Writing.{escaped, fields_text, is_blank}
use Rattle.smq_report.specs.Lines.{messages_text, receipts_text}
use Rattle.smq_engine.proofs.laws.known_lines.Goals as goal

no_message : messages_text []
    ≡ codes "link,session,offset,moment,number,route,network,outcome,error,id,response_offset,"
    ++ (codes "receipt_session,receipt_offset,receipt_moment,centre_delay,key,command,source,ton" ++ 10 ∷ [])
unfolding fields_text is_blank escaped
no_message = refl

no_receipt : receipts_text []
    ≡ codes "link,session,offset,moment,id,state,interim,error,standing,message_session,message_offset,key,command" ++ 10 ∷ []
unfolding fields_text is_blank escaped
no_receipt = refl

pub returns : goal.returns
returns c = record {
  messages = λ p none. ap messages_text none ∙ no_message;
  receipts = λ p none. ap receipts_text none ∙ no_receipt;
}
