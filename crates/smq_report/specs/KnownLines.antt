-- Texts of known lines.
use Rattle.std.specs.Prelude.{◌≡◌, ℕ, true, false, ℤ, pos, neg_ℤ, List, [], ◌∷◌, ◌++◌, Option, Some, None, codes}
use Rattle.std.specs.List.{flat_map}
use Rattle.smq_kit.specs.declared.error_code.ErrorCode.{ErrorCode}
use Rattle.smq_kit.specs.declared.error_code.ErrorCode.TheVariants as c
use Rattle.smq_kit.specs.declared.message_id.Key.{Key}
use Rattle.smq_kit.specs.declared.message_id.Key.TheVariants.{Number, Text}
use Rattle.smq_kit.specs.declared.names.RouteId.{RouteId}
use Rattle.smq_kit.specs.declared.place.Dir.{Dir}
use Rattle.smq_kit.specs.declared.place.Dir.TheVariants.{FromClient, FromCentre}
use Rattle.smq_kit.specs.declared.place.Place.{Place}
use Rattle.smq_receipt.specs.declared.message_state.MessageState.{MessageState}
use Rattle.smq_receipt.specs.declared.message_state.MessageState.TheVariants as m
use Rattle.smq_receipt.specs.declared.reading.Receipt.{Receipt}
use Rattle.smq_tally.specs.declared.fact.Fact.{Fact}
use Rattle.smq_tally.specs.declared.outcome.Outcome.{Outcome}
use Rattle.smq_tally.specs.declared.outcome.Outcome.TheVariants as o
use Rattle.smq_tally.specs.declared.value.SubmitError.{SubmitError}
use Rattle.smq_tally.specs.declared.value.SubmitError.TheVariants as e
use Rattle.smq_present.specs.declared.join.lines.DecidingReceipt.{DecidingReceipt}
use Rattle.smq_present.specs.declared.join.lines.ReceiptStanding.{ReceiptStanding}
use Rattle.smq_present.specs.declared.join.lines.ReceiptStanding.TheVariants as r
use Rattle.smq_present.specs.join.Lines.{MessageLineValue, ReceiptLineValue, standing_name}
use Rattle.smq_report.specs.Words.{command_name, state_name, yes_or_no}
use Rattle.smq_report.specs.Lines.{csv_record, key_text, message_record, messages_text, receipt_record, receipts_text}

-- texts, each ended by a line feed
abbrev pub lines_of : List (List ℕ) → List ℕ
lines_of lines = flat_map (λ line. line ++ 10 ∷ []) lines

-- ---- places, facts and receipts

-- where the client sent what stands at this offset of session 20
abbrev pub of_client : ℕ → Place
of_client offset = record { session = record { 0 = 20 }; dir = FromClient; offset = offset }

-- where the centre sent what stands at this offset of session 30
abbrev pub of_centre : ℕ → Place
of_centre offset = record { session = record { 0 = 30 }; dir = FromCentre; offset = offset }

-- a message of link 7 at an offset
abbrev pub known_fact : ℕ → Option (RouteId × List ℕ) → Outcome → Option SubmitError → Fact
known_fact offset route outcome error = record {
  place = of_client offset;
  link = record { 0 = 7 };
  route = route;
  outcome = outcome;
  error = error;
  link_delay = None;
  centre_delay = None;
}

-- the last offset of the last session
abbrev pub last_place : Dir → Place
last_place dir = record { session = record { 0 = 18446744073709551615 }; dir = dir; offset = 281474976710656 }

-- an id of 64 octets
abbrev pub longest_id : List ℕ
longest_id = codes "0123456789012345678901234567890123456789012345678901234567890123"

-- a source of 20 octets
abbrev pub longest_source : List ℕ
longest_source = codes "0123456789abcdefghij"

-- route 10 and network 23410
abbrev pub known_route : Option (RouteId × List ℕ)
known_route = Some (record { 0 = 10 }, codes "23410")

-- a receipt at an offset of session 30, with a centre's delay
abbrev pub decided_by : ℕ → ℕ → Option ℤ → Option DecidingReceipt
decided_by offset moment delay = Some (record { place = of_centre offset; moment = moment; centre_delay = delay })

-- ---- lines for messages

-- a submit_sm that was delivered, whose id, a text, has a comma, a double quote and a line feed, and whose done date is before its
-- submit date
abbrev pub delivered_line : MessageLineValue
delivered_line = record {
  fact = known_fact 49 known_route o.Delivered None;
  moment = 1700000000000;
  number = Some (codes "447700900123");
  id = Some (codes "a,b\"" ++ 10 ∷ codes "c");
  response = Some 100;
  receipt = decided_by 230 1700000004000 (Some (neg_ℤ (pos 60000)));
  key = Some (Text (codes "a,b\"" ++ 10 ∷ codes "c"));
  command = 0x0000_0004;
  source_ton = 5;
  source = Some (codes "a,\"" ++ 10 ∷ []);
}

-- a data_sm without a number, a route and a response
abbrev pub waiting_line : MessageLineValue
waiting_line = record {
  fact = known_fact 98 None o.Waiting None;
  moment = 1;
  number = None;
  id = None;
  response = None;
  receipt = None;
  key = None;
  command = 0x0000_0103;
  source_ton = 0;
  source = None;
}

-- a message that was refused by status 88
abbrev pub refused_line : MessageLineValue
refused_line = record {
  fact = known_fact 147 known_route o.Refused (Some (e.Refused 88));
  moment = 4102444800000;
  number = Some (codes "1");
  id = None;
  response = Some 116;
  receipt = None;
  key = None;
  command = 0x0000_0004;
  source_ton = 1;
  source = Some (codes "447700900999");
}

-- a message with a hexadecimal id that failed, as its receipt says, which has no two dates
abbrev pub failed_line : MessageLineValue
failed_line = record {
  fact = known_fact 196 known_route o.Failed (Some (e.Failed (c.Network 3 8)));
  moment = 1700000000000;
  number = Some (codes "447700900124");
  id = Some (codes "1F");
  response = Some 132;
  receipt = decided_by 346 1700000005000 None;
  key = Some (Number 31);
  command = 0x0000_0004;
  source_ton = 5;
  source = Some (codes "ACME");
}

-- a data_sm whose receipt was done as long after it was submitted
abbrev pub late_line : MessageLineValue
late_line = record {
  fact = known_fact 245 known_route o.Failed (Some (e.Failed (c.Text (codes "027"))));
  moment = 0;
  number = Some (codes "447700900125");
  id = Some (codes "id 1");
  response = Some 148;
  receipt = decided_by 462 1 (Some (pos 60000));
  key = Some (Text (codes "id 1"));
  command = 0x0000_0103;
  source_ton = 0;
  source = Some (codes "1000");
}

-- a message whose numbers and id are the greatest, and whose receipt was done as long before it was submitted as dates can say
abbrev pub last_line : MessageLineValue
last_line = record {
  fact = record (known_fact 0 (Some (record { 0 = 4294967295 }, codes "310026")) o.Failed (Some (e.Failed (c.Network 255 65535)))) {
    place = last_place FromClient;
    link = record { 0 = 4294967295 };
  };
  moment = 4102444800000;
  number = Some (codes "999999999999999");
  id = Some longest_id;
  response = Some 281474976710656;
  receipt = Some (record {
    place = last_place FromCentre;
    moment = 4102444800000;
    centre_delay = Some (neg_ℤ (pos 3155759999000));
  });
  key = Some (Text longest_id);
  command = 0x0000_0103;
  source_ton = 255;
  source = Some longest_source;
}

-- the columns of lines for messages, as they are written
abbrev pub message_header : List ℕ
message_header = codes "link,session,offset,moment,number,route,network,outcome,error,id,response_offset,receipt_session,receipt_offset,receipt_moment,centre_delay,key,command,source,ton"

-- Texts of lines for messages: of none, of one of each, of the greatest numbers, and of two. An id or a source is quoted where it has a comma, a double
-- quote, which is written twice, or an end of a line, and nowhere else.
pub record KnowsMessages : Type 0 where
  pub none : messages_text [] ≡ message_header ++ 10 ∷ []
  pub delivered :
      message_record delivered_line
      ≡ codes "7,20,49,1700000000000,447700900123,10,23410,delivered,,\"a,b\"\""
      ++ 10 ∷ codes "c\",100,30,230,1700000004000,-60000,\"a,b\"\""
      ++ 10 ∷ codes "c\",submit_sm,\"a,\"\"" ++ 10 ∷ codes "\",5" ++ 10 ∷ []
  pub waiting : message_record waiting_line ≡ codes "7,20,98,1,,none,none,waiting,,,,,,,,,data_sm,,0" ++ 10 ∷ []
  pub refused :
      message_record refused_line
      ≡ codes "7,20,147,4102444800000,1,10,23410,refused,status:88,,116,,,,,,submit_sm,447700900999,1" ++ 10 ∷ []
  pub failed :
      message_record failed_line
      ≡ codes "7,20,196,1700000000000,447700900124,10,23410,failed,net:3:8,1F,132,30,346,1700000005000,,31,submit_sm,ACME,5" ++ 10 ∷ []
  pub late :
      message_record late_line
      ≡ codes "7,20,245,0,447700900125,10,23410,failed,text:027,id 1,148,30,462,1,60000,id 1,data_sm,1000,0" ++ 10 ∷ []
  pub last :
      message_record last_line
      ≡ codes "4294967295,18446744073709551615,281474976710656,4102444800000,999999999999999,4294967295,310026,failed,net:255:65535,"
      ++ longest_id
      ++ codes ",281474976710656,18446744073709551615,281474976710656,4102444800000,-3155759999000,"
      ++ longest_id
      ++ codes ",data_sm," ++ longest_source ++ codes ",255" ++ 10 ∷ []
  pub two :
      messages_text (waiting_line ∷ refused_line ∷ [])
      ≡ lines_of (message_header ∷ codes "7,20,98,1,,none,none,waiting,,,,,,,,,data_sm,,0"
      ∷ codes "7,20,147,4102444800000,1,10,23410,refused,status:88,,116,,,,,,submit_sm,447700900999,1" ∷ [])

-- ---- lines for delivery receipts

-- a line for a receipt at an offset of session 30, which has this key and this command_id
abbrev pub receipt_line : ℕ → Receipt → ReceiptStanding → Option Place → Key → ℕ → ReceiptLineValue
receipt_line offset receipt standing message key command = record {
  link = record { 0 = 7 };
  place = of_centre offset;
  moment = 1700000004000;
  receipt = receipt;
  standing = standing;
  message = message;
  key = key;
  command = command;
}

-- a receipt with a state and an error, that isn't interim
abbrev pub receipt_of : List ℕ → MessageState → ErrorCode → Receipt
receipt_of id state error = record { id = id; state = state; interim = false; error = error; centre_delay = Some (pos 4000) }

-- an interim one of an id that needs quotes
abbrev pub interim_receipt : Receipt
interim_receipt = record { id = codes "a,\"b"; state = m.Enroute; interim = true; error = c.Network 3 8; centre_delay = None }

-- a line for a receipt whose numbers and id are the greatest
abbrev pub last_receipt_line : ReceiptLineValue
last_receipt_line = record {
  link = record { 0 = 4294967295 };
  place = last_place FromCentre;
  moment = 4102444800000;
  receipt = receipt_of longest_id m.Unknown (c.Network 255 65535);
  standing = r.Noted;
  message = Some (last_place FromClient);
  key = Text longest_id;
  command = 0x0000_0103;
}

-- one of each standing, of which the third and the fourth are a data_sm
abbrev pub known_receipt_lines : List ReceiptLineValue
known_receipt_lines =
    receipt_line 0 (receipt_of (codes "1f") m.Undeliverable (c.Text (codes "027"))) r.Stray None (Number 31) 0x0000_0005
    ∷ receipt_line 116 (receipt_of (codes "1f") m.Delivered c.Unstated) r.Deciding (Some (of_client 49)) (Number 31) 0x0000_0005
    ∷ receipt_line 232 (receipt_of (codes "1f") m.Expired (c.Network 3 264)) r.Extra (Some (of_client 49)) (Text (codes "1f")) 0x0000_0103
    ∷ receipt_line 348 interim_receipt r.Noted (Some (of_client 98)) (Text (codes "a,\"b")) 0x0000_0103
    ∷ receipt_line 464 (receipt_of (codes "0") m.Rejected c.Unstated) r.Ambiguous None (Number 0) 0x0000_0005
    ∷ []

-- their columns, as they are written
abbrev pub receipt_header : List ℕ
receipt_header = codes "link,session,offset,moment,id,state,interim,error,standing,message_session,message_offset,key,command"

-- what is written of them
abbrev pub known_receipt_records : List (List ℕ)
known_receipt_records =
    receipt_header
    ∷ codes "7,30,0,1700000004000,1f,undeliverable,no,text:027,stray,,,31,deliver_sm"
    ∷ codes "7,30,116,1700000004000,1f,delivered,no,unstated,deciding,20,49,31,deliver_sm"
    ∷ codes "7,30,232,1700000004000,1f,expired,no,net:3:264,extra,20,49,1f,data_sm"
    ∷ codes "7,30,348,1700000004000,\"a,\"\"b\",enroute,yes,net:3:8,noted,20,98,\"a,\"\"b\",data_sm"
    ∷ codes "7,30,464,1700000004000,0,rejected,no,unstated,ambiguous,,,0,deliver_sm"
    ∷ []

-- Texts of lines for delivery receipts: of none, of these, and of the greatest numbers.
pub record KnowsReceipts : Type 0 where
  pub none : receipts_text [] ≡ receipt_header ++ 10 ∷ []
  pub all : receipts_text known_receipt_lines ≡ lines_of known_receipt_records
  pub last :
      receipt_record last_receipt_line
      ≡ codes "4294967295,18446744073709551615,281474976710656,4102444800000,"
      ++ longest_id
      ++ codes ",unknown,no,net:255:65535,noted,18446744073709551615,281474976710656,"
      ++ longest_id
      ++ codes ",data_sm" ++ 10 ∷ []

-- ---- keys, words and quotes

-- the texts of the least and the greatest number, of one between, and of a text that has the digits of a number
pub record KnowsKeys : Type 0 where
  pub zero : key_text (Number 0) ≡ codes "0"
  pub some : key_text (Number 31) ≡ codes "31"
  pub greatest : key_text (Number 0xffff_ffff_ffff_ffff_ffff_ffff_ffff_ffff) ≡ codes "340282366920938463463374607431768211455"
  pub text : key_text (Text (codes "031")) ≡ codes "031"

-- the words of commands, of states, of standings, and of what is so or isn't
pub record KnowsNames : Type 0 where
  pub submit_sm : command_name 0x0000_0004 ≡ codes "submit_sm"
  pub deliver_sm : command_name 0x0000_0005 ≡ codes "deliver_sm"
  pub data_sm : command_name 0x0000_0103 ≡ codes "data_sm"
  pub enroute : state_name m.Enroute ≡ codes "enroute"
  pub delivered : state_name m.Delivered ≡ codes "delivered"
  pub expired : state_name m.Expired ≡ codes "expired"
  pub deleted : state_name m.Deleted ≡ codes "deleted"
  pub undeliverable : state_name m.Undeliverable ≡ codes "undeliverable"
  pub accepted : state_name m.Accepted ≡ codes "accepted"
  pub unknown : state_name m.Unknown ≡ codes "unknown"
  pub rejected : state_name m.Rejected ≡ codes "rejected"
  pub stray : standing_name r.Stray ≡ codes "stray"
  pub deciding : standing_name r.Deciding ≡ codes "deciding"
  pub extra : standing_name r.Extra ≡ codes "extra"
  pub noted : standing_name r.Noted ≡ codes "noted"
  pub ambiguous : standing_name r.Ambiguous ≡ codes "ambiguous"
  pub yes : yes_or_no true ≡ codes "yes"
  pub no : yes_or_no false ≡ codes "no"

-- which fields are written between double quotes
pub record KnowsQuotes : Type 0 where
  pub plain : csv_record (codes "a b" ∷ codes "c" ∷ []) ≡ codes "a b,c" ++ 10 ∷ []
  pub empty : csv_record ([] ∷ [] ∷ []) ≡ codes "," ++ 10 ∷ []
  pub comma : csv_record (codes "a,b" ∷ codes "c" ∷ []) ≡ codes "\"a,b\",c" ++ 10 ∷ []
  pub quote : csv_record (codes "\"" ∷ codes "c" ∷ []) ≡ codes "\"\"\"\",c" ++ 10 ∷ []
  pub line_feed : csv_record ((10 ∷ []) ∷ codes "c" ∷ []) ≡ codes "\"" ++ 10 ∷ codes "\",c" ++ 10 ∷ []
  pub carriage_return : csv_record ((13 ∷ []) ∷ codes "c" ∷ []) ≡ codes "\"" ++ 13 ∷ codes "\",c" ++ 10 ∷ []
  pub other : csv_record ((9 ∷ 39 ∷ 92 ∷ 255 ∷ []) ∷ codes "c" ∷ []) ≡ 9 ∷ 39 ∷ 92 ∷ 255 ∷ codes ",c" ++ 10 ∷ []
