-- The words in lines: of commands, of states of messages, and of what is so or isn't.
use Rattle.std.specs.Prelude.{◌==◌, if◌then◌else◌, Bool, true, false, ℕ, List, [], codes}
use Rattle.smq_receipt.specs.declared.message_state.MessageState.{MessageState}
use Rattle.smq_receipt.specs.declared.message_state.MessageState.TheVariants as m

-- the name of the command_id of a message or a delivery receipt (SMPP 3.4, 5.1.2.1); lines have no other command
abbrev pub command_name : ℕ → List ℕ
command_name command =
    if command == 0x0000_0004 then codes "submit_sm"
    else (if command == 0x0000_0005 then codes "deliver_sm"
    else (if command == 0x0000_0103 then codes "data_sm" else []))

-- the name of a state (SMPP 3.4, 5.2.28), in small letters
abbrev pub state_name : MessageState → List ℕ
state_name m.Enroute = codes "enroute"
state_name m.Delivered = codes "delivered"
state_name m.Expired = codes "expired"
state_name m.Deleted = codes "deleted"
state_name m.Undeliverable = codes "undeliverable"
state_name m.Accepted = codes "accepted"
state_name m.Unknown = codes "unknown"
state_name m.Rejected = codes "rejected"

-- the word for what is so, or isn't
abbrev pub yes_or_no : Bool → List ℕ
yes_or_no true = codes "yes"
yes_or_no false = codes "no"
