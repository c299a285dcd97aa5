-- What `clone` gives of ids, numbers, networks, keys and errors.
use Rattle.smq_kit.specs.declared.message_id.MessageId.{MessageId}
use Rattle.smq_kit.specs.declared.number.Digits.{Digits}
use Rattle.smq_kit.specs.declared.number.Network.{Network}
use Rattle.smq_kit.specs.declared.message_id.Key.{Key}
use Rattle.smq_kit.specs.declared.link_key.LinkKey.{LinkKey}
use Rattle.smq_kit.specs.declared.error_code.ErrorText.{ErrorText}
use Rattle.smq_kit.specs.declared.error_code.ErrorCode.{ErrorCode}
use Rattle.smq_kit.specs.contracts.message_id.MessageIdClone.TheImpl as id_clone
use Rattle.smq_kit.specs.contracts.number.DigitsClone.TheImpl as digits_clone
use Rattle.smq_kit.specs.contracts.number.NetworkClone.TheImpl as network_clone
use Rattle.smq_kit.specs.contracts.message_id.KeyClone.TheImpl as key_clone
use Rattle.smq_kit.specs.contracts.link_key.LinkKeyClone.TheImpl as link_key_clone
use Rattle.smq_kit.specs.contracts.error_code.ErrorTextClone.TheImpl as error_text_clone
use Rattle.smq_kit.specs.contracts.error_code.ErrorCodeClone.TheImpl as error_clone

-- the second is what `clone` may give of the first
abbrev pub id_is_clone : MessageId → MessageId → Type 0
id_is_clone = (id_clone.ghosts).is_clone

-- the second is what `clone` may give of the first
abbrev pub digits_is_clone : Digits → Digits → Type 0
digits_is_clone = (digits_clone.ghosts).is_clone

-- the second is what `clone` may give of the first
abbrev pub network_is_clone : Network → Network → Type 0
network_is_clone = (network_clone.ghosts).is_clone

-- the second is what `clone` may give of the first
abbrev pub key_is_clone : Key → Key → Type 0
key_is_clone = (key_clone.ghosts).is_clone

-- the second is what `clone` may give of the first
abbrev pub link_key_is_clone : LinkKey → LinkKey → Type 0
link_key_is_clone = (link_key_clone.ghosts).is_clone

-- the second is what `clone` may give of the first
abbrev pub error_text_is_clone : ErrorText → ErrorText → Type 0
error_text_is_clone = (error_text_clone.ghosts).is_clone

-- the second is what `clone` may give of the first
abbrev pub error_is_clone : ErrorCode → ErrorCode → Type 0
error_is_clone = (error_clone.ghosts).is_clone
