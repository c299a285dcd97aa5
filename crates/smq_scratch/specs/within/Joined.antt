-- What is present, joined.
use Rattle.std.specs.Prelude.{◌≡◌, List}
use Rattle.std.specs.List.{AllZip}
use Rattle.smq_present.specs.present.Present.{PresentValue}
use Rattle.smq_present.specs.within.Lists.{notes_of, receipts_of, submits_of}
use Rattle.smq_scratch.specs.declared.groups.Group.{Group}
use Rattle.smq_scratch.specs.declared.joined.Joined.{Joined}
use Rattle.smq_scratch.specs.declared.receipts.NumberedReceipt.{NumberedReceipt}
use Rattle.smq_scratch.specs.within.Groups.{AreOfMessages, IsOfReceipt}

-- These are the receipts that are present, and what is kept under their numbers is what there is of their keys.
abbrev pub HasReceipts : PresentValue → List Group → List NumberedReceipt → Type 0
HasReceipts p groups receipts = AllZip (IsOfReceipt groups (submits_of p) (receipts_of p)) (receipts_of p) receipts

-- This is what the sessions that are present say, and what there is of each key.
pub record IsJoined (p : PresentValue) (joined : Joined) : Type 0 where
  pub submits : joined.submits.items ≡ submits_of p
  pub notes : joined.notes.items ≡ notes_of p
  pub numbers : AreOfMessages joined.groups.items (submits_of p) (receipts_of p) (submits_of p) joined.numbers.items
  pub receipts : HasReceipts p joined.groups.items joined.receipts.items
