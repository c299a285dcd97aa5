-- What `==` says of receipts and of readings.
use Rattle.std.specs.Prelude.{Bool}
use Rattle.smq_receipt.specs.declared.reading.Receipt.{Receipt}
use Rattle.smq_receipt.specs.declared.reading.Reading.{Reading}
use Rattle.smq_receipt.specs.contracts.reading.ReceiptPartialEq.TheImpl as receipt_eq
use Rattle.smq_receipt.specs.contracts.reading.ReadingPartialEq.TheImpl as reading_eq

-- whether two receipts are equal by `==`
abbrev pub is_same_receipt : Receipt → Receipt → Bool
is_same_receipt a b = receipt_eq.ghosts.eq a b

-- whether two readings are equal by `==`
abbrev pub is_same_reading : Reading → Reading → Bool
is_same_reading a b = reading_eq.ghosts.eq a b
