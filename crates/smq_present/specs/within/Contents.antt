-- How what is kept of a PDU's body is stored: what a submit_sm or data_sm says, its message id and its delivery receipt
-- may have other owners.
use Rattle.std.specs.Prelude.{option_map}
use Rattle.std.specs.Arc.{arc_value}
use Rattle.smq_receipt.specs.declared.reading.Reading.{Reading}
use Rattle.smq_receipt.specs.declared.reading.Reading.TheVariants as r
use Rattle.smq_present.specs.declared.present.kept.StoredReading.{StoredReading}
use Rattle.smq_present.specs.declared.present.kept.StoredReading.TheVariants as s
use Rattle.smq_present.specs.declared.present.kept.StoredBody.{StoredBody}
use Rattle.smq_present.specs.declared.present.kept.StoredBody.TheVariants as k
use Rattle.smq_present.specs.present.Content.{Content}
use Rattle.smq_present.specs.present.Content as c

-- the reading that a kept one is
abbrev pub reading_kept : StoredReading → Reading
reading_kept (s.Receipt receipt) = r.Receipt (arc_value receipt)
reading_kept s.NoId = r.NoId
reading_kept s.NoState = r.NoState
reading_kept s.NotReceipt = r.NotReceipt

-- the content that a kept body is
abbrev pub content_kept : StoredBody → Content
content_kept (k.Submit submit) = c.Submit (arc_value submit)
content_kept (k.SubmitAnswer id) = c.SubmitAnswer (option_map arc_value id)
content_kept (k.Deliver reading) = c.Deliver (reading_kept reading)
content_kept (k.DataSm both) = c.DataSm (arc_value (arc_value both).submit) (reading_kept (arc_value both).reading)
content_kept k.Other = c.Other
content_kept k.Undecodable = c.Undecodable
