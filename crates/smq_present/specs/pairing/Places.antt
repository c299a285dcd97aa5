-- What stands at a place of the sessions that are present.
use Rattle.std.specs.Prelude.{◌≡◌, ◌⊎◌, List, Contains}
use Rattle.std.specs.FinMap as map
use Rattle.std.specs.Ordering.{nat_cmp}
use Rattle.smq_kit.specs.declared.place.Place.{Place}
use Rattle.smq_frame.specs.Stream.{Octet}
use Rattle.smq_pdu.specs.declared.body.Submit.{Submit}
use Rattle.smq_receipt.specs.declared.reading.Reading.{Reading}
use Rattle.smq_present.specs.present.Content.{Content}
use Rattle.smq_present.specs.present.Content as c
use Rattle.smq_present.specs.declared.present.kept.StoredPdu.{StoredPdu}
use Rattle.smq_present.specs.declared.present.session.Session.{Session}
use Rattle.smq_present.specs.present.Kept.{kept_pdus}
use Rattle.smq_present.specs.present.Present.{octets_in}

-- the octets of the direction in which a place is
abbrev pub octets_at : map.FinMap nat_cmp Session → Place → List Octet
octets_at sessions place = octets_in place.dir (map.get sessions place.session.0)

-- A PDU stands at a place: it is one of its direction's, at its offset.
pub record StandsAt (sessions : map.FinMap nat_cmp Session) (place : Place) (p : StoredPdu) : Type 0 where
  pub among : Contains (kept_pdus (octets_at sessions place)) p
  pub offset : p.offset ≡ place.offset

-- A content says this as a delivery receipt: it is a deliver_sm or a data_sm that does.
abbrev pub Says : Content → Reading → Type 0
Says content reading = (content ≡ c.Deliver reading) ⊎ ((submit : Submit) × (content ≡ c.DataSm submit reading))
