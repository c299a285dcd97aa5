-- The tables of what is present, from nothing.
use Rattle.smq_present.specs.present.Present.{PresentValue}
use Rattle.smq_present.specs.pairing.Traffic.{traffic_of}
use Rattle.smq_present.specs.join.Facts.{facts_of}
use Rattle.smq_present.specs.join.Listings.{notes_of}
use Rattle.smq_tally.specs.Tables.{TablesValue, tables_of}

-- decode and pair what is present, join it under what is set, and count; the places that need a look are listed
abbrev pub scratch : PresentValue → TablesValue
scratch p = tables_of (facts_of p.settings (traffic_of p.sessions)) (notes_of p.settings (traffic_of p.sessions))
