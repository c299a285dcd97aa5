-- The pairs of each session, as they are stored.
use Rattle.std.specs.Prelude.{ℕ, Option, option_map, unwrap_or}
use Rattle.std.specs.BTreeMap.{BTreeMap, is_at}
use Rattle.std.specs.FinMap as fin
use Rattle.std.specs.Map.{lookup}
use Rattle.std.specs.Ordering.{nat_cmp}
use Rattle.smq_pair.specs.Paired.{no_pdus, PairedValue}
use Rattle.smq_pair.specs.Pairing.{PairingValue}
use Rattle.smq_book.specs.declared.index.pairings.Pairings.{Pairings}
use Rattle.smq_present.specs.declared.present.session.Session.{Session}
use Rattle.smq_present.specs.pairing.Traffic.{session_pairing}

-- the PDUs of the session of a number, as pairs are made of them: none where it is absent
abbrev pub pairing_in : fin.FinMap nat_cmp Session → ℕ → PairingValue
pairing_in sessions number = unwrap_or (option_map (λ session. session_pairing (number, session)) (fin.get sessions number)) no_pdus

-- what is stored of the session of a number, if anything is
abbrev pub stored_of : BTreeMap ℕ PairedValue → ℕ → Option PairedValue
stored_of kept number = lookup (is_at (nat_cmp number)) kept.entries

-- the PDUs among which the pairs of a session are stored now, and those that were settled: none where nothing is stored
abbrev pub pdus_of : Option PairedValue → PairingValue
pdus_of stored = unwrap_or (option_map (λ (pairs : PairedValue). pairs.pdus) stored) no_pdus

abbrev pub settled_of : Option PairedValue → PairingValue
settled_of stored = unwrap_or (option_map (λ (pairs : PairedValue). pairs.settled) stored) no_pdus

abbrev pub pairs_now : Pairings → ℕ → PairingValue
pairs_now p number = pdus_of (stored_of p.by_session number)

abbrev pub pairs_settled : Pairings → ℕ → PairingValue
pairs_settled p number = settled_of (stored_of p.by_session number)

-- how many changes `undo` would take back in the pairs of a session, at most: none where nothing is stored
abbrev pub pending_of : Option PairedValue → ℕ
pending_of stored = unwrap_or (option_map (λ (pairs : PairedValue). pairs.pending) stored) 0

abbrev pub pairs_pending : Pairings → ℕ → ℕ
pairs_pending p number = pending_of (stored_of p.by_session number)
