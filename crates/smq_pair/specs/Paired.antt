-- What contracts see of a pairing.
use Rattle.std.specs.Prelude.{ℕ, []}
use Rattle.smq_pair.specs.Pairing.{PairingValue}

pub record PairedValue : Type 0 where
  -- the PDUs that came
  pub pdus : PairingValue
  -- those at the last `settle`, or none
  pub settled : PairingValue
  pub touches : ℕ
  -- an upper bound of the touches of `undo`, and half of one of those of `settle`
  pub pending : ℕ

-- no PDUs
abbrev pub no_pdus : PairingValue
no_pdus = record { client = []; centre = [] }
