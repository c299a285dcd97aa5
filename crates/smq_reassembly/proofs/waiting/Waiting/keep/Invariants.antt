use Rattle.std.proofs.Common.{◌≡◌, ℕ, ◌-◌, ◌<◌, ◌≤◌, true, false}
use Rattle.std.specs.Option.{option_or}
use Rattle.smq_reassembly.specs.Octet.{octets_of}
use Rattle.smq_reassembly.specs.Piece.{first_octet, octet_in, octets_in}
use Rattle.smq_reassembly.specs.within.Chain.{pieces_of, IsChain}
use Rattle.smq_reassembly.proofs.Pieces.{front}
use Rattle.smq_reassembly.proofs.waiting.Waiting.keep.Given as goal

abbrev pub invariant-runs : goal.invariant-runs
invariant-runs l = record {
  low : l.at ≤ l.place;
  brings : (n : ℕ) → first_octet (pieces_of l.self) n
      ≡ option_or (first_octet (pieces_of l.initial.self) n)
      (octet_in (front (l.place - l.at) (record { at = l.at; octets = octets_of l.packet l.begins l.octets })) n);
  apart : (from : ℕ) → from ≤ l.at → IsChain from l.initial.self → IsChain from l.self;
  same : l.any ≡ false → l.self ≡ l.initial.self;
  more : l.any ≡ true → octets_in (pieces_of l.initial.self) < octets_in (pieces_of l.self);
  least : octets_in (pieces_of l.initial.self) ≤ octets_in (pieces_of l.self);
}

abbrev pub decreases-runs : goal.decreases-runs
decreases-runs l = l.end - l.place
