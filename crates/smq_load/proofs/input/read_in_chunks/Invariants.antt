use Rattle.std.proofs.Common.{◌<◌, ◌≤◌, length, vec_len}
use Rattle.std.specs.Io.KnownBytes.{Consumes}
use Rattle.smq_load.specs.declared.input.TheConstants.{MOST_OCTETS}
use Rattle.smq_load.proofs.input.read_in_chunks.Given as goal

-- the octets so far are those that the reader gave
abbrev pub invariant-loop : goal.invariant-loop
invariant-loop g l =
    let remaining = g.R.Read.remaining in
    record {
      room : 0 < length l.chunk;
      in_range : vec_len l.octets ≤ MOST_OCTETS;
      taken : Consumes (remaining l.initial.reader) (remaining l.reader) l.octets.items;
    }
