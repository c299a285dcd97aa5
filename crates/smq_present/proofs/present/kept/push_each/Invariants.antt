-- The copies so far are put after what was there, and there is room for the rest.
use Rattle.std.proofs.Common.{◌≡◌, ◌+◌, ◌≤◌, ◌++◌, length, take}
use Rattle.std.specs.Vec.{vec_len, vec_capacity}
use Rattle.smq_present.proofs.present.kept.push_each.Given as goal

abbrev pub invariant-loop-pdu : goal.invariant-loop-pdu
invariant-loop-pdu l = record {
  put : l.to.items ≡ l.fn.to.items ++ take l.pdu-index l.pdus;
  room : vec_len l.fn.to + length l.pdus ≤ vec_capacity l.to;
  len : vec_len l.to ≡ vec_len l.fn.to + l.pdu-index;
}
