use Rattle.std.proofs.Common.{◌≡◌, ℕ, ◌+◌, ◌-◌, ◌≤◌, ◌<◌, ◌^◌, arith, length, ap, ◌∙◌, List}
use Rattle.std.specs.Option.{option_or}
use Rattle.smq_reassembly.specs.Octet.{octets_of}
use Rattle.smq_reassembly.specs.Piece.{Piece, first_octet, octet_in, octets_in}
use Rattle.smq_reassembly.specs.within.Chain.{piece_of_entry, pieces_of, IsChain}
use Rattle.smq_reassembly.proofs.Chains.{Entry, IsFree, put-chain, put-first, put-octets, chain-octets}
use Rattle.smq_reassembly.proofs.waiting.Waiting.put.Goals.{In_ok-insert}
use Rattle.smq_reassembly.proofs.waiting.Waiting.put.Goals as goal

module _ (c : In_ok-insert) where
  entry : Entry
  entry =
      (c.args.at + c.len-count.result, record { begins = c.args.begins; packet = c.args.packet; octets = c.in_ok-octets.octets })

  count : c.len-count.result ≡ length c.in_ok-octets.octets.items
  count = c.len-count.ensures ∙ c.in_ok-octets.octets.ok.0

  size : length c.in_ok-octets.octets.items ≡ length c.args.octets.now
  size = ap length c.in_ok-octets.ensures.items

  room : length c.in_ok-octets.octets.items ≤ c.args.at + c.len-count.result
  room = omega (arith, count)

  any : 0 < length c.in_ok-octets.octets.items
  any = omega (arith, size, c.requires.some)

  free : IsFree c.self.inside.pieces.entries (c.args.at + c.len-count.result, record { begins = c.args.begins; packet = c.args.packet; octets = c.in_ok-octets.octets })
  free n low high =
      let l : c.args.at ≤ n = omega (arith, count) in
      let h : n < c.args.at + length c.args.octets.now = omega (arith, count, size) in
      rw c.self.view_is (c.requires.free n l h)

  most : c.args.at + c.len-count.result ≤ 2 ^ 60
  most = omega (arith, count, size, c.requires.end)

  new-chain : (from : ℕ) → from ≤ c.args.at → IsChain from c.self.inside.pieces.entries → IsChain from c.insert.new.self.entries
  unfolding entry
  new-chain from low chain =
      rw c.in_ok-insert.ensures.entries
      (put-chain entry room any from c.self.inside.pieces.entries most (omega (arith, count)) free chain)

  new-octets : octets_in (pieces_of c.insert.new.self.entries) ≡ octets_in (pieces_of c.self.inside.pieces.entries) + length c.args.octets.now
  unfolding entry
  new-octets =
      rw c.in_ok-insert.ensures.entries (put-octets entry room any 0 c.self.inside.pieces.entries free c.self.invariant.chain)
      ∙ ap (λ (k : ℕ). octets_in (pieces_of c.self.inside.pieces.entries) + k) size

pub overflow_add-self : goal.overflow_add-self
overflow_add-self c =
    let k = (goal.at.overflow_add-self c).In_ok-insert in
    let chain = new-chain k 0 (omega arith) c.self.invariant.chain in
    omega (arith, new-octets k, chain-octets 0 _ (omega arith) chain, count k, size k, c.self.invariant.count)

pub invariant_of-self-2 : goal.invariant_of-self-2
invariant_of-self-2 c =
    let k = (goal.at.invariant_of-self-2 c).In_ok-insert in
    record {
      chain = new-chain k 0 (omega arith) c.self.invariant.chain;
      count = omega (arith, new-octets k, count k, size k, c.self.invariant.count);
    }

pub returns-clause-brings : goal.returns-clause-brings
unfolding entry
returns-clause-brings c n =
    let k = (goal.at.returns-clause-brings c).In_ok-insert in
    let at : (c.args.at + c.len-count.result) - length c.in_ok-octets.octets.items ≡ c.args.at = omega (arith, count k) in
    let items = c.in_ok-octets.octets.items in
    let same : ◌≡◌ {A = Piece} (piece_of_entry (entry k)) (record { at = c.args.at; octets = octets_of c.args.packet c.args.begins c.args.octets.now }) =
    ap (λ (a : ℕ). record { at = a; octets = octets_of c.args.packet c.args.begins items }) at
    ∙ ap (λ (vs : List ℕ). record { at = c.args.at; octets = octets_of c.args.packet c.args.begins vs }) c.in_ok-octets.ensures.items in
    rw (c.in_ok-insert.ensures.entries, ← c.self.view_is)
    (put-first (entry k) (room k) (any k) 0 c.self.inside.pieces.entries n (free k) c.self.invariant.chain
    ∙ ap (λ (p : Piece). option_or (first_octet (pieces_of c.self.inside.pieces.entries) n) (octet_in p n)) same)

pub returns-clause-apart : goal.returns-clause-apart
returns-clause-apart c from low chain =
    new-chain (goal.at.returns-clause-apart c).In_ok-insert from low (rw c.self.view_is chain)

pub returns-clause-more : goal.returns-clause-more
returns-clause-more c =
    new-octets (goal.at.returns-clause-more c).In_ok-insert ∙ ap (λ (es : List Entry). octets_in (pieces_of es) + length c.args.octets.now) c.self.view_is
