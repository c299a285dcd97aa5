use Rattle.std.proofs.Common.{◌≡◌, ℕ, ◌-◌, ◌<◌, ◌≤◌, false, arith, length, take, drop, ap, ◌∙◌, List, refl, length-take, length-drop}
use Rattle.std.proofs.lemmas.Bool.Decides.{nat_tests}
use Rattle.std.specs.Option.{option_or}
use Rattle.std.specs.Prelude.{Option}
use Rattle.smq_reassembly.specs.Octet.{Octet, octets_of}
use Rattle.smq_reassembly.specs.Piece.{Piece, first_octet, octet_in}
use Rattle.smq_reassembly.specs.within.Chain.{pieces_of}
use Rattle.smq_reassembly.proofs.Lists.{length-octets, octets-part}
use Rattle.smq_reassembly.proofs.Pieces.{front, middle, front-all, front-middle, front-waits, or-assoc}
use Rattle.smq_reassembly.proofs.waiting.Waiting.keep.Goals.{then-begins, else-begins, In_ok-put-in-Misses}
use Rattle.smq_reassembly.proofs.waiting.Waiting.keep.Goals as goal

pub runs-preserved-in-Waits : goal.runs-preserved-in-Waits
runs-preserved-in-Waits c =
    let w = c.in-Waits.ensures.waits c.in-Waits.until refl in
    let whole : Piece = record { at = c.args.at; octets = octets_of c.args.packet c.args.begins c.args.octets.now } in
    record {
      low = omega (arith, c.runs.invariant.low, w.0);
      brings = λ n.
          front-waits whole (first_octet (pieces_of c.args.self.now) n) (first_octet (pieces_of c.runs.self) n) c.runs.place c.in-Waits.until n
          c.runs.invariant.low w.0 (c.runs.invariant.brings n) (w.1 n);
      apart = c.runs.invariant.apart;
      same = c.runs.invariant.same;
      more = c.runs.invariant.more;
      least = c.runs.invariant.least;
    }

flag-first : (c : In_ok-put-in-Misses) → c.runs.place - c.args.at ≡ 0 → c.if-begins.put ≡ c.args.begins
flag-first c e =
    let low : c.args.at ≤ c.runs.place = c.runs.invariant.low in
    let same : c.runs.place ≡ c.args.at = omega arith in
    elim c.if-begins.branch [
      | then-begins w ↦ grind (arith, nat_tests, w.put-is, same)
      | else-begins w ↦ grind (arith, nat_tests, w.put-is)
    ]

flag-later : (c : In_ok-put-in-Misses) → 0 < c.runs.place - c.args.at → c.if-begins.put ≡ false
flag-later c e =
    elim c.if-begins.branch [
      | then-begins w ↦ grind (arith, nat_tests, w.put-is)
      | else-begins w ↦ grind (arith, nat_tests, w.put-is)
    ]

pub runs-preserved : goal.runs-preserved
runs-preserved c =
    let m = c.in-Misses.ensures.misses c.in-Misses.until refl in
    let low : c.args.at ≤ c.runs.place = c.runs.invariant.low in
    let whole : Piece = record { at = c.args.at; octets = octets_of c.args.packet c.args.begins c.args.octets.now } in
    let count : c.in-Misses.until - c.args.at - (c.runs.place - c.args.at) ≡ c.in-Misses.until - c.runs.place = omega arith in
    let first : c.runs.place - c.args.at ≡ 0 → c.if-begins.put ≡ c.args.begins = flag-first c in
    let later : 0 < c.runs.place - c.args.at → c.if-begins.put ≡ false = flag-later c in
    let part : octets_of c.args.packet c.if-begins.put (take (c.in-Misses.until - c.args.at - (c.runs.place - c.args.at)) (drop (c.runs.place - c.args.at) c.args.octets.now))
    ≡ take (c.in-Misses.until - c.runs.place) (drop (c.runs.place - c.args.at) (octets_of c.args.packet c.args.begins c.args.octets.now)) =
    octets-part c.args.packet c.args.begins c.if-begins.put (c.runs.place - c.args.at) (c.in-Misses.until - c.args.at - (c.runs.place - c.args.at)) c.args.octets.now first later
    ∙ ap (λ (k : ℕ). take k (drop (c.runs.place - c.args.at) (octets_of c.args.packet c.args.begins c.args.octets.now))) count in
    let some : 0 < length (take (c.in-Misses.until - c.args.at - (c.runs.place - c.args.at)) (drop (c.runs.place - c.args.at) c.args.octets.now)) =
    simp (length-take, length-drop) (omega (arith, m.0, m.1, low)) in
    record {
      low = omega (arith, low, m.0);
      brings = λ n.
          c.in_ok-put-in-Misses.ensures.brings n
          ∙ ap (λ (os : List Octet). option_or (first_octet (pieces_of c.runs.self) n) (octet_in (record { at = c.runs.place; octets = os }) n)) part
          ∙ ap (λ (o : Option Octet). option_or o (octet_in (middle c.runs.place c.in-Misses.until whole) n)) (c.runs.invariant.brings n)
          ∙ or-assoc (first_octet (pieces_of c.args.self.now) n) (octet_in (front (c.runs.place - c.args.at) whole) n)
          (octet_in (middle c.runs.place c.in-Misses.until whole) n)
          ∙ ap (λ (o : Option Octet). option_or (first_octet (pieces_of c.args.self.now) n) o)
          (front-middle whole c.runs.place c.in-Misses.until n low m.0);
      apart = λ from l chain. c.in_ok-put-in-Misses.ensures.apart from (omega (arith, low, l)) (c.runs.invariant.apart from l chain);
      same = λ e. absurd (cc);
      more = λ e. omega (arith, c.in_ok-put-in-Misses.ensures.more, some, c.runs.invariant.least);
      least = omega (arith, c.in_ok-put-in-Misses.ensures.more, c.runs.invariant.least);
    }

pub returns-clause-brings : goal.returns-clause-brings
returns-clause-brings c n =
    let whole : Piece = record { at = c.args.at; octets = octets_of c.args.packet c.args.begins c.args.octets.now } in
    let all : length (octets_of c.args.packet c.args.begins c.args.octets.now) ≤ c.runs.place - c.args.at =
    omega (arith, length-octets c.args.packet c.args.begins c.args.octets.now, c.runs-test.false, c.runs.invariant.low) in
    c.runs.invariant.brings n
    ∙ ap (λ (p : Piece). option_or (first_octet (pieces_of c.args.self.now) n) (octet_in p n)) (front-all (c.runs.place - c.args.at) whole all)
