-- A segment behind at most so many heads, head by head.
use Rattle.std.proofs.Common.{◌≡◌, ℕ, zero, suc, ◌+◌, ◌-◌, ◌<◌, true, false, List, Result, Ok, Err, arith, refl, ap}
use Rattle.smq_packets.specs.Layers.{onward}
use Rattle.smq_packets.specs.Segments.{SegmentValue, behind_of, carried_by, is_tcp, tcp_of}
use Rattle.smq_packets.specs.declared.layer.Layer.{Layer}
use Rattle.smq_packets.specs.declared.layer.Unread.{Unread}
use Rattle.smq_packets.specs.declared.layer.Unread.TheVariants.{TooDeep}

-- TCP's head is the last
pub carried_at_tcp : (n : ℕ) (frame : List ℕ) (l : Layer) → 0 < n → is_tcp l.head ≡ true → carried_by n frame l ≡ tcp_of frame l
unfolding carried_by
carried_at_tcp zero frame l some here = absurd (omega arith)
carried_at_tcp (suc n) frame l some here = rw here refl

-- any other leads on
pub carried_on : (n m : ℕ) (frame : List ℕ) (l behind : Layer) → n ≡ m + 1 → is_tcp l.head ≡ false →
    behind_of frame l ≡ Ok behind → carried_by n frame l ≡ carried_by m frame behind
unfolding carried_by
carried_on zero m frame l behind one_more other leads = absurd (omega arith)
carried_on (suc n) m frame l behind one_more other leads =
    let same : n ≡ m = omega arith in
    rw (other, leads) (ap (λ k. carried_by k frame behind) same)

-- or to no segment
pub carried_no_more : (n : ℕ) (frame : List ℕ) (l : Layer) (why : Unread) → 0 < n → is_tcp l.head ≡ false →
    behind_of frame l ≡ Err why → carried_by n frame l ≡ Err why
unfolding carried_by
carried_no_more zero frame l why some other stops = absurd (omega arith)
carried_no_more (suc n) frame l why some other stops = rw (other, stops) refl

-- behind no head there is none
pub carried_none : (n : ℕ) (frame : List ℕ) (l : Layer) → n ≡ 0 → carried_by n frame l ≡ Err TooDeep
unfolding carried_by
carried_none n frame l none = rw none refl

pub ruleset carried_rules = (carried_at_tcp, carried_on, carried_no_more, carried_none)
