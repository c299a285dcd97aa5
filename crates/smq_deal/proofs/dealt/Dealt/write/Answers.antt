use Rattle.std.proofs.Common.{◌≡◌, [], ◌∷◌, ◌∙◌, ℕ, List, Option, Vec, Global, ap, drop, map, sym, subst, rules}
use Rattle.std.proofs.KnownBytes.{Appends-nil, Appends-trans}
use Rattle.std.specs.List.{flat_map}
use Rattle.std.specs.Io.KnownBytes.{Appends}
use Rattle.smq_present.specs.declared.present.session.Session.{Session}
use Rattle.smq_deal.specs.Texts.{both, clock_of, directions_of, head_text, rows_of}
use Rattle.smq_deal.proofs.Rows.{map-drop, session-rows}
use Rattle.smq_deal.proofs.dealt.Dealt.write.Goals as goal

pub loop-number-preserved : goal.loop-number-preserved
loop-number-preserved g c final more =
    let contents = g.W.Write.contents in
    let ends = c.args.self.now.ends in
    let part = c.args.part in
    let parts : List (List ℕ) = map (λ (ps : Vec ℕ Global). ps.items) c.loop-number.left.now in
    let e : ℕ × Session = (c.in-Some.number.now, c.in-Some.session.now) in
    let entry : c.loop-number.number-iterator ≡ e ∷ c.next.new.self = search rules in
    let left : map (λ (ps : Vec ℕ Global). ps.items) c.in_ok-left.left.now ≡ drop 2 parts =
    ap (map (λ (ps : Vec ℕ Global). ps.items)) c.in_ok-left.ensures.left
    ∙ map-drop (λ (ps : Vec ℕ Global). ps.items) c.loop-number.left.now in
    c.loop-number.invariant final (
    subst (λ (es : List (ℕ × Session)). Appends (contents c.loop-number.writer) final
    (rows_of ends part (flat_map both es) parts)) (sym entry) (
    subst (λ (t : List ℕ). Appends (contents c.loop-number.writer) final t) (sym (session-rows ends part e c.next.new.self parts)) (
    Appends-trans (contents c.loop-number.writer) (contents c.write_session.new.writer) final (rows_of ends part (both e) parts)
    (rows_of ends part (flat_map both c.next.new.self) (drop 2 parts)) c.in_ok-left.ensures.text
    (subst (λ (ps : List (List ℕ)). Appends (contents c.write_session.new.writer) final
    (rows_of ends part (flat_map both c.next.new.self) ps)) left more))))

pub returns : goal.returns
returns g c =
    let contents = g.W.Write.contents in
    let ends = c.args.self.now.ends in
    let part = c.args.part in
    let clock : Option ℕ = clock_of part c.args.self.now.clock in
    let parts : List (List ℕ) = map (λ (ps : Vec ℕ Global). ps.items) c.loop-number.left.now in
    let all : List (List ℕ) = map (λ (ps : Vec ℕ Global). ps.items) c.args.self.now.directions.items in
    let none : c.loop-number.number-iterator ≡ [] = c.in-None.ensures.steps.0 in
    let head = subst (λ (o : Option ℕ). Appends (contents c.args.writer.now) (contents c.write.new.writer) (head_text c.args.head.now o))
    c.clock_of.ensures c.in_ok-write.ensures in
    let rows = c.loop-number.invariant (contents c.loop-number.writer) (
    subst (λ (es : List (ℕ × Session)). Appends (contents c.loop-number.writer) (contents c.loop-number.writer)
    (rows_of ends part (flat_map both es) parts)) (sym none) (Appends-nil (contents c.loop-number.writer))) in
    Appends-trans (contents c.args.writer.now) (contents c.write.new.writer) (contents c.loop-number.writer)
    (head_text c.args.head.now clock)
    (rows_of ends part (directions_of c.args.present.now) all) head rows
