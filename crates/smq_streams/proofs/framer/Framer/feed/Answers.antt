use Rattle.std.proofs.Common.{◌≡◌, ◌+◌, ◌-◌, ◌++◌, ◌≤◌, ℕ, length, take, drop, arith, length-drop, length-take, append_assoc, subst, List, sym, ap, ◌∙◌}
use Rattle.std.proofs.Math.Seq.{take-add}
use Rattle.std.proofs.lemmas.List.{take_all}
use Rattle.smq_streams.specs.Framing.{IsFramed}
use Rattle.smq_streams.proofs.framer.Framer.feed.Goals as goal

pub loop-at-preserved : goal.loop-at-preserved
loop-at-preserved c =
    record {
      within = omega (arith, c.take-at.ensures.most, length-take (length c.args.octets.now - c.loop-at.at) (drop c.loop-at.at c.args.octets.now), length-drop c.loop-at.at c.args.octets.now, c.loop-at-test.true);
      fed = λ before f.
          let o : List ℕ = c.args.octets.now in
          let at : ℕ = c.loop-at.at in
          let rest : take (length o - at) (drop at o) ≡ drop at o = take_all _ _ (omega (arith, length-drop at o)) in
          let same : (before ++ take at o) ++ take c.take-at.result (take (length o - at) (drop at o)) ≡ before ++ take (at + c.take-at.result) o =
          ap (λ (x : List ℕ). (before ++ take at o) ++ take c.take-at.result x) rest
          ∙ append_assoc before (take at o) (take c.take-at.result (drop at o))
          ∙ ap (λ (x : List ℕ). before ++ x) (sym (take-add at c.take-at.result o)) in
          subst (λ (x : List ℕ). IsFramed x c.take-at.new.self) same (c.take-at.ensures.takes (before ++ take at o) (c.loop-at.invariant.fed before f));
    }
