-- What is written from here on of the sessions that are left makes the rows of all.
use Rattle.std.proofs.Common.{ℕ, List, Option, Vec, Global, map}
use Rattle.std.specs.List.{flat_map}
use Rattle.std.specs.Io.KnownBytes.{Appends}
use Rattle.smq_deal.specs.Texts.{both, directions_of, rows_of}
use Rattle.smq_deal.proofs.dealt.Dealt.write.Given as goal

abbrev pub invariant-loop-number : goal.invariant-loop-number
invariant-loop-number g l = (final : Option (List ℕ))
    → Appends (g.W.Write.contents l.writer) final
    (rows_of l.self.ends l.part (flat_map both l.number-iterator) (map (λ (parts : Vec ℕ Global). parts.items) l.left))
    → Appends (g.W.Write.contents l.initial.writer) final
    (rows_of l.self.ends l.part (directions_of l.present) (map (λ (parts : Vec ℕ Global). parts.items) l.self.directions.items))
