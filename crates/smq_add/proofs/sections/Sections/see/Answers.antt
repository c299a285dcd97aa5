use Rattle.std.proofs.Common.{◌∙◌, sym}
use Rattle.smq_add.proofs.ApartLemmas.{knows-first, knows-other, knows-same, sections-decided}
use Rattle.smq_add.proofs.sections.Sections.see.Goals as goal

pub returns-then-eq : goal.returns-then-eq
returns-then-eq c seen k =
    knows-same seen c.args.self.now c.in-Some.first c.args.section k c.in-Some.is
    ((sections-decided c.in-Some.first c.args.section).0 (sym c.eq.ensures ∙ c.if-eq.true))

pub returns-else-eq : goal.returns-else-eq
returns-else-eq c seen k =
    knows-other seen c.args.self.now c.in-Some.first c.args.section k c.in-Some.is
    (λ e. let same = (sections-decided c.in-Some.first c.args.section).1 e in let told = sym c.eq.ensures ∙ c.if-eq.false in absurd (cc))

pub returns-in-None : goal.returns-in-None
returns-in-None c seen k = knows-first seen c.args.self.now c.args.section k c.in-None.is
