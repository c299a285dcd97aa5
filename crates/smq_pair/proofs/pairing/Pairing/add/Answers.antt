use Rattle.std.proofs.Common.{refl, sym, ap, ◌∙◌, subst}
use Rattle.smq_pair.specs.declared.paired_pdu.PairedPdu.{PairedPdu}
use Rattle.smq_pair.specs.declared.paired_pdu.PduLink.TheVariants.{Alone}
use Rattle.smq_pair.specs.Paired.{PairedValue}
use Rattle.smq_pair.specs.within.Kept.{entries_in, settled_entries, with_its}
use Rattle.smq_pair.specs.within.Waits.{Holds, Waits, meeting_at}
use Rattle.smq_pair.proofs.Steps.{Adds, adds-alone, adds-met}
use Rattle.smq_pair.proofs.pairing.Pairing.add.Goals as goal

-- the entry that is added of a series
abbrev met : goal.In_ok-meet-in-Some → PairedPdu
met c = with_its (meeting_at c.in-Some.series c.args.place.offset c.self.inside.waits.content (entries_in c.self.inside.streams)).link
    (record { seq = c.args.seq; command = c.args.command; status = c.args.status; link = Alone })

added-met : (c : goal.In_ok-meet-in-Some) → Adds c.meet.new.waits.content (entries_in c.self.inside.streams) c.args.self.now.pdus c.args.place (met c)
    (entries_in c.meet.new.streams)
added-met c =
    adds-met c.self.inside.waits.content (entries_in c.self.inside.streams) c.args.self.now.pdus c.args.place (met c) c.self.invariant.0
    (ap (λ (v : PairedValue). v.pdus) c.self.view_is) c.requires.next c.meet.new.waits.content c.in-Some.series (sym c.in-Some.ensures)
    c.in_ok-meet-in-Some.ensures.ordered c.in_ok-meet-in-Some.ensures.waits refl (entries_in c.meet.new.streams) c.in_ok-meet-in-Some.ensures.streams

-- and of none
abbrev passed : goal.In_ok-add-in-None → PairedPdu
passed c = record { seq = c.args.seq; command = c.args.command; status = c.args.status; link = Alone }

added-alone : (c : goal.In_ok-add-in-None) → Adds c.self.inside.waits.content (entries_in c.self.inside.streams) c.args.self.now.pdus c.args.place (passed c)
    (entries_in c.add.new.self)
added-alone c =
    adds-alone c.self.inside.waits.content (entries_in c.self.inside.streams) c.args.self.now.pdus c.args.place (passed c) c.self.invariant.0
    (ap (λ (v : PairedValue). v.pdus) c.self.view_is) c.requires.next (sym c.in-None.ensures) refl (entries_in c.add.new.self)
    c.in_ok-add-in-None.ensures.added

pub invariant_of-self-in-Some : goal.invariant_of-self-in-Some
invariant_of-self-in-Some c = (
  (added-met c).holds,
  subst (λ (m : Waits). Holds m (settled_entries c.meet.new.streams)) (sym c.in_ok-meet-in-Some.ensures.settled)
      (subst (Holds c.self.inside.waits.settled) (sym c.in_ok-meet-in-Some.ensures.settled_streams) c.self.invariant.1),
)

pub invariant_of-self-in-None : goal.invariant_of-self-in-None
invariant_of-self-in-None c = (
  (added-alone c).holds,
  subst (Holds c.self.inside.waits.settled) (sym c.in_ok-add-in-None.ensures.settled) c.self.invariant.1,
)

pub returns-in_ok-meet-in-Some-clause-added : goal.returns-in_ok-meet-in-Some-clause-added
returns-in_ok-meet-in-Some-clause-added c = (added-met c).pdus

pub returns-in_ok-meet-in-Some-clause-made : goal.returns-in_ok-meet-in-Some-clause-made
returns-in_ok-meet-in-Some-clause-made c = c.in_ok-meet-in-Some.ensures.made ∙ (added-met c).pair

pub returns-in_ok-add-in-None-clause-added : goal.returns-in_ok-add-in-None-clause-added
returns-in_ok-add-in-None-clause-added c = (added-alone c).pdus

pub returns-in_ok-add-in-None-clause-made : goal.returns-in_ok-add-in-None-clause-made
returns-in_ok-add-in-None-clause-made c = c.in_ok-add-in-None.ensures.made ∙ (added-alone c).pair
