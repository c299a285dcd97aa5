-- The orders by which the maps of members compare their keys.
use Rattle.std.specs.declared.cmp.Ordering.{Ordering}
use Rattle.smq_group.specs.declared.member.Member.{Member}
use Rattle.smq_group.specs.declared.member.Candidate.{Candidate}
use Rattle.smq_group.specs.contracts.member.MemberOrd.TheImpl as member_ord
use Rattle.smq_group.specs.contracts.member.CandidateOrd.TheImpl as candidate_ord

abbrev pub kept_member_cmp : Member → Member → Ordering
kept_member_cmp = (member_ord.ghosts).cmp

abbrev pub kept_candidate_cmp : Candidate → Candidate → Ordering
kept_candidate_cmp = (candidate_ord.ghosts).cmp
