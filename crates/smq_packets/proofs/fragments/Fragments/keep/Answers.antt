use Rattle.std.proofs.Common.{◌≡◌, [], ◌∷◌, ◌++◌, drop, not, filter, Some, None, refl, sym, ◌∙◌, rules, arith}
use Rattle.std.proofs.lemmas.Fn.{filter_same}
use Rattle.std.proofs.lemmas.Grind.{common_steps}
use Rattle.smq_packets.specs.Fragments.{belongs, joined_of}
use Rattle.smq_packets.proofs.fragments.Fragments.keep.Goals as goal

pub returns-clause-whole : goal.returns-clause-whole
returns-clause-whole c =
    let kept : c.push.new.self.items ≡ drop c.make_room.result c.args.self.now.parts ++ c.in_ok-part.part ∷ [] =
    grind (arith, common_steps)
    in
    let found : joined_of c.push.new.self.items c.args.fragment ≡ Some c.in-Some.octets.items =
    search rules
    in
    record {
      gone = c.make_room.result;
      part = c.in_ok-part.part;
      room = search rules;
      is_part = search rules;
      octets = rw (← kept) found;
      parts = rw (← kept) (filter_same _ _ _ (λ x b f' k. search rules) _ _ c.retain.ensures.filtered);
      dropped = search rules;
      source = refl;
      destination = refl;
      protocol = refl;
    }

pub returns-in_default-clause-waits : goal.returns-in_default-clause-waits
returns-in_default-clause-waits c =
    let kept : c.push.new.self.items ≡ drop c.make_room.result c.args.self.now.parts ++ c.in_ok-part.part ∷ [] =
    grind (arith, common_steps)
    in
    let no_more : joined_of c.push.new.self.items c.args.fragment ≡ None = search rules in
    λ _. record {
      gone = c.make_room.result;
      part = c.in_ok-part.part;
      room = search rules;
      is_part = search rules;
      parts = kept;
      none = no_more;
      dropped = search rules;
    }
