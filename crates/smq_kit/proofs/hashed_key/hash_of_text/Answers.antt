use Rattle.std.proofs.Common.{ap, sym, ◌∙◌}
use Rattle.std.proofs.lemmas.List.{drop_more, drop_all}
use Rattle.smq_kit.specs.Hashes.{hash_of_text}
use Rattle.smq_kit.proofs.hashed_key.hash_of_text.Goals as goal

pub loop-octet-preserved : goal.loop-octet-preserved
loop-octet-preserved c = record {
  hash = sym (ap (hash_of_text c.loop-octet.hash) (drop_more c.args.octets.now c.loop-octet.octet-index 0 c.loop-octet-test.true))
      ∙ c.loop-octet.invariant.hash;
}

pub returns : goal.returns
returns c =
    sym (ap (hash_of_text c.loop-octet.hash) (drop_all c.loop-octet.octet-index c.args.octets.now c.loop-octet-test.false))
    ∙ c.loop-octet.invariant.hash
