use Rattle.std.proofs.Common.{◌∙◌, ap, sym, refl, inr, []}
use Rattle.std.specs.Prelude.{option_map}
use Rattle.csv.specs.Reading.{Reached, strip_bom}
use Rattle.smq_load.proofs.script.record_reader.Goals as goal

pub returns-clause-start : goal.returns-clause-start
unfolding Reached
returns-clause-start g c text is =
    let from = c.from_reader.ensures in
    let named = c.has_headers.ensures in
    let flexible = c.flexible.ensures in
    record {
      untrimmed = rw (flexible, named) at from.trim ∙ c.new.ensures.trim;
      ready = inr (inr (rw (flexible, named) at from.has_headers, from.headers));
      config = rw (flexible, named) at from.config ∙ c.new.ensures.config;
      rest = strip_bom text;
      source = from.source ∙ ap (option_map strip_bom) is;
      reached = (sym from.state, refl);
    }
