use Rattle.std.proofs.Common.{refl}
use Rattle.std.specs.Str.{chars, is_utf8}
use Rattle.toml.proofs.OnLiterals.{toml_on_literals}
use Rattle.smq_load.proofs.laws.known_settings.Goals as goal

pub returns : goal.returns
unfolding chars is_utf8 toml_on_literals
returns c = record {
  empty = refl;
  comment = refl;
  link = refl;
  clock_last = refl;
  window_after_its_forms = refl;
  least_window = refl;
  greatest_window = refl;
  no_window = refl;
  past_window = refl;
  negative_window = refl;
  window_text = refl;
  window_of_none = refl;
  last_clock = refl;
  past_clock = refl;
  negative = refl;
  float = refl;
  text = refl;
  last_link = refl;
  past_link = refl;
  no_id = refl;
  twice = refl;
  twice_apart = refl;
  no_array = refl;
  other_form = refl;
  no_form = refl;
  no_response_form = refl;
  other_key = refl;
  other_link_key = refl;
  no_toml = refl;
  no_text = refl;
}
