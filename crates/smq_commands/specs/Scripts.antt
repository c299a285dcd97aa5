-- The names of scripts of links, days and hours in their folder.
use Rattle.std.specs.Prelude.{ℕ, List, ◌++◌, codes, decimal}
use Rattle.smq_count.specs.Months.{day_text, hour_text}
use Rattle.smq_parts.specs.declared.by.By.{By}
use Rattle.smq_parts.specs.declared.by.By.TheVariants as by
use Rattle.smq_parts.specs.declared.by.Part.{Part}

-- of the script of a link
abbrev pub link_name : ℕ → List ℕ
link_name link = codes "link-" ++ decimal link ++ codes ".csv"

-- of a script, where rows are split by this
abbrev pub script_name : By → Part → List ℕ
script_name by.Link part = link_name part.link
script_name by.Day part = day_text part.period ++ codes ".csv"
script_name by.Hour part = hour_text part.period ++ codes ".csv"
script_name by.LinkAndDay part = day_text part.period ++ codes "/" ++ link_name part.link
script_name by.LinkAndHour part = hour_text part.period ++ codes "/" ++ link_name part.link
