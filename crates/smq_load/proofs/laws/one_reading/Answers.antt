use Rattle.std.proofs.Common.{◌+◌, length, arith, refl, sym, ap, ◌∙◌, subst, map}
use Rattle.csv.specs.Reading.{strip_bom}
use Rattle.csv.specs.declared.parser.State.TheVariants as st
use Rattle.smq_load.specs.Row.{row_of}
use Rattle.smq_load.proofs.OneReadingLemmas.{IsBadAfter, first-unique, rows-unique, rows_or_bad, script_and_bad}
use Rattle.smq_load.proofs.ScriptLemmas.{AreRecords-exist, AreRecords-unique}
use Rattle.smq_load.proofs.laws.one_reading.Goals as goal

pub returns : goal.returns
returns c = record {
  some_records = λ text. AreRecords-exist (length (strip_bom text)) st.StartRecord (strip_bom text) (omega arith) refl;
  rows_or_bad = λ text.
      let (records, all) = AreRecords-exist (length (strip_bom text)) st.StartRecord (strip_bom text) (omega arith) refl in
      rows_or_bad text records all;
  one_records = λ text a b h k. AreRecords-unique st.StartRecord (strip_bom text) a b h k;
  one_rows = λ text a b h k.
      let same = AreRecords-unique st.StartRecord (strip_bom text) h.records k.records h.are_records k.are_records in
      rows-unique a b (sym h.say_rows ∙ ap (map row_of) same ∙ k.say_rows);
  one_bad = λ text a b h k.
      let same = AreRecords-unique st.StartRecord (strip_bom text) _ _ h.are_records k.are_records in
      let length_same = first-unique 0 h.before k.before h.bad k.bad h.after k.after h.rows k.rows same h.say_rows k.say_rows
      (omega (arith, h.in_range)) (omega (arith, k.in_range)) (subst (λ n. IsBadAfter n h.bad) (omega arith) h.is_bad)
      (subst (λ n. IsBadAfter n k.bad) (omega arith) k.is_bad) in
      h.numbered ∙ ap (λ n. n + 1) length_same ∙ sym k.numbered;
  apart = λ text rows number h k.
      let same = AreRecords-unique st.StartRecord (strip_bom text) _ _ h.are_records k.are_records in
      script_and_bad 0 k.before k.bad k.after rows (rw (← same) h.say_rows) (omega (arith, ap length same, h.in_range))
      (subst (λ n. IsBadAfter n k.bad) (omega arith) k.is_bad);
}
