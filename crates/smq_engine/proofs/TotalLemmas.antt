-- A total of a script is a run of it.
use Rattle.std.proofs.Common.{◌≤◌, ℕ, List, length, Option, inl, inr, arith}
use Rattle.smq_kit.specs.declared.refusal.Refusal.{Refusal}
use Rattle.smq_load.specs.Script.{IsFirstBad, most_records}
use Rattle.smq_load.proofs.NextRecordLemmas.{length-SayRows}
use Rattle.smq_report.specs.declared.pick.Output.{Output}
use Rattle.smq_engine.specs.declared.runs.Limit.TheVariants.{Script, Unlimited}
use Rattle.smq_engine.specs.IsRun.{IsRun, SaysNoRow, output_text}

pub run-total : (output : Output) (settings : List ℕ) (refused : List (ℕ × Refusal)) (old new : Option (List ℕ)) (text : List ℕ)
    → IsRun Script (output_text output) settings refused old new text → IsRun Unlimited (output_text output) settings refused old new text
run-total output settings refused old new text h =
    let script = h.are_rows in
    record {
      settings_rows = h.settings_rows;
      rows = h.rows;
      are_settings = h.are_settings;
      are_rows = record { records = script.records; are_records = script.are_records; say_rows = script.say_rows };
      refused_are = h.refused_are;
      written = h.written;
    }

pub total-run : (output : Output) (settings : List ℕ) (refused : List (ℕ × Refusal)) (old new : Option (List ℕ)) (text : List ℕ)
    → (all : IsRun Unlimited (output_text output) settings refused old new text) → length all.rows ≤ most_records
    → IsRun Script (output_text output) settings refused old new text
total-run output settings refused old new text all few =
    let rows = all.are_rows in
    let count = length-SayRows rows.records all.rows rows.say_rows in
    record {
      settings_rows = all.settings_rows;
      rows = all.rows;
      are_settings = all.are_settings;
      are_rows = record {
        records = rows.records;
        are_records = rows.are_records;
        say_rows = rows.say_rows;
        in_range = omega (arith, count, few);
      };
      refused_are = all.refused_are;
      written = all.written;
    }

pub bad-no_row : (text : List ℕ) (number : ℕ) → IsFirstBad text number → number ≤ most_records → SaysNoRow text number
bad-no_row text number h few =
    let numbered = h.numbered in
    record {
      before = h.before;
      bad = h.bad;
      after = h.after;
      are_records = h.are_records;
      numbered = h.numbered;
      rows = h.rows;
      say_rows = h.say_rows;
      is_bad = elim h.is_bad [ inl none ↦ none | inr full ↦ absurd (omega (arith, full, numbered, few)) ];
    }

pub no_row-bad : (text : List ℕ) (number : ℕ) → SaysNoRow text number → number ≤ most_records → IsFirstBad text number
no_row-bad text number h few =
    let numbered = h.numbered in
    record {
      before = h.before;
      bad = h.bad;
      after = h.after;
      are_records = h.are_records;
      numbered = h.numbered;
      rows = h.rows;
      say_rows = h.say_rows;
      in_range = omega (arith, numbered, few);
      is_bad = inl h.is_bad;
    }
