-- A pattern stands at a place exactly where the text has it there.
use Rattle.std.proofs.Common.{◌≡◌, ℕ, ◌≤◌, List, ◌++◌, length, take, drop, map, true, sym, ap, ◌∙◌}
use Rattle.std.specs.Char.{to_ascii_lowercase}
use Rattle.std.proofs.lemmas.Slice.Eq.{bytes_eq-Decides}
use Rattle.std.proofs.lemmas.List.{take-append-drop, length-take-le, length-map, drop_at, take_at}
use Rattle.smq_receipt.specs.Texts.{same_letters, stands_at, Stands, FindsPatterns}

stands_from : (pattern text : List ℕ) (place : ℕ) → place ≤ length text → stands_at pattern text place ≡ true → Stands pattern text place
unfolding stands_at same_letters
stands_from pattern text place within is = record {
  front = take place text;
  found = take (length pattern) (drop place text);
  rest = drop (length pattern) (drop place text);
  parts = sym (ap (λ (r : List ℕ). take place text ++ r) (take-append-drop (length pattern) (drop place text)) ∙ take-append-drop place text);
  starts = length-take-le place text within;
  same = (bytes_eq-Decides _ _).0 is;
}

is_standing : (pattern text : List ℕ) (place : ℕ) → Stands pattern text place → stands_at pattern text place ≡ true
unfolding stands_at same_letters
is_standing pattern text place s =
    let as_long : length s.found ≡ length pattern = sym (length-map s.found to_ascii_lowercase) ∙ ap length s.same
    ∙ length-map pattern to_ascii_lowercase in
    let from_place : drop place text ≡ s.found ++ s.rest = ap (λ (t : List ℕ). drop place t) s.parts
    ∙ drop_at s.front (s.found ++ s.rest) place s.starts in
    let there : take (length pattern) (drop place text) ≡ s.found = ap (λ (t : List ℕ). take (length pattern) t) from_place
    ∙ take_at s.found s.rest (length pattern) as_long in
    rw there ((bytes_eq-Decides (map to_ascii_lowercase s.found) (map to_ascii_lowercase pattern)).1 s.same)

pub finds_patterns : FindsPatterns
finds_patterns pattern text place within = (stands_from pattern text place within, is_standing pattern text place)
