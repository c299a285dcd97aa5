-- What one record more adds to what is present, refused and said.
use Rattle.std.proofs.Common.{◌≡◌, ◌+◌, ℕ, suc, List, [], ◌∷◌, ◌++◌, length, take, map, Option, Some, None, Result, Ok, Err, refl, sym, ap, ◌∙◌, subst, arith, append-nil, append_assoc}
use Rattle.std.proofs.lemmas.List.{length-append}
use Rattle.std.proofs.lemmas.List.Sums.{fold-append, sum-map, sum_by-append}
use Rattle.std.proofs.lemmas.Grind.{flat_map-append}
use Rattle.std.proofs.KnownBytes.{Appends-nil, Keeps-refl}
use Rattle.std.specs.Prelude.{IfErr, IfOk, IfSome, IsErrAnd, codes, filter, sum, sum_by, true}
use Rattle.std.specs.List.{list_all}
use Rattle.std.specs.Fmt.{decimal}
use Rattle.std.specs.Io.KnownBytes.{Appends}
use Rattle.smq_kit.specs.declared.refusal.Refusal.{Refusal}
use Rattle.smq_present.specs.present.Present.{PresentValue, empty}
use Rattle.smq_present.specs.present.Steps.{step, steps}
use Rattle.smq_load.specs.declared.record.Row as rows
use Rattle.smq_engine.specs.Play.{after_row, after_rows, edits_from, present_of, refusal_of, refused_from, refused_of, row_edits, told}
use Rattle.smq_engine.proofs.PlayLemmas.{rows-then}
use Rattle.smq_report.specs.declared.pick.Format.{Format}
use Rattle.smq_engine.specs.declared.run_fault.RunFault.{RunFault}
use Rattle.smq_engine.specs.declared.run_fault.RunFault.TheVariants as fault
use Rattle.smq_engine.specs.declared.question.Question.{Question}
use Rattle.smq_engine.specs.declared.record.Loss.{Loss}
use Rattle.smq_engine.specs.declared.record.Record.{Record}
use Rattle.smq_engine.specs.declared.record.Record.TheVariants.{Ask, Lost, Row}
use Rattle.smq_engine.specs.declared.totals.Totals.{Totals}
use Rattle.smq_engine.specs.Record.{question_name}
use Rattle.smq_present.specs.join.Lines.{MessageLineValue}
use Rattle.smq_count.specs.declared.column.Column.{Column}
use Rattle.smq_count.specs.declared.counting.Condition.{Condition}
use Rattle.smq_count.specs.declared.counting.Counting.{Counting}
use Rattle.smq_count.specs.declared.local.Zone.TheVariants.{Utc}
use Rattle.smq_count.specs.Counts.{counts_text, has_text, is_counted}
use Rattle.smq_engine.specs.Answers.{columns_text, loss_in, losses_of, present_after, refusal_line, refusal_to, refused_after, row_in, rows_of, said_of, told_line, totals_after, totals_text}
use Rattle.smq_engine.specs.Followed.{held}
use Rattle.smq_engine.specs.within.Steps.{ArePlayed, EndsSaying, EndsStep, count_of}

-- two faults are two
pub memory-is-another : fault.Memory ≡ fault.BadSettings → ⊥
memory-is-another is = absurd cc

-- what an error that is passed on tells
pub passed_on : {A F : Type 0} (P : F → Type 0) (r : Result A F) (fault : F) → IsErrAnd r (λ e. e ≡ fault) → P fault → IfErr r P
passed_on P (Ok a) fault h p = tt
passed_on P (Err e) fault h p = rw h p

-- what holds of a value that is there
pub some_is : {X : Type 0} (P : X → Type 0) (o : Option X) (x : X) → o ≡ Some x → IfSome o P → P x
some_is P None x h p = cc
some_is P (Some y) x h p = let same : y ≡ x = cc in subst P same p

-- a line is another text that is the same
pub line_is : {T E : Type 0} (r : Result T E) (text : T → List ℕ) (a b : List ℕ) → IfOk r (λ line. text line ≡ a) → a ≡ b
    → IfOk r (λ line. text line ≡ b)
line_is (Ok line) text a b h same = h ∙ same
line_is (Err e) text a b h same = tt

-- five texts, joined from the right and from the left
join-five : (a b c d e : List ℕ) → a ++ (b ++ (c ++ (d ++ e))) ≡ a ++ b ++ c ++ d ++ e
join-five a b c d e = simp append_assoc

-- nine
join-nine : (a b c d e f g h i : List ℕ) → a ++ (b ++ (c ++ (d ++ (e ++ (f ++ (g ++ (h ++ i)))))))
    ≡ a ++ b ++ c ++ d ++ e ++ f ++ g ++ h ++ i
join-nine a b c d e f g h i = simp append_assoc

-- the parts of a line that ends an answer, joined from the right
pub told_parts : (number clock time : ℕ) (totals : Totals) (name text : List ℕ) (question : Question) → name ≡ question_name question
    → time ≡ clock → text ≡ totals_text totals
    → codes "told," ++ (decimal number ++ (codes "," ++ (name ++ (codes "," ++ (decimal time ++ (codes "," ++ (text ++ 10 ∷ [])))))))
    ≡ told_line number question clock totals
told_parts number clock time totals name text question named same told =
    join-nine (codes "told,") (decimal number) (codes ",") name (codes ",") (decimal time) (codes ",") text (10 ∷ [])
    ∙ ap (λ (l : List ℕ). codes "told," ++ decimal number ++ codes "," ++ l ++ codes "," ++ decimal time ++ codes "," ++ text ++ 10 ∷ []) named
    ∙ ap (λ (n : ℕ). codes "told," ++ decimal number ++ codes "," ++ question_name question ++ codes "," ++ decimal n ++ codes "," ++ text ++ 10 ∷ []) same
    ∙ ap (λ (l : List ℕ). codes "told," ++ decimal number ++ codes "," ++ question_name question ++ codes "," ++ decimal clock ++ codes "," ++ l ++ 10 ∷ []) told

-- the parts of totals, joined from the right
pub totals_parts : (totals : Totals) → decimal totals.refused ++ (codes "," ++ (decimal totals.gaps ++ (codes "," ++ decimal totals.octets)))
    ≡ totals_text totals
totals_parts totals = join-five (decimal totals.refused) (codes ",") (decimal totals.gaps) (codes ",") (decimal totals.octets)

-- the parts of the line of a refusal, joined from the right
pub refusal_parts : (number : ℕ) (text : List ℕ) → codes "row " ++ (decimal number ++ (codes ": " ++ (text ++ 10 ∷ [])))
    ≡ codes "row " ++ decimal number ++ codes ": " ++ text ++ 10 ∷ []
refusal_parts number text = join-five (codes "row ") (decimal number) (codes ": ") text (10 ∷ [])

-- where there is no condition, all messages are counted
filter-all : (counting : Counting) (lines : List MessageLineValue) → counting.conditions.items ≡ []
    → filter (is_counted counting) lines ≡ lines
filter-all counting [] none = refl
filter-all counting (line ∷ lines) none =
    let counts : is_counted counting line ≡ true = ap (λ (conditions : List Condition). list_all (has_text counting.zone line) conditions) none in
    rw counts (ap (λ (all : List MessageLineValue). line ∷ all) (filter-all counting lines none))

pub counts-all : (counting : Counting) (columns : List Column) (lines : List MessageLineValue) → counting.columns.items ≡ columns
    → counting.conditions.items ≡ [] → counting.zone ≡ Utc → counts_text counting lines ≡ columns_text columns lines
counts-all counting columns lines are none utc =
    rw (filter-all counting lines none, are, utc) refl

-- what is said of one record more
pub said-more : (say : List Record → Record → List ℕ) (before records : List Record) (r : Record)
    → said_of say before (records ++ r ∷ []) ≡ said_of say before records ++ say (before ++ records) r
said-more say before [] r =
    append-nil (say before r) ∙ ap (λ (all : List Record). say all r) (sym (append-nil before))
said-more say before (q ∷ records) r =
    ap (λ (l : List ℕ). say before q ++ l) (said-more say (before ++ q ∷ []) records r
    ∙ ap (λ (all : List Record). said_of say (before ++ q ∷ []) records ++ say all r) (append_assoc before (q ∷ []) records))
    ∙ sym (append_assoc (say before q) (said_of say (before ++ q ∷ []) records) (say (before ++ q ∷ records) r))

-- what is present after one row more
pub present-more : (settings_rows all : List rows.Row) (row : rows.Row)
    → present_of settings_rows (all ++ row ∷ []) ≡ after_row (present_of settings_rows all) row
present-more settings_rows all row =
    ap (after_rows empty) (sym (append_assoc settings_rows all (row ∷ [])))
    ∙ sym (rows-then empty (settings_rows ++ all) (row ∷ []))
    ∙ ap (steps (present_of settings_rows all)) (append-nil (row_edits (present_of settings_rows all) row))

length-told : (number : ℕ) (refusal : Option Refusal) → length (told number refusal) ≡ count_of refusal
length-told number None = refl
length-told number (Some refusal) = refl

refused_from-more : (number : ℕ) (p : PresentValue) (all : List rows.Row) (row : rows.Row)
    → length (refused_from number p (all ++ row ∷ []))
    ≡ length (refused_from number p all) + count_of (refusal_of (after_rows p all) row)
refused_from-more number p [] row =
    let one : length (told number (refusal_of p row)) ≡ count_of (refusal_of p row) = length-told number (refusal_of p row) in
    rw (append-nil (told number (refusal_of p row))) (omega (arith, one))
refused_from-more number p (first ∷ all) row =
    let next = after_row p first in
    let more = refused_from-more (suc number) next all row in
    let same : after_rows p (first ∷ all) ≡ after_rows next all = fold-append step p (row_edits p first) (edits_from next all) in
    length-append (told number (refusal_of p first)) (refused_from (suc number) next (all ++ row ∷ []))
    ∙ (omega (
      arith,
      more,
      length-append (told number (refusal_of p first)) (refused_from (suc number) next all),
      ap (λ q. count_of (refusal_of q row)) same,
    ))

-- how many are refused with one row more
pub refused-more : (settings_rows all : List rows.Row) (row : rows.Row)
    → length (refused_of settings_rows (all ++ row ∷ []))
    ≡ length (refused_of settings_rows all) + count_of (refusal_of (present_of settings_rows all) row)
refused-more settings_rows all row =
    refused_from-more 1 (after_rows empty settings_rows) all row
    ∙ ap (λ q. length (refused_of settings_rows all) + count_of (refusal_of q row)) (rows-then empty settings_rows all)

rows-more : (records : List Record) (r : Record) → rows_of (records ++ r ∷ []) ≡ rows_of records ++ row_in r
rows-more records r = flat_map-append row_in records (r ∷ []) ∙ ap (λ (l : List rows.Row). rows_of records ++ l) (append-nil (row_in r))

losses-more : (records : List Record) (r : Record) → losses_of (records ++ r ∷ []) ≡ losses_of records ++ loss_in r
losses-more records r = flat_map-append loss_in records (r ∷ []) ∙ ap (λ (l : List Loss). losses_of records ++ l) (append-nil (loss_in r))

-- totals of the same rows and losses are the same
abbrev totals-of : List rows.Row → List rows.Row → List Loss → Totals
totals-of settings_rows all losses = record {
  refused = length (refused_of settings_rows all);
  gaps = length losses;
  octets = sum (map (λ loss. loss.octets) losses);
}

totals-more : (settings_rows : List rows.Row) (before : List Record) (r : Record)
    → totals_after settings_rows (before ++ r ∷ []) ≡ totals-of settings_rows (rows_of before ++ row_in r) (losses_of before ++ loss_in r)
totals-more settings_rows before r =
    ap (λ (all : List rows.Row). totals-of settings_rows all (losses_of (before ++ r ∷ []))) (rows-more before r)
    ∙ ap (totals-of settings_rows (rows_of before ++ row_in r)) (losses-more before r)

-- one row more is played
pub played-row : (settings_rows : List rows.Row) (before : List Record) (row : rows.Row) (old new : PresentValue) (totals : Totals)
    (refusal : Option Refusal) → ArePlayed settings_rows before old totals → refusal ≡ refusal_of old row → new ≡ after_row old row
    → ArePlayed settings_rows (before ++ Row row ∷ []) new (record totals { refused = totals.refused + count_of refusal })
played-row settings_rows before row old new totals refusal h is made = record {
  is_present = made ∙ ap (λ p. after_row p row) h.is_present ∙ sym (present-more settings_rows (rows_of before) row)
      ∙ ap (present_of settings_rows) (sym (rows-more before (Row row)));
  are_totals =
      let more = refused-more settings_rows (rows_of before) row in
      let count : count_of refusal ≡ count_of (refusal_of (present_after settings_rows before) row) =
      ap count_of is ∙ ap (λ p. count_of (refusal_of p row)) h.is_present in
      let were = ap (λ (t : Totals). t.refused) h.are_totals in
      let all : totals.refused + count_of refusal ≡ length (refused_of settings_rows (rows_of before ++ row ∷ [])) =
      omega (arith, more, count, were) in
      ap (λ (n : ℕ). record totals { refused = n }) all
      ∙ ap (λ (n : ℕ). record totals { refused = length (refused_of settings_rows (rows_of before ++ row ∷ [])); gaps = n })
      (ap (λ (t : Totals). t.gaps) h.are_totals)
      ∙ ap (λ (n : ℕ). record {
        refused = length (refused_of settings_rows (rows_of before ++ row ∷ []));
        gaps = length (losses_of before);
        octets = n;
      }) (ap (λ (t : Totals). t.octets) h.are_totals)
      ∙ ap (totals-of settings_rows (rows_of before ++ row ∷ [])) (sym (append-nil (losses_of before)))
      ∙ sym (totals-more settings_rows before (Row row));
}

-- the same, of a record that is a row
pub played-said_row : (settings_rows : List rows.Row) (before : List Record) (said : Record) (row : rows.Row) (old new : PresentValue)
    (totals counted : Totals) (refusal : Option Refusal) → said ≡ Row row → counted ≡ record totals { refused = totals.refused + count_of refusal }
    → ArePlayed settings_rows before old totals → refusal ≡ refusal_of old row → new ≡ after_row old row
    → ArePlayed settings_rows (before ++ said ∷ []) new counted
played-said_row settings_rows before said row old new totals counted refusal said_is is_counted h is made =
    rw (said_is, is_counted) (played-row settings_rows before row old new totals refusal h is made)

-- a record that is no row and tells of no gap
kept-more : (settings_rows : List rows.Row) (before : List Record) (r : Record) → row_in r ≡ [] → loss_in r ≡ []
    → totals_after settings_rows before ≡ totals-of settings_rows (rows_of before ++ row_in r) (losses_of before ++ loss_in r)
kept-more settings_rows before r no_row no_loss =
    ap (λ (all : List rows.Row). totals-of settings_rows all (losses_of before)) (sym (append-nil (rows_of before)))
    ∙ ap (totals-of settings_rows (rows_of before ++ [])) (sym (append-nil (losses_of before)))
    ∙ ap (λ (more : List rows.Row). totals-of settings_rows (rows_of before ++ more) (losses_of before ++ [])) (sym no_row)
    ∙ ap (λ (more : List Loss). totals-of settings_rows (rows_of before ++ row_in r) (losses_of before ++ more)) (sym no_loss)

-- a question plays nothing
pub played-said_ask : (settings_rows : List rows.Row) (before : List Record) (said : Record) (question : Question) (present : PresentValue)
    (totals : Totals) → said ≡ Ask question → ArePlayed settings_rows before present totals
    → ArePlayed settings_rows (before ++ said ∷ []) present totals
played-said_ask settings_rows before said question present totals said_is h = record {
  is_present = h.is_present ∙ ap (present_of settings_rows) (sym (append-nil (rows_of before)))
      ∙ ap (λ (r : Record). present_of settings_rows (rows_of before ++ row_in r)) (sym said_is)
      ∙ ap (present_of settings_rows) (sym (rows-more before said));
  are_totals = h.are_totals ∙ kept-more settings_rows before said (ap row_in said_is) (ap loss_in said_is)
      ∙ sym (totals-more settings_rows before said);
}

abbrev octets-of : Loss → ℕ
octets-of loss = loss.octets

octets-more : (losses : List Loss) (loss : Loss)
    → sum (map (λ l. l.octets) (losses ++ loss ∷ [])) ≡ sum (map (λ l. l.octets) losses) + loss.octets
octets-more losses loss =
    sum-map octets-of (losses ++ loss ∷ []) ∙ sum_by-append octets-of losses (loss ∷ [])
    ∙ (let one : sum_by octets-of (loss ∷ []) ≡ loss.octets = omega arith in
    let all = sum-map octets-of losses in omega (arith, one, all))

-- one gap more is counted
pub played-said_loss : (settings_rows : List rows.Row) (before : List Record) (said : Record) (loss : Loss) (present : PresentValue)
    (totals counted : Totals) → said ≡ Lost loss → counted ≡ record totals { gaps = totals.gaps + 1; octets = totals.octets + loss.octets }
    → ArePlayed settings_rows before present totals → ArePlayed settings_rows (before ++ said ∷ []) present counted
played-said_loss settings_rows before said loss present totals counted said_is is_counted h = record {
  is_present = h.is_present ∙ ap (present_of settings_rows) (sym (append-nil (rows_of before)))
      ∙ ap (λ (r : Record). present_of settings_rows (rows_of before ++ row_in r)) (sym said_is)
      ∙ ap (present_of settings_rows) (sym (rows-more before said));
  are_totals =
      let gaps : totals.gaps + 1 ≡ length (losses_of before ++ loss ∷ []) =
      omega (arith, length-append (losses_of before) (loss ∷ []), ap (λ (t : Totals). t.gaps) h.are_totals) in
      let octets : totals.octets + loss.octets ≡ sum (map (λ l. l.octets) (losses_of before ++ loss ∷ [])) =
      omega (arith, octets-more (losses_of before) loss, ap (λ (t : Totals). t.octets) h.are_totals) in
      is_counted
      ∙ ap (λ (n : ℕ). record { refused = n; gaps = totals.gaps + 1; octets = totals.octets + loss.octets }) (ap (λ (t : Totals). t.refused) h.are_totals)
      ∙ ap (λ (n : ℕ). record { refused = refused_after settings_rows before; gaps = n; octets = totals.octets + loss.octets }) gaps
      ∙ ap (λ (n : ℕ). record { refused = refused_after settings_rows before; gaps = length (losses_of before ++ loss ∷ []); octets = n }) octets
      ∙ ap (λ (all : List rows.Row). totals-of settings_rows all (losses_of before ++ loss ∷ [])) (sym (append-nil (rows_of before)))
      ∙ ap (λ (more : List rows.Row). totals-of settings_rows (rows_of before ++ more) (losses_of before ++ loss ∷ [])) (sym (ap row_in said_is))
      ∙ ap (λ (more : List Loss). totals-of settings_rows (rows_of before ++ row_in said) (losses_of before ++ more)) (sym (ap loss_in said_is))
      ∙ sym (totals-more settings_rows before said);
}

-- the line of a row's refusal is what is told of it
line-row : (settings_rows : List rows.Row) (before : List Record) (said : Record) (row : rows.Row) (present : PresentValue)
    (totals : Totals) (number : ℕ) (refusal : Option Refusal) → said ≡ Row row → number ≡ length before + 1
    → ArePlayed settings_rows before present totals → refusal ≡ refusal_of present row
    → refusal_line number refusal ≡ refusal_to settings_rows before said
line-row settings_rows before said row present totals number refusal said_is numbered h is =
    ap (refusal_line number) (is ∙ ap (λ p. refusal_of p row) h.is_present)
    ∙ ap (λ (n : ℕ). refusal_line n (refusal_of (present_after settings_rows before) row)) numbered
    ∙ ap (refusal_to settings_rows before) (sym said_is)

-- a fault of telling a row's refusal ends the row's step
pub ends-row : (format : Format) (settings_rows : List rows.Row) (before : List Record) (said : Record) (row : rows.Row) (present : PresentValue)
    (totals : Totals) (number : ℕ) (refusal : Option Refusal) (w e0 e1 : Option (List ℕ)) (why : RunFault) → said ≡ Row row
    → number ≡ length before + 1 → ArePlayed settings_rows before present totals → refusal ≡ refusal_of present row
    → EndsSaying why e0 e1 (refusal_line number refusal) → EndsStep why format settings_rows before said (held w w e0 e1)
ends-row format settings_rows before said row present totals number refusal w e0 e1 (fault.BadRow n) said_is numbered h is told = told
ends-row format settings_rows before said row present totals number refusal w e0 e1 fault.BadSettings said_is numbered h is told = told
ends-row format settings_rows before said row present totals number refusal w e0 e1 fault.Read said_is numbered h is told = told
ends-row format settings_rows before said row present totals number refusal w e0 e1 fault.Write said_is numbered h is told = (
  0,
  told.0,
  (
    Appends-nil w,
    subst (λ (text : List ℕ). Appends e0 e1 (take told.0 text))
        (line-row settings_rows before said row present totals number refusal said_is numbered h is) told.1,
  ),
)
ends-row format settings_rows before said row present totals number refusal w e0 e1 fault.Memory said_is numbered h is told =
    (Keeps-refl w, told)
ends-row format settings_rows before said row present totals number refusal w e0 e1 fault.NoThread said_is numbered h is told = told
ends-row format settings_rows before said row present totals number refusal w e0 e1 fault.Desk said_is numbered h is told = told
