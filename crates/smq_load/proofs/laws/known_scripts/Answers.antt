use Rattle.std.proofs.Common.{[], ◌∷◌, ◌++◌, codes, inl, refl, arith}
use Rattle.csv.specs.Machine.{next_record}
use Rattle.csv.specs.Reading.{Reached, strip_bom}
use Rattle.csv.specs.declared.parser.State.TheVariants as st
use Rattle.smq_present.specs.declared.present.edit.Edit.TheVariants.{Advance}
use Rattle.smq_load.specs.declared.record.Row.TheVariants.{Plain}
use Rattle.smq_load.proofs.laws.known_scripts.Goals as goal

pub returns : goal.returns
unfolding Reached next_record strip_bom
returns c = record {
  empty = record {
    records = [];
    are_records = (st.StartRecord, [], (refl, refl), refl);
    say_rows = refl;
    in_range = omega arith;
  };
  rows = record {
    records = (codes "clock" ∷ codes "5" ∷ []) ∷ (codes "withdraw" ∷ codes "10" ∷ []) ∷ [];
    are_records = (
      st.StartRecord,
      [],
      (
        (codes "clock" ∷ codes "5" ∷ [], st.AfterCr, 10 ∷ 10 ∷ codes "\"withdraw\",10"),
        refl,
        refl,
        ((codes "withdraw" ∷ codes "10" ∷ [], st.StartRecord, []), refl, refl, (refl, refl)),
      ),
      refl,
    );
    say_rows = refl;
    in_range = omega arith;
  };
  first_bad = record {
    before = [];
    bad = codes "x" ∷ [];
    after = (codes "y" ∷ []) ∷ [];
    are_records = (
      st.StartRecord,
      [],
      (
        (codes "x" ∷ [], st.StartRecord, codes "y" ++ 10 ∷ []),
        refl,
        refl,
        ((codes "y" ∷ [], st.StartRecord, []), refl, refl, (refl, refl)),
      ),
      refl,
    );
    numbered = refl;
    rows = [];
    say_rows = refl;
    in_range = omega arith;
    is_bad = inl refl;
  };
  second_bad = record {
    before = (codes "clock" ∷ codes "5" ∷ []) ∷ [];
    bad = codes "x" ∷ [];
    after = [];
    are_records = (
      st.StartRecord,
      [],
      (
        (codes "clock" ∷ codes "5" ∷ [], st.StartRecord, 10 ∷ codes "x" ++ 10 ∷ []),
        refl,
        refl,
        ((codes "x" ∷ [], st.StartRecord, []), refl, refl, (refl, refl)),
      ),
      refl,
    );
    numbered = refl;
    rows = Plain (Advance 5) ∷ [];
    say_rows = refl;
    in_range = omega arith;
    is_bad = inl refl;
  };
}
