-- Records that wait on a page, and what is written of them.
use Rattle.std.specs.Prelude.{◌≡◌, ℕ, false, List, ◌++◌, Option, Vec}
use Rattle.std.specs.Io.KnownBytes.{Appends}
use Rattle.csv.specs.Writing.{default_writer, fields_written, has_written, writer_pending, writer_setup, writer_under}
use Rattle.csv.specs.declared.writer.Writer.{Writer}

-- what a writer in memory has gathered of what was put after its records
abbrev pub gathered : {A : Type 0} → Writer (Vec ℕ A) → List ℕ
gathered records = (writer_under records).items

-- what was put after the records of a writer in memory, all of it
abbrev pub waiting : {A : Type 0} → Writer (Vec ℕ A) → List ℕ
waiting records = gathered records ++ writer_pending records

-- The writer is at the start of a record, and writes as `csv` does by default.
pub record IsAtStart {W : Type 0} (records : Writer W) : Type 0 where
  pub setup : writer_setup records ≡ default_writer
  pub fields : fields_written records ≡ 0
  pub written : has_written records ≡ false

-- known octets grow by a beginning of a text, of which these octets are left
abbrev pub AppendsAllBut : Option (List ℕ) → Option (List ℕ) → List ℕ → List ℕ → Type 0
AppendsAllBut old new left text = (written : List ℕ) × Appends old new written × (written ++ left ≡ text)
