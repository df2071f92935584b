-- What a plain writer has written: how the crate itself sees its writer. No public clause cites it, and nobody needs to
-- believe it.
use Rattle.std.specs.Prelude.{ℕ, List, [], ◌≡◌, IsSome, Option, false, unwrap_or}
use Rattle.csv.specs.Writing.{fields_written, has_written, text_written, writer_setup}
use Rattle.csv.specs.declared.writer.Writer.{Writer}
use Rattle.ballot_csv.specs.PlainForm.{plain_writer}

-- a plain writer stands between two records, and what it wrote is known
pub record IsClean {W : Type 0} (contents : W → Option (List ℕ)) (w : Writer W) : Type 0 where
  pub setup : writer_setup w ≡ plain_writer
  pub fields : fields_written w ≡ 0
  pub wrote : has_written w ≡ false
  pub known : IsSome (text_written contents w)

-- the bytes that a writer wrote, where they are known
abbrev pub written_of : {W : Type 0} → (W → Option (List ℕ)) → Writer W → List ℕ
written_of contents w = unwrap_or (text_written contents w) []
