use Rattle.std.proofs.Common.{◌≡◌, ◌<◌, ℕ, List, Some, map}
use Rattle.csv.specs.Reading.{Reached, Ready, default_config, source_of, strip_bom}
use Rattle.csv.specs.Records.{fields_of}
use Rattle.csv.specs.declared.parser.State.TheVariants as st
use Rattle.csv.specs.declared.reader.Trim.TheVariants as trim
use Rattle.row_files.proofs.records.read_bytes.Given as goal

abbrev pub invariant-loop-line : goal.invariant-loop-line
invariant-loop-line l = (l.line-iterator.rdr.trim ≡ trim.None) × Ready l.line-iterator.rdr × (0 < l.line-iterator.left) × (l.line-iterator.rdr.config ≡ default_config)
    × (y : List ℕ) × (source_of (λ s. Some s.now) l.line-iterator.rdr ≡ Some y)
    × Reached default_config st.StartRecord (strip_bom l.fn.bytes) (map fields_of l.records.items) l.line-iterator.rdr.state y
