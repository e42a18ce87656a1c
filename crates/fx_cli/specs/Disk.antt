-- What files and sinks in memory are.
use Rattle.std.specs.Prelude.{ℕ, List, Option, String, Vec, string_bytes, bytes_eq, map}
use Rattle.std.specs.Map.{lookup}
use Rattle.std.specs.declared.alloc.Global.{Global}
use Rattle.fx_base.specs.Faults.{FaultPlan}

-- files by name, the names that were asked for, and which calls fail
pub record Disk : Type 0 where
  pub files : List (List ℕ × List ℕ)
  pub asked : List (List ℕ)
  pub plan : FaultPlan

-- the bytes of the first file of this name
abbrev pub bytes_named : List (List ℕ × List ℕ) → List ℕ → Option (List ℕ)
bytes_named files name = lookup (λ n. bytes_eq n name) files

-- the names and bytes of files
abbrev pub files_of : List (String Global × Vec ℕ Global) → List (List ℕ × List ℕ)
files_of files = map (λ f. (string_bytes f.0, f.1.items)) files

-- what was written, and which calls fail
pub record Output : Type 0 where
  pub written : List ℕ
  pub plan : FaultPlan

-- the names that the system's files were asked for, and the faults so far
pub record Tally : Type 0 where
  pub asked : List (List ℕ)
  pub faults : ℕ
