-- What stands between the texts of a list.
use Rattle.std.specs.Prelude.{ℕ, zero, suc, List, [], codes}

-- a comma and a space before each text but the first
abbrev pub comma_at : ℕ → List ℕ
comma_at zero = []
comma_at (suc i) = codes ", "
