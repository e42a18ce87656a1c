-- Where a tree stands, as the search for sites has it.
use Rattle.std.specs.Prelude.{ℕ, suc, Bool, false, not, ◌&&◌, List, Option, unwrap_or}
use Rattle.fx_core.specs.Rows.{row_of, takes_at}
use Rattle.fx_core.specs.Term.{Term, Terms, of}
use Rattle.fx_plan.specs.declared.site_list.Place.{Place}
use Rattle.fx_plan.specs.declared.site_list.Scoped.{Scoped}
use Rattle.fx_plan.specs.declared.site_list.Scoped.TheVariants.{Nothing, Others, Formulas}
use Rattle.fx_plan.specs.Sites.{Position, deeper, is_first, is_formula}

abbrev pub place_position : Place → Position
place_position p = record {
  depth = p.depth;
  by = p.by.now;
  delegated = p.delegated;
  inner = p.inner;
}

-- the same for a part of no special place in a call of this name, or of none
abbrev pub within_call : Option (List ℕ) → Position → Position
within_call n p = record {
  depth = p.depth;
  by = unwrap_or n p.by;
  delegated = false;
  inner = false;
}

-- the same in one more scope, if there is one
abbrev pub scope_opened : Bool → Position → Position
scope_opened b p = record p { depth = deeper b p.depth }

-- whether one of several parts stands in a scope of its own
abbrev pub is_scoped : Scoped → ℕ → Bool
is_scoped Nothing i = false
is_scoped (Others b) i = not (is_first i) && b
is_scoped (Formulas f n) i = is_formula (takes_at (row_of f) n (suc i))

-- where it stands
abbrev pub stand_at : Scoped → Position → ℕ → Position
stand_at s p i = scope_opened (is_scoped s i) p

abbrev pub parts_in : Term → Terms
parts_in (of h cs) = cs
