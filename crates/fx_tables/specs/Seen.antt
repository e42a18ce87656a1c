-- Values that were taken one after another, each once.
use Rattle.std.specs.Prelude.{◌≡◌, ℕ, Bool, List, map}
use Rattle.std.specs.List.{list_any}
use Rattle.std.specs.BTreeSet.{BTreeSet, contains}
use Rattle.std.specs.Cmp.Lexicographic.{slice_cmp}
use Rattle.std.specs.Ordering.{nat_cmp, is_eq}
use Rattle.std.specs.declared.alloc.Global.{Global}
use Rattle.std.specs.declared.cmp.Ordering.{Ordering}
use Rattle.std.specs.declared.vec.Vec.{Vec}
use Rattle.fx_types.specs.Values.{Data}
use Rattle.fx_value.specs.Keys.{key_bytes}
use Rattle.fx_value.specs.Columns.{Row}
use Rattle.fx_tables.specs.Distinct.{distinct_of, value_row}

-- the order of keys
abbrev pub key_order : Vec ℕ Global → Vec ℕ Global → Ordering
key_order x y = slice_cmp nat_cmp x.items y.items

-- whether these bytes are the key of one of these values
abbrev pub is_key_among : List ℕ → List Data → Bool
is_key_among k ds = list_any (λ e. is_eq (slice_cmp nat_cmp (key_bytes e) k)) ds

-- the rows hold each of these values once, and the set holds their keys
pub record HoldsFirsts (seen : BTreeSet (Vec ℕ Global)) (rows : List Row) (ds : List Data) :
    Type 0 where
  pub rows_are : rows ≡ map value_row (distinct_of ds)
  pub keys_are : (k : Vec ℕ Global) → contains key_order seen k ≡ is_key_among k.items ds
