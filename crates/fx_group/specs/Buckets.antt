-- Rows that were put into groups one after another, by the bytes of their keys.
use Rattle.std.specs.Prelude.{◌≡◌, ℕ, zero, suc, Bool, not, List, [], ◌∷◌, ◌++◌, map, length}
use Rattle.std.specs.Prelude.{Option, Some, None, option_map, if◌then◌else◌}
use Rattle.std.specs.BTreeMap.{get}
use Rattle.std.specs.List.{All, filter}
use Rattle.std.specs.Cmp.Lexicographic.{slice_cmp}
use Rattle.std.specs.Ordering.{nat_cmp, is_eq}
use Rattle.std.specs.declared.alloc.Global.{Global}
use Rattle.std.specs.declared.cmp.Ordering.{Ordering}
use Rattle.std.specs.declared.vec.Vec.{Vec}
use Rattle.fx_tables.specs.Groups.{key_of, value_of}
use Rattle.fx_value.specs.Columns.{Row}
use Rattle.fx_value.specs.Keys.{key_bytes}
use Rattle.fx_value.specs.Order.{IsScalar}
use Rattle.fx_group.specs.declared.buckets.Buckets.{Buckets}

-- what stands in each of these vectors
abbrev pub items_of : {A : Type 0} → List (Vec A Global) → List (List A)
items_of {A = A} vs = map (λ (v : Vec A Global). v.items) vs

-- the bytes of the values of a row's key
abbrev pub bytes_of : List (List ℕ) → Row → List (List ℕ)
bytes_of ns r = map key_bytes (key_of ns r)

-- the order of the bytes of keys
abbrev pub bytes_order : List (List ℕ) → List (List ℕ) → Ordering
bytes_order = slice_cmp (slice_cmp nat_cmp)

abbrev pub key_order : Vec (Vec ℕ Global) Global → Vec (Vec ℕ Global) Global → Ordering
key_order x y = slice_cmp (λ (v w : Vec ℕ Global). slice_cmp nat_cmp v.items w.items) x.items
    y.items

-- whether a row's key has these bytes
abbrev pub has_bytes : List (List ℕ) → List (List ℕ) → Row → Bool
has_bytes ns k r = is_eq (bytes_order (bytes_of ns r) k)

-- whether two rows have keys of the same bytes
abbrev pub has_same_bytes : List (List ℕ) → Row → Row → Bool
has_same_bytes ns r s = has_bytes ns (bytes_of ns s) r

-- the first of each that are the same, in the order in which they first appear
abbrev pub firsts_by : {A : Type 0} → (A → A → Bool) → List A → List A
firsts_by same [] = []
firsts_by same (x ∷ xs) = x ∷ filter (λ y. not (same x y)) (firsts_by same xs)

-- those that are the same as one
abbrev pub group_by : {A : Type 0} → (A → A → Bool) → List A → A → List A
group_by same xs x = filter (λ y. same x y) xs

-- the place of the first that passes a test
abbrev pub place_by : {A : Type 0} → (A → Bool) → List A → Option ℕ
place_by p [] = None
place_by p (x ∷ xs) = if p x then Some 0 else option_map suc (place_by p xs)

-- groups, with one more behind those of a place
abbrev pub with_behind : {A : Type 0} → ℕ → A → List (List A) → List (List A)
with_behind i x [] = []
with_behind zero x (g ∷ gs) = (g ++ x ∷ []) ∷ gs
with_behind (suc i) x (g ∷ gs) = g ∷ with_behind i x gs

-- the key of a row has scalars alone
abbrev pub HasKey : List (List ℕ) → Row → Type 0
HasKey ns r = All (λ n. IsScalar (value_of n r)) ns

-- buckets hold these rows: the first of each key, at its place those of the key, and the places of
-- the keys
pub record HoldsGroups (ns : List (List ℕ)) (b : Buckets) (rows : List Row) : Type 0 where
  pub firsts_are : b.firsts.items ≡ firsts_by (has_same_bytes ns) rows
  pub groups_are : items_of b.groups.items ≡ map (group_by (has_same_bytes ns) rows) b.firsts.items
  pub places_are : (k : Vec (Vec ℕ Global) Global) →
      get key_order b.places k ≡ place_by (has_bytes ns (items_of k.items)) b.firsts.items

-- a new key has a group of its first row, at the last place
pub record IsOpened (old new : Buckets) (k : Vec (Vec ℕ Global) Global) (r : Row) : Type 0 where
  pub first : new.firsts.items ≡ old.firsts.items ++ r ∷ []
  pub group : items_of new.groups.items ≡ items_of old.groups.items ++ (r ∷ []) ∷ []
  pub place : (q : Vec (Vec ℕ Global) Global) → get key_order new.places q
      ≡ (if is_eq (key_order k q) then Some (length old.groups.items) else get key_order old.places q)
