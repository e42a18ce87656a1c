-- Which cells are evaluated, and what that does to their stamps.
use Rattle.std.specs.Prelude.{◌≡◌, ◌≢◌, ◌⊎◌, ◌+◌, ◌≤◌, ℕ, List, length, Bool, true, Some, IsSome}
use Rattle.std.specs.Prelude.{slice_get, slice_set}
use Rattle.std.specs.List.{All, AllPairs}
use Rattle.fx_types.specs.Values.{Data}
use Rattle.recalc.specs.app_cells.declared.app.App.{App}
use Rattle.recalc.specs.app_cells.declared.app.CellInfo.{CellInfo}
use Rattle.recalc.specs.app_semantics.Needed.{is_alone}
use Rattle.recalc.specs.Kept.{IsClean, IsUnmoved, CacheState, stamp_of, cached_value}
use Rattle.recalc.specs.Needing.{IsNeededFor, is_marked}
use Rattle.recalc.specs.declared.stamps.Stamp.{Stamp}

-- CUT OFF: the cell was kept, and, by what is known after, nothing that it names moved since it was
-- checked
abbrev pub IsCellCutOff : App → CacheState → CacheState → ℕ → Type 0
IsCellCutOff a start after k = (e : Stamp) × (i : CellInfo) × (stamp_of start k ≡ Some e)
    × (slice_get a.cells k ≡ Some i) × IsUnmoved a after i e.checked

-- it had to be evaluated: it has a value by itself, is needed, wasn't clean and isn't cut off
pub record WasDue (a : App) (roots : List ℕ) (start after : CacheState) (k : ℕ) : Type 0 where
  pub alone : is_alone a.cells k ≡ true
  pub needed : IsNeededFor a roots k
  pub unclean : IsClean a start k → ⊥
  pub uncut : IsCellCutOff a start after k → ⊥

-- the steps are those of such cells, one of each
abbrev pub OncePerCell : App → List ℕ → CacheState → CacheState → ℕ → ℕ → Type 0
OncePerCell a roots start after old new = (cs : List ℕ) × AllPairs (λ x y. x ≢ y) cs
    × All (WasDue a roots start after) cs × (new ≡ old + length cs)

-- no cell is lost, and one that has the value that it had has had it since
pub record IsLaterCache (old new : CacheState) : Type 0 where
  pub still : (k : ℕ) → IsSome (stamp_of old k) → IsSome (stamp_of new k)
  pub moved : (k : ℕ) (e f : Stamp) → stamp_of old k ≡ Some e → stamp_of new k ≡ Some f
      → cached_value old k ≡ cached_value new k → f.moved ≡ e.moved

-- a value of a cell was made under the next number, and is what it is since this one
abbrev pub kept_with : CacheState → ℕ → Data → ℕ → CacheState
kept_with c k v moved = record c {
  last = c.last + 1;
  stamps = slice_set c.stamps k (Some (record { checked = c.last + 1; moved = moved }));
  values = record { cells = slice_set c.values.cells k v; day = c.values.day };
}

-- it was checked now, and is as before
abbrev pub confirmed : CacheState → ℕ → ℕ → CacheState
confirmed c k moved = record c {
  stamps = slice_set c.stamps k
      (Some (record { checked = c.last; moved = moved }));
}

-- since this number a value of a cell is what it is: since when the kept one is, if that is the
-- same, and else from the next number on
abbrev pub WasMoved : CacheState → ℕ → Data → ℕ → Type 0
WasMoved c k v n =
    ((e : Stamp) × (stamp_of c k ≡ Some e) × (cached_value c k ≡ v) × (n ≡ e.moved))
    ⊎ (((e : Stamp) → stamp_of c k ≡ Some e → cached_value c k ≡ v → ⊥) × (n ≡ c.last + 1))

-- one cell alone was brought up to date
pub record IsBrought (a : App) (k : ℕ) (old new : CacheState) : Type 0 where
  pub clean : IsClean a new k
  pub others : (d : ℕ) → d ≢ k → stamp_of new d ≡ stamp_of old d
  pub values : (d : ℕ) → d ≢ k → cached_value new d ≡ cached_value old d
  pub emptied : new.emptied ≡ old.emptied
  pub versions : new.versions ≡ old.versions
  pub day : new.values.day ≡ old.values.day
  pub later : IsLaterCache old new
  pub now : (old.last ≤ new.last) × (new.last ≤ old.last + 1)

-- or nothing was done, where it isn't marked or was clean
abbrev pub IsBroughtIf : App → List Bool → ℕ → CacheState → CacheState → Type 0
IsBroughtIf a marks k old new = IsBrought a k old new
    ⊎ ((new ≡ old) × (is_marked marks k ≡ true → IsClean a old k))

-- one step was taken under a new number, since something moved; or none, since nothing did
abbrev pub MayStep : App → ℕ → CacheState → CacheState → ℕ → ℕ → Type 0
MayStep a k old new before after =
    ((after ≡ before + 1) × (new.last ≡ old.last + 1) × (IsCellCutOff a old old k → ⊥))
    ⊎ ((after ≡ before) × (new.last ≡ old.last))

-- and only for a marked cell that wasn't clean
abbrev pub MayStepIf : App → List Bool → ℕ → CacheState → CacheState → ℕ → ℕ → Type 0
MayStepIf a marks k old new before after =
    ((is_marked marks k ≡ true) × (IsClean a old k → ⊥) × MayStep a k old new before after)
    ⊎ ((after ≡ before) × (new.last ≡ old.last))

-- what bringing cells up to date leaves: clean cells stay so, no source has changed, and no number
-- is given anew
pub record KeepsClean (a : App) (old new : CacheState) : Type 0 where
  pub still : (k : ℕ) → IsClean a old k → IsClean a new k
  pub later : IsLaterCache old new
  pub emptied : new.emptied ≡ old.emptied
  pub versions : new.versions ≡ old.versions
  pub day : new.values.day ≡ old.values.day
