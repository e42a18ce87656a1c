-- A cache is filled with what an edit left, one cell after another by the order of the edited app.
use Rattle.std.specs.Prelude.{◌≡◌, ◌<◌, ◌≤◌, ℕ, length, true, false, Some, None, IsSome, slice_get}
use Rattle.std.specs.Prelude.{slice_index}
use Rattle.fx_types.specs.TypeView.{shape}
use Rattle.fx_types.specs.Values.{blank}
use Rattle.fx_core.specs.declared.sources.Source.{Source}
use Rattle.fx_value.specs.Fits.{fits_in}
use Rattle.recalc.specs.app_cells.declared.app.App.{App}
use Rattle.recalc.specs.app_cells.declared.app.CellInfo.{CellInfo}
use Rattle.recalc.specs.app_semantics.Needed.{is_alone}
use Rattle.recalc.specs.Carrying.{AreHad, IsOldCell, cell_was}
use Rattle.recalc.specs.Kept.{IsClean, IsInOrder, IsSourceOf, CacheState, source_index, stamp_of}
use Rattle.recalc.specs.Kept.{cached_value}
use Rattle.recalc.specs.declared.stamps.Stamp.{Stamp}

-- of a cell that is kept: the cell that it was, which was clean, and whose value it has since that
-- one had it
pub record IsFrom (old new : App) (before after : CacheState) (k : ℕ) (e : Stamp) : Type 0 where
  pub was : ℕ
  pub stamp : Stamp
  pub cell : IsOldCell old new was k
  pub there : stamp_of before was ≡ Some stamp
  pub clean : IsClean old before was
  pub checked : e.checked ≡ after.last
  pub moved : e.moved ≡ stamp.moved
  pub value : cached_value after k ≡ cached_value before was

-- a value that says nothing fits, and is blank where a formula has none by itself
pub record IsIdle (a : App) (c : CacheState) (k : ℕ) : Type 0 where
  pub bare : is_alone a.cells k ≡ false → cached_value c k ≡ blank
  pub fits : (i : CellInfo) → slice_get a.cells k ≡ Some i
      → fits_in (cached_value c k) (shape i.ty) ≡ true

-- FILLING: so many cells of the order were seen
pub record IsFilling (old new : App) (before from : CacheState) (i : ℕ) (after : CacheState) :
    Type 0 where
  pub kept : (k : ℕ) (e : Stamp) → stamp_of after k ≡ Some e → IsFrom old new before after k e
  pub had : (k : ℕ) (e : Stamp) → stamp_of after k ≡ Some e → AreHad new after k
  pub unkept : (k : ℕ) → stamp_of after k ≡ None → IsIdle new after k
  pub whole : (p j : ℕ) → p < i → p < length new.order
      → IsOldCell old new j (slice_index new.order p) → IsClean old before j
      → AreHad new after (slice_index new.order p)
      → IsSome (stamp_of after (slice_index new.order p))
  pub rest : (p : ℕ) → i ≤ p → p < length new.order
      → stamp_of after (slice_index new.order p) ≡ None
  pub emptied : after.emptied ≡ before.emptied
  pub last : after.last ≡ before.last
  pub day : after.values.day ≡ before.values.day
  pub zero : (p : ℕ) → slice_index after.versions p ≡ 0
  pub few : length new.cells ≤ 2000
  pub stamps : length after.stamps ≡ length new.cells
  pub values : length after.values.cells ≡ length new.cells
  pub places : (s : Source) → IsSourceOf new.names s → source_index s < length after.versions
  pub same : (from.stamps ≡ before.stamps) × (from.versions ≡ before.versions)
  pub left : (p j : ℕ) → i ≤ p → p < length new.order
      → cell_was old new (slice_index new.order p) ≡ Some j
      → cached_value from j ≡ cached_value before j
  pub order : IsInOrder old from
