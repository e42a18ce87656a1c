-- Places of sources, and lists in which one item is set.
use Rattle.std.proofs.Common.{◌≡◌, ℕ, ◌+◌, ◌*◌, ◌<◌, ◌≤◌, List, length, true, false, Option, Some, None, IsSome, refl, sym, ap, ◌∙◌, arith}
use Rattle.std.specs.Prelude.{option_map, slice_get, unwrap_or}
use Rattle.fx_core.specs.Reads.{source_number, source_rank}
use Rattle.fx_core.specs.declared.names.Names.{Names}
use Rattle.fx_core.specs.declared.sources.Source.{Source}
use Rattle.fx_core.specs.declared.sources.Source.TheVariants as source
use Rattle.fx_core.proofs.Ordered.{source_is}
use Rattle.recalc.specs.app_cells.declared.app.CellInfo.{CellInfo}
use Rattle.recalc.specs.app_semantics.Needed.{is_alone, stands_alone}
use Rattle.recalc.specs.Kept.{IsSourceOf, source_index}
use Rattle.recalc.specs.declared.stamps.Stamp.{Stamp}

-- ---- sources by their places
rank_low : (x : Source) → source_rank x < 8
rank_low (source.Cell k) = omega arith
rank_low (source.Global k) = omega arith
rank_low (source.Context k) = omega arith
rank_low (source.Gathered k) = omega arith
rank_low (source.Input k) = omega arith
rank_low (source.Chosen k) = omega arith
rank_low (source.Table k) = omega arith
rank_low source.Today = omega arith

-- a place is that of one source
pub one_place : (x y : Source) → source_index x ≡ source_index y → x ≡ y
one_place x y e =
    let low = rank_low x in
    let also = rank_low y in
    let number : source_number x ≡ source_number y = omega (arith, e, low, also) in
    let rank : source_rank x ≡ source_rank y = omega (arith, e, low, also, number) in
    source_is x y rank number

-- so many places are enough for the sources that there are
pub enough : (n : Names) (most : ℕ) → length n.variables ≤ most → length n.collections ≤ most → length n.controls ≤ most → length n.schema.tables ≤ most →
    (s : Source) → IsSourceOf n s → source_index s < (most + 1) * 8
enough n most v c w t (source.Cell k) h = absurd h
enough n most v c w t (source.Global k) h = omega arith
enough n most v c w t (source.Context k) h = omega arith
enough n most v c w t (source.Gathered k) h = omega arith
enough n most v c w t (source.Input k) h = omega arith
enough n most v c w t (source.Chosen k) h = omega arith
enough n most v c w t (source.Table k) h = omega arith
enough n most v c w t source.Today h = omega arith

-- ---- formulas by their numbers
pub alone_of : (cells : List CellInfo) (k : ℕ) (i : CellInfo) → slice_get cells k ≡ Some i → stands_alone i ≡ true → is_alone cells k ≡ true
alone_of cells k i there e = ap (λ o. unwrap_or (option_map stands_alone o) false) there ∙ e

pub alone_at : (cells : List CellInfo) (k : ℕ) (i : CellInfo) → slice_get cells k ≡ Some i → is_alone cells k ≡ true → stands_alone i ≡ true
alone_at cells k i there e = sym (ap (λ o. unwrap_or (option_map stands_alone o) false) there) ∙ e

pub aside_of : (cells : List CellInfo) (k : ℕ) (i : CellInfo) → slice_get cells k ≡ Some i → stands_alone i ≡ false → is_alone cells k ≡ false
aside_of cells k i there e = ap (λ o. unwrap_or (option_map stands_alone o) false) there ∙ e

-- ---- stamps
pub one_stamp : (o : Option Stamp) (e f : Stamp) → o ≡ Some e → o ≡ Some f → e ≡ f
one_stamp o e f p q = let both : Some e ≡ Some f = sym p ∙ q in cc

pub some_stamp : (o : Option Stamp) (e : Stamp) → o ≡ Some e → IsSome o
some_stamp None e q = let no : None ≡ Some e = q in absurd cc
some_stamp (Some f) e q = refl
