-- Clean cells that are left so, call after call.
use Rattle.std.proofs.Common.{◌+◌, ◌^◌, List, [], sym, subst, arith, inl, inr}
use Rattle.std.proofs.lemmas.Bool.{cases_lt}
use Rattle.fx_types.specs.Values.{Data}
use Rattle.fx_core.specs.Reads.{IsAmong}
use Rattle.fx_core.specs.declared.sources.Source.{Source}
use Rattle.recalc.specs.app_cells.declared.app.App.{App}
use Rattle.recalc.specs.Changes.{StaysCleanExcept, on_day}
use Rattle.recalc.specs.Kept.{CacheState}
use Rattle.recalc.specs.Outcomes.{HasNumbers, IsOneMore}
use Rattle.recalc.specs.Steps.{KeepsClean}

-- nothing was done
pub left_same : (a : App) (xs : List Source) (c : CacheState) → StaysCleanExcept a xs c c
left_same a xs c = record { emptied = omega arith; left = λ same end k far clean. clean }

-- it is said of fewer cells
pub left_wider : (a : App) (xs ys : List Source) (old new : CacheState) → ((s : Source) → IsAmong s xs → IsAmong s ys) → StaysCleanExcept a xs old new → StaysCleanExcept a ys old new
left_wider a xs ys old new more h = record { emptied = h.emptied; left = λ same end k far clean. h.left same end k (λ s there z. far s (more s there) z) clean }

-- one after the other
pub left_then : (a : App) (xs : List Source) (old mid new : CacheState) → StaysCleanExcept a xs old mid → StaysCleanExcept a xs mid new → StaysCleanExcept a xs old new
left_then a xs old mid new h g =
    let low = h.emptied in
    let high = g.emptied in
    record {
      emptied = omega (arith, low, high);
      left = λ same end k far clean. g.left (omega (arith, low, high, same)) (omega (arith, low, high, same, end)) k far (h.left (omega (arith, low, high, same)) end k far clean);
    }

-- what leaves all clean cells leaves them whatever is written beside
pub left_all : (a : App) (xs : List Source) (old new : CacheState) → StaysCleanExcept a [] old new → StaysCleanExcept a xs old new
left_all a xs old new h = left_wider a [] xs old new (λ s none. absurd none) h

-- ---- what calls do
-- numbers were made where few were left
pub made_left : (a : App) (old new : CacheState) → HasNumbers a old new → StaysCleanExcept a [] old new
made_left a old new h = elim (cases_lt (old.last + 2001) (2 ^ 64)) [
  | inl room ↦ subst (StaysCleanExcept a [] old) (sym (h.same room)) (left_same a [] old)
  | inr short ↦
      let counted : IsOneMore old.emptied new.emptied = h.counted (λ room. omega (arith, room, short)) in
      let more = counted.more in
      let low = counted.never_less in
      record { emptied = low; left = λ same end k far clean. let one = more end in absurd (omega (arith, same, one)) }
]

-- cells were brought up to date
pub brought_left : (a : App) (old new : CacheState) → KeepsClean a old new → StaysCleanExcept a [] old new
brought_left a old new h = let same = h.emptied in record { emptied = omega (arith, same); left = λ is end k far clean. h.still k clean }

-- on another day the same cells are clean
pub day_left : (a : App) (xs : List Source) (old new : CacheState) (d : Data) → StaysCleanExcept a xs old new → StaysCleanExcept a xs old (on_day new d)
day_left a xs old new d h = record { emptied = h.emptied; left = λ same end k far clean. h.left same end k far clean }
