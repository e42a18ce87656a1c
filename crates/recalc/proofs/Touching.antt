-- A source is touched, and another day begins.
use Rattle.std.proofs.Common.{◌≡◌, ℕ, ◌+◌, ◌<◌, List, [], ◌∷◌, length, length-set, false, None, Some, refl, sym, subst, ap, ◌∙◌, arith, inl}
use Rattle.fx_types.specs.Values.{Data}
use Rattle.fx_core.specs.declared.sources.Source.{Source}
use Rattle.recalc.specs.app_cells.Reach.{is_cell}
use Rattle.recalc.specs.app_cells.declared.app.App.{App}
use Rattle.recalc.specs.app_semantics.Present.{Present, present}
use Rattle.recalc.proofs.Leaving.{left_all, left_then, made_left}
use Rattle.recalc.proofs.Raising.{raised_clears, raised_leaves, raised_none, raised_order, raised_right}
use Rattle.recalc.specs.Carrying.{IsCarried}
use Rattle.recalc.specs.Changes.{StaysCleanExcept, IsTouched, on_day, raised}
use Rattle.recalc.specs.Kept.{IsClean, IsInOrder, IsRight, CacheState, CacheRoom, source_index, stamp_of}
use Rattle.recalc.specs.Outcomes.{HasNumbers}

-- the source gets the next number
raised_left : (a : App) (source : Source) (mid : CacheState) → source_index source < length mid.versions → StaysCleanExcept a (source ∷ []) mid (raised mid source)
raised_left a source mid place = record { emptied = omega arith; left = λ same end k far clean. raised_leaves a source mid place k (far source (inl refl)) clean }

-- numbers are made, and the source gets the next one
pub touched_is : (a : App) (source : Source) (old mid : CacheState) → source_index source < length mid.versions → is_cell source ≡ false → HasNumbers a old mid → IsTouched a source old (raised mid source)
touched_is a source old mid place plain h = record {
  order = λ o. raised_order a source mid place plain (h.order o);
  right = λ s tables m pending r. raised_right a source mid place plain s tables m pending (h.right s tables m _ r);
  cleared = λ room o k z clean. raised_clears a source mid place plain (h.order o) k z clean;
  left = λ room k far clean. raised_leaves a source mid place k far (subst (λ (c : CacheState). IsClean a c k) (sym (h.same room)) clean);
  none = λ room o k clean. subst (λ (c : CacheState). IsClean a c k) (h.same room) (raised_none a source mid place (h.order o) k clean);
  day = h.day;
  but = left_then a (source ∷ []) old mid (raised mid source) (left_all a (source ∷ []) old mid (made_left a old mid h)) (raised_left a source mid place);
  only = λ room. ap (λ (c : CacheState). raised c source) (h.same room);
  places = length-set mid.versions (source_index source) (mid.last + 1) ∙ h.places;
}

-- the day is nothing to what is kept
pub day_order : (a : App) (c : CacheState) (d : Data) → IsInOrder a c → IsInOrder a (on_day c d)
day_order a c d o = record {
  few = o.few;
  stamps = o.stamps;
  values = o.values;
  places = o.places;
  fits = o.fits;
  bare = o.bare;
  alone = o.alone;
  leans = o.leans;
  low = record { versions = o.low.versions; checked = o.low.checked; moved = o.low.moved };
}

pub day_right : (p : Present) (pending : List Source) (c : CacheState) (d : Data) → IsRight p pending c → IsRight p pending (on_day c d)
day_right p pending c d r = record {
  order = day_order p.app c d r.order;
  valid = λ k e i at there none unmoved. r.valid k e i at there none (record { sources = unmoved.sources; cells = unmoved.cells });
}

-- the room is nothing to what is kept
pub room_order : (a : App) (c : CacheState) (room : CacheRoom) → IsInOrder a c → IsInOrder a (record c { room = room })
room_order a c room o = record {
  few = o.few;
  stamps = o.stamps;
  values = o.values;
  places = o.places;
  fits = o.fits;
  bare = o.bare;
  alone = o.alone;
  leans = o.leans;
  low = record { versions = o.low.versions; checked = o.low.checked; moved = o.low.moved };
}

pub room_right : (p : Present) (pending : List Source) (c : CacheState) (room : CacheRoom) → IsRight p pending c → IsRight p pending (record c { room = room })
room_right p pending c room r = record {
  order = room_order p.app c room r.order;
  valid = λ k e i at there none unmoved. r.valid k e i at there none (record { sources = unmoved.sources; cells = unmoved.cells });
}

pub room_carried : (old new : App) (c d : CacheState) (room : CacheRoom) → IsCarried old new (record c { room = room }) d → IsCarried old new c d
room_carried old new c d room h = record {
  emptied = h.emptied;
  last = h.last;
  day = h.day;
  order = h.order;
  clean = h.clean;
  moved = h.moved;
  right = λ s tables m fit r. h.right s tables m fit (room_right (present old s tables m) [] c room r);
}

-- a cache in which nothing is kept is right over all
pub empty_right : (p : Present) (pending : List Source) (c : CacheState) → IsInOrder p.app c → ((k : ℕ) → stamp_of c k ≡ None) → IsRight p pending c
empty_right p pending c o none = record {
  order = o;
  valid = λ k e i at there far unmoved. let no : None ≡ Some e = sym (none k) ∙ at in absurd cc;
}
