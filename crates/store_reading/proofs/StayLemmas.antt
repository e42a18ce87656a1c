-- A connection at rest, over calls one after another.
use Rattle.std.proofs.Common.{◌≡◌, ◌∙◌, ◌≤◌, Bool, false, arith, refl, subst, sym}
use Rattle.sqlite.specs.Effect.{Database}
use Rattle.sqlite.specs.State.{State, HasCleanDisk}
use Rattle.sqlite_trees.specs.View.{doubt}
use Rattle.sql_contents.specs.Contents.{Holds, contents_of}
use Rattle.sql_meanings.specs.UnderWay.{IsReady}
use Rattle.store_model.specs.Steady.{IsAtRest}
use Rattle.store_asking.specs.Asked.{StaysAtRest}

-- it was not used
pub stays_itself : (s : State) (b : Bool) → StaysAtRest s s b
stays_itself s b = record { later = omega arith; rests = λ clean ready safe. (ready, refl) }

-- it was used by a call that gave an answer
pub stays_anyway : (old new : State) (b : Bool) → StaysAtRest old new false → StaysAtRest old new b
stays_anyway old new b was = record { later = was.later; rests = λ clean ready safe. was.rests clean ready refl }

pub stays_then : (old mid new : State) (b : Bool) → StaysAtRest old mid false → StaysAtRest mid new b → StaysAtRest old new b
stays_then old mid new b first then = record {
  later = omega (arith, first.later, then.later);
  rests = λ clean ready safe.
      let early : HasCleanDisk mid = omega (arith, clean, then.later) in
      let one = first.rests early ready refl in
      let two = then.rests clean one.0 safe in
      (two.0, two.1 ∙ one.1);
}

pub early_clean : (mid new : State) → HasCleanDisk new → doubt mid.is_clean ≤ doubt new.is_clean → HasCleanDisk mid
early_clean mid new clean later = omega (arith, clean, later)

pub at_rest_on : (old mid : State) → IsReady mid × (mid.now ≡ old.now) → IsAtRest old → IsAtRest mid
at_rest_on old mid is rest = record { ready = is.0; held = subst (λ (d : Database). Holds d.trees (contents_of d.trees)) (sym is.1) rest.held }
