-- Calls that visit no row, and calls that only look.
use Rattle.std.proofs.Common.{◌≡◌, ℕ, List, Option, Some, None, arith}
use Rattle.std.specs.Prelude.{Result, Ok, IfOk, OnErr}
use Rattle.fx_base.specs.Silence.{IsLater, MayFallSilent, Marks, SilenceCause}
use Rattle.fx_base.specs.Telling.{Stays}
use Rattle.row_queries.specs.Visits.{VisitsTold}
use Rattle.row_queries.specs.declared.queries.Query.{Query}
use Rattle.row_queries.specs.declared.rows.Row.{Row}
use Rattle.row_keeper.specs.Causes.{HasCause}
use Rattle.row_keeper.specs.Passing.{Passes}
use Rattle.row_keeper.specs.Tables.{Tables}
use Rattle.row_keeper.specs.declared.keeper.Keeper.{Ghosts}
use Rattle.row_keeper.specs.declared.keeper.KeeperEnd.{KeeperEnd}
use Rattle.row_counts.specs.Looking.{OnlyLooks, beside}
use Rattle.row_counts.proofs.Looks.{told_stays}

pub visits_none : (told : Option (List (List Row))) (q : Query) (n : ℕ) → VisitsTold told q n n
visits_none None q n = tt
visits_none (Some tables) q n = omega arith

pub no_cause : {T : Type 0} (m : Marks) (x : T) → HasCause {T = T} m m (Ok x)
no_cause m x = record { later = record { faults = omega arith; doubt = omega arith }; failed = λ f. absurd cc }

pub ok_cause : {T : Type 0} (a b : Marks) (x : T) → IsLater a b → HasCause {T = T} a b (Ok x)
ok_cause a b x later = record { later = later; failed = λ f. absurd cc }

module _ {K : Type 0} (g : Ghosts K) where
  -- a call that answers what is there, or nothing
  pub asked : {T : Type 0} (a b : K) (r : Result T KeeperEnd) (P : T → Tables → Tables → Type 0) → ((x : T) (s t : Tables) → P x s t → t ≡ s) → IfOk r (λ x. MayFallSilent (SilenceCause (g.marks a) (g.marks b)) (P x) (g.told a) (g.told b))
      → OnErr r (MayFallSilent (SilenceCause (g.marks a) (g.marks b)) Stays (g.told a) (g.told b)) → Passes (beside g a) (beside g b) → g.shaped b ≡ g.shaped a → IsLater (g.marks a) (g.marks b) → OnlyLooks g a b
  asked a b r P same ok err passes shaped later = record {
    told = told_stays (SilenceCause (g.marks a) (g.marks b)) r P same (g.told a) (g.told b) ok err;
    shaped = shaped;
    passes = passes;
    later = later;
  }
