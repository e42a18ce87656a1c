-- What the opening of a keeper leaves of its marks.
use Rattle.std.proofs.Common.{◌≡◌, ◌⊎◌, inl, inr, ℕ, List, Option, Some, Result, Ok, Err, ◌∙◌, subst}
use Rattle.std.specs.Prelude.{◌≢◌, IfNone, IfOk, IfSome, IsErrOf, IsSome, OnErr}
use Rattle.fx_base.specs.Faults.{Rose}
use Rattle.fx_base.specs.Telling.{Stays}
use Rattle.fx_base.proofs.Silences.{goes_two, rose_before}
use Rattle.fx_base.specs.Silence.{IsLater, Marks}
use Rattle.fx_core.specs.declared.schema.Schema.{Schema}
use Rattle.row_keeper.specs.Changes.{Shapes, StaysOrShapes}
use Rattle.row_keeper.specs.Over.{AttachedStays, Becomes, HasCause}
use Rattle.row_keeper.specs.Shaped.{by}
use Rattle.row_keeper.specs.declared.keeper.Keeper.{Ghosts}
use Rattle.row_keeper.specs.declared.keeper.KeeperEnd.{KeeperEnd}
use Rattle.row_keeper.specs.declared.keeper.KeeperEnd.TheVariants.{Failed}
use Rattle.fx_cli.specs.Opening.{Counted, HasName, IsAsked, IsAttached, IsStopped}

begun_faults : {K : Type 0} (g : Ghosts K) (name : List ℕ) (old between : K) (now : ℕ)
    → (between ≡ old) ⊎ IsAttached g name old between → Rose (g.marks between).faults now → Rose (g.marks old).faults now
begun_faults g name old between now (inl same) rose = subst (λ k. Rose (g.marks k).faults now) same rose
begun_faults g name old between now (inr is) rose = rose_before (g.marks old).faults (g.marks between).faults now is.later.faults rose

-- where a call failed that opens it, its count rose
pub stopped_rose : {K : Type 0} (g : Ghosts K) (name : List ℕ) (old new : K)
    → IsStopped g name Counted old new → Rose (g.marks old).faults (g.marks new).faults
stopped_rose g name old new h = begun_faults g name old h.between (g.marks new).faults h.begun h.rise

-- behind another call its name is attached still
still_named : {K : Type 0} (g : Ghosts K) (name : List ℕ) (old between new : K) → IsAttached g name old between → AttachedStays g between new → IsLater (g.marks between) (g.marks new)
    → HasName g name old new
still_named g name old between new is stays later =
    goes_two (λ (_ n : Option (List ℕ)). n ≡ Some name) Stays (λ (_ n : Option (List ℕ)). n ≡ Some name) (λ a b c p q. q ∙ p) (g.marks old) (g.marks between) (g.marks new) is.later later
    (g.attached old) (g.attached between) (g.attached new) is.named stays

-- ---- a call with an answer, to take a shape
pub asked_by : {K : Type 0} (g : Ghosts K) (name : List ℕ) (r : Result (Option Schema) KeeperEnd) (s : Schema) (old between new : K) → IsAttached g name old between
    → IfOk r (λ other. Becomes g between new (Shapes s other)) → IfOk r (λ other. IfSome other (λ t. t ≢ s)) → IfOk r (λ other. IfNone other (g.shaped new ≡ by s))
    → IfOk r (λ other. IsSome other → g.shaped new ≡ g.shaped between) → AttachedStays g between new → IsLater (g.marks between) (g.marks new)
    → IfOk r (λ other. IsAsked g name s other old new)
asked_by g name (Err e) s old between new is shapes differs shaped unshaped stays later = tt
asked_by g name (Ok other) s old between new is shapes differs shaped unshaped stays later = record {
  between = between;
  is_attached = is;
  shapes = shapes;
  shaped = shaped;
  unshaped = unshaped;
  differs = differs;
  named = still_named g name old between new is stays later;
  later = later;
}

-- ---- a call without an answer, to take a shape
pub stopped_by : {K T : Type 0} (g : Ghosts K) (name : List ℕ) (r : Result T KeeperEnd) (Rise : Marks → Marks → Type 0) (s : Schema) (old between new : K) → IsAttached g name old between
    → OnErr r (Becomes g between new (StaysOrShapes s)) → IsLater (g.marks between) (g.marks new) → Rise (g.marks between) (g.marks new) → OnErr r (IsStopped g name Rise old new)
stopped_by g name (Ok x) Rise s old between new is tables later rise = tt
stopped_by g name (Err e) Rise s old between new is tables later rise = record { between = between; schema = s; begun = inr is; tables = tables; later = later; rise = rise }

pub failed_by : {K T : Type 0} (g : Ghosts K) (name : List ℕ) (r : Result T KeeperEnd) (s : Schema) (old between new : K) → IsAttached g name old between
    → OnErr r (Becomes g between new (StaysOrShapes s)) → HasCause g between new r → IsErrOf r Failed → IsStopped g name Counted old new
failed_by g name (Ok x) s old between new is tables cause e = absurd cc
failed_by g name (Err end) s old between new is tables cause e = record { between = between; schema = s; begun = inr is; tables = tables; later = cause.later; rise = cause.failed e }
