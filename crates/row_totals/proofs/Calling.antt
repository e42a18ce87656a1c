-- How calls in a transaction end, and what they leave of what is counted.
use Rattle.std.proofs.Common.{◌≡◌, ℕ, ℤ, List, false, Option, Some, None, refl, ap, ◌∙◌, arith}
use Rattle.std.specs.Prelude.{Result, Ok, Err, IfOk, IsErrOf, OnErr}
use Rattle.fx_base.specs.Silence.{IsLater, MayFallSilent, Marks, SilenceCause}
use Rattle.fx_base.specs.Telling.{Stays}
use Rattle.fx_types.specs.Values.{Data}
use Rattle.fx_core.specs.declared.schema.Column.{Column}
use Rattle.fx_core.specs.declared.schema.Schema.{Schema}
use Rattle.row_keeper.specs.Causes.{HasCause}
use Rattle.row_keeper.specs.Changes.{Inserts, Removes, Replaces}
use Rattle.row_keeper.specs.Tables.{Tables}
use Rattle.row_keeper.specs.declared.keeper.Keeper.{Ghosts}
use Rattle.row_keeper.specs.declared.keeper.KeeperEnd.{KeeperEnd}
use Rattle.row_keeper.specs.declared.keeper.KeeperEnd.TheVariants.{Failed, Memory}
use Rattle.row_keeper.specs.declared.rows.Put.{Put}
use Rattle.row_keeper.specs.declared.rows.Put.TheVariants.{Id, NoRow, Refused}
use Rattle.row_counts.specs.Looking.{OnlyLooks, beside}
use Rattle.row_counts.proofs.Looks.{cause_then, looks_none, passes_then, stays, told_then}
use Rattle.row_counts.proofs.Telling.{counted_stays}
use Rattle.row_totals.specs.Calls.{Called, StaysCounted}

pub out_of_memory : {T : Type 0} (a b : Marks) → IsLater a b → HasCause {T = T} a b (Err Memory)
out_of_memory a b later = record { later = later; failed = λ f. absurd cc }

-- an end of a call is one of a call that answers otherwise
other : {T U : Type 0} (e : KeeperEnd) → IsErrOf {T = T} {E = KeeperEnd} (Err e) Failed → IsErrOf {T = U} {E = KeeperEnd} (Err e) Failed
other {T} {U} e f = let err : KeeperEnd → Result U KeeperEnd = λ x. Err x in ap err (same f)
  where
    same : IsErrOf {T = T} {E = KeeperEnd} (Err e) Failed → e ≡ Failed
    same f = cc

module _ {K : Type 0} (g : Ghosts K) {T : Type 0} (P : T → Tables → Tables → Type 0) where
  -- no call was made
  pub not_called : (k : K) → Called g P k k (Err Memory)
  not_called k = record {
    ok = tt;
    err = stays _ (g.told k);
    shaped = refl;
    passes = (looks_none g k).passes;
    cause = out_of_memory (g.marks k) (g.marks k) (record { faults = omega arith; doubt = omega arith });
  }

  -- calls were made that only look, and then none
  pub looked_only : {U : Type 0} (a b : K) (e : KeeperEnd) → OnlyLooks g a b → HasCause {T = U} (g.marks a) (g.marks b) (Err e) → Called g P a b (Err e)
  looked_only {U} a b e h cause = record { ok = tt; err = h.told; shaped = h.shaped; passes = h.passes; cause = record { later = cause.later; failed = λ f. cause.failed (other {T = T} {U = U} e f) } }

  pub looked_out : (a b : K) → OnlyLooks g a b → Called g P a b (Err Memory)
  looked_out a b h = looked_only {U = T} a b Memory h (out_of_memory (g.marks a) (g.marks b) h.later)

  -- and then one
  pub called_then : (a b c : K) (r : Result T KeeperEnd) → OnlyLooks g a b → Called g P b c r → Called g P a c r
  called_then a b c r h k = record {
    ok = ok r k.ok;
    err = err r k.err;
    shaped = k.shaped ∙ h.shaped;
    passes = passes_then (beside g a) (beside g b) (beside g c) h.later k.cause.later h.passes k.passes;
    cause = cause_then g a b c r h k.cause;
  }
    where
      ok : (r : Result T KeeperEnd) → IfOk r (λ x. MayFallSilent (SilenceCause (g.marks b) (g.marks c)) (P x) (g.told b) (g.told c)) → IfOk r (λ x. MayFallSilent (SilenceCause (g.marks a) (g.marks c)) (P x) (g.told a) (g.told c))
      ok (Ok x) p = told_then g (P x) a b c h k.cause.later p
      ok (Err e) p = tt

      err : (r : Result T KeeperEnd) → OnErr r (MayFallSilent (SilenceCause (g.marks b) (g.marks c)) Stays (g.told b) (g.told c)) → OnErr r (MayFallSilent (SilenceCause (g.marks a) (g.marks c)) Stays (g.told a) (g.told c))
      err (Ok x) p = tt
      err (Err e) p = told_then g Stays a b c h k.cause.later p

-- ---- what is counted

-- nothing changes but what is told, which may fall silent
pub counted_same : (lost : Type 0) (schema : Option Schema) (old new : List (List (List ℤ))) (a b : Option Tables) → MayFallSilent lost Stays a b → new ≡ old → StaysCounted schema old new a b
counted_same lost schema old new a b g e h = counted_stays lost schema schema old new a b g refl e h

pub counted_over : (lost lost' : Type 0) (schema : Option Schema) (old new : List (List (List ℤ))) (a b c : Option Tables) → MayFallSilent lost Stays a b → MayFallSilent lost' Stays b c → new ≡ old → StaysCounted schema old new a c
counted_over lost lost' schema old new a b c g k e h = counted_stays lost' schema schema old new b c k refl e (counted_stays lost schema schema old old a b g refl refl h)

-- a row that isn't put leaves the tables
pub refused_leaves : (lost : Type 0) (columns : List Column) (table : ℕ) (cells : List Data) (p : Put) (a b : Option Tables) → ((id : ℕ) → p ≡ Id id → ⊥) → MayFallSilent lost (Inserts columns table cells p) a b → MayFallSilent lost Stays a b
refused_leaves lost columns table cells p None b n h = h
refused_leaves lost columns table cells p (Some a) None n h = h
refused_leaves lost columns table cells (Id id) (Some a) (Some b) n h = absurd (n id refl)
refused_leaves lost columns table cells NoRow (Some a) (Some b) n h = absurd h
refused_leaves lost columns table cells (Refused r) (Some a) (Some b) n h = h.1

pub unchanged_leaves : (lost : Type 0) (columns : List Column) (table id : ℕ) (cells : List Data) (p : Put) (a b : Option Tables) → ((n : ℕ) → p ≡ Id n → ⊥) → MayFallSilent lost (Replaces columns table id cells p) a b → MayFallSilent lost Stays a b
unchanged_leaves lost columns table id cells p None b n h = h
unchanged_leaves lost columns table id cells p (Some a) None n h = h
unchanged_leaves lost columns table id cells (Id k) (Some a) (Some b) n h = absurd (n k refl)
unchanged_leaves lost columns table id cells NoRow (Some a) (Some b) n h = h.1
unchanged_leaves lost columns table id cells (Refused r) (Some a) (Some b) n h = h.2

pub absent_leaves : (lost : Type 0) (table id : ℕ) (a b : Option Tables) → MayFallSilent lost (Removes table id false) a b → MayFallSilent lost Stays a b
absent_leaves lost table id None b h = h
absent_leaves lost table id (Some a) None h = h
absent_leaves lost table id (Some a) (Some b) h = h.1
