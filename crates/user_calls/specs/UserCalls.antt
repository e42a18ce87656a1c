-- What calls of an app's own functions are worth, by the values of their arguments. Nothing is
-- expanded here.
use Rattle.std.specs.Prelude.{◌≡◌, ℕ, zero, suc, ◌≤◌, List, [], ◌∷◌, length, Bool, true, false}
use Rattle.std.specs.Prelude.{Some, None, slice_get}
use Rattle.fx_types.specs.Values.{Data, rec, field_list}
use Rattle.fx_core.specs.declared.sources.Source.{Source}
use Rattle.fx_core.specs.Term.{Term, Terms, of, nil, cons, Top}
use Rattle.fx_core.specs.Term as top
use Rattle.fx_typing.specs.WellTyped.{PartScope, catching, head_of, parts_count, standing_at}
use Rattle.fx_semantics.specs.Around.{Around, Meaning}
use Rattle.fx_semantics.specs.Fresh.{IsNode, OfAll}
use Rattle.fx_udf.specs.Expanding.{arranged}

-- what each function gives: over what sources give, of the values of its arguments
abbrev pub Calls : Type 1
Calls = ℕ → (Source → Data → Type 0) → List Data → Data → Type 0

-- what a node means where calls give this: all arguments of a call are evaluated, errors too
abbrev pub IsNodeBy : Calls → Top → List Meaning → Meaning
IsNodeBy C (top.user f) Ps a v = OfAll Ps a (λ ds. C f a.gives ds v)
IsNodeBy C h Ps a v = IsNode h Ps a v

abbrev mutual
  -- what a tree means where calls give this
  pub meaning_by : Calls → Term → Meaning
  meaning_by C (of h ts) = IsNodeBy C h (meanings_by C ts)

  pub meanings_by : Calls → Terms → List Meaning
  meanings_by C nil = []
  meanings_by C (cons t ts) = meaning_by C t ∷ meanings_by C ts

-- the record of parameters, each bound to the value of its argument, errors too
abbrev pub bound : List (List ℕ) → List Data → Data
bound names ds = rec (field_list (arranged names ds))

-- where a body stands: in the one scope of its parameters, without an item and a caught error
abbrev pub standing : (Source → Data → Type 0) → List (List ℕ) → List Data → Around
standing gives names ds = record {
  gives = gives;
  rows = bound names ds ∷ [];
  item = None;
  caught = None;
}

-- THE value of a call: that of the function's body in the one scope of its parameters, of which
-- each has one argument
abbrev pub IsCallBy : List (List (List ℕ)) → List Term → Calls → Calls
IsCallBy A bodies C f gives ds v = (names : List (List ℕ)) × (body : Term)
    × (slice_get A f ≡ Some names) × (slice_get bodies f ≡ Some body)
    × (length ds ≡ length names) × meaning_by C body (standing gives names ds) v

-- what calls give that stand in one another so deep at most
abbrev pub calls_of : List (List (List ℕ)) → List Term → ℕ → Calls
calls_of A bodies zero f gives ds v = ⊥
calls_of A bodies (suc n) f gives ds v = IsCallBy A bodies (calls_of A bodies n) f gives ds v

-- THE value of a tree with calls: it has it however deep calls may stand in one another, from some
-- depth on
abbrev pub IsWorth : List (List (List ℕ)) → List Term → Around → Term → Data → Type 0
IsWorth A bodies a t v = (n : ℕ) × ((m : ℕ) → n ≤ m → meaning_by (calls_of A bodies m) t a v)

-- ---- what bodies see

-- a head sees the item and an error that was caught around the tree only where it may, and calls
-- that are no calls over tables are written so
abbrev pub IsHeadClosed : Bool → Bool → Top → Type 0
IsHeadClosed item caught top.item = item ≡ true
IsHeadClosed item caught top.caught = caught ≡ true
IsHeadClosed item caught (top.call f) = head_of f ≡ top.call f
IsHeadClosed item caught h = Unit {0}

-- an error is caught in the tree itself
abbrev pub catches : Bool → PartScope → Bool
catches b catching = true
catches b s = b

abbrev mutual
  pub IsClosed : Bool → Bool → Term → Type 0
  IsClosed item caught (of h ts) = IsHeadClosed item caught h
      × AreClosed item caught h (parts_count ts) 0 ts

  pub AreClosed : Bool → Bool → Top → ℕ → ℕ → Terms → Type 0
  AreClosed item caught h n i nil = Unit {0}
  AreClosed item caught h n i (cons t ts) = IsClosed item (catches caught (standing_at h n i)) t
      × AreClosed item caught h n (suc i) ts

-- bodies see no item, and no error but one that is caught in them
abbrev pub AllClosed : List Term → Type 0
AllClosed bodies = (f : ℕ) (body : Term) → slice_get bodies f ≡ Some body
    → IsClosed false false body
