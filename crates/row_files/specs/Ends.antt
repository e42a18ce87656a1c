-- What a batch is read as, or why it is refused.
use Rattle.std.specs.Prelude.{◌≡◌, Option, Some, None, Result, Ok, Err}
use Rattle.fx_types.specs.ValueView.{view}
use Rattle.fx_types.specs.Values.{Data}
use Rattle.fx_types.specs.declared.values.Value.{Value}
use Rattle.row_files.specs.declared.ends.BatchEnd.{BatchEnd}
use Rattle.row_files.specs.declared.ends.BatchEnd.TheVariants.{Refused, Memory}

-- where it is a refusal, this holds of it: want of memory is told by no clause
abbrev pub IfRefused : BatchEnd → (BatchEnd → Type 0) → Type 0
IfRefused Memory p = Unit {0}
IfRefused (Refused at column rule) p = p (Refused at column rule)

-- the refusal, where there is one, and else what is read
abbrev pub unless : {A : Type 0} → Option BatchEnd → Result A BatchEnd → Result A BatchEnd
unless None r = r
unless (Some e) r = Err e

-- what is read comes first, and then what is made of it
abbrev pub and_then : {A B : Type 0} → Result A BatchEnd → (A → Result B BatchEnd)
    → Result B BatchEnd
and_then (Ok a) go = go a
and_then (Err e) go = Err e

-- an answer is this one, or want of memory
abbrev pub Gives : {A : Type 0} → Result A BatchEnd → Result A BatchEnd → Type 0
Gives v (Ok a) = v ≡ Ok a
Gives v (Err e) = IfRefused e (λ r. v ≡ Err r)

-- an answer of a value is of this one, seen as data, or want of memory
abbrev pub GivesValue : Result Data BatchEnd → Result Value BatchEnd → Type 0
GivesValue v (Ok a) = v ≡ Ok (view a)
GivesValue v (Err e) = IfRefused e (λ r. v ≡ Err r)

-- a check passes where nothing is refused, and tells the refusal else
abbrev pub Passes : {A : Type 0} → Option BatchEnd → Result A BatchEnd → Type 0
Passes o (Ok a) = o ≡ None
Passes o (Err e) = IfRefused e (λ r. o ≡ Some r)
