-- Answers that a refusal may end.
use Rattle.std.proofs.Common.{◌≡◌, ◌∙◌, ℕ, List, [], ◌∷◌, length, map, Option, Some, None, refl, sym, ap, arith}
use Rattle.std.specs.Prelude.{Result, Ok, Err}
use Rattle.std.specs.Str.{chars}
use Rattle.fx_core.specs.declared.schema.Column.{Column}
use Rattle.row_files.specs.Batches.{GivesBatch, batch_of}
use Rattle.row_files.specs.Records.{AreRecordsOf, Fields}
use Rattle.row_files.specs.declared.batches.Batch.{Batch}
use Rattle.row_files.specs.Ends.{Gives, IfRefused, unless}
use Rattle.row_files.specs.declared.ends.BatchEnd.{BatchEnd}
use Rattle.row_files.specs.declared.ends.BatchEnd.TheVariants.{Refused, Memory}

-- what holds of a refusal for one reason holds for another
pub told : (e : BatchEnd) (P Q : BatchEnd → Type 0) → ((r : BatchEnd) → P r → Q r) → IfRefused e P → IfRefused e Q
told Memory P Q f h = tt
told (Refused at column rule) P Q f h = f (Refused at column rule) h

pub told_some : (o : Option BatchEnd) (e d : BatchEnd) → o ≡ Some d → IfRefused e (λ r. r ≡ d) → IfRefused e (λ r. o ≡ Some r)
told_some o e d q h = told e (λ r. r ≡ d) (λ r. o ≡ Some r) (λ r k. q ∙ ap Some (sym k)) h

module _ {A : Type 0} where
  pub told_err : (v : Result A BatchEnd) (e d : BatchEnd) → v ≡ Err d → IfRefused e (λ r. r ≡ d) → IfRefused e (λ r. v ≡ Err r)
  told_err v e d q h = told e (λ r. r ≡ d) (λ r. v ≡ Err r) (λ r k. q ∙ ap Err (sym k)) h

  pub gives_as : (v w r : Result A BatchEnd) → v ≡ w → Gives w r → Gives v r
  gives_as v w (Ok a) q h = q ∙ h
  gives_as v w (Err e) q h = told e (λ r. w ≡ Err r) (λ r. v ≡ Err r) (λ r k. q ∙ k) h

  -- a check that passes leaves what comes behind it, and one that doesn't ends it
  pub passed : (o : Option BatchEnd) (v : Result A BatchEnd) → o ≡ None → unless o v ≡ v
  passed o v q = ap (λ p. unless p v) q

  pub stopped : (o : Option BatchEnd) (v : Result A BatchEnd) (e : BatchEnd) → IfRefused e (λ r. o ≡ Some r) → IfRefused e (λ r. unless o v ≡ Err r)
  stopped o v e h = told e (λ r. o ≡ Some r) (λ r. unless o v ≡ Err r) (λ r k. ap (λ p. unless p v) k) h

pub gives_batch : (columns : List Column) (key : ℕ) (bytes : List ℕ) (records : List Fields) → AreRecordsOf bytes records → (answer : Result Batch BatchEnd) → Gives (batch_of columns key records) answer → GivesBatch columns key bytes answer
gives_batch columns key bytes records a (Ok b) h = (records, a, h)
gives_batch columns key bytes records a (Err Memory) h = tt
gives_batch columns key bytes records a (Err (Refused at column rule)) h = (records, a, h)

-- nothing is made of no records, and an empty text is no characters
pub map_none : {X Y : Type 0} (f : X → Y) (xs : List X) → length xs ≡ 0 → map f xs ≡ []
map_none f [] h = refl
map_none f (x ∷ xs) h = absurd (omega (arith, h))

pub no_words : chars [] ≡ []
unfolding chars
no_words = refl
