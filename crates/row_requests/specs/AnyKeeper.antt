-- What may become of posted changes, whatever the tables are, which may not be told.
use Rattle.std.specs.Prelude.{◌≡◌, ◌⊎◌, ℕ, ◌+◌, ◌<◌, ◌≤◌, List, [], ◌∷◌, length, Option, Some, None}
use Rattle.std.specs.Prelude.{Result, Ok, Err}
use Rattle.fx_types.specs.Values.{Data}
use Rattle.fx_core.specs.declared.schema.Column.{Column}
use Rattle.fx_core.specs.declared.schema.TableShape.{TableShape}
use Rattle.row_keeper.specs.Changes.{NamesItsColumn}
use Rattle.row_keeper.specs.Tables.{columns_at}
use Rattle.row_keeper.specs.declared.rows.RowRefusal.{RowRefusal}
use Rattle.view_text.specs.declared.refused.Refusal.{Refusal}
use Rattle.numbered_requests.specs.Replies.{plain}
use Rattle.row_requests.specs.Changes.{change_refusal, first_refusal, kept_refusal, table_index}
use Rattle.row_requests.specs.Changes.{table_changed}
use Rattle.row_requests.specs.declared.bodies.Change.{Change}
use Rattle.row_requests.specs.declared.bodies.Change.TheVariants.{Add, Replace, Remove}
use Rattle.row_requests.specs.declared.rule.Rule.{Rule}

-- a rule that a keeper names breaks: of a column of the table, or of the whole row
abbrev pub IsKept : ℕ → List Column → Refusal → Type 0
IsKept at columns r = (kept : RowRefusal) × NamesItsColumn columns kept.rule kept.column
    × (r ≡ kept_refusal at columns kept)

-- values are put into a row: what is given breaks this rule, if any; else they stand in a row of
-- such a number, or a rule that the keeper names breaks
abbrev pub MayPut : ℕ → List Column → (ℕ → Type 0) → Option Refusal → Result ℕ Refusal → Type 0
MayPut at columns P (Some r) said = said ≡ Err r
MayPut at columns P None (Ok id) = P id
MayPut at columns P None (Err r) = IsKept at columns r

-- a new row has a number from 1
abbrev pub MayAdd : ℕ → List Column → List (List ℕ × Option Data) → Result ℕ Refusal → Type 0
MayAdd at columns gs said = MayPut at columns (λ id. 1 ≤ id) (first_refusal at columns gs) said

-- a row that is changed isn't there (22), or has the number that was asked for
abbrev pub MayReplace : ℕ → List Column → ℕ → List (List ℕ × Option Data) → Result ℕ Refusal
    → Type 0
MayReplace at columns asked gs said = (said ≡ Err (plain 22))
    ⊎ MayPut at columns (λ id. id ≡ asked) (first_refusal at columns gs) said

-- so it is with one that is taken out
abbrev pub MayRemove : ℕ → Result ℕ Refusal → Type 0
MayRemove asked said = (said ≡ Err (plain 22)) ⊎ (said ≡ Ok asked)

-- a change of the table at this place (21 where there is none)
abbrev pub MayChangeIn : List TableShape → ℕ → Change → Option ℕ → Result ℕ Refusal → Type 0
MayChangeIn shapes at c None said = said ≡ Err (plain 21)
MayChangeIn shapes at (Add name gs) (Some k) said = MayAdd at (columns_at shapes k) gs said
MayChangeIn shapes at (Replace name asked gs) (Some k) said
    = MayReplace at (columns_at shapes k) asked gs said
MayChangeIn shapes at (Remove name asked) (Some k) said = MayRemove asked said

abbrev pub MayChange : List TableShape → ℕ → Change → Result ℕ Refusal → Type 0
MayChange shapes at c said = MayChangeIn shapes at c (table_index (table_changed c) shapes) said

-- THE changes, from this place on: a number for each, or a refusal of one of them, behind others
-- that may act
abbrev pub MayEnd : List TableShape → ℕ → List Change → Result (List ℕ) Refusal → Type 0
MayEnd shapes at [] (Ok ids) = ids ≡ []
MayEnd shapes at [] (Err r) = ⊥
MayEnd shapes at (c ∷ cs) (Ok []) = ⊥
MayEnd shapes at (c ∷ cs) (Ok (id ∷ ids)) = MayChange shapes at c (Ok id)
    × MayEnd shapes (at + 1) cs (Ok ids)
MayEnd shapes at (c ∷ cs) (Err r) = MayChange shapes at c (Err r)
    ⊎ ((id : ℕ) × MayChange shapes at c (Ok id) × MayEnd shapes (at + 1) cs (Err r))

-- ---- what follows

-- a rule of rows breaks in the change at this place (23)
abbrev pub BreaksRule : ℕ → Refusal → Type 0
BreaksRule at r = (column : List ℕ) × (rule : Rule) × (r ≡ change_refusal at column rule)

-- the change at this place names no table (21) or a row that isn't there (22), or breaks a rule
abbrev pub IsRefusedAt : ℕ → Refusal → Type 0
IsRefusedAt at r = (r ≡ plain 21) ⊎ (r ≡ plain 22) ⊎ BreaksRule at r

-- so many changes have a number each, or one of them is refused
abbrev pub IsOfChanges : ℕ → Result (List ℕ) Refusal → Type 0
IsOfChanges n (Ok ids) = length ids ≡ n
IsOfChanges n (Err r) = (at : ℕ) × (at < n) × IsRefusedAt at r

-- Whatever the tables are, what is said of changes is a number for each, or a refusal of one: never
-- one of another number.
abbrev pub TellsOfEach : Type 0
TellsOfEach = (shapes : List TableShape) (changes : List Change) (o : Result (List ℕ) Refusal)
    → MayEnd shapes 0 changes o → IsOfChanges (length changes) o
