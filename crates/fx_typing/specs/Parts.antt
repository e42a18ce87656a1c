-- The parts of a node as they were judged, and where a node stands.
use Rattle.std.specs.Prelude.{ℕ, suc, min, List, [], ◌∷◌, Bool, true, false, ◌&&◌, nat_lt, Option}
use Rattle.std.specs.Prelude.{None, Result, Ok, Err, if◌then◌else◌}
use Rattle.fx_types.specs.Types.{Shape}
use Rattle.fx_core.specs.Tree.{Forest, none, more}
use Rattle.fx_core.specs.Term.{Term}
use Rattle.fx_core.specs.Rules as rules
use Rattle.fx_typing.specs.Local.{Piece, value, label}
use Rattle.fx_typing.specs.Meaning.{Scope, NameMeaning}

-- what a place allows: a value alone, or one that acts; the name of the rows by `As`, the name of a
-- column, or the name of what changes, alone or with a name for its rows by `As`; left of a dot a
-- name that is no value, and a value that acts where the whole acts; the variables of a screen with
-- their values
pub data Grant : Type 0 where
  nothing : Grant
  acting : Grant
  an_alias : Grant
  a_column : Grant
  a_target : Grant
  aliased_target : Grant
  a_meaning : Bool → Grant
  on_screen : Bool → Grant

-- a part as it was judged: a value or the name of a column; left of a dot a name that is no value;
-- the name of what changes, with the name of its rows if it has one; variables with their values
pub data JudgedPart : Type 0 where
  piece : Piece → JudgedPart
  meant : NameMeaning → JudgedPart
  target : Option (List ℕ) → List ℕ → JudgedPart
  assigned : List (List ℕ) → List (Term × Shape) → JudgedPart

-- where a node stands: the scopes around it from the outside, whether an error is caught around it,
-- and what its place allows
pub record Setting : Type 0 where
  pub scopes : List Scope
  pub catches : Bool
  pub grant : Grant

-- whether a node may act
abbrev pub may_act : Grant → Bool
may_act acting = true
may_act (a_meaning b) = b
may_act g = false

-- a value without a name of its rows
abbrev pub plainly : Term × Shape → JudgedPart
plainly x = piece (value None x.0 x.1)

abbrev pub as_part : Result (Term × Shape) ℕ → Result JudgedPart ℕ
as_part (Ok x) = Ok (plainly x)
as_part (Err e) = Err e

-- a part as the one rule takes it. What is no value and no column's name stands nowhere.
abbrev pub piece_of : JudgedPart → Piece
piece_of (piece p) = p
piece_of (target a x) = label x
piece_of (meant m) = label []
piece_of (assigned ns xs) = label []

abbrev pub pieces : List JudgedPart → List Piece
pieces [] = []
pieces (q ∷ qs) = piece_of q ∷ pieces qs

-- goes on with values; another part is of the wrong type
abbrev pub put_value : Term × Shape → Result (List (Term × Shape)) ℕ
    → Result (List (Term × Shape)) ℕ
put_value x (Ok xs) = Ok (x ∷ xs)
put_value x (Err e) = Err e

abbrev pub values : List JudgedPart → Result (List (Term × Shape)) ℕ
values [] = Ok []
values (piece (value a c t) ∷ qs) = put_value (c, t) (values qs)
values (q ∷ qs) = Err rules.wrong_type

-- a rule that the place of a node breaks, where the node breaks no lower one
abbrev pub unless_rule : {A : Type 0} → Bool → ℕ → Result A ℕ → Result A ℕ
unless_rule b k (Ok x) = if b then Err k else Ok x
unless_rule b k (Err e) = if b && nat_lt k e then Err k else Err e

-- two things as one, or the lowest rule that one of them breaks
abbrev pub lowest : {A B C : Type 0} → (A → B → C) → Result A ℕ → Result B ℕ → Result C ℕ
lowest f (Ok a) (Ok b) = Ok (f a b)
lowest f (Ok a) (Err k) = Err k
lowest f (Err e) (Ok b) = Err e
lowest f (Err e) (Err k) = Err (min e k)

-- things in turn, each as its part makes it, or the lowest rule that one of them breaks
abbrev pub all_or_lowest : {A B : Type 0} → (A → Result B ℕ) → List A → Result (List B) ℕ
all_or_lowest f [] = Ok []
all_or_lowest f (x ∷ xs) = lowest (λ y ys. y ∷ ys) (f x) (all_or_lowest f xs)

-- how many parts there are
abbrev pub part_count : Forest → ℕ
part_count none = 0
part_count (more k ks) = suc (part_count ks)
