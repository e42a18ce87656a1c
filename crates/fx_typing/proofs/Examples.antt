-- Formulas as the definitions judge them, worked out by hand.
use Rattle.std.proofs.Common.{◌≡◌, inl, ℕ, zero, suc, List, [], ◌∷◌, true, false, Result, Ok, Err, refl}
use Rattle.std.specs.Prelude.{Some, None, pos, codes}
use Rattle.fx_types.specs.Types.{Shape, ColumnList, blanks, numbers, texts, booleans, records, tables, no_columns, column}
use Rattle.fx_types.specs.Values.{number, text, boolean, tab, no_rows}
use Rattle.fx_core.specs.declared.functions.Fun.TheVariants as fun
use Rattle.fx_core.specs.declared.deeds.Target.TheVariants as rows
use Rattle.fx_core.specs.declared.functions.Form.TheVariants as form
use Rattle.fx_core.specs.declared.functions.Acting.TheVariants as acts
use Rattle.fx_core.specs.declared.signatures.SigShape.TheVariants as sig
use Rattle.fx_core.specs.declared.rows.Answer.TheVariants as answer
use Rattle.fx_core.specs.declared.literals.SortOrder.TheVariants as order
use Rattle.fx_core.specs.Rows.{row_of, form_row, takes_count}
use Rattle.fx_core.specs.declared.expr.Op.TheVariants as op
use Rattle.fx_core.specs.Tree.{Tree, node, Forest, none, more, Head}
use Rattle.fx_core.specs.Tree as tree
use Rattle.fx_core.specs.Term.{Term, of, nil, cons, const, call, over, coerce, rec, list, dot, row, chain}
use Rattle.fx_core.specs.ColumnLists.{and_then}
use Rattle.fx_typing.specs.Local.{value, label}
use Rattle.fx_types.specs.declared.controls.Control.TheVariants as control
use Rattle.fx_typing.specs.Meaning.{Place, written_or}
use Rattle.fx_typing.specs.Parts.{JudgedPart, piece, target, plainly}
use Rattle.fx_typing.specs.Plans.{setting_by, plan_call}
use Rattle.fx_typing.specs.Calls.{made_or_lowest, called_by}
use Rattle.fx_typing.specs.Breaks.{taken_at, could_act}
use Rattle.fx_typing.specs.Deeds.{rows_named_by, change_of}
use Rattle.fx_typing.specs.Details.{acted_at, call_limit, word_with_number, stuck_by, IsToldBrokenWhole}
use Rattle.fx_typing.specs.Typing.{judge, outermost_setting, judge_whole}

-- 1 < "x" is of wrong types, at the operator's first token
pub less_texts : (p : Place) → judge p (outermost_setting false) (node 0 (tree.pair op.Lt) (more (node 0 (tree.num (pos 10000)) none) (more (node 4 (tree.text (codes "x")) none) none))) ≡ Err (0, 6)
less_texts p = refl

-- 1 + "x" coerces the text
pub plus_text : (p : Place) → judge p (outermost_setting false) (node 0 (tree.pair op.Add) (more (node 0 (tree.num (pos 10000)) none) (more (node 4 (tree.text (codes "x")) none) none)))
    ≡ Ok (plainly (of (call fun.AddNumbers) (cons (of (const (number (pos 10000))) nil) (cons (of (coerce numbers) (cons (of (const (text (codes "x"))) nil) nil)) nil)), numbers))
plus_text p = refl

-- {b: 1, a: true} has its fields by rising names
pub record_rises : (p : Place) → judge p (outermost_setting false) (node 0 (tree.rec (codes "b" ∷ codes "a" ∷ []) (1 ∷ 7 ∷ [])) (more (node 4 (tree.num (pos 10000)) none) (more (node 10 (tree.truth true) none) none)))
    ≡ Ok (plainly (
      of (rec (codes "a" ∷ codes "b" ∷ [])) (cons (of (const (boolean true)) nil) (cons (of (const (number (pos 10000))) nil) nil)),
      records (column (codes "a") booleans (column (codes "b") numbers no_columns)),
    ))
record_rises p = refl

-- {a: 1, a: 1} names a field twice
pub field_twice : (p : Place) → judge p (outermost_setting false) (node 0 (tree.rec (codes "a" ∷ codes "a" ∷ []) (1 ∷ 7 ∷ [])) (more (node 4 (tree.num (pos 10000)) none) (more (node 10 (tree.num (pos 10000)) none) none))) ≡ Err (0, 5)
field_twice p = refl

-- {a: 1}.b has no such field, and {a: 1}.a is a number
pub no_field : (p : Place) → judge p (outermost_setting false) (node 0 (tree.dot (codes "b")) (more (node 0 (tree.rec (codes "a" ∷ []) (1 ∷ [])) (more (node 4 (tree.num (pos 10000)) none) none)) none)) ≡ Err (0, 12)
no_field p = refl

-- [1, "a"] has no common type, and [1] has the column Value
pub mixed_list : (p : Place) → judge p (outermost_setting false) (node 0 tree.list (more (node 1 (tree.num (pos 10000)) none) (more (node 4 (tree.text (codes "a")) none) none))) ≡ Err (0, 6)
mixed_list p = refl

pub list_of_one : (p : Place) → judge p (outermost_setting false) (node 0 tree.list (more (node 1 (tree.num (pos 10000)) none) none))
    ≡ Ok (plainly (of (list numbers) (cons (of (const (number (pos 10000))) nil) nil), tables (column (codes "Value") numbers no_columns)))
list_of_one p = refl

-- 1; 2 acts, and its parts are judged first
pub pure_chain : (p : Place) → judge p (outermost_setting false) (node 0 tree.chain (more (node 0 (tree.num (pos 10000)) none) (more (node 3 (tree.num (pos 10000)) none) none))) ≡ Err (0, 9)
pure_chain p = refl

pub acting_chain : (p : Place) → judge p (outermost_setting true) (node 0 tree.chain (more (node 0 (tree.num (pos 10000)) none) (more (node 3 (tree.truth true) none) none)))
    ≡ Ok (plainly (of chain (cons (of (const (number (pos 10000))) nil) (cons (of (const (boolean true)) nil) nil)), booleans))
acting_chain p = refl

-- an alias stands at the first place of a table call alone
pub alias_alone : (p : Place) → judge p (outermost_setting false) (node 0 (tree.alias (codes "X")) (more (node 0 tree.list none) none)) ≡ Err (0, 6)
alias_alone p = refl

-- $"" is the empty text, and text that is wanted of a number is coerced
pub empty_weave : (p : Place) → judge p (outermost_setting false) (node 0 tree.woven none) ≡ Ok (plainly (of (const (text [])) nil, texts))
empty_weave p = refl

pub wanted_text : (p : Place) → judge_whole p false (Some texts) (node 0 (tree.num (pos 10000)) none)
    ≡ Ok (of (coerce texts) (cons (of (const (number (pos 10000))) nil) nil), texts)
wanted_text p = refl

pub wanted_record : (p : Place) → judge_whole p false (Some (records no_columns)) (node 7 (tree.num (pos 10000)) none) ≡ Err (7, 6)
wanted_record p = refl

-- the name of the innermost row is found where a filter's condition stands
pub in_a_row : (p : Place) (c : Term) → judge p (setting_by p.names (outermost_setting false) (plan_call false (Some (sig.One fun.Filter)) 2 (piece (value None c (tables (column (codes "A") numbers no_columns))) ∷ []))
    (piece (value None c (tables (column (codes "A") numbers no_columns))) ∷ [])) (node 3 (tree.name (codes "A")) none)
    ≡ Ok (plainly (of (dot (codes "A")) (cons (of (row 0) nil) nil), numbers))
in_a_row p c = refl

-- a literal chooses the order, and one that is no order is of a wrong type
pub sorted_down : (p : Place) (c f : Term) → called_by p (outermost_setting false) (sig.Literal (fun.Sort order.Ascending))
    (piece (value None c (tables no_columns)) ∷ plainly (f, numbers) ∷ plainly (of (const (text (codes "Descending"))) nil, texts) ∷ [])
    ≡ Ok (of (over (fun.Sort order.Descending)) (cons c (cons f nil)), tables no_columns)
unfolding lib.Utf8.encode
sorted_down p c f = refl

pub no_order : (p : Place) (c f : Term) → called_by p (outermost_setting false) (sig.Literal (fun.Sort order.Ascending))
    (piece (value None c (tables no_columns)) ∷ plainly (f, numbers) ∷ plainly (of (const (text (codes "Down"))) nil, texts) ∷ []) ≡ Err 6
unfolding lib.Utf8.encode
no_order p c f = refl

-- under one name the first part chooses
pub sum_of_rows : (p : Place) (c f : Term) → called_by p (outermost_setting false) (sig.Either fun.Sum fun.SumRows)
    (piece (value None c (tables no_columns)) ∷ plainly (f, numbers) ∷ []) ≡ Ok (of (over fun.SumRows) (cons c (cons f nil)), numbers)
sum_of_rows p c f = refl

-- a text that is told acts, and so is none in a pure place
pub told : (p : Place) (c : Term) → called_by p (outermost_setting false) (sig.Act acts.Notify) (plainly (c, texts) ∷ []) ≡ Err 9
told p c = refl

-- the rows of a gallery that aren't written are a table without columns
pub unwritten_items : written_or control.Gallery (codes "Items") blanks None ≡ (of (const (tab no_rows)) nil, tables no_columns)
unfolding lib.Utf8.encode
unwritten_items = refl

-- a removed row without ID breaks rule 12, and one that is no record rule 6: the lower is told
pub lowest_of_rows : (c d : Term) → rows_named_by (rows.Table 0) no_columns ((c, records no_columns) ∷ (d, numbers) ∷ []) ≡ Err 6
lowest_of_rows c d = refl

-- texts are joined in any number
pub many_joined : takes_count (row_of fun.Concatenation) 300 ≡ true
many_joined = refl

pub many_required : takes_count (form_row form.All) 300 ≡ true
many_required = refl

-- a table of records that are nine deep passes the limit of types
abbrev deep : ℕ → Shape
deep zero = numbers
deep (suc n) = records (column (codes "A") (deep n) no_columns)

pub deep_table : (p : Place) (c : Term) → call_limit p (outermost_setting false) (Some sig.Table) (plainly (c, deep 9) ∷ []) ≡ word_with_number (codes "type") 9
unfolding lib.Utf8.encode
deep_table p c = refl

-- the base of a patch needs its ID alone, and a change can't set it
abbrev stock : ColumnList
stock = column (codes "ID") numbers (column (codes "Name") texts no_columns)

abbrev alone : List ℕ → Shape
alone x = records (column x numbers no_columns)

pub no_such_column : (c d : Term) →
    acted_at acts.Patch (rows.Table 0) stock ((c, records (column (codes "Foo") numbers (column (codes "ID") numbers no_columns))) ∷ (d, alone (codes "Bar")) ∷ []) ≡ Some (codes "Bar")
no_such_column c d = refl

pub no_id : (c d : Term) → acted_at acts.Patch (rows.Table 0) stock ((c, alone (codes "Foo")) ∷ (d, alone (codes "Bar")) ∷ []) ≡ Some (codes "ID")
no_id c d = refl

pub id_first : (c d e : Term) →
    acted_at acts.Patch (rows.Table 0) stock ((c, alone (codes "ID")) ∷ (d, alone (codes "ID")) ∷ (e, alone (codes "Foo")) ∷ []) ≡ Some (codes "ID")
id_first c d e = refl

-- what a change gives to ID is no column of it, whatever its type: rule 12
pub id_of_text : (c : Term) → change_of (rows.Table 0) stock (c, records (column (codes "ID") texts no_columns)) ≡ Err 12
id_of_text c = refl

-- and rule 6 where a column is given a table besides
pub id_and_table : (c : Term) →
    change_of (rows.Table 0) stock (c, records (column (codes "ID") texts (column (codes "Name") (tables no_columns) no_columns))) ≡ Err 6
id_and_table c = refl

-- new names of columns: the first one that is taken, also where another part breaks rule 6 or 12
abbrev stocked : Term → JudgedPart
stocked c = plainly (c, tables stock)

abbrev named : List ℕ → JudgedPart
named x = piece (label x)

pub renamed_to_taken : (c : Term) → taken_at fun.RenameColumns (stocked c ∷ named (codes "Size") ∷ named (codes "Name") ∷ []) ≡ Some (codes "Name")
renamed_to_taken c = refl

pub renamed_in_turn : (c : Term) →
    taken_at fun.RenameColumns (stocked c ∷ named (codes "Name") ∷ named (codes "A") ∷ named (codes "ID") ∷ named (codes "Name") ∷ []) ≡ None
renamed_in_turn c = refl

pub added_behind_wrong : (c d : Term) →
    taken_at fun.AddColumns (stocked c ∷ plainly (d, numbers) ∷ plainly (d, numbers) ∷ named (codes "Name") ∷ plainly (d, numbers) ∷ []) ≡ Some (codes "Name")
added_behind_wrong c d = refl

pub added_twice : (c d : Term) →
    taken_at fun.AddColumns (stocked c ∷ named (codes "A") ∷ plainly (d, numbers) ∷ named (codes "A") ∷ plainly (d, numbers) ∷ []) ≡ Some (codes "A")
added_twice c d = refl

-- a column that is left out twice counts once, and one that isn't there is told
abbrev type_made : Result (Term × Shape) ℕ → Result Shape ℕ
type_made r = and_then r (λ x. Ok x.1)

pub dropped_twice : (c : Term) → type_made (made_or_lowest fun.DropColumns (stocked c ∷ named (codes "Name") ∷ named (codes "Name") ∷ [])) ≡ Ok (tables (column (codes "ID") numbers no_columns))
dropped_twice c = refl

pub dropped_unknown : (c : Term) → made_or_lowest fun.DropColumns (stocked c ∷ named (codes "Name") ∷ named (codes "Size") ∷ []) ≡ Err 12
dropped_unknown c = refl

pub dropped_unknown_is : (c : Term) → stuck_by answer.Dropped (value None c (tables stock) ∷ label (codes "Name") ∷ label (codes "Size") ∷ []) ≡ codes "Size"
dropped_unknown_is c = refl

-- a column that isn't there under a new name is rule 12 all the same
pub renamed_unknown : (c : Term) → made_or_lowest fun.RenameColumns (stocked c ∷ named (codes "Size") ∷ named (codes "A") ∷ []) ≡ Err 12
renamed_unknown c = refl

-- an error whose Message is a record breaks rule 6, and one without Kind rule 12
pub mistold : (c : Term) → made_or_lowest fun.Error (plainly (c, records (column (codes "Message") (records no_columns) no_columns)) ∷ []) ≡ Err 6
mistold c = refl

pub without_a_kind : (c : Term) → made_or_lowest fun.Error (plainly (c, records (column (codes "Message") texts no_columns)) ∷ []) ≡ Err 12
without_a_kind c = refl

-- what is no row can't be changed, whatever the name names
pub no_row : (c d : Term) → could_act acts.Patch (target None (codes "Foo") ∷ plainly (c, records no_columns) ∷ plainly (d, numbers) ∷ []) ≡ false
no_row c d = refl

pub no_condition : (c : Term) → could_act acts.RemoveIf (target None (codes "Foo") ∷ plainly (c, texts) ∷ []) ≡ false
no_condition c = refl

-- calls of `And` and `Or` have their names
pub and_of_none : (p : Place) → IsToldBrokenWhole p false None (node 0 tree.all none) 0 7 (word_with_number (codes "And") 0)
unfolding lib.Utf8.encode
and_of_none p = inl (inl (refl, [], refl, refl, refl))

-- the name of a variable has none for its rows
pub aliased_variable : (p : Place) → judge p (setting_by p.names (outermost_setting true) (plan_call true (Some (sig.Act acts.Set)) 2 []) [])
    (node 4 (tree.alias (codes "X")) (more (node 4 tree.list none) none)) ≡ Err (4, 6)
aliased_variable p = refl
