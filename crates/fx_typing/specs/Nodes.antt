-- What a node is, where it stands, by its head and by what its parts are.
use Rattle.std.specs.Prelude.{◌≡◌, ℕ, suc, ℤ, List, [], ◌∷◌, Bool, true, false, nat_eq, nat_le}
use Rattle.std.specs.Prelude.{length, take, drop, encode_utf8_all, Option, Some, None}
use Rattle.fx_types.specs.Types.{Shape, numbers, texts, booleans, dates, records, ColumnList}
use Rattle.fx_types.specs.Types.{no_columns}
use Rattle.fx_types.specs.Values as values
use Rattle.fx_core.specs.declared.deeds.Target.{Target}
use Rattle.fx_core.specs.declared.functions.Acting.{Acting}
use Rattle.fx_core.specs.declared.functions.Form.{Form}
use Rattle.fx_core.specs.declared.functions.Form.TheVariants as form
use Rattle.fx_core.specs.declared.functions.Fun.{Fun}
use Rattle.fx_core.specs.declared.functions.Fun.TheVariants as fun
use Rattle.fx_core.specs.declared.signatures.SigShape.{SigShape}
use Rattle.fx_core.specs.declared.signatures.SigShape.TheVariants as sig
use Rattle.fx_core.specs.declared.signatures.Signature.{Signature}
use Rattle.fx_core.specs.declared.sources.Source.TheVariants as source
use Rattle.fx_core.specs.Literals.{with_literal}
use Rattle.fx_core.specs.Rows.{row_of, is_arity}
use Rattle.fx_core.specs.Signatures.{signature_in}
use Rattle.fx_core.specs.declared.expr.Op.{Op}
use Rattle.fx_core.specs.Tree.{Head}
use Rattle.fx_core.specs.Tree as tree
use Rattle.fx_core.specs.Term.{Term, of, nil, cons, all, const, read, within, chain}
use Rattle.fx_typing.specs.Local.{value, label, join_all, firsts}
use Rattle.fx_typing.specs.Meaning.{Place, NameMeaning, valued}
use Rattle.fx_typing.specs.Operators.{function_of}
use Rattle.fx_typing.specs.WellTyped.{last_type}
use Rattle.fx_typing.specs.Builds.{is_bounded, types_of, are_names_distinct, record_by, put_fields}
use Rattle.fx_typing.specs.Builds.{as_table_call, blank_record}
use Rattle.fx_typing.specs.Calls.{literal_in}
use Rattle.fx_typing.specs.Parts.{Grant, an_alias, a_column, a_target, aliased_target, a_meaning}
use Rattle.fx_typing.specs.Parts.{on_screen, JudgedPart, piece, target, assigned, Setting, may_act}
use Rattle.fx_typing.specs.Parts.{plainly, pieces}
use Rattle.fx_typing.specs.Targets.{AreRows, rows_named}
use Rattle.fx_typing.specs.Acting.{ActingCallHasType}
use Rattle.fx_typing.specs.Functions.{Calls, Forms}
use Rattle.fx_typing.specs.Meanings.{IsGlobal, NameMeans}
use Rattle.fx_typing.specs.Places.{first_part, function_chosen, is_fourth_scope}
use Rattle.fx_typing.specs.Records.{AreValueParts, left_part, left_meaning, Behind, Rows, list_join}
use Rattle.fx_typing.specs.Records.{IsRecord}

-- what a call is, by the entry of its name in the table of functions
pub data Called (p : Place) (s : Setting) : SigShape → List JudgedPart → Term × Shape → Type 0 where
  one_function : {f : Fun} {qs : List JudgedPart} {y : Term × Shape} → Calls f (pieces qs) y
      → Called p s (sig.One f) qs y
  overloaded : {f g : Fun} {qs : List JudgedPart} {y : Term × Shape}
      → Calls (function_chosen f g (first_part qs)) (pieces qs) y → Called p s (sig.Either f g) qs y
  without_literal : {f : Fun} {qs : List JudgedPart} {y : Term × Shape}
      → nat_le (length (pieces qs)) (row_of f).most ≡ true →
      Calls f (pieces qs) y → Called p s (sig.Literal f) qs y
  with_a_literal : {f g : Fun} {x : List ℕ} {qs : List JudgedPart} {y : Term × Shape}
      → nat_eq (length (pieces qs)) (suc (row_of f).most) ≡ true →
      literal_in (drop (row_of f).most (pieces qs)) ≡ Some x
      → with_literal f (encode_utf8_all x) ≡ Some g →
      Calls g (take (row_of f).most (pieces qs)) y → Called p s (sig.Literal f) qs y
  a_form : {f : Form} {qs : List JudgedPart} {y : Term × Shape} → Forms f (pieces qs) y
      → Called p s (sig.Form f) qs y
  in_record : {qs : List JudgedPart} {r f : Term × Shape} {k : Term} → AreValueParts qs (r ∷ f ∷ [])
      → IsRecord r k →
      Called p s sig.With qs (of within (cons k (cons f.0 nil)), f.1)
  table_of_rows : {qs : List JudgedPart} {xs : List (Term × Shape)} {y : Term × Shape}
      → AreValueParts qs xs →
      Rows (join_all (Some (records no_columns)) xs) xs y
      → Called p s sig.Table qs (as_table_call y)
  today : {qs : List JudgedPart} → Called p s sig.Today qs (of (read source.Today) nil, dates)
  defaults : {x : List ℕ} {qs : List JudgedPart} {t : Target} {cs : ColumnList} {blank : Bool}
      → AreRows (rows_named p.names x) t cs blank →
      Called p s sig.Defaults (target None x ∷ qs) (blank_record cs)
  acting_call : {a : Acting} {qs : List JudgedPart} {y : Term × Shape} → may_act s.grant ≡ true
      → ActingCallHasType p a qs y → Called p s (sig.Act a) qs y

-- places in which a name is a formula of its own
abbrev pub IsForValue : Grant → Type 0
IsForValue a_column = ⊥
IsForValue a_target = ⊥
IsForValue aliased_target = ⊥
IsForValue (a_meaning b) = ⊥
IsForValue g = Unit {0}

-- a name in brackets is a formula of its own also where the name of a column may stand
abbrev pub IsForGlobal : Grant → Type 0
IsForGlobal a_target = ⊥
IsForGlobal aliased_target = ⊥
IsForGlobal (a_meaning b) = ⊥
IsForGlobal g = Unit {0}

-- places for the name of what an acting call changes, with or without a name for its rows
abbrev pub IsForTarget : Grant → Type 0
IsForTarget a_target = Unit {0}
IsForTarget aliased_target = Unit {0}
IsForTarget g = ⊥

-- places for rows with a name
abbrev pub IsForAlias : Grant → Type 0
IsForAlias an_alias = Unit {0}
IsForAlias aliased_target = Unit {0}
IsForAlias g = ⊥

-- all places but that of a screen's variables
abbrev pub IsForRecord : Grant → Type 0
IsForRecord (on_screen b) = ⊥
IsForRecord g = Unit {0}

-- THE rules: what a node is, where it stands
pub data Node (p : Place) (s : Setting) : Head → List JudgedPart → JudgedPart → Type 0 where
  a_number : {z : ℤ} → Node p s (tree.num z) []
      (plainly (of (const (values.number z)) nil, numbers))
  a_text : {x : List ℕ} → Node p s (tree.text x) []
      (plainly (of (const (values.text x)) nil, texts))
  a_truth : {b : Bool} → Node p s (tree.truth b) []
      (plainly (of (const (values.boolean b)) nil, booleans))
  named_value : {x : List ℕ} {c : Term} {t : Shape} → IsForValue s.grant
      → NameMeans p s.scopes s.catches x (valued c t) →
      Node p s (tree.name x) [] (plainly (c, t))
  named_column : {x : List ℕ} → s.grant ≡ a_column → Node p s (tree.name x) [] (piece (label x))
  named_target : {x : List ℕ} → IsForTarget s.grant → Node p s (tree.name x) [] (target None x)
  named_left : {x : List ℕ} {b : Bool} {m : NameMeaning} → s.grant ≡ a_meaning b
      → NameMeans p s.scopes s.catches x m →
      Node p s (tree.name x) [] (left_part m)
  global_value : {x : List ℕ} {c : Term} {t : Shape} → IsForGlobal s.grant
      → IsGlobal p.names x (valued c t) →
      Node p s (tree.global x) [] (plainly (c, t))
  global_target : {x : List ℕ} → IsForTarget s.grant → Node p s (tree.global x) [] (target None x)
  global_left : {x : List ℕ} {b : Bool} {m : NameMeaning} → s.grant ≡ a_meaning b
      → IsGlobal p.names x m →
      Node p s (tree.global x) [] (left_part m)
  behind_dot : {x : List ℕ} {q : JudgedPart} {m : NameMeaning} {y : Term × Shape}
      → left_meaning q ≡ Some m → Behind p.names x m y →
      Node p s (tree.dot x) (q ∷ []) (plainly y)
  a_call : {x : List ℕ} {f : Signature} {qs : List JudgedPart} {y : Term × Shape}
      → signature_in p.names.signatures.now (encode_utf8_all x) ≡ Some f →
      is_arity f.least f.most (length qs) ≡ true → Called p s f.shape qs y → is_bounded y.1 ≡ true →
      is_fourth_scope p.names s (tree.call x) qs ≡ false → Node p s (tree.call x) qs (plainly y)
  negated : {qs : List JudgedPart} {y : Term × Shape} → Calls fun.Negate (pieces qs) y
      → Node p s tree.neg qs (plainly y)
  denied : {qs : List JudgedPart} {y : Term × Shape} → Calls fun.Not (pieces qs) y
      → Node p s tree.opposite qs (plainly y)
  in_percent : {qs : List JudgedPart} {y : Term × Shape} → Calls fun.Percent (pieces qs) y
      → Node p s tree.percent qs (plainly y)
  two_operands : {o : Op} {f : Fun} {qs : List JudgedPart} {c d : Term} {t u : Shape}
      {y : Term × Shape} → AreValueParts qs ((c, t) ∷ (d, u) ∷ []) →
      function_of o t u ≡ Some f → Calls f (pieces qs) y → Node p s (tree.pair o) qs (plainly y)
  joined_texts : {qs : List JudgedPart} {y : Term × Shape} → Calls fun.Concatenation (pieces qs) y
      → Node p s tree.joined qs (plainly y)
  all_of : {qs : List JudgedPart} {y : Term × Shape} → Forms form.All (pieces qs) y
      → Node p s tree.all qs (plainly y)
  any_of : {qs : List JudgedPart} {y : Term × Shape} → Forms form.Any (pieces qs) y
      → Node p s tree.any qs (plainly y)
  a_chain : {qs : List JudgedPart} {xs : List (Term × Shape)} {t : Shape} → may_act s.grant ≡ true
      → AreValueParts qs xs → last_type (types_of xs) ≡ Some t →
      Node p s tree.chain qs (plainly (of chain (all (firsts xs)), t))
  rows_with_name : {x : List ℕ} {a : Option (List ℕ)} {c : Term} {t : Shape} → IsForAlias s.grant →
      Node p s (tree.alias x) (piece (value a c t) ∷ []) (piece (value (Some x) c t))
  target_with_name : {x y : List ℕ} → s.grant ≡ aliased_target
      → Node p s (tree.alias x) (target None y ∷ []) (target (Some x) y)
  a_record : {ns : List (List ℕ)} {ps : List ℕ} {qs : List JudgedPart} {xs : List (Term × Shape)}
      → IsForRecord s.grant → AreValueParts qs xs → are_names_distinct ns ≡ true →
      is_bounded (record_by (put_fields ns xs)).1 ≡ true
      → Node p s (tree.rec ns ps) qs (plainly (record_by (put_fields ns xs)))
  screen_variables : {ns : List (List ℕ)} {ps : List ℕ} {b : Bool} {qs : List JudgedPart}
      {xs : List (Term × Shape)} → s.grant ≡ on_screen b → AreValueParts qs xs →
      are_names_distinct ns ≡ true → is_bounded (record_by (put_fields ns xs)).1 ≡ true
      → Node p s (tree.rec ns ps) qs (assigned ns xs)
  a_list : {qs : List JudgedPart} {xs : List (Term × Shape)} {y : Term × Shape}
      → AreValueParts qs xs → Rows (list_join xs) xs y → is_bounded y.1 ≡ true →
      Node p s tree.list qs (plainly y)
  empty_weave : Node p s tree.woven [] (plainly (of (const (values.text [])) nil, texts))
  a_weave : {q : JudgedPart} {qs : List JudgedPart} {y : Term × Shape}
      → Calls fun.Concatenation (pieces (q ∷ qs)) y → Node p s tree.woven (q ∷ qs) (plainly y)
