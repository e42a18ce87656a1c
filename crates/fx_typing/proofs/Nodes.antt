-- The rules of nodes: the relation admits what the definition admits.
use Rattle.std.proofs.Common.{◌≡◌, ℕ, suc, List, [], ◌∷◌, Bool, true, false, ◌&&◌, not, codes, nat_eq, nat_le, is_some, length, take, drop, encode_utf8_all, Option, Some, None, Result, Ok, Err, refl, ap, sym, subst, ◌∙◌, if◌then◌else◌, arith}
use Rattle.std.proofs.lemmas.Bool.{and_parts, not-false, not_from_true}
use Rattle.fx_types.specs.Types.{Shape, blanks, dates, records, no_columns}
use Rattle.fx_core.specs.declared.functions.Acting.{Acting}
use Rattle.fx_core.specs.declared.functions.Form.{Form}
use Rattle.fx_core.specs.declared.functions.Form.TheVariants as form
use Rattle.fx_core.specs.declared.functions.Fun.{Fun}
use Rattle.fx_core.specs.declared.functions.Fun.TheVariants as fun
use Rattle.fx_core.specs.declared.rows.Takes.TheVariants as takes
use Rattle.fx_core.specs.declared.signatures.SigShape.{SigShape}
use Rattle.fx_core.specs.declared.signatures.SigShape.TheVariants as sig
use Rattle.fx_core.specs.declared.signatures.Signature.{Signature}
use Rattle.fx_core.specs.declared.sources.Source.TheVariants as source
use Rattle.fx_core.specs.Literals.{with_literal}
use Rattle.fx_core.specs.Rows.{row_of, form_row, is_arity}
use Rattle.fx_core.specs.Signatures.{signature_in}
use Rattle.fx_core.specs.declared.expr.Op.{Op}
use Rattle.fx_core.specs.Tree.{Head}
use Rattle.fx_core.specs.Tree as tree
use Rattle.fx_core.specs.Term.{Term, of, nil, all, read, chain}
use Rattle.fx_core.specs.Term as term
use Rattle.fx_typing.specs.Columns.{has_text_coercion, is_told_or_missing, tells_error}
use Rattle.fx_core.specs.ColumnLists.{and_then, field_in}
use Rattle.fx_typing.specs.Local.{Piece, value, label, join_all, firsts, node_made, formed}
use Rattle.fx_typing.specs.Meaning.{Place, NameMeaning, valued, controlled, screened, enumerated, in_globals, meaning_of, named, dotted}
use Rattle.fx_typing.specs.Operators.{function_of}
use Rattle.fx_typing.specs.WellTyped.{last_type, head_of}
use Rattle.fx_typing.specs.Breaks.{taken_at, mistells, could_act, gives_variables, large_given}
use Rattle.fx_typing.specs.Builds.{is_bounded, bounded, types_of, are_names_distinct, record_by, put_fields, typed_record, list_as, typed_list, as_table_call, typed_table, with_of, blank_record}
use Rattle.fx_typing.specs.Calls.{literal_in, made_if, function_by, made_literal, acted_by, acted_on_screen, acted_or_lowest, defaults_of, called_by, called_with}
use Rattle.fx_typing.specs.Deeds.{by_first_name, acted, until_settled, nothing_done}
use Rattle.fx_typing.specs.Plans.{shape_in}
use Rattle.fx_typing.specs.Parts.{Grant, nothing, acting, an_alias, a_column, a_target, aliased_target, a_meaning, on_screen, JudgedPart, piece, meant, target, assigned, Setting, may_act, plainly, as_part, pieces, values, unless_rule}
use Rattle.fx_typing.specs.Targets.{rows_named}
use Rattle.fx_typing.specs.Typing.{left_of_dot, name_by, global_by, dot_by, alias_by, record_as, paired_by, chain_as, chain_by, is_too_deep, admit}
use Rattle.fx_typing.specs.Functions.{Calls, Forms, first_and_others, by_row}
use Rattle.fx_typing.specs.Nodes
use Rattle.fx_typing.specs.Nodes.{Called, Node, IsForValue, IsForGlobal, IsForTarget, IsForAlias, IsForRecord}
use Rattle.fx_typing.specs.Places.{first_part, function_chosen, is_fourth_scope}
use Rattle.fx_typing.specs.Records.{AreValueParts, left_part, left_meaning, list_join}
use Rattle.fx_typing.proofs.Deeds.{by_columns_ok}
use Rattle.fx_typing.proofs.RelatedActing.{by_columns_goes, acts_ok, acts_go, acts_could, acts_give, acts_small}
use Rattle.fx_typing.proofs.PartsOfCalls.{MayBeAll, all_pieces}
use Rattle.fx_typing.proofs.Taken.{ArePieces, none_taken}
use Rattle.fx_typing.proofs.RelatedFunctions.{when_ok, stands_goes, made_ok, made_goes}
use Rattle.fx_typing.proofs.Meanings.{globals_ok, globals_go, means_ok, means_go}
use Rattle.fx_typing.proofs.RelatedPlaces.{pick_is, depth_is}
use Rattle.fx_typing.proofs.RelatedRecords.{dot_ok, behind_ok, behind_goes, list_ok, list_goes, with_ok, with_goes}
use Rattle.fx_typing.proofs.RelatedSteps.{ok_is, then_goes, as_part_ok, unless_ok, unless_goes, if_true, if_false, if_ok, bounded_ok, bounded_goes, values_ok, values_are}
use Rattle.fx_typing.proofs.Operators.{then_ok}

calls_ok : (f : Fun) (ps : List Piece) (y : Term × Shape) → node_made f ps ≡ Ok y → Calls f ps y
calls_ok f ps y e = made_ok (row_of f) (head_of f) ps y e

calls_go : (f : Fun) (ps : List Piece) (y : Term × Shape) → Calls f ps y → node_made f ps ≡ Ok y
calls_go f ps y e = made_goes (row_of f) (head_of f) ps y e

forms_ok : (f : Form) (ps : List Piece) (y : Term × Shape) → formed f ps ≡ Ok y → Forms f ps y
forms_ok f ps y e = made_ok (form_row f) (term.form f) ps y e

forms_go : (f : Form) (ps : List Piece) (y : Term × Shape) → Forms f ps y → formed f ps ≡ Ok y
forms_go f ps y e = made_goes (form_row f) (term.form f) ps y e

-- ---- calls
small_here : (o : Option Shape) (b : Bool) → b ≡ true → (is_some o && b) ≡ false → o ≡ None
small_here None b e f = refl
small_here (Some t) b e f = let z : true ≡ false = sym e ∙ f in absurd cc

settled_is : (b : Bool) (r : Result (Term × Shape) ℕ) → b ≡ true → until_settled b r ≡ r
settled_is b (Ok x) e = refl
settled_is b (Err n) e = ap (λ c. if not c && nat_eq n 11 then Ok nothing_done else Err n) e

-- an error that is admitted has a Message that is a text, or none
tells : (f : Fun) (qs : List JudgedPart) (y : Term × Shape) → Calls f (pieces qs) y → mistells f qs ≡ false
tells fun.Error (piece (value a c (records cs)) ∷ []) y (by_row {common = u} count join (first_and_others {x = x} s others) answers) =
    let told = when_ok (tells_error cs) _ c (records cs) x (stands_goes blanks u takes.ErrorRecord (value a c (records cs)) x s) in
    ap not ((and_parts (has_text_coercion (field_in (codes "Kind") cs)) (is_told_or_missing (field_in (codes "Message") cs)) told.0).1)
tells f qs y c = refl

-- a test of a length
past_most : (n m : ℕ) → nat_eq n (suc m) ≡ true → nat_le n m ≡ false
past_most n m e = grind arith

module _ (p : Place) (s : Setting) where
  literal_ok : (f : Fun) (qs : List JudgedPart) (y : Term × Shape) → made_literal f (pieces qs) ≡ Ok y → Called p s (sig.Literal f) qs y
  literal_ok f qs y e = by_count (nat_le (length (pieces qs)) (row_of f).most) refl e
    where
      by_function : (o : Option Fun) (x : List ℕ) → nat_eq (length (pieces qs)) (suc (row_of f).most) ≡ true →
          literal_in (drop (row_of f).most (pieces qs)) ≡ Some x → with_literal f (encode_utf8_all x) ≡ o →
          made_if o (take (row_of f).most (pieces qs)) ≡ Ok y → Called p s (sig.Literal f) qs y
      by_function (Some g) x c l i j = Nodes.with_a_literal c l i (calls_ok g (take (row_of f).most (pieces qs)) y j)
      by_function None x c l i j = absurd cc

      by_text : (o : Option (List ℕ)) → nat_eq (length (pieces qs)) (suc (row_of f).most) ≡ true →
          literal_in (drop (row_of f).most (pieces qs)) ≡ o → made_if (function_by f o) (take (row_of f).most (pieces qs)) ≡ Ok y → Called p s (sig.Literal f) qs y
      by_text (Some x) c i j = by_function (with_literal f (encode_utf8_all x)) x c i refl j
      by_text None c i j = absurd cc

      by_count : (b : Bool) → nat_le (length (pieces qs)) (row_of f).most ≡ b →
          (if b then node_made f (pieces qs) else (if nat_eq (length (pieces qs)) (suc (row_of f).most)
          then made_if (function_by f (literal_in (drop (row_of f).most (pieces qs)))) (take (row_of f).most (pieces qs)) else Err 7)) ≡ Ok y → Called p s (sig.Literal f) qs y
      by_count true i j = Nodes.without_literal i (calls_ok f (pieces qs) y j)
      by_count false i j =
          let a = if_ok (nat_eq (length (pieces qs)) (suc (row_of f).most)) (made_if (function_by f (literal_in (drop (row_of f).most (pieces qs)))) (take (row_of f).most (pieces qs))) 7 y j in
          by_text (literal_in (drop (row_of f).most (pieces qs))) a.0 refl a.1

  defaults_ok : (qs : List JudgedPart) (y : Term × Shape) → by_first_name qs (defaults_of p.names) ≡ Ok y → Called p s sig.Defaults qs y
  defaults_ok (target None x ∷ qs) y e =
      let b = by_columns_ok (rows_named p.names x) (λ cs. Ok (blank_record cs)) y e in
      subst (Called p s sig.Defaults (target None x ∷ qs)) (ok_is (blank_record b.1) y b.4) (Nodes.defaults b.3)
  defaults_ok qs y e = absurd cc

  with_a_record : (qs : List JudgedPart) (y : Term × Shape) → and_then (values qs) with_of ≡ Ok y → Called p s sig.With qs y
  with_a_record qs y e =
      let a = then_ok (values qs) with_of y e in
      let b = with_ok a.0 y a.2 in
      subst (Called p s sig.With qs) b.5 (Nodes.in_record (subst (AreValueParts qs) b.3 (values_ok qs a.0 a.1)) b.4)

  acting_ok : p.settled ≡ true → (a : Acting) (qs : List JudgedPart) (y : Term × Shape) → acted_or_lowest p s a qs ≡ Ok y → Called p s (sig.Act a) qs y
  acting_ok st a qs y e =
      let u = unless_ok (not (may_act s.grant)) 9 (unless_rule (not (could_act a qs)) 6 (acted_by p a qs)) y e in
      let v = unless_ok (not (could_act a qs)) 6 (acted_by p a qs) y u.1 in
      let x = unless_ok (is_some (large_given p.names p.screen a qs) && p.settled) 13 (acted_on_screen p a qs) y v.1 in
      let w = unless_ok (not (gives_variables p.names p.screen a qs)) 15 (until_settled p.settled (acted p.names p.screen a qs)) y x.1 in
      Nodes.acting_call (not-false (may_act s.grant) u.0) (acts_ok p a qs y (not-false (gives_variables p.names p.screen a qs) w.0) (small_here (large_given p.names p.screen a qs) p.settled st x.0) (sym (settled_is p.settled (acted p.names p.screen a qs) st) ∙ w.1))

  called_ok : p.settled ≡ true → (f : SigShape) (qs : List JudgedPart) (y : Term × Shape) → called_by p s f qs ≡ Ok y → Called p s f qs y
  called_ok st (sig.One f) qs y e =
      let u = unless_ok (is_some (taken_at f qs)) 5 (unless_rule (mistells f qs) 6 (node_made f (pieces qs))) y e in
      let v = unless_ok (mistells f qs) 6 (node_made f (pieces qs)) y u.1 in
      Nodes.one_function (calls_ok f (pieces qs) y v.1)
  called_ok st (sig.Either f g) qs y e = Nodes.overloaded (calls_ok (function_chosen f g (first_part qs)) (pieces qs) y (subst (λ k. node_made k (pieces qs) ≡ Ok y) (pick_is f g qs) e))
  called_ok st (sig.Literal f) qs y e = literal_ok f qs y e
  called_ok st (sig.Form f) qs y e = Nodes.a_form (forms_ok f (pieces qs) y e)
  called_ok st sig.With qs y e = with_a_record qs y e
  called_ok st sig.Table qs y e =
      let a = then_ok (values qs) typed_table y e in
      let joined = join_all (Some (records no_columns)) a.0 in
      let b = then_ok (list_as joined a.0) (λ z. Ok (as_table_call z)) y a.2 in
      subst (Called p s sig.Table qs) (ok_is (as_table_call b.0) y b.2) (Nodes.table_of_rows (values_ok qs a.0 a.1) (list_ok joined a.0 b.0 b.1))
  called_ok st sig.Today qs y e = subst (Called p s sig.Today qs) (ok_is (of (read source.Today) nil, dates) y e) Nodes.today
  called_ok st sig.Defaults qs y e = defaults_ok qs y e
  called_ok st (sig.Act a) qs y e = acting_ok st a qs y e

  called_go : p.settled ≡ true → (f : SigShape) (qs : List JudgedPart) (y : Term × Shape) → ((g : Fun) → f ≡ sig.One g → ArePieces qs) → Called p s f qs y → called_by p s f qs ≡ Ok y
  called_go st f qs y are (Nodes.one_function {f = g} c) =
      unless_goes (is_some (taken_at g qs)) 5 (unless_rule (mistells g qs) 6 (node_made g (pieces qs))) y (ap is_some (none_taken g qs y (are g refl) c))
      (unless_goes (mistells g qs) 6 (node_made g (pieces qs)) y (tells g qs y c) (calls_go g (pieces qs) y c))
  called_go st f qs y are (Nodes.overloaded {f = g} {g = h} c) = subst (λ k. node_made k (pieces qs) ≡ Ok y) (sym (pick_is g h qs)) (calls_go (function_chosen g h (first_part qs)) (pieces qs) y c)
  called_go st f qs y are (Nodes.without_literal {f = g} l c) = if_true (nat_le (length (pieces qs)) (row_of g).most) _ _ l ∙ calls_go g (pieces qs) y c
  called_go st f qs y are (Nodes.with_a_literal {f = g} {g = h} {x = x} n l w c) =
      if_false (nat_le (length (pieces qs)) (row_of g).most) _ _ (past_most (length (pieces qs)) (row_of g).most n)
      ∙ if_true (nat_eq (length (pieces qs)) (suc (row_of g).most)) _ _ n
      ∙ ap (λ o. made_if (function_by g o) (take (row_of g).most (pieces qs))) l
      ∙ ap (λ o. made_if o (take (row_of g).most (pieces qs))) w
      ∙ calls_go h (take (row_of g).most (pieces qs)) y c
  called_go st f qs y are (Nodes.a_form {f = g} c) = forms_go g (pieces qs) y c
  called_go st f qs y are (Nodes.in_record {r = r} {f = g} {k = k} v i) = then_goes (values qs) with_of (r ∷ g ∷ []) _ (values_are qs (r ∷ g ∷ []) v) (with_goes r g k i)
  called_go st f qs y are (Nodes.table_of_rows {xs = xs} {y = z} v r) =
      let joined = join_all (Some (records no_columns)) xs in
      then_goes (values qs) typed_table xs (as_table_call z) (values_are qs xs v)
      (then_goes (list_as joined xs) (λ w. Ok (as_table_call w)) z (as_table_call z) (list_goes joined xs z r) refl)
  called_go st f qs y are Nodes.today = refl
  called_go st f qs y are (Nodes.defaults {x = x} {t = t} {cs = cs} {blank = blank} i) = by_columns_goes (rows_named p.names x) (λ ds. Ok (blank_record ds)) t cs blank (blank_record cs) i refl
  called_go st f qs y are (Nodes.acting_call {a = a} m d) =
      unless_goes (not (may_act s.grant)) 9 (unless_rule (not (could_act a qs)) 6 (acted_by p a qs)) y (not_from_true (may_act s.grant) m)
      (unless_goes (not (could_act a qs)) 6 (acted_by p a qs) y (not_from_true (could_act a qs) (acts_could p a qs y d))
      (unless_goes (is_some (large_given p.names p.screen a qs) && p.settled) 13 (acted_on_screen p a qs) y (ap (λ o. is_some o && p.settled) (acts_small p a qs y d))
      (unless_goes (not (gives_variables p.names p.screen a qs)) 15 (until_settled p.settled (acted p.names p.screen a qs)) y (not_from_true (gives_variables p.names p.screen a qs) (acts_give p a qs y d))
      (settled_is p.settled (acted p.names p.screen a qs) st ∙ acts_go p a qs y d))))

  call_ok : p.settled ≡ true → (x : List ℕ) (o : Option Signature) (qs : List JudgedPart) (y : Term × Shape) →
      signature_in p.names.signatures.now (encode_utf8_all x) ≡ o → unless_rule (is_too_deep p s (tree.call x) qs) 13 (called_with p s o qs) ≡ Ok y →
      Node p s (tree.call x) qs (plainly y)
  call_ok st x (Some f) qs y i e =
      let u = unless_ok (is_too_deep p s (tree.call x) qs) 13 (called_with p s (Some f) qs) y e in
      let v = if_ok (is_arity f.least f.most (length qs)) (bounded (called_by p s f.shape qs)) 7 y u.1 in
      let w = bounded_ok (called_by p s f.shape qs) y v.1 in
      Nodes.a_call i v.0 (called_ok st f.shape qs y w.0) w.1 (sym (depth_is p s (tree.call x) qs) ∙ u.0)
  call_ok st x None qs y i e =
      let u = unless_ok (is_too_deep p s (tree.call x) qs) 13 (called_with p s None qs) y e in absurd (no_function u.1)
    where
      no_function : ◌≡◌ {A = Result (Term × Shape) ℕ} (Err 8) (Ok y) → ⊥
      no_function k = absurd cc

  call_goes : p.settled ≡ true → (x : List ℕ) (f : Signature) (qs : List JudgedPart) (y : Term × Shape) → (n : ℕ) → MayBeAll p.names s (tree.call x) n 0 None qs → signature_in p.names.signatures.now (encode_utf8_all x) ≡ Some f →
      is_arity f.least f.most (length qs) ≡ true → Called p s f.shape qs y → is_bounded y.1 ≡ true → is_fourth_scope p.names s (tree.call x) qs ≡ false →
      unless_rule (is_too_deep p s (tree.call x) qs) 13 (called_with p s (signature_in p.names.signatures.now (encode_utf8_all x)) qs) ≡ Ok y
  call_goes st x f qs y count may i n c b d =
      unless_goes (is_too_deep p s (tree.call x) qs) 13 (called_with p s (signature_in p.names.signatures.now (encode_utf8_all x)) qs) y (depth_is p s (tree.call x) qs ∙ d)
      (ap (λ o. called_with p s o qs) i
      ∙ if_true (is_arity f.least f.most (length qs)) (bounded (called_by p s f.shape qs)) (Err 7) n
      ∙ bounded_goes (called_by p s f.shape qs) y (called_go st f.shape qs y (λ g e. all_pieces p.names s x g count 0 None qs (ap shape_in i ∙ ap (λ k. Some k) e) may) c) b)

  -- ---- names
  named_ok : (m : Option NameMeaning) (y : Term × Shape) → named m ≡ Ok y → m ≡ Some (valued y.0 y.1)
  named_ok (Some (valued c t)) y e = ap (λ (z : Term × Shape). Some (valued z.0 z.1)) (ok_is (c, t) y e)
  named_ok m y e = absurd cc

  left_ok : (o : Option NameMeaning) (q : JudgedPart) → left_of_dot o ≡ Ok q → (m : NameMeaning) × (o ≡ Some m) × (left_part m ≡ q)
  left_ok (Some (valued c t)) q e = (valued c t, refl, ok_is (plainly (c, t)) q e)
  left_ok (Some (controlled k c)) q e = (controlled k c, refl, ok_is (meant (controlled k c)) q e)
  left_ok (Some screened) q e = (screened, refl, ok_is (meant screened) q e)
  left_ok (Some (enumerated v)) q e = (enumerated v, refl, ok_is (meant (enumerated v)) q e)
  left_ok None q e = absurd cc

  left_goes : (m : NameMeaning) → left_of_dot (Some m) ≡ Ok (left_part m)
  left_goes (valued c t) = refl
  left_goes (controlled k c) = refl
  left_goes screened = refl
  left_goes (enumerated v) = refl

  a_name_ok : (g : Grant) (x : List ℕ) (q : JudgedPart) → s.grant ≡ g → name_by g x (meaning_of p s.scopes s.catches x) ≡ Ok q → Node p s (tree.name x) [] q
  a_name_ok g x q i e = by_grant g i e
    where
      as_value : IsForValue s.grant → as_part (named (meaning_of p s.scopes s.catches x)) ≡ Ok q → Node p s (tree.name x) [] q
      as_value j f =
          let a = as_part_ok (named (meaning_of p s.scopes s.catches x)) q f in
          subst (Node p s (tree.name x) []) a.2 (Nodes.named_value j (means_ok p s.scopes s.catches x (valued a.0.0 a.0.1) (named_ok (meaning_of p s.scopes s.catches x) a.0 a.1)))

      by_grant : (h : Grant) → s.grant ≡ h → name_by h x (meaning_of p s.scopes s.catches x) ≡ Ok q → Node p s (tree.name x) [] q
      by_grant a_column j f = subst (Node p s (tree.name x) []) (ok_is (piece (label x)) q f) (Nodes.named_column j)
      by_grant a_target j f = subst (Node p s (tree.name x) []) (ok_is (target None x) q f) (Nodes.named_target (subst IsForTarget (sym j) tt))
      by_grant aliased_target j f = subst (Node p s (tree.name x) []) (ok_is (target None x) q f) (Nodes.named_target (subst IsForTarget (sym j) tt))
      by_grant (a_meaning b) j f =
          let a = left_ok (meaning_of p s.scopes s.catches x) q f in subst (Node p s (tree.name x) []) a.2 (Nodes.named_left j (means_ok p s.scopes s.catches x a.0 a.1))
      by_grant nothing j f = as_value (subst IsForValue (sym j) tt) f
      by_grant acting j f = as_value (subst IsForValue (sym j) tt) f
      by_grant an_alias j f = as_value (subst IsForValue (sym j) tt) f
      by_grant (on_screen b) j f = as_value (subst IsForValue (sym j) tt) f

  a_global_ok : (g : Grant) (x : List ℕ) (q : JudgedPart) → s.grant ≡ g → global_by g x (in_globals p.names x) ≡ Ok q → Node p s (tree.global x) [] q
  a_global_ok g x q i e = by_grant g i e
    where
      as_value : IsForGlobal s.grant → as_part (named (in_globals p.names x)) ≡ Ok q → Node p s (tree.global x) [] q
      as_value j f =
          let a = as_part_ok (named (in_globals p.names x)) q f in
          subst (Node p s (tree.global x) []) a.2 (Nodes.global_value j (globals_ok p.names x (valued a.0.0 a.0.1) (named_ok (in_globals p.names x) a.0 a.1)))

      by_grant : (h : Grant) → s.grant ≡ h → global_by h x (in_globals p.names x) ≡ Ok q → Node p s (tree.global x) [] q
      by_grant a_column j f = as_value (subst IsForGlobal (sym j) tt) f
      by_grant a_target j f = subst (Node p s (tree.global x) []) (ok_is (target None x) q f) (Nodes.global_target (subst IsForTarget (sym j) tt))
      by_grant aliased_target j f = subst (Node p s (tree.global x) []) (ok_is (target None x) q f) (Nodes.global_target (subst IsForTarget (sym j) tt))
      by_grant (a_meaning b) j f =
          let a = left_ok (in_globals p.names x) q f in subst (Node p s (tree.global x) []) a.2 (Nodes.global_left j (globals_ok p.names x a.0 a.1))
      by_grant nothing j f = as_value (subst IsForGlobal (sym j) tt) f
      by_grant acting j f = as_value (subst IsForGlobal (sym j) tt) f
      by_grant an_alias j f = as_value (subst IsForGlobal (sym j) tt) f
      by_grant (on_screen b) j f = as_value (subst IsForGlobal (sym j) tt) f

  value_goes : (g : Grant) (x : List ℕ) (c : Term) (t : Shape) → IsForValue g → name_by g x (Some (valued c t)) ≡ Ok (plainly (c, t))
  value_goes a_column x c t i = absurd i
  value_goes a_target x c t i = absurd i
  value_goes aliased_target x c t i = absurd i
  value_goes (a_meaning b) x c t i = absurd i
  value_goes nothing x c t i = refl
  value_goes acting x c t i = refl
  value_goes an_alias x c t i = refl
  value_goes (on_screen b) x c t i = refl

  global_goes : (g : Grant) (x : List ℕ) (c : Term) (t : Shape) → IsForGlobal g → global_by g x (Some (valued c t)) ≡ Ok (plainly (c, t))
  global_goes a_column x c t i = refl
  global_goes a_target x c t i = absurd i
  global_goes aliased_target x c t i = absurd i
  global_goes (a_meaning b) x c t i = absurd i
  global_goes nothing x c t i = refl
  global_goes acting x c t i = refl
  global_goes an_alias x c t i = refl
  global_goes (on_screen b) x c t i = refl

  target_goes : (g : Grant) (x : List ℕ) (m : Option NameMeaning) → IsForTarget g → (name_by g x m ≡ Ok (target None x)) × (global_by g x m ≡ Ok (target None x))
  target_goes a_target x m i = (refl, refl)
  target_goes aliased_target x m i = (refl, refl)
  target_goes a_column x m i = absurd i
  target_goes (a_meaning b) x m i = absurd i
  target_goes nothing x m i = absurd i
  target_goes acting x m i = absurd i
  target_goes an_alias x m i = absurd i
  target_goes (on_screen b) x m i = absurd i

  -- ---- a name for rows
  alias_ok : (g : Grant) (x : List ℕ) (qs : List JudgedPart) (q : JudgedPart) → s.grant ≡ g → alias_by g x qs ≡ Ok q → Node p s (tree.alias x) qs q
  alias_ok an_alias x (piece (value a c t) ∷ []) q i e =
      subst (Node p s (tree.alias x) (piece (value a c t) ∷ [])) (ok_is (piece (value (Some x) c t)) q e) (Nodes.rows_with_name (subst IsForAlias (sym i) tt))
  alias_ok aliased_target x (piece (value a c t) ∷ []) q i e =
      subst (Node p s (tree.alias x) (piece (value a c t) ∷ [])) (ok_is (piece (value (Some x) c t)) q e) (Nodes.rows_with_name (subst IsForAlias (sym i) tt))
  alias_ok aliased_target x (target None y ∷ []) q i e =
      subst (Node p s (tree.alias x) (target None y ∷ [])) (ok_is (target (Some x) y) q e) (Nodes.target_with_name i)
  alias_ok g x qs q i e = absurd cc

  alias_goes : (g : Grant) (x : List ℕ) (a : Option (List ℕ)) (c : Term) (t : Shape) → IsForAlias g → alias_by g x (piece (value a c t) ∷ []) ≡ Ok (piece (value (Some x) c t))
  alias_goes an_alias x a c t i = refl
  alias_goes aliased_target x a c t i = refl
  alias_goes a_column x a c t i = absurd i
  alias_goes a_target x a c t i = absurd i
  alias_goes (a_meaning b) x a c t i = absurd i
  alias_goes nothing x a c t i = absurd i
  alias_goes acting x a c t i = absurd i
  alias_goes (on_screen b) x a c t i = absurd i

  -- ---- records
  plain_record : (ns : List (List ℕ)) (ps : List ℕ) (qs : List JudgedPart) (xs : List (Term × Shape)) (q : JudgedPart) → IsForRecord s.grant → AreValueParts qs xs → as_part (typed_record ns xs) ≡ Ok q →
      Node p s (tree.rec ns ps) qs q
  plain_record ns ps qs xs q i v e =
      let a = as_part_ok (typed_record ns xs) q e in
      let b = if_ok (are_names_distinct ns) (bounded (Ok (record_by (put_fields ns xs)))) 5 a.0 a.1 in
      let c = bounded_ok (Ok (record_by (put_fields ns xs))) a.0 b.1 in
      let same_record : record_by (put_fields ns xs) ≡ a.0 = ok_is (record_by (put_fields ns xs)) a.0 c.0 in
      let fits : is_bounded (record_by (put_fields ns xs)).1 ≡ true = ap (λ (z : Term × Shape). is_bounded z.1) same_record ∙ c.1 in
      subst (Node p s (tree.rec ns ps) qs) (ap plainly same_record ∙ a.2) (Nodes.a_record i v b.0 fits)

  record_ok : (g : Grant) (ns : List (List ℕ)) (ps : List ℕ) (qs : List JudgedPart) (xs : List (Term × Shape)) (q : JudgedPart) → s.grant ≡ g → AreValueParts qs xs → record_as g ns xs ≡ Ok q →
      Node p s (tree.rec ns ps) qs q
  record_ok (on_screen b) ns ps qs xs q i v e =
      let bound = is_bounded (record_by (put_fields ns xs)).1 in
      let a = if_ok (are_names_distinct ns) (unless_rule (not bound) 13 (Ok (assigned ns xs))) 5 q e in
      let b = unless_ok (not bound) 13 (Ok (assigned ns xs)) q a.1 in
      subst (Node p s (tree.rec ns ps) qs) (ok_is (assigned ns xs) q b.1) (Nodes.screen_variables i v a.0 (not-false bound b.0))
  record_ok a_column ns ps qs xs q i v e = plain_record ns ps qs xs q (subst IsForRecord (sym i) tt) v e
  record_ok a_target ns ps qs xs q i v e = plain_record ns ps qs xs q (subst IsForRecord (sym i) tt) v e
  record_ok aliased_target ns ps qs xs q i v e = plain_record ns ps qs xs q (subst IsForRecord (sym i) tt) v e
  record_ok (a_meaning b) ns ps qs xs q i v e = plain_record ns ps qs xs q (subst IsForRecord (sym i) tt) v e
  record_ok nothing ns ps qs xs q i v e = plain_record ns ps qs xs q (subst IsForRecord (sym i) tt) v e
  record_ok acting ns ps qs xs q i v e = plain_record ns ps qs xs q (subst IsForRecord (sym i) tt) v e
  record_ok an_alias ns ps qs xs q i v e = plain_record ns ps qs xs q (subst IsForRecord (sym i) tt) v e

  record_is : (g : Grant) (ns : List (List ℕ)) (xs : List (Term × Shape)) → IsForRecord g → record_as g ns xs ≡ as_part (typed_record ns xs)
  record_is (on_screen b) ns xs i = absurd i
  record_is a_column ns xs i = refl
  record_is a_target ns xs i = refl
  record_is aliased_target ns xs i = refl
  record_is (a_meaning b) ns xs i = refl
  record_is nothing ns xs i = refl
  record_is acting ns xs i = refl
  record_is an_alias ns xs i = refl

  -- ---- operators, chains and lists
  as_made : (h : Head) (f : Fun) (qs : List JudgedPart) (q : JudgedPart) → ((y : Term × Shape) → Calls f (pieces qs) y → Node p s h qs (plainly y)) →
      as_part (node_made f (pieces qs)) ≡ Ok q → Node p s h qs q
  as_made h f qs q rule e = let a = as_part_ok (node_made f (pieces qs)) q e in subst (Node p s h qs) a.2 (rule a.0 (calls_ok f (pieces qs) a.0 a.1))

  as_formed : (h : Head) (f : Form) (qs : List JudgedPart) (q : JudgedPart) → ((y : Term × Shape) → Forms f (pieces qs) y → Node p s h qs (plainly y)) →
      as_part (formed f (pieces qs)) ≡ Ok q → Node p s h qs q
  as_formed h f qs q rule e = let a = as_part_ok (formed f (pieces qs)) q e in subst (Node p s h qs) a.2 (rule a.0 (forms_ok f (pieces qs) a.0 a.1))

  pair_ok : (o : Op) (qs : List JudgedPart) (xs : List (Term × Shape)) (y : Term × Shape) → AreValueParts qs xs → paired_by o xs (pieces qs) ≡ Ok y → Node p s (tree.pair o) qs (plainly y)
  pair_ok o qs ((c, t) ∷ (d, u) ∷ []) y v e = by_function (function_of o t u) refl e
    where
      by_function : (f : Option Fun) → function_of o t u ≡ f → made_if f (pieces qs) ≡ Ok y → Node p s (tree.pair o) qs (plainly y)
      by_function (Some f) i j = Nodes.two_operands v i (calls_ok f (pieces qs) y j)
      by_function None i j = absurd cc
  pair_ok o qs xs y v e = absurd cc

  chain_ok : (qs : List JudgedPart) (xs : List (Term × Shape)) (y : Term × Shape) (o : Option Shape) → may_act s.grant ≡ true → AreValueParts qs xs → last_type (types_of xs) ≡ o →
      chain_as xs o ≡ Ok y → Node p s tree.chain qs (plainly y)
  chain_ok qs xs y (Some t) m v i e = subst (λ z. Node p s tree.chain qs (plainly z)) (ok_is (of chain (all (firsts xs)), t) y e) (Nodes.a_chain m v i)
  chain_ok qs xs y None m v i e = absurd cc

  list_is : (xs : List (Term × Shape)) → typed_list xs ≡ bounded (list_as (list_join xs) xs)
  list_is [] = refl
  list_is (x ∷ xs) = refl

  dot_node : (x : List ℕ) (qs : List JudgedPart) (y : Term × Shape) → dot_by p x qs ≡ Ok y → Node p s (tree.dot x) qs (plainly y)
  dot_node x qs y e =
      let a = dot_ok p.names x p refl qs y e in
      subst (λ z. Node p s (tree.dot x) z (plainly y)) (sym a.1) (Nodes.behind_dot a.3 (behind_ok p.names x a.2 y a.4))

  dot_goes : (x : List ℕ) (q : JudgedPart) (m : NameMeaning) (y : Term × Shape) → left_meaning q ≡ Some m → dotted p.names x (Some m) ≡ Ok y → dot_by p x (q ∷ []) ≡ Ok y
  dot_goes x (piece (value a c t)) m y i e = ap (dotted p.names x) i ∙ e
  dot_goes x (meant n) m y i e = ap (dotted p.names x) i ∙ e
  dot_goes x (piece (label l)) m y i e = absurd cc
  dot_goes x (target a l) m y i e = absurd cc
  dot_goes x (assigned ns xs) m y i e = absurd cc

  -- ---- THE rules
  pub node_ok : p.settled ≡ true → (h : Head) (qs : List JudgedPart) (q : JudgedPart) → admit p s h qs ≡ Ok q → Node p s h qs q
  node_ok st (tree.num z) [] q e = subst (Node p s (tree.num z) []) (ok_is _ q e) Nodes.a_number
  node_ok st (tree.text x) [] q e = subst (Node p s (tree.text x) []) (ok_is _ q e) Nodes.a_text
  node_ok st (tree.truth b) [] q e = subst (Node p s (tree.truth b) []) (ok_is _ q e) Nodes.a_truth
  node_ok st (tree.name x) [] q e = a_name_ok s.grant x q refl e
  node_ok st (tree.global x) [] q e = a_global_ok s.grant x q refl e
  node_ok st (tree.dot x) qs q e = let a = as_part_ok (dot_by p x qs) q e in subst (Node p s (tree.dot x) qs) a.2 (dot_node x qs a.0 a.1)
  node_ok st (tree.call x) qs q e =
      let a = as_part_ok (unless_rule (is_too_deep p s (tree.call x) qs) 13 (called_with p s (signature_in p.names.signatures.now (encode_utf8_all x)) qs)) q e in
      subst (Node p s (tree.call x) qs) a.2 (call_ok st x (signature_in p.names.signatures.now (encode_utf8_all x)) qs a.0 refl a.1)
  node_ok st tree.neg qs q e = as_made tree.neg fun.Negate qs q (λ y c. Nodes.negated c) e
  node_ok st tree.opposite qs q e = as_made tree.opposite fun.Not qs q (λ y c. Nodes.denied c) e
  node_ok st tree.percent qs q e = as_made tree.percent fun.Percent qs q (λ y c. Nodes.in_percent c) e
  node_ok st (tree.pair o) qs q e =
      let a = as_part_ok (and_then (values qs) (λ xs. paired_by o xs (pieces qs))) q e in
      let b = then_ok (values qs) (λ xs. paired_by o xs (pieces qs)) a.0 a.1 in
      subst (Node p s (tree.pair o) qs) a.2 (pair_ok o qs b.0 a.0 (values_ok qs b.0 b.1) b.2)
  node_ok st tree.joined qs q e = as_made tree.joined fun.Concatenation qs q (λ y c. Nodes.joined_texts c) e
  node_ok st tree.all qs q e = as_formed tree.all form.All qs q (λ y c. Nodes.all_of c) e
  node_ok st tree.any qs q e = as_formed tree.any form.Any qs q (λ y c. Nodes.any_of c) e
  node_ok st tree.chain qs q e =
      let a = as_part_ok (unless_rule (not (may_act s.grant)) 9 (and_then (values qs) chain_by)) q e in
      let u = unless_ok (not (may_act s.grant)) 9 (and_then (values qs) chain_by) a.0 a.1 in
      let b = then_ok (values qs) chain_by a.0 u.1 in
      subst (Node p s tree.chain qs) a.2 (chain_ok qs b.0 a.0 (last_type (types_of b.0)) (not-false (may_act s.grant) u.0) (values_ok qs b.0 b.1) refl b.2)
  node_ok st (tree.alias x) qs q e = alias_ok s.grant x qs q refl e
  node_ok st (tree.rec ns ps) qs q e =
      let a = record_parts (values qs) refl e in record_ok s.grant ns ps qs a.0 q refl (values_ok qs a.0 a.1) a.2
    where
      record_parts : (r : Result (List (Term × Shape)) ℕ) → values qs ≡ r → and_then r (record_as s.grant ns) ≡ Ok q →
          (xs : List (Term × Shape)) × (values qs ≡ Ok xs) × (record_as s.grant ns xs ≡ Ok q)
      record_parts (Ok xs) i f = (xs, i, f)
      record_parts (Err n) i f = absurd cc
  node_ok st tree.list qs q e =
      let a = as_part_ok (and_then (values qs) typed_list) q e in
      let b = then_ok (values qs) typed_list a.0 a.1 in
      let c = bounded_ok (list_as (list_join b.0) b.0) a.0 (sym (list_is b.0) ∙ b.2) in
      subst (Node p s tree.list qs) a.2 (Nodes.a_list (values_ok qs b.0 b.1) (list_ok (list_join b.0) b.0 a.0 c.0) c.1)
  node_ok st tree.woven [] q e = subst (Node p s tree.woven []) (ok_is _ q e) Nodes.empty_weave
  node_ok st tree.woven (r ∷ qs) q e = as_made tree.woven fun.Concatenation (r ∷ qs) q (λ y c. Nodes.a_weave c) e
  node_ok st h qs q e = absurd cc

  pub node_goes : p.settled ≡ true → (h : Head) (qs : List JudgedPart) (q : JudgedPart) (n : ℕ) → MayBeAll p.names s h n 0 None qs → Node p s h qs q → admit p s h qs ≡ Ok q
  node_goes st h qs q n may Nodes.a_number = refl
  node_goes st h qs q n may Nodes.a_text = refl
  node_goes st h qs q n may Nodes.a_truth = refl
  node_goes st h qs q n may (Nodes.named_value {x = x} {c = c} {t = t} i m) = ap (name_by s.grant x) (means_go p s.scopes s.catches x (valued c t) m) ∙ value_goes s.grant x c t i
  node_goes st h qs q n may (Nodes.named_column {x = x} i) = ap (λ g. name_by g x (meaning_of p s.scopes s.catches x)) i
  node_goes st h qs q n may (Nodes.named_target {x = x} i) = (target_goes s.grant x (meaning_of p s.scopes s.catches x) i).0
  node_goes st h qs q n may (Nodes.named_left {x = x} {b = b} {m = m} i j) =
      ap (λ g. name_by g x (meaning_of p s.scopes s.catches x)) i ∙ ap left_of_dot (means_go p s.scopes s.catches x m j) ∙ left_goes m
  node_goes st h qs q n may (Nodes.global_value {x = x} {c = c} {t = t} i m) = ap (global_by s.grant x) (globals_go p.names x (valued c t) m) ∙ global_goes s.grant x c t i
  node_goes st h qs q n may (Nodes.global_target {x = x} i) = (target_goes s.grant x (in_globals p.names x) i).1
  node_goes st h qs q n may (Nodes.global_left {x = x} {b = b} {m = m} i j) =
      ap (λ g. global_by g x (in_globals p.names x)) i ∙ ap left_of_dot (globals_go p.names x m j) ∙ left_goes m
  node_goes st h qs q n may (Nodes.behind_dot {x = x} {q = r} {m = m} {y = y} i b) = ap as_part (dot_goes x r m y i (behind_goes p.names x m y b))
  node_goes st h qs q n may (Nodes.a_call {x = x} {f = f} {y = y} i l c b d) = ap as_part (call_goes st x f qs y n may i l c b d)
  node_goes st h qs q n may (Nodes.negated {y = y} c) = ap as_part (calls_go fun.Negate (pieces qs) y c)
  node_goes st h qs q n may (Nodes.denied {y = y} c) = ap as_part (calls_go fun.Not (pieces qs) y c)
  node_goes st h qs q n may (Nodes.in_percent {y = y} c) = ap as_part (calls_go fun.Percent (pieces qs) y c)
  node_goes st h qs q n may (Nodes.two_operands {o = o} {f = f} {c = c} {d = d} {t = t} {u = u} {y = y} v i k) =
      ap as_part (then_goes (values qs) (λ xs. paired_by o xs (pieces qs)) ((c, t) ∷ (d, u) ∷ []) y (values_are qs ((c, t) ∷ (d, u) ∷ []) v)
      (ap (λ g. made_if g (pieces qs)) i ∙ calls_go f (pieces qs) y k))
  node_goes st h qs q n may (Nodes.joined_texts {y = y} c) = ap as_part (calls_go fun.Concatenation (pieces qs) y c)
  node_goes st h qs q n may (Nodes.all_of {y = y} c) = ap as_part (forms_go form.All (pieces qs) y c)
  node_goes st h qs q n may (Nodes.any_of {y = y} c) = ap as_part (forms_go form.Any (pieces qs) y c)
  node_goes st h qs q n may (Nodes.a_chain {xs = xs} {t = t} m v i) =
      ap as_part (unless_goes (not (may_act s.grant)) 9 (and_then (values qs) chain_by) (of chain (all (firsts xs)), t) (not_from_true (may_act s.grant) m)
      (then_goes (values qs) chain_by xs (of chain (all (firsts xs)), t) (values_are qs xs v) (ap (chain_as xs) i)))
  node_goes st h qs q n may (Nodes.rows_with_name {x = x} {a = a} {c = c} {t = t} i) = alias_goes s.grant x a c t i
  node_goes st h qs q n may (Nodes.target_with_name {x = x} {y = y} i) = ap (λ g. alias_by g x (target None y ∷ [])) i
  node_goes st h qs q n may (Nodes.a_record {ns = ns} {xs = xs} i v d b) =
      then_goes (values qs) (record_as s.grant ns) xs (plainly (record_by (put_fields ns xs))) (values_are qs xs v)
      (record_is s.grant ns xs i
      ∙ ap as_part (if_true (are_names_distinct ns) (bounded (Ok (record_by (put_fields ns xs)))) (Err 5) d
      ∙ bounded_goes (Ok (record_by (put_fields ns xs))) (record_by (put_fields ns xs)) refl b))
  node_goes st h qs q n may (Nodes.screen_variables {ns = ns} {b = b} {xs = xs} i v d l) =
      then_goes (values qs) (record_as s.grant ns) xs (assigned ns xs) (values_are qs xs v)
      (ap (λ g. record_as g ns xs) i
      ∙ if_true (are_names_distinct ns) (unless_rule (not (is_bounded (record_by (put_fields ns xs)).1)) 13 (Ok (assigned ns xs))) (Err 5) d
      ∙ unless_goes (not (is_bounded (record_by (put_fields ns xs)).1)) 13 (Ok (assigned ns xs)) (assigned ns xs) (not_from_true (is_bounded (record_by (put_fields ns xs)).1) l) refl)
  node_goes st h qs q n may (Nodes.a_list {xs = xs} {y = y} v r b) =
      ap as_part (then_goes (values qs) typed_list xs y (values_are qs xs v) (list_is xs ∙ bounded_goes (list_as (list_join xs) xs) y (list_goes (list_join xs) xs y r) b))
  node_goes st h qs q n may Nodes.empty_weave = refl
  node_goes st h qs q n may (Nodes.a_weave {q = r} {qs = more} {y = y} c) = ap as_part (calls_go fun.Concatenation (pieces (r ∷ more)) y c)
