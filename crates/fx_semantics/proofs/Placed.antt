-- In the tree of an admitted formula what acts acts in its place.
use Rattle.std.proofs.Common.{◌≡◌, ℕ, suc, ◌++◌, List, [], ◌∷◌, Bool, true, false, not, nat_le, nat_lt, nat_eq, ◌%◌, length, take, drop, encode_utf8_all, Option, Some, None, is_some, Result, Ok, Err, Ordering, Less, Equal, Greater, nat_cmp, refl, sym, subst, ap, ◌∙◌, if◌then◌else◌}
use Rattle.std.specs.Cmp.Lexicographic.{slice_cmp}
use Rattle.std.specs.Ordering.{match_ordering}
use Rattle.std.proofs.lemmas.List.{append-nil}
use Rattle.fx_types.specs.Types.{Shape, blanks, records, tables, no_columns}
use Rattle.fx_types.specs.Values.{boolean, number, text}
use Rattle.fx_semantics.specs.Laws.{AdmittedIsPlaced}
use Rattle.fx_semantics.specs.Places.{IsPlaced, is_for_all}
use Rattle.fx_semantics.proofs.PlacedDeeds.{is_filtered, act_placed, name_made, columns_made}
use Rattle.fx_semantics.proofs.PlacedParts.{TreePlaced, AllPlaced, PartPlaced, EachPlaced, quiet_placed, tree_still, part_still, terms_placed, node_placed, one_placed, as_part_placed, by_way_placed, put_placed, made_by_placed, made_placed, pieces_placed, values_placed}
use Rattle.fx_core.specs.declared.functions.Acting.{Acting}
use Rattle.fx_core.specs.declared.functions.Acting.TheVariants as acts
use Rattle.fx_core.specs.declared.functions.Form.{Form}
use Rattle.fx_core.specs.declared.functions.Form.TheVariants as form
use Rattle.fx_core.specs.declared.functions.Fun.{Fun}
use Rattle.fx_core.specs.declared.functions.Fun.TheVariants as fun
use Rattle.fx_core.specs.declared.rows.Row.{Row}
use Rattle.fx_core.specs.declared.rows.Takes.{Takes}
use Rattle.fx_core.specs.declared.rows.Takes.TheVariants as takes
use Rattle.fx_core.specs.declared.signatures.SigShape.{SigShape}
use Rattle.fx_core.specs.declared.signatures.SigShape.TheVariants as sig
use Rattle.fx_core.specs.declared.signatures.Signature.{Signature}
use Rattle.fx_core.specs.declared.sources.Source.TheVariants as source
use Rattle.fx_core.specs.Rows.{row_of, form_row, takes_at, inner_at, is_arity}
use Rattle.fx_core.specs.Signatures.{signature_in}
use Rattle.fx_core.specs.declared.expr.Op.{Op}
use Rattle.fx_core.specs.Tree.{Tree, node, Forest, none, more, Head}
use Rattle.fx_core.specs.Tree as tree
use Rattle.fx_core.specs.Term.{Term, of, nil, cons, all, within}
use Rattle.fx_core.specs.Term as term
use Rattle.fx_typing.proofs.Frame.{onward_ok, at_node_ok, put_one}
use Rattle.fx_typing.proofs.Quiet.{Calm, calm_first, judged_quiet, may_do, table_quiet}
use Rattle.fx_typing.proofs.QuietParts.{AllQuiet, EachQuiet, Made, PartQuiet, TreeQuiet, dot_by_quiet, formed_quiet, global_by_quiet, if_quiet, in_globals_quiet, made_if_quiet, made_quiet, meaning_quiet, name_by_quiet, pieces_quiet, take_quiet, then_quiet, tree_quiet, unless_quiet, values_quiet}
use Rattle.fx_typing.specs.Breaks.{taken_at, mistells}
use Rattle.fx_typing.specs.Builds.{as_record, blank_record, bounded, bounded_by, field_names, field_parts, is_bounded, are_names_distinct, list_as, list_by, typed_list, put_field, put_fields, record_by, typed_record, rows_to, typed_table, types_of, with_of}
use Rattle.fx_typing.specs.Calls.{called, called_by, called_with, defaults_of, function_by, literal_in, made_if, made_literal, made_or_lowest}
use Rattle.fx_core.specs.ColumnLists.{and_then, field_in}
use Rattle.fx_typing.specs.Local.{value, by_way, firsts, formed, join_all, node_made, put_first}
use Rattle.fx_typing.specs.Meaning.{Place, valued, controlled, screened, enumerated, field_read, in_globals, known_field, meaning_of}
use Rattle.fx_typing.specs.Operators.{function_of}
use Rattle.fx_typing.specs.Parts.{Grant, nothing, an_alias, aliased_target, on_screen, JudgedPart, piece, meant, target, assigned, Setting, part_count, pieces, values}
use Rattle.fx_typing.specs.Parts as part
use Rattle.fx_typing.specs.Plans.{field_grant, grant_of, pick, plan_act, plan_at, plan_by_row, plan_call, plan_either, plan_literal, argument_rule, setting_at, shape_in}
use Rattle.fx_typing.specs.Targets.{rows_named}
use Rattle.fx_typing.specs.Parts.{unless_rule}
use Rattle.fx_typing.specs.Typing.{admit, alias_by, assigned_of, at_node, chain_as, chain_by, dot_by, global_by, is_too_deep, judge, judge_parts, name_by, outermost_setting, paired_by, position, record_as, to_wanted, whole_argument, woven_by}
use Rattle.fx_typing.specs.WellTyped.{plain, last_type}
use Rattle.fx_typing.specs.Ways.{way}

-- ---- which parts may act
-- the row has no place for what acts
abbrev is_calm : Takes → Bool
is_calm takes.RowFormula = false
is_calm takes.Branch = false
is_calm takes.Fallback = false
is_calm k = true

calm_takes : (b : Bool) (k : Takes) → is_calm k ≡ true → may_do (grant_of b k) ≡ false
calm_takes b takes.RowFormula e = absurd cc
calm_takes b takes.Branch e = absurd cc
calm_takes b takes.Fallback e = absurd cc
calm_takes b k e = refl

-- no place of the row is one for what acts
record IsCalmRow (r : Row) : Type 0 where
  first : is_calm r.first ≡ true
  second : is_calm r.second ≡ true
  third : is_calm r.third ≡ true
  fourth : is_calm r.fourth ≡ true

if_calm : (b : Bool) (k l : Takes) → is_calm k ≡ true → is_calm l ≡ true → is_calm (if b then k else l) ≡ true
if_calm true k l e h = e
if_calm false k l e h = h

calm_inside : (r : Row) (i : ℕ) → IsCalmRow r → is_calm (inner_at r i) ≡ true
calm_inside r i c = if_calm (nat_eq i 0) r.first _ c.first (if_calm (nat_eq i 1) r.second _ c.second (if_calm (nat_eq (i % 2) 0) r.third r.fourth c.third c.fourth))

-- of all functions `ForAll` alone has one
calm_function : (f : Fun) (n i : ℕ) → is_for_all f ≡ false → is_calm (takes_at (row_of f) n i) ≡ true
calm_function fun.ForAll n i e = absurd cc
calm_function f n i e = calm_inside (row_of f) i (record { first = refl; second = refl; third = refl; fourth = refl })

calm_row : (b : Bool) (f : Fun) (n i : ℕ) → is_for_all f ≡ false → Calm (plan_by_row b (row_of f) n i)
calm_row b f n i e = calm_takes b (takes_at (row_of f) n i) (calm_function f n i e)

-- parts that may be the first of these
abbrev IsBegun : List JudgedPart → List JudgedPart → Type 0
IsBegun d qs = (rest : List JudgedPart) × (d ++ rest ≡ qs)

pick_first : (f g : Fun) (q : JudgedPart) (xs ys : List JudgedPart) → pick f g (q ∷ xs) ≡ pick f g (q ∷ ys)
pick_first f g (piece (value (Some a) c t)) xs ys = refl
pick_first f g (piece (value None c (tables cs))) xs ys = refl
pick_first f g q xs ys = refl

calm_either : (b : Bool) (f g : Fun) (n : ℕ) (qs : List JudgedPart) → is_for_all (pick f g qs) ≡ false → (d : List JudgedPart) → IsBegun d qs → Calm (plan_either b f g n d)
calm_either b f g n qs e [] m = refl
calm_either b f g n qs e (q ∷ d) m =
    let same : pick f g (q ∷ d) ≡ pick f g qs = pick_first f g q d (d ++ m.0) ∙ ap (pick f g) m.1 in
    calm_row b (pick f g (q ∷ d)) n (length (q ∷ d)) (ap is_for_all same ∙ e)

calm_literal : (b : Bool) (f : Fun) (n i : ℕ) → is_for_all f ≡ false → Calm (plan_literal b f n i)
calm_literal b f n i e = by_test (nat_lt i (row_of f).most)
  where
    by_test : (t : Bool) → Calm (if t then plan_by_row b (row_of f) n i else argument_rule plain nothing)
    by_test true = calm_row b f n i e
    by_test false = refl

calm_all : (b : Bool) (n i : ℕ) → Calm (plan_by_row b (form_row form.All) n i)
calm_all b n i = calm_takes b (takes_at (form_row form.All) n i) (calm_inside (form_row form.All) i (record { first = refl; second = refl; third = refl; fourth = refl }))

calm_any : (b : Bool) (n i : ℕ) → Calm (plan_by_row b (form_row form.Any) n i)
calm_any b n i = calm_takes b (takes_at (form_row form.Any) n i) (calm_inside (form_row form.Any) i (record { first = refl; second = refl; third = refl; fourth = refl }))

calm_filtered : (a : Acting) → is_filtered a ≡ true → (b : Bool) (i : ℕ) → Calm (plan_act b a i)
calm_filtered acts.RemoveIf e b i = calm_first _ _ _ i refl refl
calm_filtered acts.UpdateIf e b i = calm_first _ _ _ i refl refl
calm_filtered a e b i = absurd cc

-- ---- records, lists, and types with limits
bounded_placed : (r : Result (Term × Shape) ℕ) → Made TreePlaced r → Made TreePlaced (bounded r)
bounded_placed r h = then_quiet TreePlaced TreePlaced r bounded_by h (λ x k. unless_quiet TreePlaced (not (is_bounded x.1)) 13 (Ok x) k)

abbrev Fields : Type 0
Fields = List (List ℕ × (Term × Shape))

field_quiet : (n : List ℕ) (x : Term × Shape) (fs : Fields) → TreeQuiet x → AllQuiet (field_parts fs) → AllQuiet (field_parts (put_field n x fs))
field_quiet n x [] h k = (h, tt)
field_quiet n x (f ∷ fs) h k = by_order (slice_cmp nat_cmp n f.0) (field_quiet n x fs h k.1)
  where
    by_order : (o : Ordering) → AllQuiet (field_parts (put_field n x fs)) → AllQuiet (field_parts (match_ordering o ((n, x) ∷ f ∷ fs) ((n, x) ∷ fs) (f ∷ put_field n x fs)))
    by_order Less rest = (h, k)
    by_order Equal rest = (h, k.1)
    by_order Greater rest = (k.0, rest)

fields_quiet : (ns : List (List ℕ)) (xs : List (Term × Shape)) → AllQuiet xs → AllQuiet (field_parts (put_fields ns xs))
fields_quiet [] xs h = tt
fields_quiet (n ∷ ns) [] h = tt
fields_quiet (n ∷ ns) (x ∷ xs) h = field_quiet n x (put_fields ns xs) h.0 (fields_quiet ns xs h.1)

-- a field doesn't act
record_placed : (ns : List (List ℕ)) (xs : List (Term × Shape)) → AllQuiet xs → Made TreePlaced (typed_record ns xs)
record_placed ns xs h =
    let fs = put_fields ns xs in
    if_quiet TreePlaced (are_names_distinct ns) (bounded (Ok (record_by fs))) (Err 5)
    (bounded_placed (Ok (record_by fs)) (quiet_placed (record_by fs).0 (tree_quiet (term.rec (field_names fs)) (field_parts fs) refl (fields_quiet ns xs h)))) tt

record_part : (g : Grant) (ns : List (List ℕ)) (qs : List JudgedPart) → EachPlaced qs → (may_do (field_grant g) ≡ false → EachQuiet qs) → Made PartPlaced (and_then (values qs) (record_as g ns))
record_part (on_screen b) ns qs h q =
    then_quiet AllPlaced PartPlaced (values qs) (assigned_of ns) (values_placed qs h) (λ xs k.
    let bound = is_bounded (record_by (put_fields ns xs)).1 in
    if_quiet PartPlaced (are_names_distinct ns) (unless_rule (not bound) 13 (Ok (assigned ns xs))) (Err 5) (unless_quiet PartPlaced (not bound) 13 (Ok (assigned ns xs)) k) tt)
record_part g ns qs h q = then_quiet AllQuiet PartPlaced (values qs) (record_as g ns) (values_quiet qs (q refl)) (λ xs k. as_part_placed (typed_record ns xs) (record_placed ns xs k))

rows_placed : (t : Shape) (xs : List (Term × Shape)) → AllPlaced xs → Made AllPlaced (rows_to t xs)
rows_placed t [] h = tt
rows_placed t (x ∷ xs) h =
    then_quiet TreePlaced AllPlaced (by_way (way x.1 t) x.0 t) (λ y. put_first y (rows_to t xs)) (by_way_placed (way x.1 t) x.0 t h.0)
    (λ y k. put_placed y (rows_to t xs) k (rows_placed t xs h.1))

rows_listed : (t : Shape) (xs : List (Term × Shape)) → AllPlaced xs → Made TreePlaced (and_then (rows_to t xs) (λ ys. Ok (list_by t ys)))
rows_listed t xs h =
    then_quiet AllPlaced TreePlaced (rows_to t xs) (λ ys. Ok (list_by t ys)) (rows_placed t xs h) (λ ys k. node_placed (term.list t) (all (firsts ys)) refl (terms_placed ys k))

list_as_placed : (o : Option Shape) (xs : List (Term × Shape)) → AllPlaced xs → Made TreePlaced (list_as o xs)
list_as_placed None xs h = tt
list_as_placed (Some (tables cs)) xs h = tt
list_as_placed (Some t) xs h = rows_listed t xs h

list_placed : (xs : List (Term × Shape)) → AllPlaced xs → Made TreePlaced (typed_list xs)
list_placed [] h = bounded_placed (list_as (Some (records no_columns)) []) (list_as_placed (Some (records no_columns)) [] h)
list_placed (x ∷ xs) h =
    let joined = join_all (Some blanks) (x ∷ xs) in
    bounded_placed (list_as joined (x ∷ xs)) (list_as_placed joined (x ∷ xs) h)

-- ---- calls
as_record_placed : (c : Term) (t : Shape) → IsPlaced c → Made IsPlaced (as_record (c, t))
as_record_placed c (records cs) h = h
as_record_placed c blanks h = one_placed (term.coerce (records no_columns)) c refl h
as_record_placed c t h = tt

with_placed : (xs : List (Term × Shape)) → AllPlaced xs → Made TreePlaced (with_of xs)
with_placed [] h = tt
with_placed (r ∷ []) h = tt
with_placed (r ∷ f ∷ []) h =
    then_quiet IsPlaced TreePlaced (as_record r) (λ c. Ok (of within (cons c (cons f.0 nil)), f.1)) (as_record_placed r.0 r.1 h.0)
    (λ c k. node_placed within (cons c (cons f.0 nil)) refl (k, (h.1.0, tt)))
with_placed (r ∷ f ∷ x ∷ xs) h = tt

function_placed : (f : Fun) (qs : List JudgedPart) → EachPlaced qs → (is_for_all f ≡ false → EachQuiet qs) → Made TreePlaced (node_made f (pieces qs))
function_placed f qs h q = made_placed f (pieces qs) (pieces_placed qs h) (λ e. pieces_quiet qs (q e))

made_or_lowest_placed : (f : Fun) (qs : List JudgedPart) → EachPlaced qs → (is_for_all f ≡ false → EachQuiet qs) → Made TreePlaced (made_or_lowest f qs)
made_or_lowest_placed f qs h q =
    unless_quiet TreePlaced (is_some (taken_at f qs)) 5 _ (unless_quiet TreePlaced (mistells f qs) 6 (node_made f (pieces qs)) (function_placed f qs h q))

-- no literal changes `ForAll`
changed_placed : (f : Fun) (o : Option (List ℕ)) (qs : List JudgedPart) → (is_for_all f ≡ false → EachQuiet qs) → Made TreePlaced (made_if (function_by f o) (take (row_of f).most (pieces qs)))
changed_placed f None qs q = tt
changed_placed fun.ForAll (Some x) qs q = tt
changed_placed f (Some x) qs q =
    tree_still (made_if (function_by f (Some x)) (take (row_of f).most (pieces qs))) (made_if_quiet (function_by f (Some x)) (take (row_of f).most (pieces qs)) (take_quiet (row_of f).most (pieces qs) (pieces_quiet qs (q refl))))

literal_placed : (f : Fun) (qs : List JudgedPart) → EachPlaced qs → (is_for_all f ≡ false → EachQuiet qs) → Made TreePlaced (made_literal f (pieces qs))
literal_placed f qs h q =
    if_quiet TreePlaced (nat_le (length (pieces qs)) (row_of f).most) _ _ (function_placed f qs h q)
    (if_quiet TreePlaced (nat_eq (length (pieces qs)) (suc (row_of f).most)) _ _ (changed_placed f (literal_in (drop (row_of f).most (pieces qs))) qs q) tt)

-- parts none of which acts where none may
abbrev Rests : Bool → ℕ → Option SigShape → List JudgedPart → Type 0
Rests b n o qs = ((d : List JudgedPart) → IsBegun d qs → Calm (plan_call b o n d)) → EachQuiet qs

form_placed : (b : Bool) (n : ℕ) (f : Form) (qs : List JudgedPart) → EachPlaced qs → Rests b n (Some (sig.Form f)) qs → Made TreePlaced (formed f (pieces qs))
form_placed b n form.All qs h q = tree_still (formed form.All (pieces qs)) (formed_quiet form.All (pieces qs) (pieces_quiet qs (q (λ d m. calm_all b n (length d)))))
form_placed b n form.Any qs h q = tree_still (formed form.Any (pieces qs)) (formed_quiet form.Any (pieces qs) (pieces_quiet qs (q (λ d m. calm_any b n (length d)))))
form_placed b n form.If qs h q = made_by_placed (form_row form.If) (term.form form.If) (pieces qs) refl (pieces_placed qs h)
form_placed b n form.Switch qs h q = made_by_placed (form_row form.Switch) (term.form form.Switch) (pieces qs) refl (pieces_placed qs h)
form_placed b n form.IfError qs h q = made_by_placed (form_row form.IfError) (term.form form.IfError) (pieces qs) refl (pieces_placed qs h)

called_by_placed : (p : Place) (s : Setting) (k : SigShape) (n : ℕ) (qs : List JudgedPart) → EachPlaced qs → Rests (part.may_act s.grant) n (Some k) qs → Made TreePlaced (called_by p s k qs)
called_by_placed p s (sig.One f) n qs h q = made_or_lowest_placed f qs h (λ e. q (λ d m. calm_row (part.may_act s.grant) f n (length d) e))
called_by_placed p s (sig.Either f g) n qs h q = function_placed (pick f g qs) qs h (λ e. q (λ d m. calm_either (part.may_act s.grant) f g n qs e d m))
called_by_placed p s (sig.Literal f) n qs h q = literal_placed f qs h (λ e. q (λ d m. calm_literal (part.may_act s.grant) f n (length d) e))
called_by_placed p s (sig.Form f) n qs h q = form_placed (part.may_act s.grant) n f qs h q
called_by_placed p s sig.With n qs h q = then_quiet AllPlaced TreePlaced (values qs) with_of (values_placed qs h) (λ xs k. with_placed xs k)
called_by_placed p s sig.Table n qs h q =
    tree_still (and_then (values qs) typed_table) (then_quiet AllQuiet TreeQuiet (values qs) typed_table (values_quiet qs (q (λ d m. refl))) (λ xs k. table_quiet xs k))
called_by_placed p s sig.Today n qs h q = quiet_placed (of (term.read source.Today) nil) refl
called_by_placed p s sig.Defaults n qs h q =
    name_made qs (defaults_of p.names) (λ x rs k. columns_made (rows_named p.names x) (λ cs. Ok (blank_record cs)) (λ cs. quiet_placed (blank_record cs).0 refl)) h
called_by_placed p s (sig.Act a) n qs h q = act_placed p s a qs h (λ e. q (λ d m. calm_filtered a e (part.may_act s.grant) (length d)))

called_with_placed : (p : Place) (s : Setting) (o : Option Signature) (n : ℕ) (qs : List JudgedPart) → EachPlaced qs → Rests (part.may_act s.grant) n (shape_in o) qs →
    Made TreePlaced (called_with p s o qs)
called_with_placed p s (Some f) n qs h q =
    if_quiet TreePlaced (is_arity f.least f.most (length qs)) (bounded (called_by p s f.shape qs)) (Err 7)
    (bounded_placed (called_by p s f.shape qs) (called_by_placed p s f.shape n qs h q)) tt
called_with_placed p s None n qs h q = tt

-- ---- the other heads
known_placed : (c : Term) (x : List ℕ) (o : Option Shape) → IsPlaced c → Made TreePlaced (known_field c x o)
known_placed c x (Some t) h = one_placed (term.dot x) c refl h
known_placed c x None h = tt

field_placed : (c : Term) (x : List ℕ) (t : Shape) → IsPlaced c → Made TreePlaced (field_read c x t)
field_placed c x (records cs) h = known_placed c x (field_in x cs) h
field_placed c x t h = tt

dot_placed : (p : Place) (x : List ℕ) (qs : List JudgedPart) → EachPlaced qs → Made TreePlaced (dot_by p x qs)
dot_placed p x (piece (value a c t) ∷ []) h = field_placed c x t h.0
dot_placed p x (meant (valued c t) ∷ []) h = field_placed c x t h.0
dot_placed p x (meant (controlled k c) ∷ []) h = tree_still (dot_by p x (meant (controlled k c) ∷ [])) (dot_by_quiet p x (meant (controlled k c) ∷ []) (tt, tt))
dot_placed p x (meant screened ∷ []) h = tree_still (dot_by p x (meant screened ∷ [])) (dot_by_quiet p x (meant screened ∷ []) (tt, tt))
dot_placed p x (meant (enumerated e) ∷ []) h = tree_still (dot_by p x (meant (enumerated e) ∷ [])) (dot_by_quiet p x (meant (enumerated e) ∷ []) (tt, tt))
dot_placed p x qs h = tt

alias_placed : (g : Grant) (x : List ℕ) (qs : List JudgedPart) → EachPlaced qs → Made PartPlaced (alias_by g x qs)
alias_placed an_alias x (piece (value a c t) ∷ []) h = h.0
alias_placed aliased_target x (piece (value a c t) ∷ []) h = h.0
alias_placed aliased_target x (target None y ∷ []) h = tt
alias_placed g x qs h = tt

chain_placed : (xs : List (Term × Shape)) (o : Option Shape) → AllPlaced xs → Made TreePlaced (chain_as xs o)
chain_placed xs (Some t) h = node_placed term.chain (all (firsts xs)) refl (terms_placed xs h)
chain_placed xs None h = tt

paired_placed : (o : Op) (xs : List (Term × Shape)) (qs : List JudgedPart) → EachQuiet qs → Made TreePlaced (paired_by o xs (pieces qs))
paired_placed o (x ∷ y ∷ []) qs q = tree_still (made_if (function_of o x.1 y.1) (pieces qs)) (made_if_quiet (function_of o x.1 y.1) (pieces qs) (pieces_quiet qs q))
paired_placed o xs qs q = tt

still_function : (f : Fun) (qs : List JudgedPart) → EachQuiet qs → Made TreePlaced (node_made f (pieces qs))
still_function f qs q = tree_still (node_made f (pieces qs)) (made_quiet f (pieces qs) (pieces_quiet qs q))

still_form : (f : Form) (qs : List JudgedPart) → EachQuiet qs → Made TreePlaced (formed f (pieces qs))
still_form f qs q = tree_still (formed f (pieces qs)) (formed_quiet f (pieces qs) (pieces_quiet qs q))

woven_placed : (qs : List JudgedPart) → EachQuiet qs → Made TreePlaced (woven_by qs)
woven_placed [] q = quiet_placed (of (term.const (text [])) nil) refl
woven_placed (p ∷ qs) q = still_function fun.Concatenation (p ∷ qs) q

-- ---- the local rule
admit_placed : (p : Place) (s : Setting) (h : Head) (n : ℕ) (qs : List JudgedPart) → EachPlaced qs →
    (((d : List JudgedPart) → IsBegun d qs → Calm (plan_at p.names s.grant h n d)) → EachQuiet qs) → Made PartPlaced (admit p s h qs)
admit_placed p s (tree.num z) n [] k q = quiet_placed (of (term.const (number z)) nil) refl
admit_placed p s (tree.num z) n (r ∷ qs) k q = tt
admit_placed p s (tree.text cs) n [] k q = quiet_placed (of (term.const (text cs)) nil) refl
admit_placed p s (tree.text cs) n (r ∷ qs) k q = tt
admit_placed p s (tree.truth b) n [] k q = quiet_placed (of (term.const (boolean b)) nil) refl
admit_placed p s (tree.truth b) n (r ∷ qs) k q = tt
admit_placed p s (tree.name x) n [] k q = part_still (name_by s.grant x (meaning_of p s.scopes s.catches x)) (name_by_quiet s.grant x (meaning_of p s.scopes s.catches x) (meaning_quiet p s.scopes s.catches x))
admit_placed p s (tree.name x) n (r ∷ qs) k q = tt
admit_placed p s (tree.global x) n [] k q = part_still (global_by s.grant x (in_globals p.names x)) (global_by_quiet s.grant x (in_globals p.names x) (in_globals_quiet p.names x))
admit_placed p s (tree.global x) n (r ∷ qs) k q = tt
admit_placed p s (tree.dot x) n qs k q = as_part_placed (dot_by p x qs) (dot_placed p x qs k)
admit_placed p s (tree.call x) n qs k q =
    as_part_placed _ (unless_quiet TreePlaced (is_too_deep p s (tree.call x) qs) 13 (called p s x qs)
    (called_with_placed p s (signature_in p.names.signatures.now (encode_utf8_all x)) n qs k q))
admit_placed p s tree.neg n qs k q = as_part_placed _ (still_function fun.Negate qs (q (λ d m. refl)))
admit_placed p s tree.opposite n qs k q = as_part_placed _ (still_function fun.Not qs (q (λ d m. refl)))
admit_placed p s tree.percent n qs k q = as_part_placed _ (still_function fun.Percent qs (q (λ d m. refl)))
admit_placed p s (tree.pair o) n qs k q =
    let still = q (λ d m. refl) in
    as_part_placed _ (then_quiet AllQuiet TreePlaced (values qs) (λ xs. paired_by o xs (pieces qs)) (values_quiet qs still) (λ xs m. paired_placed o xs qs still))
admit_placed p s tree.joined n qs k q = as_part_placed _ (still_function fun.Concatenation qs (q (λ d m. refl)))
admit_placed p s tree.all n qs k q = as_part_placed _ (still_form form.All qs (q (λ d m. refl)))
admit_placed p s tree.any n qs k q = as_part_placed _ (still_form form.Any qs (q (λ d m. refl)))
admit_placed p s tree.chain n qs k q =
    as_part_placed _ (unless_quiet TreePlaced (not (part.may_act s.grant)) 9 (and_then (values qs) chain_by)
    (then_quiet AllPlaced TreePlaced (values qs) chain_by (values_placed qs k) (λ xs m. chain_placed xs (last_type (types_of xs)) m)))
admit_placed p s (tree.alias x) n qs k q = alias_placed s.grant x qs k
admit_placed p s (tree.rec ns ps) n qs k q = record_part s.grant ns qs k (λ e. q (λ d m. e))
admit_placed p s tree.list n qs k q = as_part_placed _ (then_quiet AllPlaced TreePlaced (values qs) typed_list (values_placed qs k) (λ xs m. list_placed xs m))
admit_placed p s tree.woven n qs k q = as_part_placed (woven_by qs) (woven_placed qs (q (λ d m. refl)))

-- ---- parts, and whole formulas
begun : (p : Place) (s : Setting) (h : Head) (n : ℕ) (done : List JudgedPart) (ts : Forest) (qs : List JudgedPart) → judge_parts p s h n done ts ≡ Ok qs → IsBegun done qs
begun p s h n done none qs e = let k : done ≡ qs = cc in ([], append-nil done ∙ k)
begun p s h n done (more t ts) qs e =
    let a = onward_ok (judge p (setting_at p.names s h n done) t) (λ q. judge_parts p s h n (done ++ q ∷ []) ts) qs e in
    let b = begun p s h n (done ++ a.0 ∷ []) ts qs a.2 in
    (a.0 ∷ b.0, sym (put_one done a.0 b.0) ∙ b.1)

one_more_quiet : (done : List JudgedPart) (q : JudgedPart) → EachQuiet done → PartQuiet q → EachQuiet (done ++ q ∷ [])
one_more_quiet [] q h k = (k, tt)
one_more_quiet (d ∷ done) q h k = (h.0, one_more_quiet done q h.1 k)

one_more_placed : (done : List JudgedPart) (q : JudgedPart) → EachPlaced done → PartPlaced q → EachPlaced (done ++ q ∷ [])
one_more_placed [] q h k = (k, tt)
one_more_placed (d ∷ done) q h k = (h.0, one_more_placed done q h.1 k)

-- where no place lets a part act, none does
calm_parts : (p : Place) (s : Setting) (h : Head) (n : ℕ) (done : List JudgedPart) (ts : Forest) (qs : List JudgedPart) →
    ((d : List JudgedPart) → IsBegun d qs → Calm (plan_at p.names s.grant h n d)) → EachQuiet done → judge_parts p s h n done ts ≡ Ok qs → EachQuiet qs
calm_parts p s h n done none qs c k e = let same : done ≡ qs = cc in subst EachQuiet same k
calm_parts p s h n done (more t ts) qs c k e =
    let a = onward_ok (judge p (setting_at p.names s h n done) t) (λ q. judge_parts p s h n (done ++ q ∷ []) ts) qs e in
    let one = judged_quiet p (setting_at p.names s h n done) t a.0 (c done (begun p s h n done (more t ts) qs e)) a.1 in
    calm_parts p s h n (done ++ a.0 ∷ []) ts qs c (one_more_quiet done a.0 k one) a.2

mutual
  pub judged_placed : (p : Place) (s : Setting) (e : Tree) (q : JudgedPart) → judge p s e ≡ Ok q → PartPlaced q
  judged_placed p s (node at h ts) q e =
      let a = onward_ok (judge_parts p s h (part_count ts) [] ts) (λ qs. at_node at (admit p s h qs)) q e in
      let k = at_node_ok at (admit p s h a.0) q a.2 in
      subst (Made PartPlaced) k (admit_placed p s h (part_count ts) a.0 (parts_placed p s h (part_count ts) [] ts a.0 tt a.1)
      (λ c. calm_parts p s h (part_count ts) [] ts a.0 c tt a.1))

  pub parts_placed : (p : Place) (s : Setting) (h : Head) (n : ℕ) (done : List JudgedPart) (ts : Forest) (qs : List JudgedPart) → EachPlaced done →
      judge_parts p s h n done ts ≡ Ok qs → EachPlaced qs
  parts_placed p s h n done none qs d e = let k : done ≡ qs = cc in subst EachPlaced k d
  parts_placed p s h n done (more t ts) qs d e =
      let a = onward_ok (judge p (setting_at p.names s h n done) t) (λ q. judge_parts p s h n (done ++ q ∷ []) ts) qs e in
      parts_placed p s h n (done ++ a.0 ∷ []) ts qs (one_more_placed done a.0 d (judged_placed p (setting_at p.names s h n done) t a.0 a.1)) a.2

wanted_placed : (w : Option Shape) (c : Term) (t : Shape) → IsPlaced c → Made TreePlaced (to_wanted w (c, t))
wanted_placed None c t h = h
wanted_placed (Some (tables no_columns)) c (tables cs) h = h
wanted_placed (Some u) c t h = by_way_placed (way t u) c u h

whole_part_placed : (w : Option Shape) (q : JudgedPart) → PartPlaced q → Made TreePlaced (whole_argument w q)
whole_part_placed w (piece (value a c t)) h = wanted_placed w c t h
whole_part_placed w q h = tt

-- THE law: what acts in an admitted formula acts in its place
pub whole_placed : AdmittedIsPlaced
whole_placed p b w e x h =
    let a = onward_ok (judge p (outermost_setting b) e) (λ q. at_node (position e) (whole_argument w q)) x h in
    let k = at_node_ok (position e) (whole_argument w a.0) x a.2 in
    subst (Made TreePlaced) k (whole_part_placed w a.0 (judged_placed p (outermost_setting b) e a.0 a.1))
