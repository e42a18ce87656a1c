-- A tree is no deeper than the grammar says.
use Rattle.std.proofs.Common.{◌≡◌, ℕ, ◌≤◌, max, List, [], ◌∷◌, ◌++◌, All, arith}
use Rattle.std.proofs.lemmas.List.Elements.{All-cons, All-nil}
use Rattle.fx_core.specs.Tree.{Tree, NamedTree, node, none, more, forest, tree_field_names, field_trees}
use Rattle.fx_core.specs.Tree as tree
use Rattle.fx_grammar.specs.declared.item.Item.{Item}
use Rattle.fx_grammar.specs.declared.line.Line.{Line}
use Rattle.fx_grammar.specs.declared.line.Separator.{Separator}
use Rattle.fx_grammar.specs.Grammar.{Parses, plain, ended, one, many, first, next, no_alias, aliased, no_sign, signed, base, raised, no_percent, percent, no_dot, dotted, leaf, a_global, a_call, brackets, a_record, a_list, a_weave, Parts, alone, further, Args, no_args, some_args, Field, field, SomeFields, one_field, further_field, Fields, no_fields, some_fields, Strands, no_strands, piece, island, IsFormula, bare, marked}
use Rattle.fx_grammar.specs.Formulas.{NamedFormula, named_formula, AreNamed, no_entries, last_entry, further_entry, AreEntriesOf, HasTree}
use Rattle.fx_infer.specs.Below.{tree_depth, forest_depth}

-- one part more
forest_end : (ps : List Tree) (t : Tree) → forest_depth (forest (ps ++ t ∷ [])) ≡ max (forest_depth (forest ps)) (tree_depth t)
forest_end [] t = omega arith
forest_end (p ∷ ps) t = omega (arith, forest_end ps t)

-- one field more
fields_end : (fs : List NamedTree) (f : NamedTree) → forest_depth (field_trees (fs ++ f ∷ [])) ≡ max (forest_depth (field_trees fs)) (tree_depth f.1)
fields_end [] f = omega arith
fields_end (g ∷ fs) f = omega (arith, fields_end fs f)

mutual
  line_depth : (l : Line) (d : ℕ) (ts : List Item) (t : Tree) (rest : List Item) → Parses l d ts t rest → tree_depth t ≤ d
  line_depth _ _ _ _ _ (plain d ts t rest p) = line_depth _ d ts t rest p
  line_depth _ _ _ _ _ (ended d ts t x rest p e) = line_depth _ d ts t (x ∷ rest) p
  line_depth _ _ _ _ _ (one j d ts t rest p) = line_depth _ d ts t rest p
  line_depth _ _ _ _ _ (many j d ts p q ps rest r) = let a = parts_depth _ d ts (p ∷ q ∷ ps) rest r in omega (arith, a)
  line_depth _ _ _ _ _ (first l d ts t rest p) = line_depth _ d ts t rest p
  line_depth _ _ _ _ _ (next l d e ts t x us o u rest p eq r) =
      let a = line_depth _ d ts t (x ∷ us) p in
      let b = line_depth _ e us u rest r in
      omega (arith, a, b)
  line_depth _ _ _ _ _ (no_alias d ts t rest p) = line_depth _ d ts t rest p
  line_depth _ _ _ _ _ (aliased d ts t x y cs rest p e f) = let a = line_depth _ d ts t (x ∷ y ∷ rest) p in omega (arith, a)
  line_depth _ _ _ _ _ (no_sign d ts t rest p) = line_depth _ d ts t rest p
  line_depth _ _ _ _ _ (signed d x h us t rest e p) = let a = line_depth _ d us t rest p in omega (arith, a)
  line_depth _ _ _ _ _ (base d ts t rest p) = line_depth _ d ts t rest p
  line_depth _ _ _ _ _ (raised d e ts t x us u rest p c r) =
      let a = line_depth _ d ts t (x ∷ us) p in
      let b = line_depth _ e us u rest r in
      omega (arith, a, b)
  line_depth _ _ _ _ _ (no_percent d ts t rest p) = line_depth _ d ts t rest p
  line_depth _ _ _ _ _ (percent d ts t x rest p e) = let a = line_depth _ d ts t (x ∷ rest) p in omega (arith, a)
  line_depth _ _ _ _ _ (no_dot d ts t rest p) = line_depth _ d ts t rest p
  line_depth _ _ _ _ _ (dotted d ts t x y cs rest p e f) = let a = line_depth _ d ts t (x ∷ y ∷ rest) p in omega (arith, a)
  line_depth _ _ _ _ _ (leaf x h rest e) = omega arith
  line_depth _ _ _ _ _ (a_global x y z cs rest e f g) = omega arith
  line_depth _ _ _ _ _ (a_call d x y h us ps z rest e f p g) = let a = args_depth d us ps (z ∷ rest) p in omega (arith, a)
  line_depth _ _ _ _ _ (brackets d x us t y rest e p f) = let a = line_depth _ d us t (y ∷ rest) p in omega (arith, a)
  line_depth _ _ _ _ _ (a_record d x us fs y rest e p f) = let a = fields_depth d us fs (y ∷ rest) p in omega (arith, a)
  line_depth _ _ _ _ _ (a_list d x us ps y rest e p f) = let a = args_depth d us ps (y ∷ rest) p in omega (arith, a)
  line_depth _ _ _ _ _ (a_weave d x us ps y rest e p f) = let a = strands_depth d us ps (y ∷ rest) p in omega (arith, a)

  parts_depth : (s : Separator) (d : ℕ) (ts : List Item) (ps : List Tree) (rest : List Item) → Parts s d ts ps rest → forest_depth (forest ps) ≤ d
  parts_depth _ _ _ _ _ (alone s d ts t rest p) = let a = line_depth _ d ts t rest p in omega (arith, a)
  parts_depth _ _ _ _ _ (further s d e ts ps x us t rest p c r) =
      let a = parts_depth _ d ts ps (x ∷ us) p in
      let b = line_depth _ e us t rest r in
      omega (arith, a, b, forest_end ps t)

  args_depth : (d : ℕ) (ts : List Item) (ps : List Tree) (rest : List Item) → Args d ts ps rest → forest_depth (forest ps) ≤ d
  args_depth _ _ _ _ (no_args ts) = omega arith
  args_depth _ _ _ _ (some_args d ts ps rest p) = parts_depth _ d ts ps rest p

  field_depth : (d : ℕ) (ts : List Item) (f : NamedTree) (rest : List Item) → Field d ts f rest → tree_depth f.1 ≤ d
  field_depth _ _ _ _ (field d x y cs us t rest e f p) = line_depth _ d us t rest p

  some_depth : (d : ℕ) (ts : List Item) (fs : List NamedTree) (rest : List Item) → SomeFields d ts fs rest → forest_depth (field_trees fs) ≤ d
  some_depth _ _ _ _ (one_field d ts f rest p) = let a = field_depth d ts f rest p in omega (arith, a)
  some_depth _ _ _ _ (further_field d e ts fs x us f rest p c q) =
      let a = some_depth d ts fs (x ∷ us) p in
      let b = field_depth e us f rest q in
      omega (arith, a, b, fields_end fs f)

  fields_depth : (d : ℕ) (ts : List Item) (fs : List NamedTree) (rest : List Item) → Fields d ts fs rest → forest_depth (field_trees fs) ≤ d
  fields_depth _ _ _ _ (no_fields ts) = omega arith
  fields_depth _ _ _ _ (some_fields d ts fs rest p) = some_depth d ts fs rest p

  strands_depth : (d : ℕ) (ts : List Item) (ps : List Tree) (rest : List Item) → Strands d ts ps rest → forest_depth (forest ps) ≤ d
  strands_depth _ _ _ _ (no_strands ts) = omega arith
  strands_depth _ _ _ _ (piece d ts ps x cs rest p e) =
      let a = strands_depth d ts ps (x ∷ rest) p in
      omega (arith, a, forest_end ps (node x.at (tree.text cs) none))
  strands_depth _ _ _ _ (island d e ts ps x us t y rest p c q f) =
      let a = strands_depth d ts ps (x ∷ us) p in
      let b = line_depth _ e us t (y ∷ rest) q in
      omega (arith, a, b, forest_end ps t)

formula_depth : (xs : List Item) (d : ℕ) (t : Tree) → IsFormula xs d t → tree_depth t ≤ d
formula_depth _ _ _ (bare ts d t p) = line_depth _ d ts t [] p
formula_depth _ _ _ (marked x ts d t e p) = line_depth _ d ts t [] p

pub trees_no_deeper : (n : ℕ) (cs : List ℕ) (t : Tree) → HasTree n cs t → tree_depth t ≤ n
trees_no_deeper n cs t h = let a = formula_depth h.0 h.2.0 t h.2.2 in let b : h.2.0 ≤ n = h.2.1 in omega (arith, a, b)

-- named formulas, none deeper than n
named_depth : (n : ℕ) (xs : List Item) (d : ℕ) (es : List NamedFormula) → AreNamed xs d es → d ≤ n → All (λ (e : NamedFormula). tree_depth e.tree ≤ n) es
named_depth n _ _ _ no_entries h = All-nil (λ (e : NamedFormula). tree_depth e.tree ≤ n)
named_depth n _ _ _ (last_entry x y cs ts d t e f p) h =
    let a = line_depth _ d ts t [] p in
    All-cons (λ (e : NamedFormula). tree_depth e.tree ≤ n) (named_formula cs ts t) [] (omega (arith, a, h)) (All-nil (λ (e : NamedFormula). tree_depth e.tree ≤ n))
named_depth n _ _ _ (further_entry x y cs ts d t z rest m es e f p g q) h =
    let a = line_depth _ d (ts ++ z ∷ rest) t (z ∷ rest) p in
    All-cons (λ (e : NamedFormula). tree_depth e.tree ≤ n) (named_formula cs ts t) es (omega (arith, a, h)) (named_depth n rest m es q (omega (arith, h)))

pub entries_no_deeper : (n : ℕ) (xs : List Item) (es : List NamedFormula) → AreEntriesOf n xs es → All (λ (e : NamedFormula). tree_depth e.tree ≤ n) es
entries_no_deeper n xs es h = named_depth n xs h.0 es h.2 h.1
