-- The type of a record that is made of its fields.
use Rattle.std.proofs.Common.{◌≡◌, ℕ, ◌+◌, ◌<◌, ◌≤◌, inl, inr, List, ◌∷◌, length, map, min, drop, get_or, ap, ◌∙◌, arith}
use Rattle.std.proofs.Math.ListN.{drop_of_length-le}
use Rattle.std.proofs.Math.Nat.{eq-or-lt_of_le}
use Rattle.fx_types.specs.Types.{Shape, no_columns}
use Rattle.fx_core.specs.SourceTypes.{put_column}
use Rattle.fx_core.specs.Tree.{NamedTree, tree_field_names}
use Rattle.fx_core.specs.Term.{Term}
use Rattle.fx_typing.specs.Builds.{put_fields}
use Rattle.fx_node_typing.proofs.FieldTypes.{columns_in, no_fields_more, put_columns_in}
use Rattle.fx_diagnostics.proofs.Sought.{drop_at}

pub put_end : {A : Type 0} (g : A → Term × Shape) (fs : List NamedTree) (vs : List A) (i : ℕ) → i ≡ min (length fs) (length vs) → i ≤ length fs →
    columns_in (put_fields (tree_field_names (drop i fs)) (map g (drop i vs))) ≡ no_columns
put_end g fs vs i m h =
    ap columns_in (no_fields_more (tree_field_names (drop i fs)) (map g (drop i vs))
    (elim (eq-or-lt_of_le h) [
      | inl e ↦ inl (ap tree_field_names (drop_of_length-le fs (omega (arith, e))))
      | inr l ↦ inr (ap (map g) (drop_of_length-le vs (omega (arith, m, l))))
    ]))

-- one field more
pub put_more : {A : Type 0} (g : A → Term × Shape) (fs : List NamedTree) (vs : List A) (i k : ℕ) (f : NamedTree) (v : A) → i + 1 ≡ k →
    i < length fs → f ≡ get_or fs i f → i < length vs → v ≡ get_or vs i v →
    columns_in (put_fields (tree_field_names (drop i fs)) (map g (drop i vs))) ≡ put_column f.0.text (g v).1 (columns_in (put_fields (tree_field_names (drop k fs)) (map g (drop k vs))))
put_more g fs vs i k f v n h e l d =
    ap (λ gs. columns_in (put_fields (tree_field_names gs) (map g (drop i vs)))) (drop_at fs i f h e)
    ∙ ap (λ zs. columns_in (put_fields (f.0.text ∷ tree_field_names (drop (i + 1) fs)) (map g zs))) (drop_at vs i v l d)
    ∙ put_columns_in f.0.text (g v) (put_fields (tree_field_names (drop (i + 1) fs)) (map g (drop (i + 1) vs)))
    ∙ ap (λ j. put_column f.0.text (g v).1 (columns_in (put_fields (tree_field_names (drop j fs)) (map g (drop j vs))))) n
