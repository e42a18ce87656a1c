-- Names that stand twice.
use Rattle.std.proofs.Common.{◌≡◌, ℕ, ◌+◌, ◌<◌, List, [], ◌∷◌, ◌++◌, length, drop, take, get_or, Bool, true, false, ◌||◌, if◌then◌else◌, bytes_eq, refl, ap, sym, ◌∙◌}
use Rattle.std.proofs.lemmas.List.{take_more}
use Rattle.fx_core.specs.Tree.{Tree, NamedTree, tree_field_names}
use Rattle.fx_core.specs.ColumnLists.{is_one_of}
use Rattle.fx_typing.specs.Details.{twice_after}
use Rattle.fx_diagnostics.proofs.Sought.{drop_at}

or_assoc : (a b c : Bool) → ((a || b) || c) ≡ (a || (b || c))
or_assoc true b c = refl
or_assoc false b c = refl

or_end : (a b : Bool) → (a || (b || false)) ≡ (b || a)
or_end true true = refl
or_end true false = refl
or_end false true = refl
or_end false false = refl

one_of-append : (x : List ℕ) (xs ys : List (List ℕ)) → is_one_of x (xs ++ ys) ≡ (is_one_of x xs || is_one_of x ys)
one_of-append x [] ys = refl
one_of-append x (z ∷ zs) ys = ap (λ b. bytes_eq z x || b) (one_of-append x zs ys) ∙ sym (or_assoc (bytes_eq z x) (is_one_of x zs) (is_one_of x ys))

twice_same : (seen others ns : List (List ℕ)) → ((x : List ℕ) → is_one_of x seen ≡ is_one_of x others) → twice_after seen ns ≡ twice_after others ns
twice_same seen others [] h = refl
twice_same seen others (n ∷ ns) h =
    ap (λ b. if b then n else twice_after (n ∷ seen) ns) (h n)
    ∙ ap (λ w. if is_one_of n others then n else w) (twice_same (n ∷ seen) (n ∷ others) ns (λ x. ap (λ b. bytes_eq n x || b) (h x)))

names-append : (fs gs : List NamedTree) → tree_field_names (fs ++ gs) ≡ tree_field_names fs ++ tree_field_names gs
names-append [] gs = refl
names-append (f ∷ fs) gs = ap (λ ns. f.0.text ∷ ns) (names-append fs gs)

-- a name that stands once so far
pub twice_step : (fs : List NamedTree) (i : ℕ) (f : NamedTree) → i < length fs → f ≡ get_or fs i f →
    is_one_of f.0.text (tree_field_names (take i fs)) ≡ false →
    twice_after (tree_field_names (take (i + 1) fs)) (tree_field_names (drop (i + 1) fs)) ≡ twice_after (tree_field_names (take i fs)) (tree_field_names (drop i fs))
twice_step fs i f h e n =
    let seen = tree_field_names (take i fs) in
    let more = tree_field_names (drop (i + 1) fs) in
    let t : tree_field_names (take (i + 1) fs) ≡ seen ++ f.0.text ∷ [] =
    ap tree_field_names (take_more fs i f h ∙ ap (λ x. take i fs ++ x ∷ []) (sym e)) ∙ names-append (take i fs) (f ∷ []) in
    ap (λ s. twice_after s more) t
    ∙ twice_same (seen ++ f.0.text ∷ []) (f.0.text ∷ seen) more (λ x. one_of-append x seen (f.0.text ∷ []) ∙ or_end (is_one_of x seen) (bytes_eq f.0.text x))
    ∙ ap (λ b. if b then f.0.text else twice_after (f.0.text ∷ seen) more) (sym n)
    ∙ ap (λ gs. twice_after seen (tree_field_names gs)) (sym (drop_at fs i f h e))
