-- Typed trees as rose trees: a head, and the parts under it.
use Rattle.std.specs.Prelude.{ℕ, suc, ◌+◌, List, [], ◌∷◌, Bool, true, false, if◌then◌else◌}
use Rattle.fx_types.specs.Types.{Shape}
use Rattle.fx_types.specs.Values.{Data}
use Rattle.fx_core.specs.declared.deeds.Deed.{Deed}
use Rattle.fx_core.specs.declared.functions.Form.{Form}
use Rattle.fx_core.specs.declared.functions.Fun.{Fun}
use Rattle.fx_core.specs.declared.sources.Source.{Source}

-- what stands at a node, without its parts
pub data Top : Type 0 where
  const : Data → Top
  read : Source → Top
  row : ℕ → Top
  item : Top
  caught : Top
  dot : List ℕ → Top
  call : Fun → Top
  over : Fun → Top
  user : ℕ → Top
  form : Form → Top
  within : Top
  rec : List (List ℕ) → Top
  list : Shape → Top
  coerce : Shape → Top
  chain : Top
  act : Deed → Top

mutual
  -- a head and its parts in order
  pub data Term : Type 0 where
    of : Top → Terms → Term

  pub data Terms : Type 0 where
    nil : Terms
    cons : Term → Terms → Terms

-- the parts, one after another
abbrev pub all : List Term → Terms
all [] = nil
all (t ∷ ts) = cons t (all ts)

-- the names of fields, and their formulas, in order
abbrev pub term_field_names : List (List ℕ × Term) → List (List ℕ)
term_field_names [] = []
term_field_names (f ∷ fs) = f.0 ∷ term_field_names fs

abbrev pub field_terms : List (List ℕ × Term) → Terms
field_terms [] = nil
field_terms (f ∷ fs) = cons f.1 (field_terms fs)

-- how many nodes a tree has
abbrev mutual
  pub term_size : Term → ℕ
  term_size (of h ts) = suc (terms_size ts)

  pub terms_size : Terms → ℕ
  terms_size nil = 0
  terms_size (cons t ts) = suc (term_size t) + terms_size ts
