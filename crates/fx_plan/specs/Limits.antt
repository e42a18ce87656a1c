-- The parts of a tree, limited one by one.
use Rattle.std.specs.Prelude.{ℕ, suc, false, List, [], ◌∷◌}
use Rattle.fx_plan.specs.declared.site_list.Scoped.{Scoped}
use Rattle.fx_plan.specs.SitePlaces.{is_scoped}
use Rattle.fx_plan.specs.Sites.{terms_count, deeper}
use Rattle.fx_core.specs.declared.schema.TableShape.{TableShape}
use Rattle.fx_core.specs.Term.{Term, of}
use Rattle.fx_plan.specs.Limited.{limited, parts_limited, takes_first_whole}

-- a tree that stays itself, with its parts limited
abbrev pub with_limited_parts : List TableShape → ℕ → ℕ → Term → Term
with_limited_parts ts n k (of h cs) = of h (parts_limited ts n k h (terms_count cs)
    (takes_first_whole ts k (of h cs)) 0 cs)

-- under how many scopes a part stands
abbrev pub depth_at : Scoped → ℕ → ℕ → ℕ
depth_at s k i = deeper (is_scoped s i) k

-- parts from a place on, each under its scopes, of which none may be taken whole
abbrev pub each_limited : List TableShape → ℕ → (ℕ → ℕ) → ℕ → List Term → List Term
each_limited ts n depth i [] = []
each_limited ts n depth i (c ∷ cs) = limited ts n (depth i) false c
    ∷ each_limited ts n depth (suc i) cs

-- fields, each with its name
abbrev pub fields_limited : List TableShape → ℕ → ℕ → List (List ℕ × Term) → List (List ℕ × Term)
fields_limited ts n k [] = []
fields_limited ts n k (f ∷ fs) = (f.0, limited ts n k false f.1) ∷ fields_limited ts n k fs
