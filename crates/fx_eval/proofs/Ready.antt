-- Parts of a tree that is ready are ready.
use Rattle.std.proofs.Common.{◌≡◌, [], ◌∷◌, ◌++◌, Bool, true, false, Option, refl, sym, subst}
use Rattle.std.specs.Prelude.{◌||◌}
use Rattle.fx_types.specs.Types.{Shape}
use Rattle.fx_types.specs.Values.{Data}
use Rattle.fx_eval.specs.Parts.{inner}
use Rattle.fx_env.specs.Scopes.{ScopeValues, Suits, IsTypedHere, CanEvaluate, around}
use Rattle.fx_semantics.specs.Fresh.{IsValue}
use Rattle.fx_semantics.specs.Sound.{ValuesFit, IsLawfulTyping}
use Rattle.fx_semantics.proofs.Parts.{rows_more}
use Rattle.fx_core.specs.declared.sources.Source.{Source}
use Rattle.fx_core.specs.Term.{Term, Terms, of, nil, cons, Top, within}
use Rattle.fx_typing.specs.Acts.{acts, any_acts, is_acting}
use Rattle.fx_typing.specs.WellTyped.{Context, IsTyped, PartScope, plain, standing_at, context_for}
use Rattle.fx_value.specs.Fits.{fits_in}

abbrev Types : Type 0
Types = Source → Option Shape

-- neither of two acts
first_quiet : (a b : Bool) → (a || b) ≡ false → a ≡ false
first_quiet true b e = e
first_quiet false b e = refl

second_quiet : (a b : Bool) → (a || b) ≡ false → b ≡ false
second_quiet true b e = absurd cc
second_quiet false b e = e

-- the value of a tree that is ready fits
pub ready_fits : ValuesFit → (types : Types) (told : Option (Source → Data)) (s : ScopeValues) (t : Term) (u : Shape) → IsTypedHere types s t u →
    (v : Data) → IsValue (around types told s) t v → fits_in v u ≡ true
ready_fits law types told s t u r v h =
    law r.context told s.rows s.item s.caught t u r.typed v r.suits.rows r.suits.item r.lawful
    (subst (λ (z : Types). IsValue (around z told s) t v) (sym r.suits.sources) h)

-- a typing in which the columns of all types rise
abbrev pub Lawfully : Context → Term → Shape → Type 0
Lawfully c t u = (w : IsTyped c t u) × IsLawfulTyping c t u w

-- no part acts
abbrev pub AreCalm : Terms → Type 0
AreCalm ts = any_acts ts ≡ false

pub calm_parts : (types : Types) (s : ScopeValues) (h : Top) (ts : Terms) (u : Shape) → IsTypedHere types s (of h ts) u → AreCalm ts
calm_parts types s h ts u r = second_quiet (is_acting h) (any_acts ts) r.quiet

pub calm_rest : (t : Term) (ts : Terms) → AreCalm (cons t ts) → AreCalm ts
calm_rest t ts k = second_quiet (acts t) (any_acts ts) k

-- a part where it stands
pub part_ready : (types : Types) (s : ScopeValues) (c : Context) (t : Term) (ts : Terms) (u : Shape) → Suits types s c → Lawfully c t u → AreCalm (cons t ts) →
    IsTypedHere types s t u
part_ready types s c t ts u f h k =
    record { context = c; suits = f; typed = h.0; lawful = h.1; quiet = first_quiet (acts t) (any_acts ts) k }

-- the one part, where the whole stands
pub one_part : (types : Types) (s : ScopeValues) (h : Top) (t : Term) (u : Shape) → standing_at h 1 0 ≡ plain → (r : IsTypedHere types s (of h (cons t nil)) u) →
    IsTypedHere types s t r.typed.1.0
one_part types s h t u p r =
    let there : Lawfully (context_for (standing_at h 1 0) r.context []) t r.typed.1.0 = (r.typed.1.3, r.lawful.1.0) in
    part_ready types s r.context t nil r.typed.1.0 r.suits (subst (λ (z : PartScope). Lawfully (context_for z r.context []) t r.typed.1.0) p there)
    (calm_parts types s h (cons t nil) u r)

pub only_part : (types : Types) (s : ScopeValues) (h : Top) (t : Term) → standing_at h 1 0 ≡ plain → CanEvaluate types s (of h (cons t nil)) → CanEvaluate types s t
only_part types s h t p r = (r.1.typed.1.0, one_part types s h t r.0 p r.1)

-- ---- With

-- the record, whose scope the formula stands in
pub record_ready : (types : Types) (s : ScopeValues) (t f : Term) (u : Shape) → (r : IsTypedHere types s (of within (cons t (cons f nil))) u) → IsTypedHere types s t r.typed.1.0
record_ready types s t f u r =
    part_ready types s r.context t (cons f nil) r.typed.1.0 r.suits (r.typed.1.3, r.lawful.1.0) (calm_parts types s within (cons t (cons f nil)) u r)

pub suits_inside : (types : Types) (s : ScopeValues) (c : Context) (d : Data) (t : Shape) → Suits types s c → fits_in d t ≡ true →
    Suits types (inner s d) (record c { rows = c.rows ++ t ∷ [] })
suits_inside types s c d t f g = record { sources = f.sources; rows = rows_more s.rows c.rows d t f.rows g; item = f.item; caught = f.caught; functions = f.functions }

pub formula_ready : (types : Types) (s : ScopeValues) (t f : Term) → CanEvaluate types s (of within (cons t (cons f nil))) → (d : Data) →
    ((w : Shape) → IsTypedHere types s t w → fits_in d w ≡ true) → CanEvaluate types (inner s d) f
formula_ready types s t f r d fits =
    let w = r.1.typed.1.0 in (
      r.1.typed.1.4.0,
      part_ready types (inner s d) (record (r.1.context) { rows = r.1.context.rows ++ w ∷ [] }) f nil r.1.typed.1.4.0
          (suits_inside types s r.1.context d w r.1.suits (fits w (record_ready types s t f r.0 r.1))) (r.1.typed.1.4.3, r.1.lawful.1.1.0)
          (calm_rest t (cons f nil) (calm_parts types s within (cons t (cons f nil)) r.0 r.1)),
    )
