-- Names that are sought behind the scopes.
use Rattle.std.proofs.Common.{◌≡◌, ℕ, List, Bool, None, ap, ◌∙◌}
use Rattle.fx_typing.specs.Meaning.{Place, Scope, behind_scopes, in_context, in_globals, in_scopes, meaning_of, or_else, reserved}

-- a name that no scope has and that isn't reserved
pub behind_all : (p : Place) (ss : List Scope) (catches : Bool) (x : List ℕ) → in_scopes 0 x ss ≡ None → reserved p ss catches x ≡ None →
    meaning_of p ss catches x ≡ or_else (in_context p x) (in_globals p.names x)
behind_all p ss catches x a b = ap (λ o. or_else o (behind_scopes p x (reserved p ss catches x))) a ∙ ap (behind_scopes p x) b
