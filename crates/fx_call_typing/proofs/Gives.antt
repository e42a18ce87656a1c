-- Variables of a screen that are given values, one after another.
use Rattle.std.proofs.Common.{◌≡◌, ℕ, List, [], ◌∷◌, Option, Result, Ok, sym, ap, subst, ◌∙◌}
use Rattle.fx_types.specs.Types.{Shape}
use Rattle.fx_core.specs.declared.sources.Source.{Source}
use Rattle.fx_core.specs.declared.names.Names.{Names}
use Rattle.fx_core.specs.Term.{Term}
use Rattle.fx_typing.specs.Deeds.{give_one, give_all}
use Rattle.fx_typing.specs.Targets.{screen_variable}
use Rattle.fx_typing.specs.Answers.{IsAnswerOf, Wrong}
use Rattle.fx_node_typing.proofs.Kept.{onto, with_last, turned, at_end}

-- what is kept of variables and values: with what is behind it, it is the whole
abbrev pub Gives : {A : Type 0} → Names → Option ℕ → (A → List (Source × Term)) → Result A Wrong → List (List ℕ) → List (Term × Shape) → Result (List (Source × Term)) ℕ → Type 0
Gives n s view kept ms xs whole =
    (p : Result (List (Source × Term)) ℕ) × IsAnswerOf view p kept × (onto p (give_all n s ms xs) ≡ whole)

pub gives_on : {A : Type 0} (n : Names) (s : Option ℕ) (view : A → List (Source × Term)) (kept new : Result A Wrong) (m : List ℕ) (names rest : List (List ℕ)) (x : Term × Shape) (all left : List (Term × Shape)) (whole : Result (List (Source × Term)) ℕ) →
    names ≡ m ∷ rest → all ≡ x ∷ left →
    ((p : Result (List (Source × Term)) ℕ) → IsAnswerOf view p kept → IsAnswerOf view (with_last p (give_one (screen_variable n s m) x)) new) →
    Gives n s view kept names all whole → Gives n s view new rest left whole
gives_on n s view kept new m names rest x all left whole e f step h =
    let one = give_one (screen_variable n s m) x in (
      with_last h.0 one,
      step h.0 h.1,
      turned h.0 one (give_all n s rest left)
          ∙ ap (onto h.0) (sym (ap (λ l. give_all n s l all) e ∙ ap (give_all n s (m ∷ rest)) f))
          ∙ h.2,
    )

-- where no name is left, or no value
pub gave_all : {A : Type 0} (n : Names) (s : Option ℕ) (view : A → List (Source × Term)) (kept : Result A Wrong) (ms : List (List ℕ)) (xs : List (Term × Shape)) (whole : Result (List (Source × Term)) ℕ) →
    give_all n s ms xs ≡ Ok [] → Gives n s view kept ms xs whole → IsAnswerOf view whole kept
gave_all n s view kept ms xs whole none h =
    let e : h.0 ≡ whole = sym (at_end h.0) ∙ ap (onto h.0) (sym none) ∙ h.2 in
    subst (λ p. IsAnswerOf view p kept) e h.1

pub no_name : (n : Names) (s : Option ℕ) (ms : List (List ℕ)) (xs : List (Term × Shape)) → ms ≡ [] → give_all n s ms xs ≡ Ok []
no_name n s ms xs e = ap (λ l. give_all n s l xs) e
