-- Which calls are admitted.
use Rattle.std.specs.Prelude.{ℕ, List, [], ◌∷◌, ◌&&◌, not, nat_le, nat_eq, suc, length, take, drop}
use Rattle.std.specs.Prelude.{Option, Some, None, is_some, Result, Ok, Err, encode_utf8_all}
use Rattle.std.specs.Prelude.{if◌then◌else◌}
use Rattle.fx_types.specs.Types.{Shape, dates}
use Rattle.fx_core.specs.declared.functions.Acting.{Acting}
use Rattle.fx_core.specs.declared.functions.Fun.{Fun}
use Rattle.fx_core.specs.declared.signatures.SigShape.{SigShape}
use Rattle.fx_core.specs.declared.signatures.SigShape.TheVariants as sig
use Rattle.fx_core.specs.declared.signatures.Signature.{Signature}
use Rattle.fx_core.specs.declared.sources.Source.TheVariants as source
use Rattle.fx_core.specs.Literals.{with_literal}
use Rattle.fx_core.specs.Rows.{row_of, is_arity}
use Rattle.fx_core.specs.Signatures.{signature_in}
use Rattle.fx_core.specs.declared.names.Names.{Names}
use Rattle.fx_core.specs.Term.{Term, of, nil, read}
use Rattle.fx_core.specs.Rules as rules
use Rattle.fx_typing.specs.Columns.{label_of}
use Rattle.fx_core.specs.ColumnLists.{and_then}
use Rattle.fx_typing.specs.Local.{Piece, value, node_made, formed}
use Rattle.fx_typing.specs.Meaning.{Place}
use Rattle.fx_typing.specs.Breaks.{taken_at, mistells, could_act, gives_variables, large_given}
use Rattle.fx_typing.specs.Builds.{bounded, typed_table, with_of, blank_record}
use Rattle.fx_typing.specs.Deeds.{by_first_name, by_columns, acted, until_settled}
use Rattle.fx_typing.specs.Parts.{JudgedPart, Setting, may_act, unless_rule, pieces, values}
use Rattle.fx_typing.specs.Plans.{pick}
use Rattle.fx_typing.specs.Targets.{rows_named}

-- a literal behind the other arguments: a text
abbrev pub literal_in : List Piece → Option (List ℕ)
literal_in (value None c t ∷ []) = label_of c
literal_in ps = None

abbrev pub made_if : Option Fun → List Piece → Result (Term × Shape) ℕ
made_if (Some f) ps = node_made f ps
made_if None ps = Err rules.wrong_type

abbrev pub function_by : Fun → Option (List ℕ) → Option Fun
function_by f (Some x) = with_literal f (encode_utf8_all x)
function_by f None = None

-- a function that a literal may change, which is one argument more than its row has
abbrev pub made_literal : Fun → List Piece → Result (Term × Shape) ℕ
made_literal f ps =
    if nat_le (length ps) (row_of f).most then node_made f ps
    else (if nat_eq (length ps) (suc (row_of f).most)
    then made_if (function_by f (literal_in (drop (row_of f).most ps)))
    (take (row_of f).most ps) else Err rules.wrong_count)

-- a function of these parts, or the lowest rule that they break
abbrev pub made_or_lowest : Fun → List JudgedPart → Result (Term × Shape) ℕ
made_or_lowest f qs = unless_rule (is_some (taken_at f qs)) rules.name_twice
    (unless_rule (mistells f qs) rules.wrong_type (node_made f (pieces qs)))

-- an acting call that gives values to variables of its screen alone
abbrev pub acted_on_screen : Place → Acting → List JudgedPart → Result (Term × Shape) ℕ
acted_on_screen p a qs = unless_rule (not (gives_variables p.names p.screen a qs))
    rules.not_a_variable (until_settled p.settled (acted p.names p.screen a qs))

-- an acting call at its place. While types aren't settled no value is of a wrong type for a
-- variable, and no type passes the limits; but what is no variable is none.
abbrev pub acted_by : Place → Acting → List JudgedPart → Result (Term × Shape) ℕ
acted_by p a qs = unless_rule (is_some (large_given p.names p.screen a qs) && p.settled)
    rules.limit_passed (acted_on_screen p a qs)

-- an acting call that could be one of its parts, and that stands where its place lets it act
abbrev pub acted_or_lowest : Place → Setting → Acting → List JudgedPart → Result (Term × Shape) ℕ
acted_or_lowest p s a qs = unless_rule (not (may_act s.grant)) rules.behaviour_in_pure
    (unless_rule (not (could_act a qs)) rules.wrong_type (acted_by p a qs))

abbrev pub defaults_of : Names → List ℕ → List JudgedPart → Result (Term × Shape) ℕ
defaults_of n x qs = by_columns (rows_named n x) (λ cs. Ok (blank_record cs))

abbrev pub called_by : Place → Setting → SigShape → List JudgedPart → Result (Term × Shape) ℕ
called_by p s (sig.One f) qs = made_or_lowest f qs
called_by p s (sig.Either f g) qs = node_made (pick f g qs) (pieces qs)
called_by p s (sig.Literal f) qs = made_literal f (pieces qs)
called_by p s (sig.Form f) qs = formed f (pieces qs)
called_by p s sig.With qs = and_then (values qs) with_of
called_by p s sig.Table qs = and_then (values qs) typed_table
called_by p s sig.Today qs = Ok (of (read source.Today) nil, dates)
called_by p s sig.Defaults qs = by_first_name qs (defaults_of p.names)
called_by p s (sig.Act a) qs = acted_or_lowest p s a qs

-- a function of the table, with as many parts as it takes
abbrev pub called_with : Place → Setting → Option Signature → List JudgedPart
    → Result (Term × Shape) ℕ
called_with p s (Some f) qs = if is_arity f.least f.most (length qs) then bounded
    (called_by p s f.shape qs) else Err rules.wrong_count
called_with p s None qs = Err rules.no_function

abbrev pub called : Place → Setting → List ℕ → List JudgedPart → Result (Term × Shape) ℕ
called p s x qs = called_with p s (signature_in p.names.signatures.now (encode_utf8_all x)) qs
