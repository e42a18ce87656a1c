-- The rules that an app can break.
use Rattle.std.specs.Prelude.{ℕ, List, codes}
use Rattle.fx_core.specs.declared.rule.Rule.{Rule}
use Rattle.fx_core.specs.declared.rule.Rule.TheVariants as rule

-- the rule's number
abbrev pub rule_number : Rule → ℕ
rule_number rule.BadToken = 1
rule_number rule.Syntax = 2
rule_number rule.TooDeep = 3
rule_number rule.UnknownName = 4
rule_number rule.NameTwice = 5
rule_number rule.WrongType = 6
rule_number rule.WrongCount = 7
rule_number rule.NoFunction = 8
rule_number rule.BehaviourInPure = 9
rule_number rule.Cycle = 10
rule_number rule.VariableTypes = 11
rule_number rule.UnknownColumn = 12
rule_number rule.LimitPassed = 13
rule_number rule.BadShape = 14
rule_number rule.NotAVariable = 15
rule_number rule.NotBuilt = 16
rule_number rule.Recursion = 17

-- the rule's name
abbrev pub name_of : Rule → List ℕ
name_of rule.BadToken = codes "BadToken"
name_of rule.Syntax = codes "Syntax"
name_of rule.TooDeep = codes "TooDeep"
name_of rule.UnknownName = codes "UnknownName"
name_of rule.NameTwice = codes "NameTwice"
name_of rule.WrongType = codes "WrongType"
name_of rule.WrongCount = codes "WrongCount"
name_of rule.NoFunction = codes "NoFunction"
name_of rule.BehaviourInPure = codes "BehaviourInPure"
name_of rule.Cycle = codes "Cycle"
name_of rule.VariableTypes = codes "VariableTypes"
name_of rule.UnknownColumn = codes "UnknownColumn"
name_of rule.LimitPassed = codes "LimitPassed"
name_of rule.BadShape = codes "BadShape"
name_of rule.NotAVariable = codes "NotAVariable"
name_of rule.NotBuilt = codes "NotBuilt"
name_of rule.Recursion = codes "Recursion"

-- the rules that the definition of typing tells, as their numbers
abbrev pub unknown_name : ℕ
unknown_name = rule_number rule.UnknownName

abbrev pub name_twice : ℕ
name_twice = rule_number rule.NameTwice

abbrev pub wrong_type : ℕ
wrong_type = rule_number rule.WrongType

abbrev pub wrong_count : ℕ
wrong_count = rule_number rule.WrongCount

abbrev pub no_function : ℕ
no_function = rule_number rule.NoFunction

abbrev pub behaviour_in_pure : ℕ
behaviour_in_pure = rule_number rule.BehaviourInPure

abbrev pub variable_types : ℕ
variable_types = rule_number rule.VariableTypes

abbrev pub unknown_column : ℕ
unknown_column = rule_number rule.UnknownColumn

abbrev pub limit_passed : ℕ
limit_passed = rule_number rule.LimitPassed

abbrev pub not_a_variable : ℕ
not_a_variable = rule_number rule.NotAVariable
