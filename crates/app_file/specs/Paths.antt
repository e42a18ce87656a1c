-- The way down to a part of a file.
use Rattle.std.specs.Prelude.{ℕ, List, codes, encode_utf8_all}
use Rattle.std.specs.Fmt.{decimal}
use Rattle.std.specs.List.{join_by}
use Rattle.fx_types.specs.Words.{scalars_of}
use Rattle.app_file.specs.declared.steps.Step.{Step}
use Rattle.app_file.specs.declared.steps.Step.TheVariants.{Element, Member}

-- a key as it is, and the place of an element, from 0, in bytes
abbrev pub step_text : Step → List ℕ
step_text (Member key) = encode_utf8_all key
step_text (Element place) = decimal place

-- the steps, joined by `/`
abbrev pub path_text : List Step → List ℕ
path_text path = scalars_of (join_by step_text (codes "/") path)
