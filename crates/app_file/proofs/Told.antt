-- What is told of files.
use Rattle.std.proofs.Common.{ℕ, List, Err, sym, subst}
use Rattle.serde_json.specs.Data.{Data}
use Rattle.fx_base.specs.declared.or_memory.OrMemory.{OrMemory}
use Rattle.fx_base.specs.declared.or_memory.OrMemory.TheVariants.{Refused, Memory}
use Rattle.app_file.specs.declared.breaks.FileBreak.{FileBreak}
use Rattle.app_file.specs.declared.steps.Step.{Step}
use Rattle.app_file.specs.Files.{HasJson, IsBadPartOf, IsRead, IsReadOf, TellsFileBreak, bad_part, json}
use Rattle.app_file.specs.FormOfApp.{app_form}
use Rattle.app_file.specs.Forms.{BreaksForm}
use Rattle.app_file.specs.Readings.{TellsPath}

pub told_part : (d : Data) (e : OrMemory (List Step)) (r : OrMemory FileBreak) → TellsPath (BreaksForm app_form d) e → IsBadPartOf e r → TellsFileBreak (λ b. IsReadOf d (Err b)) r
told_part d e Memory h b = tt
told_part d (Refused path) (Refused c) h b = subst (λ x. IsReadOf d (Err x)) (sym b) (bad_part d path h)
told_part d Memory (Refused c) h b = absurd b

pub told_json : (file : List ℕ) (d : Data) → HasJson file d → (e : OrMemory FileBreak) → TellsFileBreak (λ b. IsReadOf d (Err b)) e → TellsFileBreak (λ b. IsRead file (Err b)) e
told_json file d is (Refused b) h = json file d (Err b) is h
told_json file d is Memory h = tt
