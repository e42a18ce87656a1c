use Rattle.std.proofs.Common.{[], ◌∷◌, ap, map}
use Rattle.csv.specs.Records.{fields_of}
use Rattle.row_files.specs.Batches.{batch_of}
use Rattle.row_files.specs.declared.ends.BatchEnd.TheVariants.{Refused}
use Rattle.row_files.specs.declared.ends.ImportRule.TheVariants as rule
use Rattle.row_files.proofs.Answered.{gives_as, map_none, told_err}
use Rattle.row_files.proofs.batches.batch_of.Goals as goal

pub returns-in-Some : goal.returns-in-Some
returns-in-Some c =
    let columns = c.args.columns.now in
    gives_as (batch_of columns c.args.key (map fields_of c.args.records.now)) (batch_of columns c.args.key (fields_of c.in-Some.header.now ∷ map fields_of c.in-Some.lines.now)) c.batch_behind.result
    (ap (λ rs. batch_of columns c.args.key (map fields_of rs)) c.in-Some.ensures.cases.0) c.batch_behind.ensures

pub returns-in-None : goal.returns-in-None
returns-in-None c =
    let columns = c.args.columns.now in
    told_err (batch_of columns c.args.key (map fields_of c.args.records.now)) c.refusal_of_record.result (Refused 0 [] rule.Header)
    (ap (batch_of columns c.args.key) (map_none fields_of c.args.records.now c.in-None.ensures.cases)) c.refusal_of_record.ensures
