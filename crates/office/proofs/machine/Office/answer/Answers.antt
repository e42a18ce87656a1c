use Rattle.std.proofs.Common.{inl, inr}
use Rattle.office.proofs.Refusing.{refused_leaves}
use Rattle.office.proofs.machine.Office.answer.Goals.{in-Ok, in-Err-Memory, in-Err-Failed}
use Rattle.office.proofs.machine.Office.answer.Goals as goal

pub returns-clause-refused : goal.returns-clause-refused
returns-clause-refused g c = elim c.match-carry_out.branch [
  | in-Ok w ↦ rw w.result-is (λ refused. refused_leaves _ _ c.args.self.now.marks _ _ _ _ (inl w.in-Ok.ensures.step) refused)
  | in-Err-Memory w ↦ λ refused. w.in-Err-Memory.ensures.stopped
  | in-Err-Failed w ↦ λ refused. w.in-Err-Failed.ensures.stopped
]

pub returns-clause-acted : goal.returns-clause-acted
returns-clause-acted g c = elim c.match-carry_out.branch [
  | in-Ok w ↦ rw w.result-is (inl w.in-Ok.ensures.acted)
  | in-Err-Memory w ↦ rw w.result-is (inr (inl w.fixed_refusal.ensures.said, w.in-Err-Memory.ensures.cut))
  | in-Err-Failed w ↦ rw w.result-is (inr (inr w.fixed_refusal-in-Err-Failed.ensures.said, w.in-Err-Failed.ensures.cut))
]
