use Rattle.std.proofs.Common.{◌<◌, ◌≤◌, List, ℕ, length, get_or, subst, Vec, arith}
use Rattle.std.specs.declared.alloc.Global.{Global}
use Rattle.std.proofs.lemmas.List.{take_all, take_more, length-map}
use Rattle.depend_graph.specs.Lists.{lists_of, AreReaders}
use Rattle.depend_graph.proofs.Adding.{reads_more, reads_none}
use Rattle.depend_graph.proofs.lists.readers.Goals as goal

pub loop-reader-init : goal.loop-reader-init
loop-reader-init c = (c.in_ok-lists.ensures.len, reads_none _ c.in_ok-lists.ensures.empty)

pub loop-reader-preserved : goal.loop-reader-preserved
loop-reader-preserved c =
    let i : ℕ = c.loop-reader.reader-index in
    let lt : i < length c.args.edges.now = omega arith in
    let below : (get_or c.args.edges.now i (0, 0)).1 < c.args.count = (c.requires i (0, 0) lt).1 in (
      omega arith,
      reads_more c.args.edges.now i (get_or c.args.edges.now i (0, 0)) _ _ (take_more c.args.edges.now i (0, 0) lt)
          (omega (arith, length-map c.loop-reader.lists.items (λ (v : Vec ℕ Global). v.items))) c.loop-reader.invariant.1 c.in_ok-add_at.ensures.ok,
    )

pub returns-clause-readers : goal.returns-clause-readers
returns-clause-readers c =
    let long : length c.args.edges.now ≤ c.loop-reader.reader-index = omega arith in
    let P : List (ℕ × ℕ) → Type 0 = λ es. AreReaders es (lists_of c.loop-reader.lists.items) in
    subst P (take_all c.loop-reader.reader-index c.args.edges.now long) c.loop-reader.invariant.1
