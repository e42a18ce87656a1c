-- What formulas are judged as, stage by stage.
use Rattle.std.proofs.Common.{◌≡◌, ℕ, List, [], ◌∷◌, length, map, Result, Ok, Err, IfErr, IfOk, refl, ap, sym, subst, ◌∙◌}
use Rattle.depend_graph.specs.Order.{IsClosedPath, IsOrder}
use Rattle.fx_infer.specs.Limit.{IsRoundsLimit}
use Rattle.fx_core.specs.declared.app_end.AppEnd.{AppEnd}
use Rattle.fx_core.specs.declared.broken.Broken.{Broken}
use Rattle.fx_core.specs.declared.names.Names.{Names}
use Rattle.fx_core.specs.Lawful.{IsLawful}
use Rattle.fx_typing.specs.Rounds.{Cell as Seen, AreFinalTypes, StillChanges}
use Rattle.app_cells.specs.declared.app.App.{App}
use Rattle.app_cells.specs.declared.app.CellInfo.{CellInfo}
use Rattle.app_cells.specs.declared.cell.Cell.{Cell}
use Rattle.app_cells.specs.Leaning.{edges_of}
use Rattle.app_loader.specs.Admitted.{AreRefused}
use Rattle.app_loader.specs.Cells.{round_cell}
use Rattle.app_loader.specs.Cycles.{cycle_of, cell_name_at}
use Rattle.app_loader.specs.Infos.{AreElaborated}
use Rattle.app_loader.specs.JudgedFormulas.{AreJudgeable, AreSomeBreaks, IsCyclic, IsOrdered, JudgedCells, ReportsBreaks, unsettled}
use Rattle.app_loader.specs.JudgedFormulas as judge
use Rattle.app_loader.specs.Supports.{AreSupported, unordered}
use Rattle.app_loader.specs.Types.{HaveLawfulTrees}
use Rattle.app_loader.proofs.Below.{still_numbered}
use Rattle.app_loader.proofs.Elaborated.{still_elaborated, still_lawful}
use Rattle.app_loader.proofs.Reaching.{same_count, same_edges, supports_too}
use Rattle.app_loader.proofs.Loads.{tells_weaker}

limit_is : (b : Broken) → IsRoundsLimit b → b ≡ unsettled
limit_is b h = λ i. record { cell = h.0 i; rule = h.1 i; at = h.2 i; detail = h.3 i }

-- ---- rounds
pub final_by : (seen : List Seen) (cells : List Cell) (n m : Names) → seen ≡ map round_cell cells → AreFinalTypes seen n m → AreFinalTypes (map round_cell cells) n m
final_by seen cells n m e f = subst (λ (cs : List Seen). AreFinalTypes cs n m) e f

pub still_fit : (cells : List Cell) (n m : Names) → AreJudgeable n cells → AreFinalTypes (map round_cell cells) n m → IsLawful m → AreJudgeable m cells
still_fit cells n m h f l = record { lawful = l; shallow = h.shallow; numbered = still_numbered (length cells) (map round_cell cells) n m f h.numbered }

pub unsettled_by : (seen : List Seen) (cells : List Cell) (n : Names) (b : Broken) → seen ≡ map round_cell cells → StillChanges seen n → IsRoundsLimit b → (e : AppEnd) → ReportsBreaks (λ bs. bs ≡ b ∷ []) e →
    ReportsBreaks (λ bs. (bs ≡ unsettled ∷ []) × StillChanges (map round_cell cells) n) e
unsettled_by seen cells n b same still limit =
    tells_weaker (λ bs. bs ≡ b ∷ []) (λ bs. (bs ≡ unsettled ∷ []) × StillChanges (map round_cell cells) n)
    (λ bs is. (is ∙ ap (λ x. x ∷ []) (limit_is b limit), subst (λ (cs : List Seen). StillChanges cs n) same still))

-- ---- order
pub right_order : (m : Names) (count : ℕ) (is : List CellInfo) (edges : List (ℕ × ℕ)) (numbers : List ℕ) → count ≡ length is → edges ≡ edges_of m is → IsOrder count edges numbers → IsOrder (length is) (edges_of m is) numbers
right_order m count is edges numbers c e o = subst (λ (es : List (ℕ × ℕ)). IsOrder (length is) es numbers) e (subst (λ n. IsOrder n edges numbers) c o)

pub ordered : (m : Names) (limit count : ℕ) (is js : List CellInfo) (edges : List (ℕ × ℕ)) (numbers order : List ℕ) → count ≡ length is → edges ≡ edges_of m is → IsOrder count edges numbers → AreSupported m is js →
    order ≡ numbers → IsOrdered m limit is (record { names = m; cells = js; order = order; limit = limit })
ordered m limit count is js edges numbers order c e o all k = record {
  names = refl;
  cells = all.same;
  limit = refl;
  order = subst (λ (ns : List ℕ). IsOrder (length is) (edges_of m is) ns) (sym k) (right_order m count is edges numbers c e o);
  supports = λ i x there. supports_too (unordered m js) (record { names = m; cells = js; order = order; limit = limit }) i x.support (λ s. refl) refl (all.each i x there);
}

pub cyclic : (m : Names) (is : List CellInfo) (edges : List (ℕ × ℕ)) (path : List ℕ) (b : Broken) → edges ≡ edges_of m is → IsClosedPath edges path → b ≡ cycle_of (map (cell_name_at is) path) → (e : AppEnd) →
    ReportsBreaks (λ bs. bs ≡ b ∷ []) e → ReportsBreaks (IsCyclic m is) e
cyclic m is edges path b same closed told =
    tells_weaker (λ bs. bs ≡ b ∷ []) (IsCyclic m is) (λ bs k. (b, k, (path, subst (λ (es : List (ℕ × ℕ)). IsClosedPath es path) same closed, told)))

-- ---- what formulas are judged as
module _ (first : Names) (limit : ℕ) (cells : List Cell) where
  abbrev Refuses : List Broken → Type 0
  Refuses bs = JudgedCells first limit cells (Err bs)

  pub unsettled_end : (e : AppEnd) → ReportsBreaks (λ bs. (bs ≡ unsettled ∷ []) × StillChanges (map round_cell cells) first) e → ReportsBreaks Refuses e
  unsettled_end = tells_weaker (λ bs. (bs ≡ unsettled ∷ []) × StillChanges (map round_cell cells) first) Refuses (λ bs h. subst Refuses (sym h.0) (judge.unsettling first limit cells h.1))

  pub refused_end : (m : Names) → AreFinalTypes (map round_cell cells) first m → (e : AppEnd) → ReportsBreaks (AreSomeBreaks (AreRefused m cells)) e → ReportsBreaks Refuses e
  refused_end m f = tells_weaker (AreSomeBreaks (AreRefused m cells)) Refuses (λ bs h. subst Refuses (sym h.2) (judge.refused first limit cells m h.0 h.1 f (subst (AreRefused m cells) h.2 h.3)))

  pub cyclic_end : (m : Names) (is : List CellInfo) → AreFinalTypes (map round_cell cells) first m → AreElaborated m limit cells is → (e : AppEnd) → ReportsBreaks (IsCyclic m is) e → ReportsBreaks Refuses e
  cyclic_end m is f h = tells_weaker (IsCyclic m is) Refuses (λ bs k. subst Refuses (sym k.1) (judge.cyclic first limit cells m is k.0 (record { final = f; elaborated = h }) k.2))

  pub cyclic_err : (m : Names) (is : List CellInfo) → AreFinalTypes (map round_cell cells) first m → AreElaborated m limit cells is → (r : Result App AppEnd) → IfErr r (ReportsBreaks (IsCyclic m is)) → IfErr r (ReportsBreaks Refuses)
  cyclic_err m is f h (Ok a) k = tt
  cyclic_err m is f h (Err e) k = cyclic_end m is f h e k

  pub app_ok : (m : Names) (is : List CellInfo) → AreFinalTypes (map round_cell cells) first m → AreElaborated m limit cells is → (r : Result App AppEnd) → IfOk r (IsOrdered m limit is) → IfOk r (λ a. JudgedCells first limit cells (Ok a))
  app_ok m is f h (Err e) o = tt
  app_ok m is f h (Ok a) o =
      judge.app first limit cells a (record {
        settled = record {
          final = subst (λ k. AreFinalTypes (map round_cell cells) first k) (sym o.names) f;
          elaborated = subst (λ (n : Names). AreElaborated n limit cells a.cells) (sym o.names) (still_elaborated m limit cells is a.cells (sym o.cells) h);
        };
        order =
            subst (λ (n : Names). IsOrder (length a.cells) (edges_of n a.cells) a.order) (sym o.names)
            (subst (λ n. IsOrder n (edges_of m a.cells) a.order) (sym (same_count a.cells is o.cells)) (subst (λ (es : List (ℕ × ℕ)). IsOrder (length is) es a.order) (sym (same_edges m a.cells is o.cells)) o.order));
        supports = o.supports;
        limit = o.limit;
      })

pub trees_ok : (m : Names) (limit : ℕ) (is : List CellInfo) → HaveLawfulTrees is → (r : Result App AppEnd) → IfOk r (IsOrdered m limit is) → IfOk r (λ a. HaveLawfulTrees a.cells)
trees_ok m limit is h (Ok a) o = still_lawful is a.cells (sym o.cells) h
trees_ok m limit is h (Err e) o = tt
