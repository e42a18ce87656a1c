-- What holds of formulas holds whatever is said of what they stand on.
use Rattle.std.proofs.Common.{◌≡◌, ℕ, zero, suc, List, [], ◌∷◌, map, subst}
use Rattle.fx_semantics.specs.NamedTypes.{HasLawfulTypes}
use Rattle.fx_core.specs.Reads.{AreSourcesRising}
use Rattle.fx_core.specs.declared.names.Names.{Names}
use Rattle.app_cells.specs.declared.app.CellInfo.{CellInfo}
use Rattle.app_cells.specs.declared.cell.Cell.{Cell}
use Rattle.app_loader.specs.Infos.{AreElaborated, IsElaborated}
use Rattle.app_loader.specs.Supports.{HaveRisingReads, without_support}
use Rattle.app_loader.specs.Types.{HaveLawfulTrees}
use Rattle.app_loader.proofs.Reaching.{head_same}

info_elaborated : (m : Names) (most : ℕ) (c : Cell) (i : CellInfo) → IsElaborated m most c i → IsElaborated m most c (without_support i)
info_elaborated m most c i h = record { cell = h.cell; tree = h.tree; once = h.once; reads = h.reads; taken = h.taken; sites = h.sites }

info_back : (m : Names) (most : ℕ) (c : Cell) (i : CellInfo) → IsElaborated m most c (without_support i) → IsElaborated m most c i
info_back m most c i h = record { cell = h.cell; tree = h.tree; once = h.once; reads = h.reads; taken = h.taken; sites = h.sites }

pub still_elaborated : (m : Names) (most : ℕ) (cs : List Cell) (is js : List CellInfo) → map without_support is ≡ map without_support js → AreElaborated m most cs is → AreElaborated m most cs js
still_elaborated m most [] [] [] e h = tt
still_elaborated m most [] [] (j ∷ js) e h = absurd cc
still_elaborated m most [] (i ∷ is) js e h = absurd h
still_elaborated m most (c ∷ cs) [] js e h = absurd h
still_elaborated m most (c ∷ cs) (i ∷ is) [] e h = absurd cc
still_elaborated m most (c ∷ cs) (i ∷ is) (j ∷ js) e h =
    let parts = head_same i j is js e in
    (info_back m most c j (subst (IsElaborated m most c) parts.0 (info_elaborated m most c i h.0)), still_elaborated m most cs is js parts.1 h.1)

pub still_lawful : (is js : List CellInfo) → map without_support is ≡ map without_support js → HaveLawfulTrees is → HaveLawfulTrees js
still_lawful [] [] e h = tt
still_lawful [] (j ∷ js) e h = absurd cc
still_lawful (i ∷ is) [] e h = absurd cc
still_lawful (i ∷ is) (j ∷ js) e h =
    let parts = head_same i j is js e in
    (subst (λ (x : CellInfo). HasLawfulTypes x.core) parts.0 h.0, still_lawful is js parts.1 h.1)

pub rising_reads : (m : Names) (most : ℕ) (cs : List Cell) (is : List CellInfo) → AreElaborated m most cs is → HaveRisingReads is
rising_reads m most [] [] h k i e = absurd cc
rising_reads m most [] (x ∷ is) h k i e = absurd h
rising_reads m most (c ∷ cs) [] h k i e = absurd h
rising_reads m most (c ∷ cs) (x ∷ is) h zero i e = let own : x ≡ i = cc in subst (λ (y : CellInfo). AreSourcesRising y.reads) own h.0.once
rising_reads m most (c ∷ cs) (x ∷ is) h (suc k) i e = rising_reads m most cs is h.1 k i e
