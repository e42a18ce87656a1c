-- Caches on another day.
use Rattle.std.proofs.Common.{◌≡◌, ℕ, ◌/◌, List, Option, refl, ◌∙◌, subst}
use Rattle.app_cells.specs.declared.app.App.{App}
use Rattle.app_loader.specs.app_semantics.Sound.{IsSoundApp}
use Rattle.recalc.specs.Kept.{CacheState}
use Rattle.numbered_requests.specs.declared.directory.Named.{Named}
use Rattle.row_keeper.specs.Tables.{Tables}
use Rattle.session_state.specs.Sessions.{SessionState}
use Rattle.office.specs.Caches.{EachCacheBecame, AreKept, IsCacheOf, IsTurned}
use Rattle.office.proofs.Caching.{kept_at, kept_by, kept_each, kept_long}
use Rattle.office.proofs.Places.{one_at}
use Rattle.office.proofs.Touching.{day_cached, turned_cached}

-- all were told of another day
pub kept_turned : (a : App) (x : Option Tables) (m n : ℕ) (ss : List (Named SessionState)) (cs ds : List (Named CacheState)) → IsSoundApp a → AreKept a x m ss cs → EachCacheBecame (λ k. IsTurned n) cs ds → AreKept a x n ss ds
kept_turned a x m n ss cs ds sound h each =
    kept_each a a x x m n (λ k. IsTurned n) ss ss cs ds h each refl
    (λ k s r c d at there is named turned.
    let same = one_at ss k s r at there in
    subst (λ (z : Named SessionState). IsCacheOf a x n z d) same (record { name = named ∙ is.name; cached = turned_cached a s.it x m n c.it d.it sound turned is.cached }))

-- it is the same day
pub kept_today : (a : App) (x : Option Tables) (m n : ℕ) (ss : List (Named SessionState)) (cs : List (Named CacheState)) → IsSoundApp a → m / 86400 ≡ n / 86400 → AreKept a x m ss cs → AreKept a x n ss cs
kept_today a x m n ss cs sound e h =
    kept_by a x n ss cs (kept_long a x m ss cs h) (λ k s c at there. let is = kept_at a x m ss cs k s c h at there in record { name = is.name; cached = day_cached a s.it x m n c.it sound e is.cached })
