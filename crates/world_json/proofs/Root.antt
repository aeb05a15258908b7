-- A path without its first dot, as std strips it.
use Rattle.std.proofs.Common.{◌≡◌, ◌≢◌, ℕ, ◌==◌, Bool, true, false, cond, List, [], ◌∷◌, refl, ap}
use Rattle.std.proofs.lemmas.Bool.{eqb-true}
use Rattle.world_json.specs.Input.{without_dot}

pub dot_stripped : (path rest : List ℕ) → path ≡ 46 ∷ rest → without_dot path ≡ rest
dot_stripped path rest e = rw e refl

kept : (c : ℕ) (path : List ℕ) (b : Bool) → (c == 46) ≡ b → ((rest : List ℕ) → c ∷ path ≢ 46 ∷ rest) → cond b path (c ∷ path) ≡ c ∷ path
kept c path true e none = absurd (none path (ap (λ (x : ℕ). x ∷ path) (eqb-true c 46 e)))
kept c path false e none = refl

pub no_dot : (path : List ℕ) → ((rest : List ℕ) → path ≢ 46 ∷ rest) → without_dot path ≡ path
no_dot [] none = refl
no_dot (c ∷ path) none = kept c path (c == 46) refl none
