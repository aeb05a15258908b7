-- Answers with the path from one step further outside.
use Rattle.std.proofs.Common.{ℕ, List, Result, Ok, Err, refl}
use Rattle.json_kit.specs.declared.misfit.NotAWorld.{NotAWorld}
use Rattle.json_kit.specs.declared.misfit.NotAWorld.TheVariants.{At, NoMemory}
use Rattle.json_kit.specs.Fit.{Fit, Gives, Fails, IsBelow, IsInside, below}

below_gives : {A : Type 0} (step : List ℕ) (inner outer : NotAWorld) (fit : Fit A) → IsBelow step inner outer → Fails inner fit → Fails outer (below step fit)
below_gives step inner NoMemory fit is h = tt
below_gives step (At path) (At outer) fit is h = rw (h, is) refl
below_gives step NoMemory (At outer) fit is h = elim is [ ]

pub inside_gives : {A : Type 0} (step : List ℕ) (r seen : Result A NotAWorld) (fit : Fit A) → IsInside step r seen → Gives r fit → Gives seen (below step fit)
inside_gives step (Ok x) (Ok y) fit is h = rw (h, is) refl
inside_gives step (Ok x) (Err fault) fit is h = elim is [ ]
inside_gives step (Err inner) (Ok y) fit is h = elim is [ ]
inside_gives step (Err inner) (Err outer) fit is h = below_gives step inner outer fit is h
