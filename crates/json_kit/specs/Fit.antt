-- The value of a JSON tree, or the path of the first part in it that doesn't fit.
use Rattle.std.specs.Prelude.{◌≡◌, ℕ, List, [], ◌∷◌, ◌++◌, Option, Some, None, Result, Ok, Err, String, string_bytes, decimal}
use Rattle.std.specs.declared.alloc.AllocError.{AllocError}
use Rattle.std.specs.declared.alloc.Global.{Global}
use Rattle.json_kit.specs.declared.misfit.NotAWorld.{NotAWorld}
use Rattle.json_kit.specs.declared.misfit.NotAWorld.TheVariants.{At, NoMemory}

-- The value, or the path from the tree that was read to the part that doesn't fit, as the bytes of a
-- text: `.name` is the step to the value at a key, `[3]` the step to an item of an array, and the empty path is the tree.
abbrev pub Fit : Type 0 → Type 0
Fit A = Result A (List ℕ)

-- the tree itself doesn't fit
abbrev pub misfit : {A : Type 0} → Fit A
misfit = Err []

-- an optional value; the tree itself doesn't fit where there is none
abbrev pub found : {A : Type 0} → Option A → Fit A
found (Some x) = Ok x
found None = misfit

infixl 10 ◌>>=◌
abbrev pub ◌>>=◌ : {A B : Type 0} → Fit A → (A → Fit B) → Fit B
(Ok x) >>= f = f x
(Err path) >>= f = Err path

-- the step to the value at a key
abbrev pub key_step : List ℕ → List ℕ
key_step name = 46 ∷ name

-- the step to an item of an array, counted from 0
abbrev pub item_step : ℕ → List ℕ
item_step i = 91 ∷ (decimal i ++ 93 ∷ [])

-- the result for a part, with the path of an error from the tree around it
abbrev pub below : {A : Type 0} → List ℕ → Fit A → Fit A
below step (Ok x) = Ok x
below step (Err path) = Err (step ++ path)

-- an error is the one of this result; want of memory is possible with any result
abbrev pub Fails : {A : Type 0} → NotAWorld → Fit A → Type 0
Fails (At path) fit = fit ≡ Err path
Fails NoMemory fit = Unit {0}

-- an answer of the code is this result, or an error for want of memory
abbrev pub Gives : {A : Type 0} → Result A NotAWorld → Fit A → Type 0
Gives (Ok x) fit = fit ≡ Ok x
Gives (Err fault) fit = Fails fault fit

-- the same for an answer that is seen as a value of another type
abbrev pub GivesBy : {X A : Type 0} → (X → A) → Result X NotAWorld → Fit A → Type 0
GivesBy seen (Ok x) fit = fit ≡ Ok (seen x)
GivesBy seen (Err fault) fit = Fails fault fit

-- the second error is the first one with the path from one step further outside
abbrev pub IsBelow : List ℕ → NotAWorld → NotAWorld → Type 0
IsBelow step inner NoMemory = Unit {0}
IsBelow step (At path) (At outer) = outer ≡ step ++ path
IsBelow step NoMemory (At outer) = ⊥

-- the second answer is the first one with the path from one step further outside
abbrev pub IsInside : {A : Type 0} → List ℕ → Result A NotAWorld → Result A NotAWorld → Type 0
IsInside step (Ok x) (Ok y) = y ≡ x
IsInside step (Ok x) (Err fault) = ⊥
IsInside step (Err inner) (Ok y) = ⊥
IsInside step (Err inner) (Err outer) = IsBelow step inner outer

-- an error has the empty path
abbrev pub IsHere : NotAWorld → Type 0
IsHere (At path) = path ≡ []
IsHere NoMemory = Unit {0}

-- an error has this text as its path
abbrev pub IsAt : Result (String Global) AllocError → NotAWorld → Type 0
IsAt text NoMemory = Unit {0}
IsAt (Ok text) (At path) = path ≡ string_bytes text
IsAt (Err _) (At path) = ⊥
