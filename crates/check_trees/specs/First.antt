-- What stands in a list, the first element that is not as asked, and what is made of the indices of a list.
use Rattle.std.specs.Prelude.{◌≡◌, ℕ, ◌+◌, ◌<◌, List, [], ◌∷◌, Option, Some, None, slice_get}

-- an element stands in a list
abbrev pub Has : {X : Type 0} → List X → X → Type 0
Has xs x = (k : ℕ) × (slice_get xs k ≡ Some x)

-- the first index whose element is not as asked, where what is asked may depend on the index; none if all are
abbrev pub FindsFirst : {X : Type 0} → (ℕ → X → Type 0) → List X → Option ℕ → Type 0
FindsFirst {X} Asked xs None = (k : ℕ) (x : X) → slice_get xs k ≡ Some x → Asked k x
FindsFirst {X} Asked xs (Some i) = (x : X) × (slice_get xs i ≡ Some x) × (Asked i x → ⊥) × ((k : ℕ) (y : X) → k < i → slice_get xs k ≡ Some y → Asked k y)

-- an element is the first of a list that lacks a property
pub record FailsFirst {X : Type 0} (property : X → Type 0) (list : List X) (first : X) : Type 0 where
  pub index : ℕ
  pub at : slice_get list index ≡ Some first
  pub fails : property first → ⊥
  pub before : (j : ℕ) (other : X) → j < index → slice_get list j ≡ Some other → property other

-- what a search in a list finds: the first element that lacks a property, or nothing, where each has it
abbrev pub FindsFailing : {X : Type 0} → (X → Type 0) → List X → Option X → Type 0
FindsFailing {X} property list None = (i : ℕ) (x : X) → slice_get list i ≡ Some x → property x
FindsFailing {X} property list (Some first) = FailsFirst property list first

-- `at i`, `at (i + 1)` and so on, one for each element of a list
abbrev pub numbered : {X Y : Type 0} → (ℕ → Y) → ℕ → List X → List Y
numbered at i [] = []
numbered at i (x ∷ xs) = at i ∷ numbered at (i + 1) xs
