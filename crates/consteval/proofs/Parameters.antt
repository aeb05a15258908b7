-- A body whose parameters are the plain names of bindings with types isn't refused for them.
use Rattle.std.proofs.Common.{◌≡◌, ℕ, zero, suc, ⊎_elim, List, [], ◌∷◌, ◌++◌, Option, Some, None, refl, arith, subst}
use Rattle.std.specs.Prelude.{Contains, flat_map, option_and_then, option_map}
use Rattle.std.proofs.lemmas.List.Elements.{Contains-append_left, Contains-append_right, Contains-append_cases}
use Rattle.types.specs.declared.ids.BindingId.{BindingId}
use Rattle.types.specs.declared.ids.PatId.{PatId}
use Rattle.types.specs.declared.ty.Ty.{Ty}
use Rattle.mir.specs.declared.errors.MirLowerError.{MirLowerError}
use Rattle.mir.specs.declared.errors.MirLowerError.TheVariants as refusal
use Rattle.mir_lower.specs.Refusals.{RefusesParameters}
use Rattle.source_meaning.specs.Calls.{names_bound, parameters, parameter_cells, self_bound}
use Rattle.source_meaning.specs.Source.{Source, Cell, Binding, binding_type, bound_by, pattern}
use Rattle.source_meaning.specs.Valid.{AreBound}

-- the one element of a list
pub only-element : {X : Type 0} (one other : X) → Contains (one ∷ []) other → one ≡ other
only-element one other (zero, less, is) = is
only-element one other (suc k, less, is) = absurd (omega arith)

-- no list without elements has one
pub nothing-within : {X : Type 0} (x : X) → Contains [] x → ⊥
nothing-within x within = let less = within.1 in omega arith

-- a binding's cell is its own
same-binding : (one other : ℕ) → ◌≡◌ {A = Cell} (Binding one) (Binding other) → one ≡ other
same-binding one other h = cc

-- the cell that a name binds is that of its binding
bound-self : (self : Option BindingId) (b : ℕ) → Contains (bound_by self) (Binding b) → Contains (self_bound self) b
bound-self (Some id) b within = (0, omega arith, same-binding id.0 b (only-element (Binding id.0) (Binding b) within))
bound-self None b within = absurd (nothing-within (Binding b) within)

-- with more names behind it
bound-before : (self : Option BindingId) (names : Option (List ℕ)) (cells : List Cell) (bound : List ℕ) (b : ℕ) → option_map (λ named. self_bound self ++ named) names ≡ Some bound →
    ((named : List ℕ) → names ≡ Some named → Contains cells (Binding b) → Contains named b) → Contains (bound_by self ++ cells) (Binding b) → Contains bound b
bound-before self (Some named) cells bound b is later within =
    let same : self_bound self ++ named ≡ bound = cc in
    subst (λ (all : List ℕ). Contains all b) same
    (⊎_elim (λ here. Contains-append_left (self_bound self) named b (bound-self self b here)) (λ there. Contains-append_right (self_bound self) named b (later named refl there))
    (Contains-append_cases (bound_by self) cells (Binding b) within))
bound-before self None cells bound b is later within = absurd cc

-- the same, where the first is a name
bound-first : (found : Option BindingId) (names : Option (List ℕ)) (cells : List Cell) (bound : List ℕ) (b : ℕ) → option_and_then (λ (id : BindingId). option_map (λ others. id.0 ∷ others) names) found ≡ Some bound →
    ((named : List ℕ) → names ≡ Some named → Contains cells (Binding b) → Contains named b) → Contains (bound_by found ++ cells) (Binding b) → Contains bound b
bound-first (Some id) names cells bound b is later within = bound-before (Some id) names cells bound b is later within
bound-first None names cells bound b is later within = absurd cc

-- the cells that patterns bind are those of their names
bound-by-patterns : (source : Source) (pats : List PatId) (named : List ℕ) (b : ℕ) → names_bound source pats ≡ Some named → Contains (flat_map (λ (pat : PatId). bound_by (pattern source pat.0)) pats) (Binding b) → Contains named b
unfolding names_bound
bound-by-patterns source [] named b is within = absurd (nothing-within (Binding b) within)
bound-by-patterns source (first ∷ rest) named b is within =
    bound-first (pattern source first.0) (names_bound source rest) (flat_map (λ (pat : PatId). bound_by (pattern source pat.0)) rest) named b is
    (λ others known there. bound-by-patterns source rest others b known there) within

-- so are those of a body's parameters
bound-by-parameters : (source : Source) (bound : List ℕ) (b : ℕ) → parameters source ≡ Some bound → Contains (parameter_cells source) (Binding b) → Contains bound b
unfolding parameters parameter_cells
bound-by-parameters source bound b is within =
    bound-before source.body.self_param (names_bound source source.body.params) (flat_map (λ (pat : PatId). bound_by (pattern source pat.0)) source.body.params) bound b is
    (λ named known there. bound-by-patterns source source.body.params named b known there) within

-- bindings that have types, one each
bound-has-type : (source : Source) (bound : List ℕ) (types : List Ty) (b : ℕ) → AreBound source bound types → Contains bound b → (ty : Ty) × (binding_type source b ≡ Some ty)
bound-has-type source [] types b have within = absurd (nothing-within b within)
bound-has-type source (first ∷ rest) [] b have within = absurd have
bound-has-type source (first ∷ rest) (ty ∷ others) b have within =
    ⊎_elim (λ here. (ty, subst (λ (x : ℕ). binding_type source x ≡ Some ty) (only-element first b here) have.0)) (λ there. bound-has-type source rest others b have.1 there)
    (Contains-append_cases (first ∷ []) rest b within)

-- parameters that are plain names of bindings with types are refused for want of memory alone
pub refuses-no-parameters : (source : Source) (bound : List ℕ) (types : List Ty) (e : MirLowerError) → parameters source ≡ Some bound → AreBound source bound types → RefusesParameters source e → e ≡ refusal.NoMemory
refuses-no-parameters source bound types (refusal.NotSupported text) binds have refuses = absurd (let none = refuses.1 in cc)
refuses-no-parameters source bound types refusal.InaccessibleLocal binds have refuses =
    let typed = bound-has-type source bound types refuses.0.0 have (bound-by-parameters source bound refuses.0.0 binds refuses.1) in
    absurd (let is = typed.1 in let none = refuses.2 in cc)
refuses-no-parameters source bound types refusal.NoMemory binds have refuses = refl
refuses-no-parameters source bound types _ binds have refuses = absurd refuses
