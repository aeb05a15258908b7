-- When the cost of a body is defined.
use Rattle.std.specs.Prelude.{flat_map, Contains}
use Rattle.std.specs.List.{list_all}
use Rattle.std.proofs.Common.{⊎_elim, ◌≡◌, ℕ, zero, suc, ◌<◌, Bool, true, false, ◌&&◌, List, [], ◌∷◌, length, Option, Some, None, slice_get, is_some, ◌≤◌, if◌then◌else◌, option_and_then, refl, sym, ap, ◌∙◌, subst, arith, eq-or-lt_of_le}
use Rattle.std.proofs.lemmas.Bool.{false≢true}
use Rattle.std.proofs.lemmas.List.Elements.{Contains-append_right, Contains-append_cases}
use Rattle.types.specs.declared.ty.Ty.{Ty}
use Rattle.world.specs.declared.layout.Layout.{Layout}
use Rattle.world.specs.declared.body.Binding.{Binding as BindingRow}
use Rattle.world.specs.Checked.{IsCheckedBody}
use Rattle.world.specs.Lookups.{layout_of}
use Rattle.source_meaning.specs.Entering.{below, is_sized_layout, is_sized_type, is_sized_node, is_sized_or_none, evaluated_in, evaluated, is_cost_defined}
use Rattle.source_meaning.specs.Laws.{CostIsDefined}
use Rattle.source_meaning.specs.Source.{Source, node, own_type, node_type, binding_type, root}
use Rattle.source_meaning.specs.Steps.{parts_of}
use Rattle.source_meaning.specs.Valid.{Evaluates, itself, part, HasSizedLayout, IsSizedNode, HasDefinedCost}
use Rattle.source_meaning.proofs.Core.{part_is_below}
use Rattle.source_meaning.proofs.Parts.{among, first_is_contained, rest_is_contained, nothing_is_contained}

-- a conjunction of tests, and its parts
pub both : (one other : Bool) → one && other ≡ true → (one ≡ true) × (other ≡ true)
both true other is = (refl, is)
both false other is = absurd (false≢true is)

pub both_hold : (one other : Bool) → one ≡ true → other ≡ true → one && other ≡ true
both_hold true other is is' = is'
both_hold false other is is' = is

-- a type has a layout with a size
sized-from : (found : Option Layout) → is_sized_layout found ≡ true → (layout : Layout) × (found ≡ Some layout) × (layout.sized ≡ true)
sized-from (Some layout) is = (layout, refl, is)
sized-from None is = absurd (false≢true is)

type_is_sized : (source : Source) (ty : Option Ty) → is_sized_type source ty ≡ true → HasSizedLayout source ty
type_is_sized source ty is =
    let from = sized-from (option_and_then (layout_of source.world) ty) is in
    record { layout = from.0; found = from.1; sized = from.2 }

sized_type_is : (source : Source) (ty : Option Ty) → HasSizedLayout source ty → is_sized_type source ty ≡ true
sized_type_is source ty sized = ap is_sized_layout sized.found ∙ sized.sized

node_is_sized : (source : Source) (e : ℕ) → is_sized_node source e ≡ true → IsSizedNode source e
node_is_sized source e is =
    let holds = both (is_sized_type source (own_type source e)) (is_sized_type source (node_type source e)) is in
    record { of_itself = type_is_sized source (own_type source e) holds.0; of_value = type_is_sized source (node_type source e) holds.1 }

sized_node_is : (source : Source) (e : ℕ) → IsSizedNode source e → is_sized_node source e ≡ true
sized_node_is source e sized =
    both_hold (is_sized_type source (own_type source e)) (is_sized_type source (node_type source e)) (sized_type_is source (own_type source e) sized.of_itself) (sized_type_is source (node_type source e) sized.of_value)

-- the one element of a list
pub only_one : {X : Type 0} (y z : X) → Contains (y ∷ []) z → y ≡ z
only_one y z (zero, less, is) = is
only_one y z (suc k, less, is) = absurd (omega arith)

-- a test of all elements of a list
pub all_of : {X : Type 0} (test : X → Bool) (xs : List X) (x : X) → list_all test xs ≡ true → Contains xs x → test x ≡ true
all_of test [] x is within = absurd (let less = within.1 in omega arith)
all_of test (first ∷ rest) x is within =
    let holds = both (test first) (list_all test rest) is in
    ⊎_elim (λ here. subst (λ y. test y ≡ true) (only_one first x here) holds.0) (λ there. all_of test rest x holds.1 there) (Contains-append_cases (first ∷ []) rest x within)

pub all_from : {X : Type 0} (test : X → Bool) (xs : List X) → ((x : X) → Contains xs x → test x ≡ true) → list_all test xs ≡ true
all_from test [] each = refl
all_from test (first ∷ rest) each =
    both_hold (test first) (list_all test rest) (each first (0, omega arith, refl))
    (all_from test rest (λ x within. each x (Contains-append_right (first ∷ []) rest x within)))

-- an element of a list that was made from others was made from one of them
pub made_from : (f : ℕ → List ℕ) (xs : List ℕ) (y : ℕ) → Contains (flat_map f xs) y → (x : ℕ) × Contains xs x × Contains (f x) y
made_from f [] y within = absurd (nothing_is_contained y within)
made_from f (first ∷ rest) y within =
    ⊎_elim (λ here. (first, first_is_contained first rest, here))
    (λ there. let later = made_from f rest y there in (later.0, rest_is_contained first rest later.0 later.1, later.2))
    (Contains-append_cases (f first) (flat_map f rest) y within)

-- what the list of evaluated expressions holds
listed_is_evaluated : (source : Source) (depth e f : ℕ) → Contains (evaluated_in depth source e) f → Evaluates source e f
unfolding evaluated_in
listed_is_evaluated source zero e f within = absurd (nothing_is_contained f within)
listed_is_evaluated source (suc depth) e f within =
    ⊎_elim (λ here. subst (Evaluates source e) (only_one e f here) itself)
    (λ there. let from = made_from (evaluated_in depth source) (parts_of (node source e)) f there in part from.1 (listed_is_evaluated source depth from.0 f from.2))
    (Contains-append_cases (e ∷ []) (flat_map (evaluated_in depth source) (parts_of (node source e))) f within)

evaluated_is_listed : (source : Source) → IsCheckedBody source.body source.infer → (depth : ℕ) {e f : ℕ} → e < depth → Evaluates source e f → Contains (evaluated_in depth source e) f
unfolding evaluated_in
evaluated_is_listed source checked zero less evaluates = absurd (omega arith)
evaluated_is_listed source checked (suc depth) less (itself {e = e}) = first_is_contained e (flat_map (evaluated_in depth source) (parts_of (node source e)))
evaluated_is_listed source checked (suc depth) less (part {e = e} {child = child} {f = f} within rest) =
    let earlier = part_is_below source checked e child within in
    rest_is_contained e (flat_map (evaluated_in depth source) (parts_of (node source e))) f
    (among (evaluated_in depth source) (parts_of (node source e)) child f within (evaluated_is_listed source checked depth (omega arith) rest))

-- the numbers below a bound
pub is_below : (n b : ℕ) → b < n → Contains (below n) b
unfolding below
is_below zero b less = absurd (omega arith)
is_below (suc n) b less =
    let at_most : b ≤ n = omega arith in
    ⊎_elim (λ same. (0, omega arith, sym same)) (λ lower. rest_is_contained n (below n) b (is_below n b lower)) (eq-or-lt_of_le at_most)

-- a binding with a type is one of the body's
pub typed_is_there : (source : Source) (b : ℕ) (ty : Ty) → binding_type source b ≡ Some ty → b < length source.body.bindings
unfolding binding_type
typed_is_there source b ty is = found-below source.body.bindings b ty is
  where
    found-below : (given : List BindingRow) (i : ℕ) (t : Ty) → option_and_then (λ binding. if is_some binding.owner then None else slice_get source.infer.binding_types b) (slice_get given i) ≡ Some t → i < length given
    found-below [] i t is = absurd cc
    found-below (first ∷ rest) zero t is = omega arith
    found-below (first ∷ rest) (suc i) t is = let later = found-below rest i t is in omega arith

binding_is_sized : (source : Source) (b : ℕ) (ty : Ty) → binding_type source b ≡ Some ty → is_sized_or_none source (binding_type source b) ≡ true → HasSizedLayout source (Some ty)
binding_is_sized source b ty is sized = type_is_sized source (Some ty) (subst (λ t. is_sized_or_none source t ≡ true) is sized)

sized_binding_is : (source : Source) (ty : Option Ty) → ((t : Ty) → ty ≡ Some t → HasSizedLayout source (Some t)) → is_sized_or_none source ty ≡ true
sized_binding_is source (Some ty) sized = sized_type_is source (Some ty) (sized ty refl)
sized_binding_is source None sized = refl

abbrev NodesSized : Source → Bool
NodesSized source = list_all (is_sized_node source) (evaluated_in (length source.body.exprs) source (root source))

abbrev BindingsSized : Source → Bool
BindingsSized source = list_all (λ b. is_sized_or_none source (binding_type source b)) (below (length source.body.bindings))

defined-from : (source : Source) → IsCheckedBody source.body source.infer → is_cost_defined source ≡ true → HasDefinedCost source
unfolding is_cost_defined evaluated
defined-from source checked is =
    let holds = both (NodesSized source) (BindingsSized source) is in
    record {
      nodes = λ e evaluates. node_is_sized source e (all_of (is_sized_node source) (evaluated_in (length source.body.exprs) source (root source)) e holds.0 (evaluated_is_listed source checked (length source.body.exprs) checked.root evaluates));
      bindings = λ b ty there. binding_is_sized source b ty there (all_of (λ b. is_sized_or_none source (binding_type source b)) (below (length source.body.bindings)) b holds.1 (is_below (length source.body.bindings) b (typed_is_there source b ty there)));
    }

defined-to : (source : Source) → HasDefinedCost source → is_cost_defined source ≡ true
unfolding is_cost_defined evaluated
defined-to source cost =
    both_hold (NodesSized source) (BindingsSized source)
    (all_from (is_sized_node source) (evaluated_in (length source.body.exprs) source (root source)) (λ e within. sized_node_is source e (cost.nodes e (listed_is_evaluated source (length source.body.exprs) (root source) e within))))
    (all_from (λ b. is_sized_or_none source (binding_type source b)) (below (length source.body.bindings)) (λ b within. sized_binding_is source (binding_type source b) (λ ty is. cost.bindings b ty is)))

pub cost_is_defined : CostIsDefined
cost_is_defined source checked = (defined-from source checked, defined-to source)
