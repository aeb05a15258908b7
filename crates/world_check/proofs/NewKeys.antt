-- A row is the first with its key where no row before has the key.
use Rattle.std.proofs.Common.{◌≡◌, ℕ, zero, suc, ◌+◌, ◌&&◌, ◌||◌, Bool, true, false, cond, eqb, not, take, Option, Some, None, Decides, List, [], ◌∷◌, refl, sym, ◌∙◌, ap, arith}
use Rattle.std.proofs.lemmas.Bool.Decides.{nat_tests}
use Rattle.std.proofs.lemmas.Iterator.Adapters.{position_from-zero}
use Rattle.std.specs.BTreeMap.{is_at}
use Rattle.std.specs.Bool.{one_answer}
use Rattle.std.specs.Cmp.{tied_then}
use Rattle.std.specs.List.{list_any, position, position_from, slice_get}
use Rattle.std.specs.Ordering.{is_eq, ordering_then}
use Rattle.types.specs.Orders.{args_cmp, args_eq, ty_cmp, ty_eq}
use Rattle.types.specs.Places.{place_at}
use Rattle.types.specs.SameType.{args_cmp_decides, args_decides, type_cmp_decides, type_decides}
use Rattle.types.specs.contracts.ids.AliasIdOrd.TheImpl as AliasIdOrd
use Rattle.types.specs.contracts.ids.AliasIdOrd.TheImpl.Laws as alias
use Rattle.types.specs.contracts.ids.ConstIdOrd.TheImpl as ConstIdOrd
use Rattle.types.specs.contracts.ids.ConstIdOrd.TheImpl.Laws as constant
use Rattle.types.specs.contracts.ids.FunctionIdOrd.TheImpl as FunctionIdOrd
use Rattle.types.specs.contracts.ids.FunctionIdOrd.TheImpl.Laws as function
use Rattle.types.specs.declared.ids.AliasId.{AliasId}
use Rattle.types.specs.declared.ids.ConstId.{ConstId}
use Rattle.types.specs.declared.ids.FunctionId.{FunctionId}
use Rattle.types.specs.declared.ty.GenericArgs.{GenericArgs}
use Rattle.types.specs.declared.ty.Ty.{Ty}
use Rattle.world.specs.declared.database.HirDatabase.{HirDatabase}
use Rattle.world.specs.declared.impls.ConstImplRow.{ConstImplRow}
use Rattle.world.specs.declared.impls.ImplRow.{ImplRow}
use Rattle.world.specs.declared.layout.Layout.{Layout}
use Rattle.world_check.specs.Meets as asked
use Rattle.world_check.specs.Meets.{none_before}

itself : (n : ℕ) → eqb n n ≡ true
itself n = grind (arith, nat_tests)

same_number : (m n : ℕ) → eqb m n ≡ true → m ≡ n
same_number m n e = grind (arith, nat_tests)

-- an optional index is `n`
abbrev is_number : Option ℕ → ℕ → Bool
is_number None n = false
is_number (Some m) n = eqb m n

-- an answer whether it is decides that
number_decided : (answer : Bool) (found : Option ℕ) (i : ℕ) → Decides answer (found ≡ Some i) → answer ≡ is_number found i
number_decided true found i d = sym (ap (λ o. is_number o i) (d.0 refl) ∙ itself i)
number_decided false None i d = refl
number_decided false (Some m) i d = by (eqb m i) refl
  where
    by : (b : Bool) → eqb m i ≡ b → false ≡ b
    by false e = refl
    by true e = d.1 (ap Some (same_number m i e))

number_from : {X : Type 0} (test : X → Bool) (j i : ℕ) (xs : List X) (x : X) → slice_get xs i ≡ Some x → test x ≡ true → is_number (position_from test j xs) (j + i) ≡ not (list_any test (take i xs))
number_from test j i [] x at same = cc
number_from test j zero (y ∷ ys) x at same =
    let here : y ≡ x = cc in
    ap (λ b. is_number (cond b (Some j) (position_from test (j + 1) ys)) (j + zero)) (ap test here ∙ same) ∙ equal
  where
    equal : eqb j (j + zero) ≡ true
    equal = grind (arith, nat_tests)
number_from {X} test j (suc k) (y ∷ ys) x at same = by (test y) (number_from test (j + 1) k ys x at same)
  where
    differ : eqb j (j + suc k) ≡ false
    differ = grind (arith, nat_tests)

    by : (b : Bool) → is_number (position_from test (j + 1) ys) (j + 1 + k) ≡ not (list_any test (take k ys)) → is_number (cond b (Some j) (position_from test (j + 1) ys)) (j + suc k) ≡ not (b || list_any test (take k ys))
    by true later = differ
    by false later =
        let step : j + suc k ≡ j + 1 + k = omega arith in
        ap (is_number (position_from test (j + 1) ys)) step ∙ later

number_new : {X : Type 0} (test : X → Bool) (i : ℕ) (xs : List X) (x : X) → slice_get xs i ≡ Some x → test x ≡ true → is_number (position test xs) i ≡ none_before test xs i
number_new test i xs x at same =
    let start : i ≡ 0 + i = omega arith in
    ap (λ found. is_number found i) (position_from-zero test xs)
    ∙ ap (is_number (position_from test 0 xs)) start
    ∙ number_from test 0 i xs x at same

any_same : {X : Type 0} (p q : X → Bool) → ((x : X) → p x ≡ q x) → (xs : List X) → list_any p xs ≡ list_any q xs
any_same p q same [] = refl
any_same p q same (x ∷ xs) = ap (λ b. b || list_any p xs) (same x) ∙ ap (λ b. q x || b) (any_same p q same xs)

first_is_new : {X : Type 0} (test same : X → Bool) (i : ℕ) (xs : List X) (x : X) → slice_get xs i ≡ Some x → ((y : X) → test y ≡ same y) → same x ≡ true → is_number (position test xs) i ≡ none_before same xs i
first_is_new test same i xs x at agree itself = number_new test i xs x at (agree x ∙ itself) ∙ ap not (any_same test same agree (take i xs))

same_types : (a b : Ty) → is_eq (ty_cmp a b) ≡ ty_eq a b
same_types a b = one_answer _ _ (type_cmp_decides a b) (type_decides a b)

same_args : (a b : GenericArgs) → is_eq (args_cmp a b) ≡ args_eq a b
same_args a b = one_answer _ _ (args_cmp_decides a b) (args_decides a b)

same_aliases : (a b : AliasId) → is_eq (AliasIdOrd.ghosts.cmp a b) ≡ eqb a.0 b.0
same_aliases a b = sym (alias.matches_eq-law a b)

same_functions : (a b : FunctionId) → is_eq (FunctionIdOrd.ghosts.cmp a b) ≡ eqb a.0 b.0
same_functions a b = sym (function.matches_eq-law a b)

same_consts : (a b : ConstId) → is_eq (ConstIdOrd.ghosts.cmp a b) ≡ eqb a.0 b.0
same_consts a b = sym (constant.matches_eq-law a b)

-- two orders one after the other say equal where both do
both_same : (a b : Bool) (x : Bool) (y : Bool) → x ≡ a → y ≡ b → (x && y) ≡ (a && b)
both_same a b x y e f = ap (λ c. c && y) e ∙ ap (λ c. a && c) f

both_true : (a b : Bool) → a ≡ true → b ≡ true → (a && b) ≡ true
both_true a b e f = ap (λ c. c && b) e ∙ f

args_itself : (args : GenericArgs) → args_eq args args ≡ true
args_itself args = (args_decides args args).1 refl

pub new_type : (world : HirDatabase) (i : ℕ) (row : Ty × Layout) → (answer : Bool) (found : Option ℕ) → Decides answer (found ≡ Some i) → found ≡ place_at {R = Ty × Layout} (λ other. other.0) (ty_cmp row.0) world.layouts → slice_get world.layouts i ≡ Some row → answer ≡ asked.has_new_type world i row
new_type world i row answer found decides is at =
    number_decided answer found i decides
    ∙ ap (λ o. is_number o i) is
    ∙ first_is_new (λ (other : Ty × Layout). is_at (ty_cmp row.0) other.0) (λ (other : Ty × Layout). ty_eq row.0 other.0) i world.layouts row at
    (λ other. same_types row.0 other.0) ((type_decides row.0 row.0).1 refl)

pub new_alias : (world : HirDatabase) (i : ℕ) (row : AliasId × GenericArgs × Ty) → (answer : Bool) (found : Option ℕ) → Decides answer (found ≡ Some i) → found ≡ place_at {K = AliasId × GenericArgs} (λ other. (other.0, other.1)) (λ key. ordering_then (AliasIdOrd.ghosts.cmp row.0 key.0) (args_cmp row.1 key.1)) world.normals → slice_get world.normals i ≡ Some row → answer ≡ asked.has_new_alias world i row
new_alias world i row answer found decides is at =
    number_decided answer found i decides
    ∙ ap (λ o. is_number o i) is
    ∙ first_is_new
    (λ (other : AliasId × GenericArgs × Ty). is_at (λ (key : AliasId × GenericArgs). ordering_then (AliasIdOrd.ghosts.cmp row.0 key.0) (args_cmp row.1 key.1)) (other.0, other.1))
    (λ (other : AliasId × GenericArgs × Ty). eqb row.0.0 other.0.0 && args_eq row.1 other.1)
    i world.normals row at
    (λ other. sym (tied_then (AliasIdOrd.ghosts.cmp row.0 other.0) (args_cmp row.1 other.1)) ∙ both_same _ _ _ _ (same_aliases row.0 other.0) (same_args row.1 other.1))
    (both_true _ _ (itself row.0.0) (args_itself row.1))

pub new_function : (world : HirDatabase) (i : ℕ) (row : ImplRow) → (answer : Bool) (found : Option ℕ) → Decides answer (found ≡ Some i) → found ≡ place_at {K = FunctionId × GenericArgs} (λ other. (other.function, other.args)) (λ key. ordering_then (FunctionIdOrd.ghosts.cmp row.function key.0) (args_cmp row.args key.1)) world.impls → slice_get world.impls i ≡ Some row → answer ≡ asked.has_new_function world i row
new_function world i row answer found decides is at =
    number_decided answer found i decides
    ∙ ap (λ o. is_number o i) is
    ∙ first_is_new
    (λ (other : ImplRow). is_at (λ (key : FunctionId × GenericArgs). ordering_then (FunctionIdOrd.ghosts.cmp row.function key.0) (args_cmp row.args key.1)) (other.function, other.args))
    (λ (other : ImplRow). eqb row.function.0 other.function.0 && args_eq row.args other.args)
    i world.impls row at
    (λ other. sym (tied_then (FunctionIdOrd.ghosts.cmp row.function other.function) (args_cmp row.args other.args)) ∙ both_same _ _ _ _ (same_functions row.function other.function) (same_args row.args other.args))
    (both_true _ _ (itself row.function.0) (args_itself row.args))

pub new_const : (world : HirDatabase) (i : ℕ) (row : ConstImplRow) → (answer : Bool) (found : Option ℕ) → Decides answer (found ≡ Some i) → found ≡ place_at {K = ConstId × GenericArgs} (λ other. (other.konst, other.args)) (λ key. ordering_then (ConstIdOrd.ghosts.cmp row.konst key.0) (args_cmp row.args key.1)) world.const_impls → slice_get world.const_impls i ≡ Some row → answer ≡ asked.has_new_const world i row
new_const world i row answer found decides is at =
    number_decided answer found i decides
    ∙ ap (λ o. is_number o i) is
    ∙ first_is_new
    (λ (other : ConstImplRow). is_at (λ (key : ConstId × GenericArgs). ordering_then (ConstIdOrd.ghosts.cmp row.konst key.0) (args_cmp row.args key.1)) (other.konst, other.args))
    (λ (other : ConstImplRow). eqb row.konst.0 other.konst.0 && args_eq row.args other.args)
    i world.const_impls row at
    (λ other. sym (tied_then (ConstIdOrd.ghosts.cmp row.konst other.konst) (args_cmp row.args other.args)) ∙ both_same _ _ _ _ (same_consts row.konst other.konst) (same_args row.args other.args))
    (both_true _ _ (itself row.konst.0) (args_itself row.args))
