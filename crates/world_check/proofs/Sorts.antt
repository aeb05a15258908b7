-- The loop that compares the kinds of generic parameters and arguments.
use Rattle.std.proofs.Common.{◌≡◌, ◌≢◌, ℕ, suc, ◌&&◌, ◌+◌, ◌<◌, ◌≤◌, Bool, true, false, List, [], ◌∷◌, length, get_or, drop, refl, sym, ◌∙◌, ap, add-one, drop-cons}
use Rattle.std.proofs.lemmas.List.{drop_all}
use Rattle.types.specs.declared.ids.GenericParamId.{GenericParamId}
use Rattle.types.specs.declared.ty.GenericArg.{GenericArg}
use Rattle.world_check.specs.Valid.{are_of_sorts, is_of_sort}

-- different numbers of parameters and arguments
pub counts_differ : (params : List GenericParamId) (args : List GenericArg) → length params ≢ length args → false ≡ are_of_sorts params args
counts_differ [] [] differ = absurd (differ refl)
counts_differ [] (arg ∷ args) differ = refl
counts_differ (param ∷ params) [] differ = refl
counts_differ (param ∷ params) (arg ∷ args) differ =
    let rest : false ≡ are_of_sorts params args = counts_differ params args (λ same. differ (ap suc same)) in
    by (is_of_sort param arg) rest
  where
    by : (b : Bool) → false ≡ are_of_sorts params args → false ≡ (b && are_of_sorts params args)
    by true e = e
    by false e = refl

unfold_sorts : (params : List GenericParamId) (args : List GenericArg) (i : ℕ) (param d : GenericParamId) (arg e : GenericArg) → i < length params → i < length args → param ≡ get_or params i d → arg ≡ get_or args i e
    → are_of_sorts (drop i params) (drop i args) ≡ (is_of_sort param arg && are_of_sorts (drop (i + 1) params) (drop (i + 1) args))
unfold_sorts params args i param d arg e h k is_param is_arg =
    ap (λ ps. are_of_sorts ps (drop i args)) (drop-cons params i d h)
    ∙ ap (λ rest. are_of_sorts (get_or params i d ∷ drop (suc i) params) rest) (drop-cons args i e k)
    ∙ ap (λ p. is_of_sort p (get_or args i e) && are_of_sorts (drop (suc i) params) (drop (suc i) args)) (sym is_param)
    ∙ ap (λ a. is_of_sort param a && are_of_sorts (drop (suc i) params) (drop (suc i) args)) (sym is_arg)
    ∙ ap (λ j. is_of_sort param arg && are_of_sorts (drop j params) (drop j args)) (sym (add-one i))

pub sorts_next : (params : List GenericParamId) (args : List GenericArg) (i : ℕ) (param d : GenericParamId) (arg e : GenericArg) (r : Bool) → i < length params → i < length args → param ≡ get_or params i d → arg ≡ get_or args i e
    → is_of_sort param arg ≡ true → are_of_sorts (drop i params) (drop i args) ≡ r → are_of_sorts (drop (i + 1) params) (drop (i + 1) args) ≡ r
sorts_next params args i param d arg e r h k is_param is_arg fits whole =
    ap (λ b. b && are_of_sorts (drop (i + 1) params) (drop (i + 1) args)) (sym fits) ∙ sym (unfold_sorts params args i param d arg e h k is_param is_arg) ∙ whole

pub sorts_stop : (params : List GenericParamId) (args : List GenericArg) (i : ℕ) (param d : GenericParamId) (arg e : GenericArg) (r : Bool) → i < length params → i < length args → param ≡ get_or params i d → arg ≡ get_or args i e
    → is_of_sort param arg ≡ false → are_of_sorts (drop i params) (drop i args) ≡ r → false ≡ r
sorts_stop params args i param d arg e r h k is_param is_arg differs whole =
    ap (λ b. b && are_of_sorts (drop (i + 1) params) (drop (i + 1) args)) (sym differs) ∙ sym (unfold_sorts params args i param d arg e h k is_param is_arg) ∙ whole

pub sorts_end : (params : List GenericParamId) (args : List GenericArg) (i : ℕ) (r : Bool) → length params ≤ i → length args ≤ i → are_of_sorts (drop i params) (drop i args) ≡ r → true ≡ r
sorts_end params args i r h k whole =
    sym (ap (λ ps. are_of_sorts ps (drop i args)) (drop_all i params h) ∙ ap (are_of_sorts []) (drop_all i args k)) ∙ whole
