-- Types without aliases have the instances of the types that they were made of.
use Rattle.std.proofs.Common.{◌≡◌, ℕ, ◌+◌, ◌-◌, ◌<◌, ◌≤◌, Bool, true, false, cond, Option, Some, None, List, [], ◌∷◌, ◌++◌, length, get_or, map, take, refl, sym, ◌∙◌, ap, arith}
use Rattle.std.proofs.lemmas.List.{map-append}
use Rattle.std.proofs.lemmas.Bool.{ltb-true}
use Rattle.std.proofs.lemmas.Option.{none-some, same_Some, slice_get-get_or, slice_get_within}
use Rattle.std.proofs.Math.Dec.{ltb}
use Rattle.std.specs.List.{position, position_or_len}
use Rattle.std.specs.BTreeMap.{is_at}
use Rattle.std.specs.Option.{is_some, option_and_then, option_map}
use Rattle.std.specs.Prelude.{slice_get, unwrap_or}
use Rattle.types.proofs.Places.{found_at, found_nowhere}
use Rattle.types.specs.Places.{place_at, row_at}
use Rattle.types.specs.declared.ids.AliasId.{AliasId}
use Rattle.types.specs.declared.ty.Const.TheVariants as constant
use Rattle.types.specs.declared.ty.GenericArg.{GenericArg}
use Rattle.types.specs.declared.ty.GenericArg.TheVariants as arg
use Rattle.types.specs.declared.ty.GenericArgs.{GenericArgs}
use Rattle.types.specs.declared.ty.ParamConst.{ParamConst}
use Rattle.types.specs.declared.ty.ParamTy.{ParamTy}
use Rattle.types.specs.declared.ty.Ty.TheVariants as type
use Rattle.check_instances.specs.Comparisons.{arg_at, args_at, const_at, ty_at, with_normals}
use Rattle.check_instances.specs.Instances.{Normals, all_there, arg_instance, args_instance, const_argument, const_instance, normal_type, ty_instance, type_argument, with_both}
use Rattle.check_instances.specs.Made.{AliasRow, alias_cmp, args_made}
use Rattle.check_instances.proofs.AllThere.{all_there-push, all_there_end, all_there_more}
use Rattle.check_instances.proofs.Layers as layers
use Rattle.check_instances.proofs.Reach.{arg_within, normal_past}

pub some_of : {A : Type 0} (o : Option A) → is_some o ≡ true → (x : A) × (o ≡ Some x)
some_of None h = let e : false ≡ true = h in cc
some_of (Some x) h = (x, refl)

pub some_map : {A B : Type 0} (f : A → B) (o : Option A) → is_some o ≡ true → is_some (option_map f o) ≡ true
some_map f None h = h
some_map f (Some x) h = refl

pub some_both : {A B C : Type 0} (f : A → B → C) (first : Option A) (second : Option B) → is_some first ≡ true → is_some second ≡ true → is_some (with_both f first second) ≡ true
some_both f None second h k = h
some_both f (Some x) None h k = k
some_both f (Some x) (Some y) h k = refl

pub ruleset there = (some_map, some_both)

below : (n m i : ℕ) (b : Bool) → b ≡ ltb n m → Some i ≡ cond b (Some n) None → i < m
below n m i true is h = let e : i ≡ n = same_Some i n h in omega (arith, e, ltb-true n m (sym is))
below n m i false is h = absurd (none-some i (sym h))

-- a place that is found is one of the list
position_below : {R : Type 0} (test : R → Bool) (rows : List R) (i : ℕ) → Some i ≡ position test rows → i < length rows
position_below test rows i h = below (position_or_len test rows) (length rows) i (ltb (position_or_len test rows) (length rows)) refl h

some_within : {X : Type 0} (xs : List X) (i : ℕ) → i < length xs → is_some (slice_get xs i) ≡ true
some_within [] i h = absurd (omega arith)
some_within (x ∷ xs) i h = ap is_some (slice_get-get_or (x ∷ xs) i x h)

-- a list is opened up to the index that a loop has reached
module _ {A B : Type 0} (at whole : A → Option B) where
  abbrev pub Opened : List A → ℕ → List A → Type 0
  Opened xs i made = (done : List B) × (all_there (map at made) ≡ Some done) × (all_there (map whole (take i xs)) ≡ Some done)

  pub opened_none : (xs made : List A) → made ≡ [] → Opened xs 0 made
  opened_none xs made none = ([], ap (λ l. all_there (map at l)) none, refl)

  pub opened_more : (xs : List A) (i : ℕ) (x d y : A) (made grown : List A) → i < length xs → x ≡ get_or xs i d → at y ≡ whole x → is_some (whole x) ≡ true → grown ≡ made ++ y ∷ [] → Opened xs i made → Opened xs (i + 1) grown
  opened_more xs i x d y made grown below is same there more so_far =
      let s = some_of (whole x) there in
      let mapped : map at (made ++ y ∷ []) ≡ map at made ++ at y ∷ [] = map-append at made (y ∷ []) in (
        so_far.0 ++ s.0 ∷ [],
        ap (λ l. all_there (map at l)) more
            ∙ ap all_there mapped
            ∙ ap (λ o. all_there (map at made ++ o ∷ [])) (same ∙ s.1)
            ∙ all_there-push (map at made) s.0
            ∙ ap (option_map (λ ys. ys ++ s.0 ∷ [])) so_far.1,
        all_there_more whole xs i x d s.0 so_far.0 below is s.1 so_far.2,
      )

  pub opened_all : (xs items made : List A) (i : ℕ) → items ≡ xs → length items ≤ i → Opened items i made → all_there (map at made) ≡ all_there (map whole xs)
  opened_all xs items made i same past so_far = so_far.1 ∙ sym (all_there_end whole items i so_far.0 past so_far.2) ∙ ap (λ l. all_there (map whole l)) same

  pub there_all : (xs items made : List A) (i : ℕ) → items ≡ xs → length items ≤ i → Opened items i made → is_some (all_there (map whole xs)) ≡ true
  there_all xs items made i same past so_far = ap is_some (sym (ap (λ l. all_there (map whole l)) same) ∙ all_there_end whole items i so_far.0 past so_far.2)

-- a parameter has its argument also with the normalized types behind
module _ (normals : Normals) (args : GenericArgs) where
  type_there : (o : Option GenericArg) → is_some (type_argument o) ≡ true → (x : GenericArg) × (o ≡ Some x)
  type_there None h = let e : false ≡ true = h in cc
  type_there (Some x) h = (x, refl)

  const_there : (o : Option GenericArg) → is_some (const_argument o) ≡ true → (x : GenericArg) × (o ≡ Some x)
  const_there None h = let e : false ≡ true = h in cc
  const_there (Some x) h = (x, refl)

  pub param_stays : (param : ParamTy) → is_some (type_argument (slice_get args.0 param.index)) ≡ true → ty_at normals args (type.Param param) ≡ ty_instance normals args (type.Param param)
  param_stays param there =
      let s = type_there (slice_get args.0 param.index) there in
      layers.param_is [] (with_normals normals args) param
      ∙ ap type_argument (arg_within normals args param.index (slice_get_within args.0 param.index s.0 s.1))
      ∙ sym (layers.param_is normals args param)

  pub const_param_stays : (param : ParamConst) → is_some (const_argument (slice_get args.0 param.index)) ≡ true → const_at normals args (constant.Param param) ≡ const_instance normals args (constant.Param param)
  const_param_stays param there =
      let s = const_there (slice_get args.0 param.index) there in
      layers.const_param_is [] (with_normals normals args) param
      ∙ ap const_argument (arg_within normals args param.index (slice_get_within args.0 param.index s.0 s.1))
      ∙ sym (layers.const_param_is normals args param)

  pub args_opened : (made own : GenericArgs) → all_there (map (arg_at normals args) made.0) ≡ all_there (map (arg_instance normals args) own.0) → args_at normals args made ≡ args_instance normals args own
  args_opened made own same =
      layers.args_are [] (with_normals normals args) made
      ∙ ap (option_map (λ (list : List GenericArg). let found : GenericArgs = record { 0 = list } in found)) same
      ∙ sym (layers.args_are normals args own)

  pub args_there : (own : GenericArgs) → is_some (all_there (map (arg_instance normals args) own.0)) ≡ true → is_some (args_instance normals args own) ≡ true
  args_there own there = ap is_some (layers.args_are normals args own) ∙ some_map (λ (list : List GenericArg). let found : GenericArgs = record { 0 = list } in found) (all_there (map (arg_instance normals args) own.0)) there

  -- the row of an alias's key
  abbrev alias_row : AliasId → GenericArgs → Option AliasRow
  alias_row id own = row_at {K = AliasId × GenericArgs} (λ (row : AliasRow). (row.0, row.1)) (alias_cmp (id, own)) normals

  module _ (id : AliasId) (own opened : GenericArgs) (same : args_at normals args opened ≡ args_instance normals args own) (there : is_some (args_instance normals args own) ≡ true) where
    -- the instance of the alias's own arguments
    made_is : args_instance normals args own ≡ Some (args_made normals args opened)
    made_is =
        let s = some_of (args_instance normals args own) there in
        s.1 ∙ ap Some (sym (ap (λ o. unwrap_or o (record { 0 = [] })) (same ∙ s.1)))

    normal_is : option_and_then (normal_type normals id) (args_instance normals args own) ≡ option_map (λ (row : AliasRow). row.2) (alias_row id (args_made normals args opened))
    normal_is = ap (option_and_then (normal_type normals id)) made_is

    pub alias_missing : None ≡ place_at {R = AliasRow} (λ row. (row.0, row.1)) (alias_cmp (id, args_made normals args opened)) normals → option_and_then (normal_type normals id) (args_instance normals args own) ≡ None
    alias_missing nowhere =
        normal_is ∙ ap (option_map (λ (row : AliasRow). row.2)) (sym (found_nowhere (λ (row : AliasRow). (row.0, row.1)) (alias_cmp (id, args_made normals args opened)) normals nowhere))

    module _ (place : ℕ) (at_place : Some place ≡ place_at {R = AliasRow} (λ row. (row.0, row.1)) (alias_cmp (id, args_made normals args opened)) normals) where
      stands : slice_get normals place ≡ alias_row id (args_made normals args opened)
      stands = found_at (λ (row : AliasRow). (row.0, row.1)) (alias_cmp (id, args_made normals args opened)) normals place at_place

      pub alias_there : is_some (option_and_then (normal_type normals id) (args_instance normals args own)) ≡ true
      alias_there =
          ap is_some (normal_is ∙ ap (option_map (λ (row : AliasRow). row.2)) (sym stands))
          ∙ some_map (λ (row : AliasRow). row.2) (slice_get normals place) (some_within normals place (position_below (λ (row : AliasRow). is_at (alias_cmp (id, args_made normals args opened)) (row.0, row.1)) normals place at_place))

      pub alias_same : (param : ParamTy) → param.index ≡ length args.0 + place → ty_at normals args (type.Param param) ≡ option_and_then (normal_type normals id) (args_instance normals args own)
      alias_same param number =
          let past : length args.0 ≤ param.index = omega (arith, number) in
          let back : param.index - length args.0 ≡ place = omega (arith, number) in
          layers.param_is [] (with_normals normals args) param
          ∙ ap type_argument (normal_past normals args param.index past ∙ ap (λ n. option_map (λ (row : AliasRow). arg.Ty row.2) (slice_get normals n)) back)
          ∙ of_row (slice_get normals place)
          ∙ ap (option_map (λ (row : AliasRow). row.2)) stands
          ∙ sym normal_is
        where
          of_row : (o : Option AliasRow) → type_argument (option_map (λ (row : AliasRow). arg.Ty row.2) o) ≡ option_map (λ (row : AliasRow). row.2) o
          of_row None = refl
          of_row (Some row) = refl
