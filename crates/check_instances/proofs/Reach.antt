-- What stands at a place of the generic arguments with the normalized types behind them.
use Rattle.std.proofs.Common.{◌≡◌, ℕ, ◌+◌, ◌-◌, ◌<◌, ◌≤◌, inl, inr, Some, List, [], ◌∷◌, ◌++◌, length, map, sym, ◌∙◌, ap, arith, length-append}
use Rattle.std.proofs.lemmas.Bool.{cases_lt}
use Rattle.std.proofs.lemmas.List.{get_or_append_left, get_or-append-add}
use Rattle.std.proofs.lemmas.Option.{slice_get-get_or, slice_get-map, slice_get_past}
use Rattle.std.specs.Prelude.{slice_get}
use Rattle.std.specs.Option.{option_map}
use Rattle.types.specs.declared.ids.AliasId.{AliasId}
use Rattle.types.specs.declared.ty.GenericArg.TheVariants as arg
use Rattle.types.specs.declared.ty.GenericArgs.{GenericArgs}
use Rattle.types.specs.declared.ty.Ty.{Ty}
use Rattle.check_instances.specs.Comparisons.{with_normals}
use Rattle.check_instances.specs.Instances.{Normals}

module _ {X : Type 0} where
  within : (xs ys : List X) (i : ℕ) → i < length xs → slice_get (xs ++ ys) i ≡ slice_get xs i
  within [] ys i below = absurd (omega arith)
  within (x ∷ xs) ys i below =
      slice_get-get_or (x ∷ xs ++ ys) i x (omega (arith, below, length-append (x ∷ xs) ys))
      ∙ ap Some (get_or_append_left (x ∷ xs) ys x i below)
      ∙ sym (slice_get-get_or (x ∷ xs) i x below)

  past_by : (xs ys : List X) (n : ℕ) → slice_get (xs ++ ys) (length xs + n) ≡ slice_get ys n
  past_by xs [] n = slice_get_past (xs ++ []) (length xs + n) (omega (arith, length-append xs [])) ∙ sym (slice_get_past [] n (omega arith))
  past_by xs (y ∷ ys) n = elim (cases_lt n (length (y ∷ ys))) [
    | inl below ↦ slice_get-get_or (xs ++ y ∷ ys) (length xs + n) y (omega (arith, below, length-append xs (y ∷ ys)))
        ∙ ap Some (get_or-append-add xs (y ∷ ys) n y)
        ∙ sym (slice_get-get_or (y ∷ ys) n y below)
    | inr past ↦ slice_get_past (xs ++ y ∷ ys) (length xs + n) (omega (arith, past, length-append xs (y ∷ ys))) ∙ sym (slice_get_past (y ∷ ys) n past)
  ]

  past : (xs ys : List X) (i : ℕ) → length xs ≤ i → slice_get (xs ++ ys) i ≡ slice_get ys (i - length xs)
  past xs ys i after =
      let same : i ≡ length xs + (i - length xs) = omega arith in
      ap (slice_get (xs ++ ys)) same ∙ past_by xs ys (i - length xs)

module _ (normals : Normals) (args : GenericArgs) where
  pub arg_within : (i : ℕ) → i < length args.0 → slice_get (with_normals normals args).0 i ≡ slice_get args.0 i
  arg_within i below = within args.0 (map (λ (row : AliasId × GenericArgs × Ty). arg.Ty row.2) normals) i below

  pub normal_past : (i : ℕ) → length args.0 ≤ i → slice_get (with_normals normals args).0 i ≡ option_map (λ (row : AliasId × GenericArgs × Ty). arg.Ty row.2) (slice_get normals (i - length args.0))
  normal_past i after =
      past args.0 (map (λ (row : AliasId × GenericArgs × Ty). arg.Ty row.2) normals) i after
      ∙ slice_get-map (λ (row : AliasId × GenericArgs × Ty). arg.Ty row.2) normals (i - length args.0)
