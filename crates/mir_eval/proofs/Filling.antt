-- Arguments that are left to be copied, or missing.
use Rattle.std.proofs.Common.{◌≡◌, ℕ, zero, suc, ◌<◌, ◌≤◌, List, [], ◌∷◌, length, drop, Err, refl, ap, ◌∙◌, arith}
use Rattle.std.specs.Prelude.{codes}
use Rattle.std.proofs.lemmas.List.{drop_all}
use Rattle.mir.specs.declared.errors.MirEvalError as error
use Rattle.mir.specs.declared.ids.LocalId.{LocalId}
use Rattle.mir.specs.declared.operand.Operand.{Operand}
use Rattle.mir.specs.declared.address.Interval.{Interval}
use Rattle.mir.specs.Memory.{Memory}
use Rattle.mir.specs.Run.{Frame, filled}

-- the first of those that are left
cons-at : {A : Type 0} (xs : List A) (i : ℕ) → i < length xs → (x : A) × (rest : List A) × (drop i xs ≡ x ∷ rest)
cons-at [] i less = absurd (omega arith)
cons-at (x ∷ xs) zero less = (x, xs, refl)
cons-at (x ∷ xs) (suc i) less = cons-at xs i (omega arith)

module _ (caller : Frame) (cells : List Interval) (params : List LocalId) (args : List Operand) (i : ℕ) (memory : Memory) where
  -- parameters are left, and no argument
  pub too-few : i < length params → length args ≤ i → filled caller cells (drop i params) (drop i args) memory ≡ Err (error.InternalError (codes "too few arguments"))
  unfolding filled
  too-few less none =
      let param = cons-at params i less in
      ap (λ (ps : List LocalId). filled caller cells ps (drop i args) memory) param.2
      ∙ ap (λ (rest : List Operand). filled caller cells (param.0 ∷ param.1) rest memory) (drop_all i args none)

  -- arguments are left, and no parameter
  pub too-many : length params ≤ i → i < length args → filled caller cells (drop i params) (drop i args) memory ≡ Err (error.InternalError (codes "too many arguments"))
  unfolding filled
  too-many none less =
      let arg = cons-at args i less in
      ap (λ (ps : List LocalId). filled caller cells ps (drop i args) memory) (drop_all i params none)
      ∙ ap (λ (rest : List Operand). filled caller cells [] rest memory) arg.2
