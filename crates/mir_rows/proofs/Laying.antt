-- The sizes of the cells of locals, one after another.
use Rattle.std.proofs.Common.{◌≡◌, ℕ, suc, drop, drop-cons, get_or, ◌+◌, ◌<◌, ◌≤◌, List, [], ◌∷◌, ◌++◌, length, Result, Ok, Err, refl, sym, ap, ◌∙◌, arith, append-nil, append_assoc}
use Rattle.std.proofs.lemmas.List.{drop_all}
use Rattle.world.specs.declared.database.HirDatabase.{HirDatabase}
use Rattle.world.specs.Lookups.{layout_of}
use Rattle.mir.specs.declared.address.CellSize.{CellSize}
use Rattle.mir.specs.declared.body.Local.{Local}
use Rattle.mir.specs.declared.errors.MirEvalError.{MirEvalError}
use Rattle.mir.specs.Memory.{cell_size_of, size_before, sizes_of}

-- sizes before others
abbrev pub sizes_with : List CellSize → Result (List CellSize) MirEvalError → Result (List CellSize) MirEvalError
sizes_with done (Ok rest) = Ok (done ++ rest)
sizes_with done (Err e) = Err e

-- one more size before others
with-one : (done : List CellSize) (size : CellSize) (rest : Result (List CellSize) MirEvalError) → sizes_with (done ++ size ∷ []) rest ≡ sizes_with done (size_before size rest)
with-one done size (Ok rest) = ap Ok (append_assoc done (size ∷ []) rest)
with-one done size (Err e) = refl

-- the sizes so far before those of the locals that are left at a place are all sizes
abbrev pub Sized : HirDatabase → (all : List Local) → (done : List CellSize) → (i : ℕ) → Type 0
Sized world all done i = sizes_with done (sizes_of world (drop i all)) ≡ sizes_of world all

module _ (world : HirDatabase) (all : List Local) (done : List CellSize) (i : ℕ) where
  split : (local : Local) → i < length all → local ≡ get_or all i local → drop i all ≡ local ∷ drop (i + 1) all
  split local less is =
      let next : suc i ≡ i + 1 = omega arith in
      drop-cons all i local less ∙ ap (λ (n : ℕ). get_or all i local ∷ drop n all) next ∙ ap (λ (x : Local). x ∷ drop (i + 1) all) (sym is)

  step : (local : Local) (r : Result CellSize MirEvalError) → cell_size_of local.ty (layout_of world local.ty) ≡ r →
      sizes_of world (local ∷ drop (i + 1) all) ≡ elim r [ Ok size ↦ size_before size (sizes_of world (drop (i + 1) all)) | Err e ↦ Err e ]
  unfolding sizes_of
  step local r is = ap (λ (c : Result CellSize MirEvalError). elim c [ Ok size ↦ size_before size (sizes_of world (drop (i + 1) all)) | Err e ↦ Err e ]) is

  -- the next size
  pub sized-next : (local : Local) (size : CellSize) → i < length all → local ≡ get_or all i local → cell_size_of local.ty (layout_of world local.ty) ≡ Ok size →
      Sized world all done i → Sized world all (done ++ size ∷ []) (i + 1)
  sized-next local size less is found sized =
      with-one done size (sizes_of world (drop (i + 1) all))
      ∙ ap (sizes_with done) (sym (step local (Ok size) found) ∙ ap (sizes_of world) (sym (split local less is)))
      ∙ sized

  -- a local that can have no cell refuses all
  pub sized-refused : (local : Local) (e : MirEvalError) → i < length all → local ≡ get_or all i local → cell_size_of local.ty (layout_of world local.ty) ≡ Err e →
      Sized world all done i → sizes_of world all ≡ Err e
  sized-refused local e less is refused sized =
      sym sized ∙ ap (sizes_with done) (ap (sizes_of world) (split local less is) ∙ step local (Err e) refused)

  -- none is left
  pub sized-last : length all ≤ i → Sized world all done i → sizes_of world all ≡ Ok done
  unfolding sizes_of
  sized-last none sized =
      sym sized ∙ ap (λ (rest : List Local). sizes_with done (sizes_of world rest)) (drop_all i all none) ∙ ap Ok (append-nil done)
