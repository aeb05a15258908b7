-- Sizes of the cells of locals have alignments.
use Rattle.std.proofs.Common.{◌≡◌, List, [], ◌∷◌, Option, Some, None, Result, Ok, Err, Bool, true, false, refl, subst}
use Rattle.std.specs.Prelude.{All, if◌then◌else◌}
use Rattle.std.proofs.lemmas.List.Elements.{All-cons, All-nil}
use Rattle.world.specs.Checked.{IsAlignment}
use Rattle.world.specs.declared.database.HirDatabase.{HirDatabase}
use Rattle.world.specs.declared.layout.Layout.{Layout}
use Rattle.world.specs.Lookups.{layout_of}
use Rattle.types.specs.declared.ty.Ty.{Ty}
use Rattle.mir.specs.declared.address.CellSize.{CellSize}
use Rattle.mir.specs.declared.body.Local.{Local}
use Rattle.mir.specs.declared.errors.MirEvalError.{MirEvalError}
use Rattle.mir.specs.Memory.{cell_size_of, size_before, sizes_of}
use Rattle.mir_rows.specs.Alignments.{HasAlignments}
use Rattle.mir_rows.proofs.Alignments.{is_alignment}

abbrev pub Aligned : CellSize → Type 0
Aligned cell = IsAlignment cell.align

-- the layout of a type with a size
if-ok : (sized : Bool) (one size : CellSize) (e : MirEvalError) → (if sized then Ok one else Err e) ≡ Ok size → one ≡ size
if-ok true one size e is = cc
if-ok false one size e is = absurd cc

module _ (world : HirDatabase) (aligned : HasAlignments world) where
  -- the size of a local's cell
  one-aligned : (ty : Ty) (found : Option Layout) (size : CellSize) → layout_of world ty ≡ found → cell_size_of ty found ≡ Ok size → IsAlignment size.align
  unfolding cell_size_of
  one-aligned ty None size there is = absurd cc
  one-aligned ty (Some layout) size there is =
      subst (λ (s : CellSize). IsAlignment s.align) (if-ok layout.sized (record { size = layout.size; align = layout.align }) size _ is) (is_alignment world ty layout aligned there)

  -- the sizes of the cells of locals
  pub sizes_aligned : (locals : List Local) (sizes : List CellSize) → sizes_of world locals ≡ Ok sizes → All Aligned sizes
  unfolding sizes_of
  sizes_aligned [] sizes is = let same : [] ≡ sizes = cc in subst (All Aligned) same (All-nil Aligned)
  sizes_aligned (local ∷ locals) sizes is = by (cell_size_of local.ty (layout_of world local.ty)) refl (sizes_of world locals) refl is (sizes_aligned locals) where
    by : (one : Result CellSize MirEvalError) → cell_size_of local.ty (layout_of world local.ty) ≡ one → (others : Result (List CellSize) MirEvalError) → sizes_of world locals ≡ others →
        ◌≡◌ {A = Result (List CellSize) MirEvalError} (elim one [ Ok size ↦ size_before size others | Err e ↦ Err e ]) (Ok sizes) → ((rest : List CellSize) → sizes_of world locals ≡ Ok rest → All Aligned rest) → All Aligned sizes
    by (Ok size) found (Ok rest) there is others =
        let same : size ∷ rest ≡ sizes = cc in
        subst (All Aligned) same (All-cons Aligned size rest (one-aligned local.ty (layout_of world local.ty) size refl found) (others rest there))
    by (Ok size) found (Err e) there is others = absurd cc
    by (Err e) found more there is others = absurd cc
