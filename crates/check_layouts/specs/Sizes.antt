-- Sizes that the form of a type fixes, on all 64-bit targets.
use Rattle.std.specs.Prelude.{ℕ, Bool, true, false, not, take, Option, Some, None}
use Rattle.std.specs.Option.{option_map}
use Rattle.types.specs.Orders.{ty_cmp}
use Rattle.types.specs.Places.{row_at}
use Rattle.types.specs.declared.ids.AdtId.TheVariants as adt
use Rattle.types.specs.declared.ty.ComplexMemoryMap.{ComplexMemoryMap}
use Rattle.types.specs.declared.ty.Const.{Const}
use Rattle.types.specs.declared.ty.Const.TheOpen as one
use Rattle.types.specs.declared.ty.GenericArg.{GenericArg}
use Rattle.types.specs.declared.ty.GenericArgs.{GenericArgs}
use Rattle.types.specs.declared.ty.MemoryMap.{MemoryMap}
use Rattle.types.specs.declared.ty.TraitRef.{TraitRef}
use Rattle.types.specs.declared.ty.Ty.{Ty, Ty-F, out-Ty}
use Rattle.types.specs.declared.ty.UnevaluatedConst.{UnevaluatedConst}
use Rattle.types.specs.declared.ty.ValueConst.{ValueConst}
use Rattle.world.specs.Checked.{int_bytes, uint_bytes}
use Rattle.world.specs.Lookups.{layout_of}
use Rattle.world.specs.declared.database.HirDatabase.{HirDatabase}
use Rattle.world.specs.declared.layout.Layout.{Layout}

-- the outermost layer of a type: its variant of `Ty`, with the parts
abbrev pub TyLayer : Type 0
TyLayer = Ty-F Const GenericArg MemoryMap Ty ComplexMemoryMap GenericArgs TraitRef UnevaluatedConst ValueConst

-- an optional layout is there, and is that of an unsized type
abbrev pub is_unsized : Option Layout → Bool
is_unsized None = false
is_unsized (Some layout) = not layout.sized

-- a pointer to a type is wide: it has a length or a vtable beside the address
abbrev pub is_wide : HirDatabase → Ty → Bool
is_wide world ty = wide (out-Ty ty)
  where
    wide : TyLayer → Bool
    wide one.Str = true
    wide (one.Slice element) = true
    wide (one.Dynamic bounds) = true
    wide (one.Adt (adt.StructId id) args) = is_unsized (layout_of world ty)
    wide _ = false

abbrev pub pointer_size : Bool → ℕ
pointer_size true = 16
pointer_size false = 8

-- the size that the variant of a type, with that of what it points to, fixes; none for any other type
abbrev pub known_size : HirDatabase → Ty → Option ℕ
known_size world ty = known (out-Ty ty)
  where
    known : TyLayer → Option ℕ
    known one.Bool = Some 1
    known one.Char = Some 4
    known (one.Int int) = Some (int_bytes int)
    known (one.Uint uint) = Some (uint_bytes uint)
    known one.Never = Some 0
    known (one.FnDef id args) = Some 0
    known (one.Ref to mutability) = Some (pointer_size (is_wide world to))
    known (one.RawPtr to mutability) = Some (pointer_size (is_wide world to))
    known (one.FnPtr params ret) = Some 8
    known _ = None

-- the layout of a type in one of the first i rows
abbrev pub layout_above : HirDatabase → ℕ → Ty → Option Layout
layout_above world i ty = option_map (λ row. row.1) (row_at {R = Ty × Layout} (λ row. row.0) (ty_cmp ty) (take i world.layouts))
