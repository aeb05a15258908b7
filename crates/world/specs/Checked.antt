-- The facts that hold of a checked world.
use Rattle.std.specs.Prelude.{◌≡◌, ℕ, ◌*◌, ◌^◌, ◌<◌, ◌≤◌, length, Option, Some, None, slice_get, All, IfSome}
use Rattle.world.specs.declared.body.Body.{Body}
use Rattle.world.specs.declared.expr.Expr.{Expr}
use Rattle.world.specs.declared.pat.Pat.{Pat}
use Rattle.world.specs.declared.database.BodyRow.{BodyRow}
use Rattle.world.specs.declared.items.ConstRow.{ConstRow}
use Rattle.world.specs.declared.database.HirDatabase.{HirDatabase}
use Rattle.world.specs.declared.infer.InferenceResult.{InferenceResult}
use Rattle.world.specs.declared.layout.Layout.{Layout}
use Rattle.types.specs.declared.scalars.IntTy.{IntTy}
use Rattle.types.specs.declared.scalars.IntTy.TheVariants as int
use Rattle.types.specs.declared.scalars.UintTy.{UintTy}
use Rattle.types.specs.declared.scalars.UintTy.TheVariants as uint
use Rattle.types.specs.declared.ty.Ty.{Ty, Bool, Char, Int, Uint}
use Rattle.world.specs.Lookups.{expr_of}
use Rattle.world.specs.Nodes.{children_of, inner_exprs_of, patterns_of}

-- a typed body whose nodes are in order: each has a type, and an expression comes after those that it holds, and after those that
-- the patterns hold which it holds
pub record IsCheckedBody (body : Body) (infer : InferenceResult) : Type 0 where
  pub root : body.body_expr.0 < length body.exprs
  pub expr_types : length infer.expr_types ≡ length body.exprs
  pub pat_types : length infer.pat_types ≡ length body.pats
  pub binding_types : length infer.binding_types ≡ length body.bindings
  pub children : (e : ℕ) (node : Expr) → expr_of body e ≡ Some node → All (λ child. child < e) (children_of node)
  pub inside : (e : ℕ) (node : Expr) (k p : ℕ) (pat : Pat) → expr_of body e ≡ Some node → slice_get (patterns_of node) k ≡ Some p → slice_get body.pats p ≡ Some pat →
      All (λ inner. inner < e) (inner_exprs_of pat)

-- how many bytes an integer type has
abbrev pub int_bytes : IntTy → ℕ
int_bytes int.I8 = 1
int_bytes int.I16 = 2
int_bytes int.I32 = 4
int_bytes int.I64 = 8
int_bytes int.I128 = 16
int_bytes int.Isize = 8

abbrev pub uint_bytes : UintTy → ℕ
uint_bytes uint.U8 = 1
uint_bytes uint.U16 = 2
uint_bytes uint.U32 = 4
uint_bytes uint.U64 = 8
uint_bytes uint.U128 = 16
uint_bytes uint.Usize = 8

-- the size that a type has in every world, where it has one
abbrev pub fixed_size : Ty → Option ℕ
fixed_size Bool = Some 1
fixed_size Char = Some 4
fixed_size (Int ty) = Some (int_bytes ty)
fixed_size (Uint ty) = Some (uint_bytes ty)
fixed_size _ = None

-- an alignment: a power of two up to 8192
abbrev pub IsAlignment : ℕ → Type 0
IsAlignment align = (k : ℕ) × (k ≤ 13) × (align ≡ 2 ^ k)

-- a type's layout is as every target has it
pub record IsCheckedLayout (ty : Ty) (layout : Layout) : Type 0 where
  pub align : IsAlignment layout.align
  pub multiple : (k : ℕ) × (layout.size ≡ k * layout.align)
  pub size : IfSome (fixed_size ty) (λ size. layout.size ≡ size)

-- a constant's crate and body are rows of their tables
pub record IsCheckedConst (world : HirDatabase) (row : ConstRow) : Type 0 where
  pub krate : row.krate.0 < length world.crates
  pub body : IfSome row.body (λ body. body < length world.bodies)

-- the facts of a checked world that evaluation rests on
pub record IsChecked (world : HirDatabase) : Type 0 where
  pub consts : (i : ℕ) (row : ConstRow) → slice_get world.consts i ≡ Some row → IsCheckedConst world row
  pub bodies : (i : ℕ) (row : BodyRow) → slice_get world.bodies i ≡ Some row → IsCheckedBody row.body row.infer
  pub layouts : (i : ℕ) (row : Ty × Layout) → slice_get world.layouts i ≡ Some row → IsCheckedLayout row.0 row.1
